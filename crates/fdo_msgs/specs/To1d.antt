-- Where an owner is, under its key (FIDO Device Onboard 1.1, section 5.3.3, "to1d"): a Sign1 whose payload is an array of
-- addresses and the hash of to0d.
use Rattle.std.specs.Prelude.{ℕ, List, [], ◌∷◌, Option, Some, None, option_map}
use Rattle.cbor_core.specs.declared.item.Item.{Item}
use Rattle.cbor_core.specs.Deterministic.{det}
use Rattle.cbor_core.specs.Shapes.{two_spots}
use Rattle.cbor_core.specs.Spots.{Spot, spot_item, spot_raw}
use Rattle.cose_envelopes.specs.declared.sign1.Sign1.{Sign1}
use Rattle.cose_envelopes.specs.Envelope.{sign1_in}
use Rattle.hash_hmac.specs.declared.hash.Hash.{Hash}
use Rattle.key_codec.specs.Fault.{ok_of}
use Rattle.key_codec.specs.Hash.{hash_in, item_of_hash}
use Rattle.voucher_chain.specs.Fault.{◌>>=◌}
use Rattle.fdo_msgs.specs.declared.addr.AddrEntry.{AddrEntry}
use Rattle.fdo_msgs.specs.declared.to1d.To1d.{To1d}
use Rattle.fdo_msgs.specs.Addr.{addrs_in, item_of_addrs}
use Rattle.fdo_msgs.specs.Row.{inside}
use Rattle.fdo_msgs.specs.Value.{row_text}

abbrev pub redirect_of : Spot × Spot → Option (List AddrEntry × Hash)
redirect_of p = addrs_in (spot_item p.0) >>= λ addrs. ok_of (hash_in (spot_item p.1)) >>= λ hash. Some (addrs, hash)

abbrev pub redirect : Spot → Option (List AddrEntry × Hash)
redirect s = two_spots s >>= redirect_of

-- what a payload says, to its end
unfoldable pub redirect_in : List ℕ → Option (List AddrEntry × Hash)
redirect_in payload = inside payload >>= redirect

abbrev pub to1d_made : List ℕ → Sign1 → List AddrEntry × Hash → To1d
to1d_made raw sign parts = record { raw = raw; addrs = parts.0; to0d_hash = parts.1; sign = sign }

-- the to1d that an envelope is, whose bytes are as they were received
abbrev pub to1d_of : List ℕ → Sign1 → Option To1d
to1d_of raw sign = option_map (to1d_made raw sign) (redirect_in sign.payload)

abbrev pub to1d_by : Item → List ℕ → Option To1d
to1d_by x raw = sign1_in x >>= to1d_of raw

-- the one that stands at a place
unfoldable pub to1d_seen : Spot → Option To1d
to1d_seen s = to1d_by (spot_item s) (spot_raw s)

-- ---- writing

abbrev pub redirect_text : List AddrEntry → Hash → List ℕ
redirect_text addrs hash = row_text (det (item_of_addrs addrs) ∷ det (item_of_hash hash) ∷ [])
