-- The payloads of TO2.ProveOVHdr and TO2.SetupDevice (FIDO Device Onboard 1.1, sections 5.5.3 and 5.5.7).
use Rattle.std.specs.Prelude.{ℕ, List, [], ◌∷◌, ◌++◌, Option, Some, None}
use Rattle.cbor_core.specs.declared.item.Item.{out-Item}
use Rattle.cbor_core.specs.declared.item.Item.TheVariants as items
use Rattle.cbor_core.specs.Deterministic.{det}
use Rattle.cbor_core.specs.Shapes.{four_spots}
use Rattle.cbor_core.specs.Spots.{Spot, spot_item, spot_raw, bytes_in}
use Rattle.key_codec.specs.Fault.{ok_of}
use Rattle.key_codec.specs.Hash.{hash_in, item_of_hash}
use Rattle.key_codec.specs.Key.{key_in, item_of_key}
use Rattle.key_codec.specs.SigInfo.{sig_info_in, item_of_sig_info}
use Rattle.voucher_chain.specs.Fault.{◌>>=◌}
use Rattle.voucher_chain.specs.Header.{guid_in as sixteen_in}
use Rattle.voucher_chain.specs.RvInfo.{rv_in, item_of_rv}
use Rattle.voucher_chain.specs.Voucher.{header_inside}
use Rattle.fdo_msgs.specs.declared.header_payload.HeaderPayload.{HeaderPayload}
use Rattle.fdo_msgs.specs.declared.setup_payload.SetupPayload.{SetupPayload}
use Rattle.fdo_msgs.specs.Row.{inside}
use Rattle.fdo_msgs.specs.Value.{u8_in, u16_in, eight_spots, row_text}

-- ---- TO2.ProveOVHdr: the header, the number of entries, the HMAC, NonceTO2ProveOV, the signature information, the owner's
-- half of the key exchange, the hash of TO2.HelloDevice, and the most bytes of a message

abbrev pub header_of : Spot × Spot × Spot × Spot × Spot × Spot × Spot × Spot → Option HeaderPayload
header_of p =
    header_inside (spot_item p.0) >>= λ header. u8_in (spot_item p.1) >>= λ entries. ok_of (hash_in (spot_item p.2)) >>= λ hmac. sixteen_in (spot_item p.3) >>= λ nonce.
    ok_of (sig_info_in (spot_item p.4)) >>= λ sig. bytes_in (out-Item (spot_item p.5)) >>= λ xa. ok_of (hash_in (spot_item p.6)) >>= λ hello. u16_in (spot_item p.7) >>= λ size.
    Some (record { header = header; entries = entries; hmac = hmac; hmac_raw = spot_raw p.2; nonce = nonce; sig = sig; xa = xa; hello_hash = hello; max_size = size })

abbrev pub header_seen : Spot → Option HeaderPayload
header_seen s = eight_spots s >>= header_of

-- what a payload says, to its end
unfoldable pub header_in : List ℕ → Option HeaderPayload
header_in payload = inside payload >>= header_seen

abbrev pub front_texts : HeaderPayload → List (List ℕ)
front_texts h = det (items.Bytes h.header.raw) ∷ det (items.Uint h.entries) ∷ h.hmac_raw ∷ det (items.Bytes h.nonce) ∷ []

abbrev pub rest_texts : HeaderPayload → List (List ℕ)
rest_texts h = det (item_of_sig_info h.sig) ∷ det (items.Bytes h.xa) ∷ det (item_of_hash h.hello_hash) ∷ det (items.Uint h.max_size) ∷ []

abbrev pub header_text : HeaderPayload → List ℕ
header_text h = row_text (front_texts h ++ rest_texts h)

-- ---- TO2.SetupDevice: rendezvous information, Guid, NonceTO2SetupDv and Owner2Key

abbrev pub setup_of : Spot × Spot × Spot × Spot → Option SetupPayload
setup_of p =
    rv_in (spot_item p.0) >>= λ rv. sixteen_in (spot_item p.1) >>= λ guid. sixteen_in (spot_item p.2) >>= λ nonce. ok_of (key_in (spot_item p.3)) >>= λ key.
    Some (record { rv = rv; guid = guid; nonce = nonce; key = key })

abbrev pub setup_seen : Spot → Option SetupPayload
setup_seen s = four_spots s >>= setup_of

unfoldable pub setup_in : List ℕ → Option SetupPayload
setup_in payload = inside payload >>= setup_seen

abbrev pub setup_text : SetupPayload → List ℕ
setup_text p = row_text (det (item_of_rv p.rv) ∷ det (items.Bytes p.guid) ∷ det (items.Bytes p.nonce) ∷ det (item_of_key p.key) ∷ [])
