-- Signed bodies (FIDO Device Onboard 1.1, sections 5.3.3, 5.4.3, 5.5.3, 5.5.6 and 5.5.7): which message an envelope says, by
-- its payload and its unprotected header, and where it is at fault.
use Rattle.std.specs.Prelude.{ℕ, List, Bool, false, is_some, min, Option, Some, None, option_map, if◌then◌else◌}
use Rattle.cbor_core.specs.declared.item.Item.{out-Item}
use Rattle.cbor_core.specs.Shapes.{is_map, four_spots, labelled_at}
use Rattle.cbor_core.specs.Spots.{Spot, spot_item, spot_raw, bytes_in}
use Rattle.cose_envelopes.specs.declared.sign1.Sign1.{Sign1}
use Rattle.cose_envelopes.specs.Envelope.{sign1_in}
use Rattle.cose_envelopes.specs.Places.{content_at, is_protected}
use Rattle.key_codec.specs.declared.key.PublicKey.{PublicKey}
use Rattle.key_codec.specs.Fault.{ok_of}
use Rattle.key_codec.specs.Key.{key_in}
use Rattle.key_codec.specs.Places.{key_place}
use Rattle.voucher_chain.specs.Fault.{◌>>=◌, place_or}
use Rattle.voucher_chain.specs.Header.{guid_in as sixteen_in}
use Rattle.fdo_msgs.specs.declared.header_payload.HeaderPayload.{HeaderPayload}
use Rattle.fdo_msgs.specs.declared.msg.Msg.{Msg}
use Rattle.fdo_msgs.specs.declared.msg.Msg.TheVariants as msg
use Rattle.fdo_msgs.specs.declared.signed.Signed.{Signed}
use Rattle.fdo_msgs.specs.declared.signed.Signed.TheVariants as signed
use Rattle.fdo_msgs.specs.Claims.{prove_dv_label, owner_key_label, setup_dv_label, proof_in, device_proof_in, owner_claims_in, device_claims_in}
use Rattle.fdo_msgs.specs.Payloads.{header_in, setup_in}
use Rattle.fdo_msgs.specs.To1d.{redirect_in, to1d_of}

-- ---- which message an envelope says

-- TO1.ProveToRV
abbrev pub prove_to_rv : Sign1 → Option Msg
prove_to_rv sign = proof_in sign.payload >>= λ proof. Some (msg.ProveToRv proof.0 proof.1 sign)

-- TO2.ProveOVHdr
abbrev pub shown : Sign1 → List ℕ × PublicKey → HeaderPayload → Msg
shown sign claims h = msg.ProveOvHdr h.header h.entries h.hmac h.hmac_raw h.nonce h.sig h.xa h.hello_hash h.max_size claims.0 claims.1 sign

abbrev pub prove_ov_hdr : Sign1 → Option Msg
prove_ov_hdr sign = owner_claims_in sign.unprotected >>= λ claims. header_in sign.payload >>= λ h. Some (shown sign claims h)

-- TO2.ProveDevice
abbrev pub prove_device : Sign1 → Option Msg
prove_device sign = device_claims_in sign.unprotected >>= λ setup. device_proof_in sign.payload >>= λ proof. Some (msg.ProveDevice proof.0 proof.1 proof.2 setup sign)

-- TO2.SetupDevice
abbrev pub setup_device : Sign1 → Option Msg
setup_device sign = setup_in sign.payload >>= λ p. Some (msg.SetupDevice p.rv p.guid p.nonce p.key sign)

-- the message that an envelope says, whose bytes are as they were received
abbrev pub signed_msg : Signed → List ℕ → Sign1 → Option Msg
signed_msg signed.ProveToRv raw sign = prove_to_rv sign
signed_msg signed.RvRedirect raw sign = option_map msg.RvRedirect (to1d_of raw sign)
signed_msg signed.ProveOvHdr raw sign = prove_ov_hdr sign
signed_msg signed.ProveDevice raw sign = prove_device sign
signed_msg signed.SetupDevice raw sign = setup_device sign

-- the message of a signed body that stands at a place
abbrev pub signed_seen : Signed → Spot → Option Msg
signed_seen which s = sign1_in (spot_item s) >>= signed_msg which (spot_raw s)

-- ---- where one is at fault

-- a payload that says what it has to
abbrev pub is_payload_of : Signed → List ℕ → Bool
is_payload_of signed.ProveToRv payload = is_some (proof_in payload)
is_payload_of signed.RvRedirect payload = is_some (redirect_in payload)
is_payload_of signed.ProveOvHdr payload = is_some (header_in payload)
is_payload_of signed.ProveDevice payload = is_some (device_proof_in payload)
is_payload_of signed.SetupDevice payload = is_some (setup_in payload)

abbrev pub is_payload_in : Signed → Option (List ℕ) → Bool
is_payload_in which None = false
is_payload_in which (Some payload) = is_payload_of which payload

-- the earlier of two faults
abbrev pub earlier : Option ℕ → Option ℕ → Option ℕ
earlier None fault = fault
earlier (Some place) None = Some place
earlier (Some place) (Some other) = Some (min place other)

abbrev pub nonce_fault : Spot → Option ℕ
nonce_fault s = if is_some (sixteen_in (spot_item s)) then None else Some s.at

abbrev pub key_fault : Spot → Option ℕ
key_fault s = if is_some (ok_of (key_in (spot_item s))) then None else Some (key_place s)

-- an unprotected header that lacks a label is at fault itself; of wrong values the first one counts
abbrev pub owner_claims_fault : ℕ → Option Spot → Option Spot → Option ℕ
owner_claims_fault at (Some nonce) (Some key) = earlier (nonce_fault nonce) (key_fault key)
owner_claims_fault at _ _ = Some at

abbrev pub device_claims_fault : ℕ → Option Spot → Option ℕ
device_claims_fault at (Some nonce) = nonce_fault nonce
device_claims_fault at None = Some at

abbrev pub claims_fault : Signed → Spot → Option ℕ
claims_fault signed.ProveOvHdr s = owner_claims_fault s.at (labelled_at prove_dv_label s) (labelled_at owner_key_label s)
claims_fault signed.ProveDevice s = device_claims_fault s.at (labelled_at setup_dv_label s)
claims_fault _ s = if is_map (out-Item (spot_item s)) then None else Some s.at

abbrev pub later_place : Signed → Spot → Spot → ℕ
later_place which payload sig = if is_payload_in which (bytes_in (out-Item (spot_item payload))) then sig.at else payload.at

abbrev pub signed_parts_place : Signed → ℕ → Option (Spot × Spot × Spot × Spot) → ℕ
signed_parts_place which at None = at
signed_parts_place which at (Some parts) =
    if is_protected parts.0 then place_or (later_place which parts.2 parts.3) (claims_fault which parts.1)
    else parts.0.at

abbrev pub signed_content_place : Signed → Spot → ℕ
signed_content_place which s = signed_parts_place which s.at (four_spots s)

unfoldable pub signed_place : Signed → Spot → ℕ
signed_place which s = signed_content_place which (content_at 18 s)

abbrev pub redirect_place : Spot → ℕ
redirect_place s = signed_place signed.RvRedirect s
