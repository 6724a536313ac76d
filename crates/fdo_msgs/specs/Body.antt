-- The body of each message type (FIDO Device Onboard 1.1, sections 5.2 to 5.5): the message that stands at a place, or where
-- it is at fault.
use Rattle.std.specs.Prelude.{ℕ, List, ◌==◌, ◌||◌, Bool, Option, Some, None, is_some, if◌then◌else◌}
use Rattle.cbor_core.specs.Spots.{Spot}
use Rattle.cbor_core.specs.Whole.{Shows}
use Rattle.fdo_msgs.specs.declared.msg.Msg.{Msg}
use Rattle.fdo_msgs.specs.declared.shape.Shape.{Shape}
use Rattle.fdo_msgs.specs.declared.signed.Signed.{Signed}
use Rattle.fdo_msgs.specs.declared.signed.Signed.TheVariants as signed
use Rattle.fdo_msgs.specs.Di.{app_start, set_credentials, set_hmac, di_done}
use Rattle.fdo_msgs.specs.Info.{device_info, owner_info}
use Rattle.fdo_msgs.specs.Kind as kind
use Rattle.fdo_msgs.specs.OwnerSign.{owner_sign_seen, owner_sign_place}
use Rattle.fdo_msgs.specs.Row.{shapes_of, row_place}
use Rattle.fdo_msgs.specs.Signed.{signed_seen, signed_place}
use Rattle.fdo_msgs.specs.To0.{hello, hello_ack, accept_owner, hello_rv, hello_rv_ack}
use Rattle.fdo_msgs.specs.To2.{hello_device, get_ov_next_entry, ov_next_entry, device_ready, owner_ready, done, done2, error}

-- the signed body of a type
unfoldable pub signed_of : ℕ → Option Signed
signed_of k =
    if k == kind.prove_to_rv then Some signed.ProveToRv
    else if k == kind.rv_redirect then Some signed.RvRedirect
    else if k == kind.prove_ov_hdr then Some signed.ProveOvHdr
    else if k == kind.prove_device then Some signed.ProveDevice
    else if k == kind.setup_device then Some signed.SetupDevice
    else None

-- ---- the message that stands at a place

unfoldable pub row_seen : ℕ → Spot → Option Msg
row_seen k s =
    if k == kind.app_start then app_start s
    else if k == kind.set_credentials then set_credentials s
    else if k == kind.set_hmac then set_hmac s
    else if k == kind.di_done then di_done s
    else if k == kind.hello then hello s
    else if k == kind.hello_ack then hello_ack s
    else if k == kind.accept_owner then accept_owner s
    else if k == kind.hello_rv then hello_rv s
    else if k == kind.hello_rv_ack then hello_rv_ack s
    else if k == kind.hello_device then hello_device s
    else if k == kind.get_ov_next_entry then get_ov_next_entry s
    else if k == kind.ov_next_entry then ov_next_entry s
    else if k == kind.device_ready then device_ready s
    else if k == kind.owner_ready then owner_ready s
    else if k == kind.device_info then device_info s
    else if k == kind.owner_info then owner_info s
    else if k == kind.done then done s
    else if k == kind.done2 then done2 s
    else if k == kind.error then error s
    else None

abbrev pub signed_or_row : ℕ → Spot → Option Signed → Option Msg
signed_or_row k s (Some which) = signed_seen which s
signed_or_row k s None = row_seen k s

unfoldable pub msg_seen : ℕ → Spot → Option Msg
msg_seen k s = if k == kind.owner_sign then owner_sign_seen s else signed_or_row k s (signed_of k)

-- ---- where a body is at fault that says none

abbrev pub place_of_row : Spot → Option (List Shape) → ℕ
place_of_row s (Some shapes) = row_place shapes s
place_of_row s None = s.at

abbrev pub place_of_signed : ℕ → Spot → Option Signed → ℕ
place_of_signed k s (Some which) = signed_place which s
place_of_signed k s None = place_of_row s (shapes_of k)

unfoldable pub msg_place : ℕ → Spot → ℕ
msg_place k s = if k == kind.owner_sign then owner_sign_place s else place_of_signed k s (signed_of k)

-- ---- all

-- a type whose bodies are read: all 25 of the standard
abbrev pub is_kind : ℕ → Bool
is_kind k = k == kind.owner_sign || (is_some (signed_of k) || is_some (shapes_of k))

-- the bytes are a body of the type that says the message: they spell, to their end, an item, and where it stands is the
-- message
abbrev pub IsBody : ℕ → List ℕ → Msg → Type 0
IsBody kind bytes msg = Shows (msg_seen kind) bytes msg
