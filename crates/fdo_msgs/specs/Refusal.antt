-- The error message for a cause (FIDO Device Onboard 1.1, message type 255).
use Rattle.std.specs.Prelude.{ℕ, List, Option, unwrap_or}
use Rattle.cbor_core.specs.declared.item.Item.TheVariants as item
use Rattle.fdo_msgs.specs.Said.{body_of}
use Rattle.cbor_core.specs.Shapes.{null}
use Rattle.fdo_msgs.specs.Kind.{error as error_kind}
use Rattle.fdo_msgs.specs.Cause.{code_of, text_of}
use Rattle.fdo_msgs.specs.declared.cause.Cause.{Cause}
use Rattle.fdo_msgs.specs.declared.msg.Msg.TheVariants.{Error}
use Rattle.fdo_msgs.specs.declared.packet.Packet.{Packet}

-- the code, the type of the refused message, the code's text, null and 0
unfoldable pub error_of : Cause → ℕ → Option (List ℕ) → Packet
error_of cause kind token =
    let code = unwrap_or (code_of cause kind) 500 in
    record { token = token; kind = error_kind; body = body_of (Error code kind (text_of code) null (item.Uint 0)) }
