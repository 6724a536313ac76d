-- Signature information (FIDO Device Onboard 1.1, "SigInfo"): an array of a number and bytes.
use Rattle.std.specs.Prelude.{[], ◌∷◌, Result, Ok}
use Rattle.cbor_core.specs.declared.item.Item.{Item}
use Rattle.cbor_core.specs.declared.item.Item.TheVariants as items
use Rattle.key_codec.specs.declared.fault.KeyFault.{KeyFault}
use Rattle.key_codec.specs.declared.sig_info.SigInfo.{SigInfo}
use Rattle.key_codec.specs.Fault.{◌>>=◌}
use Rattle.cbor_core.specs.Numbers.{item_of_integer}
use Rattle.key_codec.specs.Parts.{two_in, bytes_in, number_in}

-- the signature information that an item says
unfoldable pub sig_info_in : Item → Result SigInfo KeyFault
sig_info_in item = two_in item >>= λ parts. number_in parts.0 >>= λ kind. bytes_in parts.1 >>= λ info. Ok (record { kind = kind; info = info })

-- the one item that it is written as
abbrev pub item_of_sig_info : SigInfo → Item
item_of_sig_info sig = items.Array (item_of_integer sig.kind ∷ items.Bytes sig.info ∷ [])
