-- Messages whose voucher has at most 255 entries.
use Rattle.std.specs.Prelude.{◌≤◌, length}
use Rattle.fdo_msgs.specs.declared.msg.Msg.{Msg}
use Rattle.fdo_msgs.specs.declared.msg.Msg.TheVariants as msg

abbrev pub HasFew : Msg → Type 0
HasFew (msg.OwnerSign to0d voucher wait nonce to1d) = length voucher.entries ≤ 255
HasFew m = Unit {0}
