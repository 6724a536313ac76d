-- What is made of a voucher's bytes is read.
use Rattle.std.proofs.Common.{List, ℕ, Result, Ok, Err, IfOk, sym, subst}
use Rattle.key_codec.specs.declared.key.PublicKey.{PublicKey}
use Rattle.voucher_chain.specs.declared.fault.ChainFault.{ChainFault}
use Rattle.voucher_chain.specs.declared.voucher.Voucher.{Voucher}
use Rattle.voucher_chain.specs.Chain.{Verifies}
use Rattle.voucher_chain.specs.Reading.{IsVoucher}
use Rattle.voucher_tool.specs.Longer.{IsRawExtended, IsLonger}

longer_is : (v : Verifies) (bytes : List ℕ) (w : Voucher) (next : PublicKey) (made : List ℕ) → IsVoucher bytes w → IsRawExtended v w next made → IsLonger v bytes next made
longer_is v bytes w next made read x = record {
  voucher = w;
  read = read;
  extended = x;
  again = λ key. subst (λ (b : List ℕ). IsVoucher b x.longer) (sym x.raw) (x.back bytes read key);
}

pub longer_file : (v : Verifies) (bytes : List ℕ) (w : Voucher) (next : PublicKey) (r : Result (List ℕ) ChainFault) → IsVoucher bytes w → IfOk r (IsRawExtended v w next) → IfOk r (IsLonger v bytes next)
longer_file v bytes w next (Ok made) read x = longer_is v bytes w next made read x
longer_file v bytes w next (Err f) read x = tt
