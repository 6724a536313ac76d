-- Signature information that is written is read.
use Rattle.std.proofs.Common.{◌≡◌, ℕ, ℤ, List, Result, Ok, Err, refl, ap, ◌∙◌}
use Rattle.std.specs.Prelude.{IfOk}
use Rattle.cbor_core.specs.declared.item.Item.{Item}
use Rattle.cbor_core.specs.declared.item.Item.TheVariants as items
use Rattle.key_codec.specs.declared.fault.KeyFault.{KeyFault}
use Rattle.key_codec.specs.declared.sig_info.SigInfo.{SigInfo}
use Rattle.key_codec.specs.Fault.{◌>>=◌, Says}
use Rattle.key_codec.specs.Parts.{two_in, bytes_in, number_in}
use Rattle.key_codec.proofs.Binds.{bind_ok, ok_is}
use Rattle.key_codec.proofs.Said.{two_said, number_said, bytes_said, pair_item, says_as}
use Rattle.cbor_core.specs.Numbers.{item_of_integer, IsI64}
use Rattle.key_codec.specs.SigInfo.{sig_info_in, item_of_sig_info}
use Rattle.key_codec.proofs.Back.{number_back, bytes_back, two_back}

pub sig_info_back : (sig : SigInfo) → IsI64 sig.kind → sig_info_in (item_of_sig_info sig) ≡ Ok sig
unfolding sig_info_in
sig_info_back sig h = rw (two_back (item_of_integer sig.kind) (items.Bytes sig.info), number_back sig.kind h, bytes_back sig.info) refl

pub sig_info_said : (item : Item) (sig : SigInfo) → sig_info_in item ≡ Ok sig → item ≡ item_of_sig_info sig
unfolding sig_info_in
sig_info_said item sig e =
    let made : ℤ → List ℕ → SigInfo = λ kind info. record { kind = kind; info = info } in
    let p = bind_ok (two_in item) (λ parts. number_in parts.0 >>= λ kind. bytes_in parts.1 >>= λ info. Ok (made kind info)) sig e in
    let k = bind_ok (number_in p.0.0) (λ kind. bytes_in p.0.1 >>= λ info. Ok (made kind info)) sig p.2 in
    let b = bind_ok (bytes_in p.0.1) (λ info. Ok (made k.0 info)) sig k.2 in
    two_said item p.0 p.1 ∙ pair_item p.0.0 (item_of_integer k.0) p.0.1 (items.Bytes b.0) (number_said p.0.0 k.0 k.1) (bytes_said p.0.1 b.0 b.1) ∙ ap item_of_sig_info (ok_is (made k.0 b.0) sig b.2)

pub says_sig_info : (item : Item) (r : Result SigInfo KeyFault) → Says (λ sig. sig) r (sig_info_in item) → IfOk r (λ sig. item ≡ item_of_sig_info sig)
says_sig_info item (Ok sig) h = sig_info_said item sig h
says_sig_info item (Err f) h = tt

pub says_sig_only : (item : Item) (r : Result SigInfo KeyFault) (sig : SigInfo) → Says (λ s. s) r (sig_info_in item) → IsI64 sig.kind → item ≡ item_of_sig_info sig → Says {X = SigInfo} {Y = SigInfo} (λ s. s) r (Ok sig)
says_sig_only item r sig h is e = says_as r (sig_info_in item) (Ok sig) h (ap sig_info_in e ∙ sig_info_back sig is)
