-- What is read can be kept again.
use Rattle.std.proofs.Common.{◌≡◌, ℕ, ◌<◌, List, [], ◌∷◌, ◌++◌, length, true, sym, subst, arith}
use Rattle.std.proofs.lemmas.List.{length-append}
use Rattle.voucher_chain.specs.Reading.{IsVoucher}
use Rattle.voucher_chain.specs.declared.voucher.Voucher.{Voucher}
use Rattle.voucher_map.specs.declared.kept.Kept.{Kept}
use Rattle.voucher_store.specs.Snapshot.{is_new}
use Rattle.voucher_store.specs.Records.{changed, Applied}
use Rattle.voucher_store.specs.Writing.{IsSound, IsSoundEntry, IsMap, IsSpelt}
use Rattle.voucher_store.specs.declared.change.Change.{Change}
use Rattle.voucher_store.proofs.GuidLaws.{more}
use Rattle.voucher_store.proofs.ChangeLaws.{changed_map}

pub sound_is : (bytes : List ℕ) (v : Voucher) → IsVoucher bytes v → v.raw ≡ bytes → IsSound v
sound_is bytes v is raw = subst (λ b. IsVoucher b v) (sym raw) is

pub no_map : IsMap []
no_map = record { sound = tt; few = omega arith }

pub more_map : (es : List Kept) (e : Kept) → IsMap es → length es < 4096 → IsSoundEntry e → is_new es e ≡ true → IsMap (es ++ e ∷ [])
more_map es e is few sound new = record { sound = more es e is.sound sound new; few = omega (arith, few, length-append es (e ∷ [])) }

pub applied_map : (c : Change) (es after : List Kept) → IsMap es → IsSpelt c → Applied (changed c es) true after → IsMap after
applied_map c es after is spelt says = changed_map c es after is spelt says
