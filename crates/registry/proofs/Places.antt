-- Where a registration has ended, there is a place once the ended ones are gone.
use Rattle.std.proofs.Common.{◌≡◌, ℕ, ◌+◌, ◌≤◌, ◌<◌, List, [], ◌∷◌, length, Bool, true, false, refl, arith, Option, Result, Ok, Err, IfOk, OnErr}
use Rattle.std.specs.Prelude.{◌||◌, ◌&&◌, cond, if◌then◌else◌, is_some, nat_lt}
use Rattle.std.specs.Map.{lookup}
use Rattle.registry.specs.declared.registry.Registration.{Registration}
use Rattle.registry.specs.Entries.{all_living, has_place, is_guid, lives, living}

module _ {T : Type 0} (now : ℕ) where
  no_more : (es : List (List ℕ × Registration T)) → length (living now es) ≤ length es
  no_more [] = omega arith
  no_more (e ∷ es) = by (lives now e.1) (no_more es) where
    by : (b : Bool) → length (living now es) ≤ length es → length (cond b (e ∷ living now es) (living now es)) ≤ length (e ∷ es)
    by true h = omega (arith, h)
    by false h = omega (arith, h)

  fewer : (es : List (List ℕ × Registration T)) → all_living now es ≡ false → length (living now es) < length es
  fewer [] h = let no = h in cc
  fewer (e ∷ es) h = by (lives now e.1) (fewer es) (no_more es) h where
    by : (b : Bool) → (all_living now es ≡ false → length (living now es) < length es) → length (living now es) ≤ length es
        → (b && all_living now es) ≡ false → length (cond b (e ∷ living now es) (living now es)) < length (e ∷ es)
    by true on short h = let rest = on h in omega (arith, rest)
    by false on short h = omega (arith, short)

  pub placed : (guid : List ℕ) (es : List (List ℕ × Registration T)) → length es ≤ 4096 → all_living now es ≡ false → has_place guid (living now es) ≡ true
  placed guid es most some = by (is_some (lookup (is_guid guid) (living now es))) where
    by : (b : Bool) → (b || nat_lt (length (living now es)) 4096) ≡ true
    by true = refl
    by false = let less = fewer es some in search arith

-- one more has room, or takes the place of another
pub within : (there : Bool) (n m : ℕ) → (there || nat_lt n 4096) ≡ true → n ≤ 4096 → m ≡ n + (if there then 0 else 1) → m ≤ 4096
within true n m place most more = omega (arith, most, more)
within false n m place most more = let less = place in search (arith, less, more)

pub put_within : {X Y E : Type 0} (r : Result (Option X) E) (there : Option X) (es es' : List Y) → (is_some there || nat_lt (length es) 4096) ≡ true → length es ≤ 4096
    → IfOk r (λ old. old ≡ there) → IfOk r (λ old. length es' ≡ length es + (if is_some old then 0 else 1)) → OnErr r (es' ≡ es) → length es' ≤ 4096
put_within (Ok old) there es es' place most is more same = within (is_some old) (length es) (length es') (rw is place) most more
put_within (Err e) there es es' place most is more same = rw same most
