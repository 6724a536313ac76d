-- An area as it is found.
use Rattle.std.proofs.Common.{◌≡◌, ℕ, ◌+◌, ◌≤◌, ◌<◌, List, [], ◌∷◌, length, take, drop, Option, None, Some, refl, ap, sym, ◌∙◌, arith}
use Rattle.disk_port.specs.Slots.{slot}
use Rattle.journal.specs.Records.{walk}
use Rattle.journal.specs.Areas.{Area, area, area_of, area_with, behind_slot}

pub closed_area : (base most : ℕ) (x : List ℕ) → slot most x ≡ None → area base most x ≡ None
unfolding area
closed_area base most x none = ap (area_with base x) none

read : (base most : ℕ) (x : List ℕ) (s : ℕ × List ℕ) → slot most x ≡ Some s → area base most x ≡ behind_slot base s (drop (13 + length s.1) x)
unfolding area
read base most x s is = ap (area_with base x) is

-- no gate stands behind its snapshot
pub cut_area : (base most generation : ℕ) (x snapshot : List ℕ) → slot most x ≡ Some (generation, snapshot) → length (drop (13 + length snapshot) x) ≡ 0 → area base most x ≡ None
cut_area base most generation x snapshot is none = read base most x (generation, snapshot) is ∙ empty (drop (13 + length snapshot) x) none
  where
    empty : (t : List ℕ) → length t ≡ 0 → behind_slot base (generation, snapshot) t ≡ None
    empty [] none = refl
    empty (g ∷ t) none = absurd (omega (arith, none))

pub open_area : (base most generation : ℕ) (x snapshot : List ℕ) → slot most x ≡ Some (generation, snapshot) → 0 < length (drop (13 + length snapshot) x) →
    area base most x ≡ Some (area_of (generation, snapshot) (walk (length (drop (13 + length snapshot) x)) (base + (13 + length snapshot)) (drop (13 + length snapshot) x)))
open_area base most generation x snapshot is some = read base most x (generation, snapshot) is ∙ full (drop (13 + length snapshot) x) some
  where
    full : (t : List ℕ) → 0 < length t → behind_slot base (generation, snapshot) t ≡ Some (area_of (generation, snapshot) (walk (length t) (base + (13 + length snapshot)) t))
    full [] some = absurd (omega arith)
    full (g ∷ t) some = refl
