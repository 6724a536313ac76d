-- What the changes of an entry leave as it was.
use Rattle.std.specs.Prelude.{◌≡◌, ℕ, List, [], ◌∷◌, ◌++◌, true, Some, None}
use Rattle.voucher_map.specs.Map.{names, entry_of, set_entry, put_entry}
use Rattle.voucher_map.specs.declared.kept.Kept.{Kept}

-- two lists differ in one entry alone, the first that a GUID names
pub record DifferInOne (guid : List ℕ) (old new : Kept) (before after : List Kept) : Type 0 where
  pub front : List Kept
  pub back : List Kept
  pub was : before ≡ front ++ old ∷ back
  pub is : after ≡ front ++ new ∷ back
  pub named : names guid old ≡ true
  pub first : entry_of guid front ≡ None

-- whatever stands under a GUID: another in its place leaves all others as they were
abbrev pub ChangesOneAlone : Type 0
ChangesOneAlone = (guid : List ℕ) (old new : Kept) (entries : List Kept) → entry_of guid entries ≡ Some old →
    DifferInOne guid old new entries (set_entry guid new entries) × DifferInOne guid old new entries (put_entry guid new entries)

-- and where nothing does, one is added behind the others, or nothing changes
abbrev pub AddsOneLast : Type 0
AddsOneLast = (guid : List ℕ) (new : Kept) (entries : List Kept) → entry_of guid entries ≡ None →
    (put_entry guid new entries ≡ entries ++ new ∷ []) × (set_entry guid new entries ≡ entries)
