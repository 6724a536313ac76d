-- What a rendezvous server keeps for devices, by their Guids (FIDO Device Onboard 1.1, section 5.4).
use Rattle.std.specs.Prelude.{◌≡◌, ℕ, List, [], ◌∷◌, length, Bool, true, false, ◌==◌, ◌&&◌, ◌||◌, not, nat_lt, if◌then◌else◌, Option, is_some, Result, Ok, Err}
use Rattle.std.specs.List.{filter}
use Rattle.std.specs.Option.{option_and_then}
use Rattle.std.specs.Cmp.Lexicographic.{pointwise}
use Rattle.std.specs.Map.{lookup}
use Rattle.std.specs.declared.option.Option.TheVariants.{Some, None}
use Rattle.indexmap.specs.IndexMap.{insert_entry}
use Rattle.registry.specs.declared.registry.RegisterFault.{RegisterFault}
use Rattle.registry.specs.declared.registry.RegisterFault.TheVariants as faults
use Rattle.registry.specs.declared.registry.Registration.{Registration}

-- at most so many
abbrev pub most_registrations : ℕ
most_registrations = 4096

abbrev pub is_guid : List ℕ → List ℕ → Bool
is_guid guid other = pointwise ◌==◌ guid other

module _ {T : Type 0} where
  -- it has ended where the present second is not below its end
  abbrev pub lives : ℕ → Registration T → Bool
  lives now registration = nat_lt now registration.end

  abbrev pub if_living : ℕ → Registration T → Option T
  if_living now registration = if lives now registration then Some registration.value else None

  -- what is registered for a Guid
  abbrev pub found : ℕ → List ℕ → List (List ℕ × Registration T) → Option T
  found now guid entries = option_and_then (if_living now) (lookup (is_guid guid) entries)

  -- those that have not ended
  abbrev pub living : ℕ → List (List ℕ × Registration T) → List (List ℕ × Registration T)
  living now entries = filter (λ entry. lives now entry.1) entries

  abbrev pub all_living : ℕ → List (List ℕ × Registration T) → Bool
  all_living now [] = true
  all_living now (entry ∷ entries) = lives now entry.1 && all_living now entries

  -- one for the Guid is there, or fewer than may be kept
  abbrev pub has_place : List ℕ → List (List ℕ × Registration T) → Bool
  has_place guid entries = is_some (lookup (is_guid guid) entries) || nat_lt (length entries) most_registrations

  -- no place is left, and none of the registrations has ended
  abbrev pub is_full : ℕ → List ℕ → List (List ℕ × Registration T) → Bool
  is_full now guid entries = not (has_place guid entries) && all_living now entries

  -- where no place is left, those that have ended leave theirs
  abbrev pub with_place : ℕ → List ℕ → List (List ℕ × Registration T) → List (List ℕ × Registration T)
  with_place now guid entries = if has_place guid entries then entries else living now entries

  -- a registration takes the place of one for its Guid
  abbrev pub registered : ℕ → List ℕ → Registration T → List (List ℕ × Registration T) → List (List ℕ × Registration T)
  registered now guid registration entries = insert_entry is_guid (with_place now guid entries) guid registration

  -- a registration is made, or there is no place for it, or memory ran out
  abbrev pub Registers : {U : Type 0} → ℕ → List ℕ → Registration T → List (List ℕ × Registration T) → Result U RegisterFault → List (List ℕ × Registration T) → Type 0
  Registers now guid registration old (Ok _) new = (is_full now guid old ≡ false) × (new ≡ registered now guid registration old)
  Registers now guid registration old (Err faults.Full) new = (is_full now guid old ≡ true) × (new ≡ old)
  Registers now guid registration old (Err faults.NoMemory) new = (is_full now guid old ≡ false) × (new ≡ with_place now guid old)
