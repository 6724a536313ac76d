-- What the area that counts says.
use Rattle.std.proofs.Common.{◌≡◌, ℕ, ◌+◌, List, ◌∷◌, length, Bool, Some, Result, Ok, Err, sym, ap, subst, ◌∙◌, arith}
use Rattle.journal.specs.Records.{walk}
use Rattle.journal.specs.Areas.{Standing, base_of}
use Rattle.journal.specs.Found.{standing_read}
use Rattle.journal.specs.declared.areas.Areas.{Areas}
use Rattle.journal.specs.declared.open_area.OpenArea.{OpenArea}
use Rattle.voucher_map.specs.declared.kept.Kept.{Kept}
use Rattle.voucher_store.specs.Read.{◌>>=◌, placed, det_at, Blames, Reads, IsPlaced}
use Rattle.voucher_store.specs.Snapshot.{snapshot_at}
use Rattle.voucher_store.specs.Records.{records_in}
use Rattle.voucher_store.specs.Image.{checked, bodies_in, map_in}
use Rattle.voucher_store.specs.Bodies.{bodies_of}
use Rattle.voucher_store.specs.declared.fault.ImageFault.{ImageFault}
use Rattle.voucher_store.specs.declared.fault.ImageFault.TheVariants as image

-- ---- the bodies

pub snapshot_cut : (place : ℕ) (snapshot : List ℕ) (records : List (List ℕ)) (fault at : ImageFault) → Blames (det_at snapshot_at snapshot) fault → IsPlaced (place + 0) fault at → Blames (bodies_in place (snapshot ∷ records)) at
snapshot_cut place snapshot records fault image.NoMemory says is = tt
snapshot_cut place snapshot records image.NoMemory (image.Foreign at) says is = absurd is
snapshot_cut place snapshot records (image.Foreign p) (image.Foreign at) says is =
    ap (λ (r : Result (List Kept) ℕ). placed place r >>= λ entries. records_in (place + length snapshot) entries records) says ∙ ap Err (sym (is ∙ omega arith))

bodies_are : (place : ℕ) (snapshot : List ℕ) (records : List (List ℕ)) (entries : List Kept) → det_at snapshot_at snapshot ≡ Ok entries → bodies_in place (snapshot ∷ records) ≡ records_in (place + length snapshot) entries records
bodies_are place snapshot records entries says = ap (λ (r : Result (List Kept) ℕ). placed place r >>= λ entries. records_in (place + length snapshot) entries records) says

pub records_said : (place : ℕ) (snapshot : List ℕ) (records : List (List ℕ)) (entries after : List Kept) → det_at snapshot_at snapshot ≡ Ok entries → records_in (place + length snapshot) entries records ≡ Ok after → bodies_in place (snapshot ∷ records) ≡ Ok after
records_said place snapshot records entries after says more = bodies_are place snapshot records entries says ∙ more

pub records_cut : (place : ℕ) (snapshot : List ℕ) (records : List (List ℕ)) (entries : List Kept) (fault : ImageFault) → det_at snapshot_at snapshot ≡ Ok entries → Blames (records_in (place + length snapshot) entries records) fault → Blames (bodies_in place (snapshot ∷ records)) fault
records_cut place snapshot records entries image.NoMemory says more = tt
records_cut place snapshot records entries (image.Foreign at) says more = bodies_are place snapshot records entries says ∙ more

-- ---- the area

module _ (areas : Areas) (limit : ℕ) (found : OpenArea) where
  place : ℕ
  place = base_of areas found.side + 13

  abbrev standing : Standing
  standing = standing_read areas found

  bodies_same : bodies_of (base_of areas found.side + 13) found ≡ standing.area.bodies
  bodies_same = ap (λ p. found.snapshot.now ∷ (walk (length found.records.now) p found.records.now).bodies) (omega arith)

  pub found_said : (entries : List Kept) (p : ℕ) (one : Bool) (r : _) → bodies_in (base_of areas found.side + 13) (bodies_of (base_of areas found.side + 13) found) ≡ Ok entries
      → p ≡ standing.area.place → one ≡ standing.area.one → Reads (checked limit (base_of areas found.side + areas.room) p one entries) r → Reads (map_in areas limit (Some standing)) r
  found_said entries p one r says place_is one_is read =
      subst (λ told. Reads told r)
      (sym (ap (λ b. bodies_in (base_of areas found.side + 13) b >>= checked limit (base_of areas found.side + areas.room) standing.area.place standing.area.one) (sym bodies_same)
      ∙ ap (λ (t : Result (List Kept) ℕ). t >>= checked limit (base_of areas found.side + areas.room) standing.area.place standing.area.one) says
      ∙ ap (λ q. checked limit (base_of areas found.side + areas.room) q standing.area.one entries) (sym place_is)
      ∙ ap (λ o. checked limit (base_of areas found.side + areas.room) p o entries) (sym one_is))) read

  pub found_cut : (fault : ImageFault) → Blames (bodies_in (base_of areas found.side + 13) (bodies_of (base_of areas found.side + 13) found)) fault → Blames (map_in areas limit (Some standing)) fault
  found_cut image.NoMemory says = tt
  found_cut (image.Foreign at) says =
      ap (λ b. bodies_in (base_of areas found.side + 13) b >>= checked limit (base_of areas found.side + areas.room) standing.area.place standing.area.one) (sym bodies_same)
      ∙ ap (λ (t : Result (List Kept) ℕ). t >>= checked limit (base_of areas found.side + areas.room) standing.area.place standing.area.one) says

  -- where its base is known by another name
  pub found_from : (base : ℕ) (entries : List Kept) (p : ℕ) (one : Bool) (r : Result (List Kept) ImageFault) → base ≡ base_of areas found.side
      → bodies_in (base + 13) (bodies_of (base + 13) found) ≡ Ok entries
      → p ≡ (walk (length found.records.now) (base + (13 + length found.snapshot.now)) found.records.now).place
      → one ≡ (walk (length found.records.now) (base + (13 + length found.snapshot.now)) found.records.now).one
      → Reads (checked limit (base + areas.room) p one entries) r → Reads (map_in areas limit (Some standing)) r
  found_from base entries p one r is =
      subst (λ b. bodies_in (b + 13) (bodies_of (b + 13) found) ≡ Ok entries
      → p ≡ (walk (length found.records.now) (b + (13 + length found.snapshot.now)) found.records.now).place
      → one ≡ (walk (length found.records.now) (b + (13 + length found.snapshot.now)) found.records.now).one
      → Reads (checked limit (b + areas.room) p one entries) r → Reads (map_in areas limit (Some standing)) r)
      (sym is) (found_said entries p one r)
