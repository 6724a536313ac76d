-- A new snapshot of some entries.
use Rattle.std.proofs.Common.{◌≡◌, ◌⊎◌, inl, ℕ, ◌+◌, ◌*◌, ◌^◌, ◌≤◌, ◌<◌, List, [], ◌∷◌, length, true, nat_lt, Option, None, Some, Result, Ok, Err, refl, ap, sym, ◌∙◌, subst, arith, IsTrue}
use Rattle.std.proofs.lemmas.Bool.{le-leb}
use Rattle.std.proofs.lemmas.List.{length-append}
use Rattle.fdo_ports.specs.declared.failed.Failed.{Failed}
use Rattle.disk_port.specs.Story.{Event, Story, seen}
use Rattle.disk_port.specs.Told.{Told, IfTold, rests}
use Rattle.disk_port.specs.Gated.{gated}
use Rattle.disk_port.specs.Slots.{payload}
use Rattle.disk_port.specs.declared.next_change.NextChange.{NextChange}
use Rattle.disk_port.proofs.Stepping.{only, moments_none}
use Rattle.journal.specs.Areas.{AreApart, base_of, areas_for}
use Rattle.journal.specs.Changing.{snapshot, Rewrites, IsCurrent, IsFresh, cursor_after_snapshot}
use Rattle.journal.specs.declared.areas.Areas.{Areas}
use Rattle.journal.specs.declared.cursor.Cursor.{Cursor}
use Rattle.voucher_map.specs.Map.{snapshot_length}
use Rattle.voucher_map.specs.declared.kept.Kept.{Kept}
use Rattle.voucher_store.specs.Read.{det_at}
use Rattle.voucher_store.specs.Snapshot.{snapshot_at}
use Rattle.voucher_store.specs.Writing.{body_of_snapshot}
use Rattle.voucher_store.specs.Image.{candidates, map_of}
use Rattle.voucher_store.specs.Changing.{Changes}
use Rattle.voucher_store.specs.Store.{Holds, IsOpen, Fits, snapshot_events}
use Rattle.voucher_store.specs.declared.fault.OpenFault.{OpenFault}
use Rattle.voucher_store.proofs.MapLaws.{snapshot_map, snapshot_changes}

pub areas_apart : (limit : ℕ) → 4096 ≤ limit → AreApart (areas_for limit)
areas_apart limit is = omega (arith, is)

pub snapshot_some : (generation : ℕ) (body bytes : List ℕ) → bytes ≡ snapshot generation body → 0 < length bytes
unfolding snapshot
snapshot_some generation body bytes is = omega (arith, ap length is, length-append (payload generation body) (0 ∷ []))

pub snapshot_short : (limit : ℕ) (change : NextChange) (size : ℕ) (entries : List Kept) → Fits limit change size entries → size < 2 ^ 32
snapshot_short limit change size entries is = omega (arith, is.short)

pub fits_all : (limit : ℕ) (change : NextChange) (size : ℕ) (entries : List Kept) → size ≤ (areas_for limit).most → nat_lt (base_of (areas_for limit) change.side + (13 + size) + 24 * candidates entries) (base_of (areas_for limit) change.side + (areas_for limit).room) ≡ true
    → snapshot_length entries ≤ limit → Fits limit change size entries
fits_all limit change size entries short room within = record { short = short; room = rw (room, le-leb (snapshot_length entries) limit within) refl }

module _ (limit : ℕ) (next : NextChange) (entries : List Kept) (body : List ℕ) (body_is : body ≡ body_of_snapshot entries) (says : det_at snapshot_at body ≡ Ok entries) (fits : Fits limit next (length body) entries) where
  events_are : gated (base_of (areas_for limit) next.side) next.shut (snapshot next.generation body) ≡ snapshot_events limit next entries
  events_are = ap (λ b. gated (base_of (areas_for limit) next.side) next.shut (snapshot next.generation b)) body_is

  module _ (before : List Kept) where
    changes_by : {T E : Type 0} (r : Result T E) (s s' : Story) → map_of limit (seen s) ≡ Ok before → Rewrites (areas_for limit) next body r s s' → Changes limit (snapshot_events limit next entries) before entries r s s'
    changes_by r s s' is steps = subst (λ events. Changes limit events before entries r s s') events_are (snapshot_changes limit next before entries body r s s' is says fits.room steps)

    pub rewritten_ok : (o o' : Option Story) (n x : Cursor) → Holds limit o before → Told (Rewrites {T = Cursor} {E = Failed} (areas_for limit) next body (Ok n)) o o' → Told (Changes {T = Cursor} {E = OpenFault} limit (snapshot_events limit next entries) before entries (Ok x)) o o'
    rewritten_ok None o' n x is told = told
    rewritten_ok (Some s) o' n x is told = let c = changes_by (Ok n) s told.0 is told.2 in (told.0, told.1, record { moments = c.moments; done = c.done })

    pub rewritten_err : (o o' : Option Story) (e : Failed) (x : OpenFault) → Holds limit o before → Told (Rewrites {T = Cursor} {E = Failed} (areas_for limit) next body (Err e)) o o' → Told (Changes {T = Cursor} {E = OpenFault} limit (snapshot_events limit next entries) before entries (Err x)) o o'
    rewritten_err None o' e x is told = told
    rewritten_err (Some s) o' e x is told = let c = changes_by (Err e) s told.0 is told.2 in (told.0, told.1, record { moments = c.moments; done = tt })

  fresh_holds : (o : Option Story) → IfTold (IsFresh (areas_for limit) next body) o → Holds limit o entries
  fresh_holds None is = tt
  fresh_holds (Some s) is = snapshot_map limit (seen s) next entries body says fits.room is.is_fresh

  pub rewritten_open : (now n : Cursor) (o' : Option Story) → now.next ≡ next → IsTrue (rests o') → n ≡ cursor_after_snapshot (areas_for limit) body now → IfTold (IsCurrent (areas_for limit) (cursor_after_snapshot (areas_for limit) body now)) o' → IfTold (IsFresh (areas_for limit) next body) o' → IsOpen limit o' entries n
  rewritten_open now n o' same rest is current fresh = record {
    rested = rest;
    current = subst (λ c. IfTold (IsCurrent (areas_for limit) c) o') (sym is) current;
    content = fresh_holds o' fresh;
  }

-- nothing is written
pub changes_nothing : (limit : ℕ) (events : List Event) (before entries : List Kept) (o : Option Story) (fault : OpenFault) → rests o ≡ true → Holds limit o before → Told (Changes {T = Cursor} {E = OpenFault} limit events before entries (Err fault)) o o
changes_nothing limit events before entries None fault rest is = refl
changes_nothing limit events before entries (Some s) fault rest is = (
  s,
  refl,
  record { moments = moments_none (λ c. (map_of limit c ≡ Ok before) ⊎ (map_of limit c ≡ Ok entries)) s (λ c left. inl (ap (map_of limit) (only s.image s.events c rest left) ∙ is)); done = tt },
)

-- with the areas and the body by other names
module _ (limit : ℕ) (areas : Areas) (areas_is : areas ≡ areas_for limit) (entries : List Kept) (body b1 b3 : List ℕ) (b1_is : b1 ≡ body) (b3_is : b3 ≡ body) (body_is : body ≡ body_of_snapshot entries) (says : det_at snapshot_at body ≡ Ok entries) (now : Cursor) (fits : Fits limit now.next (length b1) entries) where
  b3_body : b3 ≡ body_of_snapshot entries
  b3_body = b3_is ∙ body_is

  b3_says : det_at snapshot_at b3 ≡ Ok entries
  b3_says = ap (det_at snapshot_at) b3_is ∙ says

  b3_fits : Fits limit now.next (length b3) entries
  b3_fits = subst (λ b. Fits limit now.next (length b) entries) (b1_is ∙ sym b3_is) fits

  pub written_ok : (before : List Kept) (o o' : Option Story) (n x : Cursor) → Holds limit o before → Told (Rewrites {T = Cursor} {E = Failed} areas now.next b3 (Ok n)) o o' → Told (Changes {T = Cursor} {E = OpenFault} limit (snapshot_events limit now.next entries) before entries (Ok x)) o o'
  written_ok before o o' n x holds told =
      rewritten_ok limit now.next entries b3 b3_body b3_says b3_fits before o o' n x holds (subst (λ a. Told (Rewrites {T = Cursor} {E = Failed} a now.next b3 (Ok n)) o o') areas_is told)

  pub written_err : (before : List Kept) (o o' : Option Story) (e : Failed) (x : OpenFault) → Holds limit o before → Told (Rewrites {T = Cursor} {E = Failed} areas now.next b3 (Err e)) o o' → Told (Changes {T = Cursor} {E = OpenFault} limit (snapshot_events limit now.next entries) before entries (Err x)) o o'
  written_err before o o' e x holds told =
      rewritten_err limit now.next entries b3 b3_body b3_says b3_fits before o o' e x holds (subst (λ a. Told (Rewrites {T = Cursor} {E = Failed} a now.next b3 (Err e)) o o') areas_is told)

  pub written_open : (n : Cursor) (o' : Option Story) → IsTrue (rests o') → n ≡ cursor_after_snapshot areas b3 now → IfTold (IsCurrent areas (cursor_after_snapshot areas b3 now)) o' → IfTold (IsFresh areas now.next b3) o' → IsOpen limit o' entries n
  written_open n o' rest is current fresh =
      rewritten_open limit now.next entries b3 b3_body b3_says b3_fits now n o' refl rest
      (subst (λ a. n ≡ cursor_after_snapshot a b3 now) areas_is is)
      (subst (λ a. IfTold (IsCurrent a (cursor_after_snapshot a b3 now)) o') areas_is current)
      (subst (λ a. IfTold (IsFresh a now.next b3) o') areas_is fresh)
