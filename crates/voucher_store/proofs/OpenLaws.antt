-- What an opening leaves.
use Rattle.std.proofs.Common.{◌≡◌, ◌⊎◌, inl, inr, ℕ, List, [], ◌∷◌, ◌++◌, true, false, if◌then◌else◌, Option, None, Some, Result, Ok, Err, refl, ap, sym, ◌∙◌, subst}
use Rattle.disk_port.specs.Story.{Synced, Story, seen, with_events}
use Rattle.disk_port.specs.Crash.{Leaves}
use Rattle.disk_port.specs.Told.{Told, IfTold, rests}
use Rattle.disk_port.specs.Moments.{Moments, Steps}
use Rattle.disk_port.proofs.Stepping.{only, moments_none, moments_one, steps_map, steps_then}
use Rattle.journal.specs.Areas.{stands, areas_for}
use Rattle.journal.specs.Changing.{IsCurrent}
use Rattle.journal.specs.declared.cursor.Cursor.{Cursor}
use Rattle.voucher_map.specs.declared.kept.Kept.{Kept}
use Rattle.voucher_store.specs.Image.{map_of}
use Rattle.voucher_store.specs.Changing.{IsBeforeOrAfter, Changes}
use Rattle.voucher_store.specs.Store.{is_old, snapshot_events, renewal, open_events, Opens, Holds, IsLoaded, Loads, IsOpen, ready_events, MakesReady}
use Rattle.voucher_store.specs.declared.fault.OpenFault.{OpenFault}
use Rattle.voucher_store.specs.declared.fault.OpenFault.TheVariants as opening
use Rattle.voucher_store.specs.declared.loading.Loaded.{Loaded}
use Rattle.voucher_store.specs.declared.renewing.Ready.{Ready}
use Rattle.voucher_store.proofs.MapLaws.{map_ready}

module _ (limit : ℕ) where
  abbrev Opening : Story → List ℕ → Type 0
  Opening s c = Leaves s.image s.events c ⊎ (map_of limit c ≡ map_of limit (seen s))

  none_moved : (s : Story) → Moments (Opening s) s s
  none_moved s = moments_none (Opening s) s (λ c left. inl left)

  synced_moved : (s : Story) → Moments (Opening s) s (with_events (Synced ∷ []) s)
  synced_moved s = moments_one (Opening s) Synced s (λ c left. inl left) (λ c is. inr (ap (map_of limit) is))

  load_moved : (fault : OpenFault) (s s' : Story) → Loads {T = Loaded} (Err fault) s s' → Moments (Opening s) s s'
  load_moved opening.Disk s s' (inl same) = subst (Moments (Opening s) s) (sym same) (none_moved s)
  load_moved opening.Disk s s' (inr is) = subst (Moments (Opening s) s) (sym is) (synced_moved s)
  load_moved (opening.Foreign place) s s' is = subst (Moments (Opening s) s) (sym is) (synced_moved s)
  load_moved opening.NoMemory s s' is = subst (Moments (Opening s) s) (sym is) (synced_moved s)

  pub load_refused : (o o' : Option Story) (fault : OpenFault) → Told (Loads {T = Loaded} (Err fault)) o o' → Told (Opens {T = Ready} {E = OpenFault} limit (Err fault)) o o'
  load_refused None o' fault told = told
  load_refused (Some s) o' fault told = (told.0, told.1, record { moments = load_moved fault s told.0 told.2; done = tt })

  told_map : (P Q : List ℕ → Type 0) (o : Option Story) → ((image : List ℕ) → P image → Q image) → IfTold (λ s. P (seen s)) o → IfTold (λ s. Q (seen s)) o
  told_map P Q None to is = tt
  told_map P Q (Some s) to is = to (seen s) is

  module _ (l : Loaded) where
    abbrev There : Option Story → Type 0
    There o = IfTold (λ s. IsLoaded limit l.map l.now l.old (seen s)) o

    pub content_loaded : (o : Option Story) → There o → Holds limit o l.map
    content_loaded o is = told_map (IsLoaded limit l.map l.now l.old) (λ image. map_of limit image ≡ Ok l.map) o (λ image loaded. loaded.content) is

    pub current_loaded : (o : Option Story) → There o → IfTold (IsCurrent (areas_for limit) l.now) o
    current_loaded None is = tt
    current_loaded (Some s) is = record { is = is.now_right; ready = map_ready limit (seen s) l.map is.content }

    pub ready_loaded : (o : Option Story) → rests o ≡ true → There o → IsOpen limit o l.map l.now
    ready_loaded o rest is = record { rested = rest; current = current_loaded o is; content = content_loaded o is }

    pub loaded_rests : (o o' : Option Story) → Told (Loads {T = Loaded} (Ok l)) o o' → rests o' ≡ true
    loaded_rests None o' told = ap rests told
    loaded_rests (Some s) o' told = ap rests (told.1 ∙ ap Some told.2)

    pub loaded_there : (o o' : Option Story) → Told (Loads {T = Loaded} (Ok l)) o o' → There o → There o'
    loaded_there None o' told is = subst There (sym told) tt
    loaded_there (Some s) o' told is = subst There (sym told.1) (subst (IsLoaded limit l.map l.now l.old) (sym (ap seen told.2)) is)

    -- nothing has to be written
    pub makes_nothing : (o : Option Story) (r : Ready) → l.old ≡ false → rests o ≡ true → Told (MakesReady {T = Ready} {E = OpenFault} limit l.map l.now l.old (Ok r)) o o
    makes_nothing None r current rest = refl
    makes_nothing (Some s) r current rest = (
      s,
      refl,
      record {
        moments = moments_none (λ c. map_of limit c ≡ map_of limit (seen s)) s (λ c left. ap (map_of limit) (only s.image s.events c rest left));
        done = ap (λ events. with_events events s) (sym (ap (λ b. if b then snapshot_events limit l.now.next l.map else []) current));
      },
    )

    -- a body of version 1 is written anew
    same_events : l.old ≡ true → snapshot_events limit l.now.next l.map ≡ ready_events limit l.map l.now l.old
    same_events old = sym (ap (λ b. if b then snapshot_events limit l.now.next l.map else []) old)

    made_story : {T E : Type 0} (r : Result T E) (s s' : Story) → l.old ≡ true → map_of limit (seen s) ≡ Ok l.map → Changes limit (snapshot_events limit l.now.next l.map) l.map l.map r s s' → MakesReady limit l.map l.now l.old r s s'
    made_story r s s' old is steps =
        subst (λ events. Steps (λ c. map_of limit c ≡ map_of limit (seen s)) events r s s') (same_events old)
        (steps_map (IsBeforeOrAfter limit l.map l.map) (λ c. map_of limit c ≡ map_of limit (seen s)) (snapshot_events limit l.now.next l.map) r s s' either steps)
      where
        either : (c : List ℕ) → IsBeforeOrAfter limit l.map l.map c → map_of limit c ≡ map_of limit (seen s)
        either c (inl same) = same ∙ sym is
        either c (inr same) = same ∙ sym is

    pub made_ok : (o o' : Option Story) (n : Cursor) (x : Ready) → l.old ≡ true → Holds limit o l.map → Told (Changes {T = Cursor} {E = OpenFault} limit (snapshot_events limit l.now.next l.map) l.map l.map (Ok n)) o o' → Told (MakesReady {T = Ready} {E = OpenFault} limit l.map l.now l.old (Ok x)) o o'
    made_ok None o' n x old is told = told
    made_ok (Some s) o' n x old is told = let m = made_story (Ok n) s told.0 old is told.2 in (told.0, told.1, record { moments = m.moments; done = m.done })

    pub made_err : (o o' : Option Story) (e x : OpenFault) → l.old ≡ true → Holds limit o l.map → Told (Changes {T = Cursor} {E = OpenFault} limit (snapshot_events limit l.now.next l.map) l.map l.map (Err e)) o o' → Told (MakesReady {T = Ready} {E = OpenFault} limit l.map l.now l.old (Err x)) o o'
    made_err None o' e x old is told = told
    made_err (Some s) o' e x old is told = let m = made_story (Err e) s told.0 old is told.2 in (told.0, told.1, record { moments = m.moments; done = tt })

    -- both
    events_loaded : (image : List ℕ) → IsLoaded limit l.map l.now l.old image → ready_events limit l.map l.now l.old ++ Synced ∷ [] ≡ open_events limit image
    events_loaded image is =
        ap (λ b. (if b then snapshot_events limit l.now.next l.map else []) ++ Synced ∷ []) is.old_right
        ∙ ap (λ (n : Cursor). (if is_old (stands (areas_for limit) image) then snapshot_events limit n.next l.map else []) ++ Synced ∷ []) is.now_right
        ∙ sym (ap (λ r. (if is_old (stands (areas_for limit) image) then renewal limit r image else []) ++ Synced ∷ []) is.content)

    opened_story : (r : Result Ready OpenFault) (s m n : Story) → IsLoaded limit l.map l.now l.old (seen s) → m ≡ with_events (Synced ∷ []) s → MakesReady limit l.map l.now l.old r m n → Opens limit r s n
    opened_story r s m n is synced steps =
        let same : seen m ≡ seen s = ap seen synced in
        subst (λ events. Steps (Opening s) events r s n) (events_loaded (seen s) is)
        (steps_then (Opening s) (Synced ∷ []) (ready_events limit l.map l.now l.old) first r s m n
        (record { moments = subst (Moments (Opening s) s) (sym synced) (synced_moved s); done = synced })
        (steps_map (λ c. map_of limit c ≡ map_of limit (seen m)) (Opening s) (ready_events limit l.map l.now l.old) r m n (λ c is. inr (is ∙ ap (map_of limit) same)) steps))
      where
        first : Ready
        first = record { map = l.map; now = l.now }

    pub opened : (o o₁ o₂ : Option Story) (r : Result Ready OpenFault) → Told (Loads {T = Loaded} (Ok l)) o o₁ → There o → Told (MakesReady limit l.map l.now l.old r) o₁ o₂ → Told (Opens limit r) o o₂
    opened None o₁ o₂ r loads is makes = subst (λ o. Told (MakesReady limit l.map l.now l.old r) o o₂) loads makes
    opened (Some s) o₁ o₂ r loads is makes =
        let z : Told (MakesReady limit l.map l.now l.old r) (Some loads.0) o₂ = subst (λ o. Told (MakesReady limit l.map l.now l.old r) o o₂) loads.1 makes in
        (z.0, z.1, opened_story r s loads.0 z.0 is loads.2 z.2)

-- a disk that tells the same
pub open_same : (limit : ℕ) (o o' : Option Story) (entries : List Kept) (now : Cursor) → o' ≡ o → IsOpen limit o entries now → IsOpen limit o' entries now
open_same limit o o' entries now same is = subst (λ o. IsOpen limit o entries now) (sym same) is
