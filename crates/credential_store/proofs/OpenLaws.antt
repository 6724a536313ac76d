-- What an opening reads and leaves.
use Rattle.std.proofs.Common.{◌≡◌, ◌⊎◌, inl, inr, ℕ, ◌+◌, List, [], ◌∷◌, ◌++◌, length, take, drop, Bool, true, false, IsTrue, if◌then◌else◌, Option, None, Some, Result, Ok, Err, refl, ap, sym, ◌∙◌, subst, arith}
use Rattle.std.proofs.lemmas.List.{take_all, take_at}
use Rattle.fdo_ports.specs.declared.failed.Failed.{Failed}
use Rattle.disk_port.specs.Story.{Synced, Story, seen, with_events}
use Rattle.disk_port.specs.Crash.{Leaves}
use Rattle.disk_port.specs.Told.{Told, IfTold, rests, Copies, Syncs}
use Rattle.disk_port.specs.Gated.{gated}
use Rattle.disk_port.specs.Moments.{Moments, Steps}
use Rattle.disk_port.specs.Slots.{body_of, base, stands, payload, next_change, change_after, changed, IsBeforeOrAfter, IsChanged, Changes}
use Rattle.disk_port.specs.declared.next_change.NextChange.{NextChange}
use Rattle.disk_port.proofs.Stepping.{only, moments_none, moments_one, steps_map, steps_then}
use Rattle.voucher_chain.specs.declared.credential.Credential.{Credential}
use Rattle.credential_store.specs.Body.{body_at, body_of_credential}
use Rattle.credential_store.specs.Image.{credential_slots, placed, content_of, credential_at, change_events, commit_events, Commits, is_old, renewal, open_events, Opens, Renews, Holds}
use Rattle.credential_store.specs.Store.{IsLoaded, IsReady, Loads, Refuses, IsForeign, IsOwn}
use Rattle.credential_store.specs.Loading.{ready_events, MakesReady}
use Rattle.credential_store.specs.declared.fault.OpenFault.{OpenFault}
use Rattle.credential_store.specs.declared.fault.OpenFault.TheVariants as opening
use Rattle.credential_store.specs.declared.loading.Loaded.{Loaded}
use Rattle.credential_store.specs.declared.loading.Ready.{Ready}

-- all that stands there is copied
copied_all : (bytes into into' : List ℕ) (n : ℕ) → length into ≡ length bytes → Copies 0 into into' n bytes → take n into' ≡ bytes
copied_all bytes into into' n long copies =
    let all : n ≡ length bytes = omega (arith, copies.count, long) in
    let front : take n bytes ≡ bytes = take_all n bytes (omega (arith, all)) in
    ap (take n) (copies.copied ∙ ap (λ b. b ++ drop n into) front) ∙ take_at bytes (drop n into) n (sym all)

pub read_whole : (o : Option Story) (into into' : List ℕ) (n l : ℕ) → length into ≡ l → IfTold (λ s. l ≡ length (seen s)) o → IfTold (λ s. Copies 0 into into' n (seen s)) o → IfTold (λ s. take n into' ≡ seen s) o
read_whole None into into' n l long length_is copies = tt
read_whole (Some s) into into' n l long length_is copies = copied_all (seen s) into into' n (long ∙ length_is) copies

-- ---- the content by what stands there

pub same_content : (c d : List ℕ) → stands credential_slots c ≡ stands credential_slots d → credential_at c ≡ credential_at d
unfolding credential_at
same_content c d is = ap (content_of credential_slots) is

pub changed_content : (c body : List ℕ) (change : NextChange) (credential : Credential) → stands credential_slots c ≡ Some (changed change body) → body ≡ body_of_credential credential → body_at (body_of_credential credential) ≡ Ok credential → credential_at c ≡ Ok (Some credential)
unfolding credential_at
changed_content c body change credential is body_is back =
    ap (content_of credential_slots) is ∙ ap (placed (base credential_slots change.side + 13)) (ap body_at body_is ∙ back)

-- ---- a change of the file

module _ (credential : Credential) (next : NextChange) (body : List ℕ) (body_is : body ≡ body_of_credential credential) (back : body_at (body_of_credential credential) ≡ Ok credential) where
  either : (before c : List ℕ) → IsBeforeOrAfter credential_slots next body before c → (credential_at c ≡ credential_at before) ⊎ (credential_at c ≡ Ok (Some credential))
  either before c (inl same) = inl (same_content c before same)
  either before c (inr new) = inr (changed_content c body next credential new body_is back)

  events_are : (image : List ℕ) → next ≡ next_change credential_slots image → gated (base credential_slots next.side) next.shut (payload next.generation body) ≡ commit_events (Some credential) image
  unfolding commit_events
  events_are image is = ap (λ b. change_events credential_slots next b) body_is ∙ ap (λ n. change_events credential_slots n (body_of_credential credential)) is

  commit_story : {T E : Type 0} (r : Result T E) (s s' : Story) → next ≡ next_change credential_slots (seen s) → Changes credential_slots next body r s s' → Commits (Some credential) r s s'
  commit_story r s s' is steps =
      subst (λ events. Steps (λ c. (credential_at c ≡ credential_at (seen s)) ⊎ (credential_at c ≡ Ok (Some credential))) events r s s') (events_are (seen s) is)
      (steps_map (IsBeforeOrAfter credential_slots next body (seen s)) (λ c. (credential_at c ≡ credential_at (seen s)) ⊎ (credential_at c ≡ Ok (Some credential)))
      (gated (base credential_slots next.side) next.shut (payload next.generation body)) r s s' (either (seen s)) steps)

  pub committed : (o o' : Option Story) (r : Result NextChange Failed) → IfTold (λ s. next ≡ next_change credential_slots (seen s)) o → Told (Changes credential_slots next body r) o o' → Told (Commits (Some credential) r) o o'
  committed None o' r is told = told
  committed (Some s) o' r is told = (told.0, told.1, commit_story r s told.0 is told.2)

  pub holds_after : (o' : Option Story) → IfTold (λ s. IsChanged credential_slots next body (change_after next) (seen s)) o' → Holds o' (Some credential)
  holds_after None is = tt
  holds_after (Some s) is = changed_content (seen s) body next credential is.now_stands body_is back

  pub next_after : (o' : Option Story) → IfTold (λ s. IsChanged credential_slots next body (change_after next) (seen s)) o' → IfTold (λ s. next_change credential_slots (seen s) ≡ change_after next) o'
  next_after None is = tt
  next_after (Some s) is = is.now_next

  -- the content is written anew
  to_same : (before c : List ℕ) → credential_at before ≡ Ok (Some credential) → (credential_at c ≡ credential_at before) ⊎ (credential_at c ≡ Ok (Some credential)) → credential_at c ≡ credential_at before
  to_same before c is (inl same) = same
  to_same before c is (inr new) = new ∙ sym is

  renew_story : {T E : Type 0} (r : Result T E) (s s' : Story) → next ≡ next_change credential_slots (seen s) → credential_at (seen s) ≡ Ok (Some credential) → Changes credential_slots next body r s s' → Renews credential r s s'
  renew_story r s s' is holds steps =
      steps_map (λ c. (credential_at c ≡ credential_at (seen s)) ⊎ (credential_at c ≡ Ok (Some credential))) (λ c. credential_at c ≡ credential_at (seen s)) (commit_events (Some credential) (seen s)) r s s'
      (λ c. to_same (seen s) c holds) (commit_story r s s' is steps)

  pub renewed : (o o' : Option Story) (r : Result NextChange Failed) → IfTold (λ s. next ≡ next_change credential_slots (seen s)) o → Holds o (Some credential) → Told (Changes credential_slots next body r) o o' → Told (Renews credential r) o o'
  renewed None o' r is holds told = told
  renewed (Some s) o' r is holds told = (told.0, told.1, renew_story r s told.0 is holds told.2)

-- nothing is written
pub renews_nothing : (o : Option Story) (credential : Credential) → rests o ≡ true → Told (Renews {T = Ready} {E = OpenFault} credential (Err opening.NoMemory)) o o
renews_nothing None credential rest = refl
renews_nothing (Some s) credential rest = (
  s,
  refl,
  record {
    moments = moments_none (λ c. credential_at c ≡ credential_at (seen s)) s (λ c left. ap credential_at (only s.image s.events c rest left));
    done = tt;
  },
)

-- ---- loading

pub loaded_bytes : (o : Option Story) (image : List ℕ) (l : Loaded) → IfTold (λ s. image ≡ seen s) o → IsLoaded l.credential l.next l.old image → IfTold (λ s. IsLoaded l.credential l.next l.old (seen s)) o
loaded_bytes None image l is loaded = tt
loaded_bytes (Some s) image l is loaded = subst (IsLoaded l.credential l.next l.old) is loaded

pub foreign_bytes : (o : Option Story) (image : List ℕ) (fault : OpenFault) → IfTold (λ s. image ≡ seen s) o → IsForeign image fault → Refuses fault o
foreign_bytes o image opening.Disk is foreign = tt
foreign_bytes None image (opening.Foreign place) is foreign = tt
foreign_bytes (Some s) image (opening.Foreign place) is foreign = ap credential_at (sym is) ∙ foreign
foreign_bytes o image opening.NoMemory is foreign = tt

pub own_refuses : (o : Option Story) (fault : OpenFault) → IsOwn fault → Refuses fault o
own_refuses o opening.Disk own = tt
own_refuses o (opening.Foreign place) own = absurd own
own_refuses o opening.NoMemory own = tt

-- a sync leaves what is read
pub synced_loaded : (o o₁ : Option Story) (l : Loaded) → Told (Syncs {T = Unit {0}} {E = Failed} (Ok tt)) o o₁ → IfTold (λ s. IsLoaded l.credential l.next l.old (seen s)) o₁ → IfTold (λ s. IsLoaded l.credential l.next l.old (seen s)) o
synced_loaded None o₁ l told is = tt
synced_loaded (Some s) o₁ l told is =
    let at : IfTold (λ s. IsLoaded l.credential l.next l.old (seen s)) (Some told.0) = subst (IfTold (λ s. IsLoaded l.credential l.next l.old (seen s))) told.1 is in
    subst (IsLoaded l.credential l.next l.old) (ap seen told.2) at

pub synced_refuses : (o o₁ : Option Story) (fault : OpenFault) → Told (Syncs {T = Unit {0}} {E = Failed} (Ok tt)) o o₁ → Refuses fault o₁ → Refuses fault o
synced_refuses o o₁ opening.Disk told is = tt
synced_refuses None o₁ (opening.Foreign place) told is = tt
synced_refuses (Some s) o₁ (opening.Foreign place) told is =
    let at : Refuses (opening.Foreign place) (Some told.0) = subst (Refuses (opening.Foreign place)) told.1 is in
    ap credential_at (sym (ap seen told.2)) ∙ at
synced_refuses o o₁ opening.NoMemory told is = tt

synced_loads : (r : Result Loaded OpenFault) (s s' : Story) → s' ≡ with_events (Synced ∷ []) s → Loads r s s'
synced_loads (Err opening.Disk) s s' is = inr is
synced_loads (Err (opening.Foreign place)) s s' is = is
synced_loads (Err opening.NoMemory) s s' is = is
synced_loads (Ok l) s s' is = is

pub synced_told : (o o₁ o₂ : Option Story) (r : Result Loaded OpenFault) → Told (Syncs {T = Unit {0}} {E = Failed} (Ok tt)) o o₁ → o₂ ≡ o₁ → Told (Loads r) o o₂
synced_told None o₁ o₂ r told same = same ∙ told
synced_told (Some s) o₁ o₂ r told same = (told.0, same ∙ told.1, synced_loads r s told.0 told.2)

pub unsynced_told : (o o₁ : Option Story) (e : Failed) → Told (Syncs {T = Unit {0}} {E = Failed} (Err e)) o o₁ → Told (Loads {T = Loaded} (Err opening.Disk)) o o₁
unsynced_told None o₁ e told = told
unsynced_told (Some s) o₁ e told = told

-- ---- opening

abbrev Opening : Story → List ℕ → Type 0
Opening s c = Leaves s.image s.events c ⊎ (credential_at c ≡ credential_at (seen s))

none_moved : (s : Story) → Moments (Opening s) s s
none_moved s = moments_none (Opening s) s (λ c left. inl left)

synced_moved : (s : Story) → Moments (Opening s) s (with_events (Synced ∷ []) s)
synced_moved s = moments_one (Opening s) Synced s (λ c left. inl left) (λ c is. inr (ap credential_at is))

load_moved : (fault : OpenFault) (s s' : Story) → Loads {T = Loaded} (Err fault) s s' → Moments (Opening s) s s'
load_moved opening.Disk s s' (inl same) = subst (Moments (Opening s) s) (sym same) (none_moved s)
load_moved opening.Disk s s' (inr is) = subst (Moments (Opening s) s) (sym is) (synced_moved s)
load_moved (opening.Foreign place) s s' is = subst (Moments (Opening s) s) (sym is) (synced_moved s)
load_moved opening.NoMemory s s' is = subst (Moments (Opening s) s) (sym is) (synced_moved s)

pub load_refused : (o o' : Option Story) (fault : OpenFault) → Told (Loads {T = Loaded} (Err fault)) o o' → Told (Opens {T = Ready} {E = OpenFault} (Err fault)) o o'
load_refused None o' fault told = told
load_refused (Some s) o' fault told = (told.0, told.1, record { moments = load_moved fault s told.0 told.2; done = tt })

commit_none : (image : List ℕ) → commit_events None image ≡ []
unfolding commit_events
commit_none image = refl

told_map : (P Q : List ℕ → Type 0) (o : Option Story) → ((image : List ℕ) → P image → Q image) → IfTold (λ s. P (seen s)) o → IfTold (λ s. Q (seen s)) o
told_map P Q None to is = tt
told_map P Q (Some s) to is = to (seen s) is

pub ready_loaded : (o : Option Story) (l : Loaded) → rests o ≡ true → IfTold (λ s. IsLoaded l.credential l.next l.old (seen s)) o → IsReady o l.credential l.next
ready_loaded o l rest is = record {
  rested = rest;
  next_right = told_map (IsLoaded l.credential l.next l.old) (λ image. next_change credential_slots image ≡ l.next) o (λ image loaded. loaded.next_right) is;
  content = told_map (IsLoaded l.credential l.next l.old) (λ image. credential_at image ≡ Ok l.credential) o (λ image loaded. loaded.content) is;
}

pub content_loaded : (o : Option Story) (l : Loaded) → IfTold (λ s. IsLoaded l.credential l.next l.old (seen s)) o → Holds o l.credential
content_loaded o l is = told_map (IsLoaded l.credential l.next l.old) (λ image. credential_at image ≡ Ok l.credential) o (λ image loaded. loaded.content) is

pub next_loaded : (o : Option Story) (l : Loaded) → IfTold (λ s. IsLoaded l.credential l.next l.old (seen s)) o → IfTold (λ s. l.next ≡ next_change credential_slots (seen s)) o
next_loaded o l is = told_map (IsLoaded l.credential l.next l.old) (λ image. l.next ≡ next_change credential_slots image) o (λ image loaded. sym loaded.next_right) is

-- nothing has to be written
nothing_made : (l : Loaded) (image : List ℕ) → (l.old ≡ false) ⊎ (l.credential ≡ None) → ready_events l image ≡ []
nothing_made l image (inl current) = ap (λ b. if b then commit_events l.credential image else []) current
nothing_made l image (inr none) = by l.old
  where
    nothing : commit_events l.credential image ≡ []
    nothing = ap (λ c. commit_events c image) none ∙ commit_none image

    by : (b : Bool) → (if b then commit_events l.credential image else []) ≡ []
    by true = nothing
    by false = refl

pub makes_nothing : (o : Option Story) (l : Loaded) (r : Ready) → (l.old ≡ false) ⊎ (l.credential ≡ None) → rests o ≡ true → Told (MakesReady {T = Ready} {E = OpenFault} l (Ok r)) o o
makes_nothing None l r plain rest = refl
makes_nothing (Some s) l r plain rest = (
  s,
  refl,
  record {
    moments = moments_none (λ c. credential_at c ≡ credential_at (seen s)) s (λ c left. ap credential_at (only s.image s.events c rest left));
    done = ap (λ events. with_events events s) (sym (nothing_made l (seen s) plain));
  },
)

-- a body of version 1 is written anew
made_story : (l : Loaded) (credential : Credential) (r : Result Ready OpenFault) (s s' : Story) → l.credential ≡ Some credential → l.old ≡ true → Renews credential r s s' → MakesReady l r s s'
made_story l credential r s s' is old steps =
    subst (λ events. Steps (λ c. credential_at c ≡ credential_at (seen s)) events r s s')
    (sym (ap (λ b. if b then commit_events l.credential (seen s) else []) old ∙ ap (λ c. commit_events c (seen s)) is)) steps

pub made_ready : (o o' : Option Story) (l : Loaded) (credential : Credential) (r : Result Ready OpenFault) → l.credential ≡ Some credential → l.old ≡ true → Told (Renews credential r) o o' → Told (MakesReady l r) o o'
made_ready None o' l credential r is old told = told
made_ready (Some s) o' l credential r is old told = (told.0, told.1, made_story l credential r s told.0 is old told.2)

pub loaded_rests : (o o' : Option Story) (l : Loaded) → Told (Loads {T = Loaded} (Ok l)) o o' → rests o' ≡ true
loaded_rests None o' l told = ap rests told
loaded_rests (Some s) o' l told = ap rests (told.1 ∙ ap Some told.2)

pub loaded_there : (o o' : Option Story) (l : Loaded) → Told (Loads {T = Loaded} (Ok l)) o o' → IfTold (λ s. IsLoaded l.credential l.next l.old (seen s)) o → IfTold (λ s. IsLoaded l.credential l.next l.old (seen s)) o'
loaded_there None o' l told is = subst (IfTold (λ s. IsLoaded l.credential l.next l.old (seen s))) (sym told) tt
loaded_there (Some s) o' l told is = subst (IfTold (λ s. IsLoaded l.credential l.next l.old (seen s))) (sym told.1) (subst (IsLoaded l.credential l.next l.old) (sym (ap seen told.2)) is)

-- both
events_loaded : (l : Loaded) (image : List ℕ) → IsLoaded l.credential l.next l.old image → ready_events l image ++ Synced ∷ [] ≡ open_events image
events_loaded l image is =
    ap (λ b. (if b then commit_events l.credential image else []) ++ Synced ∷ []) is.old_right
    ∙ sym (ap (λ r. (if is_old (stands credential_slots image) then renewal r image else []) ++ Synced ∷ []) is.content)

opened_story : (l : Loaded) (r : Result Ready OpenFault) (s m n : Story) → IsLoaded l.credential l.next l.old (seen s) → m ≡ with_events (Synced ∷ []) s → MakesReady l r m n → Opens r s n
opened_story l r s m n is synced steps =
    let same : seen m ≡ seen s = ap seen synced in
    subst (λ events. Steps (Opening s) events r s n) (ap (λ image. ready_events l image ++ Synced ∷ []) same ∙ events_loaded l (seen s) is)
    (steps_then (Opening s) (Synced ∷ []) (ready_events l (seen m)) first r s m n
    (record { moments = subst (Moments (Opening s) s) (sym synced) (synced_moved s); done = synced })
    (steps_map (λ c. credential_at c ≡ credential_at (seen m)) (Opening s) (ready_events l (seen m)) r m n (λ c is. inr (is ∙ ap credential_at same)) steps))
  where
    first : Ready
    first = record { credential = None; next = l.next }

pub opened : (o o₁ o₂ : Option Story) (l : Loaded) (r : Result Ready OpenFault) → Told (Loads {T = Loaded} (Ok l)) o o₁ → IfTold (λ s. IsLoaded l.credential l.next l.old (seen s)) o → Told (MakesReady l r) o₁ o₂ → Told (Opens r) o o₂
opened None o₁ o₂ l r loads is makes = subst (λ o. Told (MakesReady l r) o o₂) loads makes
opened (Some s) o₁ o₂ l r loads is makes =
    let z : Told (MakesReady l r) (Some loads.0) o₂ = subst (λ o. Told (MakesReady l r) o o₂) loads.1 makes in
    (z.0, z.1, opened_story l r s loads.0 z.0 is loads.2 z.2)

-- ---- a change as a renewal

renews_ok : (credential : Credential) (n : NextChange) (x : Ready) (o o' : Option Story) → Told (Renews {T = NextChange} {E = Failed} credential (Ok n)) o o' → Told (Renews {T = Ready} {E = OpenFault} credential (Ok x)) o o'
renews_ok credential n x None o' told = told
renews_ok credential n x (Some s) o' told = (told.0, told.1, record { moments = told.2.moments; done = told.2.done })

renews_err : (credential : Credential) (e : Failed) (x : OpenFault) (o o' : Option Story) → Told (Renews {T = NextChange} {E = Failed} credential (Err e)) o o' → Told (Renews {T = Ready} {E = OpenFault} credential (Err x)) o o'
renews_err credential e x None o' told = told
renews_err credential e x (Some s) o' told = (told.0, told.1, record { moments = told.2.moments; done = tt })

module _ (credential : Credential) (next : NextChange) (bytes : List ℕ) (body_is : body_of bytes ≡ body_of_credential credential) (back : body_at (body_of_credential credential) ≡ Ok credential) (o o' : Option Story) (is : IfTold (λ s. next ≡ next_change credential_slots (seen s)) o) (holds : Holds o (Some credential)) where
  pub renewed_ok : (n : NextChange) (x : Ready) → Told (Changes {T = NextChange} {E = Failed} credential_slots next (body_of bytes) (Ok n)) o o' → Told (Renews {T = Ready} {E = OpenFault} credential (Ok x)) o o'
  renewed_ok n x told = renews_ok credential n x o o' (renewed credential next (body_of bytes) body_is back o o' (Ok n) is holds told)

  pub renewed_err : (e : Failed) (x : OpenFault) → Told (Changes {T = NextChange} {E = Failed} credential_slots next (body_of bytes) (Err e)) o o' → Told (Renews {T = Ready} {E = OpenFault} credential (Err x)) o o'
  renewed_err e x told = renews_err credential e x o o' (renewed credential next (body_of bytes) body_is back o o' (Err e) is holds told)

pub ready_after : (credential : Credential) (next n : NextChange) (bytes : List ℕ) (o' : Option Story) → body_of bytes ≡ body_of_credential credential → body_at (body_of_credential credential) ≡ Ok credential → IsTrue (rests o') → n ≡ change_after next → IfTold (λ s. IsChanged credential_slots next (body_of bytes) (change_after next) (seen s)) o' → IsReady o' (Some credential) n
ready_after credential next n bytes o' body_is back rest n_is changed = record {
  rested = rest;
  next_right = told_map (λ image. next_change credential_slots image ≡ change_after next) (λ image. next_change credential_slots image ≡ n) o' (λ image same. same ∙ sym n_is) (next_after credential next (body_of bytes) body_is back o' changed);
  content = holds_after credential next (body_of bytes) body_is back o' changed;
}
