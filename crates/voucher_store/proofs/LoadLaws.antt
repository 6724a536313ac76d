-- What an opening reads.
use Rattle.std.proofs.Common.{◌≡◌, inr, ℕ, List, [], ◌∷◌, ◌++◌, length, take, drop, Option, None, Some, Result, Ok, Err, ap, sym, ◌∙◌, subst, arith}
use Rattle.std.proofs.lemmas.List.{take_all, take_at}
use Rattle.fdo_ports.specs.declared.failed.Failed.{Failed}
use Rattle.disk_port.specs.Story.{Synced, Story, seen, with_events}
use Rattle.disk_port.specs.Told.{Told, IfTold, Copies, Syncs}
use Rattle.voucher_store.specs.Image.{map_of}
use Rattle.voucher_store.specs.Store.{IsLoaded, Loads, Refuses, IsForeign, IsOwn}
use Rattle.voucher_store.specs.declared.fault.OpenFault.{OpenFault}
use Rattle.voucher_store.specs.declared.fault.OpenFault.TheVariants as opening
use Rattle.voucher_store.specs.declared.loading.Loaded.{Loaded}

-- all that stands there is copied
copied_all : (bytes into into' : List ℕ) (n : ℕ) → length into ≡ length bytes → Copies 0 into into' n bytes → take n into' ≡ bytes
copied_all bytes into into' n long copies =
    let all : n ≡ length bytes = omega (arith, copies.count, long) in
    let front : take n bytes ≡ bytes = take_all n bytes (omega (arith, all)) in
    ap (take n) (copies.copied ∙ ap (λ b. b ++ drop n into) front) ∙ take_at bytes (drop n into) n (sym all)

pub read_whole : (o : Option Story) (into into' : List ℕ) (n l : ℕ) → length into ≡ l → IfTold (λ s. l ≡ length (seen s)) o → IfTold (λ s. Copies 0 into into' n (seen s)) o → IfTold (λ s. take n into' ≡ seen s) o
read_whole None into into' n l long length_is copies = tt
read_whole (Some s) into into' n l long length_is copies = copied_all (seen s) into into' n (long ∙ length_is) copies

pub loaded_bytes : (limit : ℕ) (o : Option Story) (image : List ℕ) (l : Loaded) → IfTold (λ s. image ≡ seen s) o → IsLoaded limit l.map l.now l.old image → IfTold (λ s. IsLoaded limit l.map l.now l.old (seen s)) o
loaded_bytes limit None image l is loaded = tt
loaded_bytes limit (Some s) image l is loaded = subst (IsLoaded limit l.map l.now l.old) is loaded

pub foreign_bytes : (limit : ℕ) (o : Option Story) (image : List ℕ) (fault : OpenFault) → IfTold (λ s. image ≡ seen s) o → IsForeign limit image fault → Refuses limit fault o
foreign_bytes limit o image opening.Disk is foreign = tt
foreign_bytes limit None image (opening.Foreign place) is foreign = tt
foreign_bytes limit (Some s) image (opening.Foreign place) is foreign = ap (map_of limit) (sym is) ∙ foreign
foreign_bytes limit o image opening.NoMemory is foreign = tt

pub own_refuses : (limit : ℕ) (o : Option Story) (fault : OpenFault) → IsOwn fault → Refuses limit fault o
own_refuses limit o opening.Disk own = tt
own_refuses limit o (opening.Foreign place) own = absurd own
own_refuses limit o opening.NoMemory own = tt

-- a sync leaves what is read
pub synced_loaded : (limit : ℕ) (o o₁ : Option Story) (l : Loaded) → Told (Syncs {T = Unit {0}} {E = Failed} (Ok tt)) o o₁ → IfTold (λ s. IsLoaded limit l.map l.now l.old (seen s)) o₁ → IfTold (λ s. IsLoaded limit l.map l.now l.old (seen s)) o
synced_loaded limit None o₁ l told is = tt
synced_loaded limit (Some s) o₁ l told is =
    let at : IfTold (λ s. IsLoaded limit l.map l.now l.old (seen s)) (Some told.0) = subst (IfTold (λ s. IsLoaded limit l.map l.now l.old (seen s))) told.1 is in
    subst (IsLoaded limit l.map l.now l.old) (ap seen told.2) at

pub synced_refuses : (limit : ℕ) (o o₁ : Option Story) (fault : OpenFault) → Told (Syncs {T = Unit {0}} {E = Failed} (Ok tt)) o o₁ → Refuses limit fault o₁ → Refuses limit fault o
synced_refuses limit o o₁ opening.Disk told is = tt
synced_refuses limit None o₁ (opening.Foreign place) told is = tt
synced_refuses limit (Some s) o₁ (opening.Foreign place) told is =
    let at : Refuses limit (opening.Foreign place) (Some told.0) = subst (Refuses limit (opening.Foreign place)) told.1 is in
    ap (map_of limit) (sym (ap seen told.2)) ∙ at
synced_refuses limit o o₁ opening.NoMemory told is = tt

synced_loads : (r : Result Loaded OpenFault) (s s' : Story) → s' ≡ with_events (Synced ∷ []) s → Loads r s s'
synced_loads (Err opening.Disk) s s' is = inr is
synced_loads (Err (opening.Foreign place)) s s' is = is
synced_loads (Err opening.NoMemory) s s' is = is
synced_loads (Ok l) s s' is = is

pub synced_told : (o o₁ o₂ : Option Story) (r : Result Loaded OpenFault) → Told (Syncs {T = Unit {0}} {E = Failed} (Ok tt)) o o₁ → o₂ ≡ o₁ → Told (Loads r) o o₂
synced_told None o₁ o₂ r told same = same ∙ told
synced_told (Some s) o₁ o₂ r told same = (told.0, same ∙ told.1, synced_loads r s told.0 told.2)

pub unsynced_told : (o o₁ : Option Story) (e : Failed) → Told (Syncs {T = Unit {0}} {E = Failed} (Err e)) o o₁ → Told (Loads {T = Loaded} (Err opening.Disk)) o o₁
unsynced_told None o₁ e told = told
unsynced_told (Some s) o₁ e told = told
