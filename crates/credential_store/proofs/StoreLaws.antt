-- What holds of a store between two calls.
use Rattle.std.proofs.Common.{◌≡◌, ℕ, List, Option, None, Some, Ok, Err, refl, sym, subst}
use Rattle.fdo_ports.specs.declared.failed.Failed.{Failed}
use Rattle.disk_port.specs.Story.{Story, seen}
use Rattle.disk_port.specs.Told.{Told, IfTold}
use Rattle.disk_port.specs.Slots.{body_of, next_change, Changes}
use Rattle.disk_port.specs.declared.next_change.NextChange.{NextChange}
use Rattle.voucher_chain.specs.declared.credential.Credential.{Credential}
use Rattle.credential_store.specs.Body.{body_at, body_of_credential}
use Rattle.credential_store.specs.Image.{credential_slots, told_content, told_next, Commits, Holds, IsSound}
use Rattle.credential_store.specs.Store.{IsReady}
use Rattle.credential_store.proofs.OpenLaws.{committed}

pub ready_next : (o : Option Story) (credential : Option Credential) (next : NextChange) → IsReady o credential next → told_next o next ≡ next
ready_next None credential next is = refl
ready_next (Some s) credential next is = is.next_right

pub ready_content : (o : Option Story) (credential : Option Credential) (next : NextChange) → IsReady o credential next → told_content o credential ≡ Ok credential
ready_content None credential next is = refl
ready_content (Some s) credential next is = is.content

-- what is made ready is sound with nothing reserved
pub ready_sound : (o : Option Story) (credential : Option Credential) (generation : ℕ) (next : NextChange) → IsReady o credential next → generation ≡ next.generation → IsSound o credential generation next
ready_sound o credential generation next is same = record {
  rested = is.rested;
  next_right = ready_next o credential next is;
  content_right = ready_content o credential next is;
  generation_right = same;
}

pub sound_next : (o : Option Story) (credential : Option Credential) (generation : ℕ) (next : NextChange) → IsSound o credential generation next → IfTold (λ s. next ≡ next_change credential_slots (seen s)) o
sound_next None credential generation next is = tt
sound_next (Some s) credential generation next is = sym is.next_right

pub sound_holds : (o : Option Story) (credential : Option Credential) (generation : ℕ) (next : NextChange) → IsSound o credential generation next → Holds o credential
sound_holds None credential generation next is = tt
sound_holds (Some s) credential generation next is = is.content_right

-- another credential is reserved
pub sound_reserved : (o : Option Story) (credential : Option Credential) (generation other : ℕ) (next : NextChange) → IsSound o credential generation next → other ≡ next.generation → IsSound o credential other next
sound_reserved o credential generation other next is same = record { rested = is.rested; next_right = is.next_right; content_right = is.content_right; generation_right = same }

-- a disk that tells the same
pub sound_same : (o o' : Option Story) (credential : Option Credential) (generation : ℕ) (next : NextChange) → o' ≡ o → IsSound o credential generation next → IsSound o' credential generation next
sound_same o o' credential generation next same is = subst (λ o. IsSound o credential generation next) (sym same) is

-- a commit
module _ (credential : Credential) (next : NextChange) (bytes : List ℕ) (body_is : body_of bytes ≡ body_of_credential credential) (back : body_at (body_of_credential credential) ≡ Ok credential) (o o' : Option Story) (is : IfTold (λ s. next ≡ next_change credential_slots (seen s)) o) where
  pub commit_ok : (T E : Type 0) (n : NextChange) (x : T) → Told (Changes {T = NextChange} {E = Failed} credential_slots next (body_of bytes) (Ok n)) o o' → Told (Commits {T = T} {E = E} (Some credential) (Ok x)) o o'
  commit_ok T E n x told = as_ok o (committed credential next (body_of bytes) body_is back o o' (Ok n) is told)
    where
      as_ok : (o : Option Story) → Told (Commits {T = NextChange} {E = Failed} (Some credential) (Ok n)) o o' → Told (Commits {T = T} {E = E} (Some credential) (Ok x)) o o'
      as_ok None told = told
      as_ok (Some s) told = (told.0, told.1, record { moments = told.2.moments; done = told.2.done })

  pub commit_err : (T E : Type 0) (e : Failed) (x : E) → Told (Changes {T = NextChange} {E = Failed} credential_slots next (body_of bytes) (Err e)) o o' → Told (Commits {T = T} {E = E} (Some credential) (Err x)) o o'
  commit_err T E e x told = as_err o (committed credential next (body_of bytes) body_is back o o' (Err e) is told)
    where
      as_err : (o : Option Story) → Told (Commits {T = NextChange} {E = Failed} (Some credential) (Err e)) o o' → Told (Commits {T = T} {E = E} (Some credential) (Err x)) o o'
      as_err None told = told
      as_err (Some s) told = (told.0, told.1, record { moments = told.2.moments; done = tt })
