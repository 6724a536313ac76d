-- What a body is read as is what it says.
use Rattle.std.proofs.Common.{◌≡◌, ℕ, List, Bool, true, false, cond, Option, Some, None, Result, Ok, Err, IfOk, refl, sym, ap, subst, ◌∙◌}
use Rattle.cbor_core.specs.Spots.{start}
use Rattle.cbor_core.specs.Whole.{seen_at}
use Rattle.cbor_core.proofs.Bytes.{IsBytes}
use Rattle.cbor_core.proofs.WholeLaws.{shows_found, shows_again}
use Rattle.fdo_msgs.specs.declared.body_fault.BodyFault.{BodyFault}
use Rattle.fdo_msgs.specs.declared.msg.Msg.{Msg}
use Rattle.fdo_msgs.specs.declared.msg.Msg.TheVariants as msg
use Rattle.fdo_msgs.specs.Body.{signed_of, msg_seen, msg_place, is_kind, IsBody}
use Rattle.fdo_msgs.specs.Reading.{ReadsBody, body_at}
use Rattle.fdo_msgs.specs.Row.{shapes_of}
use Rattle.fdo_msgs.specs.Said.{kind_of}
use Rattle.fdo_msgs.proofs.KindLaws.{msg_kind}

-- each type's bodies are read
kind_known : (m : Msg) → is_kind (kind_of m) ≡ true
unfolding signed_of shapes_of
kind_known (msg.AppStart _) = refl
kind_known (msg.SetCredentials _) = refl
kind_known (msg.SetHmac _) = refl
kind_known msg.DiDone = refl
kind_known msg.Hello = refl
kind_known (msg.HelloAck _) = refl
kind_known (msg.OwnerSign _ _ _ _ _) = refl
kind_known (msg.AcceptOwner _) = refl
kind_known (msg.HelloRv _ _) = refl
kind_known (msg.HelloRvAck _ _) = refl
kind_known (msg.ProveToRv _ _ _) = refl
kind_known (msg.RvRedirect _) = refl
kind_known (msg.HelloDevice _ _ _ _ _ _) = refl
kind_known (msg.ProveOvHdr _ _ _ _ _ _ _ _ _ _ _ _) = refl
kind_known (msg.GetOvNextEntry _) = refl
kind_known (msg.OvNextEntry _ _) = refl
kind_known (msg.ProveDevice _ _ _ _ _) = refl
kind_known (msg.SetupDevice _ _ _ _ _) = refl
kind_known (msg.DeviceReady _ _) = refl
kind_known (msg.OwnerReady _) = refl
kind_known (msg.DeviceInfo _ _) = refl
kind_known (msg.OwnerInfo _ _ _) = refl
kind_known (msg.Done _) = refl
kind_known (msg.Done2 _) = refl
kind_known (msg.Error _ _ _ _ _) = refl

known : (kind : ℕ) (bytes : List ℕ) (m : Msg) → IsBody kind bytes m → is_kind kind ≡ true
known kind bytes m h = subst (λ k. is_kind k ≡ true) (msg_kind kind (start bytes) m h.shows) (kind_known m)

body_found : (kind : ℕ) (bytes : List ℕ) (m : Msg) → IsBytes bytes → body_at kind bytes ≡ Ok m → IsBody kind bytes m
unfolding body_at
body_found kind bytes m fits e = go (is_kind kind) e
  where
    go : (b : Bool) → cond b (seen_at (msg_seen kind) (msg_place kind) bytes) (Err 0) ≡ Ok m → IsBody kind bytes m
    go true e = shows_found (msg_seen kind) (msg_place kind) bytes m fits e
    go false e = absurd (cc e)

body_again : (kind : ℕ) (bytes : List ℕ) (m : Msg) → IsBody kind bytes m → body_at kind bytes ≡ Ok m
unfolding body_at
body_again kind bytes m h = rw (known kind bytes m h) (shows_again (msg_seen kind) (msg_place kind) bytes m h)

-- ---- the clauses of the reader

pub reads_found : (kind : ℕ) (bytes : List ℕ) (r : Result Msg BodyFault) → IsBytes bytes → ReadsBody (body_at kind bytes) r → IfOk r (IsBody kind bytes)
reads_found kind bytes (Ok m) fits e = body_found kind bytes m fits e
reads_found kind bytes (Err f) fits e = tt

pub reads_only : (kind : ℕ) (bytes : List ℕ) (r : Result Msg BodyFault) → ReadsBody (body_at kind bytes) r → (m : Msg) → IsBody kind bytes m → ReadsBody (Ok m) r
reads_only kind bytes r e m h = subst (λ (said : Result Msg ℕ). ReadsBody said r) (body_again kind bytes m h) e

pub reads_kind : (kind : ℕ) (bytes : List ℕ) (r : Result Msg BodyFault) → IsBytes bytes → ReadsBody (body_at kind bytes) r → IfOk r (λ m. kind_of m ≡ kind)
reads_kind kind bytes (Ok m) fits e = msg_kind kind (start bytes) m (body_found kind bytes m fits e).shows
reads_kind kind bytes (Err f) fits e = tt
