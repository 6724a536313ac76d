-- A device's credential, move by move.
use Rattle.std.proofs.Common.{◌≡◌, refl}
use Rattle.fdo_msgs.specs.declared.to1d.To1d.{To1d}
use Rattle.fdo_rules.specs.Device.{DevSession, DevView, last, moved, rests, walked, with_to1d}
use Rattle.fdo_rules.specs.DeviceDi.{credentials_row}
use Rattle.fdo_rules.specs.DeviceTo2.{ov_next_entry_row, owner_ready_row, prove_ov_hdr_row, setup_device_row}
use Rattle.fdo_rules.specs.Moves.{Moves}
use Rattle.fdo_rules.specs.Row.{Always, Row, mapped}
use Rattle.fdo_rules.specs.Staying.{CredentialStays}
use Rattle.fdo_rules.specs.To1Client.{hello_rv_ack_row, rv_redirect_row}

-- what holds of each result as it is mapped
each : {C R T : Type 0} (P : T → Type 0) (f : R → T) → ((r : R) → P (f r)) → (row : Row C R) → Always P (mapped f row)
each P f h (Row.Ends r) = h r
each P f h (Row.Draws next) = λ answer. each P f h (next answer)
each P f h (Row.Reads next) = λ answer. each P f h (next answer)
each P f h (Row.Signs key text next) = λ answer. each P f h (next answer)
each P f h (Row.Issues key next) = λ answer. each P f h (next answer)
each P f h (Row.Stores content next) = λ answer. each P f h (next answer)

moves : {T : Type 0} (d : DevView) (on : T → DevSession) (m : Moves T (Unit {0})) → (moved d on (rests d) m).0.cred ≡ d.cred
moves d on (Moves.On state packet) = refl
moves d on (Moves.Done value) = refl
moves d on (Moves.Stopped e reply) = refl
moves d on (Moves.Reopen reply) = refl

found : (d : DevView) (m : Moves (Unit {0}) To1d) → (moved d last (with_to1d d) m).0.cred ≡ d.cred
found d (Moves.On state packet) = refl
found d (Moves.Done value) = refl
found d (Moves.Stopped e reply) = refl
found d (Moves.Reopen reply) = refl

pub stays : CredentialStays
stays suite pairs d packet = (
  each (λ r. r.0.cred ≡ d.cred) (moved d DevSession.Macing (rests d)) (moves d DevSession.Macing) (credentials_row packet),
  λ job. each (λ r. r.0.cred ≡ d.cred) (moved d DevSession.Locating (rests d)) (moves d DevSession.Locating) (hello_rv_ack_row suite job packet),
  λ s. found d (rv_redirect_row packet),
  λ s. each (λ r. r.0.cred ≡ d.cred) (moved d walked (rests d)) (moves d walked) (prove_ov_hdr_row suite s packet),
  λ w. each (λ r. r.0.cred ≡ d.cred) (moved d walked (rests d)) (moves d walked) (ov_next_entry_row suite w packet),
  λ p. each (λ r. r.0.cred ≡ d.cred) (moved d DevSession.Readying (rests d)) (moves d DevSession.Readying) (setup_device_row suite p packet),
  λ r. moves d DevSession.Exchanging (owner_ready_row suite pairs r packet),
)
