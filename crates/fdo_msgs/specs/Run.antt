-- A role that answers messages one after another, whichever role it is: Steps is its step.
use Rattle.std.specs.Prelude.{◌≡◌, List, [], ◌∷◌}
use Rattle.fdo_msgs.specs.declared.answer.Answer.{Answer}
use Rattle.fdo_msgs.specs.declared.packet.Packet.{Packet}

-- from a state the messages have these answers, one each, and the role is then in the other state
abbrev pub Runs : {S : Type 0} → (S → Packet → Answer → S → Type 0) → S → List Packet → List Answer → S → Type 0
Runs Steps s [] [] t = t ≡ s
Runs Steps s [] (_ ∷ _) t = ⊥
Runs Steps s (_ ∷ _) [] t = ⊥
Runs {S} Steps s (packet ∷ packets) (answer ∷ answers) t = (next : S) × Steps s packet answer next × Runs Steps next packets answers t
