-- Runs, longer by one message.
use Rattle.std.proofs.Common.{List, [], ◌∷◌, ◌++◌, refl, subst}
use Rattle.fdo_msgs.specs.Run.{Runs}
use Rattle.fdo_msgs.specs.declared.answer.Answer.{Answer}
use Rattle.fdo_msgs.specs.declared.packet.Packet.{Packet}

pub runs_more : {S : Type 0} (Steps : S → Packet → Answer → S → Type 0) (s mid t : S) (packets : List Packet) (answers : List Answer) (packet : Packet) (answer : Answer) → Runs Steps s packets answers mid → Steps mid packet answer t → Runs Steps s (packets ++ packet ∷ []) (answers ++ answer ∷ []) t
runs_more Steps s mid t [] [] packet answer run step = (t, subst (λ x. Steps x packet answer t) run step, refl)
runs_more Steps s mid t [] (_ ∷ _) packet answer run step = absurd run
runs_more Steps s mid t (_ ∷ _) [] packet answer run step = absurd run
runs_more Steps s mid t (p ∷ packets) (a ∷ answers) packet answer run step = (run.0, run.1, runs_more Steps run.0 mid t packets answers packet answer run.2 step)
