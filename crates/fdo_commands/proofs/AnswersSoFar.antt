-- Messages answered one after another.
use Rattle.std.proofs.Common.{◌≡◌, ℕ, ◌+◌, ◌<◌, ◌≤◌, Bool, true, false, List, [], ◌∷◌, ◌++◌, length, take, drop, get_or, Option, None, Some, Ok, Err, refl, sym, ap, ◌∙◌, subst, suc, add-one, arith}
use Rattle.std.proofs.lemmas.Grind.{flat_map-append}
use Rattle.std.specs.Prelude.{nat_lt}
use Rattle.std.proofs.lemmas.Bool.Decides.{nat_tests}
use Rattle.std.proofs.lemmas.List.{append-nil, length-append, take-append-drop, take_all}
use Rattle.std.proofs.Math.Seq.{drop-cons, take-append-add, take-suc}
use Rattle.port_base.specs.Told.{grown}
use Rattle.fdo_ports.proofs.Grown.{grown_nothing, grown_twice}
use Rattle.fdo_msgs.specs.Run.{Runs}
use Rattle.fdo_msgs.proofs.LongerRuns.{runs_more}
use Rattle.fdo_msgs.specs.declared.answer.Answer.{Answer}
use Rattle.fdo_msgs.specs.declared.cause.Object.{Object}
use Rattle.fdo_msgs.specs.declared.packet.Packet.{Packet}
use Rattle.fdo_commands.specs.Answering.{AnswersAll, AnswersOne, CutShort, Role, Stage, answers_text, blamed, first_blamed, rank, sooner}
use Rattle.fdo_commands.specs.Line.{answer_line}
use Rattle.fdo_commands.specs.declared.answers.Stop.{Stop}
use Rattle.fdo_commands.specs.declared.answers.Stop.TheVariants as stop

-- the first i messages are answered
abbrev pub AnswersFirst : {S : Type 0} → Role S → List Packet → ℕ → Stage S → Stage S → Option Object → Type 0
AnswersFirst role packets i before after fault =
    (all : List Answer) × Runs role.Steps before.state (take i packets) all after.state
    × (after.output.written ≡ grown before.output.written (answers_text all)) × (fault ≡ first_blamed all)

none_last : (a : Option Object) → sooner a None ≡ a
none_last None = refl
none_last (Some a) = refl

-- which of three comes first does not depend on which two are compared first
sooner_by : (a b c : Object) (p q r : Bool) → nat_lt (rank b) (rank a) ≡ p → nat_lt (rank c) (rank b) ≡ q → nat_lt (rank c) (rank a) ≡ r → sooner (sooner (Some a) (Some b)) (Some c) ≡ sooner (Some a) (sooner (Some b) (Some c))
sooner_by a b c true true true ba cb ca = rw (ba, cb, ca) refl
sooner_by a b c true true false ba cb ca = absurd (grind (arith, nat_tests, ba, cb, ca))
sooner_by a b c true false r ba cb ca = rw (ba, cb, ba) refl
sooner_by a b c false true r ba cb ca = rw (ba, cb) refl
sooner_by a b c false false true ba cb ca = absurd (grind (arith, nat_tests, ba, cb, ca))
sooner_by a b c false false false ba cb ca = rw (ba, cb, ba, ca) refl

sooner_again : (a b c : Option Object) → sooner (sooner a b) c ≡ sooner a (sooner b c)
sooner_again None b c = refl
sooner_again (Some a) None c = refl
sooner_again (Some a) (Some b) None = none_last (sooner (Some a) (Some b))
sooner_again (Some a) (Some b) (Some c) = sooner_by a b c (nat_lt (rank b) (rank a)) (nat_lt (rank c) (rank b)) (nat_lt (rank c) (rank a)) refl refl refl

text_and : (all : List Answer) (answer : Answer) → answers_text (all ++ answer ∷ []) ≡ answers_text all ++ answer_line answer
text_and all answer = flat_map-append answer_line all (answer ∷ []) ∙ ap (λ l. answers_text all ++ l) (append-nil (answer_line answer))

blamed_and : (all : List Answer) (answer : Answer) → first_blamed (all ++ answer ∷ []) ≡ sooner (first_blamed all) (blamed answer)
blamed_and [] answer = none_last (blamed answer)
blamed_and (one ∷ all) answer = ap (sooner (blamed one)) (blamed_and all answer) ∙ sym (sooner_again (blamed one) (first_blamed all) (blamed answer))

take_and : (packets : List Packet) (packet : Packet) (i : ℕ) → i < length packets → packet ≡ get_or packets i packet → take (i + 1) packets ≡ take i packets ++ packet ∷ []
take_and packets packet i within is = ap (λ k. take k packets) (add-one i) ∙ take-suc packets i packet within ∙ ap (λ p. take i packets ++ p ∷ []) (sym is)

apart : (packets : List Packet) (packet : Packet) (i : ℕ) → i < length packets → packet ≡ get_or packets i packet → packets ≡ take i packets ++ packet ∷ drop (suc i) packets
apart packets packet i within is =
    sym (take-append-drop i packets) ∙ ap (λ rest. take i packets ++ rest) (drop-cons packets i packet within ∙ ap (λ p. p ∷ drop (suc i) packets) (sym is))

module _ {S : Type 0} (role : Role S) (packets : List Packet) (start : Stage S) where
  pub none_answered : AnswersFirst role packets 0 start start None
  none_answered = ([], refl, sym (grown_nothing start.output.written), refl)

  pub all_answered : (i : ℕ) (end : Stage S) (fault : Option Object) → length packets ≤ i → AnswersFirst role packets i start end fault → AnswersAll role packets start end (Ok fault)
  all_answered i end fault past first = (first.0, subst (λ ps. Runs role.Steps start.state ps first.0 end.state) (take_all i packets past) first.1, first.2, first.3)

  module _ (packet : Packet) (i : ℕ) (within : i < length packets) (is : packet ≡ get_or packets i packet) (mid end : Stage S) (fault : Option Object) (first : AnswersFirst role packets i start mid fault) where
    longer : (answer : Answer) → role.Steps mid.state packet answer end.state → Runs role.Steps start.state (take (i + 1) packets) (first.0 ++ answer ∷ []) end.state
    longer answer step = subst (λ ps. Runs role.Steps start.state ps (first.0 ++ answer ∷ []) end.state) (sym (take_and packets packet i within is)) (runs_more role.Steps start.state mid.state end.state (take i packets) first.0 packet answer first.1 step)

    pub one_answered : (one : Option Object) → AnswersOne role packet mid end (Ok one) → AnswersFirst role packets (i + 1) start end (sooner fault one)
    one_answered one answer = (
      first.0 ++ answer.0 ∷ [],
      longer answer.0 answer.1,
      answer.2 ∙ ap (λ told. grown told (answer_line answer.0)) first.2 ∙ grown_twice start.output.written (answers_text first.0) (answer_line answer.0) ∙ ap (grown start.output.written) (sym (text_and first.0 answer.0)),
      ap (λ b. sooner b one) first.3 ∙ ap (sooner (first_blamed first.0)) answer.3 ∙ sym (blamed_and first.0 answer.0),
    )

    cut : (line : List ℕ) → CutShort mid.output end.output line → CutShort start.output end.output (answers_text first.0 ++ line)
    cut line short = (
      length (answers_text first.0) + short.0,
      omega (arith, short.1, length-append (answers_text first.0) line),
      short.2 ∙ ap (λ told. grown told (take short.0 line)) first.2 ∙ grown_twice start.output.written (answers_text first.0) (take short.0 line) ∙ ap (grown start.output.written) (sym (take-append-add (answers_text first.0) line short.0)),
    )

    write_failed : AnswersOne role packet mid end (Err stop.Write) → AnswersAll role packets start end (Err stop.Write)
    write_failed answer = (
      take (i + 1) packets,
      drop (i + 1) packets,
      first.0 ++ answer.0 ∷ [],
      sym (take-append-drop (i + 1) packets),
      longer answer.0 answer.1,
      subst (CutShort start.output end.output) (sym (text_and first.0 answer.0)) (cut (answer_line answer.0) answer.2),
    )

    memory_ran_out : AnswersOne role packet mid end (Err stop.NoMemory) → AnswersAll role packets start end (Err stop.NoMemory)
    memory_ran_out answer = (take i packets, drop (suc i) packets, packet, first.0, mid.state, apart packets packet i within is, first.1, answer.0, answer.1 ∙ first.2)

    pub stopped : (why : Stop) → AnswersOne role packet mid end (Err why) → AnswersAll role packets start end (Err why)
    stopped stop.Write answer = write_failed answer
    stopped stop.NoMemory answer = memory_ran_out answer
