-- What is told of a suite's calls, where one is added and taken back.
use Rattle.std.proofs.Common.{◌≡◌, ℕ, ◌-◌, List, [], ◌∷◌, ◌++◌, Option, None, Some, Result, Ok, Err, if◌then◌else◌, is_ok, length, map, take, ap, sym, ◌∙◌, append_assoc, arith}
use Rattle.std.proofs.Math.Seq.{take-append_seam}
use Rattle.std.proofs.lemmas.List.{length-append, length-map, map-append, take-map}
use Rattle.suite_port.specs.Asked.{Ask, Asks}
use Rattle.suite_port.specs.declared.fault.SuiteFault.{SuiteFault}
use Rattle.suite_laws.specs.declared.telling_suite.Call.{Call}
use Rattle.port_base.specs.Told.{grown}
use Rattle.suite_laws.specs.Telling.{ask_of, asks_of, without_last}

pub asks_noted : (calls : List Call) (call : Call) → asks_of (calls ++ call ∷ []) ≡ asks_of calls ++ ask_of call ∷ []
unfolding asks_of
asks_noted calls call = map-append ask_of calls (call ∷ [])

pub asks_shorter : (calls : List Call) → asks_of (take (length calls - 1) calls) ≡ without_last (asks_of calls)
unfolding asks_of without_last
asks_shorter calls = sym (take-map ask_of (length calls - 1) calls) ∙ ap (λ (n : ℕ). take (n - 1) (map ask_of calls)) (sym (length-map calls ask_of))

pub without_noted : (asks : List Ask) (a : Ask) → without_last (asks ++ a ∷ []) ≡ asks
unfolding without_last
without_noted asks a =
    let count : length (asks ++ a ∷ []) - 1 ≡ length asks = omega (arith, length-append asks (a ∷ [])) in
    ap (λ (n : ℕ). take n (asks ++ a ∷ [])) count ∙ take-append_seam asks (a ∷ [])

-- a call that was added and made: where it was not answered, it is taken back
pub settled : {T : Type 0} (before noted after : List Ask) (ask : Ask) (answer : Result T SuiteFault) → noted ≡ before ++ ask ∷ [] → after ≡ (if is_ok answer then noted else without_last noted) → Asks (Some before) (Some after) ask answer
settled before noted after ask (Ok value) added kept = ap Some (kept ∙ added)
settled before noted after ask (Err fault) added kept = ap Some (kept ∙ ap without_last added ∙ without_noted before ask)

pub asked_twice : (asked asked' asked'' : Option (List Ask)) (one other : Ask) → asked' ≡ grown asked (one ∷ []) → asked'' ≡ grown asked' (other ∷ []) → asked'' ≡ grown asked (one ∷ other ∷ [])
asked_twice None asked' asked'' one other first second = second ∙ ap (λ (a : Option (List Ask)). grown a (other ∷ [])) first
asked_twice (Some asks) asked' asked'' one other first second = second ∙ ap (λ (a : Option (List Ask)). grown a (other ∷ [])) first ∙ ap Some (append_assoc asks (one ∷ []) (other ∷ []))
