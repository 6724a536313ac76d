-- Whether the pairs of a message are taken (FIDO Device Onboard 1.1, section 5.5.7): while a side has more to send, the
-- other sends none.
use Rattle.std.specs.Prelude.{List, [], ◌∷◌, Bool, true, false, Option, Some, None, if◌then◌else◌}
use Rattle.std.specs.List.{list_all}
use Rattle.service_info.specs.declared.info_fault.InfoFault.{InfoFault}
use Rattle.service_info.specs.declared.info_fault.InfoFault.TheVariants as fault
use Rattle.service_info.specs.declared.pair.Pair.{Pair}
use Rattle.service_info.specs.Key.{is_key}

-- every key is one
abbrev pub keys_refusal : List Pair → Option InfoFault
keys_refusal pairs = if list_all (λ pair. is_key pair.key) pairs then None else Some fault.BadKey

-- why pairs are refused, where they are, by a side that has said that it has more to send, or has not
abbrev pub refusal : Bool → List Pair → Option InfoFault
refusal mine_open [] = None
refusal true (pair ∷ pairs) = Some fault.NotYourTurn
refusal false (pair ∷ pairs) = keys_refusal (pair ∷ pairs)
