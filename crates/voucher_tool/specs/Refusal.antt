-- The text of a voucher's refusal.
use Rattle.std.specs.Prelude.{ℕ, List, ◌++◌, codes, Option, Some, None}
use Rattle.std.specs.Fmt.{decimal}
use Rattle.voucher_chain.specs.declared.fault.ChainFault.{ChainFault}
use Rattle.voucher_chain.specs.declared.fault.ChainFault.TheVariants as fault
use Rattle.voucher_tool.specs.Show.{ended}

abbrev pub refused : List ℕ → List ℕ
refused word = ended (codes "refused " ++ word)

-- with the number of the entry, from 0
abbrev pub refused_at : List ℕ → ℕ → List ℕ
refused_at word index = refused (word ++ codes " " ++ decimal index)

-- none for what is no refusal of a voucher of the form: bytes of another form, a credential of another device, and want
-- of memory
abbrev pub refusal_text : ChainFault → Option (List ℕ)
refusal_text fault.BadCertHash = Some (refused (codes "badcerthash"))
refusal_text (fault.BadPrevHash index) = Some (refused_at (codes "badprevhash") index)
refusal_text (fault.BadInfoHash index) = Some (refused_at (codes "badinfohash") index)
refusal_text (fault.BadSignature index) = Some (refused_at (codes "badsignature") index)
refusal_text (fault.NoAlgorithm index) = Some (refused_at (codes "noalgorithm") index)
refusal_text fault.TooLong = Some (refused (codes "toolong"))
refusal_text fault.Failed = Some (refused (codes "failed"))
refusal_text (fault.BadShape place) = None
refusal_text fault.NoMatch = None
refusal_text fault.NoMemory = None
