-- What the check of a voucher's chain of owners answers.
use Rattle.std.specs.Prelude.{ℕ, List, ◌++◌, length, codes, Option, Some, None, Result, Ok, Err}
use Rattle.std.specs.Fmt.{decimal}
use Rattle.voucher_chain.specs.declared.fault.ChainFault.{ChainFault}
use Rattle.voucher_chain.specs.declared.voucher.Voucher.{Voucher}
use Rattle.voucher_chain.specs.Chain.{Verifies, first_break}
use Rattle.voucher_tool.specs.Received.{owner_received}
use Rattle.voucher_tool.specs.Show.{hash_word, ended}

-- the number of entries, and the hash of the last owner's key as received
abbrev pub check_text : Voucher → List ℕ
check_text v = ended (codes "ok " ++ decimal (length v.entries) ++ codes " owner " ++ hash_word (owner_received v))

-- that text, where nothing breaks the chain
abbrev pub told_of : Voucher → Option ChainFault → Result (List ℕ) ChainFault
told_of v None = Ok (check_text v)
told_of v (Some fault) = Err fault

abbrev pub check_told : Verifies → Voucher → Result (List ℕ) ChainFault
check_told verifies v = told_of v (first_break verifies v)
