-- Which voucher bytes say, or why they say none.
use Rattle.std.specs.Prelude.{ℕ, ◌≤◌, ◌<◌, ◌^◌, List, length, get_or, nat_le, Result, Ok, Err, if◌then◌else◌}
use Rattle.cbor_core.specs.Whole.{seen_at, Shows}
use Rattle.voucher_chain.specs.declared.fault.ChainFault.{ChainFault}
use Rattle.voucher_chain.specs.declared.fault.ChainFault.TheVariants as fault
use Rattle.voucher_chain.specs.declared.voucher.Voucher.{Voucher}
use Rattle.voucher_chain.specs.Voucher.{voucher_seen, voucher_place}

-- the most entries of a voucher
abbrev pub most_entries : ℕ
most_entries = 255

abbrev pub bounded : Result Voucher ℕ → Result Voucher ChainFault
bounded (Ok voucher) = if nat_le (length voucher.entries) most_entries then Ok voucher else Err fault.TooLong
bounded (Err place) = Err (fault.BadShape place)

-- the voucher that bytes spell, to their end; the first fault of the form comes before the number of entries
abbrev pub voucher_at : List ℕ → Result Voucher ChainFault
voucher_at bytes = bounded (seen_at voucher_seen voucher_place bytes)

pub record IsVoucher (bytes : List ℕ) (voucher : Voucher) : Type 0 where
  pub shown : Shows voucher_seen bytes voucher
  pub few : length voucher.entries ≤ most_entries

-- bytes in memory: fewer than 2 ^ 64, each below 256
pub record IsInMemory (bytes : List ℕ) : Type 0 where
  pub small : length bytes < 2 ^ 64
  pub fits : (i : ℕ) → get_or bytes i 0 < 256
