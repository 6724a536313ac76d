-- What is found under a GUID.
use Rattle.std.specs.Prelude.{ℕ, List, [], ◌∷◌, if◌then◌else◌, Option, Some, None}
use Rattle.std.specs.Option.{option_copied}
use Rattle.voucher_chain.specs.declared.voucher.Voucher.{Voucher}
use Rattle.voucher_map.specs.Map.{guid_of}
use Rattle.std.specs.Str.{bytes_eq}
use Rattle.voucher_map.specs.declared.kept.Kept.{Kept}
use Rattle.voucher_map.specs.declared.kept.Kept.TheVariants as kept
use Rattle.voucher_map.specs.declared.found.Found.{Found}
use Rattle.voucher_map.specs.declared.found.Found.TheVariants as found

pub data Finding : Type 0 where
  Base : Voucher → Option Voucher → Finding
  Candidate : Voucher → Finding
  Sent : Finding
  Absent : Finding

abbrev pub finding : Found → Finding
finding (found.Base base candidate) = Base base.now (option_copied candidate)
finding (found.Candidate candidate) = Candidate candidate.now
finding found.Sent = Sent
finding found.Absent = Absent

abbrev pub first_found : Finding → Finding → Finding
first_found Absent other = other
first_found found other = found

abbrev pub candidate_found : List ℕ → Option Voucher → Finding
candidate_found guid None = Absent
candidate_found guid (Some candidate) = if bytes_eq (guid_of candidate) guid then Candidate candidate else Absent

abbrev pub in_entry : List ℕ → Kept → Finding
in_entry guid (kept.Held base candidate) = if bytes_eq (guid_of base) guid then Base base candidate else candidate_found guid candidate
in_entry guid (kept.Sent voucher) = if bytes_eq (guid_of voucher) guid then Sent else Absent

abbrev pub find_in : List ℕ → List Kept → Finding
find_in guid [] = Absent
find_in guid (entry ∷ entries) = first_found (in_entry guid entry) (find_in guid entries)
