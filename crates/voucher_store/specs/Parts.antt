-- The parts that snapshots and records are made of.
use Rattle.std.specs.Prelude.{ℕ, List, Option, Some, None, Result, Ok, Err, if◌then◌else◌}
use Rattle.cbor_core.specs.declared.item.Item.{Item, out-Item}
use Rattle.cbor_core.specs.Shapes.{is_null}
use Rattle.cbor_core.specs.Spots.{Spot, spot_item, bytes_in}
use Rattle.voucher_chain.specs.Header.{guid_in}
use Rattle.voucher_chain.specs.Reading.{voucher_at}
use Rattle.voucher_chain.specs.declared.fault.ChainFault.{ChainFault}
use Rattle.voucher_chain.specs.declared.voucher.Voucher.{Voucher}
use Rattle.voucher_store.specs.Read.{found}

abbrev pub read_voucher_of : Result Voucher ChainFault → Option Voucher
read_voucher_of (Ok voucher) = Some voucher
read_voucher_of (Err fault) = None

-- the voucher in a byte string
abbrev pub voucher_of_bytes : Option (List ℕ) → Option Voucher
voucher_of_bytes (Some bytes) = read_voucher_of (voucher_at bytes)
voucher_of_bytes None = None

abbrev pub voucher_in : Item → Option Voucher
voucher_in x = voucher_of_bytes (bytes_in (out-Item x))

abbrev pub voucher_inside : Spot → Result Voucher ℕ
voucher_inside s = found s.at (voucher_in (spot_item s))

-- a voucher, or null
abbrev pub as_some : {A : Type 0} → Result A ℕ → Result (Option A) ℕ
as_some (Ok x) = Ok (Some x)
as_some (Err place) = Err place

abbrev pub candidate_inside : Spot → Result (Option Voucher) ℕ
candidate_inside s = if is_null (out-Item (spot_item s)) then Ok None else as_some (voucher_inside s)

abbrev pub guid_inside : Spot → Result (List ℕ) ℕ
guid_inside s = found s.at (guid_in (spot_item s))
