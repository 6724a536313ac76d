-- The parts of an entry as a reader has them.
use Rattle.std.specs.Prelude.{Option, Some, None}
use Rattle.cbor_core.specs.Spots.{Spot, Standing}
use Rattle.voucher_store.specs.Snapshot.{EntrySpots}
use Rattle.voucher_store.specs.declared.entry.EntryParts.{EntryParts}

abbrev pub spot_of : Option Standing → Option Spot
spot_of None = None
spot_of (Some p) = Some p.spot

abbrev pub spots_of : EntryParts → EntrySpots
spots_of parts = record { kind = spot_of parts.kind; first = parts.first.spot; candidate = spot_of parts.candidate }
