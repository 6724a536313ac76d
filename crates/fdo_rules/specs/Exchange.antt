-- Vouchers that go from an owner to the next one (FIDO Device Onboard 1.1, section 3.4).
use Rattle.std.specs.Prelude.{ℕ, ℤ, List, [], ◌∷◌, ◌++◌, Bool, true, false, Option, Some, None, Result, Ok, Err}
use Rattle.cbor_core.specs.Deterministic.{det}
use Rattle.fdo_ports.specs.declared.failed.Failed.{Failed}
use Rattle.hash_hmac.specs.declared.hash.Hash.{Hash}
use Rattle.key_codec.specs.declared.key.PublicKey.{PublicKey}
use Rattle.cose_envelopes.specs.declared.sign1.Sign1.{Sign1}
use Rattle.voucher_chain.specs.Chain.{first_break, front, information, last_bytes}
use Rattle.voucher_chain.specs.Entry.{item_of_payload}
use Rattle.voucher_chain.specs.Extended.{strength_of}
use Rattle.voucher_chain.specs.Voucher.{voucher_with}
use Rattle.voucher_chain.specs.declared.entry.Entry.{Entry}
use Rattle.voucher_chain.specs.declared.voucher.Voucher.{Voucher}
use Rattle.voucher_map.specs.Map.{entry_of, export_refusal, full_refusal, import_refusal, imported, sent as sent_in}
use Rattle.voucher_map.specs.declared.fault.StoreFault.{StoreFault}
use Rattle.voucher_map.specs.declared.fault.StoreFault.TheVariants as fault
use Rattle.voucher_map.specs.declared.kept.Kept.{Kept}
use Rattle.voucher_map.specs.declared.kept.Kept.TheVariants as kept
use Rattle.fdo_rules.specs.Checks.{key_bytes}
use Rattle.fdo_rules.specs.Made.{envelope, hash_by, signed_bytes, text_to_sign}
use Rattle.fdo_rules.specs.Owner.{Owner, OwnView, shut_down, with_map, with_sessions}
use Rattle.fdo_rules.specs.Row.{Row}
use Rattle.fdo_rules.specs.Suite.{Suite}

-- ---- a voucher with one more entry

abbrev pub prev_hash : Voucher → Hash
prev_hash v = hash_by (strength_of v.header.key) (last_bytes (front v) v.entries)

abbrev pub info_hash : Voucher → Hash
info_hash v = hash_by (strength_of v.header.key) (information v.header)

abbrev pub entry_payload : Voucher → PublicKey → List ℕ
entry_payload v next = det (item_of_payload (prev_hash v) (info_hash v) next)

abbrev pub entry_with : Voucher → PublicKey → Sign1 → Entry
entry_with v next sign = record { raw = signed_bytes sign; prev = prev_hash v; hdr = info_hash v; extra = None; key = next; sign = sign }

abbrev pub longer : Voucher → PublicKey → ℤ → List ℕ → Voucher
longer v next alg sig = voucher_with v.header v.hmac v.hmac_raw v.chain (v.entries ++ entry_with v next (envelope alg [] (entry_payload v next) sig) ∷ [])

-- ---- export, which ends all sessions

abbrev pub ExportRow : Type 0
ExportRow = Row (List Kept) (OwnView × Result (List ℕ) StoreFault)

abbrev pub export_refused : OwnView → StoreFault → ExportRow
export_refused o f = Row.Ends (o, Err f)

abbrev pub sent_or_shut : OwnView → Voucher → List Kept → Result (Unit {0}) Failed → ExportRow
sent_or_shut o v map (Ok _) = Row.Ends (with_sessions (with_map o map) [], Ok v.raw)
sent_or_shut o v map (Err _) = export_refused (shut_down o) fault.Disk

abbrev pub if_room : Option StoreFault → OwnView → Voucher → List Kept → ExportRow
if_room (Some f) o v map = export_refused o f
if_room None o v map = Row.Stores map (sent_or_shut o v map)

abbrev pub sends : OwnView → List ℕ → Voucher → ExportRow
sends o guid v = if_room (full_refusal o.limit o.map (sent_in guid v o.map)) o v (sent_in guid v o.map)

abbrev pub with_signature : OwnView → List ℕ → Voucher → PublicKey → ℤ → Result (List ℕ) Failed → ExportRow
with_signature o guid base next alg (Ok sig) = sends o guid (longer base next alg sig)
with_signature o guid base next alg (Err _) = export_refused o fault.Failed

abbrev pub extends : Owner → OwnView → List ℕ → PublicKey → Voucher → Option ℤ → ExportRow
extends owner o guid next base (Some alg) = Row.Signs (key_bytes owner.key) (text_to_sign alg (entry_payload base next)) (with_signature o guid base next alg)
extends owner o guid next base None = export_refused o fault.Failed

-- what was sent to the same key is given again
abbrev pub by_entry : Option Kept → Suite → Owner → OwnView → List ℕ → PublicKey → ExportRow
by_entry None suite owner o guid next = export_refused o fault.Unknown
by_entry (Some (kept.Sent voucher)) suite owner o guid next = Row.Ends (with_sessions o [], Ok voucher.raw)
by_entry (Some (kept.Held base candidate)) suite owner o guid next = extends owner o guid next base (suite.algorithm (key_bytes owner.key))

abbrev pub unless_refused : Option StoreFault → Suite → Owner → OwnView → List ℕ → PublicKey → ExportRow
unless_refused (Some f) suite owner o guid next = export_refused o f
unless_refused None suite owner o guid next = by_entry (entry_of guid o.map) suite owner o guid next

abbrev pub export_open : Bool → Suite → Owner → OwnView → List ℕ → PublicKey → ExportRow
export_open true suite owner o guid next = export_refused o fault.Shut
export_open false suite owner o guid next = unless_refused (export_refusal owner.key (suite.algorithm (key_bytes owner.key)) next guid o.map) suite owner o guid next

unfoldable pub export_row : Suite → Owner → OwnView → List ℕ → PublicKey → ExportRow
export_row suite owner o guid next = export_open o.shut suite owner o guid next

-- ---- import, which leaves the sessions

abbrev pub ImportRow : Type 0
ImportRow = Row (List Kept) (OwnView × Result (Unit {0}) StoreFault)

abbrev pub import_refused : OwnView → StoreFault → ImportRow
import_refused o f = Row.Ends (o, Err f)

abbrev pub taken_or_shut : OwnView → List Kept → Result (Unit {0}) Failed → ImportRow
taken_or_shut o map (Ok _) = Row.Ends (with_map o map, Ok tt)
taken_or_shut o map (Err _) = import_refused (shut_down o) fault.Disk

abbrev pub import_unless : Option StoreFault → OwnView → Voucher → ImportRow
import_unless (Some f) o voucher = import_refused o f
import_unless None o voucher = Row.Stores (imported voucher o.map) (taken_or_shut o (imported voucher o.map))

abbrev pub import_open : Bool → Suite → Owner → OwnView → Voucher → ImportRow
import_open true suite owner o voucher = import_refused o fault.Shut
import_open false suite owner o voucher = import_unless (import_refusal o.limit (first_break suite.verifies voucher) owner.key voucher o.map) o voucher

unfoldable pub import_row : Suite → Owner → OwnView → Voucher → ImportRow
import_row suite owner o voucher = import_open o.shut suite owner o voucher
