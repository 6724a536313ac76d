-- The vouchers of a party: a list of entries in the order kept, and what its changes do to it.
use Rattle.std.specs.Prelude.{◌≤◌, ℕ, ℤ, ◌+◌, List, [], ◌∷◌, length, map, sum, Bool, true, false, ◌&&◌, ◌||◌, nat_lt, nat_le, if◌then◌else◌, is_some, Option, Some, None, option_map}
use Rattle.std.specs.List.{AllByRecursion}
use Rattle.std.specs.Str.{bytes_eq}
use Rattle.key_codec.specs.declared.key.PublicKey.{PublicKey}
use Rattle.voucher_chain.specs.Chain.{last_key}
use Rattle.voucher_chain.specs.Fault.{or_else}
use Rattle.voucher_chain.specs.declared.voucher.Voucher.{Voucher}
use Rattle.voucher_chain.specs.declared.fault.ChainFault.{ChainFault}
use Rattle.voucher_chain.specs.declared.fault.ChainFault.TheVariants as chain
use Rattle.voucher_map.specs.Keys.{same_key}
use Rattle.voucher_map.specs.declared.kept.Kept.{Kept}
use Rattle.voucher_map.specs.declared.kept.Kept.TheVariants as kept
use Rattle.voucher_map.specs.declared.seen.Seen.{Seen}
use Rattle.voucher_map.specs.declared.fault.StoreFault.{StoreFault}
use Rattle.voucher_map.specs.declared.fault.StoreFault.TheVariants as fault
use Rattle.voucher_chain.specs.Reading.{most_entries}

-- ---- entries

-- an entry is named by the GUID of its base or of the voucher that was sent
abbrev pub voucher_of : Kept → Voucher
voucher_of (kept.Held base candidate) = base
voucher_of (kept.Sent voucher) = voucher

abbrev pub candidate_in : Kept → Option Voucher
candidate_in (kept.Held base candidate) = candidate
candidate_in (kept.Sent voucher) = None

abbrev pub guid_of : Voucher → List ℕ
guid_of voucher = voucher.header.guid

abbrev pub names : List ℕ → Kept → Bool
names guid entry = bytes_eq (guid_of (voucher_of entry)) guid

abbrev pub is_guid : List ℕ → Option Voucher → Bool
is_guid guid None = false
is_guid guid (Some voucher) = bytes_eq (guid_of voucher) guid

-- the first entry that a GUID names
abbrev pub entry_of : List ℕ → List Kept → Option Kept
entry_of guid [] = None
entry_of guid (entry ∷ entries) = if names guid entry then Some entry else entry_of guid entries

-- a candidate has the GUID
abbrev pub is_candidate : List ℕ → List Kept → Bool
is_candidate guid [] = false
is_candidate guid (entry ∷ entries) = is_guid guid (candidate_in entry) || is_candidate guid entries

-- any voucher has it
abbrev pub is_kept : List ℕ → List Kept → Bool
is_kept guid entries = is_some (entry_of guid entries) || is_candidate guid entries

-- another entry takes the place of the one that a GUID names
abbrev pub set_entry : List ℕ → Kept → List Kept → List Kept
set_entry guid entry [] = []
set_entry guid entry (e ∷ entries) = if names guid e then entry ∷ entries else e ∷ set_entry guid entry entries

-- or stands last, where none is named
abbrev pub put_entry : List ℕ → Kept → List Kept → List Kept
put_entry guid entry [] = entry ∷ []
put_entry guid entry (e ∷ entries) = if names guid e then entry ∷ entries else e ∷ put_entry guid entry entries

-- ---- how many bytes they take

-- a head of CBOR with the shortest argument, and a byte string behind one
abbrev pub head_length : ℕ → ℕ
head_length n = if nat_lt n 24 then 1 else if nat_lt n 256 then 2 else if nat_lt n 65536 then 3 else if nat_lt n 4294967296 then 5 else 9

abbrev pub string_length : List ℕ → ℕ
string_length bytes = head_length (length bytes) + length bytes

abbrev pub candidate_length : Option Voucher → ℕ
candidate_length None = 1
candidate_length (Some voucher) = string_length voucher.raw

-- an array of a number and the vouchers' bytes
abbrev pub entry_length : Kept → ℕ
entry_length (kept.Held base candidate) = 2 + string_length base.raw + candidate_length candidate
entry_length (kept.Sent voucher) = 2 + string_length voucher.raw

-- an array of a number, the array of entries and a word of 7 letters
abbrev pub snapshot_length : List Kept → ℕ
snapshot_length entries = 10 + head_length (length entries) + sum (map entry_length entries)

-- at most 4,096 entries, in at most so many bytes
abbrev pub fits : ℕ → List Kept → Bool
fits limit entries = nat_le (length entries) 4096 && nat_le (snapshot_length entries) limit

-- ---- refusals

-- the entries before and after a change
abbrev pub full_refusal : ℕ → List Kept → List Kept → Option StoreFault
full_refusal limit before after = if fits limit after then None else Some (fault.Full (length before) (snapshot_length after))

abbrev pub chain_refusal : Option ChainFault → Option StoreFault
chain_refusal broken = option_map fault.Chain broken

-- the last owner's key is another one
abbrev pub owner_refusal : PublicKey → Voucher → Option StoreFault
owner_refusal mine voucher = if same_key (last_key voucher.header.key voucher.entries) mine then None else Some fault.NotOurs

abbrev pub replacing_refusal : Option Voucher → Option StoreFault
replacing_refusal None = None
replacing_refusal (Some candidate) = Some (fault.Replacing (guid_of candidate))

-- so many entries are no more than those of the chain that is kept
abbrev pub older_refusal : ℕ → Voucher → Option StoreFault
older_refusal count voucher = if nat_le count (length voucher.entries) then Some (fault.Older (length voucher.entries)) else None

-- the candidate that was seen is not the one that is there
abbrev pub same_guid : Option (List ℕ) → Option (List ℕ) → Bool
same_guid None None = true
same_guid (Some a) (Some b) = bytes_eq a b
same_guid a b = false

abbrev pub changed_refusal : Option (List ℕ) → Option (List ℕ) → Option StoreFault
changed_refusal seen now = if same_guid seen now then None else Some (fault.Changed now)

-- ---- import: a voucher whose chain was checked, with its first break if there is one

abbrev pub imported : Voucher → List Kept → List Kept
imported voucher entries = put_entry (guid_of voucher) (kept.Held voucher None) entries

-- the entry under its GUID has another header, or a chain that is as long, or a candidate
abbrev pub kept_refusal : Voucher → Option Kept → Option StoreFault
kept_refusal voucher None = None
kept_refusal voucher (Some entry) =
    if bytes_eq (voucher_of entry).header.raw voucher.header.raw then
    or_else (older_refusal (length voucher.entries) (voucher_of entry)) (replacing_refusal (candidate_in entry))
    else Some (fault.Clash (guid_of voucher))

abbrev pub clash_refusal : List ℕ → List Kept → Option StoreFault
clash_refusal guid entries = if is_candidate guid entries then Some (fault.Clash guid) else None

-- the voucher itself is refused, or for the sake of those that are kept
abbrev pub voucher_refusal : PublicKey → Voucher → List Kept → Option StoreFault
voucher_refusal mine voucher entries =
    or_else (owner_refusal mine voucher)
    (or_else (clash_refusal (guid_of voucher) entries)
    (kept_refusal voucher (entry_of (guid_of voucher) entries)))

unfoldable pub import_refusal : ℕ → Option ChainFault → PublicKey → Voucher → List Kept → Option StoreFault
import_refusal limit broken mine voucher entries =
    or_else (chain_refusal broken) (or_else (voucher_refusal mine voucher entries) (full_refusal limit entries (imported voucher entries)))

-- ---- set_candidate: the base that a session saw, with the candidate that it had then

abbrev pub with_candidate : List ℕ → Voucher → Voucher → List Kept → List Kept
with_candidate guid base candidate entries = set_entry guid (kept.Held base (Some candidate)) entries

-- the base that a GUID names, and its candidate
abbrev pub held_in : Option Kept → Option (Voucher × Option Voucher)
held_in None = None
held_in (Some (kept.Held base candidate)) = Some (base, candidate)
held_in (Some (kept.Sent voucher)) = None

abbrev pub held_of : List ℕ → List Kept → Option (Voucher × Option Voucher)
held_of guid entries = held_in (entry_of guid entries)

abbrev pub kept_guid_refusal : List ℕ → List Kept → Option StoreFault
kept_guid_refusal guid entries = if is_kept guid entries then Some (fault.Clash guid) else None

-- the session's base is no longer held, or its candidate is another one, or the new GUID is in use
abbrev pub seen_refusal_in : Seen → Voucher → List Kept → Option (Voucher × Option Voucher) → Option StoreFault
seen_refusal_in seen candidate entries None = Some fault.Unknown
seen_refusal_in seen candidate entries (Some held) =
    or_else (changed_refusal seen.candidate (option_map guid_of held.1)) (kept_guid_refusal (guid_of candidate) entries)

abbrev pub seen_refusal : Seen → Voucher → List Kept → Option StoreFault
seen_refusal seen candidate entries = seen_refusal_in seen candidate entries (held_of seen.base entries)

abbrev pub candidate_set_in : List ℕ → Voucher → List Kept → Option (Voucher × Option Voucher) → List Kept
candidate_set_in guid candidate entries None = entries
candidate_set_in guid candidate entries (Some held) = with_candidate guid held.0 candidate entries

abbrev pub candidate_set : List ℕ → Voucher → List Kept → List Kept
candidate_set guid candidate entries = candidate_set_in guid candidate entries (held_of guid entries)

unfoldable pub candidate_refusal : ℕ → Seen → Voucher → List Kept → Option StoreFault
candidate_refusal limit seen candidate entries =
    or_else (seen_refusal seen candidate entries) (full_refusal limit entries (candidate_set seen.base candidate entries))

-- ---- promote: a candidate takes its base's place

abbrev pub promote_refusal_in : List ℕ → Option (Voucher × Option Voucher) → Option StoreFault
promote_refusal_in candidate None = Some fault.Unknown
promote_refusal_in candidate (Some held) = changed_refusal (Some candidate) (option_map guid_of held.1)

abbrev pub promote_refusal : List ℕ → List ℕ → List Kept → Option StoreFault
promote_refusal base candidate entries = promote_refusal_in candidate (held_of base entries)

abbrev pub promoted_in : List ℕ → List Kept → Option (Voucher × Option Voucher) → List Kept
promoted_in guid entries None = entries
promoted_in guid entries (Some (base, None)) = entries
promoted_in guid entries (Some (base, Some candidate)) = set_entry guid (kept.Held candidate None) entries

abbrev pub promoted : List ℕ → List Kept → List Kept
promoted guid entries = promoted_in guid entries (held_of guid entries)

-- ---- export: a voucher is extended to the next owner's key and sent, under a key for which the suite has an algorithm or none

abbrev pub sent : List ℕ → Voucher → List Kept → List Kept
sent guid longer entries = set_entry guid (kept.Sent longer) entries

-- it was sent to this key already
abbrev pub is_sent_to : PublicKey → Option Kept → Bool
is_sent_to next (Some (kept.Sent voucher)) = same_key (last_key voucher.header.key voucher.entries) next
is_sent_to next entry = false

abbrev pub extend_refusal : Option ℤ → ℕ → Option StoreFault
extend_refusal (Some algorithm) count = if nat_lt count most_entries then None else Some (fault.Chain chain.TooLong)
extend_refusal None count = if nat_lt count most_entries then Some (fault.Chain (chain.NoAlgorithm count)) else Some (fault.Chain chain.TooLong)

abbrev pub export_refusal_in : PublicKey → Option ℤ → PublicKey → Option Kept → Option StoreFault
export_refusal_in mine algorithm next None = Some fault.Unknown
export_refusal_in mine algorithm next (Some (kept.Sent voucher)) = if same_key (last_key voucher.header.key voucher.entries) next then None else Some fault.Sent
export_refusal_in mine algorithm next (Some (kept.Held base candidate)) =
    or_else (replacing_refusal candidate) (or_else (owner_refusal mine base) (extend_refusal algorithm (length base.entries)))

-- no chain that is kept has more entries than may be
abbrev pub HasFew : Kept → Type 0
HasFew entry = length (voucher_of entry).entries ≤ most_entries

abbrev pub AllHaveFew : List Kept → Type 0
AllHaveFew entries = AllByRecursion HasFew entries

-- up to the signature; behind it stands `full_refusal` alone
abbrev pub export_refusal : PublicKey → Option ℤ → PublicKey → List ℕ → List Kept → Option StoreFault
export_refusal mine algorithm next guid entries = export_refusal_in mine algorithm next (entry_of guid entries)
