-- The pairs that a file is sent in.
use Rattle.std.specs.Prelude.{◌≡◌, ℕ, zero, suc, ◌+◌, ◌/◌, List, [], ◌∷◌, length, map, take, drop, nat_lt, if◌then◌else◌, Option, Some, None, Result, Ok, Err}
use Rattle.sha2.specs.Sha512.{sha384}
use Rattle.cbor_core.specs.declared.item.Item.{Item}
use Rattle.cbor_core.specs.declared.item.Item.TheVariants as items
use Rattle.cbor_core.specs.Deterministic.{det}
use Rattle.service_info.specs.declared.pair.Pair.{Pair}
use Rattle.service_info.specs.Key.{is_module_byte, is_name}
use Rattle.download_module.specs.declared.send_fault.SendFault.{SendFault}
use Rattle.download_module.specs.declared.send_fault.SendFault.TheVariants as fault
use Rattle.download_module.specs.Received.{active_key, data_key, hash_key, length_key, name_key}

abbrev pub longest_file : ℕ
longest_file = 1048576

abbrev pub longest_piece : ℕ
longest_piece = 1014

-- so many pieces from the front of bytes, each as long as may be
abbrev pub pieces : ℕ → List ℕ → List (List ℕ)
pieces zero bytes = []
pieces (suc count) bytes = take longest_piece bytes ∷ pieces count (drop longest_piece bytes)

-- a file's pieces, as many as it needs
abbrev pub pieces_of : List ℕ → List (List ℕ)
pieces_of file = pieces ((length file + 1013) / longest_piece) file

-- a pair with the deterministic encoding of an item
abbrev pub pair_of : List ℕ → Item → Pair
pair_of key item = record { key = key; value = det item }

abbrev pub data_pair : List ℕ → Pair
data_pair piece = pair_of data_key (items.Bytes piece)

-- that the module is active, the file's name, its length, its hash, and its pieces
abbrev pub pairs_of : List ℕ → List ℕ → List Pair
pairs_of name file =
    pair_of active_key (items.Simple 21)
    ∷ pair_of name_key (items.Text name)
    ∷ pair_of length_key (items.Uint (length file))
    ∷ pair_of hash_key (items.Bytes (sha384 file))
    ∷ map data_pair (pieces_of file)

-- why a file is not sent
abbrev pub send_refusal : List ℕ → List ℕ → Option SendFault
send_refusal name file =
    if is_name is_module_byte name then (if nat_lt longest_file (length file) then Some (fault.TooLarge (length file)) else None)
    else Some fault.BadName

-- a call refuses so, or goes on where there is no refusal; want of memory is free
abbrev pub Refuses : {A : Type 0} → Option SendFault → Result A SendFault → Type 0
Refuses told (Ok value) = told ≡ None
Refuses told (Err fault.NoMemory) = Unit {0}
Refuses told (Err f) = told ≡ Some f
