-- RendezvousInfo (FIDO Device Onboard 1.1, section 3.7): an array of directives, each an array of instructions; an
-- instruction is an array of its variable, and of the bytes of its value where it has one.
use Rattle.std.specs.List.{AllByRecursion}
use Rattle.std.specs.Prelude.{ℕ, ◌<◌, ◌^◌, List, [], ◌∷◌, map, Bool, Option, Some, None, if◌then◌else◌, is_some}
use Rattle.cbor_core.specs.declared.item.Item.{Item, out-Item}
use Rattle.cbor_core.specs.declared.item.Item.TheOpen.{Item-F}
use Rattle.cbor_core.specs.declared.item.Item.TheVariants as items
use Rattle.cbor_core.specs.Shapes.{array_layer, is_array, is_bytes}
use Rattle.cbor_core.specs.Spots.{Spot, spot_item, spot_parts, bytes_in}
use Rattle.voucher_chain.specs.declared.rv_info.RvInstr.{RvInstr}
use Rattle.voucher_chain.specs.Fault.{◌>>=◌, all_in, first_fault, place_or}

-- ---- reading

abbrev pub unsigned_in : Item-F Item → Option ℕ
unsigned_in (Item-F.Uint n) = Some n
unsigned_in _ = None

abbrev pub bare_instr : Item → Option RvInstr
bare_instr v = unsigned_in (out-Item v) >>= λ n. Some (record { variable = n; value = None })

abbrev pub valued_instr : Item → Item → Option RvInstr
valued_instr v b = unsigned_in (out-Item v) >>= λ n. bytes_in (out-Item b) >>= λ value. Some (record { variable = n; value = Some value })

abbrev pub instr_of : List Item → Option RvInstr
instr_of (v ∷ []) = bare_instr v
instr_of (v ∷ b ∷ []) = valued_instr v b
instr_of _ = None

abbrev pub instr_in : Item → Option RvInstr
instr_in x = array_layer (out-Item x) >>= instr_of

abbrev pub directive_in : Item → Option (List RvInstr)
directive_in x = array_layer (out-Item x) >>= λ xs. all_in instr_in xs

-- the rendezvous information that an item says
abbrev pub rv_in : Item → Option (List (List RvInstr))
rv_in x = array_layer (out-Item x) >>= λ xs. all_in directive_in xs

-- ---- where it is at fault

abbrev pub is_unsigned : Spot → Bool
is_unsigned s = is_some (unsigned_in (out-Item (spot_item s)))

-- an array of another length than one or two is at fault itself
abbrev pub instr_parts_fault : ℕ → List Spot → Option ℕ
instr_parts_fault at (v ∷ []) = if is_unsigned v then None else Some v.at
instr_parts_fault at (v ∷ b ∷ []) = if is_unsigned v then (if is_bytes (out-Item (spot_item b)) then None else Some b.at) else Some v.at
instr_parts_fault at _ = Some at

abbrev pub instr_fault : Spot → Option ℕ
instr_fault s = if is_array (out-Item (spot_item s)) then instr_parts_fault s.at (spot_parts s) else Some s.at

abbrev pub directive_fault : Spot → Option ℕ
directive_fault s = if is_array (out-Item (spot_item s)) then first_fault instr_fault (spot_parts s) else Some s.at

abbrev pub rv_fault : Spot → Option ℕ
rv_fault s = if is_array (out-Item (spot_item s)) then first_fault directive_fault (spot_parts s) else Some s.at

abbrev pub rv_place : Spot → ℕ
rv_place s = place_or s.at (rv_fault s)

-- ---- writing

abbrev pub value_items : Option (List ℕ) → List Item
value_items None = []
value_items (Some value) = items.Bytes value ∷ []

abbrev pub item_of_instr : RvInstr → Item
item_of_instr i = items.Array (items.Uint i.variable ∷ value_items i.value)

abbrev pub item_of_directive : List RvInstr → Item
item_of_directive is = items.Array (map item_of_instr is)

-- numbers of variables have 64 bits
abbrev pub AreNumbers : List RvInstr → Type 0
AreNumbers is = AllByRecursion (λ i. i.variable < 2 ^ 64) is

-- the one item that it is written as
abbrev pub item_of_rv : List (List RvInstr) → Item
item_of_rv ds = items.Array (map item_of_directive ds)
