-- The module devmod: what a device says of itself (FIDO Device Onboard 1.1, section 3.8.3.1).
use Rattle.std.specs.Prelude.{ℕ, ◌+◌, ◌==◌, ◌&&◌, List, [], ◌∷◌, length, filter, find, nat_lt, Bool, if◌then◌else◌, Option, Some, None, option_and_then, option_map, unwrap_or, Result, Ok, Err, ok_or}
use Rattle.std.specs.Cmp.Lexicographic.{pointwise}
use Rattle.std.specs.List.{flat_map, range_with_len}
use Rattle.cbor_core.specs.declared.item.Item.{Item, out-Item}
use Rattle.cbor_core.specs.declared.item.Item.TheOpen.{Item-F}
use Rattle.cbor_core.specs.Shapes.{array_layer}
use Rattle.cbor_core.specs.Spots.{text_in}
use Rattle.cbor_core.specs.Whole.{whole}
use Rattle.service_info.specs.declared.devmod.Devmod.{Devmod}
use Rattle.service_info.specs.declared.devmod_key.DevmodKey.{DevmodKey}
use Rattle.service_info.specs.declared.devmod_key.DevmodKey.TheVariants as key
use Rattle.service_info.specs.declared.info_fault.InfoFault.{InfoFault}
use Rattle.service_info.specs.declared.info_fault.InfoFault.TheVariants as fault
use Rattle.service_info.specs.declared.named.Named.{Named}
use Rattle.service_info.specs.declared.pair.Pair.{Pair}
use Rattle.service_info.specs.DevmodKey.{key_text}

-- then, where nothing is at fault
infixl 10 ◌>>=◌
abbrev pub ◌>>=◌ : {A B : Type 0} → Result A InfoFault → (A → Result B InfoFault) → Result B InfoFault
(Ok x) >>= f = f x
(Err e) >>= f = Err e

-- the values of all, where each has one
abbrev pub all_in : {X A : Type 0} → (X → Option A) → List X → Option (List A)
all_in said [] = Some []
all_in said (x ∷ xs) = option_and_then (λ value. option_map (λ values. value ∷ values) (all_in said xs)) (said x)

-- ---- items

abbrev pub text_of : Item → Option (List ℕ)
text_of item = text_in (out-Item item)

abbrev pub unsigned_layer : Item-F Item → Option ℕ
unsigned_layer (Item-F.Uint n) = Some n
unsigned_layer _ = None

abbrev pub unsigned_of : Item → Option ℕ
unsigned_of item = unsigned_layer (out-Item item)

-- true (RFC 8949, section 3.3)
abbrev pub true_layer : Item-F Item → Option (Unit {0})
true_layer (Item-F.Simple n) = if n == 21 then Some tt else None
true_layer _ = None

abbrev pub true_of : Item → Option (Unit {0})
true_of item = true_layer (out-Item item)

-- ---- values of keys

abbrev pub has_key : List ℕ → Pair → Bool
has_key name pair = pointwise ◌==◌ pair.key name

-- the item beside the first pair that has the key; None also where its bytes are not one item
abbrev pub value_at : DevmodKey → List Pair → Option Item
value_at name pairs = option_and_then (λ pair. whole pair.value) (find (has_key (key_text name)) pairs)

-- its value, where it is of the type that is needed
abbrev pub needed : {A : Type 0} → (Item → Option A) → DevmodKey → List Pair → Result A InfoFault
needed type_of name pairs = ok_or (option_and_then type_of (value_at name pairs)) (fault.MissingDevmod name)

-- ---- the names of modules

-- the items that stand behind a start and a count, or in an array that stands there alone
abbrev pub listed : List Item → List Item
listed [] = []
listed (item ∷ []) = unwrap_or (array_layer (out-Item item)) (item ∷ [])
listed (item ∷ next ∷ items) = item ∷ next ∷ items

-- names from a place on, where they are as many as is said
abbrev pub counted : ℕ → ℕ → List (List ℕ) → Option Named
counted start count names = if length names == count then Some (record { start = start; names = names }) else None

abbrev pub named_layer : Item-F Item → Option Named
named_layer (Item-F.Array (start ∷ count ∷ items)) =
    option_and_then (λ first. option_and_then (λ n. option_and_then (counted first n) (all_in text_of (listed items))) (unsigned_of count)) (unsigned_of start)
named_layer _ = None

abbrev pub named_in : Pair → Option Named
named_in pair = option_and_then (λ item. named_layer (out-Item item)) (whole pair.value)

-- some, one at least
abbrev pub some_of : {A : Type 0} → List A → Option (List A)
some_of [] = None
some_of (x ∷ xs) = Some (x ∷ xs)

-- all lists of names, each of the form, in order
abbrev pub lists_in : List Pair → Option (List Named)
lists_in pairs = all_in named_in (filter (has_key (key_text key.Modules)) pairs)

abbrev pub lists_needed : List Pair → Result (List Named) InfoFault
lists_needed pairs = ok_or (option_and_then some_of (lists_in pairs)) (fault.MissingDevmod key.Modules)

-- the places that names are for, in the order of the names
abbrev pub places_of : List Named → List ℕ
places_of lists = flat_map (λ named. range_with_len named.start (length named.names)) lists

-- from place `at` on, the first place that is not for itself, or at which the row ends before `count` or goes on there
abbrev pub misplaced : ℕ → ℕ → List ℕ → Option ℕ
misplaced count at [] = if at == count then None else Some at
misplaced count at (place ∷ places) = if nat_lt at count && place == at then misplaced count (at + 1) places else Some at

abbrev pub unless_misplaced : {A : Type 0} → Option ℕ → A → Result A InfoFault
unless_misplaced None value = Ok value
unless_misplaced (Some at) value = Err (fault.BadModules at)

-- the names, where they fill the places below their number in order
abbrev pub names_in_place : ℕ → List Named → Result (List (List ℕ)) InfoFault
names_in_place count lists = unless_misplaced (misplaced count 0 (places_of lists)) (flat_map (λ named. named.names) lists)

-- ---- the whole

unfoldable pub devmod_of : List Pair → Result Devmod InfoFault
devmod_of pairs =
    needed true_of key.Active pairs
    >>= λ active. needed text_of key.Os pairs
    >>= λ os. needed text_of key.Arch pairs
    >>= λ arch. needed text_of key.Version pairs
    >>= λ version. needed text_of key.Device pairs
    >>= λ device. needed text_of key.Bin pairs
    >>= λ bin. needed unsigned_of key.NumModules pairs
    >>= λ count. lists_needed pairs
    >>= λ lists. names_in_place count lists
    >>= λ modules. Ok (record { os = os; arch = arch; version = version; device = device; bin = bin; modules = modules })
