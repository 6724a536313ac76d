-- Rendezvous information that is written is read back.
use Rattle.std.proofs.Common.{◌≡◌, ℕ, List, [], ◌∷◌, map, Option, Some, None, refl, ap, ◌∙◌}
use Rattle.cbor_core.specs.declared.item.Item.{Item, out-Item}
use Rattle.cbor_core.specs.declared.item.Item.TheVariants as items
use Rattle.cbor_core.specs.Norm.{norm}
use Rattle.cbor_core.specs.Shapes.{array_layer}
use Rattle.cbor_core.proofs.NormLaws.{norm_uint, norm_bytes, norm_array}
use Rattle.voucher_chain.specs.declared.rv_info.RvInstr.{RvInstr}
use Rattle.voucher_chain.specs.Fault.{◌>>=◌, all_in}
use Rattle.voucher_chain.specs.RvInfo.{instr_in, directive_in, rv_in, value_items, item_of_instr, item_of_directive, item_of_rv}
use Rattle.voucher_chain.proofs.Seen.{two_some}

all_back : {X A : Type 0} (said : X → Option A) (made : A → X) → ((a : A) → said (made a) ≡ Some a) → (xs : List A) → all_in said (map made xs) ≡ Some xs
all_back said made one [] = refl
all_back said made one (x ∷ xs) = two_some (said (made x)) (all_in said (map made xs)) x xs (one x) (all_back said made one xs)

instr_by : (n : ℕ) (o : Option (List ℕ)) → instr_in (items.Array (items.Uint n ∷ value_items o)) ≡ Some (record { variable = n; value = o })
instr_by n None = rw (items.outs-Array (items.Uint n ∷ []), items.outs-Uint n) refl
instr_by n (Some b) = rw (items.outs-Array (items.Uint n ∷ items.Bytes b ∷ []), items.outs-Uint n, items.outs-Bytes b) refl

instr_back : (i : RvInstr) → instr_in (item_of_instr i) ≡ Some i
instr_back i = instr_by i.variable i.value

directive_back : (d : List RvInstr) → directive_in (item_of_directive d) ≡ Some d
directive_back d = ap (λ f. array_layer f >>= λ xs. all_in instr_in xs) (items.outs-Array (map item_of_instr d)) ∙ all_back instr_in item_of_instr instr_back d

pub rv_back : (rv : List (List RvInstr)) → rv_in (item_of_rv rv) ≡ Some rv
rv_back rv = ap (λ f. array_layer f >>= λ xs. all_in directive_in xs) (items.outs-Array (map item_of_directive rv)) ∙ all_back directive_in item_of_directive directive_back rv

map_same : {X : Type 0} (made : X → Item) → ((x : X) → norm (made x) ≡ made x) → (xs : List X) → map norm (map made xs) ≡ map made xs
map_same made one [] = refl
map_same made one (x ∷ xs) = rw (one x, map_same made one xs) refl

norm_value : (n : ℕ) (o : Option (List ℕ)) → norm (items.Array (items.Uint n ∷ value_items o)) ≡ items.Array (items.Uint n ∷ value_items o)
norm_value n None = norm_array (items.Uint n ∷ []) ∙ (rw (norm_uint n) refl)
norm_value n (Some b) = norm_array (items.Uint n ∷ items.Bytes b ∷ []) ∙ (rw (norm_uint n, norm_bytes b) refl)

norm_instr : (i : RvInstr) → norm (item_of_instr i) ≡ item_of_instr i
norm_instr i = norm_value i.variable i.value

norm_directive : (d : List RvInstr) → norm (item_of_directive d) ≡ item_of_directive d
norm_directive d = norm_array (map item_of_instr d) ∙ ap items.Array (map_same item_of_instr norm_instr d)

pub norm_rv : (rv : List (List RvInstr)) → norm (item_of_rv rv) ≡ item_of_rv rv
norm_rv rv = norm_array (map item_of_directive rv) ∙ ap items.Array (map_same item_of_directive norm_directive rv)
