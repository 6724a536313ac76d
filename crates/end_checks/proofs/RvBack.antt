-- Rendezvous information is read back from the bytes that it is written as.
use Rattle.std.proofs.Common.{◌≡◌, ℕ, ◌^◌, ◌<◌, if◌then◌else◌, true, false, List, [], ◌∷◌, map, length, Option, Some, None, Ok, refl, sym, ap, subst, ◌∙◌}
use Rattle.std.specs.Prelude.{is_some}
use Rattle.std.specs.List.{AllByRecursion}
use Rattle.std.proofs.lemmas.Bool.{eq-eqb}
use Rattle.std.proofs.lemmas.List.{append-nil}
use Rattle.cbor_core.specs.declared.item.Item.{Item}
use Rattle.cbor_core.specs.declared.item.Item.TheVariants as items
use Rattle.cbor_core.specs.Deterministic.{det}
use Rattle.cbor_core.specs.Norm.{norm, IsFit, IsReadBack}
use Rattle.cbor_core.specs.Reading.{first_item}
use Rattle.cbor_core.specs.Shapes.{array_layer}
use Rattle.cbor_core.specs.Whole.{whole_of}
use Rattle.cbor_core.proofs.NormLaws.{norm_uint, norm_bytes, norm_array}
use Rattle.voucher_chain.specs.declared.rv_info.RvInstr.{RvInstr}
use Rattle.voucher_chain.specs.Fault.{◌>>=◌, all_in}
use Rattle.voucher_chain.specs.RvInfo.{instr_in, directive_in, rv_in, value_items, item_of_instr, item_of_directive, item_of_rv, AreNumbers}
use Rattle.voucher_chain.proofs.InMemory.{rv_fit}
use Rattle.voucher_chain.proofs.Seen.{two_some}
use Rattle.credential_store.specs.Body.{is_rv}

all_back : {X A : Type 0} (said : X → Option A) (made : A → X) → ((a : A) → said (made a) ≡ Some a) → (xs : List A) → all_in said (map made xs) ≡ Some xs
all_back said made one [] = refl
all_back said made one (x ∷ xs) = two_some (said (made x)) (all_in said (map made xs)) x xs (one x) (all_back said made one xs)

instr_by : (n : ℕ) (o : Option (List ℕ)) → instr_in (items.Array (items.Uint n ∷ value_items o)) ≡ Some (record { variable = n; value = o })
instr_by n None = rw (items.outs-Array (items.Uint n ∷ []), items.outs-Uint n) refl
instr_by n (Some b) = rw (items.outs-Array (items.Uint n ∷ items.Bytes b ∷ []), items.outs-Uint n, items.outs-Bytes b) refl

instr_back : (i : RvInstr) → instr_in (item_of_instr i) ≡ Some i
instr_back i = instr_by i.variable i.value

directive_back : (d : List RvInstr) → directive_in (item_of_directive d) ≡ Some d
directive_back d = ap (λ f. array_layer f >>= λ xs. all_in instr_in xs) (items.outs-Array (map item_of_instr d)) ∙ all_back instr_in item_of_instr instr_back d

rv_back : (rv : List (List RvInstr)) → rv_in (item_of_rv rv) ≡ Some rv
rv_back rv = ap (λ f. array_layer f >>= λ xs. all_in directive_in xs) (items.outs-Array (map item_of_directive rv)) ∙ all_back directive_in item_of_directive directive_back rv

map_same : {X : Type 0} (made : X → Item) → ((x : X) → norm (made x) ≡ made x) → (xs : List X) → map norm (map made xs) ≡ map made xs
map_same made one [] = refl
map_same made one (x ∷ xs) = rw (one x, map_same made one xs) refl

norm_value : (n : ℕ) (o : Option (List ℕ)) → norm (items.Array (items.Uint n ∷ value_items o)) ≡ items.Array (items.Uint n ∷ value_items o)
norm_value n None = norm_array (items.Uint n ∷ []) ∙ (rw (norm_uint n) refl)
norm_value n (Some b) = norm_array (items.Uint n ∷ items.Bytes b ∷ []) ∙ (rw (norm_uint n, norm_bytes b) refl)

norm_instr : (i : RvInstr) → norm (item_of_instr i) ≡ item_of_instr i
norm_instr i = norm_value i.variable i.value

norm_directive : (d : List RvInstr) → norm (item_of_directive d) ≡ item_of_directive d
norm_directive d = norm_array (map item_of_instr d) ∙ ap items.Array (map_same item_of_instr norm_instr d)

norm_rv : (rv : List (List RvInstr)) → norm (item_of_rv rv) ≡ item_of_rv rv
norm_rv rv = norm_array (map item_of_directive rv) ∙ ap items.Array (map_same item_of_directive norm_directive rv)

read_is : (x : Item) (rv : List (List RvInstr)) (bytes : List ℕ) → first_item false bytes ≡ Ok (x, length bytes) → rv_in x ≡ Some rv → is_rv bytes ≡ true
unfolding is_rv
read_is x rv bytes read said =
    ap (λ r. is_some (whole_of (length bytes) r >>= rv_in)) read
    ∙ ap (λ b. is_some ((if b then Some x else None) >>= rv_in)) (eq-eqb (length bytes) (length bytes) refl)
    ∙ ap (λ (o : Option (List (List RvInstr))). is_some o) said

-- the bytes spell rendezvous information
pub rv_is : (rv : List (List RvInstr)) (item : Item) (bytes : List ℕ) → item ≡ item_of_rv rv → bytes ≡ det item → AllByRecursion AreNumbers rv → length bytes < 2 ^ 64 → (IsFit item → IsReadBack item bytes) → is_rv bytes ≡ true
rv_is rv item bytes is written numbers small back =
    let fit : IsFit item = subst IsFit (sym is) (rv_fit 12 rv numbers (subst (λ b. length b < 2 ^ 64) (written ∙ ap det is) small)) in
    let read : first_item false bytes ≡ Ok (item, length bytes) =
    ap (first_item false) (sym (append-nil bytes)) ∙ (back fit []).1 ∙ ap (λ x. Ok (x, length bytes)) (ap norm is ∙ norm_rv rv ∙ sym is) in
    read_is item rv bytes read (ap rv_in is ∙ rv_back rv)
