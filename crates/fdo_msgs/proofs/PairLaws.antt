-- The pairs at the places of an array are those of its items.
use Rattle.std.proofs.Common.{◌≡◌, List, [], ◌∷◌, map, Bool, true, false, Option, Some, None, refl, sym, ap, subst, ◌∙◌}
use Rattle.cbor_core.specs.declared.item.Item.{Item, out-Item}
use Rattle.cbor_core.specs.declared.item.Item.TheOpen.{Item-F}
use Rattle.cbor_core.specs.Parts.{inner, inner_in}
use Rattle.cbor_core.specs.Shapes.{is_array, array_layer}
use Rattle.cbor_core.specs.Spots.{Spot, spot_item}
use Rattle.voucher_chain.specs.Fault.{◌>>=◌, all_in}
use Rattle.service_info.specs.declared.pair.Pair.{Pair}
use Rattle.fdo_msgs.specs.Info.{pair_in, pairs_in}

all_items : (ss : List Spot) → all_in (λ s. pair_in (spot_item s)) ss ≡ all_in pair_in (map spot_item ss)
all_items [] = refl
all_items (s ∷ ss) = ap (λ (o : Option (List Pair)). pair_in (spot_item s) >>= λ value. o >>= λ values. Some (value ∷ values)) (all_items ss)

layer_said : (f : Item-F Item) (xs : List Item) → is_array f ≡ true → xs ≡ inner_in f → (array_layer f >>= λ ys. all_in pair_in ys) ≡ all_in pair_in xs
layer_said (Item-F.Uint n) xs is e = absurd (cc is)
layer_said (Item-F.Nint n) xs is e = absurd (cc is)
layer_said (Item-F.Bytes b) xs is e = absurd (cc is)
layer_said (Item-F.Text t) xs is e = absurd (cc is)
layer_said (Item-F.Array ys) xs is e = ap (all_in pair_in) (sym e)
layer_said (Item-F.Map ps) xs is e = absurd (cc is)
layer_said (Item-F.Tag t x) xs is e = absurd (cc is)
layer_said (Item-F.Simple n) xs is e = absurd (cc is)

layer_none : (f : Item-F Item) → is_array f ≡ false → (array_layer f >>= λ ys. all_in pair_in ys) ≡ None
layer_none (Item-F.Uint n) is = refl
layer_none (Item-F.Nint n) is = refl
layer_none (Item-F.Bytes b) is = refl
layer_none (Item-F.Text t) is = refl
layer_none (Item-F.Array ys) is = absurd (cc is)
layer_none (Item-F.Map ps) is = refl
layer_none (Item-F.Tag t x) is = refl
layer_none (Item-F.Simple n) is = refl

pub pairs_said : (x : Item) (ss : List Spot) → is_array (out-Item x) ≡ true → map spot_item ss ≡ inner x → pairs_in x ≡ all_in (λ s. pair_in (spot_item s)) ss
pairs_said x ss is e = layer_said (out-Item x) (map spot_item ss) is e ∙ sym (all_items ss)

pub pairs_none : (x : Item) → is_array (out-Item x) ≡ false → pairs_in x ≡ None
pairs_none x is = layer_none (out-Item x) is
