-- The deterministic spelling and the norm of one layer of an item.
use Rattle.std.proofs.Common.{◌≡◌, ℕ, suc, List, [], ◌∷◌, ◌++◌, map, length, refl, sym, ap, ◌∙◌}
use Rattle.std.specs.List.{concat}
use Rattle.cbor_core.specs.declared.item.Item.{Item, roll-Item}
use Rattle.cbor_core.specs.declared.item.Item.TheOpen.{Item-F}
use Rattle.cbor_core.specs.declared.item.Item.TheFolds.{fold-roll-Item}
use Rattle.cbor_core.specs.declared.item.Item.TheVariants as items
use Rattle.cbor_core.specs.Head.{head}
use Rattle.cbor_core.specs.Deterministic.{det, det_step, det_pairs, in_key_order}
use Rattle.cbor_core.specs.Norm.{norm, norm_step, in_order}

abbrev pub det_pair : Item × Item → List ℕ × List ℕ
det_pair p = (det p.0, det p.1)

abbrev pub norm_pair : Item × Item → Item × Item
norm_pair p = (norm p.0, norm p.1)

pub length_map : {X Y : Type 0} (f : X → Y) (xs : List X) → length (map f xs) ≡ length xs
length_map f [] = refl
length_map f (x ∷ xs) = ap suc (length_map f xs)

pub det_uint : (n : ℕ) → det (roll-Item (Item-F.Uint n)) ≡ head 0 n
det_uint n = fold-roll-Item (List ℕ) det_step (Item-F.Uint n)

pub det_nint : (n : ℕ) → det (roll-Item (Item-F.Nint n)) ≡ head 1 n
det_nint n = fold-roll-Item (List ℕ) det_step (Item-F.Nint n)

pub det_bytes : (b : List ℕ) → det (roll-Item (Item-F.Bytes b)) ≡ head 2 (length b) ++ b
det_bytes b = fold-roll-Item (List ℕ) det_step (Item-F.Bytes b)

pub det_text : (t : List ℕ) → det (roll-Item (Item-F.Text t)) ≡ head 3 (length t) ++ t
det_text t = fold-roll-Item (List ℕ) det_step (Item-F.Text t)

pub det_array : (xs : List Item) → det (roll-Item (Item-F.Array xs)) ≡ head 4 (length xs) ++ concat (map det xs)
det_array xs = fold-roll-Item (List ℕ) det_step (Item-F.Array xs) ∙ ap (λ n. head 4 n ++ concat (map det xs)) (length_map det xs)

pub det_map : (ps : List (Item × Item)) → det (roll-Item (Item-F.Map ps)) ≡ det_pairs (in_key_order (map det_pair ps))
det_map ps = fold-roll-Item (List ℕ) det_step (Item-F.Map ps)

pub det_tag : (t : ℕ) (x : Item) → det (roll-Item (Item-F.Tag t x)) ≡ head 6 t ++ det x
det_tag t x = fold-roll-Item (List ℕ) det_step (Item-F.Tag t x)

pub det_simple : (n : ℕ) → det (roll-Item (Item-F.Simple n)) ≡ head 7 n
det_simple n = fold-roll-Item (List ℕ) det_step (Item-F.Simple n)

pub norm_uint : (n : ℕ) → norm (roll-Item (Item-F.Uint n)) ≡ roll-Item (Item-F.Uint n)
norm_uint n = fold-roll-Item Item norm_step (Item-F.Uint n) ∙ sym (items.rolls-Uint n)

pub norm_nint : (n : ℕ) → norm (roll-Item (Item-F.Nint n)) ≡ roll-Item (Item-F.Nint n)
norm_nint n = fold-roll-Item Item norm_step (Item-F.Nint n) ∙ sym (items.rolls-Nint n)

pub norm_bytes : (b : List ℕ) → norm (roll-Item (Item-F.Bytes b)) ≡ roll-Item (Item-F.Bytes b)
norm_bytes b = fold-roll-Item Item norm_step (Item-F.Bytes b) ∙ sym (items.rolls-Bytes b)

pub norm_text : (t : List ℕ) → norm (roll-Item (Item-F.Text t)) ≡ roll-Item (Item-F.Text t)
norm_text t = fold-roll-Item Item norm_step (Item-F.Text t) ∙ sym (items.rolls-Text t)

pub norm_array : (xs : List Item) → norm (roll-Item (Item-F.Array xs)) ≡ roll-Item (Item-F.Array (map norm xs))
norm_array xs = fold-roll-Item Item norm_step (Item-F.Array xs) ∙ sym (items.rolls-Array (map norm xs))

pub norm_map : (ps : List (Item × Item)) → norm (roll-Item (Item-F.Map ps)) ≡ roll-Item (Item-F.Map (in_order (map norm_pair ps)))
norm_map ps = fold-roll-Item Item norm_step (Item-F.Map ps) ∙ sym (items.rolls-Map (in_order (map norm_pair ps)))

pub norm_tag : (t : ℕ) (x : Item) → norm (roll-Item (Item-F.Tag t x)) ≡ roll-Item (Item-F.Tag t (norm x))
norm_tag t x = fold-roll-Item Item norm_step (Item-F.Tag t x) ∙ sym (items.rolls-Tag t (norm x))

pub norm_simple : (n : ℕ) → norm (roll-Item (Item-F.Simple n)) ≡ roll-Item (Item-F.Simple n)
norm_simple n = fold-roll-Item Item norm_step (Item-F.Simple n) ∙ sym (items.rolls-Simple n)
