-- A strict spelling is the deterministic one, of an item whose maps' pairs are in order.
use Rattle.std.proofs.Common.{◌≡◌, ℕ, zero, suc, ◌%◌, ◌^◌, true, List, [], ◌∷◌, ◌++◌, map, flat_map, length, refl, sym, ap, subst, ◌∙◌, append_assoc, arith, inl, inr}
use Rattle.std.specs.Prelude.{fold}
use Rattle.std.specs.List.{concat}
use Rattle.std.specs.Ordering.{nat_cmp}
use Rattle.std.specs.Cmp.Lexicographic.{slice_cmp}
use Rattle.std.specs.BTreeMap.{insert_entry}
use Rattle.std.proofs.lemmas.List.{append-nil}
use Rattle.std.proofs.lemmas.Bool.{lt-ltb, le-ltb, leb-true}
use Rattle.cbor_core.specs.declared.head.Major.{Major}
use Rattle.cbor_core.specs.declared.head.Major.TheVariants as major
use Rattle.cbor_core.specs.declared.head.Size.{Size}
use Rattle.cbor_core.specs.declared.head.Size.TheVariants as size
use Rattle.cbor_core.specs.declared.item.Item.{Item, out-Item, roll-Item, roll-out-Item}
use Rattle.cbor_core.specs.declared.item.Item.TheOpen.{Item-F}
use Rattle.cbor_core.specs.Head.{head}
use Rattle.cbor_core.specs.Deterministic.{det, det_pairs, in_key_order}
use Rattle.cbor_core.specs.Norm.{norm, in_order}
use Rattle.cbor_core.specs.Reading.{key_spellings}
use Rattle.cbor_core.specs.Spelling.{code, FitsIn, is_shortest, head_in, IsHead, SpellsRow, IsCounted, IsString, IsSimple, IsPair, SpellsLayer, SpellsWithin}
use Rattle.cbor_core.proofs.Dets.{det_pair, norm_pair, length_map, det_uint, det_nint, det_bytes, det_text, det_array, det_map, det_tag, det_simple, norm_uint, norm_nint, norm_bytes, norm_text, norm_array, norm_map, norm_tag, norm_simple}
use Rattle.cbor_core.proofs.Order.{above_from, put_end, IsAbove}

-- ---- heads

pub shortest_is : (m : Major) (form : Size) (n : ℕ) → FitsIn form n → is_shortest form n ≡ true → head_in m form n ≡ head (code m) n
unfolding head
shortest_is m size.Inside n fits short = rw (lt-ltb n 24 fits) refl
shortest_is m size.One n fits short = let low = leb-true 24 n short in rw (le-ltb n 24 low, lt-ltb n (2 ^ 8) fits) refl
shortest_is m size.Two n fits short =
    let low = leb-true (2 ^ 8) n short in
    rw (le-ltb n 24 (omega (arith, low)), le-ltb n (2 ^ 8) low, lt-ltb n (2 ^ 16) fits) refl
shortest_is m size.Four n fits short =
    let low = leb-true (2 ^ 16) n short in
    rw (le-ltb n 24 (omega (arith, low)), le-ltb n (2 ^ 8) (omega (arith, low)), le-ltb n (2 ^ 16) low, lt-ltb n (2 ^ 32) fits) refl
shortest_is m size.Eight n fits short =
    let low = leb-true (2 ^ 32) n short in
    rw (le-ltb n 24 (omega (arith, low)), le-ltb n (2 ^ 8) (omega (arith, low)), le-ltb n (2 ^ 16) (omega (arith, low)), le-ltb n (2 ^ 32) low) refl
shortest_is m size.Reserved n fits short = absurd fits
shortest_is m size.Indefinite n fits short = absurd fits

head_strict : (m : Major) (n : ℕ) (text : List ℕ) → IsHead true m n text → text ≡ head (code m) n
head_strict m n text h = h.bytes ∙ shortest_is m h.form n h.fits (h.shortest refl)

simple_strict : (n : ℕ) (text : List ℕ) → IsSimple n text → text ≡ head 7 n
unfolding head
simple_strict n text (inl h) = h.1 ∙ rw (lt-ltb n 24 h.0) refl
simple_strict n text (inr h) =
    let small : n % 256 ≡ n = omega (arith, h.1) in
    h.2 ∙ rw (le-ltb n 24 (omega (arith, h.0)), lt-ltb n (2 ^ 8) h.1, small) refl

-- ---- rows

-- what is true of a strict spelling of an item, in one
pub record IsDet (x : Item) (text : List ℕ) : Type 0 where
  pub text_is : text ≡ det x
  pub normed : norm x ≡ x

module _ (spells : Item → List ℕ → Type 0) (dets : (x : Item) (text : List ℕ) → spells x text → IsDet x text) where
  items_det : (before xs : List Item) (row : List ℕ) → SpellsRow (λ before. spells) before xs row → (row ≡ concat (map det xs)) × (map norm xs ≡ xs)
  unfolding SpellsRow
  items_det before [] row h = (h, refl)
  items_det before (x ∷ xs) row h =
      let one = dets x h.0 h.2 in
      let more = items_det (before ++ x ∷ []) xs h.1 h.3 in
      (rw (h.4, one.text_is, more.0) refl, rw (one.normed, more.1) refl)

  pairs_det : (before ps : List (Item × Item)) (row : List ℕ) → SpellsRow (IsPair true spells) before ps row → (row ≡ flat_map (λ p. p.0 ++ p.1) (map det_pair ps)) × (map norm_pair ps ≡ ps)
  unfolding SpellsRow
  pairs_det before [] row h = (h, refl)
  pairs_det before (p ∷ ps) row h =
      let key = dets p.0 h.2.key h.2.has_key in
      let value = dets p.1 h.2.value h.2.has_value in
      let more = pairs_det (before ++ p ∷ []) ps h.1 h.3 in
      (rw (h.4, h.2.bytes, key.text_is, value.text_is, more.0) refl, rw (key.normed, value.normed, more.1) refl)

  -- pairs whose keys ascend stay where they are
  module _ {X : Type 0} (f : Item × Item → X) where
    abbrev keyed : Item × Item → List ℕ × X
    keyed p = (det p.0, f p)

    keys_keyed : (ps : List (Item × Item)) → map (λ e. e.0) (map keyed ps) ≡ key_spellings ps
    keys_keyed [] = refl
    keys_keyed (p ∷ ps) = ap (λ t. det p.0 ∷ t) (keys_keyed ps)

    map_push : (ps : List (Item × Item)) (p : Item × Item) → map keyed (ps ++ p ∷ []) ≡ map keyed ps ++ keyed p ∷ []
    map_push [] p = refl
    map_push (q ∷ qs) p = ap (λ t. keyed q ∷ t) (map_push qs p)

    stay : (before ps : List (Item × Item)) (row : List ℕ) → SpellsRow (IsPair true spells) before ps row
        → fold (λ sorted p. insert_entry (slice_cmp nat_cmp) sorted p.0 p.1) (map keyed before) (map keyed ps) ≡ map keyed (before ++ ps)
    unfolding SpellsRow
    stay before [] row h = ap (map keyed) (sym (append-nil before))
    stay before (p ∷ ps) row h =
        let above : IsAbove (det p.0) (key_spellings before) = above_from (det p.0) (key_spellings before) h.2.fresh (h.2.ascending refl) in
        let one = put_end (map keyed before) (keyed p) (subst (IsAbove (det p.0)) (sym (keys_keyed before)) above) ∙ sym (map_push before p) in
        ap (λ t. fold (λ sorted p. insert_entry (slice_cmp nat_cmp) sorted p.0 p.1) t (map keyed ps)) one ∙ stay (before ++ p ∷ []) ps h.1 h.3 ∙ ap (map keyed) (append_assoc before (p ∷ []) ps)

  counted_head : {A : Type 0} (elements : List A → A → List ℕ → Type 0) (m : Major) (xs : List A) (text : List ℕ) → (h : IsCounted elements true m xs text) → text ≡ head (code m) (length xs) ++ h.row
  counted_head elements m xs text h = h.bytes ∙ ap (λ t. t ++ h.row) (head_strict m (length xs) h.head h.has_head)

  string_det : (m : Major) (content text : List ℕ) → IsString true m content text → text ≡ head (code m) (length content) ++ content
  string_det m content text h = h.bytes ∙ ap (λ t. t ++ content) (head_strict m (length content) h.head h.has_head)

  layer_det : (f : Item-F Item) (text : List ℕ) → SpellsLayer true spells f text → IsDet (roll-Item f) text
  layer_det (Item-F.Uint n) text h = record { text_is = head_strict major.Unsigned n text h ∙ sym (det_uint n); normed = norm_uint n }
  layer_det (Item-F.Nint n) text h = record { text_is = head_strict major.Negative n text h ∙ sym (det_nint n); normed = norm_nint n }
  layer_det (Item-F.Bytes b) text (inl h) = record { text_is = string_det major.Bytes b text h ∙ sym (det_bytes b); normed = norm_bytes b }
  layer_det (Item-F.Bytes b) text (inr h) = absurd (cc h.has_chunks.loose)
  layer_det (Item-F.Text t) text (inl h) = record { text_is = string_det major.Text t text h ∙ sym (det_text t); normed = norm_text t }
  layer_det (Item-F.Text t) text (inr h) = absurd (cc h.has_chunks.loose)
  layer_det (Item-F.Array xs) text (inl h) =
      let row = items_det [] xs h.row h.has_row in
      record {
        text_is = counted_head (λ before. spells) major.Array xs text h ∙ ap (λ t. head 4 (length xs) ++ t) row.0 ∙ sym (det_array xs);
        normed = norm_array xs ∙ ap (λ ys. roll-Item (Item-F.Array ys)) row.1;
      }
  layer_det (Item-F.Array xs) text (inr h) = absurd (cc h.loose)
  layer_det (Item-F.Map ps) text (inl h) =
      let row = pairs_det [] ps h.row h.has_row in
      let sorted : in_key_order (map det_pair ps) ≡ map det_pair ps = stay (λ p. det p.1) [] ps h.row h.has_row in
      let kept : in_order ps ≡ ps = ap (map (λ (e : List ℕ × (Item × Item)). e.1)) (stay (λ p. p) [] ps h.row h.has_row) ∙ unkeyed ps in
      record {
        text_is = counted_head (IsPair true spells) major.Map ps text h ∙ ap (λ t. head 5 (length ps) ++ t) row.0
            ∙ ap (λ n. head 5 n ++ flat_map (λ p. p.0 ++ p.1) (map det_pair ps)) (sym (length_map det_pair ps)) ∙ ap det_pairs (sym sorted) ∙ sym (det_map ps);
        normed = norm_map ps ∙ ap (λ qs. roll-Item (Item-F.Map (in_order qs))) row.1 ∙ ap (λ qs. roll-Item (Item-F.Map qs)) kept;
      }
    where
      unkeyed : (ps : List (Item × Item)) → map (λ (e : List ℕ × (Item × Item)). e.1) (map (λ p. (det p.0, p)) ps) ≡ ps
      unkeyed [] = refl
      unkeyed (p ∷ ps) = ap (λ t. p ∷ t) (unkeyed ps)
  layer_det (Item-F.Map ps) text (inr h) = absurd (cc h.loose)
  layer_det (Item-F.Tag t x) text h =
      let one = dets x h.content h.has_content in
      record {
        text_is = h.bytes ∙ ap (λ u. u ++ h.content) (head_strict major.Tag t h.head h.has_head) ∙ ap (λ u. head 6 t ++ u) one.text_is ∙ sym (det_tag t x);
        normed = norm_tag t x ∙ ap (λ y. roll-Item (Item-F.Tag t y)) one.normed;
      }
  layer_det (Item-F.Simple n) text h = record { text_is = simple_strict n text h ∙ sym (det_simple n); normed = norm_simple n }

pub strict_det : (levels : ℕ) (x : Item) (text : List ℕ) → SpellsWithin true levels x text → IsDet x text
unfolding SpellsWithin
strict_det zero x text h = absurd h
strict_det (suc levels) x text h = subst (λ y. IsDet y text) (roll-out-Item x) (layer_det (SpellsWithin true levels) (strict_det levels) (out-Item x) text h)
