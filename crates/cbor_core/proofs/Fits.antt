-- The deterministic spelling of a fit item spells its norm, and strictly.
use Rattle.std.proofs.Common.{◌≡◌, ℕ, zero, suc, ◌%◌, ◌^◌, ◌<◌, ◌≤◌, true, List, [], ◌∷◌, ◌++◌, map, flat_map, length, ◌⊎◌, refl, sym, ap, subst, ◌∙◌, arith, inl, inr}
use Rattle.std.specs.List.{concat, AllByRecursion}
use Rattle.std.proofs.lemmas.Bool.{cases_lt, lt-ltb, le-ltb, le-leb}
use Rattle.cbor_core.specs.declared.head.Major.{Major}
use Rattle.cbor_core.specs.declared.head.Major.TheVariants as major
use Rattle.cbor_core.specs.declared.head.Size.{Size}
use Rattle.cbor_core.specs.declared.head.Size.TheVariants as size
use Rattle.cbor_core.specs.declared.item.Item.{Item, out-Item, roll-Item, roll-out-Item, out-roll-Item}
use Rattle.cbor_core.specs.declared.item.Item.TheOpen.{Item-F}
use Rattle.cbor_core.specs.Head.{head}
use Rattle.cbor_core.specs.Deterministic.{det, det_pairs, in_key_order}
use Rattle.cbor_core.specs.Norm.{norm, IsFitLayer, IsFitWithin}
use Rattle.cbor_core.specs.Reading.{is_content, key_spellings}
use Rattle.cbor_core.specs.Spelling.{code, FitsIn, is_shortest, IsHead, SpellsRow, IsCounted, IsString, IsSimple, IsPair, SpellsLayer, SpellsWithin}
use Rattle.cbor_core.proofs.Dets.{det_pair, norm_pair, length_map, det_uint, det_nint, det_bytes, det_text, det_array, det_map, det_tag, det_simple, norm_uint, norm_nint, norm_bytes, norm_text, norm_array, norm_map, norm_tag, norm_simple}
use Rattle.cbor_core.proofs.Order.{IsAbove, IsBelowAll, Ascends, above_fresh, above_ascends, above_push, less_greater, ascends_all, each_in_order, length_in_order, map_in_order, along}
use Rattle.cbor_core.proofs.Strict.{IsDet, strict_det, shortest_is}

-- ---- heads

made : (m : Major) (form : Size) (n : ℕ) → FitsIn form n → is_shortest form n ≡ true → IsHead true m n (head (code m) n)
made m form n fits short = record { form = form; fits = fits; shortest = λ e. short; bytes = sym (shortest_is m form n fits short) }

head_fits : (m : Major) (n : ℕ) → n < 2 ^ 64 → IsHead true m n (head (code m) n)
head_fits m n lt = elim (cases_lt n 24) [
  | inl a ↦ made m size.Inside n a refl
  | inr a ↦ elim (cases_lt n (2 ^ 8)) [
    | inl b ↦ made m size.One n b (le-leb 24 n a)
    | inr b ↦ elim (cases_lt n (2 ^ 16)) [
      | inl c ↦ made m size.Two n c (le-leb (2 ^ 8) n b)
      | inr c ↦ elim (cases_lt n (2 ^ 32)) [
        | inl d ↦ made m size.Four n d (le-leb (2 ^ 16) n c)
        | inr d ↦ made m size.Eight n lt (le-leb (2 ^ 32) n d)
      ]
    ]
  ]
]

simple_fits : (n : ℕ) → (n < 24) ⊎ ((32 ≤ n) × (n < 2 ^ 8)) → IsSimple n (head 7 n)
unfolding head
simple_fits n (inl h) = inl (h, rw (lt-ltb n 24 h) refl)
simple_fits n (inr h) =
    let small : n % 256 ≡ n = omega (arith, h.1) in
    inr (h.0, h.1, rw (le-ltb n 24 (omega (arith, h.0)), lt-ltb n (2 ^ 8) h.1, small) refl)

-- ---- rows

module _ (spells : Item → List ℕ → Type 0) (fits : Item → Type 0) (spelled : (x : Item) → fits x → spells (norm x) (det x)) (dets : (x : Item) (text : List ℕ) → spells x text → IsDet x text) where
  -- an item's norm has its spelling
  same_det : (x : Item) → fits x → det (norm x) ≡ det x
  same_det x h = sym (dets (norm x) (det x) (spelled x h)).text_is

  items_row : (before xs : List Item) → AllByRecursion fits xs → SpellsRow (λ before. spells) before (map norm xs) (concat (map det xs))
  unfolding SpellsRow
  items_row before [] h = refl
  items_row before (x ∷ xs) h = (det x, concat (map det xs), spelled x h.0, items_row (before ++ norm x ∷ []) xs h.1, refl)

  -- an entry of a map in order: a key's spelling, and a pair that fits
  abbrev IsEntry : List ℕ × (Item × Item) → Type 0
  IsEntry e = (e.0 ≡ det e.1.0) × fits e.1.0 × fits e.1.1

  entries_of : (ps : List (Item × Item)) → AllByRecursion (λ p. fits p.0 × fits p.1) ps → AllByRecursion IsEntry (map (λ p. (det p.0, p)) ps)
  entries_of [] h = tt
  entries_of (p ∷ ps) h = ((refl, h.0.0, h.0.1), entries_of ps h.1)

  -- each entry is above those before it
  abbrev AreAbove : List (Item × Item) → List (List ℕ × (Item × Item)) → Type 0
  AreAbove before es = AllByRecursion (λ e. IsAbove e.0 (key_spellings before)) es

  key_push : (before : List (Item × Item)) (p : Item × Item) → key_spellings (before ++ p ∷ []) ≡ key_spellings before ++ det p.0 ∷ []
  key_push [] p = refl
  key_push (q ∷ qs) p = ap (λ t. det q.0 ∷ t) (key_push qs p)

  above_next : (before : List (Item × Item)) (p : Item × Item) (es : List (List ℕ × (Item × Item))) → AreAbove before es → IsBelowAll (det p.0) es → AreAbove (before ++ p ∷ []) es
  above_next before p [] h b = tt
  above_next before p (e ∷ es) h b =
      (subst (IsAbove e.0) (sym (key_push before p)) (above_push e.0 (key_spellings before) (det p.0) h.0 (less_greater (det p.0) e.0 b.0)), above_next before p es h.1 b.1)

  abbrev text_of : List ℕ × (Item × Item) → List ℕ
  text_of e = e.0 ++ det e.1.1

  pairs_row : (before : List (Item × Item)) (es : List (List ℕ × (Item × Item))) → AllByRecursion IsEntry es → Ascends es → AreAbove before es
      → SpellsRow (IsPair true spells) before (map (λ e. norm_pair e.1) es) (flat_map text_of es)
  unfolding SpellsRow
  pairs_row before [] h s a = refl
  pairs_row before (e ∷ es) h s a =
      let p = norm_pair e.1 in
      let key : e.0 ≡ det p.0 = h.0.0 ∙ sym (same_det e.1.0 h.0.1) in
      let above : IsAbove (det p.0) (key_spellings before) = subst (λ k. IsAbove k (key_spellings before)) key a.0 in
      let below : IsBelowAll (det p.0) es = subst (λ k. IsBelowAll k es) key s.0 in (
        text_of e,
        flat_map text_of es,
        record {
          key = e.0;
          value = det e.1.1;
          has_key = subst (spells p.0) (sym h.0.0) (spelled e.1.0 h.0.1);
          has_value = spelled e.1.1 h.0.2;
          fresh = above_fresh (det p.0) (key_spellings before) above;
          ascending = λ t. above_ascends (det p.0) (key_spellings before) above;
          bytes = refl;
        },
        pairs_row (before ++ p ∷ []) es h.1 s.1 (above_next before p es a.1 below),
        refl,
      )

  -- ---- a map's pairs in order

  abbrev keyed : Item × Item → List ℕ × (Item × Item)
  keyed p = (det p.0, p)

  abbrev ordered : List (Item × Item) → List (List ℕ × (Item × Item))
  ordered ps = in_key_order (map keyed ps)

  abbrev value_det : Item × Item → List ℕ
  value_det p = det p.1

  spelled_keyed : (ps : List (Item × Item)) → map det_pair ps ≡ map (along value_det) (map keyed ps)
  spelled_keyed [] = refl
  spelled_keyed (p ∷ ps) = ap (λ t. det_pair p ∷ t) (spelled_keyed ps)

  normed_keyed : (ps : List (Item × Item)) → AllByRecursion (λ p. fits p.0 × fits p.1) ps → map keyed (map norm_pair ps) ≡ map (along norm_pair) (map keyed ps)
  normed_keyed [] h = refl
  normed_keyed (p ∷ ps) h = rw (same_det p.0 h.0.0, normed_keyed ps h.1) refl

  flat_along : (es : List (List ℕ × (Item × Item))) → flat_map (λ (p : List ℕ × List ℕ). p.0 ++ p.1) (map (along value_det) es) ≡ flat_map text_of es
  flat_along [] = refl
  flat_along (e ∷ es) = ap (λ t. text_of e ++ t) (flat_along es)

  values_along : (es : List (List ℕ × (Item × Item))) → map (λ (e : List ℕ × (Item × Item)). e.1) (map (along norm_pair) es) ≡ map (λ e. norm_pair e.1) es
  values_along [] = refl
  values_along (e ∷ es) = ap (λ t. norm_pair e.1 ∷ t) (values_along es)

  map_det : (ps : List (Item × Item)) → det (roll-Item (Item-F.Map ps)) ≡ head 5 (length (ordered ps)) ++ flat_map text_of (ordered ps)
  map_det ps =
      let same : in_key_order (map det_pair ps) ≡ map (along value_det) (ordered ps) = ap in_key_order (spelled_keyed ps) ∙ sym (map_in_order value_det [] (map keyed ps)) in
      det_map ps ∙ ap det_pairs same ∙ ap (λ n. head 5 n ++ flat_map (λ (p : List ℕ × List ℕ). p.0 ++ p.1) (map (along value_det) (ordered ps))) (length_map (along value_det) (ordered ps))
      ∙ ap (λ t. head 5 (length (ordered ps)) ++ t) (flat_along (ordered ps))

  map_norm : (ps : List (Item × Item)) → AllByRecursion (λ p. fits p.0 × fits p.1) ps → norm (roll-Item (Item-F.Map ps)) ≡ roll-Item (Item-F.Map (map (λ e. norm_pair e.1) (ordered ps)))
  map_norm ps h =
      let same : in_key_order (map keyed (map norm_pair ps)) ≡ map (along norm_pair) (ordered ps) = ap in_key_order (normed_keyed ps h) ∙ sym (map_in_order norm_pair [] (map keyed ps)) in
      norm_map ps ∙ ap (λ es. roll-Item (Item-F.Map (map (λ (e : List ℕ × (Item × Item)). e.1) es))) same ∙ ap (λ qs. roll-Item (Item-F.Map qs)) (values_along (ordered ps))

  above_none : (es : List (List ℕ × (Item × Item))) → AreAbove [] es
  above_none [] = tt
  above_none (e ∷ es) = (tt, above_none es)

  map_fits : (ps : List (Item × Item)) → length ps < 2 ^ 64 → AllByRecursion (λ p. fits p.0 × fits p.1) ps
      → IsCounted (IsPair true spells) true major.Map (map (λ e. norm_pair e.1) (ordered ps)) (head 5 (length (ordered ps)) ++ flat_map text_of (ordered ps))
  map_fits ps lt h =
      let len : length (map (λ e. norm_pair e.1) (ordered ps)) ≡ length (ordered ps) = length_map (λ (e : List ℕ × (Item × Item)). norm_pair e.1) (ordered ps) in
      let few : length (ordered ps) < 2 ^ 64 = omega (arith, length_in_order [] (map keyed ps), length_map keyed ps) in
      record {
        head = head 5 (length (ordered ps));
        row = flat_map text_of (ordered ps);
        has_head = subst (λ n. IsHead true major.Map n (head 5 (length (ordered ps)))) (sym len) (head_fits major.Map (length (ordered ps)) few);
        has_row = pairs_row [] (ordered ps) (each_in_order IsEntry [] (map keyed ps) tt (entries_of ps h)) (ascends_all [] (map keyed ps) tt) (above_none (ordered ps));
        bytes = refl;
      }

  -- ---- layers

  abbrev Goal : Item-F Item → Type 0
  Goal f = SpellsLayer true spells (out-Item (norm (roll-Item f))) (det (roll-Item f))

  reach : (f g : Item-F Item) (text : List ℕ) → norm (roll-Item f) ≡ roll-Item g → det (roll-Item f) ≡ text → SpellsLayer true spells g text → Goal f
  reach f g text n d h = rw (n, d, out-roll-Item g) h

  string_fits : (m : Major) (content : List ℕ) → length content < 2 ^ 64 → is_content m content ≡ true → IsString true m content (head (code m) (length content) ++ content)
  string_fits m content lt fine = record { head = head (code m) (length content); has_head = head_fits m (length content) lt; is_fine = fine; bytes = refl }

  layer_fits : (f : Item-F Item) → IsFitLayer fits f → Goal f
  layer_fits (Item-F.Uint n) h = reach (Item-F.Uint n) (Item-F.Uint n) (head 0 n) (norm_uint n) (det_uint n) (head_fits major.Unsigned n h)
  layer_fits (Item-F.Nint n) h = reach (Item-F.Nint n) (Item-F.Nint n) (head 1 n) (norm_nint n) (det_nint n) (head_fits major.Negative n h)
  layer_fits (Item-F.Bytes b) h = reach (Item-F.Bytes b) (Item-F.Bytes b) (head 2 (length b) ++ b) (norm_bytes b) (det_bytes b) (inl (string_fits major.Bytes b h refl))
  layer_fits (Item-F.Text t) h = reach (Item-F.Text t) (Item-F.Text t) (head 3 (length t) ++ t) (norm_text t) (det_text t) (inl (string_fits major.Text t h.0 h.1))
  layer_fits (Item-F.Array xs) h = reach (Item-F.Array xs) (Item-F.Array (map norm xs)) (head 4 (length xs) ++ concat (map det xs)) (norm_array xs) (det_array xs) (inl (record {
    head = head 4 (length xs);
    row = concat (map det xs);
    has_head = subst (λ n. IsHead true major.Array n (head 4 (length xs))) (sym (length_map norm xs)) (head_fits major.Array (length xs) h.0);
    has_row = items_row [] xs h.1;
    bytes = refl;
  }))
  layer_fits (Item-F.Map ps) h = reach (Item-F.Map ps) (Item-F.Map (map (λ e. norm_pair e.1) (ordered ps))) (head 5 (length (ordered ps)) ++ flat_map text_of (ordered ps)) (map_norm ps h.1) (map_det ps)
      (inl (map_fits ps h.0 h.1))
  layer_fits (Item-F.Tag t x) h = reach (Item-F.Tag t x) (Item-F.Tag t (norm x)) (head 6 t ++ det x) (norm_tag t x) (det_tag t x)
      (record { head = head 6 t; content = det x; has_head = head_fits major.Tag t h.0; has_content = spelled x h.1; bytes = refl })
  layer_fits (Item-F.Simple n) h = reach (Item-F.Simple n) (Item-F.Simple n) (head 7 n) (norm_simple n) (det_simple n) (simple_fits n h)

pub fit_spells : (levels : ℕ) (x : Item) → IsFitWithin levels x → SpellsWithin true levels (norm x) (det x)
unfolding SpellsWithin IsFitWithin
fit_spells zero x h = absurd h
fit_spells (suc levels) x h =
    subst (λ y. SpellsLayer true (SpellsWithin true levels) (out-Item (norm y)) (det y)) (roll-out-Item x)
    (layer_fits (SpellsWithin true levels) (IsFitWithin levels) (fit_spells levels) (strict_det levels) (out-Item x) h)
