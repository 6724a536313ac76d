-- Arrays that were written, and their parts where these stand.
use Rattle.std.proofs.Common.{◌≡◌, ℕ, ℤ, ◌-◌, List, [], ◌∷◌, map, length, true, if◌then◌else◌, Option, Some, None, Result, Ok, refl, sym, ap, ◌∙◌}
use Rattle.std.specs.List.{AllByRecursion}
use Rattle.std.specs.Ordering.{int_eq}
use Rattle.std.proofs.lemmas.Bool.{eq-eqb, le-leb}
use Rattle.std.proofs.lemmas.List.{append-nil}
use Rattle.cbor_core.specs.declared.item.Item.{Item, out-Item}
use Rattle.cbor_core.specs.declared.item.Item.TheVariants as items
use Rattle.cbor_core.specs.Deterministic.{det}
use Rattle.cbor_core.specs.Norm.{norm, IsFit, IsReadBack}
use Rattle.cbor_core.specs.Numbers.{integer_in, item_of_integer, IsI64}
use Rattle.cbor_core.specs.Parts.{inner, inner_in}
use Rattle.cbor_core.specs.Reading.{first_item}
use Rattle.cbor_core.specs.Shapes.{is_array, is_number, of_length, two_of, three_of, four_of, two_spots, three_spots, four_spots}
use Rattle.cbor_core.specs.Spots.{Spot, start, spot_item, spot_parts}
use Rattle.cbor_core.proofs.NormLaws.{integer_back, content_back}
use Rattle.cbor_core.proofs.SpotLaws.{written_spelled}
use Rattle.cbor_core.proofs.WholeLaws.{shows_again}
use Rattle.voucher_chain.specs.Fault.{◌>>=◌ as ◌>>?◌}
use Rattle.voucher_chain.specs.Header.{guid_in}
use Rattle.voucher_chain.specs.Reading.{IsVoucher, voucher_at, bounded, IsInMemory}
use Rattle.voucher_chain.specs.Voucher.{voucher_seen, voucher_place}
use Rattle.voucher_chain.specs.declared.voucher.Voucher.{Voucher}
use Rattle.voucher_chain.proofs.Places.{Good, parts_good, items_are}
use Rattle.voucher_store.specs.Read.{◌>>=◌, found, at_end, det_of, det_at}
use Rattle.voucher_store.specs.Parts.{read_voucher_of, voucher_of_bytes, voucher_in, voucher_inside, guid_inside}
use Rattle.voucher_store.specs.Snapshot.{is_at}

-- an item stands there
pub record Leaf (n : ℕ) (x : Item) (s : Spot) : Type 0 where
  pub item : spot_item s ≡ x
  pub good : Good n s

pub written : (x : Item) (body : List ℕ) → IsFit x → norm x ≡ x → body ≡ det x → IsInMemory body → Leaf 16 x (start body)
written x body fit same is memory =
    let w = written_spelled x body fit is in
    record { item = w.1 ∙ same; good = record { level = refl; spelled = w.0; small = memory.small; fits = memory.fits } }

-- and is all that is read
pub read_whole : {A : Type 0} (seen : Spot → Result A ℕ) (x : Item) (body : List ℕ) (value : A) → norm x ≡ x → IsReadBack x body → seen (start body) ≡ Ok value → det_at seen body ≡ Ok value
read_whole seen x body value same back says =
    let read : first_item true body ≡ Ok (x, length body) = ap (first_item true) (sym (append-nil body)) ∙ (back []).0 ∙ ap (λ y. Ok (y, length body)) same in
    ap (det_of seen body) read ∙ ap (λ r. r >>= at_end (length body) (length body)) says ∙ (rw (eq-eqb (length body) (length body) refl) refl)

-- ---- the parts of an array

abbrev pub AreLeaves : ℕ → List Item → List Spot → Type 0
AreLeaves n [] [] = Unit {0}
AreLeaves n [] (s ∷ ss) = ⊥
AreLeaves n (x ∷ xs) [] = ⊥
AreLeaves n (x ∷ xs) (s ∷ ss) = Leaf n x s × AreLeaves n xs ss

leaves : (n : ℕ) (xs : List Item) (ss : List Spot) → AllByRecursion (Good n) ss → map spot_item ss ≡ xs → AreLeaves n xs ss
leaves n [] [] g e = tt
leaves n [] (s ∷ ss) g e = absurd (cc e)
leaves n (x ∷ xs) [] g e = absurd (cc e)
leaves n (x ∷ xs) (s ∷ ss) g e = (record { item = cc e; good = g.0 }, leaves n xs ss g.1 (cc e))

pub array_leaves : (n : ℕ) (xs : List Item) (s : Spot) → Leaf n (items.Array xs) s → AreLeaves (n - 1) xs (spot_parts s)
array_leaves n xs s l = leaves (n - 1) xs (spot_parts s) (parts_good n s l.good) (items_are n s l.good ∙ ap inner l.item ∙ ap inner_in (items.outs-Array xs))

pub array_is : (n : ℕ) (xs : List Item) (s : Spot) → Leaf n (items.Array xs) s → is_array (out-Item (spot_item s)) ≡ true
array_is n xs s l = ap (λ i. is_array (out-Item i)) l.item ∙ ap is_array (items.outs-Array xs)

module _ (n : ℕ) (s : Spot) where
  pub record IsTwo (x y : Item) : Type 0 where
    pub a : Spot
    pub b : Spot
    pub at_a : Leaf (n - 1) x a
    pub at_b : Leaf (n - 1) y b
    pub two : two_spots s ≡ Some (a, b)
    pub three : three_spots s ≡ None

  pub two_are : (x y : Item) → Leaf n (items.Array (x ∷ y ∷ [])) s → IsTwo x y
  two_are x y l = go (spot_parts s) refl (array_leaves n (x ∷ y ∷ []) s l)
    where
      is : is_array (out-Item (spot_item s)) ≡ true
      is = array_is n (x ∷ y ∷ []) s l

      go : (ss : List Spot) → spot_parts s ≡ ss → AreLeaves (n - 1) (x ∷ y ∷ []) ss → IsTwo x y
      go [] e h = absurd h
      go (a ∷ []) e h = absurd h.1
      go (a ∷ b ∷ []) e h = record {
        a = a;
        b = b;
        at_a = h.0;
        at_b = h.1.0;
        two = ap (λ t. if t then two_of (spot_parts s) else None) is ∙ ap two_of e;
        three = ap (λ t. if t then three_of (spot_parts s) else None) is ∙ ap three_of e;
      }
      go (a ∷ b ∷ c ∷ ss) e h = absurd h.1.1

  pub record IsThree (x y z : Item) : Type 0 where
    pub a : Spot
    pub b : Spot
    pub c : Spot
    pub at_a : Leaf (n - 1) x a
    pub at_b : Leaf (n - 1) y b
    pub at_c : Leaf (n - 1) z c
    pub two : two_spots s ≡ None
    pub three : three_spots s ≡ Some (a, b, c)
    pub four : four_spots s ≡ None

  pub three_are : (x y z : Item) → Leaf n (items.Array (x ∷ y ∷ z ∷ [])) s → IsThree x y z
  three_are x y z l = go (spot_parts s) refl (array_leaves n (x ∷ y ∷ z ∷ []) s l)
    where
      is : is_array (out-Item (spot_item s)) ≡ true
      is = array_is n (x ∷ y ∷ z ∷ []) s l

      go : (ss : List Spot) → spot_parts s ≡ ss → AreLeaves (n - 1) (x ∷ y ∷ z ∷ []) ss → IsThree x y z
      go [] e h = absurd h
      go (a ∷ []) e h = absurd h.1
      go (a ∷ b ∷ []) e h = absurd h.1.1
      go (a ∷ b ∷ c ∷ []) e h = record {
        a = a;
        b = b;
        c = c;
        at_a = h.0;
        at_b = h.1.0;
        at_c = h.1.1.0;
        two = ap (λ t. if t then two_of (spot_parts s) else None) is ∙ ap two_of e;
        three = ap (λ t. if t then three_of (spot_parts s) else None) is ∙ ap three_of e;
        four = ap (λ t. if t then four_of (spot_parts s) else None) is ∙ ap four_of e;
      }
      go (a ∷ b ∷ c ∷ d ∷ ss) e h = absurd h.1.1.1

  pub record IsFour (x y z w : Item) : Type 0 where
    pub a : Spot
    pub b : Spot
    pub c : Spot
    pub d : Spot
    pub at_a : Leaf (n - 1) x a
    pub at_b : Leaf (n - 1) y b
    pub at_c : Leaf (n - 1) z c
    pub at_d : Leaf (n - 1) w d
    pub four : four_spots s ≡ Some (a, b, c, d)

  pub four_are : (x y z w : Item) → Leaf n (items.Array (x ∷ y ∷ z ∷ w ∷ [])) s → IsFour x y z w
  four_are x y z w l = go (spot_parts s) refl (array_leaves n (x ∷ y ∷ z ∷ w ∷ []) s l)
    where
      is : is_array (out-Item (spot_item s)) ≡ true
      is = array_is n (x ∷ y ∷ z ∷ w ∷ []) s l

      go : (ss : List Spot) → spot_parts s ≡ ss → AreLeaves (n - 1) (x ∷ y ∷ z ∷ w ∷ []) ss → IsFour x y z w
      go [] e h = absurd h
      go (a ∷ []) e h = absurd h.1
      go (a ∷ b ∷ []) e h = absurd h.1.1
      go (a ∷ b ∷ c ∷ []) e h = absurd h.1.1.1
      go (a ∷ b ∷ c ∷ d ∷ []) e h = record {
        a = a;
        b = b;
        c = c;
        d = d;
        at_a = h.0;
        at_b = h.1.0;
        at_c = h.1.1.0;
        at_d = h.1.1.1.0;
        four = ap (λ t. if t then four_of (spot_parts s) else None) is ∙ ap four_of e;
      }
      go (a ∷ b ∷ c ∷ d ∷ f ∷ ss) e h = absurd h.1.1.1.1

  -- ---- a part

  pub number_is : (k m : ℤ) → Leaf n (item_of_integer m) s → IsI64 m → is_at k s ≡ int_eq m k
  number_is k m l h = ap (λ i. is_number k (integer_in i)) l.item ∙ ap (is_number k) (integer_back m h)

  pub voucher_back : (v : Voucher) → Leaf n (items.Bytes v.raw) s → IsVoucher v.raw v → voucher_inside s ≡ Ok v
  voucher_back v l h =
      let again : voucher_at v.raw ≡ Ok v = ap bounded (shows_again voucher_seen voucher_place v.raw v h.shown) ∙ (rw (le-leb (length v.entries) 255 h.few) refl) in
      ap (λ i. found s.at (voucher_in i)) l.item ∙ ap (λ o. found s.at (voucher_of_bytes o)) (content_back v.raw) ∙ ap (λ r. found s.at (read_voucher_of r)) again

  pub guid_back : (g : List ℕ) → Leaf n (items.Bytes g) s → length g ≡ 16 → guid_inside s ≡ Ok g
  guid_back g l size =
      ap (λ i. found s.at (guid_in i)) l.item ∙ ap (λ (o : Option (List ℕ)). found s.at (o >>? of_length 16)) (content_back g) ∙ (rw (eq-eqb (length g) 16 size) refl)
