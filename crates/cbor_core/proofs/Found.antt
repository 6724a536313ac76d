-- What is read was spelled.
use Rattle.std.proofs.Common.{◌≡◌, ℕ, zero, suc, ◌+◌, ◌*◌, ◌-◌, Bool, true, false, ◌&&◌, cond, List, [], ◌∷◌, ◌++◌, length, Ok, Err, refl, sym, ap, subst, ◌∙◌, inl, inr}
use Rattle.std.specs.List.{concat}
use Rattle.cbor_core.specs.declared.fault.CborFault.TheVariants as fault
use Rattle.cbor_core.specs.declared.head.Major.{Major}
use Rattle.cbor_core.specs.declared.head.Major.TheVariants as major
use Rattle.cbor_core.specs.declared.head.Head.{Head}
use Rattle.cbor_core.specs.declared.head.Head.TheVariants as heads
use Rattle.cbor_core.specs.declared.item.Item.{Item, out-Item}
use Rattle.cbor_core.specs.declared.item.Item.TheOpen.{Item-F}
use Rattle.cbor_core.specs.declared.item.Item.TheVariants as items
use Rattle.cbor_core.specs.Deterministic.{det}
use Rattle.cbor_core.specs.Reading.{Read, ◌>>=◌, head_at, content_at, chunk_step, row_at, open_at, item_step, key_spellings, is_among, is_below_one, admitted, pair_step, demanded, sized_in, open_in, item_in, buried_sized, buried_open, buried_in, item_at}
use Rattle.cbor_core.specs.Spelling.{code, IsHead, SpellsRow, IsCounted, IsOpen, IsString, IsChunk, IsPair, IsTagged, SpellsLayer, SpellsWithin}
use Rattle.cbor_core.proofs.Bytes.{IsBytes, bind_ok, ok_is, guard_ok, Takes, takes_then, HasText}
use Rattle.cbor_core.proofs.Heads.{SpellsHead, head_found}
use Rattle.cbor_core.proofs.StringLaws.{is_head, content_found, string_found, chunk_found}
use Rattle.cbor_core.proofs.RowLaws.{HasNext, row_found, open_found}

-- ---- demands

demand_met : (strict b : Bool) (place : ℕ) (u : Unit {0}) → demanded strict b place ≡ Ok u → strict ≡ true → b ≡ true
demand_met true true place u e s = refl
demand_met true false place u e s = absurd cc
demand_met false b place u e s = absurd cc

not_strict : (strict : Bool) (place : ℕ) (u : Unit {0}) → demanded strict false place ≡ Ok u → strict ≡ false
not_strict true place u e = absurd cc
not_strict false place u e = refl

record IsAdmitted (strict : Bool) (keys : List (List ℕ)) (key : List ℕ) : Type 0 where
  pub fresh : is_among keys key ≡ false
  pub ascending : strict ≡ true → is_below_one keys key ≡ false

is_admitted : (strict : Bool) (place : ℕ) (keys : List (List ℕ)) (key : List ℕ) (u : Unit {0}) → admitted strict place keys key ≡ Ok u → IsAdmitted strict keys key
is_admitted strict place keys key u e =
    let g = guard_ok (is_among keys key) (fault.Duplicate place) (cond (strict && is_below_one keys key) (Err (fault.NotDeterministic place)) (Ok tt)) u e in
    let h = guard_ok (strict && is_below_one keys key) (fault.NotDeterministic place) (Ok tt) u g.1 in
    record { fresh = g.0; ascending = λ s. ap (λ (b : Bool). b && is_below_one keys key) (sym s) ∙ h.0 }

-- ---- a head, and what is behind it

behind : (P Q : List ℕ → Type 0) (bytes mid rest : List ℕ) (h : HasText P bytes mid) (c : HasText Q mid rest) → HasText (λ t. (head : List ℕ) × (row : List ℕ) × P head × Q row × (t ≡ head ++ row)) bytes rest
behind P Q bytes mid rest h c = record { text = h.text ++ c.text; spelled = (h.text, c.text, h.spelled, c.spelled, refl); taken = takes_then bytes h.text mid c.text rest h.taken c.taken }

module _ (strict : Bool) (total : ℕ) (read : List ℕ → Read Item) (spells : Item → List ℕ → Type 0)
    (found : (bytes : List ℕ) (x : Item × List ℕ) → IsBytes bytes → read bytes ≡ Ok x → HasText (spells x.0) bytes x.1) where
  step_found : (before : List Item) (bytes : List ℕ) (next : List Item × List ℕ) → IsBytes bytes → item_step read before bytes ≡ Ok next → HasNext (item_step read) (λ xs. xs) (λ before. spells) before bytes next
  step_found before bytes next fits e =
      let b = bind_ok (read bytes) (λ x. Ok (before ++ x.0 ∷ [], x.1)) next e in
      let t = found bytes b.0 fits b.1 in
      subst (HasNext (item_step read) (λ xs. xs) (λ before. spells) before bytes) (ok_is (before ++ b.0.0 ∷ [], b.0.1) next b.2) (record { x = b.0.0; grown = refl; has_text = t })

  pair_found : (before : List (Item × Item)) (bytes : List ℕ) (next : List (Item × Item) × List ℕ) → IsBytes bytes → pair_step strict total read before bytes ≡ Ok next
      → HasNext (pair_step strict total read) (λ xs. xs) (IsPair strict spells) before bytes next
  unfolding pair_step
  pair_found before bytes next fits e =
      let place = total - length bytes in
      let k = bind_ok (read bytes) (λ key. admitted strict place (key_spellings before) (det key.0) >>= λ u. read key.1 >>= λ value. Ok (before ++ (key.0, value.0) ∷ [], value.1)) next e in
      let a = bind_ok (admitted strict place (key_spellings before) (det k.0.0)) (λ u. read k.0.1 >>= λ value. Ok (before ++ (k.0.0, value.0) ∷ [], value.1)) next k.2 in
      let v = bind_ok (read k.0.1) (λ value. Ok (before ++ (k.0.0, value.0) ∷ [], value.1)) next a.2 in
      let key = found bytes k.0 fits k.1 in
      let value = found k.0.1 v.0 key.taken.rest_fits v.1 in
      let good = is_admitted strict place (key_spellings before) (det k.0.0) a.0 a.1 in
      let p : Item × Item = (k.0.0, v.0.0) in
      subst (HasNext (pair_step strict total read) (λ xs. xs) (IsPair strict spells) before bytes) (ok_is (before ++ p ∷ [], v.0.1) next v.2) (record {
        x = p;
        grown = refl;
        has_text = record {
          text = key.text ++ value.text;
          spelled = record { key = key.text; value = value.text; has_key = key.spelled; has_value = value.spelled; fresh = good.fresh; ascending = good.ascending; bytes = refl };
          taken = takes_then bytes key.text k.0.1 value.text v.0.1 key.taken value.taken;
        };
      })

  -- the elements of a container, behind its head
  counted : {A : Type 0} (m : Major) (elements : List A → A → List ℕ → Type 0) (step : List A → List ℕ → Read (List A))
      → ((before : List A) (bytes : List ℕ) (next : List A × List ℕ) → IsBytes bytes → step before bytes ≡ Ok next → HasNext step (λ xs. xs) elements before bytes next)
      → (n : ℕ) (s : Bool) (bytes mid : List ℕ) (all : List A × List ℕ) → (strict ≡ true → s ≡ true) → HasText (SpellsHead (heads.Sized m s n)) bytes mid → row_at step n [] mid ≡ Ok all
      → HasText (IsCounted elements strict m all.0) bytes all.1
  counted m elements step one n s bytes mid all short h e =
      let r = row_found step (λ xs. xs) elements one n [] mid all h.taken.rest_fits e in
      let row : HasText (SpellsRow elements [] all.0) mid all.1 = subst (λ xs. HasText (SpellsRow elements [] xs) mid all.1) (sym r.grown) r.has_text in
      let len : n ≡ length all.0 = sym r.counted ∙ ap length (sym r.grown) in
      record {
        text = h.text ++ row.text;
        spelled = record {
          head = h.text;
          row = row.text;
          has_head = subst (λ k. IsHead strict m k h.text) len (is_head strict m n s h.text short h.spelled);
          has_row = row.spelled;
          bytes = refl;
        };
        taken = takes_then bytes h.text mid row.text all.1 h.taken row.taken;
      }

  -- the text of an open head and what is behind it
  opened : (m : Major) (bytes mid row rest : List ℕ) → HasText (SpellsHead (heads.Open m)) bytes mid → Takes mid (row ++ 255 ∷ []) rest → Takes bytes ((32 * code m + 31) ∷ (row ++ 255 ∷ [])) rest
  opened m bytes mid row rest h t = subst (λ head. Takes bytes (head ++ (row ++ 255 ∷ [])) rest) h.spelled (takes_then bytes h.text mid (row ++ 255 ∷ []) rest h.taken t)

  open_row : {A B : Type 0} (m : Major) (elements : List A → A → List ℕ → Type 0) (step : B → List ℕ → Read B) (grow : List A → B)
      → ((before : List A) (bytes : List ℕ) (next : B × List ℕ) → IsBytes bytes → step (grow before) bytes ≡ Ok next → HasNext step grow elements before bytes next)
      → (bytes mid : List ℕ) (all : B × List ℕ) → strict ≡ false → HasText (SpellsHead (heads.Open m)) bytes mid → open_at step total (length mid) (grow []) mid ≡ Ok all
      → (xs : List A) × (all.0 ≡ grow xs) × HasText (IsOpen elements strict m xs) bytes all.1
  open_row m elements step grow one bytes mid all loose h e =
      let r = open_found step grow elements one total (length mid) [] mid all h.taken.rest_fits e in (
        r.xs,
        r.grown,
        record {
          text = (32 * code m + 31) ∷ (r.row ++ 255 ∷ []);
          spelled = record { row = r.row; loose = loose; has_row = r.has_row; bytes = refl };
          taken = opened m bytes mid r.row all.1 h r.taken;
        },
      )

  abbrev layer : Item × List ℕ → List ℕ → Type 0
  layer x bytes = HasText (SpellsLayer strict spells (out-Item x.0)) bytes x.1

  enter : (x : Item) (f : Item-F Item) (bytes rest : List ℕ) → out-Item x ≡ f → HasText (SpellsLayer strict spells f) bytes rest → layer (x, rest) bytes
  enter x f bytes rest e h = subst (λ (g : Item-F Item). HasText (SpellsLayer strict spells g) bytes rest) (sym e) h

  turn_into : (P Q : List ℕ → Type 0) (bytes rest : List ℕ) → ((t : List ℕ) → P t → Q t) → HasText P bytes rest → HasText Q bytes rest
  turn_into P Q bytes rest f h = record { text = h.text; spelled = f h.text h.spelled; taken = h.taken }

  sized_found : (place : ℕ) (m : Major) (n : ℕ) (s : Bool) (bytes mid : List ℕ) (x : Item × List ℕ) → HasText (SpellsHead (heads.Sized m s n)) bytes mid
      → sized_in strict total read place m n s mid ≡ Ok x → layer x bytes
  sized_found place major.Unsigned n s bytes mid x h e =
      let d = bind_ok (demanded strict s place) (λ u. Ok (items.Uint n, mid)) x e in
      let good = turn_into (SpellsHead (heads.Sized major.Unsigned s n)) (IsHead strict major.Unsigned n) bytes mid (λ t. is_head strict major.Unsigned n s t (demand_met strict s place d.0 d.1)) h in
      subst (λ y. layer y bytes) (ok_is (items.Uint n, mid) x d.2) (enter (items.Uint n) (Item-F.Uint n) bytes mid (items.outs-Uint n) good)
  sized_found place major.Negative n s bytes mid x h e =
      let d = bind_ok (demanded strict s place) (λ u. Ok (items.Nint n, mid)) x e in
      let good = turn_into (SpellsHead (heads.Sized major.Negative s n)) (IsHead strict major.Negative n) bytes mid (λ t. is_head strict major.Negative n s t (demand_met strict s place d.0 d.1)) h in
      subst (λ y. layer y bytes) (ok_is (items.Nint n, mid) x d.2) (enter (items.Nint n) (Item-F.Nint n) bytes mid (items.outs-Nint n) good)
  sized_found place major.Bytes n s bytes mid x h e =
      let c = bind_ok (content_at place major.Bytes n mid) (λ c. demanded strict s place >>= λ u. Ok (items.Bytes c.0, c.1)) x e in
      let d = bind_ok (demanded strict s place) (λ u. Ok (items.Bytes c.0.0, c.0.1)) x c.2 in
      let str = string_found strict major.Bytes n s bytes mid c.0 (demand_met strict s place d.0 d.1) h (content_found place major.Bytes n mid c.0 h.taken.rest_fits c.1) in
      subst (λ y. layer y bytes) (ok_is (items.Bytes c.0.0, c.0.1) x d.2) (enter (items.Bytes c.0.0) (Item-F.Bytes c.0.0) bytes c.0.1 (items.outs-Bytes c.0.0)
      (turn_into (IsString strict major.Bytes c.0.0) (SpellsLayer strict spells (Item-F.Bytes c.0.0)) bytes c.0.1 (λ t h. inl h) str))
  sized_found place major.Text n s bytes mid x h e =
      let c = bind_ok (content_at place major.Text n mid) (λ c. demanded strict s place >>= λ u. Ok (items.Text c.0, c.1)) x e in
      let d = bind_ok (demanded strict s place) (λ u. Ok (items.Text c.0.0, c.0.1)) x c.2 in
      let str = string_found strict major.Text n s bytes mid c.0 (demand_met strict s place d.0 d.1) h (content_found place major.Text n mid c.0 h.taken.rest_fits c.1) in
      subst (λ y. layer y bytes) (ok_is (items.Text c.0.0, c.0.1) x d.2) (enter (items.Text c.0.0) (Item-F.Text c.0.0) bytes c.0.1 (items.outs-Text c.0.0)
      (turn_into (IsString strict major.Text c.0.0) (SpellsLayer strict spells (Item-F.Text c.0.0)) bytes c.0.1 (λ t h. inl h) str))
  sized_found place major.Array n s bytes mid x h e =
      let d = bind_ok (demanded strict s place) (λ u. row_at (item_step read) n [] mid >>= λ xs. Ok (items.Array xs.0, xs.1)) x e in
      let r = bind_ok (row_at (item_step read) n [] mid) (λ xs. Ok (items.Array xs.0, xs.1)) x d.2 in
      let row = counted major.Array (λ before. spells) (item_step read) step_found n s bytes mid r.0 (demand_met strict s place d.0 d.1) h r.1 in
      subst (λ y. layer y bytes) (ok_is (items.Array r.0.0, r.0.1) x r.2) (enter (items.Array r.0.0) (Item-F.Array r.0.0) bytes r.0.1 (items.outs-Array r.0.0)
      (turn_into (IsCounted (λ before. spells) strict major.Array r.0.0) (SpellsLayer strict spells (Item-F.Array r.0.0)) bytes r.0.1 (λ t h. inl h) row))
  sized_found place major.Map n s bytes mid x h e =
      let d = bind_ok (demanded strict s place) (λ u. row_at (pair_step strict total read) n [] mid >>= λ ps. Ok (items.Map ps.0, ps.1)) x e in
      let r = bind_ok (row_at (pair_step strict total read) n [] mid) (λ ps. Ok (items.Map ps.0, ps.1)) x d.2 in
      let row = counted major.Map (IsPair strict spells) (pair_step strict total read) pair_found n s bytes mid r.0 (demand_met strict s place d.0 d.1) h r.1 in
      subst (λ y. layer y bytes) (ok_is (items.Map r.0.0, r.0.1) x r.2) (enter (items.Map r.0.0) (Item-F.Map r.0.0) bytes r.0.1 (items.outs-Map r.0.0)
      (turn_into (IsCounted (IsPair strict spells) strict major.Map r.0.0) (SpellsLayer strict spells (Item-F.Map r.0.0)) bytes r.0.1 (λ t h. inl h) row))
  sized_found place major.Tag n s bytes mid x h e =
      let d = bind_ok (demanded strict s place) (λ u. read mid >>= λ y. Ok (items.Tag n y.0, y.1)) x e in
      let r = bind_ok (read mid) (λ y. Ok (items.Tag n y.0, y.1)) x d.2 in
      let c = found mid r.0 h.taken.rest_fits r.1 in
      let tagged : HasText (IsTagged strict spells n r.0.0) bytes r.0.1 = record {
        text = h.text ++ c.text;
        spelled = record {
          head = h.text;
          content = c.text;
          has_head = is_head strict major.Tag n s h.text (demand_met strict s place d.0 d.1) h.spelled;
          has_content = c.spelled;
          bytes = refl;
        };
        taken = takes_then bytes h.text mid c.text r.0.1 h.taken c.taken;
      } in
      subst (λ y. layer y bytes) (ok_is (items.Tag n r.0.0, r.0.1) x r.2) (enter (items.Tag n r.0.0) (Item-F.Tag n r.0.0) bytes r.0.1 (items.outs-Tag n r.0.0) tagged)

  loose_found : (place : ℕ) (m : Major) (bytes mid : List ℕ) (x : Item × List ℕ) → HasText (SpellsHead (heads.Open m)) bytes mid → open_in strict total read place m mid ≡ Ok x → layer x bytes
  loose_found place major.Bytes bytes mid x h e =
      let d = bind_ok (demanded strict false place) (λ u. open_at (chunk_step total major.Bytes) total (length mid) [] mid >>= λ c. Ok (items.Bytes c.0, c.1)) x e in
      let r = bind_ok (open_at (chunk_step total major.Bytes) total (length mid) [] mid) (λ c. Ok (items.Bytes c.0, c.1)) x d.2 in
      let row = open_row major.Bytes (IsChunk major.Bytes) (chunk_step total major.Bytes) concat (chunk_found total major.Bytes tt) bytes mid r.0 (not_strict strict place d.0 d.1) h r.1 in
      subst (λ y. layer y bytes) (ok_is (items.Bytes r.0.0, r.0.1) x r.2) (enter (items.Bytes r.0.0) (Item-F.Bytes r.0.0) bytes r.0.1 (items.outs-Bytes r.0.0)
      (turn_into (IsOpen (IsChunk major.Bytes) strict major.Bytes row.0) (SpellsLayer strict spells (Item-F.Bytes r.0.0)) bytes r.0.1 (λ t h. inr (record { chunks = row.0; joined = row.1; has_chunks = h })) row.2))
  loose_found place major.Text bytes mid x h e =
      let d = bind_ok (demanded strict false place) (λ u. open_at (chunk_step total major.Text) total (length mid) [] mid >>= λ c. Ok (items.Text c.0, c.1)) x e in
      let r = bind_ok (open_at (chunk_step total major.Text) total (length mid) [] mid) (λ c. Ok (items.Text c.0, c.1)) x d.2 in
      let row = open_row major.Text (IsChunk major.Text) (chunk_step total major.Text) concat (chunk_found total major.Text tt) bytes mid r.0 (not_strict strict place d.0 d.1) h r.1 in
      subst (λ y. layer y bytes) (ok_is (items.Text r.0.0, r.0.1) x r.2) (enter (items.Text r.0.0) (Item-F.Text r.0.0) bytes r.0.1 (items.outs-Text r.0.0)
      (turn_into (IsOpen (IsChunk major.Text) strict major.Text row.0) (SpellsLayer strict spells (Item-F.Text r.0.0)) bytes r.0.1 (λ t h. inr (record { chunks = row.0; joined = row.1; has_chunks = h })) row.2))
  loose_found place major.Array bytes mid x h e =
      let d = bind_ok (demanded strict false place) (λ u. open_at (item_step read) total (length mid) [] mid >>= λ xs. Ok (items.Array xs.0, xs.1)) x e in
      let r = bind_ok (open_at (item_step read) total (length mid) [] mid) (λ xs. Ok (items.Array xs.0, xs.1)) x d.2 in
      let row = open_row major.Array (λ before. spells) (item_step read) (λ xs. xs) step_found bytes mid r.0 (not_strict strict place d.0 d.1) h r.1 in
      subst (λ y. layer y bytes) (ok_is (items.Array r.0.0, r.0.1) x r.2) (enter (items.Array r.0.0) (Item-F.Array r.0.0) bytes r.0.1 (items.outs-Array r.0.0)
      (turn_into (IsOpen (λ before. spells) strict major.Array row.0) (SpellsLayer strict spells (Item-F.Array r.0.0)) bytes r.0.1 (λ t h. inr (subst (λ xs. IsOpen (λ before. spells) strict major.Array xs t) (sym row.1) h)) row.2))
  loose_found place major.Map bytes mid x h e =
      let d = bind_ok (demanded strict false place) (λ u. open_at (pair_step strict total read) total (length mid) [] mid >>= λ ps. Ok (items.Map ps.0, ps.1)) x e in
      let r = bind_ok (open_at (pair_step strict total read) total (length mid) [] mid) (λ ps. Ok (items.Map ps.0, ps.1)) x d.2 in
      let row = open_row major.Map (IsPair strict spells) (pair_step strict total read) (λ xs. xs) pair_found bytes mid r.0 (not_strict strict place d.0 d.1) h r.1 in
      subst (λ y. layer y bytes) (ok_is (items.Map r.0.0, r.0.1) x r.2) (enter (items.Map r.0.0) (Item-F.Map r.0.0) bytes r.0.1 (items.outs-Map r.0.0)
      (turn_into (IsOpen (IsPair strict spells) strict major.Map row.0) (SpellsLayer strict spells (Item-F.Map r.0.0)) bytes r.0.1 (λ t h. inr (subst (λ xs. IsOpen (IsPair strict spells) strict major.Map xs t) (sym row.1) h)) row.2))
  loose_found place major.Unsigned bytes mid x h e = absurd cc
  loose_found place major.Negative bytes mid x h e = absurd cc
  loose_found place major.Tag bytes mid x h e = absurd cc

  content_in_found : (place : ℕ) (head : Head) (bytes mid : List ℕ) (x : Item × List ℕ) → HasText (SpellsHead head) bytes mid → item_in strict total read place head mid ≡ Ok x → layer x bytes
  content_in_found place (heads.Sized m s n) bytes mid x h e = sized_found place m n s bytes mid x h e
  content_in_found place (heads.Open m) bytes mid x h e = loose_found place m bytes mid x h e
  content_in_found place (heads.Simple n) bytes mid x h e = subst (λ y. layer y bytes) (ok_is (items.Simple n, mid) x e) (enter (items.Simple n) (Item-F.Simple n) bytes mid (items.outs-Simple n) h)
  content_in_found place heads.Float bytes mid x h e = absurd cc
  content_in_found place heads.Break bytes mid x h e = absurd cc
  content_in_found place heads.Reserved bytes mid x h e = absurd cc

-- ---- no item is read below the deepest level

buried_sized_fails : (place : ℕ) (m : Major) (n : ℕ) (mid : List ℕ) (x : Item × List ℕ) → buried_sized place m n mid ≡ Ok x → ⊥
buried_sized_fails place major.Bytes n mid x e = let b = bind_ok (content_at place major.Bytes n mid) (λ c. Err (fault.TooDeep place)) x e in cc b.2
buried_sized_fails place major.Text n mid x e = let b = bind_ok (content_at place major.Text n mid) (λ c. Err (fault.TooDeep place)) x e in cc b.2
buried_sized_fails place major.Unsigned n mid x e = cc
buried_sized_fails place major.Negative n mid x e = cc
buried_sized_fails place major.Array n mid x e = cc
buried_sized_fails place major.Map n mid x e = cc
buried_sized_fails place major.Tag n mid x e = cc

buried_open_fails : (place : ℕ) (m : Major) (x : Item × List ℕ) → buried_open place m ≡ Ok x → ⊥
buried_open_fails place major.Bytes x e = cc
buried_open_fails place major.Text x e = cc
buried_open_fails place major.Unsigned x e = cc
buried_open_fails place major.Negative x e = cc
buried_open_fails place major.Array x e = cc
buried_open_fails place major.Map x e = cc
buried_open_fails place major.Tag x e = cc

pub buried_fails : (place : ℕ) (head : Head) (mid : List ℕ) (x : Item × List ℕ) → buried_in place head mid ≡ Ok x → ⊥
buried_fails place (heads.Sized m s n) mid x e = buried_sized_fails place m n mid x e
buried_fails place (heads.Open m) mid x e = buried_open_fails place m x e
buried_fails place (heads.Simple n) mid x e = cc
buried_fails place heads.Float mid x e = cc
buried_fails place heads.Break mid x e = cc
buried_fails place heads.Reserved mid x e = cc

pub item_found : (strict : Bool) (total levels : ℕ) (bytes : List ℕ) (x : Item × List ℕ) → IsBytes bytes → item_at strict total levels bytes ≡ Ok x → HasText (SpellsWithin strict levels x.0) bytes x.1
unfolding item_at SpellsWithin
item_found strict total zero bytes x fits e =
    let place = total - length bytes in
    let h = bind_ok (head_at place bytes) (λ h. buried_in place h.0 h.1) x e in
    absurd (buried_fails place h.0.0 h.0.1 x h.2)
item_found strict total (suc levels) bytes x fits e =
    let place = total - length bytes in
    let h = bind_ok (head_at place bytes) (λ h. item_in strict total (item_at strict total levels) place h.0 h.1) x e in
    content_in_found strict total (item_at strict total levels) (SpellsWithin strict levels) (item_found strict total levels) place h.0.0 bytes h.0.1 x (head_found place bytes h.0 fits h.1) h.2
