-- What a cursor counts is the length of its item's row.
use Rattle.std.proofs.Common.{◌≡◌, ℕ, zero, suc, ◌-◌, ◌+◌, ◌<◌, ◌≤◌, false, List, [], ◌∷◌, ◌++◌, length, Option, Ok, Err, refl, sym, ap, subst, ◌∙◌, append_assoc, arith, inl, inr}
use Rattle.std.proofs.lemmas.List.{length-append}
use Rattle.cbor_core.specs.declared.cursor.Cursor.{Cursor}
use Rattle.cbor_core.specs.declared.fault.CborFault.TheVariants as fault
use Rattle.cbor_core.specs.declared.head.Major.TheVariants as major
use Rattle.cbor_core.specs.declared.head.Head.{Head}
use Rattle.cbor_core.specs.declared.head.Head.TheVariants as heads
use Rattle.cbor_core.specs.declared.item.Item.{Item, out-Item}
use Rattle.cbor_core.specs.declared.item.Item.TheOpen.{Item-F}
use Rattle.cbor_core.specs.Counting.{count_step, count_in, CountBehind}
use Rattle.cbor_core.specs.Passing.{pass_in, pass_pair, pass_at}
use Rattle.cbor_core.specs.Reading.{Read, ◌>>=◌, breaks, head_at, open_at, buried_in}
use Rattle.cbor_core.specs.Spelling.{is_shortest, SpellsRow, IsPair, SpellsLayer, SpellsWithin}
use Rattle.cbor_core.specs.Parts.{Stands}
use Rattle.cbor_core.proofs.Bytes.{bind_ok}
use Rattle.cbor_core.proofs.Heads.{break_is, no_break, open_again, simple_again}
use Rattle.cbor_core.proofs.Again.{err_not_ok}
use Rattle.cbor_core.proofs.RowLaws as rows
use Rattle.cbor_core.proofs.PartLaws.{end_reads, of_head, string_head, chunked_head, head_reads}
use Rattle.cbor_core.proofs.Lengths.{row_count, pair_count}

pass_starts : (total levels : ℕ) (rest : List ℕ) (x : Unit {0} × List ℕ) → pass_at false total levels (255 ∷ rest) ≡ Ok x → ⊥
unfolding pass_at
pass_starts total zero rest x e =
    let place = total - length (255 ∷ rest) in
    let at : (head_at place (255 ∷ rest) >>= λ h. buried_in place h.0 h.1 >>= λ y. Ok (tt, y.1)) ≡ Err (fault.Malformed place) = rw (break_is place rest) refl in
    err_not_ok _ (fault.Malformed place) x at e
pass_starts total (suc levels) rest x e =
    let place = total - length (255 ∷ rest) in
    let at : (head_at place (255 ∷ rest) >>= λ h. pass_in false total levels (pass_at false total levels) place h.0 h.1) ≡ Err (fault.Malformed place) = rw (break_is place rest) refl in
    err_not_ok _ (fault.Malformed place) x at e

grown : {A : Type 0} (before : List A) (x : A) → length before + 1 ≡ length (before ++ x ∷ [])
grown before x = sym (length-append before (x ∷ []))

module _ (total levels : ℕ) where
  abbrev pass : List ℕ → Read (Unit {0})
  pass = pass_at false total levels

  abbrev spells : Item → List ℕ → Type 0
  spells = SpellsWithin false levels

  item_again : (before : List Item) (x : Item) (text rest : List ℕ) → spells x text → count_step pass (length before) (text ++ rest) ≡ Ok (length (before ++ x ∷ []), rest)
  item_again before x text rest h = rw (end_reads total levels (text ++ rest) x text rest h refl, grown before x) refl

  item_starts : (n : ℕ) (bytes : List ℕ) (next : ℕ × List ℕ) → count_step pass n bytes ≡ Ok next → breaks bytes ≡ false
  item_starts n bytes next e = no_break bytes (λ rest is.
      let b = bind_ok (pass bytes) (λ x. Ok (n + 1, x.1)) next e in
      pass_starts total levels rest b.0 (sym (ap pass is) ∙ b.1))

  pair_again : (before : List (Item × Item)) (p : Item × Item) (text rest : List ℕ) → IsPair false spells before p text → count_step (pass_pair pass tt) (length before) (text ++ rest) ≡ Ok (length (before ++ p ∷ []), rest)
  pair_again before p text rest h =
      let apart : text ++ rest ≡ h.key ++ (h.value ++ rest) = ap (λ t. t ++ rest) h.bytes ∙ append_assoc h.key h.value rest in
      rw (end_reads total levels (text ++ rest) p.0 h.key (h.value ++ rest) h.has_key apart, end_reads total levels (h.value ++ rest) p.1 h.value rest h.has_value refl, grown before p) refl

  pair_starts : (n : ℕ) (bytes : List ℕ) (next : ℕ × List ℕ) → count_step (pass_pair pass tt) n bytes ≡ Ok next → breaks bytes ≡ false
  pair_starts n bytes next e = no_break bytes (λ rest is.
      let b = bind_ok (pass_pair pass tt bytes) (λ x. Ok (n + 1, x.1)) next e in
      let k = bind_ok (pass bytes) (λ key. pass key.1) b.0 b.1 in
      pass_starts total levels rest k.0 (sym (ap pass is) ∙ k.1))

  more_turns : (n : ℕ) (row after : List ℕ) → n ≤ length row → n < length (row ++ 255 ∷ after)
  more_turns n row after le = omega (arith, length-append row (255 ∷ after))

  items_counted : (xs : List Item) (row after : List ℕ) → SpellsRow (λ before. spells) [] xs row
      → open_at (count_step pass) total (length (row ++ 255 ∷ after)) 0 (row ++ 255 ∷ after) ≡ Ok (length xs, after)
  items_counted xs row after h = rows.open_again (count_step pass) length (λ before. spells) item_again item_starts total xs [] (length (row ++ 255 ∷ after)) row after (more_turns (length xs) row after (row_count levels [] xs row h)) h

  pairs_counted : (ps : List (Item × Item)) (row after : List ℕ) → SpellsRow (IsPair false spells) [] ps row
      → open_at (count_step (pass_pair pass tt)) total (length (row ++ 255 ∷ after)) 0 (row ++ 255 ∷ after) ≡ Ok (length ps, after)
  pairs_counted ps row after h = rows.open_again (count_step (pass_pair pass tt)) length (IsPair false spells) pair_again pair_starts total ps [] (length (row ++ 255 ∷ after)) row after (more_turns (length ps) row after (pair_count levels [] ps row h)) h

  abbrev Counts : Item-F Item → Head × List ℕ → Type 0
  Counts f y = (o : Option ℕ) → CountBehind total levels y.0 y.1 o → o ≡ count_in f

  layer_count : (f : Item-F Item) (text after : List ℕ) (y : Head × List ℕ) → SpellsLayer false spells f text → head_at 0 (text ++ after) ≡ Ok y → Counts f y
  layer_count (Item-F.Uint n) text after y h e = of_head (Counts (Item-F.Uint n)) (text ++ after) (heads.Sized major.Unsigned (is_shortest h.form n) n, after) y (head_reads major.Unsigned n text after h 0) e (λ o k. k)
  layer_count (Item-F.Nint n) text after y h e = of_head (Counts (Item-F.Nint n)) (text ++ after) (heads.Sized major.Negative (is_shortest h.form n) n, after) y (head_reads major.Negative n text after h 0) e (λ o k. k)
  layer_count (Item-F.Bytes b) text after y (inl h) e = of_head (Counts (Item-F.Bytes b)) (text ++ after) (heads.Sized major.Bytes (is_shortest h.has_head.form (length b)) (length b), b ++ after) y (string_head major.Bytes b text after h) e (λ o k. k)
  layer_count (Item-F.Bytes b) text after y (inr h) e = of_head (Counts (Item-F.Bytes b)) (text ++ after) (heads.Open major.Bytes, (h.has_chunks.row ++ 255 ∷ []) ++ after) y (chunked_head major.Bytes b text after h) e (λ o k. k)
  layer_count (Item-F.Text b) text after y (inl h) e = of_head (Counts (Item-F.Text b)) (text ++ after) (heads.Sized major.Text (is_shortest h.has_head.form (length b)) (length b), b ++ after) y (string_head major.Text b text after h) e (λ o k. k)
  layer_count (Item-F.Text b) text after y (inr h) e = of_head (Counts (Item-F.Text b)) (text ++ after) (heads.Open major.Text, (h.has_chunks.row ++ 255 ∷ []) ++ after) y (chunked_head major.Text b text after h) e (λ o k. k)
  layer_count (Item-F.Array xs) text after y (inl h) e =
      of_head (Counts (Item-F.Array xs)) (text ++ after) (heads.Sized major.Array (is_shortest h.has_head.form (length xs)) (length xs), h.row ++ after) y
      (ap (λ t. head_at 0 (t ++ after)) h.bytes ∙ ap (head_at 0) (append_assoc h.head h.row after) ∙ head_reads major.Array (length xs) h.head (h.row ++ after) h.has_head 0) e (λ o k. k)
  layer_count (Item-F.Array xs) text after y (inr h) e =
      of_head (Counts (Item-F.Array xs)) (text ++ after) (heads.Open major.Array, h.row ++ 255 ∷ after) y
      (ap (λ t. head_at 0 (t ++ after)) h.bytes ∙ open_again 0 major.Array ((h.row ++ 255 ∷ []) ++ after) ∙ ap (λ (t : List ℕ). Ok (heads.Open major.Array, t)) (append_assoc h.row (255 ∷ []) after)) e
      (λ o k. k (length xs) after (items_counted xs h.row after h.has_row))
  layer_count (Item-F.Map ps) text after y (inl h) e =
      of_head (Counts (Item-F.Map ps)) (text ++ after) (heads.Sized major.Map (is_shortest h.has_head.form (length ps)) (length ps), h.row ++ after) y
      (ap (λ t. head_at 0 (t ++ after)) h.bytes ∙ ap (head_at 0) (append_assoc h.head h.row after) ∙ head_reads major.Map (length ps) h.head (h.row ++ after) h.has_head 0) e (λ o k. k)
  layer_count (Item-F.Map ps) text after y (inr h) e =
      of_head (Counts (Item-F.Map ps)) (text ++ after) (heads.Open major.Map, h.row ++ 255 ∷ after) y
      (ap (λ t. head_at 0 (t ++ after)) h.bytes ∙ open_again 0 major.Map ((h.row ++ 255 ∷ []) ++ after) ∙ ap (λ (t : List ℕ). Ok (heads.Open major.Map, t)) (append_assoc h.row (255 ∷ []) after)) e
      (λ o k. k (length ps) after (pairs_counted ps h.row after h.has_row))
  layer_count (Item-F.Tag t x) text after y h e =
      of_head (Counts (Item-F.Tag t x)) (text ++ after) (heads.Sized major.Tag (is_shortest h.has_head.form t) t, h.content ++ after) y
      (ap (λ u. head_at 0 (u ++ after)) h.bytes ∙ ap (head_at 0) (append_assoc h.head h.content after) ∙ head_reads major.Tag t h.head (h.content ++ after) h.has_head 0) e (λ o k. k)
  layer_count (Item-F.Simple n) text after y h e = of_head (Counts (Item-F.Simple n)) (text ++ after) (heads.Simple n, after) y (simple_again 0 n text after h) e (λ o k. k)

spelled_count : (total levels : ℕ) (x : Item) (text after : List ℕ) (y : Head × List ℕ) → SpellsWithin false levels x text → head_at 0 (text ++ after) ≡ Ok y → (o : Option ℕ) → CountBehind total (levels - 1) y.0 y.1 o → o ≡ count_in (out-Item x)
unfolding SpellsWithin
spelled_count total zero x text after y h e o k = absurd h
spelled_count total (suc levels) x text after y h e o k =
    let l : suc levels - 1 ≡ levels = omega arith in
    layer_count total levels (out-Item x) text after y h e o (subst (λ m. CountBehind total m y.0 y.1 o) l k)

pub count_is : (c : Cursor) (input : List ℕ) (x : Item) (text : List ℕ) (later : List Item) → Stands c input x text later → (total levels : ℕ) → levels ≡ c.levels - 1 → (head : Head) (rest : List ℕ)
    → head_at 0 c.tail.now ≡ Ok (head, rest) → (o : Option ℕ) → CountBehind total levels head rest o → o ≡ count_in (out-Item x)
count_is c input x text later s total levels l head rest e o k =
    spelled_count total c.levels x text (s.row ++ s.rest) (head, rest) s.spelled (sym (ap (head_at 0) s.bytes) ∙ e) o (subst (λ m. CountBehind total m head rest o) l k)
