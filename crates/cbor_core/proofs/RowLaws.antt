-- Rows: what is read, by a step for each element, was spelled, and what is spelled is read. `grow` is what a step
-- keeps of the elements so far.
use Rattle.std.proofs.Common.{◌≡◌, ℕ, zero, suc, ◌+◌, ◌<◌, ◌≤◌, Bool, true, false, cond, List, [], ◌∷◌, ◌++◌, length, drop, Ok, refl, sym, ap, subst, ◌∙◌, append_assoc, arith}
use Rattle.std.proofs.lemmas.Bool.{eqb-true}
use Rattle.std.proofs.lemmas.List.{length-append, append-nil}
use Rattle.cbor_core.specs.Reading.{Read, ◌>>=◌, breaks, row_at, open_at}
use Rattle.cbor_core.specs.Spelling.{SpellsRow}
use Rattle.cbor_core.proofs.Bytes.{IsBytes, IsBytes-rest, bind_ok, ok_is, Takes, takes_none, takes_then, HasText}

module _ {A B : Type 0} (step : B → List ℕ → Read B) (grow : List A → B) (spells : List A → A → List ℕ → Type 0) where
  -- what a step gave was an element more
  pub record HasNext (before : List A) (bytes : List ℕ) (next : B × List ℕ) : Type 0 where
    pub x : A
    pub grown : next.0 ≡ grow (before ++ x ∷ [])
    pub has_text : HasText (spells before x) bytes next.1

  pub record HasRow (before : List A) (bytes : List ℕ) (count : ℕ) (all : B × List ℕ) : Type 0 where
    pub xs : List A
    pub counted : length xs ≡ count
    pub grown : all.0 ≡ grow (before ++ xs)
    pub has_text : HasText (SpellsRow spells before xs) bytes all.1

  -- the same up to a break
  pub record HasOpen (before : List A) (bytes : List ℕ) (all : B × List ℕ) : Type 0 where
    pub xs : List A
    pub row : List ℕ
    pub grown : all.0 ≡ grow (before ++ xs)
    pub has_row : SpellsRow spells before xs row
    pub taken : Takes bytes (row ++ 255 ∷ []) all.1

  module _ (found : (before : List A) (bytes : List ℕ) (next : B × List ℕ) → IsBytes bytes → step (grow before) bytes ≡ Ok next → HasNext before bytes next) where
    pub row_found : (n : ℕ) (before : List A) (bytes : List ℕ) (all : B × List ℕ) → IsBytes bytes → row_at step n (grow before) bytes ≡ Ok all → HasRow before bytes n all
    unfolding row_at SpellsRow
    row_found zero before bytes all fits e = subst (HasRow before bytes 0) (ok_is (grow before, bytes) all e) (record {
      xs = [];
      counted = refl;
      grown = ap grow (sym (append-nil before));
      has_text = record { text = []; spelled = refl; taken = takes_none bytes fits };
    })
    row_found (suc n) before bytes all fits e =
        let b = bind_ok (step (grow before) bytes) (λ x. row_at step n x.0 x.1) all e in
        let one = found before bytes b.0 fits b.1 in
        let more = row_found n (before ++ one.x ∷ []) b.0.1 all one.has_text.taken.rest_fits (subst (λ g. row_at step n g b.0.1 ≡ Ok all) one.grown b.2) in
        record {
          xs = one.x ∷ more.xs;
          counted = ap suc more.counted;
          grown = more.grown ∙ ap grow (append_assoc before (one.x ∷ []) more.xs);
          has_text = record {
            text = one.has_text.text ++ more.has_text.text;
            spelled = (one.has_text.text, more.has_text.text, one.has_text.spelled, more.has_text.spelled, refl);
            taken = takes_then bytes one.has_text.text b.0.1 more.has_text.text all.1 one.has_text.taken more.has_text.taken;
          };
        }

    pub open_found : (total turns : ℕ) (before : List A) (bytes : List ℕ) (all : B × List ℕ) → IsBytes bytes → open_at step total turns (grow before) bytes ≡ Ok all → HasOpen before bytes all
    unfolding open_at SpellsRow
    open_found total zero before bytes all fits e = absurd cc
    open_found total (suc turns) before bytes all fits e = go (open_found total turns) (breaks bytes) refl e
      where
        ended : (bytes : List ℕ) → IsBytes bytes → breaks bytes ≡ true → Takes bytes (255 ∷ []) (drop 1 bytes)
        ended [] fits e = absurd cc
        ended (b ∷ bytes) fits e = record { parts = ap (λ k. k ∷ bytes) (eqb-true _ _ e); rest_fits = IsBytes-rest b bytes fits }

        go : ((before : List A) (bytes : List ℕ) (all : B × List ℕ) → IsBytes bytes → open_at step total turns (grow before) bytes ≡ Ok all → HasOpen before bytes all)
            → (b : Bool) → breaks bytes ≡ b → cond b (Ok (grow before, drop 1 bytes)) (step (grow before) bytes >>= λ x. open_at step total turns x.0 x.1) ≡ Ok all → HasOpen before bytes all
        go later true is r = subst (HasOpen before bytes) (ok_is (grow before, drop 1 bytes) all r) (record {
          xs = [];
          row = [];
          grown = ap grow (sym (append-nil before));
          has_row = refl;
          taken = ended bytes fits is;
        })
        go later false is r =
            let b = bind_ok (step (grow before) bytes) (λ x. open_at step total turns x.0 x.1) all r in
            let one = found before bytes b.0 fits b.1 in
            let more = later (before ++ one.x ∷ []) b.0.1 all one.has_text.taken.rest_fits (subst (λ g. open_at step total turns g b.0.1 ≡ Ok all) one.grown b.2) in
            record {
              xs = one.x ∷ more.xs;
              row = one.has_text.text ++ more.row;
              grown = more.grown ∙ ap grow (append_assoc before (one.x ∷ []) more.xs);
              has_row = (one.has_text.text, more.row, one.has_text.spelled, more.has_row, refl);
              taken = rw (append_assoc one.has_text.text more.row (255 ∷ [])) (takes_then bytes one.has_text.text b.0.1 (more.row ++ 255 ∷ []) all.1 one.has_text.taken more.taken);
            }

  module _ (again : (before : List A) (x : A) (text rest : List ℕ) → spells before x text → step (grow before) (text ++ rest) ≡ Ok (grow (before ++ x ∷ []), rest)) where
    pub row_again : (xs before : List A) (text rest : List ℕ) → SpellsRow spells before xs text → row_at step (length xs) (grow before) (text ++ rest) ≡ Ok (grow (before ++ xs), rest)
    unfolding row_at SpellsRow
    row_again [] before text rest h = rw (h, append-nil before) refl
    row_again (x ∷ xs) before text rest h =
        let apart : text ++ rest ≡ h.0 ++ (h.1 ++ rest) = ap (λ t. t ++ rest) h.4 ∙ append_assoc h.0 h.1 rest in
        ap (row_at step (suc (length xs)) (grow before)) apart ∙ rw (again before x h.0 (h.1 ++ rest) h.2, row_again xs (before ++ x ∷ []) h.1 rest h.3, append_assoc before (x ∷ []) xs) refl

    module _ (starts : (front : B) (bytes : List ℕ) (next : B × List ℕ) → step front bytes ≡ Ok next → breaks bytes ≡ false) where
      pub open_again : (total : ℕ) (xs before : List A) (turns : ℕ) (text rest : List ℕ) → length xs < turns → SpellsRow spells before xs text
          → open_at step total turns (grow before) (text ++ 255 ∷ rest) ≡ Ok (grow (before ++ xs), rest)
      unfolding open_at SpellsRow
      open_again total xs before zero text rest lt h = absurd (omega arith)
      open_again total [] before (suc turns) text rest lt h = rw (h, append-nil before) refl
      open_again total (x ∷ xs) before (suc turns) text rest lt h =
          let apart : text ++ 255 ∷ rest ≡ h.0 ++ (h.1 ++ 255 ∷ rest) = ap (λ t. t ++ 255 ∷ rest) h.4 ∙ append_assoc h.0 h.1 (255 ∷ rest) in
          let one = again before x h.0 (h.1 ++ 255 ∷ rest) h.2 in
          ap (open_at step total (suc turns) (grow before)) apart
          ∙ rw (
            starts (grow before) (h.0 ++ (h.1 ++ 255 ∷ rest)) (grow (before ++ x ∷ []), h.1 ++ 255 ∷ rest) one,
            one,
            open_again total xs (before ++ x ∷ []) turns h.1 rest (omega arith) h.3,
            append_assoc before (x ∷ []) xs,
          ) refl

    module _ (some : (front : B) (next : B × List ℕ) → step front [] ≡ Ok next → ⊥) where
      pub row_long : (xs before : List A) (text : List ℕ) → SpellsRow spells before xs text → length xs ≤ length text
      unfolding SpellsRow
      row_long [] before text h = omega arith
      row_long (x ∷ xs) before text h =
          let more = row_long xs (before ++ x ∷ []) h.1 h.3 in
          let one : 1 ≤ length h.0 = not_empty h.0 (λ e. some (grow before) (grow (before ++ x ∷ []), []) (subst (λ t. step (grow before) (t ++ []) ≡ Ok (grow (before ++ x ∷ []), [])) e (again before x h.0 [] h.2))) in
          let long : length text ≡ length h.0 + length h.1 = ap length h.4 ∙ length-append h.0 h.1 in
          omega arith
        where
          not_empty : (t : List ℕ) → (t ≡ [] → ⊥) → 1 ≤ length t
          not_empty [] e = absurd (e refl)
          not_empty (b ∷ t) e = omega arith
