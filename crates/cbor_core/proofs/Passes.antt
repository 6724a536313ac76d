-- Passing over an item and reading it.
use Rattle.std.specs.Ordering.{nat_cmp}
use Rattle.std.specs.Cmp.Lexicographic.{slice_cmp}
use Rattle.std.specs.BTreeSet.{insert_key}
use Rattle.std.proofs.Common.{◌≡◌, ℕ, zero, suc, ◌-◌, Bool, true, false, cond, ltb, List, [], ◌∷◌, ◌++◌, length, take, drop, Result, Ok, Err, refl, sym, ap, subst}
use Rattle.cbor_core.specs.declared.fault.CborFault.{CborFault}
use Rattle.cbor_core.specs.declared.fault.CborFault.TheVariants as fault
use Rattle.cbor_core.specs.declared.head.Major.{Major}
use Rattle.cbor_core.specs.declared.head.Major.TheVariants as major
use Rattle.cbor_core.specs.declared.head.Head.{Head}
use Rattle.cbor_core.specs.declared.head.Head.TheVariants as heads
use Rattle.cbor_core.specs.declared.item.Item.{Item}
use Rattle.cbor_core.specs.declared.item.Item.TheVariants as items
use Rattle.cbor_core.specs.Deterministic.{det}
use Rattle.cbor_core.specs.Reading.{Read, ◌>>=◌, Fails, head_at, is_content, content_at, chunk_in, chunk_step, breaks, row_at, open_at, item_step, key_spellings, admitted, pair_step, sized_in, open_in, item_in, buried_in, item_at}
use Rattle.cbor_core.specs.Keys.{key_set}
use Rattle.cbor_core.specs.Passing.{pass_content, pass_chunk, pass_step, pass_pair, fresh_step, forgotten, pass_pairs, pass_open_pairs, pass_sized, pass_open, pass_in, pass_at}
use Rattle.cbor_core.proofs.KeySets.{admitted_by_set, key_set_push}

-- passing ends where reading does, and where it is checked it fails as reading does
abbrev pub Passes : {A : Type 0} → Bool → Read (Unit {0}) → Read A → Type 0
Passes checked p (Ok x) = p ≡ Ok (tt, x.1)
Passes checked p (Err f) = checked ≡ true → p ≡ Err f

then : {A B : Type 0} (c : Bool) (p : Read (Unit {0})) (r : Read A) (g : Unit {0} × List ℕ → Read (Unit {0})) (f : A × List ℕ → Read B)
    → Passes c p r → ((x : A × List ℕ) → Passes c (g (tt, x.1)) (f x)) → Passes c (p >>= g) (r >>= f)
then c p (Ok x) g f h k = rw h (k x)
then c p (Err d) g f h k = λ t. rw (h t) refl

-- the same with nothing behind the passing
last : {A B : Type 0} (c : Bool) (p : Read (Unit {0})) (r : Read A) (f : A → B) → Passes c p r → Passes c p (r >>= λ x. Ok (f x.0, x.1))
last c p (Ok x) f h = h
last c p (Err d) f h = h

erased : {A : Type 0} (c : Bool) (r : Read A) → Passes c (r >>= λ x. Ok (tt, x.1)) r
erased c (Ok x) = refl
erased c (Err d) = λ t. refl

both : {A B : Type 0} (c : Bool) (r : Result A CborFault) (g : A → Read (Unit {0})) (f : A → Read B) → ((x : A) → Passes c (g x) (f x)) → Passes c (r >>= g) (r >>= f)
both c (Ok x) g f k = k x
both c (Err d) g f k = λ t. refl

-- a test that reading alone makes, where nothing is checked
skips : {A B : Type 0} (r : Result A CborFault) (p : Read (Unit {0})) (f : A → Read B) → ((x : A) → Passes false p (f x)) → Passes false p (r >>= f)
skips (Ok x) p f k = k x
skips (Err d) p f k = λ t. absurd cc

module _ {B : Type 0} (c : Bool) (pass : Unit {0} → List ℕ → Read (Unit {0})) (step : B → List ℕ → Read B) (one : (front : B) (bytes : List ℕ) → Passes c (pass tt bytes) (step front bytes)) where
  row_passes : (n : ℕ) (front : B) (bytes : List ℕ) → Passes c (row_at pass n tt bytes) (row_at step n front bytes)
  unfolding row_at
  row_passes zero front bytes = refl
  row_passes (suc n) front bytes = then c (pass tt bytes) (step front bytes) (λ x. row_at pass n x.0 x.1) (λ x. row_at step n x.0 x.1) (one front bytes) (λ x. row_passes n x.0 x.1)

  open_passes : (total turns : ℕ) (front : B) (bytes : List ℕ) → Passes c (open_at pass total turns tt bytes) (open_at step total turns front bytes)
  unfolding open_at
  open_passes total zero front bytes = λ t. refl
  open_passes total (suc turns) front bytes = go (breaks bytes) (then c (pass tt bytes) (step front bytes) (λ x. open_at pass total turns x.0 x.1) (λ x. open_at step total turns x.0 x.1) (one front bytes) (λ x. open_passes total turns x.0 x.1))
    where
      go : (b : Bool) → Passes c (pass tt bytes >>= λ x. open_at pass total turns x.0 x.1) (step front bytes >>= λ x. open_at step total turns x.0 x.1)
          → Passes c (cond b (Ok (tt, drop 1 bytes)) (pass tt bytes >>= λ x. open_at pass total turns x.0 x.1)) (cond b (Ok (front, drop 1 bytes)) (step front bytes >>= λ x. open_at step total turns x.0 x.1))
      go true h = refl
      go false h = h

content_passes : (c : Bool) (place : ℕ) (m : Major) (n : ℕ) (rest : List ℕ) → Passes c (pass_content c place m n rest) (content_at place m n rest)
content_passes true place m n rest = erased true (content_at place m n rest)
content_passes false place m n rest = go (ltb (length rest) n) (is_content m (take n rest))
  where
    go : (b d : Bool) → Passes false (cond b (Err (fault.Truncated place)) (Ok (tt, drop n rest))) (cond b (Err (fault.Truncated place)) (cond d (Ok (take n rest, drop n rest)) (Err (fault.Malformed place))))
    go true d = λ t. refl
    go false true = refl
    go false false = λ t. absurd cc

pub chunk_passes : (c : Bool) (total : ℕ) (m : Major) (front bytes : List ℕ) → Passes c (pass_chunk total m tt bytes) (chunk_step total m front bytes)
unfolding pass_chunk chunk_step
chunk_passes c total m front bytes =
    both c (head_at (total - length bytes) bytes) (λ h. chunk_in (total - length bytes) m h.0 h.1 >>= λ k. Ok (tt, k.1)) (λ h. chunk_in (total - length bytes) m h.0 h.1 >>= λ k. Ok (front ++ k.0, k.1))
    (λ h. both c (chunk_in (total - length bytes) m h.0 h.1) (λ k. Ok (tt, k.1)) (λ k. Ok (front ++ k.0, k.1)) (λ k. refl))

module _ (c : Bool) (total levels : ℕ) (one : (bytes : List ℕ) → Passes c (pass_at c total levels bytes) (item_at false total levels bytes)) where
  abbrev pass : List ℕ → Read (Unit {0})
  pass = pass_at c total levels

  abbrev read : List ℕ → Read Item
  read = item_at false total levels

  step_passes : (front : List Item) (bytes : List ℕ) → Passes c (pass_step pass tt bytes) (item_step read front bytes)
  step_passes front bytes = last c (pass bytes) (read bytes) (λ x. front ++ x ∷ []) (one bytes)

  sized_passes : ((n : ℕ) (rest : List ℕ) → Passes c (pass_pairs c total levels pass n rest) (row_at (pair_step false total read) n [] rest))
      → (place : ℕ) (m : Major) (n : ℕ) (s : Bool) (rest : List ℕ) → Passes c (pass_sized c total levels pass place m n rest) (sized_in false total read place m n s rest)
  sized_passes pairs place major.Unsigned n s rest = refl
  sized_passes pairs place major.Negative n s rest = refl
  sized_passes pairs place major.Bytes n s rest = last c (pass_content c place major.Bytes n rest) (content_at place major.Bytes n rest) items.Bytes (content_passes c place major.Bytes n rest)
  sized_passes pairs place major.Text n s rest = last c (pass_content c place major.Text n rest) (content_at place major.Text n rest) items.Text (content_passes c place major.Text n rest)
  sized_passes pairs place major.Array n s rest = last c (row_at (pass_step pass) n tt rest) (row_at (item_step read) n [] rest) items.Array (row_passes c (pass_step pass) (item_step read) step_passes n [] rest)
  sized_passes pairs place major.Map n s rest = last c (pass_pairs c total levels pass n rest) (row_at (pair_step false total read) n [] rest) items.Map (pairs n rest)
  sized_passes pairs place major.Tag n s rest = last c (pass rest) (read rest) (items.Tag n) (one rest)

  loose_passes : ((rest : List ℕ) → Passes c (pass_open_pairs c total levels pass rest) (open_at (pair_step false total read) total (length rest) [] rest))
      → (place : ℕ) (m : Major) (rest : List ℕ) → Passes c (pass_open c total levels pass place m rest) (open_in false total read place m rest)
  loose_passes pairs place major.Bytes rest = last c (open_at (pass_chunk total major.Bytes) total (length rest) tt rest) (open_at (chunk_step total major.Bytes) total (length rest) [] rest) items.Bytes
      (open_passes c (pass_chunk total major.Bytes) (chunk_step total major.Bytes) (chunk_passes c total major.Bytes) total (length rest) [] rest)
  loose_passes pairs place major.Text rest = last c (open_at (pass_chunk total major.Text) total (length rest) tt rest) (open_at (chunk_step total major.Text) total (length rest) [] rest) items.Text
      (open_passes c (pass_chunk total major.Text) (chunk_step total major.Text) (chunk_passes c total major.Text) total (length rest) [] rest)
  loose_passes pairs place major.Array rest = last c (open_at (pass_step pass) total (length rest) tt rest) (open_at (item_step read) total (length rest) [] rest) items.Array
      (open_passes c (pass_step pass) (item_step read) step_passes total (length rest) [] rest)
  loose_passes pairs place major.Map rest = last c (pass_open_pairs c total levels pass rest) (open_at (pair_step false total read) total (length rest) [] rest) items.Map (pairs rest)
  loose_passes pairs place major.Unsigned rest = λ t. refl
  loose_passes pairs place major.Negative rest = λ t. refl
  loose_passes pairs place major.Tag rest = λ t. refl

pair_passes : (total levels : ℕ) → ((bytes : List ℕ) → Passes false (pass_at false total levels bytes) (item_at false total levels bytes))
    → (front : List (Item × Item)) (bytes : List ℕ) → Passes false (pass_pair (pass_at false total levels) tt bytes) (pair_step false total (item_at false total levels) front bytes)
unfolding pair_step
pair_passes total levels one front bytes =
    let pass : List ℕ → Read (Unit {0}) = pass_at false total levels in
    let read : List ℕ → Read Item = item_at false total levels in
    let place = total - length bytes in
    then false (pass bytes) (read bytes) (λ key. pass key.1)
    (λ key. admitted false place (key_spellings front) (det key.0) >>= λ u. read key.1 >>= λ value. Ok (front ++ (key.0, value.0) ∷ [], value.1)) (one bytes)
    (λ key. skips (admitted false place (key_spellings front) (det key.0)) (pass key.1) (λ u. read key.1 >>= λ value. Ok (front ++ (key.0, value.0) ∷ [], value.1))
    (λ u. last false (pass key.1) (read key.1) (λ v. front ++ (key.0, v) ∷ []) (one key.1)))

-- ---- pairs whose keys are compared

same_passing : {A : Type 0} (p : Read (Unit {0})) (r : Read A) → Passes true p r → p ≡ forgotten r
same_passing p (Ok x) h = h
same_passing p (Err f) h = h refl

-- a row that keeps a view of what another keeps
abbrev viewed : {A B : Type 0} → (B → A) → Read B → Read A
viewed view r = r >>= λ x. Ok (view x.0, x.1)

viewed_further : {A B : Type 0} (view : B → A) (r : Read B) (g : A × List ℕ → Read A) (f : B × List ℕ → Read B) → ((x : B × List ℕ) → g (view x.0, x.1) ≡ viewed view (f x))
    → (viewed view r >>= g) ≡ viewed view (r >>= f)
viewed_further view (Ok x) g f more = more x
viewed_further view (Err e) g f more = refl

module _ {A B : Type 0} (view : B → A) (pass : A → List ℕ → Read A) (step : B → List ℕ → Read B)
    (one : (front : B) (bytes : List ℕ) → pass (view front) bytes ≡ viewed view (step front bytes)) where
  row_viewed : (n : ℕ) (front : B) (bytes : List ℕ) → row_at pass n (view front) bytes ≡ viewed view (row_at step n front bytes)
  unfolding row_at
  row_viewed zero front bytes = refl
  row_viewed (suc n) front bytes = rw (one front bytes) (viewed_further view (step front bytes) (λ x. row_at pass n x.0 x.1) (λ x. row_at step n x.0 x.1) (λ x. row_viewed n x.0 x.1))

  open_viewed : (total turns : ℕ) (front : B) (bytes : List ℕ) → open_at pass total turns (view front) bytes ≡ viewed view (open_at step total turns front bytes)
  unfolding open_at
  open_viewed total zero front bytes = refl
  open_viewed total (suc turns) front bytes = go (breaks bytes)
      (rw (one front bytes) (viewed_further view (step front bytes) (λ x. open_at pass total turns x.0 x.1) (λ x. open_at step total turns x.0 x.1) (λ x. open_viewed total turns x.0 x.1)))
    where
      go : (b : Bool) → (pass (view front) bytes >>= λ x. open_at pass total turns x.0 x.1) ≡ viewed view (step front bytes >>= λ x. open_at step total turns x.0 x.1)
          → cond b (Ok (view front, drop 1 bytes)) (pass (view front) bytes >>= λ x. open_at pass total turns x.0 x.1)
          ≡ viewed view (cond b (Ok (front, drop 1 bytes)) (step front bytes >>= λ x. open_at step total turns x.0 x.1))
      go true h = refl
      go false h = h

viewed_passes : {A B : Type 0} (view : B → A) (r : Read B) → Passes true (forgotten (viewed view r)) r
viewed_passes view (Ok x) = refl
viewed_passes view (Err f) = λ t. refl

-- the keys' spellings of pairs, as a set
abbrev seen : List (Item × Item) → List (List ℕ)
seen pairs = key_set (key_spellings pairs)

abbrev spelled : Read Item → Read (List ℕ)
spelled r = r >>= λ x. Ok (det x.0, x.1)

abbrev whole_row : Read (List (List ℕ)) → Read (List (List ℕ))
whole_row r = r >>= λ x. Ok (x.0, x.1)

module _ (total : ℕ) (read : List ℕ → Read Item) (pass : List ℕ → Read (Unit {0})) (same : (bytes : List ℕ) → pass bytes ≡ forgotten (read bytes)) where
  fresh_viewed : (front : List (Item × Item)) (bytes : List ℕ) → fresh_step total read pass (seen front) bytes ≡ viewed seen (pair_step false total read front bytes)
  unfolding fresh_step pair_step
  fresh_viewed front bytes = key (read bytes)
    where
      place : ℕ
      place = total - length bytes

      value : (k : Item) (r : Read Item) → (forgotten r >>= λ v. Ok (insert_key (slice_cmp nat_cmp) (seen front) (det k), v.1))
          ≡ viewed seen (r >>= λ v. Ok (front ++ (k, v.0) ∷ [], v.1))
      value k (Ok v) = ap (λ (keys : List (List ℕ)). Ok (keys, v.1)) (sym (key_set_push front k v.0))
      value k (Err f) = refl

      fresh : (k : Item) (after : List ℕ) (r : Result (Unit {0}) CborFault) → (r >>= λ u. pass after >>= λ v. Ok (insert_key (slice_cmp nat_cmp) (seen front) (det k), v.1))
          ≡ viewed seen (r >>= λ u. read after >>= λ v. Ok (front ++ (k, v.0) ∷ [], v.1))
      fresh k after (Ok u) = rw (same after) (value k (read after))
      fresh k after (Err f) = refl

      key : (r : Read Item) → (spelled r >>= λ k. admitted false place (seen front) k.0 >>= λ u. pass k.1 >>= λ v. Ok (insert_key (slice_cmp nat_cmp) (seen front) k.0, v.1))
          ≡ viewed seen (r >>= λ k. admitted false place (key_spellings front) (det k.0) >>= λ u. read k.1 >>= λ v. Ok (front ++ (k.0, v.0) ∷ [], v.1))
      key (Ok k) = rw (admitted_by_set false place (key_spellings front) (det k.0)) (fresh k.0 k.1 (admitted false place (key_spellings front) (det k.0)))
      key (Err f) = refl

  rows_pass : (n : ℕ) (rest : List ℕ) → Passes true (forgotten (row_at (fresh_step total read pass) n [] rest)) (row_at (pair_step false total read) n [] rest)
  rows_pass n rest = subst (λ q. Passes true (forgotten q) (row_at (pair_step false total read) n [] rest))
      (sym (row_viewed seen (fresh_step total read pass) (pair_step false total read) fresh_viewed n [] rest)) (viewed_passes seen (row_at (pair_step false total read) n [] rest))

  open_rows_pass : (rest : List ℕ) → Passes true (forgotten (open_at (fresh_step total read pass) total (length rest) [] rest)) (open_at (pair_step false total read) total (length rest) [] rest)
  open_rows_pass rest = subst (λ q. Passes true (forgotten q) (open_at (pair_step false total read) total (length rest) [] rest))
      (sym (open_viewed seen (fresh_step total read pass) (pair_step false total read) fresh_viewed total (length rest) [] rest)) (viewed_passes seen (open_at (pair_step false total read) total (length rest) [] rest))

  -- the one key of a map is compared with none
  one_row : (bytes : List ℕ) → forgotten (row_at (fresh_step total read pass) 1 [] bytes) ≡ pass_pair pass tt bytes
  unfolding row_at fresh_step
  one_row bytes = rw (same bytes) (key (read bytes))
    where
      value : (k : Item) (r : Read (Unit {0})) → forgotten (whole_row (r >>= λ v. Ok (insert_key (slice_cmp nat_cmp) [] (det k), v.1))) ≡ r
      value k (Ok v) = refl
      value k (Err f) = refl

      key : (r : Read Item) → forgotten (whole_row (spelled r >>= λ k. admitted false (total - length bytes) [] k.0 >>= λ u. pass k.1 >>= λ v. Ok (insert_key (slice_cmp nat_cmp) [] k.0, v.1)))
          ≡ (forgotten r >>= λ k. pass k.1)
      key (Ok k) = value k.0 (pass k.1)
      key (Err f) = refl

pairs_pass : (c : Bool) (total levels : ℕ) → ((bytes : List ℕ) → Passes c (pass_at c total levels bytes) (item_at false total levels bytes)) → (n : ℕ) (rest : List ℕ)
    → Passes c (pass_pairs c total levels (pass_at c total levels) n rest) (row_at (pair_step false total (item_at false total levels)) n [] rest)
pairs_pass true total levels one n rest = rows_pass total (item_at false total levels) (pass_at true total levels)
    (λ bytes. same_passing (pass_at true total levels bytes) (item_at false total levels bytes) (one bytes)) n rest
pairs_pass false total levels one n rest = row_passes false (pass_pair (pass_at false total levels)) (pair_step false total (item_at false total levels)) (pair_passes total levels one) n [] rest

open_pairs_pass : (c : Bool) (total levels : ℕ) → ((bytes : List ℕ) → Passes c (pass_at c total levels bytes) (item_at false total levels bytes)) → (rest : List ℕ)
    → Passes c (pass_open_pairs c total levels (pass_at c total levels) rest) (open_at (pair_step false total (item_at false total levels)) total (length rest) [] rest)
open_pairs_pass true total levels one rest = open_rows_pass total (item_at false total levels) (pass_at true total levels)
    (λ bytes. same_passing (pass_at true total levels bytes) (item_at false total levels bytes) (one bytes)) rest
open_pairs_pass false total levels one rest = open_passes false (pass_pair (pass_at false total levels)) (pair_step false total (item_at false total levels)) (pair_passes total levels one) total (length rest) [] rest

inside_passes : (c : Bool) (total levels : ℕ) → ((bytes : List ℕ) → Passes c (pass_at c total levels bytes) (item_at false total levels bytes)) → (place : ℕ) (h : Head) (rest : List ℕ)
    → Passes c (pass_in c total levels (pass_at c total levels) place h rest) (item_in false total (item_at false total levels) place h rest)
inside_passes c total levels one place (heads.Sized m s n) rest = sized_passes c total levels one (pairs_pass c total levels one) place m n s rest
inside_passes c total levels one place (heads.Open m) rest = loose_passes c total levels one (open_pairs_pass c total levels one) place m rest
inside_passes c total levels one place (heads.Simple n) rest = refl
inside_passes c total levels one place heads.Float rest = λ t. refl
inside_passes c total levels one place heads.Break rest = λ t. refl
inside_passes c total levels one place heads.Reserved rest = λ t. refl

pub item_passes : (c : Bool) (total levels : ℕ) (bytes : List ℕ) → Passes c (pass_at c total levels bytes) (item_at false total levels bytes)
unfolding pass_at item_at
item_passes c total zero bytes = both c (head_at (total - length bytes) bytes) (λ h. buried_in (total - length bytes) h.0 h.1 >>= λ x. Ok (tt, x.1)) (λ h. buried_in (total - length bytes) h.0 h.1)
    (λ h. erased c (buried_in (total - length bytes) h.0 h.1))
item_passes c total (suc levels) bytes = both c (head_at (total - length bytes) bytes)
    (λ h. pass_in c total levels (pass_at c total levels) (total - length bytes) h.0 h.1) (λ h. item_in false total (item_at false total levels) (total - length bytes) h.0 h.1)
    (λ h. inside_passes c total levels (item_passes c total levels) (total - length bytes) h.0 h.1)

-- an empty map, and a map of one pair
pub none_passes : (checked : Bool) (total levels : ℕ) (bytes : List ℕ) → pass_pairs checked total levels (pass_at checked total levels) 0 bytes ≡ Ok (tt, bytes)
unfolding row_at
none_passes true total levels bytes = refl
none_passes false total levels bytes = refl

pub one_passes : (total levels : ℕ) (bytes : List ℕ) → pass_pairs true total levels (pass_at true total levels) 1 bytes ≡ pass_pair (pass_at true total levels) tt bytes
one_passes total levels bytes = one_row total (item_at false total levels) (pass_at true total levels)
    (λ rest. same_passing (pass_at true total levels rest) (item_at false total levels rest) (item_passes true total levels rest)) bytes

-- a row whose keys are let go fails as it fails itself
pub fails_forgotten : {A : Type 0} (f : CborFault) (r : Read A) → Fails f r → Fails f (forgotten r)
fails_forgotten (fault.Truncated p) r h = rw h refl
fails_forgotten (fault.Malformed p) r h = rw h refl
fails_forgotten (fault.TooDeep p) r h = rw h refl
fails_forgotten (fault.Duplicate p) r h = rw h refl
fails_forgotten (fault.Float p) r h = rw h refl
fails_forgotten (fault.NotDeterministic p) r h = rw h refl
fails_forgotten fault.NoMemory r h = tt
