-- How many bytes a snapshot takes: one for each entry more than in version 1.
use Rattle.std.proofs.Common.{◌≡◌, ◌⊎◌, inl, inr, ℕ, ℤ, ◌+◌, ◌*◌, ◌^◌, pos, List, [], ◌∷◌, ◌++◌, map, length, Bool, true, false, nat_lt, if◌then◌else◌, Option, Some, None, refl, sym, ap, ◌∙◌, arith}
use Rattle.std.specs.Prelude.{sum}
use Rattle.std.specs.List.{concat}
use Rattle.std.specs.Int.{w8, w16, w32, w64, to_be_bytes}
use Rattle.std.proofs.lemmas.List.{length-append}
use Rattle.std.proofs.lemmas.List.Sums.{sum_by-cons}
use Rattle.cbor_core.specs.declared.item.Item.{Item}
use Rattle.cbor_core.specs.declared.item.Item.TheVariants as items
use Rattle.cbor_core.specs.Head.{head}
use Rattle.cbor_core.specs.Deterministic.{det}
use Rattle.cbor_core.specs.Numbers.{item_of_integer}
use Rattle.cbor_core.proofs.Dets.{length_map, det_uint, det_bytes, det_text, det_array, det_simple}
use Rattle.voucher_chain.specs.declared.voucher.Voucher.{Voucher}
use Rattle.voucher_map.specs.Map.{head_length, string_length, candidate_length, entry_length, snapshot_length}
use Rattle.voucher_map.specs.declared.kept.Kept.{Kept}
use Rattle.voucher_map.specs.declared.kept.Kept.TheVariants as kept
use Rattle.voucher_store.specs.Writing.{item_of_candidate, item_of_kind, item_of_entry, word, body_of_snapshot, IsSoundEntry, AreSound, IsMap}
use Rattle.voucher_store.proofs.SnapshotBack.{known_kind}

abbrev head_by : ℕ → ℕ → Bool → Bool → Bool → Bool → List ℕ
head_by m n a b c d =
    if a then (32 * m + n) ∷ []
    else if b then (32 * m + 24) ∷ to_be_bytes w8 n
    else if c then (32 * m + 25) ∷ to_be_bytes w16 n
    else if d then (32 * m + 26) ∷ to_be_bytes w32 n
    else (32 * m + 27) ∷ to_be_bytes w64 n

length_by : (m n : ℕ) (a b c d : Bool) → length (head_by m n a b c d) ≡ (if a then 1 else if b then 2 else if c then 3 else if d then 5 else 9)
length_by m n true b c d = omega arith
length_by m n false true c d = omega arith
length_by m n false false true d = omega arith
length_by m n false false false true = omega arith
length_by m n false false false false = omega arith

pub head_size : (m n : ℕ) → length (head m n) ≡ head_length n
unfolding head
head_size m n = length_by m n (nat_lt n 24) (nat_lt n (2 ^ 8)) (nat_lt n (2 ^ 16)) (nat_lt n (2 ^ 32))

uint_size : (n : ℕ) → length (det (items.Uint n)) ≡ head_length n
uint_size n = ap (λ x. length (det x)) (sym (items.rolls-Uint n)) ∙ ap length (det_uint n) ∙ head_size 0 n

bytes_size : (b : List ℕ) → length (det (items.Bytes b)) ≡ string_length b
bytes_size b = ap (λ x. length (det x)) (sym (items.rolls-Bytes b)) ∙ ap length (det_bytes b) ∙ length-append (head 2 (length b)) b ∙ ap (λ n. n + length b) (head_size 2 (length b))

text_size : (t : List ℕ) → length (det (items.Text t)) ≡ string_length t
text_size t = ap (λ x. length (det x)) (sym (items.rolls-Text t)) ∙ ap length (det_text t) ∙ length-append (head 3 (length t)) t ∙ ap (λ n. n + length t) (head_size 3 (length t))

array_size : (xs : List Item) → length (det (items.Array xs)) ≡ head_length (length xs) + length (concat (map det xs))
array_size xs = ap (λ x. length (det x)) (sym (items.rolls-Array xs)) ∙ ap length (det_array xs) ∙ length-append (head 4 (length xs)) (concat (map det xs)) ∙ ap (λ n. n + length (concat (map det xs))) (head_size 4 (length xs))

kind_size : (k : ℤ) → (k ≡ pos 5) ⊎ (k ≡ pos 6) → length (det (item_of_integer k)) ≡ 1
kind_size k (inl is) = ap (λ k. length (det (item_of_integer k))) is ∙ uint_size 5
kind_size k (inr is) = ap (λ k. length (det (item_of_integer k))) is ∙ uint_size 6

candidate_size : (o : Option Voucher) → length (det (item_of_candidate o)) ≡ candidate_length o
candidate_size None = ap (λ x. length (det x)) (sym (items.rolls-Simple 22)) ∙ ap length (det_simple 22) ∙ head_size 7 22
candidate_size (Some v) = bytes_size v.raw

row_size : (x : Item) (xs : List Item) → length (concat (map det (x ∷ xs))) ≡ length (det x) + length (concat (map det xs))
row_size x xs = length-append (det x) (concat (map det xs))

entry_size : (e : Kept) → IsSoundEntry e → length (det (item_of_entry e)) ≡ entry_length e + 1
entry_size (kept.Held b c) sound =
    omega (
      arith,
      array_size (items.Uint 0 ∷ item_of_kind b ∷ items.Bytes b.raw ∷ item_of_candidate c ∷ []),
      row_size (items.Uint 0) (item_of_kind b ∷ items.Bytes b.raw ∷ item_of_candidate c ∷ []),
      row_size (item_of_kind b) (items.Bytes b.raw ∷ item_of_candidate c ∷ []),
      row_size (items.Bytes b.raw) (item_of_candidate c ∷ []),
      row_size (item_of_candidate c) [],
      uint_size 0,
      kind_size b.hmac.kind (known_kind b sound.0),
      bytes_size b.raw,
      candidate_size c,
    )
entry_size (kept.Sent v) sound =
    omega (
      arith,
      array_size (items.Uint 1 ∷ item_of_kind v ∷ items.Bytes v.raw ∷ []),
      row_size (items.Uint 1) (item_of_kind v ∷ items.Bytes v.raw ∷ []),
      row_size (item_of_kind v) (items.Bytes v.raw ∷ []),
      row_size (items.Bytes v.raw) [],
      uint_size 1,
      kind_size v.hmac.kind (known_kind v sound),
      bytes_size v.raw,
    )

sum_more : (e : Kept) (es : List Kept) → sum (map entry_length (e ∷ es)) ≡ entry_length e + sum (map entry_length es)
sum_more e es = sum_by-cons (λ n. n) (entry_length e) (map entry_length es)

entries_size : (before es : List Kept) → AreSound before es → length (concat (map det (map item_of_entry es))) ≡ sum (map entry_length es) + length es
entries_size before [] sound = refl
entries_size before (e ∷ es) sound =
    omega (arith, sum_more e es, row_size (item_of_entry e) (map item_of_entry es), entry_size e sound.0, entries_size (before ++ e ∷ []) es sound.2)

pub snapshot_size : (es : List Kept) → IsMap es → length (body_of_snapshot es) ≡ snapshot_length es + length es
snapshot_size es is =
    let all : List Item = map item_of_entry es in
    let heads : head_length (length all) ≡ head_length (length es) = ap head_length (length_map item_of_entry es) in
    omega (
      arith,
      array_size (items.Uint 2 ∷ items.Array all ∷ items.Text word ∷ []),
      row_size (items.Uint 2) (items.Array all ∷ items.Text word ∷ []),
      row_size (items.Array all) (items.Text word ∷ []),
      row_size (items.Text word) [],
      uint_size 2,
      array_size all,
      heads,
      text_size word,
      entries_size [] es is.sound,
    )
