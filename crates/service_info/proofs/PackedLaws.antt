-- The lists that pairs are cut into are all of them, and no others are.
use Rattle.std.proofs.Common.{◌≡◌, ℕ, ◌≤◌, List, [], ◌∷◌, ◌++◌, length, take, drop, sym, ap, subst, ◌∙◌, arith}
use Rattle.std.proofs.lemmas.List.{length-append}
use Rattle.std.proofs.Math.Seq.{take-append_seam, drop-append_seam}
use Rattle.std.specs.List.{flat_map}
use Rattle.service_info.specs.declared.pair.Pair.{Pair}
use Rattle.service_info.specs.Packed.{IsCut, IsLongestFront, Packed, PackedFrom}
use Rattle.service_info.specs.Pairs.{Fits}

cut_whole : (size : ℕ) (pairs list rest : List Pair) → IsCut size pairs list rest → pairs ≡ list ++ rest
cut_whole size [] list rest cut = sym (ap (λ l. l ++ rest) cut.0 ∙ cut.1)
cut_whole size (p ∷ ps) list rest cut = cut.whole

from_whole : (size : ℕ) (pairs list : List Pair) (lists : List (List Pair)) → PackedFrom size pairs list lists → list ++ flat_map (λ l. l) lists ≡ pairs
from_whole size pairs list [] packed = sym (cut_whole size pairs list [] packed)
from_whole size pairs list (next ∷ lists) packed = ap (λ l. list ++ l) (from_whole size packed.0 next lists packed.3) ∙ sym (cut_whole size pairs list packed.0 packed.2)

pub whole : (size : ℕ) (pairs : List Pair) (lists : List (List Pair)) → Packed size pairs lists → flat_map (λ l. l) lists ≡ pairs
whole size pairs [] packed = absurd packed
whole size pairs (list ∷ lists) packed = from_whole size pairs list lists packed

front_within : (size : ℕ) (pairs a r b s : List Pair) → IsLongestFront size pairs a r → IsLongestFront size pairs b s → length b ≤ length a
front_within size pairs a r b s one other =
    let front : take (length b) pairs ≡ b = ap (take (length b)) other.whole ∙ take-append_seam b s in
    one.longest (length b) (omega (arith, ap length other.whole, length-append b s)) (subst (Fits size) (sym front) other.fits)

same_cut : (size : ℕ) (pairs a r b s : List Pair) → IsCut size pairs a r → IsCut size pairs b s → (a ≡ b) × (r ≡ s)
same_cut size [] a r b s one other = (one.0 ∙ sym other.0, one.1 ∙ sym other.1)
same_cut size (p ∷ ps) a r b s one other =
    let long : length a ≡ length b = omega (arith, front_within size (p ∷ ps) a r b s one other, front_within size (p ∷ ps) b s a r other one) in (
      sym (take-append_seam a r) ∙ ap (take (length a)) (sym one.whole) ∙ ap (λ n. take n (p ∷ ps)) long ∙ ap (take (length b)) other.whole ∙ take-append_seam b s,
      sym (drop-append_seam a r) ∙ ap (drop (length a)) (sym one.whole) ∙ ap (λ n. drop n (p ∷ ps)) long ∙ ap (drop (length b)) other.whole ∙ drop-append_seam b s,
    )

from_once : (size : ℕ) (pairs list other : List Pair) (lists others : List (List Pair)) → PackedFrom size pairs list lists → PackedFrom size pairs other others → (list ∷ lists) ≡ (other ∷ others)
from_once size pairs list other [] [] one two = ap (λ l. l ∷ []) (same_cut size pairs list [] other [] one two).0
from_once size pairs list other [] (next ∷ others) one two = absurd (two.1 (sym (same_cut size pairs list [] other two.0 one two.2).1))
from_once size pairs list other (next ∷ lists) [] one two = absurd (one.1 ((same_cut size pairs list one.0 other [] one.2 two).1))
from_once size pairs list other (next ∷ lists) (after ∷ others) one two =
    let same = same_cut size pairs list one.0 other two.0 one.2 two.2 in
    let rest = subst (λ l. PackedFrom size l next lists) same.1 one.3 in
    ap (λ l. l ∷ next ∷ lists) same.0 ∙ ap (λ l. other ∷ l) (from_once size two.0 next after lists others rest two.3)

pub once : (size : ℕ) (pairs : List Pair) (lists others : List (List Pair)) → Packed size pairs lists → Packed size pairs others → lists ≡ others
once size pairs [] others one two = absurd one
once size pairs (list ∷ lists) [] one two = absurd two
once size pairs (list ∷ lists) (other ∷ others) one two = from_once size pairs list other lists others one two
