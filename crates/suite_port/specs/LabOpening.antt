-- The laws of sealing, at the laboratory suite.
use Rattle.std.proofs.Common.{◌≡◌, ℕ, suc, ℤ, negsuc, ◌+◌, ◌-◌, ◌*◌, ◌≤◌, List, [], ◌∷◌, ◌++◌, ◌&&◌, length, take, drop, nat_le, bit_xor, min, codes, Option, Some, None, true, refl, ap, sym, ◌∙◌}
use Rattle.std.specs.Int.Bits.{xor_assoc, xor_self, xor_zero_r}
use Rattle.std.specs.Str.{bytes_eq}
use Rattle.std.proofs.lemmas.Slice.Eq.{bytes_eq-Decides}
use Rattle.std.proofs.lemmas.Bool.{le-leb}
use Rattle.std.proofs.lemmas.List.{length-append, length-take}
use Rattle.std.proofs.Math.Nat.{add-sub_cancel, le-add_left}
use Rattle.std.proofs.Math.Seq.{take-append_seam, drop-append_seam}
use Rattle.sha2.specs.Sha256.{sha256}
use Rattle.sha2.proofs.Facts256.{length-sha256}
use Rattle.suite_port.specs.Answer.{only_if}
use Rattle.suite_port.specs.LabSeal.{lab_bits, in_eight_bytes, stream, masked, lab_combined, lab_tag, lab_seals, lab_opens}
use Rattle.suite_port.specs.Sizes.{most_plain}

xor_twice : (byte mask : ℕ) → bit_xor (bit_xor byte mask) mask ≡ byte
xor_twice byte mask = xor_assoc byte mask mask ∙ ap (bit_xor byte) (xor_self mask) ∙ xor_zero_r byte

-- combined twice, a text is as before
masked_twice : (bytes : ℕ → ℕ) (place : ℕ) (text : List ℕ) → masked bytes place (masked bytes place text) ≡ text
masked_twice bytes place [] = refl
masked_twice bytes place (byte ∷ text) =
    ap (λ b. b ∷ masked bytes (suc place) (masked bytes (suc place) text)) (xor_twice byte (bytes place))
    ∙ ap (λ rest. byte ∷ rest) (masked_twice bytes (suc place) text)

tag_size : (key iv aad text : List ℕ) → length (lab_tag key iv aad text) ≡ 16
tag_size key iv aad text =
    let message = codes "FDO-LAB-TAG" ++ key ++ iv ++ in_eight_bytes (length aad) ++ aad ++ text in
    length-take 16 (sha256 message) ∙ ap (min 16) (length-sha256 message)

-- a combined text with its tag is opened
with_tag : (alg : ℤ) (key iv aad text : List ℕ) → lab_opens alg key iv aad (text ++ lab_tag key iv aad text) ≡ Some (lab_combined key iv text)
with_tag alg key iv aad text =
    let tag = lab_tag key iv aad text in
    let all = text ++ tag in
    let sized : length all ≡ length text + 16 = length-append text tag ∙ ap (λ (n : ℕ). length text + n) (tag_size key iv aad text) in
    let front : length all - 16 ≡ length text = ap (λ (n : ℕ). n - 16) sized ∙ add-sub_cancel (length text) 16 in
    let enough : nat_le 16 (length all) ≡ true = ap (nat_le 16) sized ∙ le-leb 16 (length text + 16) (le-add_left 16 (length text)) in
    ap (λ (n : ℕ). only_if (nat_le 16 (length all) && bytes_eq (drop n all) (lab_tag key iv aad (take n all))) (lab_combined key iv (take n all))) front
    ∙ ap (λ (x : List ℕ). only_if (nat_le 16 (length all) && bytes_eq (drop (length text) all) (lab_tag key iv aad x)) (lab_combined key iv x)) (take-append_seam text tag)
    ∙ ap (λ (y : List ℕ). only_if (nat_le 16 (length all) && bytes_eq y tag) (lab_combined key iv text)) (drop-append_seam text tag)
    ∙ ap (λ b. only_if (nat_le 16 (length all) && b) (lab_combined key iv text)) ((bytes_eq-Decides tag tag).1 refl)
    ∙ ap (λ b. only_if (b && true) (lab_combined key iv text)) enough

pub lab_opens_sealed : (alg : ℤ) (key iv aad plain : List ℕ) → lab_bits alg ≡ Some (8 * length key) → length iv ≡ 12 → length aad ≤ most_plain → length plain ≤ most_plain → lab_opens alg key iv aad (lab_seals alg key iv aad plain) ≡ Some plain
lab_opens_sealed alg key iv aad plain bits iv_size aad_size plain_size =
    with_tag alg key iv aad (lab_combined key iv plain) ∙ ap Some (masked_twice (stream key iv) 0 plain)

-- the value that an option has, or another one
abbrev size_or : ℕ → Option ℕ → ℕ
size_or other None = other
size_or other (Some size) = size

pub lab_two_keys : (size : ℕ) → lab_bits (negsuc 65538) ≡ Some size → (size ≡ 256) × (lab_bits (negsuc 65537) ≡ Some 128)
lab_two_keys size bits = (sym (ap (size_or 256) bits), refl)
