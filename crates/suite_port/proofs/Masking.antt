-- A text combined with a stream byte by byte.
use Rattle.std.proofs.Common.{◌≡◌, ◌≢◌, ℕ, suc, ◌+◌, ◌/◌, ◌%◌, ◌<◌, List, [], ◌∷◌, ◌++◌, length, take, bit_xor, slice_index_or, ap, sym, ◌∙◌, arith}
use Rattle.std.proofs.Math.Seq.{take-suc}
use Rattle.std.proofs.lemmas.List.{length-take-le}
use Rattle.suite_port.specs.LabSeal.{stream, stream_block, masked}

masked_last : (bytes : ℕ → ℕ) (place : ℕ) (text : List ℕ) (byte : ℕ) → masked bytes place (text ++ byte ∷ []) ≡ masked bytes place text ++ bit_xor byte (bytes (place + length text)) ∷ []
masked_last bytes place [] byte = ap (λ (p : ℕ). bit_xor byte (bytes p) ∷ []) (omega arith)
masked_last bytes place (x ∷ text) byte =
    ap (λ rest. bit_xor x (bytes place) ∷ rest) (masked_last bytes (suc place) text byte
    ∙ ap (λ (p : ℕ). masked bytes (suc place) text ++ bit_xor byte (bytes p) ∷ []) (omega arith))

pub block_stays : (key iv block : List ℕ) (place : ℕ) → block ≡ stream_block key iv (place / 32) → (place + 1) % 32 ≢ 0 → block ≡ stream_block key iv ((place + 1) / 32)
block_stays key iv block place is within =
    let same : place / 32 ≡ (place + 1) / 32 = omega arith in
    is ∙ ap (stream_block key iv) same

-- one more byte, with the block that it stands in
pub masked_more : (key iv block text : List ℕ) (place : ℕ) → place < length text → block ≡ stream_block key iv (place / 32) → masked (stream key iv) 0 (take (place + 1) text) ≡ masked (stream key iv) 0 (take place text) ++ bit_xor (slice_index_or text place 0) (slice_index_or block (place % 32) 0) ∷ []
masked_more key iv block text place within is =
    let size : 0 + length (take place text) ≡ place = let same : length (take place text) ≡ place = length-take-le place text (omega arith) in omega arith in
    let next : place + 1 ≡ suc place = omega arith in
    ap (λ (n : ℕ). masked (stream key iv) 0 (take n text)) next
    ∙ ap (masked (stream key iv) 0) (take-suc text place 0 within)
    ∙ masked_last (stream key iv) 0 (take place text) (slice_index_or text place 0)
    ∙ ap (λ (p : ℕ). masked (stream key iv) 0 (take place text) ++ bit_xor (slice_index_or text place 0) (stream key iv p) ∷ []) size
    ∙ ap (λ b. masked (stream key iv) 0 (take place text) ++ bit_xor (slice_index_or text place 0) (slice_index_or b (place % 32) 0) ∷ []) (sym is)
