-- Lines in a row.
use Rattle.std.proofs.Common.{◌≡◌, ℕ, List, [], ◌∷◌, ◌++◌, sym, ap, ◌∙◌, append_assoc, append-nil}
use Rattle.std.proofs.lemmas.Grind.{flat_map-append}
use Rattle.voucher_tool.specs.Show.{ended, text_of}

pub text_more : (xs ys : List (List ℕ)) → text_of (xs ++ ys) ≡ text_of xs ++ text_of ys
text_more xs ys = flat_map-append ended xs ys

-- three parts, each put behind what was there
pub shown : (a b c : List (List ℕ)) (x y z : List ℕ) → x ≡ [] ++ text_of a → y ≡ x ++ text_of b → z ≡ y ++ text_of c → z ≡ text_of (a ++ b ++ c)
shown a b c x y z one two three =
    three
    ∙ ap (λ (l : List ℕ). l ++ text_of c) (two ∙ ap (λ (l : List ℕ). l ++ text_of b) one)
    ∙ ap (λ (l : List ℕ). l ++ text_of c) (sym (text_more a b))
    ∙ sym (text_more (a ++ b) c)

-- one line, and those after it
line_more : (line : List ℕ) (lines : List (List ℕ)) (x y z : List ℕ) → y ≡ x ++ ended line → z ≡ y ++ text_of lines → z ≡ x ++ text_of (line ∷ lines)
line_more line lines x y z one two =
    two
    ∙ ap (λ (l : List ℕ). l ++ text_of lines) one
    ∙ append_assoc x (ended line) (text_of lines)

-- six lines, each put behind what was there
pub six_lines : (a b c d e f : List ℕ) (t u v w x y z : List ℕ) → u ≡ t ++ ended a → v ≡ u ++ ended b → w ≡ v ++ ended c → x ≡ w ++ ended d → y ≡ x ++ ended e → z ≡ y ++ ended f
    → z ≡ t ++ text_of (a ∷ b ∷ c ∷ d ∷ e ∷ f ∷ [])
six_lines a b c d e f t u v w x y z one two three four five six =
    line_more a (b ∷ c ∷ d ∷ e ∷ f ∷ []) t u z one
    (line_more b (c ∷ d ∷ e ∷ f ∷ []) u v z two
    (line_more c (d ∷ e ∷ f ∷ []) v w z three
    (line_more d (e ∷ f ∷ []) w x z four
    (line_more e (f ∷ []) x y z five
    (line_more f [] y z z six (sym (append-nil z)))))))
