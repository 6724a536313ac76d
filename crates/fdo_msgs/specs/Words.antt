-- Words and lines, which a byte parts.
use Rattle.std.specs.Prelude.{ℕ, ◌≡◌, ◌≢◌, List, [], ◌∷◌}

-- no byte is this one
abbrev pub Lacks : ℕ → List ℕ → Type 0
Lacks mark [] = Unit {0}
Lacks mark (byte ∷ bytes) = (byte ≢ mark) × Lacks mark bytes

-- no digit string with a sign or a needless zero in front
abbrev pub IsLed : List ℕ → Type 0
IsLed [] = ⊥
IsLed (first ∷ rest) = (first ≢ 43) × (first ≡ 48 → rest ≡ [])
