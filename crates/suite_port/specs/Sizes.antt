-- How long the texts are that a suite seals.
use Rattle.std.specs.Prelude.{ℕ}

-- the most bytes of a plain text, and of the additional data beside it
abbrev pub most_plain : ℕ
most_plain = 16777216
