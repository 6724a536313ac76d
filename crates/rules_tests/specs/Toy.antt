-- A suite of short functions: a signature is the text, a key is its own certificate, and sealing changes nothing.
use Rattle.std.specs.Prelude.{pos, [], ◌∷◌, ◌++◌, true, Some, None, if◌then◌else◌}
use Rattle.std.specs.Ordering.{int_eq}
use Rattle.std.specs.Str.{bytes_eq}
use Rattle.fdo_rules.specs.Row.{Outside}
use Rattle.fdo_rules.specs.Suite.{Suite}

abbrev pub toy : Suite
toy = record {
  verifies = λ key alg text sig. if int_eq alg (pos 7) then Some (bytes_eq sig text) else None;
  algorithm = λ key. Some (pos 7);
  agrees = λ name. true;
  first = λ name draw. (draw, draw);
  second = λ name draw xa. Some (draw, xa ++ draw);
  finish = λ name private xb. Some (private ++ xb);
  bits = λ cipher. Some 128;
  seals = λ alg key iv aad plain. plain;
  opens = λ alg key iv aad sealed. Some sealed;
  leaf = λ certificate. Some certificate;
  issues = λ key. true;
}

-- each draw is its number, and it is second 100
abbrev pub calm : Outside
calm = record { draw = λ n. n ∷ []; now = 100; signature = λ key text. text; certificate = λ key. key }
