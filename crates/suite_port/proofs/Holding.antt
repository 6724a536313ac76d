-- A key at the end of the keys that are held.
use Rattle.std.proofs.Common.{◌≡◌, ◌⊎◌, inl, inr, ℕ, List, [], ◌∷◌, ◌++◌, ◌||◌, Bool, true, false, refl, ap, sym, ◌∙◌}
use Rattle.std.specs.Str.{bytes_eq}
use Rattle.std.specs.declared.vec.Vec.{Vec}
use Rattle.std.specs.declared.alloc.Global.{Global}
use Rattle.std.proofs.lemmas.List.Folds.{list_any-append}
use Rattle.std.proofs.lemmas.Slice.Eq.{bytes_eq-Decides}
use Rattle.suite_port.specs.Held.{Adds}
use Rattle.suite_port.specs.Lab.{has_key}

or_false : (a : Bool) → (a || false) ≡ a
or_false true = refl
or_false false = refl

or_true : (a : Bool) → (a || true) ≡ true
or_true true = refl
or_true false = refl

or_split : (a b : Bool) → (a || b) ≡ true → (a ≡ true) ⊎ (b ≡ true)
or_split true b h = inl refl
or_split false b h = inr h

one_more : (keys : List (Vec ℕ Global)) (held : Vec ℕ Global) (other : List ℕ) → has_key (keys ++ held ∷ []) other ≡ (has_key keys other || bytes_eq held.items other)
one_more keys held other =
    list_any-append (λ (k : Vec ℕ Global). bytes_eq k.items other) keys (held ∷ []) ∙ ap (λ b. has_key keys other || b) (or_false (bytes_eq held.items other))

only_one : (keys : List (Vec ℕ Global)) (held : Vec ℕ Global) (other : List ℕ) → (has_key keys other ≡ true) ⊎ (bytes_eq held.items other ≡ true) → (has_key keys other ≡ true) ⊎ (other ≡ held.items)
only_one keys held other (inl before) = inl before
only_one keys held other (inr same) = inr (sym ((bytes_eq-Decides held.items other).0 same))

adds_last : (keys : List (Vec ℕ Global)) (held : Vec ℕ Global) → Adds (has_key keys) (has_key (keys ++ held ∷ [])) held.items
adds_last keys held = record {
  added = one_more keys held held.items ∙ ap (λ b. has_key keys held.items || b) ((bytes_eq-Decides held.items held.items).1 refl) ∙ or_true (has_key keys held.items);
  kept = λ other before. one_more keys held other ∙ ap (λ b. b || bytes_eq held.items other) before;
  only = λ other now. only_one keys held other (or_split (has_key keys other) (bytes_eq held.items other) (sym (one_more keys held other) ∙ now));
}

pub adds_key : (keys all : List (Vec ℕ Global)) (held : Vec ℕ Global) (key : List ℕ) → all ≡ keys ++ held ∷ [] → held.items ≡ key → Adds (has_key keys) (has_key all) key
adds_key keys all held key more same = rw (more, ← same) (adds_last keys held)
