-- Whether bytes are UTF-8, as a test and as a fact.
use Rattle.std.proofs.Common.{◌≡◌, ℕ, Bool, true, false, List, [], ◌++◌, refl}
use Rattle.std.specs.Str.{is_utf8, IsUtf8}
use Rattle.std.proofs.lemmas.Str.{IsUtf8-from_is_utf8, is_utf8-from_IsUtf8, IsUtf8-append, IsUtf8-nil}

pub is_text : (bytes : List ℕ) → IsUtf8 bytes → is_utf8 bytes ≡ true
is_text bytes h = is_utf8-from_IsUtf8 bytes h

pub is_no_text : (bytes : List ℕ) → (IsUtf8 bytes → ⊥) → is_utf8 bytes ≡ false
is_no_text bytes h = go (is_utf8 bytes) (λ e. h (IsUtf8-from_is_utf8 bytes e))
  where
    go : (b : Bool) → (b ≡ true → ⊥) → b ≡ false
    go true deny = absurd (deny refl)
    go false deny = refl

pub joined_text : (a b : List ℕ) → is_utf8 a ≡ true → is_utf8 b ≡ true → is_utf8 (a ++ b) ≡ true
joined_text a b h k = is_utf8-from_IsUtf8 (a ++ b) (IsUtf8-append a b (IsUtf8-from_is_utf8 a h) (IsUtf8-from_is_utf8 b k))

pub no_bytes : is_utf8 [] ≡ true
no_bytes = is_utf8-from_IsUtf8 [] IsUtf8-nil
