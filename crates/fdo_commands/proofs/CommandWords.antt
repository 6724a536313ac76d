-- The words of a command.
use Rattle.std.proofs.Common.{◌≡◌, ℕ, ◌<◌, ◌≤◌, Bool, true, false, List, [], ◌∷◌, length, slice_index_or, Option, Some, None, Result, Ok, Err, refl, sym, ◌∙◌, subst, arith}
use Rattle.std.specs.Prelude.{IfOk, IfErr, codes, bytes_eq, ◌&&◌, if◌then◌else◌}
use Rattle.cbor_core.specs.Whole.{whole}
use Rattle.cbor_core.specs.declared.item.Item.{Item}
use Rattle.key_codec.specs.declared.fault.KeyFault.{KeyFault}
use Rattle.key_codec.specs.declared.key.PublicKey.{PublicKey}
use Rattle.key_codec.specs.Fault.{ok_of}
use Rattle.key_codec.specs.Key.{IsKey, key_in}
use Rattle.key_codec.proofs.Said.{key_said as key_is}
use Rattle.fdo_commands.specs.Commands.{HasKeys, IsExtendForm, extend_of, extend_said, four_said}
use Rattle.fdo_commands.specs.KeyWords.{bytes_said, key_of_bytes, key_of_item, key_said}
use Rattle.fdo_commands.specs.declared.command.Command.{Command}

-- a key that a word says is of the form
ok_some : (r : Result PublicKey KeyFault) (key : PublicKey) → ok_of r ≡ Some key → r ≡ Ok key
ok_some (Ok k) key h = cc h
ok_some (Err f) key h = absurd (cc h)

item_form : (o : Option Item) (key : PublicKey) → key_of_item o ≡ Some key → IsKey key
item_form (Some item) key h = (key_is item key (ok_some (key_in item) key h)).form
item_form None key h = absurd (cc h)

bytes_form : (o : Option (List ℕ)) (key : PublicKey) → key_of_bytes o ≡ Some key → IsKey key
bytes_form (Some bytes) key h = item_form (whole bytes) key h
bytes_form None key h = absurd (cc h)

extend_keys : (next : Option PublicKey) → ((key : PublicKey) → next ≡ Some key → IsKey key) → (private : Option (List ℕ)) → HasKeys (extend_of next private)
extend_keys (Some key) form (Some private) = form key refl
extend_keys (Some key) form None = tt
extend_keys None form private = tt

four_keys : (extends : Bool) (key private : List ℕ) → HasKeys (if extends then extend_said key private else None)
four_keys true key private = extend_keys (key_said key) (bytes_form (bytes_said key)) (bytes_said private)
four_keys false key private = tt

-- the keys of the command that four words name are of the form
pub four_found : {E : Type 0} (one two three four : List ℕ) (found : Result (Option Command) E) → IfOk found (λ command. command ≡ four_said one two three four) → IfOk found HasKeys
four_found one two three four (Ok command) is =
    subst HasKeys (sym is) (four_keys (bytes_eq one (codes "voucher") && bytes_eq two (codes "extend")) three four)
four_found one two three four (Err e) is = tt

-- a list of four items
pub four_items : {A : Type 0} (items : List A) (a b c d : A) → 4 ≤ length items → length items < 5 → a ≡ slice_index_or items 0 a → b ≡ slice_index_or items 1 b → c ≡ slice_index_or items 2 c → d ≡ slice_index_or items 3 d → items ≡ a ∷ b ∷ c ∷ d ∷ []
four_items [] a b c d some few one two three four = let no : ⊥ = omega (arith, some) in absurd no
four_items (w ∷ []) a b c d some few one two three four = let no : ⊥ = omega (arith, some) in absurd no
four_items (w ∷ x ∷ []) a b c d some few one two three four = let no : ⊥ = omega (arith, some) in absurd no
four_items (w ∷ x ∷ y ∷ []) a b c d some few one two three four = let no : ⊥ = omega (arith, some) in absurd no
four_items (w ∷ x ∷ y ∷ z ∷ []) a b c d some few one two three four = rw (one, two, three, four) refl
four_items (w ∷ x ∷ y ∷ z ∷ (v ∷ rest)) a b c d some few one two three four = let no : ⊥ = omega (arith, few) in absurd no

-- memory for them runs out only where the words are of the form
pub form_said : {T E : Type 0} (words : List (List ℕ)) (one two three four : List ℕ) → words ≡ one ∷ two ∷ three ∷ four ∷ [] → (found : Result T E) → IfErr found (λ _. (one ≡ codes "voucher") × (two ≡ codes "extend")) → IfErr found (λ _. IsExtendForm words)
form_said words one two three four all (Ok x) extend = tt
form_said words one two three four all (Err e) extend = (three, four, all ∙ rw (extend.0, extend.1) refl)
