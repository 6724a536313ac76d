-- Items whose bytes as received are their deterministic spelling.
use Rattle.std.proofs.Common.{◌≡◌, ℕ, zero, suc, ◌-◌, Bool, true, false, List, length, take, Ok, refl, sym, ap, ◌∙◌}
use Rattle.cbor_core.specs.declared.head.Major.TheVariants as major
use Rattle.cbor_core.specs.declared.head.Head.{Head}
use Rattle.cbor_core.specs.declared.head.Head.TheVariants as heads
use Rattle.cbor_core.specs.declared.item.Item.{Item}
use Rattle.cbor_core.specs.Deterministic.{det}
use Rattle.cbor_core.specs.Keys.{is_settled}
use Rattle.cbor_core.specs.Reading.{Read, head_at, item_in, item_at}
use Rattle.cbor_core.proofs.Bytes.{IsBytes}
use Rattle.cbor_core.proofs.Found.{item_found}
use Rattle.cbor_core.proofs.PartLaws.{front_is}
use Rattle.cbor_core.proofs.Strict.{strict_det}

-- such an item is read as one whose spelling is to be deterministic
settled_in : (strict : Bool) (total place : ℕ) (read deeper : List ℕ → Read Item) (h : Head) (after : List ℕ) → is_settled h ≡ true → item_in strict total read place h after ≡ item_in true total deeper place h after
settled_in true total place read deeper (heads.Sized major.Unsigned true n) after e = refl
settled_in false total place read deeper (heads.Sized major.Unsigned true n) after e = refl
settled_in strict total place read deeper (heads.Sized major.Unsigned false n) after e = absurd cc
settled_in true total place read deeper (heads.Sized major.Negative true n) after e = refl
settled_in false total place read deeper (heads.Sized major.Negative true n) after e = refl
settled_in strict total place read deeper (heads.Sized major.Negative false n) after e = absurd cc
settled_in true total place read deeper (heads.Sized major.Bytes true n) after e = refl
settled_in false total place read deeper (heads.Sized major.Bytes true n) after e = refl
settled_in strict total place read deeper (heads.Sized major.Bytes false n) after e = absurd cc
settled_in true total place read deeper (heads.Sized major.Text true n) after e = refl
settled_in false total place read deeper (heads.Sized major.Text true n) after e = refl
settled_in strict total place read deeper (heads.Sized major.Text false n) after e = absurd cc
settled_in strict total place read deeper (heads.Sized major.Array s n) after e = absurd cc
settled_in strict total place read deeper (heads.Sized major.Map s n) after e = absurd cc
settled_in strict total place read deeper (heads.Sized major.Tag s n) after e = absurd cc
settled_in strict total place read deeper (heads.Open m) after e = absurd cc
settled_in strict total place read deeper (heads.Simple n) after e = absurd cc
settled_in strict total place read deeper heads.Float after e = absurd cc
settled_in strict total place read deeper heads.Break after e = absurd cc
settled_in strict total place read deeper heads.Reserved after e = absurd cc

settled_at : (strict : Bool) (total levels : ℕ) (bytes after : List ℕ) (h : Head) → head_at (total - length bytes) bytes ≡ Ok (h, after) → is_settled h ≡ true → item_at strict total levels bytes ≡ item_at true total levels bytes
unfolding item_at
settled_at strict total zero bytes after h reads e = refl
settled_at strict total (suc levels) bytes after h reads e = rw reads (settled_in strict total (total - length bytes) (item_at strict total levels) (item_at true total levels) h after e)

pub received_det : (place : ℕ) (bytes rest after : List ℕ) (h : Head) → IsBytes bytes → head_at place bytes ≡ Ok (h, after) → is_settled h ≡ true
    → (strict : Bool) (total levels : ℕ) (x : Item) → place ≡ total - length bytes → item_at strict total levels bytes ≡ Ok (x, rest) → take (length bytes - length rest) bytes ≡ det x
received_det place bytes rest after h fits reads e strict total levels x here is =
    let head = ap (λ p. head_at p bytes) (sym here) ∙ reads in
    let t = item_found true total levels bytes (x, rest) fits (sym (settled_at strict total levels bytes after h head e) ∙ is) in
    front_is bytes t.text rest rest t.taken.parts refl ∙ (strict_det levels x t.text t.spelled).text_is
