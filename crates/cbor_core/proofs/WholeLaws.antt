-- What the whole of an input says.
use Rattle.std.proofs.Common.{◌≡◌, ℕ, List, length, take, Bool, true, false, nat_eq, cond, Option, Some, None, Result, Ok, Err, refl, sym, ap, subst, ◌∙◌, arith}
use Rattle.std.proofs.lemmas.Bool.{eq-eqb, eqb-true}
use Rattle.std.proofs.lemmas.List.{take_all}
use Rattle.cbor_core.specs.declared.fault.CborFault.{CborFault}
use Rattle.cbor_core.specs.declared.item.Item.{Item}
use Rattle.cbor_core.specs.Reading.{first_item}
use Rattle.cbor_core.specs.Spelling.{Spells, SpellsWithin}
use Rattle.cbor_core.specs.Spots.{Spot, start}
use Rattle.cbor_core.specs.Whole.{whole, whole_of, ended, said_of, said_at, Says, seen_of, seen_at, Shows}
use Rattle.cbor_core.proofs.Bytes.{IsBytes}
use Rattle.cbor_core.proofs.Readings.{first_found, first_again}

pub spelled_read : (bytes : List ℕ) (x : Item) → Spells x bytes → first_item false bytes ≡ Ok (x, length bytes)
spelled_read bytes x h = first_again false bytes x (length bytes) (omega arith) (subst (SpellsWithin false 16 x) (sym (take_all (length bytes) bytes (omega arith))) h)

pub spelled_whole : (bytes : List ℕ) (x : Item) → Spells x bytes → whole bytes ≡ Some x
spelled_whole bytes x h = ap (whole_of (length bytes)) (spelled_read bytes x h) ∙ (rw (eq-eqb (length bytes) (length bytes) refl) refl)

read_spelled : (bytes : List ℕ) (x : Item × ℕ) → IsBytes bytes → first_item false bytes ≡ Ok x → x.1 ≡ length bytes → Spells x.0 bytes
read_spelled bytes x fits e end = subst (SpellsWithin false 16 x.0) (ap (λ k. take k bytes) end ∙ take_all (length bytes) bytes (omega arith)) (first_found false bytes x fits e).1

pub whole_spelled : (bytes : List ℕ) (x : Item) → IsBytes bytes → whole bytes ≡ Some x → Spells x bytes
whole_spelled bytes x fits e = go (first_item false bytes) refl e
  where
    at_end : (y : Item × ℕ) → first_item false bytes ≡ Ok y → (b : Bool) → nat_eq y.1 (length bytes) ≡ b → cond b (Some y.0) None ≡ Some x → Spells x bytes
    at_end y read true end e = subst (λ z. Spells z bytes) (cc e) (read_spelled bytes y fits read (eqb-true y.1 (length bytes) end))
    at_end y read false end e = absurd (cc e)

    go : (r : Result (Item × ℕ) CborFault) → first_item false bytes ≡ r → whole_of (length bytes) r ≡ Some x → Spells x bytes
    go (Ok y) read e = at_end y read (nat_eq y.1 (length bytes)) refl e
    go (Err f) read e = absurd (cc e)

pub says_found : {A : Type 0} (said : Item → Option A) (place : Spot → ℕ) (bytes : List ℕ) (value : A) → IsBytes bytes → said_at said place bytes ≡ Ok value → Says said bytes value
says_found {A} said place bytes value fits e = go (first_item false bytes) refl e
  where
    at_end : (y : Item × ℕ) → first_item false bytes ≡ Ok y → (o : Option A) → said y.0 ≡ o → (b : Bool) → nat_eq y.1 (length bytes) ≡ b → ended (length bytes) y.1 (place (start bytes)) o ≡ Ok value → Says said bytes value
    at_end y read None is b end e = absurd (cc e)
    at_end y read (Some v) is true end e =
        let same : v ≡ value = cc (e, end) in
        record { item = y.0; spelled = read_spelled bytes y fits read (eqb-true y.1 (length bytes) end); says = is ∙ ap Some same }
    at_end y read (Some v) is false end e = absurd (cc (e, end))

    go : (r : Result (Item × ℕ) CborFault) → first_item false bytes ≡ r → said_of said place bytes r ≡ Ok value → Says said bytes value
    go (Ok y) read e = at_end y read (said y.0) refl (nat_eq y.1 (length bytes)) refl e
    go (Err f) read e = absurd (cc e)

pub says_again : {A : Type 0} (said : Item → Option A) (place : Spot → ℕ) (bytes : List ℕ) (value : A) → Says said bytes value → said_at said place bytes ≡ Ok value
says_again said place bytes value h =
    ap (said_of said place bytes) (spelled_read bytes h.item h.spelled)
    ∙ ap (ended (length bytes) (length bytes) (place (start bytes))) h.says
    ∙ (rw (eq-eqb (length bytes) (length bytes) refl) refl)

-- ---- values that keep bytes as they were received

pub shows_found : {A : Type 0} (seen : Spot → Option A) (place : Spot → ℕ) (bytes : List ℕ) (value : A) → IsBytes bytes → seen_at seen place bytes ≡ Ok value → Shows seen bytes value
shows_found {A} seen place bytes value fits e = go (first_item false bytes) refl e
  where
    at_end : (y : Item × ℕ) → first_item false bytes ≡ Ok y → (o : Option A) → seen (start bytes) ≡ o → (b : Bool) → nat_eq y.1 (length bytes) ≡ b → ended (length bytes) y.1 (place (start bytes)) o ≡ Ok value → Shows seen bytes value
    at_end y read None is b end e = absurd (cc e)
    at_end y read (Some v) is true end e =
        let same : v ≡ value = cc (e, end) in
        record { item = y.0; spelled = read_spelled bytes y fits read (eqb-true y.1 (length bytes) end); shows = is ∙ ap Some same }
    at_end y read (Some v) is false end e = absurd (cc (e, end))

    go : (r : Result (Item × ℕ) CborFault) → first_item false bytes ≡ r → seen_of seen place bytes r ≡ Ok value → Shows seen bytes value
    go (Ok y) read e = at_end y read (seen (start bytes)) refl (nat_eq y.1 (length bytes)) refl e
    go (Err f) read e = absurd (cc e)

pub shows_again : {A : Type 0} (seen : Spot → Option A) (place : Spot → ℕ) (bytes : List ℕ) (value : A) → Shows seen bytes value → seen_at seen place bytes ≡ Ok value
shows_again seen place bytes value h =
    ap (seen_of seen place bytes) (spelled_read bytes h.item h.spelled)
    ∙ ap (ended (length bytes) (length bytes) (place (start bytes))) h.shows
    ∙ (rw (eq-eqb (length bytes) (length bytes) refl) refl)
