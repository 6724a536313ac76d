-- A hash that is written is read, and what is read is a hash of the form.
use Rattle.std.proofs.Common.{◌≡◌, ℕ, ◌-◌, ◌≤◌, ◌==◌, ℤ, Bool, true, false, List, [], ◌∷◌, ◌++◌, length, take, drop, replicate, Option, Some, None, Result, Ok, Err, refl, sym, ap, subst, ◌∙◌, arith, lit<}
use Rattle.std.specs.Prelude.{◌≢◌, ◌||◌, if◌then◌else◌, IfOk}
use Rattle.std.specs.Ordering.{int_eq}
use Rattle.std.proofs.lemmas.Bool.Decides.{Decides-eqb}
use Rattle.std.proofs.lemmas.List.{length-take, take-append-drop}
use Rattle.cbor_core.specs.declared.item.Item.{Item}
use Rattle.cbor_core.specs.declared.item.Item.TheVariants as items
use Rattle.hash_hmac.specs.declared.hash.Hash.{Hash}
use Rattle.hash_hmac.specs.Kind.{length_of, sha256_kind, sha384_kind, hmac_sha256_kind, hmac_sha384_kind}
use Rattle.hash_hmac.specs.Value.{content, hash_value, IsConsistent}
use Rattle.key_codec.specs.declared.fault.KeyFault.{KeyFault}
use Rattle.key_codec.specs.declared.fault.KeyFault.TheVariants as fault
use Rattle.key_codec.specs.Fault.{◌>>=◌, shaped}
use Rattle.cbor_core.specs.Numbers.{item_of_integer, IsI64}
use Rattle.key_codec.specs.Parts.{two_in, bytes_in, number_in}
use Rattle.key_codec.specs.Hash.{hash_if_known, hash_by_kind, hash_in, item_of_hash}
use Rattle.key_codec.proofs.Binds.{bind_ok, ok_is, some_is}
use Rattle.key_codec.proofs.Found.{passed}
use Rattle.key_codec.proofs.Said.{two_said, number_said, bytes_said, pair_item}
use Rattle.key_codec.proofs.Back.{number_back, bytes_back, two_back, same_int}

-- a kind that is known
pub record IsKnown (kind : ℤ) (len : ℕ) : Type 0 where
  pub number : IsI64 kind
  pub short : len ≤ 48

kinds : (kind : ℤ) (len : ℕ) (a b c d : Bool) → (a ≡ true → IsI64 kind) → (b ≡ true → IsI64 kind) → (c ≡ true → IsI64 kind) → (d ≡ true → IsI64 kind)
    → (if a || b then Some 32 else if c || d then Some 48 else None) ≡ Some len → IsKnown kind len
kinds kind len true b c d pa pb pc pd e = record { number = pa refl; short = omega (arith, some_is 32 len e) }
kinds kind len false true c d pa pb pc pd e = record { number = pb refl; short = omega (arith, some_is 32 len e) }
kinds kind len false false true d pa pb pc pd e = record { number = pc refl; short = omega (arith, some_is 48 len e) }
kinds kind len false false false true pa pb pc pd e = record { number = pd refl; short = omega (arith, some_is 48 len e) }
kinds kind len false false false false pa pb pc pd e = absurd cc

pub kind_known : (kind : ℤ) (len : ℕ) → length_of kind ≡ Some len → IsKnown kind len
kind_known kind len e =
    kinds kind len (int_eq kind sha256_kind) (int_eq kind hmac_sha256_kind) (int_eq kind sha384_kind) (int_eq kind hmac_sha384_kind)
    (same_int kind sha256_kind (lit< tt)) (same_int kind hmac_sha256_kind (lit< tt)) (same_int kind sha384_kind (lit< tt)) (same_int kind hmac_sha384_kind (lit< tt)) e

-- ---- written and read

abbrev fields : ℤ → ℕ → List ℕ → Hash
fields kind len bytes = record { kind = kind; len = len; bytes = bytes }

filled_back : (kind : ℤ) (len : ℕ) (bytes : List ℕ) → length (take len bytes) ≡ len → drop len bytes ≡ replicate (48 - len) 0 → hash_value kind (take len bytes) ≡ fields kind len bytes
filled_back kind len bytes long zeros = rw (long, ← zeros, take-append-drop len bytes) refl

by_kind_back : (hash : Hash) → length hash.bytes ≡ 48 → IsConsistent hash → hash_by_kind hash.kind (content hash) ≡ Ok hash
unfolding hash_by_kind
by_kind_back hash all h =
    let short = (kind_known hash.kind hash.len h.len).short in
    let long : length (take hash.len hash.bytes) ≡ hash.len = omega (arith, length-take hash.len hash.bytes) in
    let same : (length (take hash.len hash.bytes) == hash.len) ≡ true = (Decides-eqb (length (take hash.len hash.bytes)) hash.len).1 long in
    rw (h.len, same) (ap Ok (filled_back hash.kind hash.len hash.bytes long h.zeros))

pub hash_back : (hash : Hash) → length hash.bytes ≡ 48 → IsConsistent hash → hash_in (item_of_hash hash) ≡ Ok hash
unfolding hash_in
hash_back hash all h =
    rw (two_back (item_of_integer hash.kind) (items.Bytes (content hash)), number_back hash.kind (kind_known hash.kind hash.len h.len).number, bytes_back (content hash)) (by_kind_back hash all h)

-- ---- read

drop_front : (bytes more : List ℕ) → drop (length bytes) (bytes ++ more) ≡ more
drop_front [] more = refl
drop_front (b ∷ bytes) more = drop_front bytes more

if_known_is : (kind : ℤ) (o : Option ℕ) (bytes : List ℕ) (hash : Hash) → length_of kind ≡ o → hash_if_known kind o bytes ≡ Ok hash → IsConsistent hash
if_known_is kind None bytes hash known e = absurd cc
if_known_is kind (Some len) bytes hash known e =
    let p = passed (length bytes == len) (Ok (hash_value kind bytes)) (fault.BadLength (length bytes)) hash e in
    let long : length bytes ≡ len = (Decides-eqb (length bytes) len).0 p.0 in
    subst IsConsistent (ok_is (hash_value kind bytes) hash p.1) (record { len = known ∙ ap Some (sym long); zeros = drop_front bytes (replicate (48 - length bytes) 0) })

by_kind_is : (kind : ℤ) (bytes : List ℕ) (hash : Hash) → hash_by_kind kind bytes ≡ Ok hash → IsConsistent hash
unfolding hash_by_kind
by_kind_is kind bytes hash e = if_known_is kind (length_of kind) bytes hash refl e

pub hash_is : (item : Item) (hash : Hash) → hash_in item ≡ Ok hash → IsConsistent hash
unfolding hash_in
hash_is item hash e =
    let p = bind_ok (two_in item) (λ parts. number_in parts.0 >>= λ kind. bytes_in parts.1 >>= λ bytes. hash_by_kind kind bytes) hash e in
    let k = bind_ok (number_in p.0.0) (λ kind. bytes_in p.0.1 >>= λ bytes. hash_by_kind kind bytes) hash p.2 in
    let b = bind_ok (bytes_in p.0.1) (λ bytes. hash_by_kind k.0 bytes) hash k.2 in
    by_kind_is k.0 b.0 hash b.2

take_front : (bytes more : List ℕ) → take (length bytes) (bytes ++ more) ≡ bytes
take_front [] more = refl
take_front (b ∷ bytes) more = ap (λ t. b ∷ t) (take_front bytes more)

-- what a hash was made of
record IsMade (kind : ℤ) (bytes : List ℕ) (hash : Hash) : Type 0 where
  kind_is : kind ≡ hash.kind
  bytes_is : bytes ≡ content hash

if_known_made : (kind : ℤ) (o : Option ℕ) (bytes : List ℕ) (hash : Hash) → hash_if_known kind o bytes ≡ Ok hash → IsMade kind bytes hash
if_known_made kind None bytes hash e = absurd cc
if_known_made kind (Some len) bytes hash e =
    let p = passed (length bytes == len) (Ok (hash_value kind bytes)) (fault.BadLength (length bytes)) hash e in
    subst (IsMade kind bytes) (ok_is (hash_value kind bytes) hash p.1) (record { kind_is = refl; bytes_is = sym (take_front bytes (replicate (48 - length bytes) 0)) })

by_kind_made : (kind : ℤ) (bytes : List ℕ) (hash : Hash) → hash_by_kind kind bytes ≡ Ok hash → IsMade kind bytes hash
unfolding hash_by_kind
by_kind_made kind bytes hash e = if_known_made kind (length_of kind) bytes hash e

pub hash_said : (item : Item) (hash : Hash) → hash_in item ≡ Ok hash → item ≡ item_of_hash hash
unfolding hash_in
hash_said item hash e =
    let p = bind_ok (two_in item) (λ parts. number_in parts.0 >>= λ kind. bytes_in parts.1 >>= λ bytes. hash_by_kind kind bytes) hash e in
    let k = bind_ok (number_in p.0.0) (λ kind. bytes_in p.0.1 >>= λ bytes. hash_by_kind kind bytes) hash p.2 in
    let b = bind_ok (bytes_in p.0.1) (λ bytes. hash_by_kind k.0 bytes) hash k.2 in
    let made = by_kind_made k.0 b.0 hash b.2 in
    let whole = two_said item p.0 p.1 in
    whole ∙ pair_item p.0.0 (item_of_integer hash.kind) p.0.1 (items.Bytes (content hash)) (number_said p.0.0 k.0 k.1 ∙ ap item_of_integer made.kind_is) (bytes_said p.0.1 b.0 b.1 ∙ ap items.Bytes made.bytes_is)

pub hash_read : (item : Item) (hash : Hash) → length hash.bytes ≡ 48 → IsConsistent hash → item ≡ item_of_hash hash → hash_in item ≡ Ok hash
hash_read item hash all h e = ap hash_in e ∙ hash_back hash all h

pub answers_hash : (item : Item) (r : Result Hash KeyFault) → r ≡ hash_in item → IfOk r (λ hash. IsConsistent hash × (item ≡ item_of_hash hash))
answers_hash item (Ok hash) e = (hash_is item hash (sym e), hash_said item hash (sym e))
answers_hash item (Err f) e = tt

-- ---- no memory is taken

abbrev Steady : {A : Type 0} → Result A KeyFault → Type 0
Steady r = r ≢ Err fault.NoMemory

steady : {A B : Type 0} (r : Result A KeyFault) (f : A → Result B KeyFault) → Steady r → ((x : A) → Steady (f x)) → Steady (r >>= f)
steady (Ok x) f h g e = g x e
steady (Err d) f h g e = h (cc e)

shaped_steady : {A : Type 0} (o : Option A) → Steady (shaped o)
shaped_steady (Some x) e = absurd cc
shaped_steady None e = absurd cc

test_steady : {A : Type 0} (b : Bool) (x : A) (n : ℕ) → Steady (if b then Ok x else Err (fault.BadLength n))
test_steady true x n e = absurd cc
test_steady false x n e = absurd cc

known_steady : (kind : ℤ) (o : Option ℕ) (bytes : List ℕ) → Steady (hash_if_known kind o bytes)
known_steady kind None bytes e = absurd cc
known_steady kind (Some len) bytes e = test_steady (length bytes == len) (hash_value kind bytes) (length bytes) e

by_kind_steady : (kind : ℤ) (bytes : List ℕ) → hash_by_kind kind bytes ≢ Err fault.NoMemory
unfolding hash_by_kind
by_kind_steady kind bytes e = known_steady kind (length_of kind) bytes e

pub hash_steady : (item : Item) → hash_in item ≢ Err fault.NoMemory
unfolding hash_in
hash_steady item =
    steady (two_in item) (λ parts. number_in parts.0 >>= λ kind. bytes_in parts.1 >>= λ bytes. hash_by_kind kind bytes) (shaped_steady _) (λ parts.
    steady (number_in parts.0) (λ kind. bytes_in parts.1 >>= λ bytes. hash_by_kind kind bytes) (shaped_steady _) (λ kind.
    steady (bytes_in parts.1) (λ bytes. hash_by_kind kind bytes) (shaped_steady _) (λ bytes. by_kind_steady kind bytes)))
