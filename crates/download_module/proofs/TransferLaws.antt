-- A file is received only where the pairs are those of its transfer.
use Rattle.std.proofs.Common.{◌≡◌, ℕ, ◌+◌, ◌≤◌, List, [], ◌∷◌, ◌++◌, length, Bool, true, false, Option, Some, None, Ok, Err, Result, IfOk, IfSome, refl, sym, ap, subst, ◌∙◌, arith, append_assoc}
use Rattle.std.proofs.lemmas.Bool.{ltb-false, eqb-true}
use Rattle.std.proofs.lemmas.List.{append-nil, length-append}
use Rattle.std.specs.Prelude.{nat_lt, ◌==◌, ◌&&◌, option_and_then, ok_or, if◌then◌else◌}
use Rattle.std.specs.Cmp.Lexicographic.{pointwise}
use Rattle.std.specs.List.{flat_map}
use Rattle.sha2.specs.Sha512.{sha384}
use Rattle.cbor_core.specs.declared.item.Item.{Item}
use Rattle.cbor_core.specs.Whole.{whole}
use Rattle.service_info.specs.declared.pair.Pair.{Pair}
use Rattle.service_info.specs.Devmod.{has_key, true_of, unsigned_of}
use Rattle.download_module.specs.declared.down_fault.DownFault.{DownFault}
use Rattle.download_module.specs.declared.down_fault.DownFault.TheVariants as fault
use Rattle.download_module.specs.declared.file.File.{File}
use Rattle.download_module.specs.Received.{◌>>=◌, active_key, AreData, bytes_of, data_key, file_of, hash_key, hash_of, hash_received, IsTransfer, length_key, name_key, name_of, name_received, next_place, pieces_received, received, said_at, Says, size_received, size_said, with_piece, within}

ok_same : {A : Type 0} {a b : A} → ◌≡◌ {A = Result A DownFault} (Ok a) (Ok b) → a ≡ b
ok_same {A} {a} e = ap (λ (r : Result A DownFault). value r) e where
  value : Result A DownFault → A
  value (Ok x) = x
  value (Err f) = a

bound : {A B : Type 0} (r : Result A DownFault) (f : A → Result B DownFault) (y : B) → (r >>= f) ≡ Ok y → (x : A) × (r ≡ Ok x) × (f x ≡ Ok y)
bound (Ok x) f y e = (x, refl, e)
bound (Err e) f y is = let no = is in cc

pair_says : {A : Type 0} (place : ℕ) (key : List ℕ) (said : Item → Option A) (pair : Pair) (x : A) → said_at place key said pair ≡ Ok x → Says key said pair x
unfolding said_at
pair_says {A} place key said pair x e = by (has_key key pair) refl (option_and_then said (whole pair.value)) refl e where
  by : (b : Bool) → has_key key pair ≡ b → (o : Option A) → option_and_then said (whole pair.value) ≡ o
      → (if b then ok_or o (fault.BadValue place) else Err (fault.Order place)) ≡ Ok x → Says key said pair x
  by true k (Some a) v h = (k, v ∙ ap Some (ok_same h))
  by true k None v h = let no = h in cc
  by false k o v h = let no = h in cc

within_limit : (limit n m : ℕ) → within limit n ≡ Ok m → (n ≡ m) × (n ≤ limit)
within_limit limit n m e = by (nat_lt limit n) refl e where
  by : (b : Bool) → nat_lt limit n ≡ b → (if b then Err (fault.TooLarge n) else Ok n) ≡ Ok m → (n ≡ m) × (n ≤ limit)
  by true k h = let no = h in cc
  by false k h = (ok_same h, ltb-false limit n k)

both : (a b : Bool) → (a && b) ≡ true → (a ≡ true) × (b ≡ true)
both true b h = (refl, h)
both false b h = let no = h in cc

same_list : (xs ys : List ℕ) → pointwise ◌==◌ xs ys ≡ true → xs ≡ ys
same_list [] [] h = refl
same_list [] (y ∷ ys) h = let no = h in cc
same_list (x ∷ xs) [] h = let no = h in cc
same_list (x ∷ xs) (y ∷ ys) h =
    let parts = both (x == y) (pointwise ◌==◌ xs ys) h in
    ap (λ z. z ∷ xs) (eqb-true x y parts.0) ∙ ap (λ zs. y ∷ zs) (same_list xs ys parts.1)

some_same : (a b : File) → ◌≡◌ {A = Option File} (Some a) (Some b) → a ≡ b
some_same a b e = ap value e where
  value : Option File → File
  value (Some x) = x
  value None = a

none_some : (a : File) → ◌≡◌ {A = Option File} None (Some a) → ⊥
none_some a e = let no = e in cc

-- the file of all bytes that came
whole_file : (name : List ℕ) (size : ℕ) (hash bytes : List ℕ) (file : File) → length bytes ≤ size → file_of name size hash bytes ≡ Ok (Some file)
    → (file.name ≡ name) × (file.bytes ≡ bytes) × (length bytes ≡ size) × (sha384 bytes ≡ hash)
whole_file name size hash bytes file most e = by (nat_lt (length bytes) size) refl (pointwise ◌==◌ hash (sha384 bytes)) refl e where
  by : (a : Bool) → nat_lt (length bytes) size ≡ a → (b : Bool) → pointwise ◌==◌ hash (sha384 bytes) ≡ b
      → (if a then Err (fault.Cut size (length bytes)) else if b then Ok (Some (record { name = name; bytes = bytes })) else Err (fault.HashDiffers hash (sha384 bytes))) ≡ Ok (Some file)
      → (file.name ≡ name) × (file.bytes ≡ bytes) × (length bytes ≡ size) × (sha384 bytes ≡ hash)
  by true k b l h = let no = h in cc
  by false k false l h = let no = h in cc
  by false k true l h =
      let is = some_same (record { name = name; bytes = bytes }) file (ok_same h) in
      (ap (λ (f : File). f.name) (sym is), ap (λ (f : File). f.bytes) (sym is), omega (arith, most, ltb-false (length bytes) size k), sym (same_list hash (sha384 bytes) l))

more_is : (size : ℕ) (bytes piece more : List ℕ) → with_piece size bytes piece ≡ Ok more → (more ≡ bytes ++ piece) × (length bytes + length piece ≤ size)
more_is size bytes piece more e = by (nat_lt size (length bytes + length piece)) refl e where
  by : (b : Bool) → nat_lt size (length bytes + length piece) ≡ b → (if b then Err (fault.TooLong (length bytes + length piece)) else Ok (bytes ++ piece)) ≡ Ok more
      → (more ≡ bytes ++ piece) × (length bytes + length piece ≤ size)
  by true k h = let no = h in cc
  by false k h = (sym (ok_same h), ltb-false size (length bytes + length piece) k)

joined : (all bytes piece more rest : List ℕ) → all ≡ more ++ rest → more ≡ bytes ++ piece → all ≡ bytes ++ (piece ++ rest)
joined all bytes piece more rest e is = e ∙ ap (λ l. l ++ rest) is ∙ append_assoc bytes piece rest

pieces_only : (name : List ℕ) (size : ℕ) (hash : List ℕ) (place : ℕ) (bytes : List ℕ) (pairs : List Pair) (file : File) → length bytes ≤ size
    → pieces_received name size hash place bytes pairs ≡ Ok (Some file)
    → (pieces : List (List ℕ)) × AreData pairs pieces × (file.name ≡ name) × (file.bytes ≡ bytes ++ flat_map (λ p. p) pieces) × (length file.bytes ≡ size) × (sha384 file.bytes ≡ hash)
pieces_only name size hash place bytes [] file most e =
    let w = whole_file name size hash bytes file most e in
    ([], refl, w.0, w.1 ∙ sym (append-nil bytes), ap length w.1 ∙ w.2, ap sha384 w.1 ∙ w.3)
pieces_only name size hash place bytes (pair ∷ pairs) file most e =
    let said = bound (said_at place data_key bytes_of pair) (λ piece. with_piece size bytes piece >>= λ more. pieces_received name size hash (next_place place) more pairs) (Some file) e in
    let piece = said.0 in
    let with = bound (with_piece size bytes piece) (λ more. pieces_received name size hash (next_place place) more pairs) (Some file) said.2 in
    let grown = more_is size bytes piece with.0 with.1 in
    let on = pieces_only name size hash (next_place place) with.0 pairs file (omega (arith, grown.1, ap length grown.0, length-append bytes piece)) with.2 in (
      piece ∷ on.0,
      (pair_says place data_key bytes_of pair piece said.1, on.1),
      on.2,
      joined file.bytes bytes piece with.0 (flat_map (λ p. p) on.0) on.3 grown.0,
      on.4,
      on.5,
    )

only_some : (limit : ℕ) (pairs : List Pair) (file : File) → received limit pairs ≡ Ok (Some file) → IsTransfer limit pairs file
only_some limit [] file e = absurd (none_some file (ok_same e))
only_some limit (a ∷ []) file e =
    let one = bound (said_at 0 active_key true_of a) (λ active. name_received limit []) (Some file) e in let no = one.2 in cc
only_some limit (a ∷ n ∷ []) file e =
    let one = bound (said_at 0 active_key true_of a) (λ active. name_received limit (n ∷ [])) (Some file) e in
    let two = bound (said_at 1 name_key name_of n) (λ name. size_received limit name []) (Some file) one.2 in let no = two.2 in cc
only_some limit (a ∷ n ∷ s ∷ []) file e =
    let one = bound (said_at 0 active_key true_of a) (λ active. name_received limit (n ∷ s ∷ [])) (Some file) e in
    let two = bound (said_at 1 name_key name_of n) (λ name. size_received limit name (s ∷ [])) (Some file) one.2 in
    let three = bound (size_said limit s) (λ size. hash_received two.0 size []) (Some file) two.2 in let no = three.2 in cc
only_some limit (a ∷ n ∷ s ∷ h ∷ data_pairs) file e =
    let one = bound (said_at 0 active_key true_of a) (λ active. name_received limit (n ∷ s ∷ h ∷ data_pairs)) (Some file) e in
    let two = bound (said_at 1 name_key name_of n) (λ name. size_received limit name (s ∷ h ∷ data_pairs)) (Some file) one.2 in
    let three = bound (size_said limit s) (λ size. hash_received two.0 size (h ∷ data_pairs)) (Some file) two.2 in
    let size = bound (said_at 2 length_key unsigned_of s) (λ size. within limit size) three.0 three.1 in
    let taken = within_limit limit size.0 three.0 size.2 in
    let four = bound (said_at 3 hash_key hash_of h) (λ hash. pieces_received two.0 three.0 hash 4 [] data_pairs) (Some file) three.2 in
    let rest = pieces_only two.0 three.0 four.0 4 [] data_pairs file (omega arith) four.2 in
    record {
      active = a;
      name = n;
      size = s;
      hash = h;
      data_pairs = data_pairs;
      pieces = rest.0;
      order = refl;
      is_active = pair_says 0 active_key true_of a tt one.1;
      says_name = subst (Says name_key name_of n) (sym rest.2) (pair_says 1 name_key name_of n two.0 two.1);
      says_size = subst (Says length_key unsigned_of s) (taken.0 ∙ sym rest.4) (pair_says 2 length_key unsigned_of s size.0 size.1);
      says_hash = subst (Says hash_key hash_of h) (sym rest.5) (pair_says 3 hash_key hash_of h four.0 four.1);
      says_pieces = rest.1;
      whole_bytes = sym rest.3;
      within_limit = subst (λ k. k ≤ limit) (taken.0 ∙ sym rest.4) taken.1;
    }

pub only_whole : (limit : ℕ) (pairs : List Pair) (result : Result (Option File) DownFault) → result ≡ received limit pairs → IfOk result (λ o. IfSome o (IsTransfer limit pairs))
only_whole limit pairs (Ok (Some file)) e = only_some limit pairs file (sym e)
only_whole limit pairs (Ok None) e = tt
only_whole limit pairs (Err f) e = tt
