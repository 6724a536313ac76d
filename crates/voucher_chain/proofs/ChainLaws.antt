-- The chain of a voucher's owners, entry by entry.
use Rattle.std.proofs.Common.{◌≡◌, ℕ, ℤ, suc, ◌+◌, ◌-◌, ◌<◌, ◌≤◌, List, [], ◌∷◌, ◌++◌, length, drop, get_or, flat_map, Bool, true, false, Option, Some, None, Result, Ok, Err, IfOk, refl, sym, ap, subst, ◌∙◌, arith}
use Rattle.std.specs.List.{slice_get}
use Rattle.std.specs.Prelude.{◌&&◌, ◌==◌, option_map}
use Rattle.std.specs.Ordering.{int_eq}
use Rattle.std.specs.Str.{bytes_eq}
use Rattle.std.proofs.lemmas.List.{drop_more}
use Rattle.std.proofs.lemmas.Option.{slice_get_within, slice_get-get_or}
use Rattle.std.proofs.Math.ListN.{drop_of_length-le}
use Rattle.std.proofs.lemmas.Bool.{eq-eqb, eqb-true}
use Rattle.std.proofs.lemmas.Bool.Decides.{Decides-int_eq}
use Rattle.std.proofs.lemmas.Slice.Eq.{bytes_eq-Decides}
use Rattle.hash_hmac.specs.declared.hash.Hash.{Hash}
use Rattle.hash_hmac.specs.Hashing.{hashed}
use Rattle.hash_hmac.specs.Value.{hash_value}
use Rattle.key_codec.specs.declared.key.PublicKey.{PublicKey}
use Rattle.voucher_chain.specs.declared.entry.Entry.{Entry}
use Rattle.voucher_chain.specs.declared.header.Header.{Header}
use Rattle.voucher_chain.specs.declared.voucher.Voucher.{Voucher}
use Rattle.voucher_chain.specs.declared.fault.ChainFault.{ChainFault}
use Rattle.voucher_chain.specs.declared.fault.ChainFault.TheVariants as fault
use Rattle.voucher_chain.specs.Chain.{Verifies, Follows, Links, HasCertificates, Chain, information, signature_told, front, last_key, last_bytes, same_hash, told_of, hash_told, told_break, hash_break, signature_break, entry_break, links_break, certificates_break, first_break, checked}
use Rattle.voucher_chain.specs.Fault.{Fails, Answers, or_else}
use Rattle.voucher_chain.specs.Match.{IsHashOf}
use Rattle.voucher_chain.specs.Extended.{IsExtended}
use Rattle.voucher_chain.specs.Voucher.{voucher_with}

-- ---- the last of some entries

pub last_some : (es : List Entry) (e : Entry) (key : PublicKey) (before : List ℕ) → slice_get es (length es - 1) ≡ Some e → (last_key key es ≡ e.key) × (last_bytes before es ≡ e.raw)
last_some [] e key before h = absurd (omega (arith, slice_get_within [] (length {A = Entry} [] - 1) e h))
last_some (x ∷ []) e key before h =
    let same : x ≡ e = cc h in
    (ap (λ (y : Entry). y.key) same, ap (λ (y : Entry). y.raw) same)
last_some (x ∷ y ∷ ys) e key before h =
    let index : suc (length (y ∷ ys) - 1) ≡ length (x ∷ y ∷ ys) - 1 = omega arith in
    last_some (y ∷ ys) e x.key x.raw (ap (slice_get (x ∷ y ∷ ys)) index ∙ h)

pub last_none : (es : List Entry) → slice_get es (length es - 1) ≡ None → es ≡ []
last_none [] h = refl
last_none (x ∷ es) h = absurd (cc (slice_get-get_or (x ∷ es) (length (x ∷ es) - 1) x (omega arith), h))

-- ---- breaks in their order

pub fails_first : (o later : Option ChainFault) (f : ChainFault) → Fails (checked o) f → Fails (checked (or_else o later)) f
fails_first (Some g) later f h = h
fails_first None later (fault.BadShape p) h = absurd (cc h)
fails_first None later fault.BadCertHash h = absurd (cc h)
fails_first None later (fault.BadPrevHash i) h = absurd (cc h)
fails_first None later (fault.BadInfoHash i) h = absurd (cc h)
fails_first None later (fault.BadSignature i) h = absurd (cc h)
fails_first None later (fault.NoAlgorithm i) h = absurd (cc h)
fails_first None later fault.TooLong h = absurd (cc h)
fails_first None later fault.NoMatch h = absurd (cc h)
fails_first None later fault.Failed h = absurd (cc h)
fails_first None later fault.NoMemory h = tt

pub none_checked : (o : Option ChainFault) → checked o ≡ Ok tt → o ≡ None
none_checked None h = refl
none_checked (Some f) h = absurd (cc h)

pub links_cons : (v : Verifies) (header : Header) (index : ℕ) (before : List ℕ) (key : PublicKey) (e : Entry) (es : List Entry)
    → links_break v header index before key (e ∷ es) ≡ or_else (entry_break v header index before key e) (links_break v header (index + 1) e.raw e.key es)
unfolding links_break
links_cons v header index before key e es = refl

pub links_nil : (v : Verifies) (header : Header) (index : ℕ) (before : List ℕ) (key : PublicKey) → links_break v header index before key [] ≡ None
unfolding links_break
links_nil v header index before key = refl

-- the loop over entries: `whole` is the break of all
module _ (v : Verifies) (header : Header) (es : List Entry) (i : ℕ) (before : List ℕ) (key : PublicKey) (whole : Option ChainFault)
    (was : links_break v header i before key (drop i es) ≡ whole) where
  pub entry_fails : (e : Entry) (f : ChainFault) → i < length es → e ≡ get_or es i e → Fails (checked (entry_break v header i before key e)) f → Fails (checked whole) f
  entry_fails e f lt is h =
      let here : links_break v header i before key (drop i es) ≡ or_else (entry_break v header i before key e) (links_break v header (i + 1) e.raw e.key (drop (i + 1) es)) =
      ap (links_break v header i before key) (drop_more es i e lt ∙ ap (λ (x : Entry). x ∷ drop (i + 1) es) (sym is)) ∙ links_cons v header i before key e (drop (i + 1) es) in
      subst (λ (o : Option ChainFault). Fails (checked o) f) (sym here ∙ was) (fails_first (entry_break v header i before key e) (links_break v header (i + 1) e.raw e.key (drop (i + 1) es)) f h)

  pub entry_holds : (e : Entry) (text : List ℕ) → i < length es → e ≡ get_or es i e → checked (entry_break v header i before key e) ≡ Ok tt → text ≡ e.raw → links_break v header (i + 1) text e.key (drop (i + 1) es) ≡ whole
  entry_holds e text lt is h same =
      let none = none_checked (entry_break v header i before key e) h in
      let here : links_break v header i before key (drop i es) ≡ or_else (entry_break v header i before key e) (links_break v header (i + 1) e.raw e.key (drop (i + 1) es)) =
      ap (links_break v header i before key) (drop_more es i e lt ∙ ap (λ (x : Entry). x ∷ drop (i + 1) es) (sym is)) ∙ links_cons v header i before key e (drop (i + 1) es) in
      ap (λ (t : List ℕ). links_break v header (i + 1) t e.key (drop (i + 1) es)) same
      ∙ sym (ap (λ (o : Option ChainFault). or_else o (links_break v header (i + 1) e.raw e.key (drop (i + 1) es))) none)
      ∙ sym here
      ∙ was

  pub entries_hold : length es ≤ i → checked whole ≡ Ok tt
  entries_hold past = ap checked (sym was ∙ ap (links_break v header i before key) (drop_of_length-le es past) ∙ links_nil v header i before key)

-- ---- a chain holds exactly where nothing breaks it

or_else_none : {A : Type 0} (o p : Option A) → or_else o p ≡ None → (o ≡ None) × (p ≡ None)
or_else_none (Some x) p e = absurd (cc e)
or_else_none None p e = (refl, e)

and_true : (a b : Bool) → (a && b) ≡ true → (a ≡ true) × (b ≡ true)
and_true true b e = (refl, e)
and_true false b e = absurd (cc e)

abbrev hash_with : ℤ → ℕ → List ℕ → Hash
hash_with k l x = record { kind = k; len = l; bytes = x }

abbrev some_hash : Hash → Option Hash
some_hash h = Some h

pub same_is : (a b : Hash) → same_hash a b ≡ true → a ≡ b
same_is a b e =
    let both = and_true (int_eq a.kind b.kind && (a.len == b.len)) (bytes_eq a.bytes b.bytes) e in
    let front = and_true (int_eq a.kind b.kind) (a.len == b.len) both.0 in
    go a.kind b.kind a.len b.len a.bytes b.bytes ((Decides-int_eq a.kind b.kind).0 front.0) (eqb-true a.len b.len front.1) ((bytes_eq-Decides a.bytes b.bytes).0 both.1)
  where
    go : (k m : ℤ) (l n : ℕ) (x y : List ℕ) → k ≡ m → l ≡ n → x ≡ y → hash_with k l x ≡ hash_with m n y
    go k m l n x y p q r = rw (p, q, r) refl

pub is_same : (a b : Hash) → a ≡ b → same_hash a b ≡ true
is_same a b e = rw ((Decides-int_eq a.kind b.kind).1 (ap (λ (h : Hash). h.kind) e), eq-eqb a.len b.len (ap (λ (h : Hash). h.len) e), (bytes_eq-Decides a.bytes b.bytes).1 (ap (λ (h : Hash). h.bytes) e)) refl

pub told_holds : (hash : Hash) (text : List ℕ) → hash_told hash text ≡ Some true → IsHashOf hash text
told_holds hash text e = go (hashed hash.kind text) e
  where
    go : (o : Option (List ℕ)) → told_of hash o ≡ Some true → option_map (hash_value hash.kind) o ≡ Some hash
    go None e = absurd (cc e)
    go (Some bytes) e = ap some_hash (same_is (hash_value hash.kind bytes) hash (cc e))

pub holds_told : (hash : Hash) (text : List ℕ) → IsHashOf hash text → hash_told hash text ≡ Some true
holds_told hash text e = go (hashed hash.kind text) e
  where
    go : (o : Option (List ℕ)) → option_map (hash_value hash.kind) o ≡ Some hash → told_of hash o ≡ Some true
    go None e = absurd (cc e)
    go (Some bytes) e = rw (is_same (hash_value hash.kind bytes) hash (cc e)) refl

pub hash_holds : (unknown wrong : ChainFault) (hash : Hash) (text : List ℕ) → hash_break unknown wrong hash text ≡ None → IsHashOf hash text
hash_holds unknown wrong hash text e = told_holds hash text (go (hash_told hash text) e)
  where
    go : (o : Option Bool) → told_break unknown wrong o ≡ None → o ≡ Some true
    go None e = absurd (cc e)
    go (Some true) e = refl
    go (Some false) e = absurd (cc e)

pub holds_hash : (unknown wrong : ChainFault) (hash : Hash) (text : List ℕ) → IsHashOf hash text → hash_break unknown wrong hash text ≡ None
holds_hash unknown wrong hash text e = ap (told_break unknown wrong) (holds_told hash text e)

signature_holds : (index : ℕ) (o : Option Bool) → signature_break index o ≡ None → o ≡ Some true
signature_holds index None e = absurd (cc e)
signature_holds index (Some true) e = refl
signature_holds index (Some false) e = absurd (cc e)

pub follows_found : (v : Verifies) (header : Header) (index : ℕ) (before : List ℕ) (key : PublicKey) (e : Entry) → entry_break v header index before key e ≡ None → Follows v header before key e
unfolding entry_break
follows_found v header index before key e h =
    let prev = hash_break (fault.NoAlgorithm index) (fault.BadPrevHash index) e.prev before in
    let hdr = hash_break (fault.NoAlgorithm index) (fault.BadInfoHash index) e.hdr (information header) in
    let sign = signature_break index (signature_told v key e.sign) in
    let first = or_else_none prev (or_else hdr sign) h in
    let second = or_else_none hdr sign first.1 in
    record {
      prev = hash_holds (fault.NoAlgorithm index) (fault.BadPrevHash index) e.prev before first.0;
      hdr = hash_holds (fault.NoAlgorithm index) (fault.BadInfoHash index) e.hdr (information header) second.0;
      signed = signature_holds index (signature_told v key e.sign) second.1;
    }

pub follows_again : (v : Verifies) (header : Header) (index : ℕ) (before : List ℕ) (key : PublicKey) (e : Entry) → Follows v header before key e → entry_break v header index before key e ≡ None
unfolding entry_break
follows_again v header index before key e h =
    rw (holds_hash (fault.NoAlgorithm index) (fault.BadPrevHash index) e.prev before h.prev, holds_hash (fault.NoAlgorithm index) (fault.BadInfoHash index) e.hdr (information header) h.hdr, h.signed) refl

links_found : (v : Verifies) (header : Header) (index : ℕ) (before : List ℕ) (key : PublicKey) (es : List Entry) → links_break v header index before key es ≡ None → (keys : List PublicKey) × Links v header before key es keys
links_found v header index before key [] h = (key ∷ [], refl)
links_found v header index before key (e ∷ es) h =
    let both = or_else_none (entry_break v header index before key e) (links_break v header (index + 1) e.raw e.key es) (sym (links_cons v header index before key e es) ∙ h) in
    let later = links_found v header (index + 1) e.raw e.key es both.1 in
    (key ∷ later.0, (later.0, follows_found v header index before key e both.0, later.1, refl))

links_again : (v : Verifies) (header : Header) (index : ℕ) (before : List ℕ) (key : PublicKey) (es : List Entry) (keys : List PublicKey) → Links v header before key es keys → links_break v header index before key es ≡ None
links_again v header index before key [] keys h = links_nil v header index before key
links_again v header index before key (e ∷ es) keys h =
    links_cons v header index before key e es
    ∙ (rw (follows_again v header index before key e h.1, links_again v header (index + 1) e.raw e.key es h.0 h.2) refl)

pub certificates_hold : (chain : Option (List (List ℕ))) (hash : Option Hash) → certificates_break chain hash ≡ None → HasCertificates chain hash
certificates_hold None None e = tt
certificates_hold None (Some h) e = absurd (cc e)
certificates_hold (Some c) None e = absurd (cc e)
certificates_hold (Some c) (Some h) e = hash_holds fault.BadCertHash fault.BadCertHash h (flat_map (λ certificate. certificate) c) e

pub hold_certificates : (chain : Option (List (List ℕ))) (hash : Option Hash) → HasCertificates chain hash → certificates_break chain hash ≡ None
hold_certificates None None e = refl
hold_certificates None (Some h) e = absurd e
hold_certificates (Some c) None e = absurd e
hold_certificates (Some c) (Some h) e = holds_hash fault.BadCertHash fault.BadCertHash h (flat_map (λ certificate. certificate) c) e

chain_is : (v : Verifies) (w : Voucher) → first_break v w ≡ None → (keys : List PublicKey) × Chain v w keys
unfolding first_break
chain_is v w h =
    let both = or_else_none (certificates_break w.chain w.header.chain_hash) (links_break v w.header 0 (front w) w.header.key w.entries) h in
    let links = links_found v w.header 0 (front w) w.header.key w.entries both.1 in
    (links.0, record { certificates = certificates_hold w.chain w.header.chain_hash both.0; links = links.1 })

chain_again : (v : Verifies) (w : Voucher) (keys : List PublicKey) → Chain v w keys → first_break v w ≡ None
unfolding first_break
chain_again v w keys h = rw (hold_certificates w.chain w.header.chain_hash h.certificates, links_again v w.header 0 (front w) w.header.key w.entries keys h.links) refl

pub chain_found : (v : Verifies) (w : Voucher) (r : Result (Unit {0}) ChainFault) → Answers (checked (first_break v w)) r → IfOk r (λ _. (keys : List PublicKey) × Chain v w keys)
chain_found v w (Ok x) e = chain_is v w (none_checked (first_break v w) e)
chain_found v w (Err f) e = tt

pub chain_only : (v : Verifies) (w : Voucher) (r : Result (Unit {0}) ChainFault) → Answers (checked (first_break v w)) r → (keys : List PublicKey) → Chain v w keys → Answers (Ok tt) r
chain_only v w r e keys h = subst (λ (told : Result (Unit {0}) ChainFault). Answers told r) (ap checked (chain_again v w keys h)) e

-- what the check of one entry answers
pub entry_found : (v : Verifies) (header : Header) (index : ℕ) (before : List ℕ) (key : PublicKey) (e : Entry) (r : Result (Unit {0}) ChainFault) → Answers (checked (entry_break v header index before key e)) r → IfOk r (λ _. Follows v header before key e)
entry_found v header index before key e (Ok x) h = follows_found v header index before key e (none_checked (entry_break v header index before key e) h)
entry_found v header index before key e (Err f) h = tt

pub entry_only : (v : Verifies) (header : Header) (index : ℕ) (before : List ℕ) (key : PublicKey) (e : Entry) (r : Result (Unit {0}) ChainFault) → Answers (checked (entry_break v header index before key e)) r → Follows v header before key e → Answers (Ok tt) r
entry_only v header index before key e r h follows = subst (λ (told : Result (Unit {0}) ChainFault). Answers told r) (ap checked (follows_again v header index before key e follows)) h

-- ---- one more entry

last_more : (key : PublicKey) (es : List Entry) (e : Entry) → last_key key (es ++ e ∷ []) ≡ e.key
last_more key [] e = refl
last_more key (x ∷ es) e = last_more x.key es e

links_more : (v : Verifies) (header : Header) (before : List ℕ) (key : PublicKey) (es : List Entry) (keys : List PublicKey) (e : Entry) → Links v header before key es keys → Follows v header (last_bytes before es) (last_key key es) e
    → Links v header before key (es ++ e ∷ []) (keys ++ e.key ∷ [])
links_more v header before key [] keys e h next = (e.key ∷ [], next, refl, ap (λ (ks : List PublicKey). ks ++ e.key ∷ []) h)
links_more v header before key (x ∷ es) keys e h next =
    (h.0 ++ e.key ∷ [], h.1, links_more v header x.raw x.key es h.0 e h.2 next, ap (λ (ks : List PublicKey). ks ++ e.key ∷ []) h.3)

pub chain_more : (v : Verifies) (w : Voucher) (next : PublicKey) (longer : Voucher) → IsExtended v w next longer → (keys : List PublicKey) → Chain v w keys → Chain v longer (keys ++ next ∷ [])
chain_more v w next longer x keys h =
    subst (λ (u : Voucher). Chain v u (keys ++ next ∷ [])) (sym x.all)
    (subst (λ (k : PublicKey). Chain v (voucher_with w.header w.hmac w.hmac_raw w.chain (w.entries ++ x.entry ∷ [])) (keys ++ k ∷ [])) x.is_next.key
    (record { certificates = h.certificates; links = links_more v w.header (front w) w.header.key w.entries keys x.entry h.links x.is_next.follows }))

pub owner_more : (v : Verifies) (w : Voucher) (next : PublicKey) (longer : Voucher) → IsExtended v w next longer → last_key longer.header.key longer.entries ≡ next
owner_more v w next longer x = ap (λ (u : Voucher). last_key u.header.key u.entries) x.all ∙ last_more w.header.key w.entries x.entry ∙ x.is_next.key

pub longer_keeps : (v : Verifies) (w : Voucher) (next : PublicKey) (r : Result Voucher ChainFault) → IfOk r (IsExtended v w next) → IfOk r (λ longer. (keys : List PublicKey) → Chain v w keys → Chain v longer (keys ++ next ∷ []))
longer_keeps v w next (Ok longer) x = chain_more v w next longer x
longer_keeps v w next (Err f) x = tt

pub longer_owner : (v : Verifies) (w : Voucher) (next : PublicKey) (r : Result Voucher ChainFault) → IfOk r (IsExtended v w next) → IfOk r (λ longer. last_key longer.header.key longer.entries ≡ next)
longer_owner v w next (Ok longer) x = owner_more v w next longer x
longer_owner v w next (Err f) x = tt
