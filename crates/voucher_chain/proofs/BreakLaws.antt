-- What breaks a chain first is what the check finds, both ways.
use Rattle.std.proofs.Common.{◌≡◌, ◌≢◌, ◌⊎◌, inl, inr, ℕ, ◌+◌, List, [], ◌∷◌, ◌++◌, length, flat_map, Bool, true, false, Option, Some, None, Result, Ok, Err, IfErr, refl, sym, ap, subst, ◌∙◌, arith}
use Rattle.hash_hmac.specs.declared.hash.Hash.{Hash}
use Rattle.hash_hmac.specs.Hashing.{hashed}
use Rattle.hash_hmac.specs.Value.{hash_value}
use Rattle.key_codec.specs.declared.key.PublicKey.{PublicKey}
use Rattle.voucher_chain.specs.declared.entry.Entry.{Entry}
use Rattle.voucher_chain.specs.declared.header.Header.{Header}
use Rattle.voucher_chain.specs.declared.voucher.Voucher.{Voucher}
use Rattle.voucher_chain.specs.declared.fault.ChainFault.{ChainFault}
use Rattle.voucher_chain.specs.declared.fault.ChainFault.TheVariants as fault
use Rattle.voucher_chain.specs.Broken.{BreaksHash, BreaksSignature, BreaksEntry, IsFirstBreak}
use Rattle.voucher_chain.specs.Chain.{Verifies, Links, HasCertificates, information, signature_told, front, last_key, last_bytes, same_hash, told_of, told_break, hash_break, signature_break, entry_break, links_break, certificates_break, first_break, checked}
use Rattle.voucher_chain.specs.Fault.{Fails, Answers, or_else}
use Rattle.voucher_chain.proofs.ChainLaws.{links_cons, links_nil, is_same, same_is, hash_holds, holds_hash, follows_found, follows_again, certificates_hold, hold_certificates}

or_else_some : {A : Type 0} (o p : Option A) (x : A) → or_else o p ≡ Some x → (o ≡ Some x) ⊎ ((o ≡ None) × (p ≡ Some x))
or_else_some (Some y) p x e = inl e
or_else_some None p x e = inr (refl, e)

none_then_some : {A : Type 0} (o p : Option A) (x : A) → o ≡ None → p ≡ Some x → or_else o p ≡ Some x
none_then_some o p x e h = rw e h

-- ---- one entry

hash_broken : (unknown wrong : ChainFault) (hash : Hash) (text : List ℕ) (f : ChainFault) → hash_break unknown wrong hash text ≡ Some f → BreaksHash unknown wrong hash text f
hash_broken unknown wrong hash text f e = go (hashed hash.kind text) refl e
  where
    differs : (bytes : List ℕ) (b : Bool) → same_hash (hash_value hash.kind bytes) hash ≡ b → told_break unknown wrong (Some b) ≡ Some f → (hash_value hash.kind bytes ≢ hash) × (f ≡ wrong)
    differs bytes true is e = absurd (cc e)
    differs bytes false is e = (λ same. let yes = is_same (hash_value hash.kind bytes) hash same in cc (is, yes), cc e)

    go : (o : Option (List ℕ)) → hashed hash.kind text ≡ o → told_break unknown wrong (told_of hash o) ≡ Some f → BreaksHash unknown wrong hash text f
    go None is e = inl (is, cc e)
    go (Some bytes) is e =
        let d = differs bytes (same_hash (hash_value hash.kind bytes) hash) refl e in
        inr ((bytes, is, d.0), d.1)

broken_hash : (unknown wrong : ChainFault) (hash : Hash) (text : List ℕ) (f : ChainFault) → BreaksHash unknown wrong hash text f → hash_break unknown wrong hash text ≡ Some f
broken_hash unknown wrong hash text f (inl h) = ap (λ (o : Option (List ℕ)). told_break unknown wrong (told_of hash o)) h.0 ∙ ap Some (sym h.1)
broken_hash unknown wrong hash text f (inr h) = ap (λ (o : Option (List ℕ)). told_break unknown wrong (told_of hash o)) h.0.1 ∙ differs (same_hash (hash_value hash.kind h.0.0) hash) refl
  where
    differs : (b : Bool) → same_hash (hash_value hash.kind h.0.0) hash ≡ b → told_break unknown wrong (Some b) ≡ Some f
    differs true is = absurd (h.0.2 (same_is (hash_value hash.kind h.0.0) hash is))
    differs false is = ap Some (sym h.1)

signature_broken : (index : ℕ) (o : Option Bool) (f : ChainFault) → signature_break index o ≡ Some f → BreaksSignature index o f
signature_broken index None f e = inl (refl, cc e)
signature_broken index (Some true) f e = absurd (cc e)
signature_broken index (Some false) f e = inr (refl, cc e)

broken_signature : (index : ℕ) (o : Option Bool) (f : ChainFault) → BreaksSignature index o f → signature_break index o ≡ Some f
broken_signature index o f (inl h) = ap (signature_break index) h.0 ∙ ap Some (sym h.1)
broken_signature index o f (inr h) = ap (signature_break index) h.0 ∙ ap Some (sym h.1)

entry_broken : (v : Verifies) (header : Header) (index : ℕ) (before : List ℕ) (key : PublicKey) (e : Entry) (f : ChainFault) → entry_break v header index before key e ≡ Some f → BreaksEntry v header index before key e f
unfolding entry_break
entry_broken v header index before key e f h = at_prev (or_else_some prev (or_else hdr sign) f h)
  where
    prev : Option ChainFault
    prev = hash_break (fault.NoAlgorithm index) (fault.BadPrevHash index) e.prev before

    hdr : Option ChainFault
    hdr = hash_break (fault.NoAlgorithm index) (fault.BadInfoHash index) e.hdr (information header)

    sign : Option ChainFault
    sign = signature_break index (signature_told v key e.sign)

    at_hdr : prev ≡ None → (hdr ≡ Some f) ⊎ ((hdr ≡ None) × (sign ≡ Some f)) → BreaksEntry v header index before key e f
    at_hdr none (inl h) = inr (inl (hash_holds (fault.NoAlgorithm index) (fault.BadPrevHash index) e.prev before none, hash_broken (fault.NoAlgorithm index) (fault.BadInfoHash index) e.hdr (information header) f h))
    at_hdr none (inr h) =
        inr (inr (hash_holds (fault.NoAlgorithm index) (fault.BadPrevHash index) e.prev before none, hash_holds (fault.NoAlgorithm index) (fault.BadInfoHash index) e.hdr (information header) h.0, signature_broken index (signature_told v key e.sign) f h.1))

    at_prev : (prev ≡ Some f) ⊎ ((prev ≡ None) × (or_else hdr sign ≡ Some f)) → BreaksEntry v header index before key e f
    at_prev (inl h) = inl (hash_broken (fault.NoAlgorithm index) (fault.BadPrevHash index) e.prev before f h)
    at_prev (inr h) = at_hdr h.0 (or_else_some hdr sign f h.1)

broken_entry : (v : Verifies) (header : Header) (index : ℕ) (before : List ℕ) (key : PublicKey) (e : Entry) (f : ChainFault) → BreaksEntry v header index before key e f → entry_break v header index before key e ≡ Some f
unfolding entry_break
broken_entry v header index before key e f (inl h) = rw (broken_hash (fault.NoAlgorithm index) (fault.BadPrevHash index) e.prev before f h) refl
broken_entry v header index before key e f (inr (inl h)) =
    rw (holds_hash (fault.NoAlgorithm index) (fault.BadPrevHash index) e.prev before h.0, broken_hash (fault.NoAlgorithm index) (fault.BadInfoHash index) e.hdr (information header) f h.1) refl
broken_entry v header index before key e f (inr (inr h)) =
    rw (holds_hash (fault.NoAlgorithm index) (fault.BadPrevHash index) e.prev before h.0, holds_hash (fault.NoAlgorithm index) (fault.BadInfoHash index) e.hdr (information header) h.1, broken_signature index (signature_told v key e.sign) f h.2) refl

-- ---- entries in a row

-- all before one hold, and that one does not
record IsBrokenLink (v : Verifies) (header : Header) (index : ℕ) (before : List ℕ) (key : PublicKey) (es : List Entry) (f : ChainFault) : Type 0 where
  sound : List Entry
  entry : Entry
  later : List Entry
  entries : es ≡ sound ++ entry ∷ later
  keys : List PublicKey
  links : Links v header before key sound keys
  breaks : BreaksEntry v header (index + length sound) (last_bytes before sound) (last_key key sound) entry f

links_broken : (v : Verifies) (header : Header) (index : ℕ) (before : List ℕ) (key : PublicKey) (es : List Entry) (f : ChainFault) → links_break v header index before key es ≡ Some f → IsBrokenLink v header index before key es f
links_broken v header index before key [] f h = absurd (cc (h, links_nil v header index before key))
links_broken v header index before key (e ∷ es) f h =
    go (links_broken v header (index + 1) e.raw e.key es f)
    (or_else_some (entry_break v header index before key e) (links_break v header (index + 1) e.raw e.key es) f (sym (links_cons v header index before key e es) ∙ h))
  where
    go : (links_break v header (index + 1) e.raw e.key es ≡ Some f → IsBrokenLink v header (index + 1) e.raw e.key es f)
        → (entry_break v header index before key e ≡ Some f) ⊎ ((entry_break v header index before key e ≡ None) × (links_break v header (index + 1) e.raw e.key es ≡ Some f)) → IsBrokenLink v header index before key (e ∷ es) f
    go again (inl here) =
        let number : index ≡ index + length {A = Entry} [] = omega arith in
        record {
          sound = [];
          entry = e;
          later = es;
          entries = refl;
          keys = key ∷ [];
          links = refl;
          breaks = subst (λ n. BreaksEntry v header n before key e f) number (entry_broken v header index before key e f here);
        }
    go again (inr past) =
        let r = again past.1 in
        let number : index + 1 + length r.sound ≡ index + length (e ∷ r.sound) = omega arith in
        record {
          sound = e ∷ r.sound;
          entry = r.entry;
          later = r.later;
          entries = ap (λ (xs : List Entry). e ∷ xs) r.entries;
          keys = key ∷ r.keys;
          links = (r.keys, follows_found v header index before key e past.0, r.links, refl);
          breaks = subst (λ n. BreaksEntry v header n (last_bytes e.raw r.sound) (last_key e.key r.sound) r.entry f) number r.breaks;
        }

broken_links : (v : Verifies) (header : Header) (index : ℕ) (before : List ℕ) (key : PublicKey) (sound : List Entry) (e : Entry) (later : List Entry) (keys : List PublicKey) (f : ChainFault) → Links v header before key sound keys
    → BreaksEntry v header (index + length sound) (last_bytes before sound) (last_key key sound) e f → links_break v header index before key (sound ++ e ∷ later) ≡ Some f
broken_links v header index before key [] e later keys f links h =
    let number : index + length {A = Entry} [] ≡ index = omega arith in
    links_cons v header index before key e later
    ∙ ap (λ (o : Option ChainFault). or_else o (links_break v header (index + 1) e.raw e.key later)) (broken_entry v header index before key e f (subst (λ n. BreaksEntry v header n before key e f) number h))
broken_links v header index before key (x ∷ xs) e later keys f links h =
    let number : index + length (x ∷ xs) ≡ index + 1 + length xs = omega arith in
    links_cons v header index before key x (xs ++ e ∷ later)
    ∙ none_then_some (entry_break v header index before key x) (links_break v header (index + 1) x.raw x.key (xs ++ e ∷ later)) f (follows_again v header index before key x links.1)
    (broken_links v header (index + 1) x.raw x.key xs e later links.0 f links.2 (subst (λ n. BreaksEntry v header n (last_bytes x.raw xs) (last_key x.key xs) e f) number h))

-- ---- the whole chain

certificates_broken : (chain : Option (List (List ℕ))) (hash : Option Hash) (f : ChainFault) → certificates_break chain hash ≡ Some f → f ≡ fault.BadCertHash
certificates_broken None None f e = absurd (cc e)
certificates_broken None (Some h) f e = cc e
certificates_broken (Some c) None f e = cc e
certificates_broken (Some c) (Some h) f e = go (hash_broken fault.BadCertHash fault.BadCertHash h (flat_map (λ certificate. certificate) c) f e)
  where
    go : BreaksHash fault.BadCertHash fault.BadCertHash h (flat_map (λ certificate. certificate) c) f → f ≡ fault.BadCertHash
    go (inl x) = x.1
    go (inr x) = x.1

broken_certificates : (chain : Option (List (List ℕ))) (hash : Option Hash) → ¬ HasCertificates chain hash → certificates_break chain hash ≡ Some fault.BadCertHash
broken_certificates chain hash lacks = go (certificates_break chain hash) refl
  where
    go : (o : Option ChainFault) → certificates_break chain hash ≡ o → certificates_break chain hash ≡ Some fault.BadCertHash
    go None is = absurd (lacks (certificates_hold chain hash is))
    go (Some f) is = is ∙ ap Some (certificates_broken chain hash f is)

break_found : (v : Verifies) (w : Voucher) (f : ChainFault) → first_break v w ≡ Some f → IsFirstBreak v w f
unfolding first_break
break_found v w f h = go (or_else_some (certificates_break w.chain w.header.chain_hash) (links_break v w.header 0 (front w) w.header.key w.entries) f h)
  where
    go : (certificates_break w.chain w.header.chain_hash ≡ Some f) ⊎ ((certificates_break w.chain w.header.chain_hash ≡ None) × (links_break v w.header 0 (front w) w.header.key w.entries ≡ Some f)) → IsFirstBreak v w f
    go (inl here) = inl (λ has. let none = hold_certificates w.chain w.header.chain_hash has in cc (here, none), certificates_broken w.chain w.header.chain_hash f here)
    go (inr past) =
        let r = links_broken v w.header 0 (front w) w.header.key w.entries f past.1 in
        let number : 0 + length r.sound ≡ length r.sound = omega arith in
        inr (record {
          certificates = certificates_hold w.chain w.header.chain_hash past.0;
          sound = r.sound;
          entry = r.entry;
          later = r.later;
          entries = r.entries;
          keys = r.keys;
          links = r.links;
          breaks = subst (λ n. BreaksEntry v w.header n (last_bytes (front w) r.sound) (last_key w.header.key r.sound) r.entry f) number r.breaks;
        })

break_again : (v : Verifies) (w : Voucher) (f : ChainFault) → IsFirstBreak v w f → first_break v w ≡ Some f
unfolding first_break
break_again v w f (inl h) =
    ap (λ (o : Option ChainFault). or_else o (links_break v w.header 0 (front w) w.header.key w.entries)) (broken_certificates w.chain w.header.chain_hash h.0 ∙ ap Some (sym h.1))
break_again v w f (inr h) =
    let number : length h.sound ≡ 0 + length h.sound = omega arith in
    none_then_some (certificates_break w.chain w.header.chain_hash) (links_break v w.header 0 (front w) w.header.key w.entries) f (hold_certificates w.chain w.header.chain_hash h.certificates)
    (ap (links_break v w.header 0 (front w) w.header.key) h.entries
    ∙ broken_links v w.header 0 (front w) w.header.key h.sound h.entry h.later h.keys f h.links (subst (λ n. BreaksEntry v w.header n (last_bytes (front w) h.sound) (last_key w.header.key h.sound) h.entry f) number h.breaks))

-- ---- what the checks answer

some_checked : (o : Option ChainFault) (f : ChainFault) → checked o ≡ Err f → o ≡ Some f
some_checked None f h = absurd (cc h)
some_checked (Some g) f h = cc h

fails_some : (o : Option ChainFault) (f : ChainFault) → Fails (checked o) f → (f ≡ fault.NoMemory) ⊎ (o ≡ Some f)
fails_some o (fault.BadShape p) h = inr (some_checked o (fault.BadShape p) h)
fails_some o fault.BadCertHash h = inr (some_checked o fault.BadCertHash h)
fails_some o (fault.BadPrevHash i) h = inr (some_checked o (fault.BadPrevHash i) h)
fails_some o (fault.BadInfoHash i) h = inr (some_checked o (fault.BadInfoHash i) h)
fails_some o (fault.BadSignature i) h = inr (some_checked o (fault.BadSignature i) h)
fails_some o (fault.NoAlgorithm i) h = inr (some_checked o (fault.NoAlgorithm i) h)
fails_some o fault.TooLong h = inr (some_checked o fault.TooLong h)
fails_some o fault.NoMatch h = inr (some_checked o fault.NoMatch h)
fails_some o fault.Failed h = inr (some_checked o fault.Failed h)
fails_some o fault.NoMemory h = inl refl

or_is : {A B : Type 0} (f : ChainFault) → (A → B) → (f ≡ fault.NoMemory) ⊎ A → (f ≡ fault.NoMemory) ⊎ B
or_is f more (inl e) = inl e
or_is f more (inr x) = inr (more x)

pub chain_broken : (v : Verifies) (w : Voucher) (r : Result (Unit {0}) ChainFault) → Answers (checked (first_break v w)) r → IfErr r (λ f. (f ≡ fault.NoMemory) ⊎ IsFirstBreak v w f)
chain_broken v w (Ok x) e = tt
chain_broken v w (Err f) e = or_is f (break_found v w f) (fails_some (first_break v w) f e)

pub chain_only_broken : (v : Verifies) (w : Voucher) (r : Result (Unit {0}) ChainFault) → Answers (checked (first_break v w)) r → (f : ChainFault) → IsFirstBreak v w f → Answers (Err f) r
chain_only_broken v w r e f h = subst (λ (told : Result (Unit {0}) ChainFault). Answers told r) (ap checked (break_again v w f h)) e

pub one_broken : (v : Verifies) (header : Header) (index : ℕ) (before : List ℕ) (key : PublicKey) (e : Entry) (r : Result (Unit {0}) ChainFault) → Answers (checked (entry_break v header index before key e)) r → IfErr r (λ f. (f ≡ fault.NoMemory) ⊎ BreaksEntry v header index before key e f)
one_broken v header index before key e (Ok x) h = tt
one_broken v header index before key e (Err f) h = or_is f (entry_broken v header index before key e f) (fails_some (entry_break v header index before key e) f h)

pub one_only_broken : (v : Verifies) (header : Header) (index : ℕ) (before : List ℕ) (key : PublicKey) (e : Entry) (r : Result (Unit {0}) ChainFault) → Answers (checked (entry_break v header index before key e)) r → (f : ChainFault) → BreaksEntry v header index before key e f → Answers (Err f) r
one_only_broken v header index before key e r h f breaks = subst (λ (told : Result (Unit {0}) ChainFault). Answers told r) (ap checked (broken_entry v header index before key e f breaks)) h
