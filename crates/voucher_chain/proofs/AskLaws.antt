-- What is asked of a suite, entry by entry.
use Rattle.std.proofs.Common.{◌≡◌, ◌⊎◌, inl, inr, ℕ, zero, suc, ◌+◌, ◌<◌, ◌≤◌, List, [], ◌∷◌, length, drop, get_or, Option, None, Some, Err, refl, sym, ap, subst, ◌∙◌, append-nil, append_assoc, arith}
use Rattle.std.proofs.lemmas.List.{drop_more}
use Rattle.port_base.specs.Told.{grown}
use Rattle.suite_port.specs.Asked.{Ask}
use Rattle.cbor_core.specs.Deterministic.{det}
use Rattle.cose_envelopes.specs.Asking.{verifying}
use Rattle.key_codec.specs.declared.key.PublicKey.{PublicKey}
use Rattle.key_codec.specs.Key.{item_of_key}
use Rattle.voucher_chain.specs.declared.entry.Entry.{Entry}
use Rattle.voucher_chain.specs.declared.fault.ChainFault.{ChainFault}
use Rattle.voucher_chain.specs.declared.fault.ChainFault.TheVariants as fault
use Rattle.voucher_chain.specs.Chain.{AsksToCheck, AsksUpTo, checkings}

pub grown_none : (told : Option (List Ask)) → grown told [] ≡ told
grown_none None = refl
grown_none (Some asks) = ap Some (append-nil asks)

grown_more : (told : Option (List Ask)) (ask : Ask) (more : List Ask) → grown (grown told (ask ∷ [])) more ≡ grown told (ask ∷ more)
grown_more None ask more = refl
grown_more (Some asks) ask more = ap Some (append_assoc asks (ask ∷ []) more)

-- past the last entry nothing is asked
checkings_past : (n : ℕ) (key : PublicKey) (es : List Entry) → length es ≤ n → checkings n key es ≡ checkings (length es) key es
checkings_past zero key [] past = refl
checkings_past (suc n) key [] past = refl
checkings_past zero key (e ∷ es) past = absurd (omega (arith, past))
checkings_past (suc n) key (e ∷ es) past = ap (λ (asks : List Ask). verifying (det (item_of_key key)) e.sign ∷ asks) (checkings_past n e.key es (omega (arith, past)))

-- what was asked of the first i entries, and what is still to be asked, is what is to be asked of all
abbrev pub Remains : Option (List Ask) → Option (List Ask) → PublicKey → PublicKey → List Entry → ℕ → Type 0
Remains before now key signer es i = (m : ℕ) → grown now (checkings m signer (drop i es)) ≡ grown before (checkings (i + m) key es)

pub remains_next : (before now now' : Option (List Ask)) (key signer : PublicKey) (es : List Entry) (i : ℕ) (e : Entry) → Remains before now key signer es i → i < length es → e ≡ get_or es i e → now' ≡ grown now (verifying (det (item_of_key signer)) e.sign ∷ []) → Remains before now' key e.key es (i + 1)
remains_next before now now' key signer es i e was lt is asked m =
    let apart : drop i es ≡ e ∷ drop (i + 1) es = drop_more es i e lt ∙ ap (λ (x : Entry). x ∷ drop (i + 1) es) (sym is) in
    let shift : i + suc m ≡ i + 1 + m = omega arith in
    ap (λ (t : Option (List Ask)). grown t (checkings m e.key (drop (i + 1) es))) asked
    ∙ grown_more now (verifying (det (item_of_key signer)) e.sign) (checkings m e.key (drop (i + 1) es))
    ∙ sym (ap (λ (xs : List Entry). grown now (checkings (suc m) signer xs)) apart)
    ∙ was (suc m)
    ∙ ap (λ n. grown before (checkings n key es)) shift

-- so far, those of the first i
remains_here : (before now : Option (List Ask)) (key signer : PublicKey) (es : List Entry) (i : ℕ) → Remains before now key signer es i → now ≡ grown before (checkings i key es)
remains_here before now key signer es i was =
    let none : i + 0 ≡ i = omega arith in
    sym (grown_none now) ∙ was 0 ∙ ap (λ n. grown before (checkings n key es)) none

pub remains_all : (before now : Option (List Ask)) (key signer : PublicKey) (es : List Entry) (i : ℕ) → Remains before now key signer es i → length es ≤ i → now ≡ grown before (checkings (length es) key es)
remains_all before now key signer es i was past = remains_here before now key signer es i was ∙ ap (grown before) (checkings_past i key es past)

-- a hash breaks an entry, and nothing is asked
pub unasked_prev : (before : Option (List Ask)) (ask : Ask) (index : ℕ) (f : ChainFault) → (f ≡ fault.NoAlgorithm index) ⊎ (f ≡ fault.BadPrevHash index) → AsksToCheck before before ask index (Err f)
unasked_prev before ask index f (inl is) = subst (λ (x : ChainFault). AsksToCheck before before ask index (Err x)) (sym is) (refl, refl)
unasked_prev before ask index f (inr is) = subst (λ (x : ChainFault). AsksToCheck before before ask index (Err x)) (sym is) (refl, refl)

pub unasked_info : (before : Option (List Ask)) (ask : Ask) (index : ℕ) (f : ChainFault) → (f ≡ fault.NoAlgorithm index) ⊎ (f ≡ fault.BadInfoHash index) → AsksToCheck before before ask index (Err f)
unasked_info before ask index f (inl is) = subst (λ (x : ChainFault). AsksToCheck before before ask index (Err x)) (sym is) (refl, refl)
unasked_info before ask index f (inr is) = subst (λ (x : ChainFault). AsksToCheck before before ask index (Err x)) (sym is) (refl, refl)

-- the certificates break a chain
pub unasked_chain : (before : Option (List Ask)) (key : PublicKey) (es : List Entry) (f : ChainFault) → (f ≡ fault.NoMemory) ⊎ (f ≡ fault.BadCertHash) → AsksUpTo before before key es f
unasked_chain before key es f (inl is) = subst (λ (x : ChainFault). AsksUpTo before before key es x) (sym is) (0, sym (grown_none before))
unasked_chain before key es f (inr is) = subst (λ (x : ChainFault). AsksUpTo before before key es x) (sym is) (sym (grown_none before))

module _ (before now now' : Option (List Ask)) (key signer : PublicKey) (es : List Entry) (i index : ℕ) (e : Entry) (was : Remains before now key signer es i) (lt : i < length es) (is : e ≡ get_or es i e) (named : index ≡ i) where
  stays : (number : ℕ) → number ≡ index → now' ≡ now → now' ≡ grown before (checkings number key es)
  stays number same unasked = unasked ∙ remains_here before now key signer es i was ∙ sym (ap (λ n. grown before (checkings n key es)) (same ∙ named))

  goes : (number : ℕ) → number ≡ index → now' ≡ grown now (verifying (det (item_of_key signer)) e.sign ∷ []) → now' ≡ grown before (checkings (number + 1) key es)
  goes number same asked =
      remains_here before now' key e.key es (i + 1) (remains_next before now now' key signer es i e was lt is asked)
      ∙ sym (ap (λ n. grown before (checkings (n + 1) key es)) (same ∙ named))

  -- the chain is refused at an entry
  pub remains_refused : (f : ChainFault) → AsksToCheck now now' (verifying (det (item_of_key signer)) e.sign) index (Err f) → AsksUpTo before now' key es f
  remains_refused (fault.BadSignature number) asked = goes number asked.0 asked.1
  remains_refused (fault.BadPrevHash number) asked = stays number asked.0 asked.1
  remains_refused (fault.BadInfoHash number) asked = stays number asked.0 asked.1
  remains_refused (fault.NoAlgorithm number) asked = stays number asked.0 asked.1
  remains_refused fault.NoMemory asked = (i, asked ∙ remains_here before now key signer es i was)
  remains_refused (fault.BadShape place) asked = absurd asked
  remains_refused fault.BadCertHash asked = absurd asked
  remains_refused fault.TooLong asked = absurd asked
  remains_refused fault.NoMatch asked = absurd asked
  remains_refused fault.Failed asked = absurd asked
