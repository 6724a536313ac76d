-- The protected bytes of an envelope that was read name its algorithm.
use Rattle.std.proofs.Common.{◌≡◌, ℤ, ℕ, List, Option, Some, None, Result, Ok, Err, IfOk, refl, ap}
use Rattle.cbor_core.specs.declared.item.Item.{Item, out-Item}
use Rattle.cbor_core.specs.Shapes.{pairs_layer, three_items, four_items}
use Rattle.cbor_core.specs.Whole.{Says}
use Rattle.cose_envelopes.specs.declared.encrypt0.Encrypt0.{Encrypt0}
use Rattle.cose_envelopes.specs.declared.fault.CoseFault.{CoseFault}
use Rattle.cose_envelopes.specs.declared.mac0.Mac0.{Mac0}
use Rattle.cose_envelopes.specs.declared.sign1.Sign1.{Sign1}
use Rattle.cose_envelopes.specs.Envelope.{algorithm_in, bytes_of, content_of, encrypt0_in, encrypt0_of, iv_in, mac0_in, mac0_of, sign1_in, sign1_of}
use Rattle.cose_envelopes.specs.Fault.{◌>>=◌}

some_is : {A : Type 0} (x y : A) → Some x ≡ Some y → x ≡ y
some_is x y e = cc

bind_some : {A B : Type 0} (o : Option A) (f : A → Option B) (y : B) → (o >>= f) ≡ Some y → (x : A) × (o ≡ Some x) × (f x ≡ Some y)
bind_some (Some x) f y e = (x, refl, e)
bind_some None f y e = absurd (cc e)

-- a value with a protected header and the algorithm that it names
module _ {A : Type 0} (protected : A → List ℕ) (alg : A → ℤ) where
  abbrev Keeps : (List ℕ → ℤ → Option A) → Type 0
  Keeps rest = (p : List ℕ) (a : ℤ) (v : A) → rest p a ≡ Some v → (p ≡ protected v) × (a ≡ alg v)

  named : (x : Item) (rest : List ℕ → ℤ → Option A) → Keeps rest → (v : A) → (bytes_of x >>= λ p. algorithm_in p >>= λ a. rest p a) ≡ Some v → algorithm_in (protected v) ≡ Some (alg v)
  named x rest keeps v e =
      let b = bind_some (bytes_of x) (λ p. algorithm_in p >>= λ a. rest p a) v e in
      let a = bind_some (algorithm_in b.0) (rest b.0) v b.2 in
      let k = keeps b.0 a.0 v a.2 in
      rw (← k.0, ← k.1) a.1

  pub names_read : (said : Item → Option A) → ((x : Item) (v : A) → said x ≡ Some v → algorithm_in (protected v) ≡ Some (alg v)) → (bytes : List ℕ) (r : Result A CoseFault) → IfOk r (Says said bytes) → IfOk r (λ v. algorithm_in (protected v) ≡ Some (alg v))
  names_read said names bytes (Ok v) h = names h.item v h.says
  names_read said names bytes (Err f) h = tt

-- ---- Sign1

abbrev sign1_rest : Option (List (Item × Item)) → Option (List ℕ) → Option (List ℕ) → List ℕ → ℤ → Option Sign1
sign1_rest us ps ss p a = us >>= λ unprotected. ps >>= λ payload. ss >>= λ sig. Some (record { protected = p; alg = a; unprotected = unprotected; payload = payload; sig = sig })

sign1_keeps : (us : Option (List (Item × Item))) (ps ss : Option (List ℕ)) (p : List ℕ) (a : ℤ) (v : Sign1) → sign1_rest us ps ss p a ≡ Some v → (p ≡ v.protected) × (a ≡ v.alg)
sign1_keeps None ps ss p a v e = absurd (cc e)
sign1_keeps (Some u) None ss p a v e = absurd (cc e)
sign1_keeps (Some u) (Some b) None p a v e = absurd (cc e)
sign1_keeps (Some u) (Some b) (Some s) p a v e =
    let is : ◌≡◌ {A = Sign1} (record { protected = p; alg = a; unprotected = u; payload = b; sig = s }) v = some_is _ v e in
    (ap (λ (w : Sign1). w.protected) is, ap (λ (w : Sign1). w.alg) is)

pub sign1_names : (x : Item) (v : Sign1) → sign1_in x ≡ Some v → algorithm_in v.protected ≡ Some v.alg
unfolding sign1_in
sign1_names x v e =
    let p = bind_some (four_items (content_of 18 x)) sign1_of v e in
    named (λ (w : Sign1). w.protected) (λ (w : Sign1). w.alg) p.0.0 (sign1_rest (pairs_layer (out-Item p.0.1)) (bytes_of p.0.2) (bytes_of p.0.3)) (sign1_keeps (pairs_layer (out-Item p.0.1)) (bytes_of p.0.2) (bytes_of p.0.3)) v p.2

-- ---- Mac0

abbrev mac0_rest : Option (List (Item × Item)) → Option (List ℕ) → Option (List ℕ) → List ℕ → ℤ → Option Mac0
mac0_rest us ps ts p a = us >>= λ unprotected. ps >>= λ payload. ts >>= λ tag. Some (record { protected = p; alg = a; payload = payload; tag = tag })

mac0_keeps : (us : Option (List (Item × Item))) (ps ts : Option (List ℕ)) (p : List ℕ) (a : ℤ) (v : Mac0) → mac0_rest us ps ts p a ≡ Some v → (p ≡ v.protected) × (a ≡ v.alg)
mac0_keeps None ps ts p a v e = absurd (cc e)
mac0_keeps (Some u) None ts p a v e = absurd (cc e)
mac0_keeps (Some u) (Some b) None p a v e = absurd (cc e)
mac0_keeps (Some u) (Some b) (Some t) p a v e =
    let is : ◌≡◌ {A = Mac0} (record { protected = p; alg = a; payload = b; tag = t }) v = some_is _ v e in
    (ap (λ (w : Mac0). w.protected) is, ap (λ (w : Mac0). w.alg) is)

pub mac0_names : (x : Item) (v : Mac0) → mac0_in x ≡ Some v → algorithm_in v.protected ≡ Some v.alg
unfolding mac0_in
mac0_names x v e =
    let p = bind_some (four_items (content_of 17 x)) mac0_of v e in
    named (λ (w : Mac0). w.protected) (λ (w : Mac0). w.alg) p.0.0 (mac0_rest (pairs_layer (out-Item p.0.1)) (bytes_of p.0.2) (bytes_of p.0.3)) (mac0_keeps (pairs_layer (out-Item p.0.1)) (bytes_of p.0.2) (bytes_of p.0.3)) v p.2

-- ---- Encrypt0

abbrev encrypt0_rest : Option (List ℕ) → Option (List ℕ) → List ℕ → ℤ → Option Encrypt0
encrypt0_rest is ss p a = is >>= λ iv. ss >>= λ sealed. Some (record { protected = p; alg = a; iv = iv; sealed = sealed })

encrypt0_keeps : (is ss : Option (List ℕ)) (p : List ℕ) (a : ℤ) (v : Encrypt0) → encrypt0_rest is ss p a ≡ Some v → (p ≡ v.protected) × (a ≡ v.alg)
encrypt0_keeps None ss p a v e = absurd (cc e)
encrypt0_keeps (Some i) None p a v e = absurd (cc e)
encrypt0_keeps (Some i) (Some s) p a v e =
    let is : ◌≡◌ {A = Encrypt0} (record { protected = p; alg = a; iv = i; sealed = s }) v = some_is _ v e in
    (ap (λ (w : Encrypt0). w.protected) is, ap (λ (w : Encrypt0). w.alg) is)

pub encrypt0_names : (x : Item) (v : Encrypt0) → encrypt0_in x ≡ Some v → algorithm_in v.protected ≡ Some v.alg
unfolding encrypt0_in
encrypt0_names x v e =
    let p = bind_some (three_items (content_of 16 x)) encrypt0_of v e in
    named (λ (w : Encrypt0). w.protected) (λ (w : Encrypt0). w.alg) p.0.0 (encrypt0_rest (iv_in p.0.1) (bytes_of p.0.2)) (encrypt0_keeps (iv_in p.0.1) (bytes_of p.0.2)) v p.2
