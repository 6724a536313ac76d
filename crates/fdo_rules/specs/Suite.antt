-- What a suite of algorithms means, as functions of the arguments of its calls, and its laws.
use Rattle.std.specs.Prelude.{◌≡◌, ℕ, ◌*◌, ◌≤◌, ℤ, negsuc, List, length, Bool, true, Option, Some, IsSome}
use Rattle.voucher_chain.specs.Chain.{Verifies}
use Rattle.suite_port.specs.Sizes.{most_plain}

-- keys and certificates are by their bytes; None where the suite has no algorithm
pub record Suite : Type 0 where
  pub verifies : Verifies
  -- the number under which a key signs
  pub algorithm : List ℕ → Option ℤ
  -- the names of key agreements that are known; the first half (what is sent, and what is kept), the second (what is sent,
  -- and the shared secret), and the secret of the first end
  pub agrees : List ℕ → Bool
  pub first : List ℕ → List ℕ → List ℕ × List ℕ
  pub second : List ℕ → List ℕ → List ℕ → Option (List ℕ × List ℕ)
  pub finish : List ℕ → List ℕ → List ℕ → Option (List ℕ)
  -- the bits of a cipher's key; sealing and opening by number, key, initialization vector and additional data
  pub bits : ℤ → Option ℕ
  pub seals : ℤ → List ℕ → List ℕ → List ℕ → List ℕ → List ℕ
  pub opens : ℤ → List ℕ → List ℕ → List ℕ → List ℕ → Option (List ℕ)
  -- the key in a certificate, and the keys for which one is issued
  pub leaf : List ℕ → Option (List ℕ)
  pub issues : List ℕ → Bool

-- of a suite's members
abbrev pub suite_of :
    Verifies → (List ℕ → Option ℤ) → (List ℕ → Bool) → (List ℕ → List ℕ → List ℕ × List ℕ) → (List ℕ → List ℕ → List ℕ → Option (List ℕ × List ℕ)) → (List ℕ → List ℕ → List ℕ → Option (List ℕ)) → (ℤ → Option ℕ)
    → (ℤ → List ℕ → List ℕ → List ℕ → List ℕ → List ℕ) → (ℤ → List ℕ → List ℕ → List ℕ → List ℕ → Option (List ℕ)) → (List ℕ → Option (List ℕ)) → (List ℕ → Bool) → Suite
suite_of verifies algorithm agrees first second finish bits seals opens leaf issues = record {
  verifies = verifies;
  algorithm = algorithm;
  agrees = agrees;
  first = first;
  second = second;
  finish = finish;
  bits = bits;
  seals = seals;
  opens = opens;
  leaf = leaf;
  issues = issues;
}

-- what sealing and opening need of it
pub record Sealing : Type 0 where
  pub bits : ℤ → Option ℕ
  pub seals : ℤ → List ℕ → List ℕ → List ℕ → List ℕ → List ℕ
  pub opens : ℤ → List ℕ → List ℕ → List ℕ → List ℕ → Option (List ℕ)

abbrev pub sealing : Suite → Sealing
sealing suite = record { bits = suite.bits; seals = suite.seals; opens = suite.opens }

abbrev pub sealing_by : (ℤ → Option ℕ) → (ℤ → List ℕ → List ℕ → List ℕ → List ℕ → List ℕ) → (ℤ → List ℕ → List ℕ → List ℕ → List ℕ → Option (List ℕ)) → Sealing
sealing_by bits seals opens = record { bits = bits; seals = seals; opens = opens }

-- the part of it that a rendezvous server needs
pub record Checking : Type 0 where
  pub verifies : Verifies
  pub algorithm : List ℕ → Option ℤ
  pub leaf : List ℕ → Option (List ℕ)

abbrev pub checking : Suite → Checking
checking suite = record { verifies = suite.verifies; algorithm = suite.algorithm; leaf = suite.leaf }

-- ---- laws

-- what signs means by key, text and signature
abbrev pub VerifiesSigned : (List ℕ → List ℕ → List ℕ → Type 0) → Suite → Type 0
VerifiesSigned signs suite = (key text sig : List ℕ) (alg : ℤ) → suite.algorithm key ≡ Some alg → signs key text sig → suite.verifies key alg text sig ≡ Some true

abbrev pub SecondTakesFirst : Suite → Type 0
SecondTakesFirst suite = (name one other : List ℕ) → suite.agrees name ≡ true → length one ≡ 32 → length other ≡ 32 → IsSome (suite.second name other (suite.first name one).0)

abbrev pub EndsAgree : Suite → Type 0
EndsAgree suite = (name one other xb shared : List ℕ) → suite.agrees name ≡ true → length one ≡ 32 → length other ≡ 32 →
    suite.second name other (suite.first name one).0 ≡ Some (xb, shared) → suite.finish name (suite.first name one).1 xb ≡ Some shared

abbrev pub OpensSealed : Suite → Type 0
OpensSealed suite = (alg : ℤ) (key iv aad plain : List ℕ) → suite.bits alg ≡ Some (8 * length key) → length iv ≡ 12 → length aad ≤ most_plain → length plain ≤ most_plain →
    suite.opens alg key iv aad (suite.seals alg key iv aad plain) ≡ Some plain

-- the number of encrypt-then-MAC comes with that of its inner sealing
abbrev pub TwoKeys : Suite → Type 0
TwoKeys suite = (size : ℕ) → suite.bits (negsuc 65538) ≡ Some size → (size ≡ 256) × (suite.bits (negsuc 65537) ≡ Some 128)

-- what both ends of a key agreement send is what they drew: not of every suite
abbrev pub SendsDrawn : Suite → Type 0
SendsDrawn suite = ((name draw : List ℕ) → (suite.first name draw).0 ≡ draw) × ((name draw xa xb shared : List ℕ) → suite.second name draw xa ≡ Some (xb, shared) → xb ≡ draw)
