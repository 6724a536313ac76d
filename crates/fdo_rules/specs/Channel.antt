-- The sealed messages of a TO2 session (FIDO Device Onboard 1.1, section 5.5.1): each end seals under initialization vectors of
-- its own, and takes none twice.
use Rattle.std.specs.Prelude.{ℕ, ◌+◌, ℤ, negsuc, List, [], ◌∷◌, ◌++◌, Bool, true, false, not, Option, option_map, Result, Ok, Err, ok_or}
use Rattle.std.specs.Int.{w64, to_be_bytes}
use Rattle.std.specs.List.{list_any}
use Rattle.std.specs.Ordering.{int_eq}
use Rattle.std.specs.Str.{bytes_eq}
use Rattle.cose_envelopes.specs.declared.fault.CoseFault.{CoseFault}
use Rattle.cose_envelopes.specs.declared.fault.CoseFault.TheVariants as cose
use Rattle.hash_hmac.specs.Session.{derived_key}
use Rattle.cose_envelopes.specs.Opening.{opening, opening_etm, sealed_bytes, sealed_etm, key_front}
use Rattle.fdo_msgs.specs.declared.cause.Cause.{Cause}
use Rattle.fdo_msgs.specs.declared.cause.Cause.TheVariants as cause
use Rattle.fdo_msgs.specs.declared.msg.Msg.{Msg}
use Rattle.fdo_rules.specs.Checks.{◌>>=◌, wants, said, fits_peer, fits_plain}
use Rattle.fdo_rules.specs.Suite.{Sealing, Suite, sealing}

-- the cipher's number, the key, the vectors that were taken, the last one last, and the number of those used
pub record Channel : Type 0 where
  pub cipher : ℤ
  pub key : List ℕ
  pub taken : List (List ℕ)
  pub used : ℕ

-- the first byte of an initialization vector
pub data Side : Type 0 where
  Owner : Side
  Device : Side

abbrev pub side_byte : Side → ℕ
side_byte Side.Owner = 0
side_byte Side.Device = 1

abbrev pub iv_of : Side → ℕ → List ℕ
iv_of side used = side_byte side ∷ 0 ∷ 0 ∷ 0 ∷ to_be_bytes w64 used

-- encrypt-then-MAC, a number of our own
abbrev pub is_etm : ℤ → Bool
is_etm cipher = int_eq cipher (negsuc 65538)

-- nothing was sealed or opened yet
abbrev pub fresh : ℤ → ℕ → List ℕ → Channel
fresh cipher bits shared = record { cipher = cipher; key = derived_key shared bits; taken = []; used = 0 }

-- ---- what comes

abbrev pub by_opening : Result (List ℕ × List ℕ) CoseFault → Result (List ℕ × List ℕ) Cause
by_opening (Ok both) = Ok both
by_opening (Err (cose.BadShape place)) = Err (cause.Body place)
by_opening (Err fault) = Err cause.NotOpened

abbrev pub opening_by : Bool → Sealing → ℤ → List ℕ → List ℕ → Result (List ℕ × List ℕ) CoseFault
opening_by true suite cipher key body = opening_etm suite.bits suite.opens cipher key body
opening_by false suite cipher key body = opening suite.bits suite.opens cipher key body

-- the vector and the plain text of an envelope
unfoldable pub opened_under : Sealing → ℤ → List ℕ → List ℕ → Result (List ℕ × List ℕ) Cause
opened_under suite cipher key body = by_opening (opening_by (is_etm cipher) suite cipher key body)

abbrev pub opened : Sealing → Channel → List ℕ → Result (List ℕ × List ℕ) Cause
opened suite c body = opened_under suite c.cipher c.key body

abbrev pub is_taken : Channel → List ℕ → Bool
is_taken c iv = list_any (bytes_eq iv) c.taken

abbrev pub with_taken : List ℕ → Channel → Channel
with_taken iv c = record { cipher = c.cipher; key = c.key; taken = c.taken ++ iv ∷ []; used = c.used }

-- the plain text of an envelope, whose vector was not seen, and then is
abbrev pub taken_once : Channel → List ℕ × List ℕ → Result (List ℕ × Channel) Cause
taken_once c both = wants (not (is_taken c both.0)) cause.SeenIv >>= λ _. Ok (both.1, with_taken both.0 c)

abbrev pub unseen : Sealing → Channel → List ℕ → Result (List ℕ × Channel) Cause
unseen suite c body = opened suite c body >>= λ both. taken_once c both

-- then what the plain text says as a body of the type
abbrev pub unsealed : {A : Type 0} → (Msg → Option A) → Suite → Channel → ℕ → List ℕ → Result (A × Channel) Cause
unsealed part suite c kind body =
    unseen (sealing suite) c body >>= λ both. said part kind both.0 >>= λ value. Ok (value, both.1)

-- ---- what goes

-- under a cipher whose key has so many bits
abbrev pub sealed_with : Bool → ℕ → Sealing → ℤ → List ℕ → List ℕ → List ℕ → List ℕ
sealed_with true bits suite cipher key iv plain = sealed_etm suite.seals key iv plain
sealed_with false bits suite cipher key iv plain = sealed_bytes suite.seals cipher (key_front bits key) iv plain

-- where the suite has it
unfoldable pub sealed_under : Sealing → ℤ → List ℕ → List ℕ → List ℕ → Result (List ℕ) Cause
sealed_under suite cipher key iv plain =
    ok_or (option_map (λ bits. sealed_with (is_etm cipher) bits suite cipher key iv plain) (suite.bits cipher)) (cause.NoAlgorithm cipher)

abbrev pub sealed : Sealing → Channel → Side → List ℕ → Result (List ℕ) Cause
sealed suite c side plain = sealed_under suite c.cipher c.key (iv_of side c.used) plain

abbrev pub with_used : Channel → Channel
with_used c = record { cipher = c.cipher; key = c.key; taken = c.taken; used = c.used + 1 }

-- a body within the bounds of what the peer takes
abbrev pub counted : Channel → ℕ → List ℕ → Result (List ℕ × Channel) Cause
counted c most body = fits_peer most body >>= λ _. Ok (body, with_used c)

abbrev pub sealed_short : Sealing → Channel → Side → ℕ → List ℕ → Result (List ℕ × Channel) Cause
sealed_short suite c side most plain = sealed suite c side plain >>= λ body. counted c most body

-- and of a plain text
abbrev pub sealed_in : Sealing → Channel → Side → ℕ → List ℕ → Result (List ℕ × Channel) Cause
sealed_in suite c side most plain = fits_plain plain >>= λ _. sealed_short suite c side most plain

abbrev pub sealed_within : Suite → Channel → Side → ℕ → List ℕ → Result (List ℕ × Channel) Cause
sealed_within suite c side most plain = sealed_in (sealing suite) c side most plain
