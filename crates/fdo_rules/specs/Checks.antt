-- Checks one after the other: the first that fails is the cause of a refusal.
use Rattle.std.specs.Prelude.{ℕ, ℤ, pos, List, length, Bool, true, false, nat_le, ◌==◌, if◌then◌else◌, Option, Some, None, Result, Ok, Err, ok_or}
use Rattle.std.specs.Str.{bytes_eq}
use Rattle.cbor_core.specs.Deterministic.{det}
use Rattle.cbor_core.specs.Reading.{first_item}
use Rattle.cbor_core.specs.declared.fault.CborFault.{CborFault}
use Rattle.cbor_core.specs.declared.item.Item.{Item}
use Rattle.cose_envelopes.specs.declared.sign1.Sign1.{Sign1}
use Rattle.cose_envelopes.specs.Text.{sign1_structure}
use Rattle.hash_hmac.specs.declared.hash.Hash.{Hash}
use Rattle.key_codec.specs.declared.fault.KeyFault.{KeyFault}
use Rattle.key_codec.specs.declared.key.PublicKey.{PublicKey}
use Rattle.key_codec.specs.Key.{item_of_key, key_in}
use Rattle.voucher_chain.specs.Chain.{Verifies, signature_told, hash_told}
use Rattle.fdo_msgs.specs.Kind.{error}
use Rattle.fdo_msgs.specs.Reading.{body_at}
use Rattle.fdo_msgs.specs.declared.cause.Cause.{Cause}
use Rattle.fdo_msgs.specs.declared.cause.Cause.TheVariants as cause
use Rattle.fdo_msgs.specs.declared.msg.Msg.{Msg}
use Rattle.fdo_msgs.specs.declared.msg.Msg.TheVariants as msg
use Rattle.suite_port.specs.Sizes.{most_plain}
use Rattle.service_info.specs.Size.{most_size}

infixl 10 ◌>>=◌
abbrev pub ◌>>=◌ : {A B : Type 0} → Result A Cause → (A → Result B Cause) → Result B Cause
(Ok x) >>= f = f x
(Err e) >>= f = Err e

-- what must hold
abbrev pub wants : Bool → Cause → Result (Unit {0}) Cause
wants true e = Ok tt
wants false e = Err e

-- a refusal that stands
abbrev pub unless : Option Cause → Result (Unit {0}) Cause
unless None = Ok tt
unless (Some e) = Err e

-- ---- bodies

abbrev pub said_in : {A : Type 0} → (Msg → Option A) → Result Msg ℕ → Result A Cause
said_in part (Ok m) = ok_or (part m) (cause.Body 0)
said_in part (Err place) = Err (cause.Body place)

-- what the body of a type says, or its first fault
abbrev pub said : {A : Type 0} → (Msg → Option A) → ℕ → List ℕ → Result A Cause
said part kind body = said_in part (body_at kind body)

abbrev pub code_in : Result Msg ℕ → ℕ
code_in (Ok (msg.Error code kind text stamp id)) = code
code_in (Ok m) = 0
code_in (Err place) = 0

-- the code of an error, 0 where it is of no form
abbrev pub peer_code : List ℕ → ℕ
peer_code body = code_in (body_at error body)

-- ---- signatures and hashes

abbrev pub by_told : ℤ → Option Bool → Result (Unit {0}) Cause
by_told alg None = Err (cause.NoAlgorithm alg)
by_told alg (Some true) = Ok tt
by_told alg (Some false) = Err cause.NotVerified

-- under the bytes of a key
abbrev pub verified_by : Verifies → List ℕ → Sign1 → Result (Unit {0}) Cause
verified_by verifies key sign = by_told sign.alg (verifies key sign.alg (sign1_structure sign.protected sign.payload) sign.sig)

abbrev pub verified : Verifies → PublicKey → Sign1 → Result (Unit {0}) Cause
verified verifies key sign = by_told sign.alg (signature_told verifies key sign)

-- bytes that are the deterministic spelling of a key
abbrev pub spelled_by_key : List ℕ → Result PublicKey KeyFault → Option (List ℕ)
spelled_by_key bytes (Ok key) = if bytes_eq bytes (det (item_of_key key)) then Some bytes else None
spelled_by_key bytes (Err _) = None

abbrev pub spelled_by_item : List ℕ → Result (Item × ℕ) CborFault → Option (List ℕ)
spelled_by_item bytes (Ok item) = spelled_by_key bytes (key_in item.0)
spelled_by_item bytes (Err _) = None

abbrev pub spelled_key : List ℕ → Option (List ℕ)
spelled_key bytes = spelled_by_item bytes (first_item false bytes)

abbrev pub key_bytes : PublicKey → List ℕ
key_bytes key = det (item_of_key key)

abbrev pub is_true : Option Bool → Bool
is_true (Some b) = b
is_true None = false

-- the hash is that of the text, by its own kind
abbrev pub is_hash_of : Hash → List ℕ → Bool
is_hash_of hash text = is_true (hash_told hash text)

-- ---- sizes

-- the most bytes that a peer takes in a message, where 0 says no bound of its own
abbrev pub most_of : ℕ → ℕ
most_of size = if size == 0 then most_size else size

abbrev pub fits_peer : ℕ → List ℕ → Result (Unit {0}) Cause
fits_peer size body = wants (nat_le (length body) (most_of size)) (cause.Size (most_of size))

abbrev pub fits_plain : List ℕ → Result (Unit {0}) Cause
fits_plain plain = wants (nat_le (length plain) most_plain) (cause.Size most_plain)

-- an algorithm that there is none of
abbrev pub no_algorithm : Cause
no_algorithm = cause.NoAlgorithm (pos 0)
