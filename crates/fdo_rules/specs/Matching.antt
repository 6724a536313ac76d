-- Which vouchers match a device's credential (FIDO Device Onboard 1.1, section 3.4), who keeps one, and what is safe.
use Rattle.std.specs.Prelude.{◌≡◌, ◌⊎◌, ℕ, zero, suc, pos, List, [], ◌∷◌, length, Bool, true, false, ◌&&◌, ◌||◌, nat_lt, if◌then◌else◌, Option, Some, None}
use Rattle.std.specs.Ordering.{int_eq}
use Rattle.std.specs.Str.{bytes_eq}
use Rattle.hash_hmac.specs.Hmac.{maced}
use Rattle.voucher_chain.specs.Chain.{last_key, told_of}
use Rattle.voucher_chain.specs.declared.credential.Credential.{Credential}
use Rattle.voucher_chain.specs.declared.voucher.Voucher.{Voucher}
use Rattle.voucher_map.specs.Keys.{same_key}
use Rattle.voucher_map.specs.declared.kept.Kept.{Kept}
use Rattle.voucher_map.specs.declared.kept.Kept.TheVariants as kept
use Rattle.key_codec.specs.declared.key.PublicKey.{PublicKey}
use Rattle.fdo_rules.specs.Checks.{is_hash_of, is_true}

-- equal Guids, the credential's kind of HMAC, the hash of the header's key, and the header's HMAC under the secret
unfoldable pub matches : Credential → Voucher → Bool
matches c v =
    bytes_eq c.guid v.header.guid && (int_eq v.hmac.kind (pos c.alg) && (is_hash_of c.key_hash v.header.key_raw && is_true (told_of v.hmac (maced v.hmac.kind c.secret v.header.raw))))

-- ---- where one stands

pub data Place : Type 0 where
  Base : Place
  Candidate : Place
  Sent : Place

-- where, in which order an entry counts by the length of its base's or sent chain, and whether it was not sent
pub record Standing : Type 0 where
  pub place : Place
  pub entries : ℕ
  pub is_held : Bool

abbrev pub in_candidate : Credential → Voucher → Option Voucher → Option Standing
in_candidate c base None = None
in_candidate c base (Some v) = if matches c v then Some (record { place = Place.Candidate; entries = length base.entries; is_held = true }) else None

abbrev pub in_entry : Credential → Kept → Option Standing
in_entry c (kept.Held base candidate) =
    if matches c base then Some (record { place = Place.Base; entries = length base.entries; is_held = true }) else in_candidate c base candidate
in_entry c (kept.Sent v) = if matches c v then Some (record { place = Place.Sent; entries = length v.entries; is_held = false }) else None

-- the longer chain counts, and of equal ones what was not sent; else the one before
abbrev pub is_above : Standing → Standing → Bool
is_above a b = nat_lt b.entries a.entries || (is_equal a.entries b.entries && (a.is_held && not_held b.is_held)) where
  is_equal : ℕ → ℕ → Bool
  is_equal m n = if nat_lt m n then false else if nat_lt n m then false else true

  not_held : Bool → Bool
  not_held true = false
  not_held false = true

module _ {A : Type 0} where
  abbrev pub better : Option (A × Standing) → Option (A × Standing) → Option (A × Standing)
  better None later = later
  better (Some a) None = Some a
  better (Some a) (Some b) = if is_above b.1 a.1 then Some b else Some a

  abbrev pub standing_in : A → Option Standing → Option (A × Standing)
  standing_in party None = None
  standing_in party (Some s) = Some (party, s)

  -- the best entry of a party's map, and of all parties' maps in their order
  abbrev pub named_in : Credential → A → List Kept → Option (A × Standing)
  named_in c party [] = None
  named_in c party (entry ∷ entries) = better (standing_in party (in_entry c entry)) (named_in c party entries)

  abbrev pub named_from : Credential → List (A × List Kept) → Option (A × Standing)
  named_from c [] = None
  named_from c (party ∷ parties) = better (named_in c party.0 party.1) (named_from c parties)

-- ---- custody

-- a party took a voucher: at DI, at the replacement of another one, or by import
pub record Take : Type 0 where
  pub party : ℕ
  pub voucher : Voucher

-- of the last one whose voucher matches; the newest stands first
abbrev pub custodian : Credential → List Take → Option ℕ
custodian c [] = None
custodian c (take ∷ takes) = if matches c take.voucher then Some take.party else custodian c takes

-- a map keeps a voucher that matches
abbrev pub keeps : Credential → List Kept → Option Voucher
keeps c [] = None
keeps c (entry ∷ entries) = or_next (matching c entry) (keeps c entries) where
  or_next : Option Voucher → Option Voucher → Option Voucher
  or_next None next = next
  or_next (Some v) next = Some v

  matching : Credential → Kept → Option Voucher
  matching c (kept.Held base None) = if matches c base then Some base else None
  matching c (kept.Held base (Some v)) = if matches c base then Some base else if matches c v then Some v else None
  matching c (kept.Sent v) = if matches c v then Some v else None

abbrev pub map_of : {A : Type 0} → ℕ → List (List A) → List A
map_of party [] = []
map_of zero (map ∷ maps) = map
map_of (suc n) (map ∷ maps) = map_of n maps

-- the party whose key is the last one of a voucher
abbrev pub party_of : ℕ → PublicKey → List PublicKey → Option ℕ
party_of n key [] = None
party_of n key (k ∷ ks) = if same_key k key then Some n else party_of (suc n) key ks

abbrev pub owner_of : List PublicKey → Option Voucher → Option ℕ
owner_of keys None = None
owner_of keys (Some v) = party_of 0 (last_key v.header.key v.entries) keys

-- a device committed a replacement, or kept its credential: the party of its session, and the owner
pub record Commit : Type 0 where
  pub cred : Credential
  pub session : Option ℕ
  pub owner : Option ℕ

-- ---- what is safe

abbrev pub numbered : ℕ → List (List Kept) → List (ℕ × List Kept)
numbered n [] = []
numbered n (map ∷ maps) = (n, map) ∷ numbered (suc n) maps

-- the custodian keeps a voucher that matches the credential, and is the party that the maps alone name
pub record IsKept (c : Credential) (takes : List Take) (maps : List (List Kept)) : Type 0 where
  pub party : ℕ
  pub is_custodian : custodian c takes ≡ Some party
  pub voucher : Voucher
  pub kept : keeps c (map_of party maps) ≡ Some voucher
  pub standing : Standing
  pub named : named_from c (numbered 0 maps) ≡ Some (party, standing)

abbrev pub IsKeptIfAny : Option Credential → List Take → List (List Kept) → Type 0
IsKeptIfAny None takes maps = Unit {0}
IsKeptIfAny (Some c) takes maps = IsKept c takes maps

abbrev pub Among : {A : Type 0} → A → List A → Type 0
Among x [] = ⊥
Among x (y ∷ ys) = (x ≡ y) ⊎ Among x ys

-- the session of each was run by a party, which is its owner
abbrev pub AreOwned : List Commit → Type 0
AreOwned commits = (m : Commit) → Among m commits → (party : ℕ) × (m.session ≡ Some party) × (m.owner ≡ Some party)

pub record Safe (cred : Option Credential) (takes : List Take) (maps : List (List Kept)) (commits reuses : List Commit) : Type 0 where
  pub in_custody : IsKeptIfAny cred takes maps
  pub replaced : AreOwned commits
  pub stayed : AreOwned reuses
