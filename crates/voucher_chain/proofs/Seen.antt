-- What was read of the parts of a voucher, and the bytes that values keep.
use Rattle.std.proofs.Common.{◌≡◌, ℕ, List, [], ◌∷◌, Bool, true, false, cond, Option, Some, None, Result, Ok, Err, IfOk, refl, sym, ap, subst, ◌∙◌}
use Rattle.std.specs.Prelude.{option_map}
use Rattle.std.proofs.lemmas.List.{append-nil}
use Rattle.cbor_core.specs.declared.item.Item.{Item, out-Item}
use Rattle.cbor_core.specs.Shapes.{five_spots, six_spots}
use Rattle.cbor_core.specs.Spelling.{Spells}
use Rattle.cbor_core.specs.Spots.{Spot, start, spot_item, spot_raw, text_in}
use Rattle.cbor_core.specs.Whole.{Shows}
use Rattle.cbor_core.proofs.SpotLaws.{SpotIs, spot_is}
use Rattle.hash_hmac.specs.declared.hash.Hash.{Hash}
use Rattle.key_codec.specs.declared.key.PublicKey.{PublicKey}
use Rattle.key_codec.specs.Fault.{ok_of}
use Rattle.key_codec.specs.Key.{key_in}
use Rattle.cose_envelopes.specs.Envelope.{sign1_in}
use Rattle.voucher_chain.specs.declared.fault.ChainFault.{ChainFault}
use Rattle.voucher_chain.specs.declared.entry.Entry.{Entry}
use Rattle.voucher_chain.specs.declared.header.Header.{Header}
use Rattle.voucher_chain.specs.declared.rv_info.RvInstr.{RvInstr}
use Rattle.voucher_chain.specs.declared.voucher.Voucher.{Voucher}
use Rattle.voucher_chain.specs.Entry.{entry_seen, entry_of, signed_entry, payload_in}
use Rattle.voucher_chain.specs.Fault.{◌>>=◌}
use Rattle.voucher_chain.specs.Header.{is_version, guid_in, maybe_hash_in, header_seen, header_of, header_values}
use Rattle.voucher_chain.specs.Reading.{IsVoucher}
use Rattle.voucher_chain.specs.RvInfo.{rv_in}
use Rattle.voucher_chain.specs.Voucher.{voucher_seen, voucher_of, voucher_values, mac_in, header_inside, certificates_in, entries_inside}

-- ---- steps that were taken

pub bind_some : {A B : Type 0} (o : Option A) (f : A → Option B) (y : B) → (o >>= f) ≡ Some y → (x : A) × (o ≡ Some x) × (f x ≡ Some y)
bind_some (Some x) f y e = (x, refl, e)
bind_some None f y e = absurd (cc e)

pub guard_some : {A : Type 0} (b : Bool) (o : Option A) (y : A) → cond b o None ≡ Some y → (b ≡ true) × (o ≡ Some y)
guard_some true o y e = (refl, e)
guard_some false o y e = absurd (cc e)

pub map_some : {A B : Type 0} (f : A → B) (o : Option A) (y : B) → option_map f o ≡ Some y → (x : A) × (o ≡ Some x) × (f x ≡ y)
map_some f (Some x) y e = (x, refl, cc e)
map_some f None y e = absurd (cc e)

pub some_is : {A : Type 0} (x y : A) → Some x ≡ Some y → x ≡ y
some_is x y e = cc e

pub two_some : {A : Type 0} (o : Option A) (more : Option (List A)) (x : A) (xs : List A) → o ≡ Some x → more ≡ Some xs → (o >>= λ value. more >>= λ values. Some (value ∷ values)) ≡ Some (x ∷ xs)
two_some o more x xs e f = rw (e, f) refl

-- ---- the parts of a voucher

abbrev made : Spot → Spot → Header → Hash → Option (List (List ℕ)) → List Entry → Voucher
made s mac header hmac chain entries = record { raw = spot_raw s; header = header; hmac = hmac; hmac_raw = spot_raw mac; chain = chain; entries = entries }

pub record IsSeen (s : Spot) (v : Voucher) : Type 0 where
  pub parts : Spot × Spot × Spot × Spot × Spot
  pub five : five_spots s ≡ Some parts
  pub version : is_version (out-Item (spot_item parts.0)) ≡ true
  pub header : header_inside (spot_item parts.1) ≡ Some v.header
  pub hmac : mac_in (spot_item parts.2) ≡ Some v.hmac
  pub chain : certificates_in (spot_item parts.3) ≡ Some v.chain
  pub entries : entries_inside parts.4 ≡ Some v.entries
  pub raw : v.raw ≡ spot_raw s
  pub hmac_raw : v.hmac_raw ≡ spot_raw parts.2

pub seen_is : (s : Spot) (v : Voucher) → voucher_seen s ≡ Some v → IsSeen s v
unfolding voucher_seen
seen_is s v e =
    let p = bind_some (five_spots s) (voucher_of s) v e in
    let g = guard_some (is_version (out-Item (spot_item p.0.0))) (voucher_values s p.0.1 p.0.2 p.0.3 p.0.4) v p.2 in
    let m = bind_some (mac_in (spot_item p.0.2)) (λ hmac. header_inside (spot_item p.0.1) >>= λ header. certificates_in (spot_item p.0.3) >>= λ chain. entries_inside p.0.4 >>= λ entries. Some (made s p.0.2 header hmac chain entries)) v g.1 in
    let h = bind_some (header_inside (spot_item p.0.1)) (λ header. certificates_in (spot_item p.0.3) >>= λ chain. entries_inside p.0.4 >>= λ entries. Some (made s p.0.2 header m.0 chain entries)) v m.2 in
    let c = bind_some (certificates_in (spot_item p.0.3)) (λ chain. entries_inside p.0.4 >>= λ entries. Some (made s p.0.2 h.0 m.0 chain entries)) v h.2 in
    let es = bind_some (entries_inside p.0.4) (λ entries. Some (made s p.0.2 h.0 m.0 c.0 entries)) v c.2 in
    subst (IsSeen s) {x = made s p.0.2 h.0 m.0 c.0 es.0} (some_is (made s p.0.2 h.0 m.0 c.0 es.0) v es.2)
    (record { parts = p.0; five = p.1; version = g.0; header = h.1; hmac = m.1; chain = c.1; entries = es.1; raw = refl {a = spot_raw s}; hmac_raw = refl {a = spot_raw p.0.2} })

-- ---- the bytes that are kept

pub voucher_kept : (s : Spot) (v : Voucher) → voucher_seen s ≡ Some v → v.raw ≡ spot_raw s
voucher_kept s v e = (seen_is s v e).raw

abbrev header_made : Spot → Spot → List ℕ → List (List RvInstr) → List ℕ → PublicKey → Option Hash → Header
header_made s key guid rv info own chain_hash = record { raw = spot_raw s; guid = guid; rv = rv; info = info; key = own; key_raw = spot_raw key; chain_hash = chain_hash }

pub header_kept : (s : Spot) (header : Header) → header_seen s ≡ Some header → header.raw ≡ spot_raw s
unfolding header_seen
header_kept s header e =
    let p = bind_some (six_spots s) (header_of s) header e in
    let v = guard_some (is_version (out-Item (spot_item p.0.0))) (header_values s p.0.1 p.0.2 p.0.3 p.0.4 p.0.5) header p.2 in
    let g = bind_some (guid_in (spot_item p.0.1)) (λ guid. rv_in (spot_item p.0.2) >>= λ rv. text_in (out-Item (spot_item p.0.3)) >>= λ info. ok_of (key_in (spot_item p.0.4)) >>= λ own. maybe_hash_in (spot_item p.0.5) >>= λ hash. Some (header_made s p.0.4 guid rv info own hash)) header v.1 in
    let r = bind_some (rv_in (spot_item p.0.2)) (λ rv. text_in (out-Item (spot_item p.0.3)) >>= λ info. ok_of (key_in (spot_item p.0.4)) >>= λ own. maybe_hash_in (spot_item p.0.5) >>= λ hash. Some (header_made s p.0.4 g.0 rv info own hash)) header g.2 in
    let i = bind_some (text_in (out-Item (spot_item p.0.3))) (λ info. ok_of (key_in (spot_item p.0.4)) >>= λ own. maybe_hash_in (spot_item p.0.5) >>= λ hash. Some (header_made s p.0.4 g.0 r.0 info own hash)) header r.2 in
    let k = bind_some (ok_of (key_in (spot_item p.0.4))) (λ own. maybe_hash_in (spot_item p.0.5) >>= λ hash. Some (header_made s p.0.4 g.0 r.0 i.0 own hash)) header i.2 in
    let h = bind_some (maybe_hash_in (spot_item p.0.5)) (λ hash. Some (header_made s p.0.4 g.0 r.0 i.0 k.0 hash)) header k.2 in
    sym {a = spot_raw s} (ap (λ (w : Header). w.raw) {x = header_made s p.0.4 g.0 r.0 i.0 k.0 h.0} (some_is (header_made s p.0.4 g.0 r.0 i.0 k.0 h.0) header h.2))

pub entry_kept : (s : Spot) (entry : Entry) → entry_seen s ≡ Some entry → entry.raw ≡ spot_raw s
unfolding entry_seen
entry_kept s entry e =
    let p = bind_some (sign1_in (spot_item s)) (signed_entry (spot_raw s)) entry e in
    let m = map_some (entry_of (spot_raw s) p.0) (payload_in p.0.payload) entry p.2 in
    sym (ap (λ (w : Entry). w.raw) m.2)

-- ---- of an input, all

pub start_is : (bytes : List ℕ) (x : Item) → Spells x bytes → SpotIs (start bytes) x bytes []
start_is bytes x h = spot_is (start bytes) x bytes [] h (sym (append-nil bytes))

pub all_kept : {A : Type 0} (seen : Spot → Option A) (raw : A → List ℕ) → ((s : Spot) (value : A) → seen s ≡ Some value → raw value ≡ spot_raw s) → (bytes : List ℕ) (value : A) → Shows seen bytes value → raw value ≡ bytes
all_kept seen raw kept bytes value h = kept (start bytes) value h.shows ∙ (start_is bytes h.item h.spelled).raw

-- ---- as the readers answer

pub voucher_raw : (bytes : List ℕ) (r : Result Voucher ChainFault) → IfOk r (IsVoucher bytes) → IfOk r (λ v. v.raw ≡ bytes)
voucher_raw bytes (Ok v) h = all_kept voucher_seen (λ (w : Voucher). w.raw) voucher_kept bytes v h.shown
voucher_raw bytes (Err f) h = tt

pub header_raw : (bytes : List ℕ) (r : Result Header ChainFault) → IfOk r (Shows header_seen bytes) → IfOk r (λ v. v.raw ≡ bytes)
header_raw bytes (Ok v) h = all_kept header_seen (λ (w : Header). w.raw) header_kept bytes v h
header_raw bytes (Err f) h = tt

pub entry_raw : (bytes : List ℕ) (r : Result Entry ChainFault) → IfOk r (Shows entry_seen bytes) → IfOk r (λ v. v.raw ≡ bytes)
entry_raw bytes (Ok v) h = all_kept entry_seen (λ (w : Entry). w.raw) entry_kept bytes v h
entry_raw bytes (Err f) h = tt
