-- The values of parts are read from their items as they were written.
use Rattle.std.proofs.Common.{◌≡◌, ℕ, ℤ, ◌^◌, ◌-◌, ◌<◌, ◌≤◌, List, [], ◌∷◌, map, length, true, false, Bool, Option, Some, None, refl, sym, ap, subst, ◌∙◌, arith, lit<, inl}
use Rattle.std.specs.List.{AllByRecursion}
use Rattle.std.proofs.lemmas.Bool.{eq-eqb, le-leb}
use Rattle.cbor_core.specs.declared.item.Item.{Item, out-Item}
use Rattle.cbor_core.specs.declared.item.Item.TheOpen.{Item-F}
use Rattle.cbor_core.specs.declared.item.Item.TheFolds.{fold-roll-Item}
use Rattle.cbor_core.specs.declared.item.Item.TheVariants as items
use Rattle.cbor_core.specs.Norm.{norm, norm_step, IsFitLayer, IsFitWithin}
use Rattle.cbor_core.specs.Numbers.{integer_in, item_of_integer, IsI64}
use Rattle.cbor_core.specs.Shapes.{is_null, of_length, array_layer, two_items}
use Rattle.cbor_core.specs.Spots.{bytes_in, text_in}
use Rattle.cbor_core.proofs.NormLaws.{fit_uint, fit_integer, fit_bytes, fit_array, content_back}
use Rattle.cbor_core.proofs.WholeLaws.{shows_again}
use Rattle.hash_hmac.specs.declared.hash.Hash.{Hash}
use Rattle.key_codec.specs.Fault.{ok_of}
use Rattle.key_codec.specs.Hash.{hash_in, item_of_hash}
use Rattle.key_codec.specs.Key.{body_in, item_of_body, form_of_body}
use Rattle.key_codec.specs.SigInfo.{sig_info_in, item_of_sig_info}
use Rattle.key_codec.specs.declared.sig_info.SigInfo.{SigInfo}
use Rattle.key_codec.proofs.Back.{integer_back, type_fits, encoding_fits, body_back}
use Rattle.key_codec.proofs.HashLaws.{hash_back}
use Rattle.key_codec.proofs.SigLaws.{sig_info_back}
use Rattle.key_codec.proofs.Norms.{norm_uint, norm_bytes, norm_array, norm_integer, norm_body, norm_hash, norm_sig_info}
use Rattle.service_info.specs.declared.pair.Pair.{Pair}
use Rattle.voucher_chain.specs.declared.header.Header.{Header}
use Rattle.voucher_chain.specs.Fault.{◌>>=◌, all_in}
use Rattle.voucher_chain.specs.Header.{guid_in as sixteen_in, maybe_hash_in, item_of_maybe_hash, header_seen, header_place, IsHeader}
use Rattle.voucher_chain.specs.Voucher.{header_inside}
use Rattle.voucher_chain.proofs.BackLaws.{of_layer, hash_inside, null_fits, norm_null, null_is}
use Rattle.fdo_msgs.specs.declared.mfg.MfgInfo.{MfgInfo}
use Rattle.fdo_msgs.specs.Value.{up_to, u8_in, u16_in, u32_in, u64_in, maybe_size_in, flag_in, item_of_flag, item_of_maybe_size}
use Rattle.fdo_msgs.specs.Fit.{IsHash, IsMfg, IsPair, IsMaybe, IsSize, IsSig}
use Rattle.fdo_msgs.specs.Info.{pair_in, pairs_in, item_of_pair, item_of_pairs}
use Rattle.fdo_msgs.specs.Mfg.{mfg_in, item_of_mfg}

norm_text : (t : List ℕ) → norm (items.Text t) ≡ items.Text t
norm_text t = ap norm (sym (items.rolls-Text t)) ∙ fold-roll-Item Item norm_step (Item-F.Text t)

norm_simple : (n : ℕ) → norm (items.Simple n) ≡ items.Simple n
norm_simple n = ap norm (sym (items.rolls-Simple n)) ∙ fold-roll-Item Item norm_step (Item-F.Simple n)

-- ---- parts

up_to_back : (most n : ℕ) → n ≤ most → up_to most (out-Item (items.Uint n)) ≡ Some n
up_to_back most n le = ap (up_to most) (items.outs-Uint n) ∙ (rw (le-leb n most le) refl)

text_back : (t : List ℕ) → text_in (out-Item (items.Text t)) ≡ Some t
text_back t = ap text_in (items.outs-Text t)

length_back : (n : ℕ) (b : List ℕ) → length b ≡ n → of_length n b ≡ Some b
length_back n b e = rw (eq-eqb (length b) n e) refl

number_not_null : (n : ℕ) → is_null (out-Item (items.Uint n)) ≡ false
number_not_null n = ap is_null (items.outs-Uint n)

hash_not_null : (hash : Hash) → is_null (out-Item (item_of_hash hash)) ≡ false
hash_not_null hash = ap is_null (items.outs-Array _)

flag_back : (b : Bool) → flag_in (out-Item (item_of_flag b)) ≡ Some b
flag_back true = ap flag_in (items.outs-Simple 21)
flag_back false = ap flag_in (items.outs-Simple 20)

layer_back : (xs : List Item) → array_layer (out-Item (items.Array xs)) ≡ Some xs
layer_back xs = ap array_layer (items.outs-Array xs)

-- ---- DeviceMfgInfo

norm_mfg : (info : MfgInfo) → norm (item_of_mfg info) ≡ item_of_mfg info
norm_mfg info =
    norm_array (item_of_integer info.pk_type ∷ item_of_integer info.pk_enc ∷ items.Text info.serial ∷ items.Text info.info ∷ item_of_body info.body ∷ [])
    ∙ (rw (norm_integer info.pk_type, norm_integer info.pk_enc, norm_text info.serial, norm_text info.info, norm_body info.body) refl)

mfg_back : (info : MfgInfo) → IsMfg info → mfg_in (item_of_mfg info) ≡ Some info
unfolding mfg_in body_in
mfg_back info h =
    let parts = item_of_integer info.pk_type ∷ item_of_integer info.pk_enc ∷ items.Text info.serial ∷ items.Text info.info ∷ item_of_body info.body ∷ [] in
    rw (items.outs-Array parts, integer_back info.pk_type (type_fits info.pk_type h.kind), integer_back info.pk_enc (encoding_fits info.pk_enc (form_of_body info.body) h.enc), text_back info.serial, text_back info.info, h.kind, h.enc, body_back info.body h.body) refl

-- ---- lists

all_back : {X : Type 0} (said : Item → Option X) (made : X → Item) (P : X → Type 0) → ((x : X) → P x → said (made x) ≡ Some x) → (xs : List X) → AllByRecursion P xs → all_in said (map made xs) ≡ Some xs
all_back said made P one [] h = refl
all_back said made P one (x ∷ xs) h = rw (one x h.0, all_back said made P one xs h.1) refl

norm_all : {X : Type 0} (made : X → Item) → ((x : X) → norm (made x) ≡ made x) → (xs : List X) → map norm (map made xs) ≡ map made xs
norm_all made one [] = refl
norm_all made one (x ∷ xs) = rw (one x, norm_all made one xs) refl

-- ---- pairs

norm_pair : (p : Pair) → norm (item_of_pair p) ≡ item_of_pair p
norm_pair p = norm_array (items.Text p.key ∷ items.Bytes p.value ∷ []) ∙ (rw (norm_text p.key, norm_bytes p.value) refl)

two_back : (a b : Item) → two_items (items.Array (a ∷ b ∷ [])) ≡ Some (a, b)
two_back a b = rw (items.outs-Array (a ∷ b ∷ [])) refl

pair_back : (p : Pair) → IsPair p → pair_in (item_of_pair p) ≡ Some p
pair_back p h = rw (two_back (items.Text p.key) (items.Bytes p.value), text_back p.key, content_back p.value, h.1) refl

pairs_back : (ps : List Pair) → AllByRecursion IsPair ps → pairs_in (norm (item_of_pairs ps)) ≡ Some ps
pairs_back ps h = rw (norm_array (map item_of_pair ps), norm_all item_of_pair norm_pair ps, layer_back (map item_of_pair ps)) (all_back pair_in item_of_pair IsPair pair_back ps h)

-- ---- values, as they are read from their normal items

pub u8_said : (n : ℕ) → n < 2 ^ 8 → u8_in (norm (items.Uint n)) ≡ Some n
u8_said n h = rw (norm_uint n) (up_to_back (2 ^ 8 - 1) n (omega (arith, h)))

pub u16_said : (n : ℕ) → n < 2 ^ 16 → u16_in (norm (items.Uint n)) ≡ Some n
u16_said n h = rw (norm_uint n) (up_to_back (2 ^ 16 - 1) n (omega (arith, h)))

pub u32_said : (n : ℕ) → n < 2 ^ 32 → u32_in (norm (items.Uint n)) ≡ Some n
u32_said n h = rw (norm_uint n) (up_to_back (2 ^ 32 - 1) n (omega (arith, h)))

pub u64_said : (n : ℕ) → n < 2 ^ 64 → u64_in (norm (items.Uint n)) ≡ Some n
u64_said n h = rw (norm_uint n) (up_to_back (2 ^ 64 - 1) n (omega (arith, h)))

pub integer_said : (n : ℤ) → IsI64 n → integer_in (norm (item_of_integer n)) ≡ Some n
integer_said n h = rw (norm_integer n) (integer_back n h)

pub flag_said : (b : Bool) → flag_in (out-Item (norm (item_of_flag b))) ≡ Some b
flag_said true = rw (norm_simple 21) (flag_back true)
flag_said false = rw (norm_simple 20) (flag_back false)

pub text_said : (t : List ℕ) → text_in (out-Item (norm (items.Text t))) ≡ Some t
text_said t = rw (norm_text t) (text_back t)

pub bytes_said : (b : List ℕ) → bytes_in (out-Item (norm (items.Bytes b))) ≡ Some b
bytes_said b = rw (norm_bytes b) (content_back b)

pub sixteen_said : (b : List ℕ) → length b ≡ 16 → sixteen_in (norm (items.Bytes b)) ≡ Some b
sixteen_said b h = rw (bytes_said b, length_back 16 b h) refl

pub sig_said : (sig : SigInfo) → IsSig sig → ok_of (sig_info_in (norm (item_of_sig_info sig))) ≡ Some sig
sig_said sig h = rw (norm_sig_info sig, sig_info_back sig h.0) refl

pub hash_said : (hash : Hash) → IsHash hash → ok_of (hash_in (norm (item_of_hash hash))) ≡ Some hash
hash_said hash h = rw (norm_hash hash, hash_back hash h.room h.consistent) refl

pub maybe_hash_said : (o : Option Hash) → IsMaybe IsHash o → maybe_hash_in (norm (item_of_maybe_hash o)) ≡ Some o
maybe_hash_said None h = rw (norm_null, null_is) refl
maybe_hash_said (Some hash) h = rw (norm_hash hash, hash_not_null hash, hash_back hash h.room h.consistent) refl

pub maybe_size_said : (o : Option ℕ) → IsMaybe IsSize o → maybe_size_in (norm (item_of_maybe_size o)) ≡ Some o
maybe_size_said None h = rw (norm_null, null_is) refl
maybe_size_said (Some n) h = rw (norm_uint n, number_not_null n, up_to_back (2 ^ 16 - 1) n (omega (arith, h))) refl

pub mfg_said : (info : MfgInfo) → IsMfg info → mfg_in (norm (item_of_mfg info)) ≡ Some info
mfg_said info h = rw (norm_mfg info) (mfg_back info h)

pub header_said : (header : Header) → IsHeader header.raw header → header_inside (norm (items.Bytes header.raw)) ≡ Some header
header_said header h = rw (bytes_said header.raw, shows_again header_seen header_place header.raw header h) refl

pub pairs_said : (ps : List Pair) → AllByRecursion IsPair ps → pairs_in (norm (item_of_pairs ps)) ≡ Some ps
pairs_said ps h = pairs_back ps h

-- ---- and how they are spelled

pub fit_number : (n : ℕ) → n < 2 ^ 64 → IsFitWithin 15 (items.Uint n)
fit_number n h = fit_uint 14 n h

pub fit_string : (b : List ℕ) → length b < 2 ^ 64 → IsFitWithin 15 (items.Bytes b)
fit_string b h = fit_bytes 14 b h

pub fit_sig : (sig : SigInfo) → IsSig sig → IsFitWithin 15 (item_of_sig_info sig)
fit_sig sig h = fit_array 14 (item_of_integer sig.kind ∷ items.Bytes sig.info ∷ []) (lit< tt) (fit_integer 13 sig.kind h.0, (fit_bytes 13 sig.info h.1, tt))

pub fit_hash : (hash : Hash) → IsHash hash → IsFitWithin 15 (item_of_hash hash)
fit_hash hash h = hash_inside hash h.consistent

pub fit_maybe_hash : (o : Option Hash) → IsMaybe IsHash o → IsFitWithin 15 (item_of_maybe_hash o)
fit_maybe_hash None h = null_fits 14
fit_maybe_hash (Some hash) h = hash_inside hash h.consistent

pub fit_maybe_size : (o : Option ℕ) → IsMaybe IsSize o → IsFitWithin 15 (item_of_maybe_size o)
fit_maybe_size None h = null_fits 14
fit_maybe_size (Some n) h = fit_uint 14 n (omega (arith, h))

fit_simple : (n : ℕ) → n < 24 → IsFitWithin 15 (items.Simple n)
fit_simple n h = of_layer 14 (items.Simple n) (subst (IsFitLayer (IsFitWithin 14)) (sym (items.outs-Simple n)) (inl h))

pub fit_flag : (b : Bool) → IsFitWithin 15 (item_of_flag b)
fit_flag true = fit_simple 21 (lit< tt)
fit_flag false = fit_simple 20 (lit< tt)
