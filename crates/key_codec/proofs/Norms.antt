-- What is written has its maps' pairs in order already.
use Rattle.std.proofs.Common.{◌≡◌, ℕ, ℤ, pos, negsuc, List, [], ◌∷◌, map, refl, sym, ap, ◌∙◌}
use Rattle.cbor_core.specs.declared.item.Item.{Item}
use Rattle.cbor_core.specs.declared.item.Item.TheOpen.{Item-F}
use Rattle.cbor_core.specs.declared.item.Item.TheFolds.{fold-roll-Item}
use Rattle.cbor_core.specs.declared.item.Item.TheVariants as items
use Rattle.cbor_core.specs.Head.{head}
use Rattle.cbor_core.specs.Deterministic.{det, det_step}
use Rattle.cbor_core.specs.Norm.{norm, norm_step, in_order}
use Rattle.cbor_core.proofs.Dets.{norm_pair}
use Rattle.hash_hmac.specs.declared.hash.Hash.{Hash}
use Rattle.key_codec.specs.declared.key.CoseKey.{CoseKey}
use Rattle.key_codec.specs.declared.key.KeyBody.{KeyBody}
use Rattle.key_codec.specs.declared.key.KeyBody.TheVariants as body
use Rattle.key_codec.specs.declared.key.PublicKey.{PublicKey}
use Rattle.key_codec.specs.declared.sig_info.SigInfo.{SigInfo}
use Rattle.hash_hmac.specs.Value.{content}
use Rattle.cbor_core.specs.Numbers.{item_of_integer}
use Rattle.key_codec.specs.Key.{item_of_cose, item_of_body, item_of_key}
use Rattle.key_codec.specs.Hash.{item_of_hash}
use Rattle.key_codec.specs.SigInfo.{item_of_sig_info}

pub norm_uint : (n : ℕ) → norm (items.Uint n) ≡ items.Uint n
norm_uint n = ap norm (sym (items.rolls-Uint n)) ∙ fold-roll-Item Item norm_step (Item-F.Uint n)

norm_nint : (n : ℕ) → norm (items.Nint n) ≡ items.Nint n
norm_nint n = ap norm (sym (items.rolls-Nint n)) ∙ fold-roll-Item Item norm_step (Item-F.Nint n)

pub norm_bytes : (b : List ℕ) → norm (items.Bytes b) ≡ items.Bytes b
norm_bytes b = ap norm (sym (items.rolls-Bytes b)) ∙ fold-roll-Item Item norm_step (Item-F.Bytes b)

pub norm_array : (xs : List Item) → norm (items.Array xs) ≡ items.Array (map norm xs)
norm_array xs = ap norm (sym (items.rolls-Array xs)) ∙ fold-roll-Item Item norm_step (Item-F.Array xs)

norm_map : (ps : List (Item × Item)) → norm (items.Map ps) ≡ items.Map (in_order (map norm_pair ps))
norm_map ps = ap norm (sym (items.rolls-Map ps)) ∙ fold-roll-Item Item norm_step (Item-F.Map ps)

det_uint : (n : ℕ) → det (items.Uint n) ≡ head 0 n
det_uint n = ap det (sym (items.rolls-Uint n)) ∙ fold-roll-Item (List ℕ) det_step (Item-F.Uint n)

det_nint : (n : ℕ) → det (items.Nint n) ≡ head 1 n
det_nint n = ap det (sym (items.rolls-Nint n)) ∙ fold-roll-Item (List ℕ) det_step (Item-F.Nint n)

pub norm_integer : (n : ℤ) → norm (item_of_integer n) ≡ item_of_integer n
norm_integer (pos n) = norm_uint n
norm_integer (negsuc n) = norm_nint n

norm_all : (bs : List (List ℕ)) → map norm (map items.Bytes bs) ≡ map items.Bytes bs
norm_all [] = refl
norm_all (b ∷ bs) = rw (norm_bytes b, norm_all bs) refl

-- the keys 01, 20, 21 and 22 ascend
four_in_order : (a b c d : Item) → in_order ((items.Uint 1, a) ∷ (items.Nint 0, b) ∷ (items.Nint 1, c) ∷ (items.Nint 2, d) ∷ []) ≡ (items.Uint 1, a) ∷ (items.Nint 0, b) ∷ (items.Nint 1, c) ∷ (items.Nint 2, d) ∷ []
unfolding head
four_in_order a b c d = rw (det_uint 1, det_nint 0, det_nint 1, det_nint 2) refl

norm_cose : (c : CoseKey) → norm (item_of_cose c) ≡ item_of_cose c
norm_cose c =
    norm_map ((items.Uint 1, items.Uint 2) ∷ (items.Nint 0, item_of_integer c.curve) ∷ (items.Nint 1, items.Bytes c.x) ∷ (items.Nint 2, items.Bytes c.y) ∷ [])
    ∙ (rw (norm_uint 1, norm_uint 2, norm_nint 0, norm_nint 1, norm_nint 2, norm_integer c.curve, norm_bytes c.x, norm_bytes c.y)
    (ap items.Map (four_in_order (items.Uint 2) (item_of_integer c.curve) (items.Bytes c.x) (items.Bytes c.y))))

pub norm_body : (b : KeyBody) → norm (item_of_body b) ≡ item_of_body b
norm_body (body.Bytes b) = norm_bytes b
norm_body (body.Chain bs) = norm_array (map items.Bytes bs) ∙ ap items.Array (norm_all bs)
norm_body (body.Cose c) = norm_cose c

pub norm_key : (key : PublicKey) → norm (item_of_key key) ≡ item_of_key key
norm_key key =
    norm_array (item_of_integer key.kind ∷ item_of_integer key.enc ∷ item_of_body key.body ∷ [])
    ∙ (rw (norm_integer key.kind, norm_integer key.enc, norm_body key.body) refl)

pub norm_hash : (hash : Hash) → norm (item_of_hash hash) ≡ item_of_hash hash
norm_hash hash = norm_array (item_of_integer hash.kind ∷ items.Bytes (content hash) ∷ []) ∙ (rw (norm_integer hash.kind, norm_bytes (content hash)) refl)

pub norm_sig_info : (sig : SigInfo) → norm (item_of_sig_info sig) ≡ item_of_sig_info sig
norm_sig_info sig = norm_array (item_of_integer sig.kind ∷ items.Bytes sig.info ∷ []) ∙ (rw (norm_integer sig.kind, norm_bytes sig.info) refl)
