-- Messages that can be written and are then read as they were.
use Rattle.std.specs.Prelude.{◌≡◌, ◌^◌, ◌<◌, ℕ, List, length, true, false, Option, Some, None}
use Rattle.std.specs.List.{AllByRecursion}
use Rattle.cbor_core.specs.declared.item.Item.{Item}
use Rattle.cbor_core.specs.declared.item.Item.TheVariants as items
use Rattle.cbor_core.specs.Norm.{norm, IsFitWithin}
use Rattle.cbor_core.specs.Numbers.{IsI64}
use Rattle.cbor_core.specs.Spelling.{SpellsWithin}
use Rattle.cbor_core.specs.Whole.{whole}
use Rattle.cose_envelopes.specs.declared.sign1.Sign1.{Sign1}
use Rattle.cose_envelopes.specs.Envelope.{IsWhole1, norm_sign1, sign1_in}
use Rattle.hash_hmac.specs.declared.hash.Hash.{Hash}
use Rattle.hash_hmac.specs.Value.{IsConsistent}
use Rattle.key_codec.specs.declared.sig_info.SigInfo.{SigInfo}
use Rattle.key_codec.specs.Key.{is_key_type, form_of, form_of_body, IsBody as IsKeyBody}
use Rattle.service_info.specs.declared.pair.Pair.{Pair}
use Rattle.voucher_chain.specs.declared.entry.Entry.{Entry}
use Rattle.voucher_chain.specs.declared.header.Header.{Header}
use Rattle.voucher_chain.specs.Entry.{signed_entry}
use Rattle.voucher_chain.specs.Fault.{◌>>=◌}
use Rattle.voucher_chain.specs.Header.{IsHeader}
use Rattle.fdo_msgs.specs.declared.addr.AddrEntry.{AddrEntry}
use Rattle.fdo_msgs.specs.declared.mfg.MfgInfo.{MfgInfo}
use Rattle.fdo_msgs.specs.declared.msg.Msg.{Msg}
use Rattle.fdo_msgs.specs.declared.msg.Msg.TheVariants as msg
use Rattle.fdo_msgs.specs.declared.to1d.To1d.{To1d}
use Rattle.fdo_msgs.specs.Info.{item_of_pairs}
use Rattle.fdo_msgs.specs.Mfg.{item_of_mfg}
use Rattle.fdo_msgs.specs.OwnerSign.{to0d_in}
use Rattle.fdo_msgs.specs.Signed.{prove_to_rv, prove_ov_hdr, prove_device, setup_device}
use Rattle.fdo_msgs.specs.To1d.{to1d_by}

-- ---- parts

-- a hash of the form, with room for the longest
pub record IsHash (hash : Hash) : Type 0 where
  pub consistent : IsConsistent hash
  pub room : length hash.bytes ≡ 48

-- the type and the encoding are known, and the key's body is of the encoding's form
pub record IsMfg (info : MfgInfo) : Type 0 where
  pub kind : is_key_type info.pk_type ≡ true
  pub enc : form_of info.pk_enc ≡ Some (form_of_body info.body)
  pub body : IsKeyBody info.body

-- bytes that spell an item of so many levels, which says a value
pub record Stand {A : Type 0} (levels : ℕ) (said : Item → Option A) (bytes : List ℕ) (value : A) : Type 0 where
  pub item : Item
  pub spelled : SpellsWithin false levels item bytes
  pub says : said item ≡ Some value

abbrev pub entry_by : List ℕ → Item → Option Entry
entry_by raw x = sign1_in x >>= signed_entry raw

abbrev pub IsPort : AddrEntry → Type 0
IsPort a = (a.port < 2 ^ 16) × (a.protocol < 2 ^ 16)

-- the value of a pair is one item
abbrev pub IsPair : Pair → Type 0
IsPair p = (item : Item) × (whole p.value ≡ Some item)

abbrev pub IsSig : SigInfo → Type 0
IsSig sig = IsI64 sig.kind × (length sig.info < 2 ^ 64)

abbrev pub IsMaybe : {A : Type 0} → (A → Type 0) → Option A → Type 0
IsMaybe P None = Unit {0}
IsMaybe P (Some x) = P x

abbrev pub IsSize : ℕ → Type 0
IsSize n = n < 2 ^ 16

-- the bytes of a header spell it
abbrev pub IsWholeHeader : Header → Type 0
IsWholeHeader header = IsHeader header.raw header × (length header.raw < 2 ^ 64)

abbrev pub ArePairs : List Pair → Type 0
ArePairs pairs = AllByRecursion IsPair pairs × IsFitWithin 15 (item_of_pairs pairs)

-- ---- signed bodies

-- an envelope that can be written, with the pairs of its unprotected header in order, so that it is read as it stands
pub record IsSigned (sign : Sign1) : Type 0 where
  pub whole : IsWhole1 sign
  pub ordered : norm_sign1 sign ≡ sign

-- its bytes spell it, at so many levels
abbrev pub IsTo1d : ℕ → To1d → Type 0
IsTo1d levels to1d = Stand levels (λ x. to1d_by x to1d.raw) to1d.raw to1d

-- ---- messages

-- each part of the message is of its form, and none is more than 16 deep in the body
abbrev pub IsMsg : Msg → Type 0
IsMsg (msg.AppStart info) = IsMfg info × IsFitWithin 15 (item_of_mfg info)
IsMsg (msg.SetCredentials header) = IsWholeHeader header
IsMsg (msg.SetHmac hmac) = IsHash hmac
IsMsg msg.DiDone = Unit {0}
IsMsg msg.Hello = Unit {0}
IsMsg (msg.HelloAck nonce) = length nonce ≡ 16
IsMsg (msg.OwnerSign to0d voucher wait nonce to1d) = (to0d_in to0d ≡ Some (voucher, wait, nonce)) × (length to0d < 2 ^ 64) × IsTo1d 15 to1d
IsMsg (msg.AcceptOwner seconds) = seconds < 2 ^ 32
IsMsg (msg.HelloRv guid sig) = (length guid ≡ 16) × IsSig sig
IsMsg (msg.HelloRvAck nonce sig) = (length nonce ≡ 16) × IsSig sig
IsMsg (msg.ProveToRv nonce guid sign) = IsSigned sign × (prove_to_rv sign ≡ Some (msg.ProveToRv nonce guid sign))
IsMsg (msg.RvRedirect to1d) = IsTo1d 16 to1d
IsMsg (msg.HelloDevice size guid nonce kex cipher sig) = IsSize size × (length guid ≡ 16) × (length nonce ≡ 16) × IsFitWithin 15 (items.Text kex) × IsI64 cipher × IsSig sig
IsMsg (msg.ProveOvHdr a b c d e f g h i j k sign) = IsSigned sign × (prove_ov_hdr sign ≡ Some (msg.ProveOvHdr a b c d e f g h i j k sign))
IsMsg (msg.GetOvNextEntry n) = n < 2 ^ 8
IsMsg (msg.OvNextEntry n entry) = (n < 2 ^ 8) × Stand 15 (entry_by entry.raw) entry.raw entry
IsMsg (msg.ProveDevice a b c d sign) = IsSigned sign × (prove_device sign ≡ Some (msg.ProveDevice a b c d sign))
IsMsg (msg.SetupDevice a b c d sign) = IsSigned sign × (setup_device sign ≡ Some (msg.SetupDevice a b c d sign))
IsMsg (msg.DeviceReady hmac size) = IsMaybe IsHash hmac × IsMaybe IsSize size
IsMsg (msg.OwnerReady size) = IsMaybe IsSize size
IsMsg (msg.DeviceInfo more pairs) = ArePairs pairs
IsMsg (msg.OwnerInfo more done pairs) = ArePairs pairs
IsMsg (msg.Done nonce) = length nonce ≡ 16
IsMsg (msg.Done2 nonce) = length nonce ≡ 16
IsMsg (msg.Error code kind text stamp id) = IsSize code × (kind < 2 ^ 64) × IsFitWithin 15 (items.Text text) × IsFitWithin 15 stamp × IsFitWithin 15 id

-- the message with the pairs of the maps in an error's items in their order
abbrev pub norm_msg : Msg → Msg
norm_msg (msg.Error code kind text stamp id) = msg.Error code kind text (norm stamp) (norm id)
norm_msg m = m
