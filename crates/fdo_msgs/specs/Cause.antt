-- The codes, texts and words of causes (FIDO Device Onboard 1.1, the error codes of message type 255).
use Rattle.std.specs.Prelude.{ℕ, List, Option, Some, None, codes, ◌==◌, if◌then◌else◌}
use Rattle.fdo_msgs.specs.Kind.{owner_sign}
use Rattle.fdo_msgs.specs.declared.cause.Cause.{Cause}
use Rattle.fdo_msgs.specs.declared.cause.Cause.TheVariants as cause

-- what is wrong in TO0.OwnerSign (22) has the code of an invalid owner sign body
abbrev pub owner_sign_code : ℕ → ℕ
owner_sign_code kind = if kind == owner_sign then 3 else 101

-- the code of a cause, at a message of a type; an error of the other end and what is no message have no answer
abbrev pub code_of : Cause → ℕ → Option ℕ
code_of cause.Token kind = Some 1
code_of (cause.Turn _) kind = Some 101
code_of (cause.Body _) kind = Some 100
code_of (cause.NoAlgorithm _) kind = Some 101
code_of cause.NotVerified kind = Some (owner_sign_code kind)
code_of cause.NotOpened kind = Some 101
code_of cause.SeenIv kind = Some 101
code_of cause.Nonce kind = Some (owner_sign_code kind)
code_of cause.HashDiffers kind = Some (owner_sign_code kind)
code_of cause.GuidDiffers kind = Some 5
code_of (cause.Chain _) kind = Some 2
code_of cause.OwnerKey kind = Some 2
code_of (cause.Address _) kind = Some 4
code_of (cause.Missing _) kind = Some 6
code_of (cause.EntryNumber _) kind = Some 101
code_of (cause.Changed _) kind = Some 101
code_of (cause.Clash _) kind = Some 101
code_of (cause.Info _) kind = Some 101
code_of (cause.Size _) kind = Some 101
code_of cause.Reuse kind = Some 102
code_of (cause.Full _) kind = Some 500
code_of (cause.Outside _) kind = Some 500
code_of (cause.Peer _) kind = None
code_of (cause.Http _) kind = None

-- the cause's name
abbrev pub word_of : Cause → List ℕ
word_of cause.Token = codes "token"
word_of (cause.Turn _) = codes "turn"
word_of (cause.Body _) = codes "body"
word_of (cause.NoAlgorithm _) = codes "noalgorithm"
word_of cause.NotVerified = codes "notverified"
word_of cause.NotOpened = codes "notopened"
word_of cause.SeenIv = codes "seeniv"
word_of cause.Nonce = codes "nonce"
word_of cause.HashDiffers = codes "hash"
word_of cause.GuidDiffers = codes "guid"
word_of (cause.Chain _) = codes "chain"
word_of cause.OwnerKey = codes "ownerkey"
word_of (cause.Address _) = codes "address"
word_of (cause.Missing _) = codes "missing"
word_of (cause.EntryNumber _) = codes "entry"
word_of (cause.Changed _) = codes "changed"
word_of (cause.Clash _) = codes "clash"
word_of (cause.Info _) = codes "info"
word_of (cause.Size _) = codes "size"
word_of cause.Reuse = codes "reuse"
word_of (cause.Full _) = codes "full"
word_of (cause.Outside _) = codes "outside"
word_of (cause.Peer _) = codes "peer"
word_of (cause.Http _) = codes "http"

-- what an error message says of a code
unfoldable pub text_of : ℕ → List ℕ
text_of code =
    if code == 1 then codes "invalid token"
    else if code == 2 then codes "invalid voucher"
    else if code == 3 then codes "invalid owner sign body"
    else if code == 4 then codes "invalid address"
    else if code == 5 then codes "invalid guid"
    else if code == 6 then codes "not found"
    else if code == 100 then codes "message body"
    else if code == 101 then codes "invalid message"
    else if code == 102 then codes "credential reuse"
    else codes "internal"
