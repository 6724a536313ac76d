-- An error message goes for a cause with a code, and for no other.
use Rattle.std.proofs.Common.{◌≡◌, ℕ, Some, None, refl}
use Rattle.fdo_msgs.specs.Cause.{code_of}
use Rattle.fdo_msgs.specs.Refusal.{error_of}
use Rattle.fdo_msgs.specs.declared.cause.Cause.{Cause}
use Rattle.fdo_msgs.specs.declared.cause.Cause.TheVariants as cause
use Rattle.fdo_msgs.specs.declared.packet.Packet.{Packet}
use Rattle.fdo_rules.specs.Moves.{reply_to}

pub reply_is : (packet : Packet) (e : Cause) (code : ℕ) → code_of e packet.kind ≡ Some code → reply_to packet e ≡ Some (error_of e packet.kind packet.token)
reply_is packet cause.Token code h = refl
reply_is packet (cause.Turn x) code h = refl
reply_is packet (cause.Body x) code h = refl
reply_is packet (cause.NoAlgorithm x) code h = refl
reply_is packet cause.NotVerified code h = refl
reply_is packet cause.NotOpened code h = refl
reply_is packet cause.SeenIv code h = refl
reply_is packet cause.Nonce code h = refl
reply_is packet cause.HashDiffers code h = refl
reply_is packet cause.GuidDiffers code h = refl
reply_is packet (cause.Chain x) code h = refl
reply_is packet cause.OwnerKey code h = refl
reply_is packet (cause.Address x) code h = refl
reply_is packet (cause.Missing x) code h = refl
reply_is packet (cause.EntryNumber x) code h = refl
reply_is packet (cause.Changed x) code h = refl
reply_is packet (cause.Clash x) code h = refl
reply_is packet (cause.Info x) code h = refl
reply_is packet (cause.Size x) code h = refl
reply_is packet cause.Reuse code h = refl
reply_is packet (cause.Full x) code h = refl
reply_is packet (cause.Outside x) code h = refl
reply_is packet (cause.Peer x) code h = cc
reply_is packet (cause.Http x) code h = cc

pub none_is : (packet : Packet) (e : Cause) → code_of e packet.kind ≡ None → reply_to packet e ≡ None
none_is packet cause.Token h = cc
none_is packet (cause.Turn x) h = cc
none_is packet (cause.Body x) h = cc
none_is packet (cause.NoAlgorithm x) h = cc
none_is packet cause.NotVerified h = cc
none_is packet cause.NotOpened h = cc
none_is packet cause.SeenIv h = cc
none_is packet cause.Nonce h = cc
none_is packet cause.HashDiffers h = cc
none_is packet cause.GuidDiffers h = cc
none_is packet (cause.Chain x) h = cc
none_is packet cause.OwnerKey h = cc
none_is packet (cause.Address x) h = cc
none_is packet (cause.Missing x) h = cc
none_is packet (cause.EntryNumber x) h = cc
none_is packet (cause.Changed x) h = cc
none_is packet (cause.Clash x) h = cc
none_is packet (cause.Info x) h = cc
none_is packet (cause.Size x) h = cc
none_is packet cause.Reuse h = cc
none_is packet (cause.Full x) h = cc
none_is packet (cause.Outside x) h = cc
none_is packet (cause.Peer x) h = refl
none_is packet (cause.Http x) h = refl
