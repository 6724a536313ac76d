-- Which causes have an error message.
use Rattle.std.proofs.Common.{◌≡◌, ℕ, Option, Some, None, refl, sym, ap, ◌∙◌}
use Rattle.std.specs.Option.{option_map}
use Rattle.fdo_msgs.specs.Cause.{code_of}
use Rattle.fdo_msgs.specs.Refusal.{error_of}
use Rattle.fdo_msgs.specs.declared.cause.Cause.{Cause}
use Rattle.fdo_msgs.specs.declared.cause.Cause.TheVariants as cause
use Rattle.fdo_msgs.specs.declared.packet.Packet.{Packet}
use Rattle.fdo_rules.specs.Moves.{reply_to}
use Rattle.di_device.specs.Steps.{IsAnswered}

-- the reply by the cause's code
abbrev by_code : Packet → Cause → Option ℕ → Option Packet
by_code packet e told = option_map (λ code. error_of e packet.kind packet.token) told

by_codes : (packet : Packet) (e : Cause) → IsAnswered e → reply_to packet e ≡ by_code packet e (code_of e packet.kind)
by_codes packet cause.Token h = refl
by_codes packet (cause.Turn _) h = refl
by_codes packet (cause.Body _) h = refl
by_codes packet (cause.NoAlgorithm _) h = refl
by_codes packet cause.NotVerified h = refl
by_codes packet cause.NotOpened h = refl
by_codes packet cause.SeenIv h = refl
by_codes packet cause.Nonce h = refl
by_codes packet cause.HashDiffers h = refl
by_codes packet cause.GuidDiffers h = refl
by_codes packet (cause.Chain _) h = refl
by_codes packet cause.OwnerKey h = refl
by_codes packet (cause.Address _) h = refl
by_codes packet (cause.Missing _) h = refl
by_codes packet (cause.EntryNumber _) h = refl
by_codes packet (cause.Changed _) h = refl
by_codes packet (cause.Clash _) h = refl
by_codes packet (cause.Info _) h = refl
by_codes packet (cause.Size _) h = refl
by_codes packet cause.Reuse h = refl
by_codes packet (cause.Full _) h = refl
by_codes packet (cause.Outside _) h = refl
by_codes packet (cause.Peer _) h = refl
by_codes packet (cause.Http _) h = absurd h

pub replied : (packet : Packet) (e : Cause) (code : ℕ) → IsAnswered e → Some code ≡ code_of e packet.kind → Some (error_of e packet.kind packet.token) ≡ reply_to packet e
replied packet e code h told = ap (by_code packet e) told ∙ sym (by_codes packet e h)

pub unreplied : (packet : Packet) (e : Cause) → IsAnswered e → None ≡ code_of e packet.kind → None ≡ reply_to packet e
unreplied packet e h told = ap (by_code packet e) told ∙ sym (by_codes packet e h)
