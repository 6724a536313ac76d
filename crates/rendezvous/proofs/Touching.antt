-- A session that is used and ends is as one that ends.
use Rattle.std.proofs.Common.{◌≡◌, refl, inl, inr, sym, ap, subst, ◌∙◌, ℕ, List, [], ◌∷◌, Bool, true, false, cond, Option, Some, None}
use Rattle.std.specs.Prelude.{◌⊎◌}
use Rattle.std.specs.Map.{lookup_entry, remove_entry}
use Rattle.std.specs.Option.{option_map_or}
use Rattle.lru.specs.LruCache.{promoted}
use Rattle.voucher_chain.proofs.Seen.{some_is}
use Rattle.sessions.specs.Table.{is_token, used, without}
use Rattle.fdo_msgs.specs.declared.packet.Packet.{Packet}
use Rattle.fdo_rules.specs.declared.rendezvous.Protocol.{Protocol}
use Rattle.fdo_rules.specs.declared.rendezvous.Protocol.TheVariants as protocol
use Rattle.fdo_rules.specs.Rendezvous.{RvView, ended_in, protocol_named, touched_in, with_touched, without_named}
use Rattle.rendezvous.specs.Carrying.{Left}
use Rattle.rendezvous.specs.RvState.{Spared, own_of, placed}

module _ {K T : Type 0} (test : K → Bool) where
  passes : (es : List (K × T)) (e : K × T) → lookup_entry test es ≡ Some e → test e.0 ≡ true
  passes [] e is = absurd (cc is)
  passes (x ∷ es) e is = go (test x.0) refl is (passes es e) where
    go : (b : Bool) → test x.0 ≡ b → cond b (Some x) (lookup_entry test es) ≡ Some e → (lookup_entry test es ≡ Some e → test e.0 ≡ true) → test e.0 ≡ true
    go true at is later = subst (λ (y : K × T). test y.0 ≡ true) (some_is x e is) at
    go false at is later = later is

  removed : (es : List (K × T)) → remove_entry test (promoted test es) ≡ remove_entry test es
  removed es = go (lookup_entry test es) (passes es) where
    go : (o : Option (K × T)) → ((e : K × T) → o ≡ Some e → test e.0 ≡ true) → remove_entry test (option_map_or (λ e. e ∷ remove_entry test es) o es) ≡ remove_entry test es
    go None h = refl
    go (Some e) h = ap (λ b. cond b (remove_entry test es) (e ∷ remove_entry test (remove_entry test es))) (h e refl)

touched_ended : (place : Protocol) (s : RvView) (token : Option (List ℕ)) → ended_in place (touched_in place s token) token ≡ ended_in place s token
touched_ended protocol.To0 s None = refl
touched_ended protocol.To0 s (Some token) = ap (λ to0. record { entries = s.entries; to0 = to0; to1 = s.to1 }) (removed (is_token token) s.to0)
touched_ended protocol.To1 s None = refl
touched_ended protocol.To1 s (Some token) = ap (λ to1. record { entries = s.entries; to0 = s.to0; to1 = to1 }) (removed (is_token token) s.to1)

named_placed : (own : Protocol) (s : RvView) (now : ℕ) (guid : List ℕ) (token : Option (List ℕ)) → protocol_named own s token ≡ protocol_named own (placed now guid s) token
named_placed protocol.To0 s now guid token = refl
named_placed protocol.To1 s now guid token = refl

abbrev SparedAs : Protocol → RvView → Packet → RvView → Type 0
SparedAs own s packet t = (t ≡ without_named own s packet.token) ⊎ ((now : ℕ) × (guid : List ℕ) × (t ≡ without_named own (placed now guid s) packet.token))

spared_as : (own : Protocol) (s : RvView) (packet : Packet) (t : RvView) → Left own s packet t → SparedAs own s packet (ended_in (protocol_named own s packet.token) t packet.token)
spared_as own s packet t (inl is) = inl (ap (λ (u : RvView). ended_in (protocol_named own s packet.token) u packet.token) is)
spared_as own s packet t (inr (inl is)) =
    inl (ap (λ (u : RvView). ended_in (protocol_named own s packet.token) u packet.token) is ∙ touched_ended (protocol_named own s packet.token) s packet.token)
spared_as own s packet t (inr (inr (now, guid, is))) =
    inr (now, guid, ap (λ (u : RvView). ended_in (protocol_named own s packet.token) u packet.token) is ∙ ap (λ (p : Protocol). ended_in p (placed now guid s) packet.token) (named_placed own s now guid packet.token))

-- what is left after memory ran out, once the session that was named has ended
pub spared : (s : RvView) (packet : Packet) (t : RvView) → Left (own_of packet.kind) s packet t → Spared s packet (ended_in (protocol_named (own_of packet.kind) s packet.token) t packet.token)
spared s packet t left = spared_as (own_of packet.kind) s packet t left
