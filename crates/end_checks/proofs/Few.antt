-- A voucher that TO0.OwnerSign brings has at most 255 entries.
use Rattle.std.proofs.Common.{◌≡◌, refl, ℕ, List, Bool, true, false, Option, Some, None, Result, Ok, Err, subst}
use Rattle.std.proofs.lemmas.Bool.{leb-true}
use Rattle.std.specs.Prelude.{nat_le, ◌≤◌, length, if◌then◌else◌}
use Rattle.cbor_core.specs.declared.item.Item.{out-Item}
use Rattle.cbor_core.specs.Shapes.{two_spots, three_spots}
use Rattle.cbor_core.specs.Spots.{Spot, spot_item, spot_raw, bytes_in}
use Rattle.voucher_chain.specs.Fault.{◌>>=◌}
use Rattle.voucher_chain.specs.Header.{guid_in as sixteen_in}
use Rattle.voucher_chain.specs.Reading.{bounded}
use Rattle.voucher_chain.specs.Voucher.{voucher_seen, voucher_place}
use Rattle.voucher_chain.specs.declared.fault.ChainFault.TheVariants as fault
use Rattle.voucher_chain.specs.declared.voucher.Voucher.{Voucher}
use Rattle.cbor_core.specs.Whole.{seen_at}
use Rattle.voucher_chain.proofs.Seen.{some_is}
use Rattle.fdo_msgs.specs.Body.{IsBody, msg_seen}
use Rattle.fdo_msgs.specs.Kind as kind
use Rattle.fdo_msgs.specs.OwnerSign.{to0d, to0d_in, to0d_of, owner_sign_of, owner_sign_seen}
use Rattle.fdo_msgs.specs.To1d.{to1d_seen}
use Rattle.fdo_msgs.specs.Row.{inside}
use Rattle.fdo_msgs.specs.Value.{found_voucher, u32_in, voucher_in}
use Rattle.fdo_msgs.specs.declared.msg.Msg.{Msg}
use Rattle.fdo_msgs.specs.declared.msg.Msg.TheVariants as msg
use Rattle.end_checks.specs.Few.{HasFew}

abbrev FewSaid : Voucher × ℕ × List ℕ → Type 0
FewSaid said = length said.0.entries ≤ 255

-- of what a value gives, something holds
bind : {A B : Type 0} (P : B → Type 0) (o : Option A) (f : A → Option B) (m : B) → ((x : A) → o ≡ Some x → f x ≡ Some m → P m) → (o >>= f) ≡ Some m → P m
bind P (Some x) f m h e = h x refl e
bind P None f m h e = absurd (cc e)

here : {B : Type 0} (P : B → Type 0) (x m : B) → P x → Some x ≡ Some m → P m
here P x m p e = subst P (some_is x m e) p

bounded_few : (r : Result Voucher ℕ) (v : Voucher) → found_voucher (bounded r) ≡ Some v → length v.entries ≤ 255
bounded_few (Ok w) v e = go (nat_le (length w.entries) 255) refl e
  where
    go : (b : Bool) → nat_le (length w.entries) 255 ≡ b → found_voucher (if b then Ok w else Err fault.TooLong) ≡ Some v → length v.entries ≤ 255
    go true few e = here (λ (u : Voucher). length u.entries ≤ 255) w v (leb-true (length w.entries) 255 few) e
    go false few e = absurd (cc e)
bounded_few (Err place) v e = absurd (cc e)

parts_few : (p : Spot × Spot × Spot) (said : Voucher × ℕ × List ℕ) → to0d_of p ≡ Some said → FewSaid said
parts_few p said e =
    bind FewSaid (voucher_in (spot_raw p.0)) (λ voucher. u32_in (spot_item p.1) >>= λ wait. sixteen_in (spot_item p.2) >>= λ nonce. Some (voucher, wait, nonce)) said
    (λ voucher is e.
    bind FewSaid (u32_in (spot_item p.1)) (λ wait. sixteen_in (spot_item p.2) >>= λ nonce. Some (voucher, wait, nonce)) said
    (λ wait _ e.
    bind FewSaid (sixteen_in (spot_item p.2)) (λ nonce. Some (voucher, wait, nonce)) said
    (λ nonce _ e. here FewSaid (voucher, wait, nonce) said (bounded_few (seen_at voucher_seen voucher_place (spot_raw p.0)) voucher is) e) e) e) e

to0d_few : (bytes : List ℕ) (said : Voucher × ℕ × List ℕ) → to0d_in bytes ≡ Some said → FewSaid said
unfolding to0d_in
to0d_few bytes said e = bind FewSaid (inside bytes) to0d said (λ s _ e. bind FewSaid (three_spots s) to0d_of said (λ p _ e. parts_few p said e) e) e

pair_few : (p : Spot × Spot) (m : Msg) → owner_sign_of p ≡ Some m → HasFew m
pair_few p m e =
    bind HasFew (bytes_in (out-Item (spot_item p.0))) (λ to0d. to0d_in to0d >>= λ said. to1d_seen p.1 >>= λ to1d. Some (msg.OwnerSign to0d said.0 said.1 said.2 to1d)) m
    (λ to0d _ e.
    bind HasFew (to0d_in to0d) (λ said. to1d_seen p.1 >>= λ to1d. Some (msg.OwnerSign to0d said.0 said.1 said.2 to1d)) m
    (λ said is e.
    bind HasFew (to1d_seen p.1) (λ to1d. Some (msg.OwnerSign to0d said.0 said.1 said.2 to1d)) m
    (λ to1d _ e. here HasFew (msg.OwnerSign to0d said.0 said.1 said.2 to1d) m (to0d_few to0d said is) e) e) e) e

seen_few : (s : Spot) (m : Msg) → owner_sign_seen s ≡ Some m → HasFew m
unfolding owner_sign_seen
seen_few s m e = bind HasFew (two_spots s) owner_sign_of m (λ p _ e. pair_few p m e) e

pub few : (bytes : List ℕ) (m : Msg) → IsBody kind.owner_sign bytes m → HasFew m
unfolding msg_seen
few bytes m is = seen_few _ m is.shows
