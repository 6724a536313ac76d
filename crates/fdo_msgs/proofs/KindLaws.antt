-- A message that is read is of the type that was asked for.
use Rattle.std.proofs.Common.{◌≡◌, ℕ, List, Bool, true, false, cond, nat_eq, Option, Some, None, refl, sym, ap, subst, ◌∙◌}
use Rattle.std.proofs.lemmas.Bool.{eqb-true}
use Rattle.std.specs.Prelude.{option_map}
use Rattle.cbor_core.specs.declared.item.Item.{out-Item}
use Rattle.cbor_core.specs.Numbers.{integer_in}
use Rattle.cbor_core.specs.Shapes.{two_spots, three_spots, five_spots, six_spots}
use Rattle.cbor_core.specs.Spots.{Spot, spot_item, spot_raw, bytes_in, text_in}
use Rattle.cose_envelopes.specs.declared.sign1.Sign1.{Sign1}
use Rattle.cose_envelopes.specs.Envelope.{sign1_in}
use Rattle.key_codec.specs.Fault.{ok_of}
use Rattle.key_codec.specs.Hash.{hash_in}
use Rattle.key_codec.specs.SigInfo.{sig_info_in}
use Rattle.voucher_chain.specs.Entry.{entry_seen}
use Rattle.voucher_chain.specs.Fault.{◌>>=◌}
use Rattle.voucher_chain.specs.Header.{guid_in as sixteen_in, maybe_hash_in}
use Rattle.voucher_chain.specs.Voucher.{header_inside}
use Rattle.voucher_chain.proofs.Seen.{some_is, map_some, guard_some}
use Rattle.fdo_msgs.specs.declared.msg.Msg.{Msg}
use Rattle.fdo_msgs.specs.declared.msg.Msg.TheVariants as msg
use Rattle.fdo_msgs.specs.declared.signed.Signed.{Signed}
use Rattle.fdo_msgs.specs.declared.signed.Signed.TheVariants as signed
use Rattle.fdo_msgs.specs.Body.{signed_of, row_seen, signed_or_row, msg_seen}
use Rattle.fdo_msgs.specs.Claims.{proof_in, device_proof_in, owner_claims_in, device_claims_in}
use Rattle.fdo_msgs.specs.Di.{app_start, set_credentials, set_hmac, di_done}
use Rattle.fdo_msgs.specs.Info.{pairs_in, device_info, owner_info}
use Rattle.fdo_msgs.specs.Kind as kind
use Rattle.fdo_msgs.specs.Mfg.{mfg_in}
use Rattle.fdo_msgs.specs.OwnerSign.{to0d_in, owner_sign_of, owner_sign_seen}
use Rattle.fdo_msgs.specs.Payloads.{header_in, setup_in}
use Rattle.fdo_msgs.specs.Said.{kind_of}
use Rattle.fdo_msgs.specs.Signed.{shown, signed_msg, signed_seen}
use Rattle.fdo_msgs.specs.To0.{hello, hello_ack, accept_owner, hello_rv, hello_rv_ack}
use Rattle.fdo_msgs.specs.To1d.{to1d_of, to1d_seen}
use Rattle.fdo_msgs.specs.To2.{hello_device, get_ov_next_entry, ov_next_entry, device_ready, owner_ready, done, done2, error}
use Rattle.fdo_msgs.specs.Value.{u8_in, u16_in, u32_in, u64_in, flag_in, maybe_size_in, one_spot, has_length}

-- a message that is there
some_kind : (n : ℕ) (x m : Msg) → kind_of x ≡ n → Some x ≡ Some m → kind_of m ≡ n
some_kind n x m k e = subst (λ (y : Msg). kind_of y ≡ n) (some_is x m e) k

-- one that a value gives
bind_kind : {A : Type 0} (n : ℕ) (o : Option A) (f : A → Option Msg) (m : Msg) → ((x : A) → f x ≡ Some m → kind_of m ≡ n) → (o >>= f) ≡ Some m → kind_of m ≡ n
bind_kind n (Some x) f m h e = h x e
bind_kind n None f m h e = absurd (cc e)

-- ---- rows

app_start_kind : (s : Spot) (m : Msg) → app_start s ≡ Some m → kind_of m ≡ kind.app_start
app_start_kind s m e = bind_kind kind.app_start (one_spot s) (λ p. mfg_in (spot_item p) >>= λ a. Some (msg.AppStart a)) m (λ p e. bind_kind kind.app_start (mfg_in (spot_item p)) (λ a. Some (msg.AppStart a)) m (λ a e. some_kind kind.app_start (msg.AppStart a) m refl e) e) e

set_credentials_kind : (s : Spot) (m : Msg) → set_credentials s ≡ Some m → kind_of m ≡ kind.set_credentials
set_credentials_kind s m e = bind_kind kind.set_credentials (one_spot s) (λ p. header_inside (spot_item p) >>= λ a. Some (msg.SetCredentials a)) m (λ p e. bind_kind kind.set_credentials (header_inside (spot_item p)) (λ a. Some (msg.SetCredentials a)) m (λ a e. some_kind kind.set_credentials (msg.SetCredentials a) m refl e) e) e

set_hmac_kind : (s : Spot) (m : Msg) → set_hmac s ≡ Some m → kind_of m ≡ kind.set_hmac
set_hmac_kind s m e = bind_kind kind.set_hmac (one_spot s) (λ p. ok_of (hash_in (spot_item p)) >>= λ a. Some (msg.SetHmac a)) m (λ p e. bind_kind kind.set_hmac (ok_of (hash_in (spot_item p))) (λ a. Some (msg.SetHmac a)) m (λ a e. some_kind kind.set_hmac (msg.SetHmac a) m refl e) e) e

hello_ack_kind : (s : Spot) (m : Msg) → hello_ack s ≡ Some m → kind_of m ≡ kind.hello_ack
hello_ack_kind s m e = bind_kind kind.hello_ack (one_spot s) (λ p. sixteen_in (spot_item p) >>= λ a. Some (msg.HelloAck a)) m (λ p e. bind_kind kind.hello_ack (sixteen_in (spot_item p)) (λ a. Some (msg.HelloAck a)) m (λ a e. some_kind kind.hello_ack (msg.HelloAck a) m refl e) e) e

accept_owner_kind : (s : Spot) (m : Msg) → accept_owner s ≡ Some m → kind_of m ≡ kind.accept_owner
accept_owner_kind s m e = bind_kind kind.accept_owner (one_spot s) (λ p. u32_in (spot_item p) >>= λ a. Some (msg.AcceptOwner a)) m (λ p e. bind_kind kind.accept_owner (u32_in (spot_item p)) (λ a. Some (msg.AcceptOwner a)) m (λ a e. some_kind kind.accept_owner (msg.AcceptOwner a) m refl e) e) e

hello_rv_kind : (s : Spot) (m : Msg) → hello_rv s ≡ Some m → kind_of m ≡ kind.hello_rv
hello_rv_kind s m e = bind_kind kind.hello_rv (two_spots s) (λ p. sixteen_in (spot_item p.0) >>= λ a. ok_of (sig_info_in (spot_item p.1)) >>= λ b. Some (msg.HelloRv a b)) m (λ p e. bind_kind kind.hello_rv (sixteen_in (spot_item p.0)) (λ a. ok_of (sig_info_in (spot_item p.1)) >>= λ b. Some (msg.HelloRv a b)) m (λ a e. bind_kind kind.hello_rv (ok_of (sig_info_in (spot_item p.1))) (λ b. Some (msg.HelloRv a b)) m (λ b e. some_kind kind.hello_rv (msg.HelloRv a b) m refl e) e) e) e

hello_rv_ack_kind : (s : Spot) (m : Msg) → hello_rv_ack s ≡ Some m → kind_of m ≡ kind.hello_rv_ack
hello_rv_ack_kind s m e = bind_kind kind.hello_rv_ack (two_spots s) (λ p. sixteen_in (spot_item p.0) >>= λ a. ok_of (sig_info_in (spot_item p.1)) >>= λ b. Some (msg.HelloRvAck a b)) m (λ p e. bind_kind kind.hello_rv_ack (sixteen_in (spot_item p.0)) (λ a. ok_of (sig_info_in (spot_item p.1)) >>= λ b. Some (msg.HelloRvAck a b)) m (λ a e. bind_kind kind.hello_rv_ack (ok_of (sig_info_in (spot_item p.1))) (λ b. Some (msg.HelloRvAck a b)) m (λ b e. some_kind kind.hello_rv_ack (msg.HelloRvAck a b) m refl e) e) e) e

hello_device_kind : (s : Spot) (m : Msg) → hello_device s ≡ Some m → kind_of m ≡ kind.hello_device
hello_device_kind s m e = bind_kind kind.hello_device (six_spots s) (λ p. u16_in (spot_item p.0) >>= λ a. sixteen_in (spot_item p.1) >>= λ b. sixteen_in (spot_item p.2) >>= λ c. text_in (out-Item (spot_item p.3)) >>= λ d. integer_in (spot_item p.4) >>= λ f. ok_of (sig_info_in (spot_item p.5)) >>= λ g. Some (msg.HelloDevice a b c d f g)) m (λ p e. bind_kind kind.hello_device (u16_in (spot_item p.0)) (λ a. sixteen_in (spot_item p.1) >>= λ b. sixteen_in (spot_item p.2) >>= λ c. text_in (out-Item (spot_item p.3)) >>= λ d. integer_in (spot_item p.4) >>= λ f. ok_of (sig_info_in (spot_item p.5)) >>= λ g. Some (msg.HelloDevice a b c d f g)) m (λ a e. bind_kind kind.hello_device (sixteen_in (spot_item p.1)) (λ b. sixteen_in (spot_item p.2) >>= λ c. text_in (out-Item (spot_item p.3)) >>= λ d. integer_in (spot_item p.4) >>= λ f. ok_of (sig_info_in (spot_item p.5)) >>= λ g. Some (msg.HelloDevice a b c d f g)) m (λ b e. bind_kind kind.hello_device (sixteen_in (spot_item p.2)) (λ c. text_in (out-Item (spot_item p.3)) >>= λ d. integer_in (spot_item p.4) >>= λ f. ok_of (sig_info_in (spot_item p.5)) >>= λ g. Some (msg.HelloDevice a b c d f g)) m (λ c e. bind_kind kind.hello_device (text_in (out-Item (spot_item p.3))) (λ d. integer_in (spot_item p.4) >>= λ f. ok_of (sig_info_in (spot_item p.5)) >>= λ g. Some (msg.HelloDevice a b c d f g)) m (λ d e. bind_kind kind.hello_device (integer_in (spot_item p.4)) (λ f. ok_of (sig_info_in (spot_item p.5)) >>= λ g. Some (msg.HelloDevice a b c d f g)) m (λ f e. bind_kind kind.hello_device (ok_of (sig_info_in (spot_item p.5))) (λ g. Some (msg.HelloDevice a b c d f g)) m (λ g e. some_kind kind.hello_device (msg.HelloDevice a b c d f g) m refl e) e) e) e) e) e) e) e

get_ov_next_entry_kind : (s : Spot) (m : Msg) → get_ov_next_entry s ≡ Some m → kind_of m ≡ kind.get_ov_next_entry
get_ov_next_entry_kind s m e = bind_kind kind.get_ov_next_entry (one_spot s) (λ p. u8_in (spot_item p) >>= λ a. Some (msg.GetOvNextEntry a)) m (λ p e. bind_kind kind.get_ov_next_entry (u8_in (spot_item p)) (λ a. Some (msg.GetOvNextEntry a)) m (λ a e. some_kind kind.get_ov_next_entry (msg.GetOvNextEntry a) m refl e) e) e

ov_next_entry_kind : (s : Spot) (m : Msg) → ov_next_entry s ≡ Some m → kind_of m ≡ kind.ov_next_entry
ov_next_entry_kind s m e = bind_kind kind.ov_next_entry (two_spots s) (λ p. u8_in (spot_item p.0) >>= λ a. entry_seen p.1 >>= λ b. Some (msg.OvNextEntry a b)) m (λ p e. bind_kind kind.ov_next_entry (u8_in (spot_item p.0)) (λ a. entry_seen p.1 >>= λ b. Some (msg.OvNextEntry a b)) m (λ a e. bind_kind kind.ov_next_entry (entry_seen p.1) (λ b. Some (msg.OvNextEntry a b)) m (λ b e. some_kind kind.ov_next_entry (msg.OvNextEntry a b) m refl e) e) e) e

device_ready_kind : (s : Spot) (m : Msg) → device_ready s ≡ Some m → kind_of m ≡ kind.device_ready
device_ready_kind s m e = bind_kind kind.device_ready (two_spots s) (λ p. maybe_hash_in (spot_item p.0) >>= λ a. maybe_size_in (spot_item p.1) >>= λ b. Some (msg.DeviceReady a b)) m (λ p e. bind_kind kind.device_ready (maybe_hash_in (spot_item p.0)) (λ a. maybe_size_in (spot_item p.1) >>= λ b. Some (msg.DeviceReady a b)) m (λ a e. bind_kind kind.device_ready (maybe_size_in (spot_item p.1)) (λ b. Some (msg.DeviceReady a b)) m (λ b e. some_kind kind.device_ready (msg.DeviceReady a b) m refl e) e) e) e

owner_ready_kind : (s : Spot) (m : Msg) → owner_ready s ≡ Some m → kind_of m ≡ kind.owner_ready
owner_ready_kind s m e = bind_kind kind.owner_ready (one_spot s) (λ p. maybe_size_in (spot_item p) >>= λ a. Some (msg.OwnerReady a)) m (λ p e. bind_kind kind.owner_ready (maybe_size_in (spot_item p)) (λ a. Some (msg.OwnerReady a)) m (λ a e. some_kind kind.owner_ready (msg.OwnerReady a) m refl e) e) e

device_info_kind : (s : Spot) (m : Msg) → device_info s ≡ Some m → kind_of m ≡ kind.device_info
device_info_kind s m e = bind_kind kind.device_info (two_spots s) (λ p. flag_in (out-Item (spot_item p.0)) >>= λ a. pairs_in (spot_item p.1) >>= λ b. Some (msg.DeviceInfo a b)) m (λ p e. bind_kind kind.device_info (flag_in (out-Item (spot_item p.0))) (λ a. pairs_in (spot_item p.1) >>= λ b. Some (msg.DeviceInfo a b)) m (λ a e. bind_kind kind.device_info (pairs_in (spot_item p.1)) (λ b. Some (msg.DeviceInfo a b)) m (λ b e. some_kind kind.device_info (msg.DeviceInfo a b) m refl e) e) e) e

owner_info_kind : (s : Spot) (m : Msg) → owner_info s ≡ Some m → kind_of m ≡ kind.owner_info
owner_info_kind s m e = bind_kind kind.owner_info (three_spots s) (λ p. flag_in (out-Item (spot_item p.0)) >>= λ a. flag_in (out-Item (spot_item p.1)) >>= λ b. pairs_in (spot_item p.2) >>= λ c. Some (msg.OwnerInfo a b c)) m (λ p e. bind_kind kind.owner_info (flag_in (out-Item (spot_item p.0))) (λ a. flag_in (out-Item (spot_item p.1)) >>= λ b. pairs_in (spot_item p.2) >>= λ c. Some (msg.OwnerInfo a b c)) m (λ a e. bind_kind kind.owner_info (flag_in (out-Item (spot_item p.1))) (λ b. pairs_in (spot_item p.2) >>= λ c. Some (msg.OwnerInfo a b c)) m (λ b e. bind_kind kind.owner_info (pairs_in (spot_item p.2)) (λ c. Some (msg.OwnerInfo a b c)) m (λ c e. some_kind kind.owner_info (msg.OwnerInfo a b c) m refl e) e) e) e) e

done_kind : (s : Spot) (m : Msg) → done s ≡ Some m → kind_of m ≡ kind.done
done_kind s m e = bind_kind kind.done (one_spot s) (λ p. sixteen_in (spot_item p) >>= λ a. Some (msg.Done a)) m (λ p e. bind_kind kind.done (sixteen_in (spot_item p)) (λ a. Some (msg.Done a)) m (λ a e. some_kind kind.done (msg.Done a) m refl e) e) e

done2_kind : (s : Spot) (m : Msg) → done2 s ≡ Some m → kind_of m ≡ kind.done2
done2_kind s m e = bind_kind kind.done2 (one_spot s) (λ p. sixteen_in (spot_item p) >>= λ a. Some (msg.Done2 a)) m (λ p e. bind_kind kind.done2 (sixteen_in (spot_item p)) (λ a. Some (msg.Done2 a)) m (λ a e. some_kind kind.done2 (msg.Done2 a) m refl e) e) e

error_kind : (s : Spot) (m : Msg) → error s ≡ Some m → kind_of m ≡ kind.error
error_kind s m e = bind_kind kind.error (five_spots s) (λ p. u16_in (spot_item p.0) >>= λ a. u64_in (spot_item p.1) >>= λ b. text_in (out-Item (spot_item p.2)) >>= λ c. Some (msg.Error a b c (spot_item p.3) (spot_item p.4))) m (λ p e. bind_kind kind.error (u16_in (spot_item p.0)) (λ a. u64_in (spot_item p.1) >>= λ b. text_in (out-Item (spot_item p.2)) >>= λ c. Some (msg.Error a b c (spot_item p.3) (spot_item p.4))) m (λ a e. bind_kind kind.error (u64_in (spot_item p.1)) (λ b. text_in (out-Item (spot_item p.2)) >>= λ c. Some (msg.Error a b c (spot_item p.3) (spot_item p.4))) m (λ b e. bind_kind kind.error (text_in (out-Item (spot_item p.2))) (λ c. Some (msg.Error a b c (spot_item p.3) (spot_item p.4))) m (λ c e. some_kind kind.error (msg.Error a b c (spot_item p.3) (spot_item p.4)) m refl e) e) e) e) e

di_done_kind : (s : Spot) (m : Msg) → di_done s ≡ Some m → kind_of m ≡ kind.di_done
di_done_kind s m e = some_kind kind.di_done msg.DiDone m refl (guard_some (has_length 0 (out-Item (spot_item s))) (Some msg.DiDone) m e).1

hello_kind : (s : Spot) (m : Msg) → hello s ≡ Some m → kind_of m ≡ kind.hello
hello_kind s m e = some_kind kind.hello msg.Hello m refl (guard_some (has_length 0 (out-Item (spot_item s))) (Some msg.Hello) m e).1

at_kind : (n k : ℕ) (m : Msg) (here rest : Option Msg) → (here ≡ Some m → kind_of m ≡ n) → (rest ≡ Some m → kind_of m ≡ k) → cond (nat_eq k n) here rest ≡ Some m → kind_of m ≡ k
at_kind n k m here rest one more e = go (nat_eq k n) refl e
  where
    go : (b : Bool) → nat_eq k n ≡ b → cond b here rest ≡ Some m → kind_of m ≡ k
    go true same e = one e ∙ sym (eqb-true k n same)
    go false other e = more e

row_kind : (k : ℕ) (s : Spot) (m : Msg) → row_seen k s ≡ Some m → kind_of m ≡ k
unfolding row_seen
row_kind k s m e = at_kind kind.app_start k m (app_start s) _ (app_start_kind s m) (at_kind kind.set_credentials k m (set_credentials s) _ (set_credentials_kind s m) (at_kind kind.set_hmac k m (set_hmac s) _ (set_hmac_kind s m) (at_kind kind.di_done k m (di_done s) _ (di_done_kind s m) (at_kind kind.hello k m (hello s) _ (hello_kind s m) (at_kind kind.hello_ack k m (hello_ack s) _ (hello_ack_kind s m) (at_kind kind.accept_owner k m (accept_owner s) _ (accept_owner_kind s m) (at_kind kind.hello_rv k m (hello_rv s) _ (hello_rv_kind s m) (at_kind kind.hello_rv_ack k m (hello_rv_ack s) _ (hello_rv_ack_kind s m) (at_kind kind.hello_device k m (hello_device s) _ (hello_device_kind s m) (at_kind kind.get_ov_next_entry k m (get_ov_next_entry s) _ (get_ov_next_entry_kind s m) (at_kind kind.ov_next_entry k m (ov_next_entry s) _ (ov_next_entry_kind s m) (at_kind kind.device_ready k m (device_ready s) _ (device_ready_kind s m) (at_kind kind.owner_ready k m (owner_ready s) _ (owner_ready_kind s m) (at_kind kind.device_info k m (device_info s) _ (device_info_kind s m) (at_kind kind.owner_info k m (owner_info s) _ (owner_info_kind s m) (at_kind kind.done k m (done s) _ (done_kind s m) (at_kind kind.done2 k m (done2 s) _ (done2_kind s m) (at_kind kind.error k m (error s) _ (error_kind s m) (λ (e : None ≡ Some m). absurd (cc e)))))))))))))))))))) e

-- ---- signed bodies

abbrev kind_of_signed : Signed → ℕ
kind_of_signed signed.ProveToRv = kind.prove_to_rv
kind_of_signed signed.RvRedirect = kind.rv_redirect
kind_of_signed signed.ProveOvHdr = kind.prove_ov_hdr
kind_of_signed signed.ProveDevice = kind.prove_device
kind_of_signed signed.SetupDevice = kind.setup_device

signed_kind : (which : Signed) (raw : List ℕ) (sign : Sign1) (m : Msg) → signed_msg which raw sign ≡ Some m → kind_of m ≡ kind_of_signed which
signed_kind signed.ProveToRv raw sign m e = bind_kind kind.prove_to_rv (proof_in sign.payload) (λ a. Some (msg.ProveToRv a.0 a.1 sign)) m (λ a e. some_kind kind.prove_to_rv (msg.ProveToRv a.0 a.1 sign) m refl e) e
signed_kind signed.ProveOvHdr raw sign m e = bind_kind kind.prove_ov_hdr (owner_claims_in sign.unprotected) (λ a. header_in sign.payload >>= λ b. Some (shown sign a b)) m (λ a e. bind_kind kind.prove_ov_hdr (header_in sign.payload) (λ b. Some (shown sign a b)) m (λ b e. some_kind kind.prove_ov_hdr (shown sign a b) m refl e) e) e
signed_kind signed.ProveDevice raw sign m e = bind_kind kind.prove_device (device_claims_in sign.unprotected) (λ a. device_proof_in sign.payload >>= λ b. Some (msg.ProveDevice b.0 b.1 b.2 a sign)) m (λ a e. bind_kind kind.prove_device (device_proof_in sign.payload) (λ b. Some (msg.ProveDevice b.0 b.1 b.2 a sign)) m (λ b e. some_kind kind.prove_device (msg.ProveDevice b.0 b.1 b.2 a sign) m refl e) e) e
signed_kind signed.SetupDevice raw sign m e = bind_kind kind.setup_device (setup_in sign.payload) (λ a. Some (msg.SetupDevice a.rv a.guid a.nonce a.key sign)) m (λ a e. some_kind kind.setup_device (msg.SetupDevice a.rv a.guid a.nonce a.key sign) m refl e) e
signed_kind signed.RvRedirect raw sign m e = let p = map_some msg.RvRedirect (to1d_of raw sign) m e in subst (λ (y : Msg). kind_of y ≡ kind.rv_redirect) p.2 refl

seen_kind : (which : Signed) (s : Spot) (m : Msg) → signed_seen which s ≡ Some m → kind_of m ≡ kind_of_signed which
seen_kind which s m e = bind_kind (kind_of_signed which) (sign1_in (spot_item s)) (signed_msg which (spot_raw s)) m (λ sign e. signed_kind which (spot_raw s) sign m e) e

-- the type of a signed body is the one that it was found by
found_kind : (k n : ℕ) (here which : Signed) (rest : Option Signed) → kind_of_signed here ≡ n → (rest ≡ Some which → kind_of_signed which ≡ k) → cond (nat_eq k n) (Some here) rest ≡ Some which → kind_of_signed which ≡ k
found_kind k n here which rest is more e = go (nat_eq k n) refl e
  where
    go : (b : Bool) → nat_eq k n ≡ b → cond b (Some here) rest ≡ Some which → kind_of_signed which ≡ k
    go true same e = ap kind_of_signed (sym (some_is here which e)) ∙ is ∙ sym (eqb-true k n same)
    go false other e = more e

signed_is : (k : ℕ) (which : Signed) → signed_of k ≡ Some which → kind_of_signed which ≡ k
unfolding signed_of
signed_is k which e = found_kind k kind.prove_to_rv signed.ProveToRv which _ refl (found_kind k kind.rv_redirect signed.RvRedirect which _ refl (found_kind k kind.prove_ov_hdr signed.ProveOvHdr which _ refl (found_kind k kind.prove_device signed.ProveDevice which _ refl (found_kind k kind.setup_device signed.SetupDevice which _ refl (λ (e : None ≡ Some which). absurd (cc e)))))) e

-- ---- all

owner_kind : (s : Spot) (m : Msg) → owner_sign_seen s ≡ Some m → kind_of m ≡ kind.owner_sign
unfolding owner_sign_seen
owner_kind s m e = bind_kind kind.owner_sign (two_spots s) (λ p. bytes_in (out-Item (spot_item p.0)) >>= λ a. to0d_in a >>= λ b. to1d_seen p.1 >>= λ c. Some (msg.OwnerSign a b.0 b.1 b.2 c)) m (λ p e. bind_kind kind.owner_sign (bytes_in (out-Item (spot_item p.0))) (λ a. to0d_in a >>= λ b. to1d_seen p.1 >>= λ c. Some (msg.OwnerSign a b.0 b.1 b.2 c)) m (λ a e. bind_kind kind.owner_sign (to0d_in a) (λ b. to1d_seen p.1 >>= λ c. Some (msg.OwnerSign a b.0 b.1 b.2 c)) m (λ b e. bind_kind kind.owner_sign (to1d_seen p.1) (λ c. Some (msg.OwnerSign a b.0 b.1 b.2 c)) m (λ c e. some_kind kind.owner_sign (msg.OwnerSign a b.0 b.1 b.2 c) m refl e) e) e) e) e

other_kind : (k : ℕ) (s : Spot) (m : Msg) (o : Option Signed) → signed_of k ≡ o → signed_or_row k s o ≡ Some m → kind_of m ≡ k
other_kind k s m (Some which) is e = seen_kind which s m e ∙ signed_is k which is
other_kind k s m None is e = row_kind k s m e

pub msg_kind : (k : ℕ) (s : Spot) (m : Msg) → msg_seen k s ≡ Some m → kind_of m ≡ k
unfolding msg_seen
msg_kind k s m e = at_kind kind.owner_sign k m (owner_sign_seen s) (signed_or_row k s (signed_of k)) (owner_kind s m) (other_kind k s m (signed_of k) refl) e
