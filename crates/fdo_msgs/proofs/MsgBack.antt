-- A body that is written is read as its message.
use Rattle.std.proofs.Common.{◌≡◌, ℕ, ◌^◌, ◌<◌, List, [], ◌∷◌, ◌++◌, length, true, Option, Some, None, Result, Ok, Err, IfOk, refl, sym, ap, subst, ◌∙◌, arith, lit<}
use Rattle.cbor_core.specs.declared.item.Item.{Item, out-Item}
use Rattle.cbor_core.specs.declared.item.Item.TheVariants as items
use Rattle.cbor_core.specs.declared.no_memory.NoMemory.{NoMemory}
use Rattle.cbor_core.specs.Deterministic.{det}
use Rattle.cbor_core.specs.Norm.{norm}
use Rattle.cbor_core.specs.Numbers.{item_of_integer}
use Rattle.cbor_core.specs.Spelling.{Spells, SpellsWithin}
use Rattle.cbor_core.specs.Spots.{Spot, start, spot_item, spot_raw}
use Rattle.cbor_core.proofs.NormLaws.{fit_integer}
use Rattle.cose_envelopes.specs.declared.sign1.Sign1.{Sign1}
use Rattle.cose_envelopes.specs.Envelope.{sign1_in, item_of_sign1, norm_sign1, IsSign1}
use Rattle.cose_envelopes.proofs.WriteLaws.{written_sign1}
use Rattle.key_codec.specs.Hash.{item_of_hash}
use Rattle.key_codec.specs.SigInfo.{item_of_sig_info}
use Rattle.voucher_chain.specs.Entry.{entry_seen}
use Rattle.voucher_chain.specs.Fault.{◌>>=◌}
use Rattle.voucher_chain.specs.Header.{item_of_maybe_hash}
use Rattle.voucher_chain.specs.Reading.{IsInMemory}
use Rattle.voucher_chain.proofs.Seen.{bind_some, start_is}
use Rattle.voucher_chain.proofs.Places.{Texts, array_text, AreSpelled}
use Rattle.fdo_msgs.specs.declared.msg.Msg.{Msg}
use Rattle.fdo_msgs.specs.declared.msg.Msg.TheVariants as msg
use Rattle.fdo_msgs.specs.declared.signed.Signed.{Signed}
use Rattle.fdo_msgs.specs.declared.signed.Signed.TheVariants as signed
use Rattle.fdo_msgs.specs.declared.to1d.To1d.{To1d}
use Rattle.fdo_msgs.specs.Body.{signed_of, row_seen, msg_seen, IsBody}
use Rattle.fdo_msgs.specs.Fit.{IsMsg, IsSigned, IsTo1d, norm_msg}
use Rattle.fdo_msgs.specs.Info.{item_of_pairs}
use Rattle.fdo_msgs.specs.Mfg.{item_of_mfg}
use Rattle.fdo_msgs.specs.OwnerSign.{owner_sign_seen}
use Rattle.fdo_msgs.specs.Said.{kind_of, body_of}
use Rattle.fdo_msgs.specs.Signed.{signed_msg, signed_seen}
use Rattle.fdo_msgs.specs.To1d.{to1d_of, to1d_by, to1d_seen}
use Rattle.fdo_msgs.specs.Value.{item_of_flag, item_of_maybe_size}
use Rattle.fdo_msgs.proofs.RowBack.{det_inside, RowStands, row_stands, one_stand, two_stand, three_stand, five_stand, six_stand}
use Rattle.fdo_msgs.proofs.ValueBack.{u8_said, u16_said, u32_said, u64_said, integer_said, flag_said, text_said, bytes_said, sixteen_said, sig_said, hash_said, maybe_hash_said, maybe_size_said, mfg_said, header_said, pairs_said, fit_number, fit_string, fit_sig, fit_hash, fit_maybe_hash, fit_maybe_size, fit_flag}

short : (b : List ℕ) → length b ≡ 16 → length b < 2 ^ 64
short b h = omega (arith, h)

-- ---- signed bodies

sign_back : (which : Signed) (sign : Sign1) (m : Msg) → IsSigned sign → ((raw : List ℕ) → signed_msg which raw sign ≡ Some m) → (kind : ℕ) → ((s : Spot) → msg_seen kind s ≡ signed_seen which s) → IsBody kind (det (item_of_sign1 sign)) m
sign_back which sign m h says kind seen =
    let body = det (item_of_sign1 sign) in
    let written : IsSign1 body (norm_sign1 sign) = written_sign1 sign (Ok body) refl h.whole in
    let is = start_is body written.item written.spelled in
    record {
      item = written.item;
      spelled = written.spelled;
      shows = seen (start body) ∙ ap (λ (x : Item). sign1_in x >>= signed_msg which (spot_raw (start body))) is.item
          ∙ ap (λ (o : Option Sign1). o >>= signed_msg which (spot_raw (start body))) (written.says ∙ ap Some h.ordered) ∙ says (spot_raw (start body));
    }

to1d_says : (x : Item) (raw : List ℕ) (t : To1d) → to1d_by x raw ≡ Some t → (sign1_in x >>= signed_msg signed.RvRedirect raw) ≡ Some (msg.RvRedirect t)
to1d_says x raw t e =
    let p = bind_some (sign1_in x) (to1d_of raw) t e in
    rw (p.1, p.2) refl

redirect_back : (t : To1d) → IsTo1d 16 t → IsBody 33 t.raw (msg.RvRedirect t)
unfolding msg_seen signed_of
redirect_back t h =
    let is = start_is t.raw h.item h.spelled in
    record {
      item = h.item;
      spelled = h.spelled;
      shows = ap (λ (x : Item). sign1_in x >>= signed_msg signed.RvRedirect (spot_raw (start t.raw))) is.item
          ∙ ap (λ (raw : List ℕ). sign1_in h.item >>= signed_msg signed.RvRedirect raw) is.raw ∙ to1d_says h.item t.raw t h.says;
    }

-- ---- all

pub msg_back : (m : Msg) → IsMsg m → IsInMemory (body_of m) → IsBody (kind_of m) (body_of m) (norm_msg m)
unfolding msg_seen signed_of row_seen owner_sign_seen to1d_seen entry_seen
msg_back (msg.AppStart info) h memory =
    let r = row_stands ((norm (item_of_mfg info), det (item_of_mfg info)) ∷ []) (lit< tt) (det_inside (item_of_mfg info) (h.1), tt) memory in
    let p = one_stand (norm (item_of_mfg info), det (item_of_mfg info)) r in
    record { item = _; spelled = r.spelled; shows = rw (p.is, p.a_item, mfg_said info h.0) refl }
msg_back (msg.SetCredentials header) h memory =
    let r = row_stands ((norm (items.Bytes header.raw), det (items.Bytes header.raw)) ∷ []) (lit< tt) (det_inside (items.Bytes header.raw) (fit_string header.raw h.1), tt) memory in
    let p = one_stand (norm (items.Bytes header.raw), det (items.Bytes header.raw)) r in
    record { item = _; spelled = r.spelled; shows = rw (p.is, p.a_item, header_said header h.0) refl }
msg_back (msg.SetHmac hmac) h memory =
    let r = row_stands ((norm (item_of_hash hmac), det (item_of_hash hmac)) ∷ []) (lit< tt) (det_inside (item_of_hash hmac) (fit_hash hmac h), tt) memory in
    let p = one_stand (norm (item_of_hash hmac), det (item_of_hash hmac)) r in
    record { item = _; spelled = r.spelled; shows = rw (p.is, p.a_item, hash_said hmac h) refl }
msg_back (msg.HelloAck nonce) h memory =
    let r = row_stands ((norm (items.Bytes nonce), det (items.Bytes nonce)) ∷ []) (lit< tt) (det_inside (items.Bytes nonce) (fit_string nonce (short nonce h)), tt) memory in
    let p = one_stand (norm (items.Bytes nonce), det (items.Bytes nonce)) r in
    record { item = _; spelled = r.spelled; shows = rw (p.is, p.a_item, sixteen_said nonce h) refl }
msg_back (msg.AcceptOwner n) h memory =
    let r = row_stands ((norm (items.Uint n), det (items.Uint n)) ∷ []) (lit< tt) (det_inside (items.Uint n) (fit_number n (omega (arith, h))), tt) memory in
    let p = one_stand (norm (items.Uint n), det (items.Uint n)) r in
    record { item = _; spelled = r.spelled; shows = rw (p.is, p.a_item, u32_said n h) refl }
msg_back (msg.HelloRv guid sig) h memory =
    let r = row_stands ((norm (items.Bytes guid), det (items.Bytes guid)) ∷ (norm (item_of_sig_info sig), det (item_of_sig_info sig)) ∷ []) (lit< tt) (det_inside (items.Bytes guid) (fit_string guid (short guid h.0)), (det_inside (item_of_sig_info sig) (fit_sig sig h.1), tt)) memory in
    let p = two_stand (norm (items.Bytes guid), det (items.Bytes guid)) (norm (item_of_sig_info sig), det (item_of_sig_info sig)) r in
    record { item = _; spelled = r.spelled; shows = rw (p.is, p.a_item, p.b_item, sixteen_said guid h.0, sig_said sig h.1) refl }
msg_back (msg.HelloRvAck nonce sig) h memory =
    let r = row_stands ((norm (items.Bytes nonce), det (items.Bytes nonce)) ∷ (norm (item_of_sig_info sig), det (item_of_sig_info sig)) ∷ []) (lit< tt) (det_inside (items.Bytes nonce) (fit_string nonce (short nonce h.0)), (det_inside (item_of_sig_info sig) (fit_sig sig h.1), tt)) memory in
    let p = two_stand (norm (items.Bytes nonce), det (items.Bytes nonce)) (norm (item_of_sig_info sig), det (item_of_sig_info sig)) r in
    record { item = _; spelled = r.spelled; shows = rw (p.is, p.a_item, p.b_item, sixteen_said nonce h.0, sig_said sig h.1) refl }
msg_back (msg.HelloDevice size guid nonce kex cipher sig) h memory =
    let r = row_stands ((norm (items.Uint size), det (items.Uint size)) ∷ (norm (items.Bytes guid), det (items.Bytes guid)) ∷ (norm (items.Bytes nonce), det (items.Bytes nonce)) ∷ (norm (items.Text kex), det (items.Text kex)) ∷ (norm (item_of_integer cipher), det (item_of_integer cipher)) ∷ (norm (item_of_sig_info sig), det (item_of_sig_info sig)) ∷ []) (lit< tt) (det_inside (items.Uint size) (fit_number size (omega (arith, h.0))), (det_inside (items.Bytes guid) (fit_string guid (short guid h.1)), (det_inside (items.Bytes nonce) (fit_string nonce (short nonce h.2)), (det_inside (items.Text kex) (h.3), (det_inside (item_of_integer cipher) (fit_integer 14 cipher h.4), (det_inside (item_of_sig_info sig) (fit_sig sig h.5), tt)))))) memory in
    let p = six_stand (norm (items.Uint size), det (items.Uint size)) (norm (items.Bytes guid), det (items.Bytes guid)) (norm (items.Bytes nonce), det (items.Bytes nonce)) (norm (items.Text kex), det (items.Text kex)) (norm (item_of_integer cipher), det (item_of_integer cipher)) (norm (item_of_sig_info sig), det (item_of_sig_info sig)) r in
    record { item = _; spelled = r.spelled; shows = rw (p.is, p.a_item, p.b_item, p.c_item, p.d_item, p.e_item, p.f_item, u16_said size h.0, sixteen_said guid h.1, sixteen_said nonce h.2, text_said kex, integer_said cipher h.4, sig_said sig h.5) refl }
msg_back (msg.GetOvNextEntry n) h memory =
    let r = row_stands ((norm (items.Uint n), det (items.Uint n)) ∷ []) (lit< tt) (det_inside (items.Uint n) (fit_number n (omega (arith, h))), tt) memory in
    let p = one_stand (norm (items.Uint n), det (items.Uint n)) r in
    record { item = _; spelled = r.spelled; shows = rw (p.is, p.a_item, u8_said n h) refl }
msg_back (msg.DeviceReady hmac size) h memory =
    let r = row_stands ((norm (item_of_maybe_hash hmac), det (item_of_maybe_hash hmac)) ∷ (norm (item_of_maybe_size size), det (item_of_maybe_size size)) ∷ []) (lit< tt) (det_inside (item_of_maybe_hash hmac) (fit_maybe_hash hmac h.0), (det_inside (item_of_maybe_size size) (fit_maybe_size size h.1), tt)) memory in
    let p = two_stand (norm (item_of_maybe_hash hmac), det (item_of_maybe_hash hmac)) (norm (item_of_maybe_size size), det (item_of_maybe_size size)) r in
    record { item = _; spelled = r.spelled; shows = rw (p.is, p.a_item, p.b_item, maybe_hash_said hmac h.0, maybe_size_said size h.1) refl }
msg_back (msg.OwnerReady size) h memory =
    let r = row_stands ((norm (item_of_maybe_size size), det (item_of_maybe_size size)) ∷ []) (lit< tt) (det_inside (item_of_maybe_size size) (fit_maybe_size size h), tt) memory in
    let p = one_stand (norm (item_of_maybe_size size), det (item_of_maybe_size size)) r in
    record { item = _; spelled = r.spelled; shows = rw (p.is, p.a_item, maybe_size_said size h) refl }
msg_back (msg.DeviceInfo more pairs) h memory =
    let r = row_stands ((norm (item_of_flag more), det (item_of_flag more)) ∷ (norm (item_of_pairs pairs), det (item_of_pairs pairs)) ∷ []) (lit< tt) (det_inside (item_of_flag more) (fit_flag more), (det_inside (item_of_pairs pairs) (h.1), tt)) memory in
    let p = two_stand (norm (item_of_flag more), det (item_of_flag more)) (norm (item_of_pairs pairs), det (item_of_pairs pairs)) r in
    record { item = _; spelled = r.spelled; shows = rw (p.is, p.a_item, p.b_item, flag_said more, pairs_said pairs h.0) refl }
msg_back (msg.OwnerInfo more done' pairs) h memory =
    let r = row_stands ((norm (item_of_flag more), det (item_of_flag more)) ∷ (norm (item_of_flag done'), det (item_of_flag done')) ∷ (norm (item_of_pairs pairs), det (item_of_pairs pairs)) ∷ []) (lit< tt) (det_inside (item_of_flag more) (fit_flag more), (det_inside (item_of_flag done') (fit_flag done'), (det_inside (item_of_pairs pairs) (h.1), tt))) memory in
    let p = three_stand (norm (item_of_flag more), det (item_of_flag more)) (norm (item_of_flag done'), det (item_of_flag done')) (norm (item_of_pairs pairs), det (item_of_pairs pairs)) r in
    record { item = _; spelled = r.spelled; shows = rw (p.is, p.a_item, p.b_item, p.c_item, flag_said more, flag_said done', pairs_said pairs h.0) refl }
msg_back (msg.Done nonce) h memory =
    let r = row_stands ((norm (items.Bytes nonce), det (items.Bytes nonce)) ∷ []) (lit< tt) (det_inside (items.Bytes nonce) (fit_string nonce (short nonce h)), tt) memory in
    let p = one_stand (norm (items.Bytes nonce), det (items.Bytes nonce)) r in
    record { item = _; spelled = r.spelled; shows = rw (p.is, p.a_item, sixteen_said nonce h) refl }
msg_back (msg.Done2 nonce) h memory =
    let r = row_stands ((norm (items.Bytes nonce), det (items.Bytes nonce)) ∷ []) (lit< tt) (det_inside (items.Bytes nonce) (fit_string nonce (short nonce h)), tt) memory in
    let p = one_stand (norm (items.Bytes nonce), det (items.Bytes nonce)) r in
    record { item = _; spelled = r.spelled; shows = rw (p.is, p.a_item, sixteen_said nonce h) refl }
msg_back msg.DiDone h memory =
    let r = row_stands [] (lit< tt) tt memory in
    record { item = _; spelled = r.spelled; shows = rw ((start_is _ _ r.spelled).item, items.outs-Array []) refl }
msg_back msg.Hello h memory =
    let r = row_stands [] (lit< tt) tt memory in
    record { item = _; spelled = r.spelled; shows = rw ((start_is _ _ r.spelled).item, items.outs-Array []) refl }
msg_back (msg.ProveToRv a b sign) h memory = sign_back signed.ProveToRv sign (msg.ProveToRv a b sign) h.0 (λ raw. h.1) 32 (λ s. refl)
msg_back (msg.ProveOvHdr a b c d e f g h' i j k sign) h memory = sign_back signed.ProveOvHdr sign (msg.ProveOvHdr a b c d e f g h' i j k sign) h.0 (λ raw. h.1) 61 (λ s. refl)
msg_back (msg.ProveDevice a b c d sign) h memory = sign_back signed.ProveDevice sign (msg.ProveDevice a b c d sign) h.0 (λ raw. h.1) 64 (λ s. refl)
msg_back (msg.SetupDevice a b c d sign) h memory = sign_back signed.SetupDevice sign (msg.SetupDevice a b c d sign) h.0 (λ raw. h.1) 65 (λ s. refl)
msg_back (msg.RvRedirect to1d) h memory = redirect_back to1d h
msg_back (msg.OvNextEntry n entry) h memory =
    let a : Item × List ℕ = (norm (items.Uint n), det (items.Uint n)) in
    let b : Item × List ℕ = (h.1.item, entry.raw) in
    let r = row_stands (a ∷ b ∷ []) (lit< tt) (det_inside (items.Uint n) (fit_number n (omega (arith, h.0))), (h.1.spelled, tt)) memory in
    let p = two_stand a b r in
    record { item = _; spelled = r.spelled; shows = rw (p.is, p.a_item, u8_said n h.0, p.b_item, p.b_raw, h.1.says) refl }
msg_back (msg.OwnerSign to0d voucher wait nonce to1d) h memory =
    let a : Item × List ℕ = (norm (items.Bytes to0d), det (items.Bytes to0d)) in
    let b : Item × List ℕ = (h.2.item, to1d.raw) in
    let r = row_stands (a ∷ b ∷ []) (lit< tt) (det_inside (items.Bytes to0d) (fit_string to0d h.1), (h.2.spelled, tt)) memory in
    let p = two_stand a b r in
    record { item = _; spelled = r.spelled; shows = rw (p.is, p.a_item, bytes_said to0d, h.0, p.b_item, p.b_raw, h.2.says) refl }
msg_back (msg.Error code kind text stamp id) h memory =
    let a : Item × List ℕ = (norm (items.Uint code), det (items.Uint code)) in
    let b : Item × List ℕ = (norm (items.Uint kind), det (items.Uint kind)) in
    let c : Item × List ℕ = (norm (items.Text text), det (items.Text text)) in
    let d : Item × List ℕ = (norm stamp, det stamp) in
    let e : Item × List ℕ = (norm id, det id) in
    let r = row_stands (a ∷ b ∷ c ∷ d ∷ e ∷ []) (lit< tt) (det_inside (items.Uint code) (fit_number code (omega (arith, h.0))), (det_inside (items.Uint kind) (fit_number kind h.1), (det_inside (items.Text text) h.2, (det_inside stamp h.3, (det_inside id h.4, tt))))) memory in
    let p = five_stand a b c d e r in
    record { item = _; spelled = r.spelled; shows = rw (p.is, p.a_item, u16_said code h.0, p.b_item, u64_said kind h.1, p.c_item, text_said text, p.d_item, p.e_item) refl }

pub written_said : (m : Msg) (body bytes : List ℕ) → body ≡ body_of m → bytes ≡ body → IsInMemory bytes → IsMsg m → IsBody (kind_of m) body (norm_msg m)
written_said m body bytes e same memory h = subst (λ b. IsBody (kind_of m) b (norm_msg m)) (sym e) (msg_back m h (subst IsInMemory (same ∙ e) memory))
