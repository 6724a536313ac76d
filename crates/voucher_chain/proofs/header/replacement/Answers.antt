use Rattle.std.proofs.Common.{◌≡◌, length, refl, sym, ap, subst, ◌∙◌, arith}
use Rattle.cbor_core.specs.Deterministic.{det}
use Rattle.voucher_chain.specs.declared.header.Header.{Header}
use Rattle.voucher_chain.specs.Header.{item_of_header, header_with, IsHeader}
use Rattle.voucher_chain.specs.Reading.{IsInMemory}
use Rattle.voucher_chain.proofs.HeaderBack.{header_again}
use Rattle.voucher_chain.proofs.header.replacement.Goals as goal

pub returns-clause-back : goal.returns-clause-back
returns-clause-back c is_key is_hash =
    let h = c.args.header.now in
    let raw : c.in_ok-raw.raw ≡ det (item_of_header c.args.guid c.args.rv.now h.info c.args.key.now h.chain_hash) = c.in_ok-raw.ensures.value ∙ ap det c.in_ok-item.ensures.item in
    let new : Header = record { raw = c.in_ok-raw.raw; guid = c.args.guid; rv = c.in_ok-copy.field-0; info = c.in_ok-copy-2.field-0; key = c.in_ok-copy-3.field-0; key_raw = c.in_ok-key_bytes.field-0; chain_hash = h.chain_hash } in
    let same : new ≡ header_with c.args.guid c.args.rv.now h.info c.args.key.now h.chain_hash =
    rw (raw, c.in_ok-copy.ensures, c.in_ok-copy-2.ensures, c.in_ok-copy-3.ensures, c.in_ok-key_bytes.ensures.value) refl in
    subst (IsHeader c.in_ok-raw.raw) (sym same)
    (header_again c.args.guid c.args.rv.now h.info c.args.key.now h.chain_hash (omega arith) c.in_ok-item.ensures.numbers c.is_text.ensures
    (omega (arith, ap length raw, c.are_bytes.ensures.small, ap length c.as_list.ensures)) is_key is_hash c.has_room.ensures c.in_ok-raw.raw raw (subst IsInMemory c.as_list.ensures c.are_bytes.ensures))
