use Rattle.std.proofs.Common.{None, refl, ap, length, ◌∙◌, arith}
use Rattle.voucher_chain.proofs.BackLaws.{entry_back}
use Rattle.voucher_chain.proofs.extending.next_entry.Goals as goal

pub returns-clause-back : goal.returns-clause-back
returns-clause-back g c is =
    entry_back c.args.next.now (record { raw = c.in_ok-raw.raw; prev = c.hash_by-prev.result; hdr = c.hash_by-hdr.result; extra = None; key = c.in_ok-copy.field-0; sign = c.in_ok-sign.sign }) (record {
      small = omega (arith, c.are_bytes.ensures.small, ap length c.as_list-3.ensures);
      raw = c.in_ok-raw.ensures.value;
      unprotected = c.in_ok-sign.ensures.parts.0;
      names = c.in_ok-sign.ensures.protected.1;
      payload = c.in_ok-sign.ensures.parts.1 ∙ c.in_ok-payload.ensures;
      extra = refl;
      key = c.in_ok-copy.ensures;
      prev_room = omega arith;
      hdr_room = omega arith;
      prev_is = c.hash_by-prev.ensures.consistent;
      hdr_is = c.hash_by-hdr.ensures.consistent;
      next_is = is;
    })
