use Rattle.std.proofs.Common.{◌++◌, map, codes}
use Rattle.uuid.specs.Text.{hyphenated_text, lower}
use Rattle.hex.specs.Hex.{encode_lower}
use Rattle.hash_hmac.specs.Value.{content}
use Rattle.voucher_tool.specs.Show.{first_lines, shown_byte, key_words, mac_word, chain_word}
use Rattle.voucher_tool.proofs.Lines.{six_lines}
use Rattle.voucher_tool.proofs.showing.put_first.Goals as goal

pub returns : goal.returns
unfolding first_lines
returns c =
    let v = c.args.voucher.now in
    six_lines (codes "version 101") (codes "guid " ++ hyphenated_text lower v.header.guid) (codes "device " ++ map shown_byte v.header.info)
    (codes "key " ++ key_words v.header.key v.header.key_raw) (codes "hmac " ++ mac_word v.hmac.kind ++ codes " " ++ encode_lower (content v.hmac)) (codes "chain " ++ chain_word v.chain)
    c.args.out.now.items c.put_line.new.out.items c.put_guid.new.out.items c.put_device.new.out.items c.put_own_key.new.out.items c.put_hmac.new.out.items c.put_chain.new.out.items
    c.in_ok-put_line.ensures c.in_ok-put_guid.ensures (rw (c.as_bytes.ensures.value, c.as_list.ensures) at c.in_ok-put_device.ensures) (rw c.as_list-2.ensures at c.in_ok-put_own_key.ensures) c.in_ok-put_hmac.ensures c.in_ok-put_chain.ensures
