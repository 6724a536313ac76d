use Rattle.std.proofs.Common.{◌≡◌, ◌++◌, drop}
use Rattle.voucher_chain.specs.Chain.{links_break, front}
use Rattle.voucher_chain.proofs.AskLaws.{Remains}
use Rattle.voucher_chain.proofs.chain.check_entries.Given as goal

abbrev pub invariant-loop-entry : goal.invariant-loop-entry
invariant-loop-entry g l = record {
  index : l.index ≡ l.entry-index;
  breaks : links_break g.S.Verifier.verifies l.fn.voucher.header l.entry-index (l.first ++ l.second) l.signer (drop l.entry-index l.entries)
      ≡ links_break g.S.Verifier.verifies l.fn.voucher.header 0 (front l.fn.voucher) l.fn.voucher.header.key l.fn.voucher.entries;
  asked : Remains (g.S.Holder.asked l.fn.suite) (g.S.Holder.asked l.suite) l.fn.voucher.header.key l.signer l.entries l.entry-index;
  held : g.S.Holder.held l.suite ≡ g.S.Holder.held l.fn.suite;
  faults : g.S.Holder.faults l.suite ≡ g.S.Holder.faults l.fn.suite;
}
