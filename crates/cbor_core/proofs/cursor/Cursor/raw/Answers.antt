use Rattle.std.proofs.Common.{◌++◌, ◌∙◌, ap, take}
use Rattle.cbor_core.proofs.PartLaws.{front_is}
use Rattle.cbor_core.proofs.cursor.Cursor.raw.Goals as goal

pub returns : goal.returns
returns c = λ input x text later s. c.split_at.ensures.front ∙ ap (λ k. take k c.args.self.now.tail.now) c.saturating_sub.ensures
    ∙ front_is c.args.self.now.tail.now text (s.row ++ s.rest) c.end-end.result.now s.bytes (c.end-end.ensures x text (s.row ++ s.rest) s.spelled s.bytes)
