use Rattle.std.proofs.Common.{◌≡◌, true, false, sym, ◌∙◌, to_z-of_z}
use Rattle.cose_envelopes.specs.Opening.{opening, opening_etm}
use Rattle.fdo_rules.specs.Channel.{is_etm}
use Rattle.fdo_rules.specs.Suite.{sealing_by}
use Rattle.to2_channel.proofs.Bounding.{opened_as}
use Rattle.to2_channel.proofs.enveloping.open_under.Goals as goal

pub returns-then-is_etm-clause-told : goal.returns-then-is_etm-clause-told
returns-then-is_etm-clause-told g c =
    let suite = sealing_by g.S.Aead.bits g.S.Aead.seals g.S.Aead.opens in
    let is : is_etm c.args.cipher ≡ true = sym (rw (to_z-of_z c.ranges.cipher) at c.is_etm.ensures) ∙ c.if-is_etm.true in
    opened_as suite c.args.cipher c.args.key.now true c.args.body.now c.fit_opened.result is
    (c.fit_opened.ensures (opening_etm suite.bits suite.opens c.args.cipher c.args.key.now c.args.body.now) (rw (to_z-of_z c.ranges.cipher) at c.open_etm.ensures.answer))

pub returns-else-is_etm-clause-told : goal.returns-else-is_etm-clause-told
returns-else-is_etm-clause-told g c =
    let suite = sealing_by g.S.Aead.bits g.S.Aead.seals g.S.Aead.opens in
    let is : is_etm c.args.cipher ≡ false = sym (rw (to_z-of_z c.ranges.cipher) at c.is_etm.ensures) ∙ c.if-is_etm.false in
    opened_as suite c.args.cipher c.args.key.now false c.args.body.now c.fit_opened-else-is_etm.result is
    (c.fit_opened-else-is_etm.ensures (opening suite.bits suite.opens c.args.cipher c.args.key.now c.args.body.now) (rw (to_z-of_z c.ranges.cipher) at c.open.ensures.answer))
