use Rattle.std.proofs.Common.{◌≡◌, true, false, option_map, sym, ◌∙◌, to_z-of_z}
use Rattle.cose_envelopes.specs.Opening.{key_front, sealed_bytes, sealed_etm}
use Rattle.fdo_rules.specs.Channel.{is_etm}
use Rattle.fdo_rules.specs.Suite.{sealing_by}
use Rattle.to2_channel.proofs.Bounding.{sealed_as}
use Rattle.to2_channel.proofs.enveloping.seal_under.Goals as goal

pub returns-then-is_etm-clause-told : goal.returns-then-is_etm-clause-told
returns-then-is_etm-clause-told g c =
    let suite = sealing_by g.S.Aead.bits g.S.Aead.seals g.S.Aead.opens in
    let is : is_etm c.args.cipher ≡ true = sym (rw (to_z-of_z c.ranges.cipher) at c.is_etm.ensures) ∙ c.if-is_etm.true in
    let fits = rw (to_z-of_z c.ranges.cipher) at (c.fit_sealed.ensures (option_map (λ bits. sealed_etm suite.seals c.args.key.now c.args.iv.now c.args.plain.now) (suite.bits c.args.cipher))) in
    sealed_as suite c.args.cipher c.args.key.now true c.args.iv.now c.args.plain.now c.fit_sealed.result is (fits (rw (to_z-of_z c.ranges.cipher) at c.seal_etm.ensures.answer))

pub returns-else-is_etm-clause-told : goal.returns-else-is_etm-clause-told
returns-else-is_etm-clause-told g c =
    let suite = sealing_by g.S.Aead.bits g.S.Aead.seals g.S.Aead.opens in
    let is : is_etm c.args.cipher ≡ false = sym (rw (to_z-of_z c.ranges.cipher) at c.is_etm.ensures) ∙ c.if-is_etm.false in
    let fits = rw (to_z-of_z c.ranges.cipher) at (c.fit_sealed-else-is_etm.ensures (option_map (λ bits. sealed_bytes suite.seals c.args.cipher (key_front bits c.args.key.now) c.args.iv.now c.args.plain.now) (suite.bits c.args.cipher))) in
    sealed_as suite c.args.cipher c.args.key.now false c.args.iv.now c.args.plain.now c.fit_sealed-else-is_etm.result is (fits (rw (to_z-of_z c.ranges.cipher) at c.seal.ensures.answer))
