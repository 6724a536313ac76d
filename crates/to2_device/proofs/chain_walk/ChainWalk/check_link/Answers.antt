use Rattle.std.proofs.Common.{ℕ, List, ◌++◌, subst}
use Rattle.key_codec.specs.declared.key.PublicKey.{PublicKey}
use Rattle.voucher_chain.specs.Chain.{entry_break}
use Rattle.fdo_rules.specs.DeviceTo2.{chain_check}
use Rattle.to2_device.specs.Told.{Tells}
use Rattle.to2_device.specs.Views.{before_of}
use Rattle.to2_device.proofs.chain_walk.ChainWalk.check_link.Goals as goal

pub returns-clause-told : goal.returns-clause-told
returns-clause-told g c =
    let walk = c.args.self.now.walk in
    let front = c.before-2.result.0.now ++ c.before-2.result.1.now in
    let told = λ (before : List ℕ) (key : PublicKey). entry_break g.S.Verifier.verifies walk.shown.payload.header walk.index before key c.args.entry.now in
    let given : Tells (chain_check (told front c.owner.result.now)) c.fit_link.result = c.fit_link.ensures (told front c.owner.result.now) c.check_entry-checked.ensures.exact in
    let placed : Tells (chain_check (told (before_of walk.shown walk.last) c.owner.result.now)) c.fit_link.result = subst (λ (x : List ℕ). Tells (chain_check (told x c.owner.result.now)) c.fit_link.result) c.before-2.ensures given in
    subst (λ (x : PublicKey). Tells (chain_check (told (before_of walk.shown walk.last) x)) c.fit_link.result) c.owner.ensures placed
