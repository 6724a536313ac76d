use Rattle.std.proofs.Common.{ℕ, ◌<◌, ◌^◌, length, true, subst, arith}
use Rattle.cbor_core.specs.declared.item.Item.{Item}
use Rattle.cbor_core.specs.Reading.{Gives}
use Rattle.cbor_core.proofs.Readings.{is_fit, is_det, det_again}
use Rattle.cbor_core.proofs.read.read_det.Goals as goal

pub returns-clause-found : goal.returns-clause-found
returns-clause-found c = is_det c.args.bytes.now c.read_first.result (λ i. omega (arith, c.type_inv.bytes i)) c.read_first.ensures

pub returns-clause-only : goal.returns-clause-only
returns-clause-only c = λ x n le fit e. subst (Gives {Y = Item × ℕ} (λ y. (y.0, y.1)) c.read_first.result) (det_again c.args.bytes.now x n le fit e) c.read_first.ensures

pub returns-clause-fit : goal.returns-clause-fit
returns-clause-fit c =
    let small : length c.args.bytes.now < 2 ^ 64 = omega arith in
    is_fit true c.args.bytes.now c.read_first.result (λ i. omega (arith, c.type_inv.bytes i)) small c.read_first.ensures
