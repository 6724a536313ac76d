use Rattle.std.proofs.Common.{ℕ, ◌<◌, ◌^◌, length, false, subst, arith}
use Rattle.cbor_core.specs.declared.item.Item.{Item}
use Rattle.cbor_core.specs.Reading.{Gives}
use Rattle.cbor_core.proofs.Readings.{is_fit, is_found, first_again}
use Rattle.cbor_core.proofs.read.read_wire.Goals as goal

pub returns-clause-found : goal.returns-clause-found
returns-clause-found c = is_found false c.args.bytes.now c.read_first.result (λ i. omega (arith, c.type_inv.bytes i)) c.read_first.ensures

pub returns-clause-only : goal.returns-clause-only
returns-clause-only c = λ x n le h. subst (Gives {Y = Item × ℕ} (λ y. (y.0, y.1)) c.read_first.result) (first_again false c.args.bytes.now x n le h) c.read_first.ensures

pub returns-clause-fit : goal.returns-clause-fit
returns-clause-fit c =
    let small : length c.args.bytes.now < 2 ^ 64 = omega arith in
    is_fit false c.args.bytes.now c.read_first.result (λ i. omega (arith, c.type_inv.bytes i)) small c.read_first.ensures
