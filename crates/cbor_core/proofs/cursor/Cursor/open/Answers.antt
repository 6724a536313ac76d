use Rattle.std.proofs.Common.{◌<◌, ◌^◌, [], length, take, refl, arith}
use Rattle.cbor_core.specs.declared.cursor.Cursor.{Cursor}
use Rattle.cbor_core.specs.declared.cursor.Left.TheVariants as left
use Rattle.cbor_core.specs.Spots.{start, spot_next}
use Rattle.cbor_core.proofs.PartLaws.{opens, refused}
use Rattle.cbor_core.proofs.SpotLaws.{none_spots, opened_first}
use Rattle.cbor_core.proofs.cursor.Cursor.open.Goals as goal

pub returns-in-Ok-clause-ok : goal.returns-in-Ok-clause-ok
returns-in-Ok-clause-ok c =
    let made : Cursor = record { tail = c.args.bytes; at = 0; levels = 16; left = left.Counted 0 } in
    let small : length c.args.bytes.now < 2 ^ 64 = omega arith in
    let o = opens made c.args.bytes.now c.in-Ok.rest.now c.saturating_sub.result (λ i. omega (arith, c.type_inv.bytes i)) small refl refl refl refl c.saturating_sub.ensures c.in-Ok.ensures.gives in
    (o.0, o.1, o.2, refl)

pub returns-in-Err-clause-err : goal.returns-in-Err-clause-err
returns-in-Err-clause-err c = refused c.args.bytes.now c.in-Err.fault c.in-Err.ensures.gives

pub returns-in-Ok-clause-placed : goal.returns-in-Ok-clause-placed
returns-in-Ok-clause-placed c =
    let bytes = c.args.bytes.now in
    let made : Cursor = record { tail = c.args.bytes; at = 0; levels = 16; left = left.Counted 0 } in
    let small : length bytes < 2 ^ 64 = omega arith in
    let o = opens made bytes c.in-Ok.rest.now c.saturating_sub.result (λ i. omega (arith, c.type_inv.bytes i)) small refl refl refl refl c.saturating_sub.ensures c.in-Ok.ensures.gives in
    (record { input = bytes; item = o.0; text = take c.saturating_sub.result bytes; later = []; stands = o.2 }, refl, none_spots (spot_next (start bytes)), opened_first made bytes o.0 c.saturating_sub.result o.1 o.2 refl)
