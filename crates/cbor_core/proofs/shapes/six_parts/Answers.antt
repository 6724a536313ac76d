use Rattle.std.proofs.Common.{sym}
use Rattle.cbor_core.specs.Spots.{spot_parts}
use Rattle.cbor_core.proofs.ShapeLaws.{six_are}
use Rattle.cbor_core.proofs.SpotLaws.{none_left, some_left}
use Rattle.cbor_core.proofs.shapes.six_parts.Goals as goal

pub returns-in-None : goal.returns-in-None
returns-in-None c =
    let s = c.args.part.now.spot in
    let first = c.in_ok-first.first in
    let second = c.in_ok-second.second in
    let third = c.in_ok-third.third in
    let fourth = c.in_ok-fourth.fourth in
    let fifth = c.in_ok-fifth.fifth in
    let sixth = c.in_ok-sixth.sixth in
    six_are s first second third fourth fifth sixth (sym c.if-not-is_array.ensures)
    (some_left (spot_parts s) c.inside.result first c.inside.ensures.first c.in_ok-first.was)
    (some_left first.later c.after.result second c.after.ensures c.in_ok-second.was)
    (some_left second.later c.after-2.result third c.after-2.ensures c.in_ok-third.was)
    (some_left third.later c.after-3.result fourth c.after-3.ensures c.in_ok-fourth.was)
    (some_left fourth.later c.after-4.result fifth c.after-4.ensures c.in_ok-fifth.was)
    (some_left fifth.later c.after-5.result sixth c.after-5.ensures c.in_ok-sixth.was)
    (none_left sixth.later c.after-6.result c.after-6.ensures c.in-None.is)
