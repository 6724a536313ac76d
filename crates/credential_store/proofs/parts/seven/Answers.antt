use Rattle.std.proofs.Common.{sym}
use Rattle.cbor_core.specs.Spots.{spot_parts}
use Rattle.cbor_core.proofs.SpotLaws.{some_left}
use Rattle.credential_store.proofs.PartLaws.{seven_are}
use Rattle.credential_store.proofs.parts.seven.Goals as goal

pub returns : goal.returns
returns c =
    let s = c.args.part.now.spot in
    let first = c.in_ok-first.first in
    let second = c.in_ok-second.second in
    let third = c.in_ok-third.third in
    let fourth = c.in_ok-fourth.fourth in
    let last = c.in_ok-fifth.ensures in
    seven_are s first second third fourth c.in_ok-fifth.fifth.spot c.in_ok-fifth.sixth.spot c.in_ok-fifth.seventh.spot (sym c.if-not-is_array.ensures)
    (some_left (spot_parts s) c.inside.result first c.inside.ensures.first c.in_ok-first.was)
    (some_left first.later c.after.result second c.after.ensures c.in_ok-second.was)
    (some_left second.later c.after-2.result third c.after-2.ensures c.in_ok-third.was)
    (some_left third.later c.after-3.result fourth c.after-3.ensures c.in_ok-fourth.was)
    last
