use Rattle.std.proofs.Common.{◌≡◌, w64, to_z, of_z}
use Rattle.std.proofs.Math.Facts.{to_z-of_z}
use Rattle.key_codec.proofs.Said.{says_body, says_body_only}
use Rattle.key_codec.proofs.Fits.{says_fit_body}
use Rattle.key_codec.proofs.read.read_key_body.Goals as goal

pub returns-clause-found : goal.returns-clause-found
returns-clause-found c =
    let plain : to_z w64 (of_z w64 c.args.enc) ≡ c.args.enc = to_z-of_z c.ranges.enc in
    says_body c.args.enc c.args.item.now c.body_at.result (rw plain at c.body_at.ensures)

pub returns-clause-only : goal.returns-clause-only
returns-clause-only c b form is said =
    let plain : to_z w64 (of_z w64 c.args.enc) ≡ c.args.enc = to_z-of_z c.ranges.enc in
    says_body_only c.args.enc c.args.item.now c.body_at.result b (rw plain at c.body_at.ensures) form is said

pub returns-clause-fit : goal.returns-clause-fit
returns-clause-fit c n =
    let plain : to_z w64 (of_z w64 c.args.enc) ≡ c.args.enc = to_z-of_z c.ranges.enc in
    says_fit_body n c.args.enc c.args.item.now c.body_at.result (rw plain at c.body_at.ensures)
