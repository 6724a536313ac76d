use Rattle.sessions.proofs.StartLaws.{put_started}
use Rattle.sessions.proofs.sessions.Sessions.start.Goals as goal

pub returns-in-Ok-clause-started : goal.returns-in-Ok-clause-started
returns-in-Ok-clause-started g c =
    rw (c.in-Ok.ensures.entries, ← c.self.view_is) (put_started c.args.token c.self.inside.table c.args.session c.self.invariant c.len-count.ensures.valid.1)
