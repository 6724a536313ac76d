use Rattle.voucher_store.proofs.Imaging.{found_from}
use Rattle.voucher_store.proofs.image.read_found.Goals as goal

pub returns-in-Ok-clause-read : goal.returns-in-Ok-clause-read
returns-in-Ok-clause-read c =
    found_from c.args.areas c.args.limit c.args.found.now c.base-base.result c.in-Ok.entries.items c.survey.result.place c.survey.result.one c.check.result
    c.base-base.ensures c.in-Ok.ensures.ok c.survey.ensures.place c.survey.ensures.one c.check.ensures.read
