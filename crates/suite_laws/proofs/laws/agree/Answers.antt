use Rattle.suite_port.specs.Answer.{bytes_of, two_bytes_of}
use Rattle.suite_laws.proofs.Ends.{second_takes, finishes, same_value, value_not_none, decides_unless}
use Rattle.suite_laws.proofs.laws.agree.Goals as goal

pub returns-in-Err-second-clause-known : goal.returns-in-Err-second-clause-known
returns-in-Err-second-clause-known g c =
    decides_unless _ two_bytes_of _ c.in-Err-second.fault c.in-Err-second.ensures.answer
    (second_takes _ _ _ _ _ (λ xa. g.S.Kex.second_of c.args.name.now c.args.other.now xa) c.in-Ok.ensures.answer c.as_slice.ensures.value
    (λ known. g.met.S.Kex.second_takes_first c.args.name.now c.args.one.now c.args.other.now known c.told-one c.told-other))

pub returns-in-Ok-finish-clause-agree : goal.returns-in-Ok-finish-clause-agree
returns-in-Ok-finish-clause-agree g c =
    same_value _ _ _ c.in-Ok-finish.ensures.answer
    (finishes _ _ _ _ _ _ _ _ _ (λ xa. g.S.Kex.second_of c.args.name.now c.args.other.now xa) (λ private xb. g.S.Kex.finish_of c.args.name.now private xb) c.in-Ok.ensures.answer c.as_slice.ensures.value c.as_slice-2.ensures.value c.as_slice-3.ensures.value c.in-Ok-second.ensures.answer
    (λ xb shared known second. g.met.S.Kex.ends_agree c.args.name.now c.args.one.now c.args.other.now xb shared known c.told-one c.told-other second))

pub returns-clause-known : goal.returns-clause-known
returns-clause-known g c =
    decides_unless _ bytes_of _ c.in-Err-finish.fault c.in-Err-finish.ensures.answer
    (value_not_none _ _ (finishes _ _ _ _ _ _ _ _ _ (λ xa. g.S.Kex.second_of c.args.name.now c.args.other.now xa) (λ private xb. g.S.Kex.finish_of c.args.name.now private xb) c.in-Ok.ensures.answer c.as_slice.ensures.value c.as_slice-2.ensures.value c.as_slice-3.ensures.value c.in-Ok-second.ensures.answer
    (λ xb shared known second. g.met.S.Kex.ends_agree c.args.name.now c.args.one.now c.args.other.now xb shared known c.told-one c.told-other second)))
