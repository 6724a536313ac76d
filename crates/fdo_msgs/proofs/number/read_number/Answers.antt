use Rattle.std.proofs.Common.{Ok, Err, refl, subst}
use Rattle.std.specs.declared.num.ParseIntError.{ParseIntError}
use Rattle.std.specs.Str.Parse.{ParsesUnsigned}
use Rattle.fdo_msgs.proofs.Numbers.{led_number, not_led, not_text, other_number, no_number}
use Rattle.fdo_msgs.proofs.number.read_number.Goals as goal

pub returns-then-not-is_led-clause-none : goal.returns-then-not-is_led-clause-none
returns-then-not-is_led-clause-none c = not_led c.args.word.now c.args.most c.ranges.most.fits (λ led. let no = c.if-not-is_led.ensures.1 led in cc)

pub returns-in-Ok-parse-clause-some : goal.returns-in-Ok-parse-clause-some
returns-in-Ok-parse-clause-some c =
    (c.if-number-most.true, led_number ParseIntError c.args.word.now c.in-Ok-parse.number (c.if-not-is_led.ensures.0 refl) (subst (λ w. ParsesUnsigned {E = ParseIntError} 64 10 w (Ok c.in-Ok-parse.number)) c.in-Ok.ensures.cases.0 c.in-Ok-parse.ensures.value.0))

pub returns-in_default-clause-none : goal.returns-in_default-clause-none
returns-in_default-clause-none c =
    other_number ParseIntError c.args.word.now c.in-Ok-parse.number c.args.most c.ranges.most.fits (subst (λ w. ParsesUnsigned {E = ParseIntError} 64 10 w (Ok c.in-Ok-parse.number)) c.in-Ok.ensures.cases.0 c.in-Ok-parse.ensures.value.0) c.if-number-most.false

pub returns-in_default-2-clause-none : goal.returns-in_default-2-clause-none
returns-in_default-2-clause-none c =
    no_number ParseIntError c.args.word.now c.in_default.field-0 c.args.most c.ranges.most.fits (subst (λ w. ParsesUnsigned {E = ParseIntError} 64 10 w (Err c.in_default.field-0)) c.in-Ok.ensures.cases.0 c.in_default.ensures.value.0)

pub returns-in-Err-clause-none : goal.returns-in-Err-clause-none
returns-in-Err-clause-none c = not_text c.args.word.now c.args.most c.ranges.most.fits c.in-Err.ensures.cases.0
