use Rattle.texts.proofs.Digits.{digits_all}
use Rattle.texts.proofs.number.number.Goals as goal

pub returns-clause-value : goal.returns-clause-value
returns-clause-value c =
    let long = c.has_digits.ensures.0 c.if-not-has_digits.false in
    digits_all c.args.digits.now c.loop-digit.digit-index c.loop-digit.n c.loop-digit-test.false long.0 long.1 c.loop-digit.invariant.1 c.loop-digit.invariant.0
