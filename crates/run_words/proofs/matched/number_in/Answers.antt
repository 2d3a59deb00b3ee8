use Rattle.run_words.proofs.Numbers.{number-in_range, number-refused}
use Rattle.run_words.proofs.matched.number_in.Goals as goal

pub returns-in-Err-clause-value : goal.returns-in-Err-clause-value
returns-in-Err-clause-value c = number-refused c.args.low c.args.high c.args.text.now c.in-Err.ensures.value.0

pub returns-then-number-high-clause-value : goal.returns-then-number-high-clause-value
returns-then-number-high-clause-value c =
    let parse = c.in-Ok.ensures.value.0 in
    number-in_range c.args.low c.args.high c.in-Ok.number c.args.text.now parse.0 parse.1 c.if-low-number.true c.if-number-high.true
