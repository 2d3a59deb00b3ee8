use Rattle.std.proofs.Common.{arith, sym}
use Rattle.std.proofs.lemmas.Bool.{eqb-true}
use Rattle.std.proofs.lemmas.Result.{err_from_is_err_and}
use Rattle.script_text.specs.Said.{said_of}
use Rattle.script_text.specs.Lines.{lines_of}
use Rattle.script_text.proofs.Named.{body_said}
use Rattle.script_text.proofs.Runs.{body_runs}
use Rattle.script_text.proofs.Steps.{body_more, body_none, body_refused}
use Rattle.script_text.proofs.body.read_body.Goals as goal

pub returns-in_err-read_line-clause-value : goal.returns-in_err-read_line-clause-value
returns-in_err-read_line-clause-value c =
    let p = err_from_is_err_and c.from_residual-in_err-read_line.result c.from_residual-in_err-read_line.ensures.1 in
    rw (p.1, p.2) (body_refused c.in_err-read_line.field-0.0 c.args.config.now c.in_ok-flags.flags.items _ (said_of c.lines.said) c.lines.number c.lines.rest.now c.cut_line.result.0.now c.cut_line.result.1.now _ c.deref.ensures.value c.cut_line.ensures.lines c.in_err-read_line.ensures c.lines.invariant.0)

pub lines-preserved : goal.lines-preserved
lines-preserved c = (
  body_more c.args.config.now c.in_ok-flags.flags.items _ (said_of c.lines.said) (said_of c.read_line.new.self) c.lines.number c.lines.rest.now c.cut_line.result.0.now c.cut_line.result.1.now _ c.deref.ensures.value c.cut_line.ensures.lines c.in_ok-read_line.ensures c.lines.invariant.0,
  omega (arith, c.lines.invariant.1, c.cut_line.ensures.shorter),
)

pub returns-clause-value : goal.returns-clause-value
returns-clause-value c =
    rw c.into_commands.ensures (body_none c.args.config.now c.in_ok-flags.flags.items (said_of c.lines.said) c.lines.number c.lines.rest.now _ (eqb-true _ _ (sym c.lines-test.ensures)) c.lines.invariant.0)

pub returns-clause-runs : goal.returns-clause-runs
returns-clause-runs c =
    λ spelled. body_runs c.args.config.now c.args.first (lines_of c.args.body.now) c.into_commands.result spelled
    (rw c.into_commands.ensures (body_none c.args.config.now c.in_ok-flags.flags.items (said_of c.lines.said) c.lines.number c.lines.rest.now _ (eqb-true _ _ (sym c.lines-test.ensures)) c.lines.invariant.0))

pub returns-clause-said : goal.returns-clause-said
returns-clause-said c =
    body_said c.args.config.now c.args.first (lines_of c.args.body.now) c.into_commands.result c.requires.cluster
    (rw c.into_commands.ensures (body_none c.args.config.now c.in_ok-flags.flags.items (said_of c.lines.said) c.lines.number c.lines.rest.now _ (eqb-true _ _ (sym c.lines-test.ensures)) c.lines.invariant.0))
