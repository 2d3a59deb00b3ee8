use Rattle.std.proofs.Common.{List, Bool, ap, sym, ◌∙◌, rules}
use Rattle.std.proofs.lemmas.Bool.{eqb-true}
use Rattle.script_text.specs.Commands.{flags_over}
use Rattle.script_text.specs.Lines.{lines_of}
use Rattle.script_text.proofs.Steps.{flags_more, flags_none}
use Rattle.script_text.proofs.sessions.flags_of.Goals as goal

pub lines-init : goal.lines-init
lines-init c =
    (ap (λ (flags : List Bool). flags_over flags (lines_of c.args.body.now)) (c.in_ok-flags.ensures.items_if_clones_equal (λ y h. search rules)), c.in_ok-flags.ensures.len)

pub lines-preserved : goal.lines-preserved
lines-preserved c = (
  rw (c.set_flag.ensures.flags, c.session_in.ensures.value)
      (sym (flags_more c.lines.flags.items c.lines.rest.now c.cut_line.result.0.now c.cut_line.result.1.now c.cut_line.ensures.lines) ∙ c.lines.invariant.0),
  c.set_flag.ensures.room,
)

pub returns-clause-flags : goal.returns-clause-flags
returns-clause-flags c =
    sym (flags_none c.lines.flags.items c.lines.rest.now (eqb-true _ _ (sym c.lines-test.ensures))) ∙ c.lines.invariant.0
