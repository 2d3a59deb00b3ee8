use Rattle.std.proofs.Common.{sym, ◌∙◌, arith}
use Rattle.script_text.proofs.Quoted.{string_ends, string_gives, string_goes, string_none, string_stops, string_wrong}
use Rattle.script_text.proofs.strings.string_in.Goals as goal
use Rattle.script_text.proofs.strings.string_in.Goals.{in-Goes, in-Gives+in_ok-push-in-Gives}

pub returns-in-Ends : goal.returns-in-Ends
returns-in-Ends c =
    sym c.bytes.invariant
    ∙ string_ends c.bytes.bytes.items c.args.text.now c.bytes.i c.bytes.at c.bytes-test.true (sym c.step.ensures ∙ c.in-Ends.is) c.if-i-text.true

pub bytes-preserved : goal.bytes-preserved
bytes-preserved c =
    elim c.match-step.branch [
      | in-Goes w ↦ rw (w.bytes-is, w.at-is) (sym (string_goes c.bytes.bytes.items c.args.text.now c.bytes.i c.bytes.at w.in-Goes.next c.bytes-test.true (sym c.step.ensures ∙ w.in-Goes.is)) ∙ c.bytes.invariant)
      | in-Gives+in_ok-push-in-Gives w ↦ rw (w.bytes-is, w.at-is, w.in_ok-push-in-Gives.ensures.items) (sym (string_gives c.bytes.bytes.items c.args.text.now c.bytes.i w.in-Gives.given c.bytes.at c.bytes-test.true (sym c.step.ensures ∙ w.in-Gives.is)) ∙ c.bytes.invariant)
    ]

pub returns : goal.returns
returns c = sym c.bytes.invariant ∙ string_none c.bytes.bytes.items c.args.text.now c.bytes.i c.bytes.at c.bytes-test.false

pub returns-in-Ends-2 : goal.returns-in-Ends-2
returns-in-Ends-2 c =
    sym c.bytes.invariant
    ∙ string_stops c.bytes.bytes.items c.args.text.now c.bytes.i c.bytes.at c.bytes-test.true (sym c.step.ensures ∙ c.in-Ends.is) (omega (arith, c.if-i-text.false))

pub returns-in-Wrong : goal.returns-in-Wrong
returns-in-Wrong c =
    sym c.bytes.invariant
    ∙ string_wrong c.bytes.bytes.items c.args.text.now c.bytes.i c.bytes.at c.bytes-test.true (sym c.step.ensures ∙ c.in-Wrong.is)
