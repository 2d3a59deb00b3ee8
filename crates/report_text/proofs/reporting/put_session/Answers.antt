use Rattle.std.proofs.Common.{ℕ, List, ◌++◌, ap, ◌∙◌, string_bytes}
use Rattle.report_text.specs.Answer.{answer_text}
use Rattle.report_text.specs.Line.{line_text}
use Rattle.report_text.proofs.Lines.{line_more, line_end}
use Rattle.report_text.proofs.reporting.put_session.Goals as goal

pub loop-at-preserved : goal.loop-at-preserved
loop-at-preserved c =
    let s = c.index-lines-at.result in
    let text = string_bytes c.loop-at.text in
    line_more c.args.json c.args.session c.args.lines.now c.loop-at.at s text (string_bytes c.put_line.new.text) _ c.loop-at-test.true c.index-lines-at.is c.loop-at.invariant
    (c.in_ok-put_line.ensures ∙ ap (λ (call : List ℕ). text ++ line_text c.args.json call s.word (answer_text s.told)) (c.deref.ensures ∙ c.in_ok-call.ensures.ok))

pub returns : goal.returns
returns c = line_end c.args.json c.args.session c.args.lines.now c.loop-at.at (string_bytes c.loop-at.text) _ c.loop-at-test.false c.loop-at.invariant
