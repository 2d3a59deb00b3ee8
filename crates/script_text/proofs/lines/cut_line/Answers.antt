use Rattle.std.proofs.Common.{sym, ◌∙◌}
use Rattle.std.proofs.lemmas.List.{drop_all, take_all, take_rest}
use Rattle.script_text.proofs.Cutting.{feed_between, line_end, line_last, line_more}
use Rattle.script_text.proofs.lines.cut_line.Goals as goal

pub returns-then-byte-eq10-clause-lines : goal.returns-then-byte-eq10-clause-lines
returns-then-byte-eq10-clause-lines c =
    rw take_rest (sym c.bytes.invariant ∙ line_end c.args.bytes.now c.bytes.i c.bytes-test.true c.if-byte-eq10.true)

pub returns-then-byte-eq10-clause-whole : goal.returns-then-byte-eq10-clause-whole
returns-then-byte-eq10-clause-whole c = λ _. rw take_rest (feed_between c.args.bytes.now c.bytes.i c.bytes-test.true c.if-byte-eq10.true)

pub bytes-preserved : goal.bytes-preserved
bytes-preserved c = sym (line_more c.args.bytes.now c.bytes.i c.bytes-test.true c.if-byte-eq10.false) ∙ c.bytes.invariant

pub returns-clause-lines : goal.returns-clause-lines
returns-clause-lines c =
    let s = c.args.bytes.now in
    let all = take_all c.bytes.i s c.bytes-test.false in
    let none = drop_all c.bytes.i s c.bytes-test.false in
    sym (rw (all, none) at c.bytes.invariant) ∙ line_last s c.requires
