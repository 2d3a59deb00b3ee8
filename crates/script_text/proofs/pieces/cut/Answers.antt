use Rattle.std.proofs.Common.{sym, ◌∙◌}
use Rattle.std.proofs.lemmas.List.{drop_all, take_all, take_rest}
use Rattle.script_text.proofs.Parting.{pieces_end, pieces_more, pieces_none}
use Rattle.script_text.proofs.pieces.cut.Goals as goal

pub returns-then-is_mark-clause-pieces : goal.returns-then-is_mark-clause-pieces
returns-then-is_mark-clause-pieces c =
    rw take_rest (sym c.bytes.invariant
    ∙ pieces_end c.args.marks c.args.bytes.now c.bytes.i c.bytes.within c.bytes-test.true (sym c.is_mark.ensures ∙ c.if-is_mark.true))

pub bytes-preserved : goal.bytes-preserved
bytes-preserved c =
    rw c.after-within.ensures (sym (pieces_more c.args.marks c.args.bytes.now c.bytes.i c.bytes.within c.bytes-test.true (sym c.is_mark.ensures ∙ c.if-is_mark.false))
    ∙ c.bytes.invariant)

pub returns-clause-pieces : goal.returns-clause-pieces
returns-clause-pieces c =
    let s = c.args.bytes.now in
    let all = take_all c.bytes.i s c.bytes-test.false in
    let none = drop_all c.bytes.i s c.bytes-test.false in
    sym (rw (all, none) at c.bytes.invariant) ∙ pieces_none c.args.marks s c.bytes.within
