use Rattle.std.proofs.Common.{◌+◌, ◌∷◌, take, drop, ap, sym, ◌∙◌, arith}
use Rattle.std.proofs.lemmas.List.{take_all, length-drop}
use Rattle.std.proofs.lemmas.Bool.{eq-eqb, ne_eqb}
use Rattle.docdb_run.specs.Form.{lines_of}
use Rattle.docdb_run.proofs.FormLines.{front-more, front-feed, front-all}
use Rattle.docdb_run.proofs.form.split_line.Goals as goal

pub returns-then-byte-eq10-clause-lines : goal.returns-then-byte-eq10-clause-lines
returns-then-byte-eq10-clause-lines c =
    let bytes = c.args.bytes.now in
    let at = c.loop-at.at in
    front-feed bytes at 0 c.loop-at-test.true (eq-eqb _ _ c.if-byte-eq10.true) c.loop-at.invariant
    ∙ ap (λ rest. take at bytes ∷ lines_of rest) (sym (take_all _ (drop (at + 1) bytes) (omega (arith, length-drop (at + 1) bytes))))

pub loop-at-preserved : goal.loop-at-preserved
loop-at-preserved c = front-more c.args.bytes.now c.loop-at.at 0 c.loop-at-test.true (ne_eqb _ _ c.if-byte-eq10.false) c.loop-at.invariant

pub returns-clause-lines : goal.returns-clause-lines
returns-clause-lines c = front-all c.args.bytes.now c.loop-at.at c.loop-at-test.false c.requires c.loop-at.invariant
