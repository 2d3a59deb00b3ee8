use Rattle.std.proofs.Common.{List, All, IsAscii, subst, take_all}
use Rattle.doc_value.specs.declared.primitive.Primitive.{Primitive}
use Rattle.doc_value.specs.Showing.{shown}
use Rattle.doc_key.proofs.Shown.{columns_ascii}
use Rattle.doc_key.proofs.show.show_columns.Goals as goal

pub returns-after-loop-column-clause-ascii : goal.returns-after-loop-column-clause-ascii
returns-after-loop-column-clause-ascii c =
    let Are : List Primitive → Type 0 = λ cs. All (λ (d : Primitive). IsAscii (shown d)) cs in
    let others : Are c.in-Some.others.now = subst Are (take_all c.loop-column.column-index c.in-Some.others.now c.loop-column-test.false) c.loop-column.invariant.ascii in
    rw c.in-Some.ensures.cases.0 (columns_ascii c.in-Some.first.now c.in-Some.others.now c.in_ok-text.ensures.ascii others)
