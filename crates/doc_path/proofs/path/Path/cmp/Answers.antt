use Rattle.std.proofs.Common.{length, [], arith}
use Rattle.std.proofs.lemmas.Grind.{common_steps}
use Rattle.std.proofs.lemmas.Slice.Zip.{zip_turn, zip_end}
use Rattle.doc_path.proofs.Order.{path_order-drop_apart, path_order-drop_alike, path_order-drop_end}
use Rattle.doc_path.proofs.path.Path.cmp.Goals as goal

pub returns-then-is_ne : goal.returns-then-is_ne
returns-then-is_ne c =
    let own = c.as_slice-own.result.now in
    let others = c.as_slice-others.result.now in
    let turn =
    zip_turn own others c.loop-part.yielded c.into_iter-part-iterator.result c.loop-part.part-iterator
    c.next.new.self c.next.result (cc) (cc) c.loop-part.yielded_by (c.in-Some.part, c.in-Some.others_part)
    c.in-Some.is c.next.ensures.steps in
    cc (path_order-drop_apart own others (length c.loop-part.yielded) c.cmp-order.result turn.0 turn.1
    (cc (turn.2 [], turn.3 [])) (cc))

pub loop-part-preserved : goal.loop-part-preserved
loop-part-preserved c =
    let own = c.as_slice-own.result.now in
    let others = c.as_slice-others.result.now in
    let turn =
    zip_turn own others c.loop-part.yielded c.into_iter-part-iterator.result c.loop-part.part-iterator
    c.next.new.self c.next.result (cc) (cc) c.loop-part.yielded_by (c.in-Some.part, c.in-Some.others_part)
    c.in-Some.is c.next.ensures.steps in
    let alike =
    path_order-drop_alike own others (length c.loop-part.yielded) c.cmp-order.result turn.0 turn.1
    (cc (turn.2 [], turn.3 [])) (cc) in
    grind (arith, common_steps, alike)

pub returns : goal.returns
returns c =
    let own = c.as_slice-own.result.now in
    let others = c.as_slice-others.result.now in
    let end =
    zip_end own others c.loop-part.yielded c.into_iter-part-iterator.result c.loop-part.part-iterator
    c.next.new.self c.next.result (cc) (cc) c.loop-part.yielded_by c.in-None.is c.next.ensures.steps in
    cc (path_order-drop_end own others _ end)
