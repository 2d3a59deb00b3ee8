use Rattle.std.proofs.lemmas.Slice.Zip.{zip_end}
use Rattle.doc_path.proofs.Prefix.{is_prefix-drop_end}
use Rattle.doc_path.proofs.path.Path.is_prefix.Goals as goal

pub returns : goal.returns
returns c =
    let own = c.as_slice-own.result.now in
    let others = c.as_slice-others.result.now in
    let end =
    zip_end own others c.loop-part.yielded c.into_iter-part-iterator.result c.loop-part.part-iterator
    c.next.new.self c.next.result (cc) (cc) c.loop-part.yielded_by c.in-None.is c.next.ensures.steps in
    cc (is_prefix-drop_end own others _ end)
