use Rattle.std.proofs.Common.{◌≡◌, length, drop}
use Rattle.doc_path.specs.Path.{path_order}
use Rattle.doc_path.proofs.path.Path.cmp.Given as goal

abbrev pub invariant-loop-part : goal.invariant-loop-part
invariant-loop-part l =
    path_order l.own l.others ≡ path_order (drop (length l.yielded) l.own) (drop (length l.yielded) l.others)
