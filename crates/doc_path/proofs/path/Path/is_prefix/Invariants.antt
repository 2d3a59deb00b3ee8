use Rattle.std.proofs.Common.{◌≡◌, length, drop}
use Rattle.doc_path.specs.Path.{is_prefix}
use Rattle.doc_path.proofs.path.Path.is_prefix.Given as goal

abbrev pub invariant-loop-part : goal.invariant-loop-part
invariant-loop-part l =
    is_prefix l.own l.others ≡ is_prefix (drop (length l.yielded) l.own) (drop (length l.yielded) l.others)
