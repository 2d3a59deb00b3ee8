use Rattle.std.proofs.Common.{◌≡◌, ◌++◌, take, IsAscii}
use Rattle.sub_doc_key.specs.Showing.{shown_path}
use Rattle.sub_doc_key.proofs.show.show.Given as goal

abbrev pub invariant-loop-i : goal.invariant-loop-i
invariant-loop-i l = record {
  text : l.out.items ≡ l.fn.out.items ++ shown_path (take l.i l.path);
  ascii : IsAscii (shown_path (take l.i l.path));
}
