use Rattle.std.proofs.Common.{◌≡◌, ◌++◌, [], drop, flat_map, length, take, vec_len}
use Rattle.script_text.specs.Queues.{lists_of}
use Rattle.script_text.specs.Written.{line_text, told_lines}
use Rattle.script_text.proofs.Queueing.{AreLeft, AreOfBytes}
use Rattle.script_text.proofs.writing.write_commands.Given as goal

abbrev pub invariant-lines : goal.invariant-lines
invariant-lines l = record {
  room : vec_len l.queues ≡ 1001;
  each : AreLeft l.plans (take l.session-index l.order) (lists_of l.queues.items);
  text : l.out.items ++ flat_map line_text (told_lines l.plans (take l.session-index l.order) (drop l.session-index l.order))
      ≡ l.fn.out.items ++ flat_map line_text (told_lines l.plans [] l.order);
  front : take (length l.fn.out.items) l.out.items ≡ l.fn.out.items;
  bytes : AreOfBytes l.plans (take l.session-index l.order);
}
