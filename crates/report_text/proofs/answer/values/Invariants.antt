use Rattle.std.proofs.Common.{◌≡◌, ◌++◌, flat_map, take}
use Rattle.std.specs.Str.{IsUtf8}
use Rattle.report_text.specs.Answer.{row_text}
use Rattle.report_text.proofs.answer.values.Given as goal

abbrev pub invariant-loop-row : goal.invariant-loop-row
invariant-loop-row l = record {
  text : l.text.items ≡ l.initial.text.items ++ flat_map row_text (take l.row-index l.rows);
  utf8 : IsUtf8 l.text.items;
}
