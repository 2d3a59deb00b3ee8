use Rattle.std.proofs.Common.{arith, rules}
use Rattle.std.proofs.lemmas.Grind.{common_steps}
use Rattle.report_text.proofs.Ascii.{more_utf8, string_utf8}
use Rattle.report_text.proofs.answer.values.Goals as goal

pub loop-row-init : goal.loop-row-init
loop-row-init c = record {
  text = search rules;
  utf8 = string_utf8 c.in_ok-head.head c.into_bytes-text.result c.into_bytes-text.ensures.value;
}

pub loop-row-preserved : goal.loop-row-preserved
loop-row-preserved c = record {
  text = grind (arith, common_steps);
  utf8 = more_utf8 _ _ _ c.in_ok-put_row.ensures.text c.loop-row.invariant.utf8 c.in_ok-put_row.ensures.ascii;
}
