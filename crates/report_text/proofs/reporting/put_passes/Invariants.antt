use Rattle.std.proofs.Common.{◌≡◌, ◌++◌, flat_map, string_bytes}
use Rattle.txn_types.specs.Script.{from_up}
use Rattle.report_text.specs.Walk.{kept_passes}
use Rattle.report_text.proofs.reporting.put_passes.Given as goal

abbrev pub invariant-loop-tablet : goal.invariant-loop-tablet
invariant-loop-tablet l = string_bytes l.text ≡ string_bytes l.initial.text ++ flat_map (kept_passes l.json l.passes) (from_up 0 l.tablet)
