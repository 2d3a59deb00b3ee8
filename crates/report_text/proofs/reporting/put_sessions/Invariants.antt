use Rattle.std.proofs.Common.{◌≡◌, ◌-◌, ◌++◌, flat_map, string_bytes}
use Rattle.txn_types.specs.Script.{from_up}
use Rattle.report_text.specs.Walk.{kept_lines}
use Rattle.report_text.proofs.reporting.put_sessions.Given as goal

abbrev pub invariant-loop-session : goal.invariant-loop-session
invariant-loop-session l = string_bytes l.text ≡ string_bytes l.initial.text ++ flat_map (kept_lines l.json l.sessions) (from_up 1 (l.session - 1))
