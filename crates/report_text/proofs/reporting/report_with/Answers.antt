use Rattle.std.proofs.Common.{ℕ, List, Option, String, Vec, Global, string_bytes, ◌++◌, flat_map, length, reverse, ap, subst, ◌∙◌}
use Rattle.txn_data.specs.declared.entry.Entry.{Entry}
use Rattle.txn_types.specs.Script.{from_up}
use Rattle.report_text.specs.Shown.{Shown, SessionShown}
use Rattle.report_text.specs.Total.{total_text}
use Rattle.report_text.specs.Text.{last_session}
use Rattle.report_text.specs.Walk.{Saw, kept_lines, kept_passes}
use Rattle.report_text.proofs.Ascii.{string_utf8}
use Rattle.report_text.proofs.Lines.{whole, alone}
use Rattle.report_text.proofs.reporting.report_with.Goals as goal
use Rattle.report_text.proofs.reporting.report_with.Goals.{then-not-total_only+in_ok-put_sessions+in_ok-put_passes, else-not-total_only}

pub returns-clause-text : goal.returns-clause-text
returns-clause-text c =
    let seen = c.in_ok-seen.seen in
    let json = c.args.json in
    let h = reverse c.args.trace.now.entries in
    let saw = subst (λ (es : List Entry). Saw c.args.config.now (reverse es) seen.sessions.items seen.passes.items seen.counts) c.items.ensures c.in_ok-seen.ensures in
    let total = total_text json seen.counts c.args.agree in
    let text = string_bytes c.put_total.new.text in
    let bytes = ap (λ (v : Vec ℕ Global). v.items) c.into_bytes.ensures.value in
    elim c.if-not-total_only.branch [
      | then-not-total_only+in_ok-put_sessions+in_ok-put_passes w ↦
          let lines = w.in_ok-put_sessions.ensures
          ∙ (ap (λ (t : List ℕ). t ++ flat_map (kept_lines json w.as_slice.result.now) (from_up 1 last_session)) c.new-text.ensures.bytes
          ∙ ap (λ (ss : List SessionShown). flat_map (kept_lines json ss) (from_up 1 last_session)) w.as_slice.ensures.value) in
          let passes = w.in_ok-put_passes.ensures
          ∙ ap (λ (ps : List (Option Shown)). (string_bytes w.put_sessions.new.text) ++ flat_map (kept_passes json ps) (from_up 0 (length ps))) w.as_slice-then-not-total_only.ensures.value in
          let all = c.in_ok-put_total.ensures ∙ ap (λ (t : String Global). string_bytes t ++ total) w.text-is in
          rw w.if-not-total_only.true (bytes ∙ whole c.args.config.now json h seen.sessions.items seen.passes.items seen.counts c.args.agree
          (string_bytes w.put_sessions.new.text) (string_bytes w.put_passes.new.text) text saw lines passes all)
      | else-not-total_only w ↦
          let all = c.in_ok-put_total.ensures ∙ (ap (λ (t : String Global). string_bytes t ++ total) w.text-is ∙ ap (λ (t : List ℕ). t ++ total) c.new-text.ensures.bytes) in
          rw w.if-not-total_only.false (bytes ∙ alone c.args.config.now json h seen.sessions.items seen.passes.items seen.counts c.args.agree text saw all)
    ]

pub returns-clause-utf8 : goal.returns-clause-utf8
returns-clause-utf8 c = string_utf8 c.put_total.new.text c.into_bytes.result c.into_bytes.ensures.value
