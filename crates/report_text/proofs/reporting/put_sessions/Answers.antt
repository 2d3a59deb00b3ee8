use Rattle.std.proofs.Common.{◌≡◌, ℕ, ◌+◌, ◌-◌, List, ◌++◌, flat_map, get_or, sym, ap, ◌∙◌, arith, string_bytes}
use Rattle.std.proofs.lemmas.List.{append-nil, get_or_default}
use Rattle.txn_types.specs.Script.{from_up}
use Rattle.report_text.specs.Shown.{Shown, SessionShown}
use Rattle.report_text.specs.Text.{last_session, numbered_lines}
use Rattle.report_text.specs.Walk.{kept_lines, nothing_shown}
use Rattle.report_text.proofs.Lines.{one_more}
use Rattle.report_text.proofs.reporting.put_sessions.Goals as goal

pub loop-session-init : goal.loop-session-init
unfolding from_up
loop-session-init c = sym (append-nil (string_bytes c.args.text.now))

pub loop-session-preserved : goal.loop-session-preserved
loop-session-preserved c =
    let sessions = c.args.sessions.now in
    let i = c.loop-session.session in
    let text = string_bytes c.loop-session.text in
    let s = c.index-sessions-session.result in
    let same : s ≡ get_or sessions i nothing_shown = c.index-sessions-session.is ∙ get_or_default sessions i s nothing_shown c.loop-session-test.true in
    let lines = c.as_slice.ensures.value ∙ ap (λ (x : SessionShown). x.lines) (c.of_session.view_is ∙ same) in
    one_more (kept_lines c.args.json sessions) (string_bytes c.args.text.now) text (string_bytes c.put_session.new.text) 1 i (i + 1 - 1) (i - 1) (omega arith) (omega arith)
    c.loop-session.invariant
    (c.in_ok-put_session.ensures ∙ ap (λ (ls : List Shown). text ++ numbered_lines c.args.json i 1 ls) lines)

pub returns : goal.returns
returns c =
    let last : c.loop-session.session - 1 ≡ last_session = omega arith in
    c.loop-session.invariant ∙ ap (λ (k : ℕ). string_bytes c.args.text.now ++ flat_map (kept_lines c.args.json c.args.sessions.now) (from_up 1 k)) last
