use Rattle.std.proofs.Common.{◌≡◌, true, false, refl, sym, ◌∙◌, ap, subst}
use Rattle.txn_types.specs.History.{is_start}
use Rattle.law_own_readings.specs.Laws.{is_began}
use Rattle.trace_merge.specs.declared.session_clocks.SessionClocks.{SessionClocks}
use Rattle.trace_merge.proofs.Readings.{start_began}
use Rattle.trace_merge.proofs.Tracking.{Turns, turns_start, turns_began, turns_else, turns_tracks}
use Rattle.trace_merge.proofs.session_clocks.SessionClocks.after.Goals as goal
use Rattle.trace_merge.proofs.session_clocks.SessionClocks.after.Goals.{then-starts, else-starts+then-begins, else-starts+else-begins}

pub returns : goal.returns
returns c = λ i h mine place most t.
    let e = c.args.entry.now in
    let turned : Turns i e h c.if-starts.at = elim c.if-starts.branch [
      | then-starts w ↦
          let is : is_start e.event ≡ true = sym c.starts.ensures ∙ w.if-starts.true in
          turns_start i e h c.args.self c.if-starts.at mine is (start_began e.event is) t (ap (λ (d : SessionClocks). d.start) w.at-is ∙ place) (ap (λ (d : SessionClocks). d.last.before) w.at-is ∙ most)
          (ap (λ (d : SessionClocks). d.last.own) w.at-is) (ap (λ (d : SessionClocks). d.begun) w.at-is)
      | else-starts+then-begins w ↦
          let not : is_start e.event ≡ false = sym c.starts.ensures ∙ w.if-starts.false in
          let is : is_began e.event ≡ true = sym w.begins.ensures ∙ w.if-begins.true in
          turns_began i e h c.args.self c.if-starts.at mine not is t (ap (λ (d : SessionClocks). d.start) w.at-is) (ap (λ (d : SessionClocks). d.last) w.at-is) (ap (λ (d : SessionClocks). d.begun) w.at-is)
      | else-starts+else-begins w ↦
          let not : is_start e.event ≡ false = sym c.starts.ensures ∙ w.if-starts.false in
          let neither : is_began e.event ≡ false = sym w.begins.ensures ∙ w.if-begins.false in
          subst (λ (d : SessionClocks). Turns i e h d) (sym w.at-is) (turns_else i e h c.args.self not neither t)
    ] in
    turns_tracks i e h c.if-starts.at _ mine turned refl c.with_reading.ensures.before c.with_reading.ensures.own c.with_reading-2.ensures.before c.with_reading-2.ensures.own
