use Rattle.std.proofs.Common.{◌≡◌, ℕ, ◌<◌, true, false, max, ◌∷◌, Option, set, sym, ◌∙◌, ap, subst}
use Rattle.std.specs.Option.{unwrap_or}
use Rattle.trace_merge.specs.Seen.{greatest, is_values, JudgedFirst}
use Rattle.trace_merge.specs.declared.failed_read.FailedRead.{FailedRead}
use Rattle.trace_merge.specs.declared.walk.Walk.{Walk}
use Rattle.trace_merge.proofs.Walking.{walked_outside, walked_own, row_session, row_none}
use Rattle.trace_merge.proofs.Judging.{judged_else, judged_values}
use Rattle.trace_merge.proofs.walk.Walk.go_over.Goals as goal
use Rattle.trace_merge.proofs.walk.Walk.go_over.Goals.{in-Some, then-finishes_read, else-finishes_read, in_default}

pub returns : goal.returns
returns c = λ h place walked.
    let e = c.args.entry.now in
    let old = c.args.self.now in
    let most : c.max-self.result ≡ max c.match-row_of.self.greatest (unwrap_or e.reading 0) = c.max-self.ensures ∙ ap (λ (n : ℕ). max c.match-row_of.self.greatest n) c.unwrap_or.ensures in
    elim c.match-row_of.branch [
      | in-Some w ↦
          let n = w.in-Some.row in
          let of = row_session e.actor n (sym c.row_of.ensures.row ∙ w.in-Some.is) in
          let there : n < 1001 = w.in-Some.ensures.there in
          elim w.if-finishes_read.branch [
            | then-finishes_read v ↦
                let before : w.if-finishes_read.self.greatest ≡ greatest h = ap (λ (s : Walk). s.greatest) v.self-is ∙ walked.greatest in
                let is : is_values e.event ≡ true = sym w.finishes_read.ensures ∙ v.if-finishes_read.true in
                let failed : c.match-row_of.self.failed ≡ v.earlier-self.result = ap (λ (s : Walk). s.failed) w.self-is ∙ ap (λ (s : Walk). s.failed) v.self-is in
                walked_own c.args.skew_us n e h old _ w.after.result of.1 of.0 walked (ap (λ (s : Walk). s.sessions) w.self-is ∙ ap (λ (s : Walk). set s.sessions n w.after.result) v.self-is)
                (w.after.ensures n h of.0 place before (walked.sessions n _ there))
                (subst (λ (o : Option FailedRead). JudgedFirst c.args.skew_us (e ∷ h) o) (sym failed)
                (judged_values c.args.skew_us n e h _ old.failed v.failed.result v.earlier-self.result of.0 of.1 is walked.failed v.failed.ensures (walked.sessions n _ there) v.earlier-self.ensures))
                (most ∙ ap (λ (k : ℕ). max k (unwrap_or e.reading 0)) (ap (λ (s : Walk). s.greatest) w.self-is ∙ ap (λ (s : Walk). s.greatest) v.self-is))
            | else-finishes_read v ↦
                let before : w.if-finishes_read.self.greatest ≡ greatest h = ap (λ (s : Walk). s.greatest) v.self-is ∙ walked.greatest in
                let not : is_values e.event ≡ false = sym w.finishes_read.ensures ∙ v.if-finishes_read.false in
                let failed : c.match-row_of.self.failed ≡ old.failed = ap (λ (s : Walk). s.failed) w.self-is ∙ ap (λ (s : Walk). s.failed) v.self-is in
                walked_own c.args.skew_us n e h old _ w.after.result of.1 of.0 walked (ap (λ (s : Walk). s.sessions) w.self-is ∙ ap (λ (s : Walk). set s.sessions n w.after.result) v.self-is)
                (w.after.ensures n h of.0 place before (walked.sessions n _ there))
                (subst (λ (o : Option FailedRead). JudgedFirst c.args.skew_us (e ∷ h) o) (sym failed) (judged_else c.args.skew_us e h old.failed not walked.failed))
                (most ∙ ap (λ (k : ℕ). max k (unwrap_or e.reading 0)) (ap (λ (s : Walk). s.greatest) w.self-is ∙ ap (λ (s : Walk). s.greatest) v.self-is))
          ]
      | in_default w ↦
          walked_outside c.args.skew_us e h old _ (row_none e.actor (sym c.row_of.ensures.row ∙ w.in_default.is)) walked (ap (λ (s : Walk). s.sessions) w.self-is) (ap (λ (s : Walk). s.failed) w.self-is)
          (most ∙ ap (λ (k : ℕ). max k (unwrap_or e.reading 0)) (ap (λ (s : Walk). s.greatest) w.self-is))
    ]
