-- Each command has its answer, in every run.
use Rattle.std.proofs.Common.{◌≡◌, ℕ, [], ◌∷◌, Option, Some, None, refl, sym, subst, inl, inr, ◌⊎◌}
use Rattle.txn_data.specs.declared.actor.Actor.{Actor}
use Rattle.txn_data.specs.declared.command.Command.{Command}
use Rattle.txn_data.specs.declared.config.Config.{Config}
use Rattle.txn_data.specs.declared.told.Told.{Told}
use Rattle.txn_data.specs.declared.told.Told.TheVariants as told
use Rattle.txn_data.specs.declared.event.Event.{Event}
use Rattle.txn_data.specs.declared.event.Event.TheVariants.{Start, Ask, Serve, Hear, Tell, Restarted}
use Rattle.txn_types.specs.Lists.{Member}
use Rattle.txn_types.specs.History.{History}
use Rattle.txn_types.specs.Reads.{before_start}
use Rattle.txn_types.specs.Session.{Keeps}
use Rattle.txn_types.specs.Run.{Run, Steps, mover_at, program_of, session_of}
use Rattle.txn_types.specs.Cause.{ToldAt, tells, tells_by}
use Rattle.law_machines.proofs.Basics.{member_cases}
use Rattle.law_courses.specs.Course.{entry_of}
use Rattle.law_courses.specs.Laws.{CameAbout}
use Rattle.law_courses.proofs.Courses.{told_came_about}
use Rattle.law_told_commits.proofs.Says.{says_came}
use Rattle.law_answers.proofs.Programs.{Fits, line_says}
use Rattle.law_answers.specs.Laws.{EachCommandHasItsAnswer}
use Rattle.txn_promises.specs.Answers.{txn_of_line, IsAnswerTo, IsRefusal, IsAnswered}

one_of_two : (own : Option ℕ) (line : Command) (t : Told) → Fits own line t → IsRefusal t ⊎ IsAnswerTo own line t
one_of_two own line (told.Refused why) fits = inl tt
one_of_two own line t fits = inr fits

came_fits : (config : Config) (m : Actor) (h low : History) (s : Keeps) (reading : Option ℕ) (o : Option Command) (t : Told) → CameAbout config m h low s reading o t → (line : Command) × (o ≡ Some line) × Fits (txn_of_line (session_of m) s line) line t
came_fits config m h low s reading None t came = absurd came
came_fits config m h low s reading (Some line) t came = (
  line,
  refl,
  elim came.1 [
    | inl way ↦ says_came (Fits (txn_of_line (session_of m) s line) line) m h reading low None (program_of config m s line) t (line_says config m s line) way
    | inr memory ↦ subst (λ (u : Told). Fits (txn_of_line (session_of m) s line) line u) (sym memory) tt
  ],
)

event_answered : (config : Config) (m : Actor) (reading : Option ℕ) (event : Event) (h : History) (t : ToldAt) → Run config (entry_of m reading event ∷ h) → Member t (tells_by h (entry_of m reading event)) → IsAnswered config t
event_answered config m reading (Tell number now) h t run here = elim here [
  | inl is ↦
      let s = mover_at config m h in
      let came = came_fits config m (entry_of m reading (Tell number now) ∷ h) (before_start m h) s.keeps s.reading s.line now
      (told_came_about config (entry_of m reading (Tell number now) ∷ h) h (entry_of m reading (Tell number now)) run (inl (refl, refl))) in
      subst (λ (u : ToldAt). IsAnswered config u) (sym is) (record { line = came.0; under_way = came.1; fits = one_of_two (txn_of_line (session_of m) s.keeps came.0) came.0 now came.2 })
  | inr nothing ↦ absurd nothing
]
event_answered config m reading (Start number line) h t run here = absurd here
event_answered config m reading (Ask to asked) h t run here = absurd here
event_answered config m reading (Serve from asked r time append) h t run here = absurd here
event_answered config m reading (Hear from r) h t run here = absurd here
event_answered config m reading (Restarted from kept) h t run here = absurd here

pub each_answered : EachCommandHasItsAnswer
unfolding tells Steps
each_answered config [] t run here = absurd here
each_answered config (e ∷ h) t run here = elim (member_cases t (tells_by h e) (tells h) here) [
  | inl now ↦ event_answered config e.actor e.reading e.event h t run now
  | inr deeper ↦ each_answered config h t (run.0, run.1.0) deeper
]
