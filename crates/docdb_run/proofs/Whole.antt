-- The course of a whole script follows its plan, does all of it, and is the serial schedule's.
use Rattle.std.proofs.Common.{◌≡◌, ℕ, ◌<◌, Bool, true, false, List, [], ◌∷◌, ◌++◌, refl, sym, ap, ◌∙◌, arith, reverse, subst, inl, inr, ◌⊎◌, nat_eq, nat_lt}
use Rattle.std.proofs.lemmas.Bool.{eqb-true, ltb-true}
use Rattle.std.proofs.lemmas.List.{append-nil}
use Rattle.std.proofs.Math.Seq.{take-length}
use Rattle.txn_data.specs.declared.actor.Actor.{Actor}
use Rattle.txn_data.specs.declared.actor.Actor.TheVariants.{Session}
use Rattle.txn_data.specs.declared.session_plan.SessionPlan.{SessionPlan}
use Rattle.txn_data.specs.declared.command.Command.{Command}
use Rattle.txn_data.specs.declared.command.Command.TheVariants as command
use Rattle.txn_data.specs.declared.entry.Entry.{Entry}
use Rattle.txn_types.specs.Lists.{Member}
use Rattle.txn_types.specs.History.{History, same_actor}
use Rattle.txn_types.specs.Run.{mover_at}
use Rattle.txn_types.specs.Script.{lines, told_since, commands_of, Follows, FollowsLines, AllTold, HasPassed, Whole}
use Rattle.docdb_run.specs.Form.{cluster, plan_of, IsFormLine, AreFormLines, IsForm}
use Rattle.docdb_run.specs.Course as course
use Rattle.docdb_run.specs.Course.{Course, one, applier, course_after, entries_from, at_first, pass_entries, all_entries}
use Rattle.docdb_run.proofs.Inv.{between}
use Rattle.docdb_run.proofs.Raw.{raw_mover}
use Rattle.docdb_run.proofs.OtherSteps.{p1, p2, p3, p4, p5}
use Rattle.docdb_run.proofs.Courses.{course_is, course_end, reverse_join, told_history, whole_history, whole_is, told_inv}
use Rattle.docdb_run.proofs.Lines.{lines_all, OthersSilent, silent_lines}

-- the entries of the last pass, the newest first
abbrev pub pass_list : List Entry
pass_list = p5 ∷ p4 ∷ p3 ∷ p2 ∷ p1 ∷ []

-- an actor that is neither the session nor the tablet has no entry among those of the commands
pub silent_of : (a : Actor) (k : Course) (c : Command) → IsFormLine k.clock c → same_actor one a ≡ false → same_actor course.t0 a ≡ false →
    OthersSilent a (reverse (course.entries_of k c))
silent_of a k (command.SinglePut place v priority) f s t = (s, (s, (t, (s, (s, (t, (s, (s, tt))))))))
silent_of a k (command.Read strict (place ∷ [])) f s t = (s, (s, (t, (s, (s, (t, (s, (s, tt))))))))
silent_of a k (command.Read strict (place ∷ other ∷ more)) f s t = absurd f
silent_of a k (command.Read strict []) f s t = absurd f
silent_of a k (command.Clock node micros) f s t = (s, (s, tt))
silent_of a k (command.Begin priority) f s t = absurd f
silent_of a k (command.Put place v) f s t = absurd f
silent_of a k (command.Del place) f s t = absurd f
silent_of a k command.Commit f s t = absurd f
silent_of a k command.Abort f s t = absurd f
silent_of a k (command.Scan strict place) f s t = absurd f
silent_of a k (command.SingleDel place priority) f s t = absurd f
silent_of a k (command.Restart actor) f s t = absurd f
silent_of a k (command.Apply tablet) f s t = absurd f
silent_of a k command.End f s t = absurd f

pub silent_all : (a : Actor) (cs : List Command) (h : History) (k : Course) → AreFormLines k.clock cs → same_actor one a ≡ false →
    same_actor course.t0 a ≡ false → lines a (reverse (entries_from k cs) ++ h) ≡ lines a h
unfolding entries_from AreFormLines
silent_all a [] h k f s t = refl
silent_all a (c ∷ cs) h k f s t =
    let facts = course_is k c f.0 in
    let rest : AreFormLines (course_after k c).clock cs = rw facts.0 f.1 in
    rw (reverse_join (course.entries_of k c) (entries_from (course_after k c) cs) h)
    (silent_all a cs (reverse (course.entries_of k c) ++ h) (course_after k c) rest s t
    ∙ silent_lines a (reverse (course.entries_of k c)) h (silent_of a k c f.0 s t))

-- the lines of the session, of another one, and of the applier
pub told_lines : (cs : List Command) → IsForm cs → lines one (told_history cs) ≡ cs
unfolding lines
told_lines cs f =
    ap (lines one) (sym (append-nil (told_history cs))) ∙ lines_all cs [] at_first f.lines

pub whole_lines : (cs : List Command) → IsForm cs → lines one (whole_history cs) ≡ cs
unfolding lines
whole_lines cs f = ap (lines one) (whole_is cs) ∙ told_lines cs f

pub silent_whole : (a : Actor) (cs : List Command) → IsForm cs → same_actor one a ≡ false → same_actor course.t0 a ≡ false →
    same_actor applier a ≡ false → lines a (whole_history cs) ≡ []
unfolding lines
silent_whole a cs f s t p =
    ap (lines a) (whole_is cs)
    ∙ silent_lines a pass_list (told_history cs) (p, (p, (t, (p, (p, tt)))))
    ∙ ap (lines a) (sym (append-nil (told_history cs)))
    ∙ silent_all a cs [] at_first f.lines s t

pub applier_lines : (cs : List Command) → IsForm cs → lines applier (told_history cs) ≡ []
unfolding lines
applier_lines cs f = ap (lines applier) (sym (append-nil (told_history cs))) ∙ silent_all applier cs [] at_first f.lines refl refl

-- the plan of the session
pub plan_one : (cs : List Command) → commands_of 1 (plan_of cs).sessions ≡ cs
unfolding commands_of
plan_one [] = refl
plan_one (c ∷ cs) = refl

pub plan_other : (cs : List Command) (i : ℕ) → nat_eq 1 i ≡ false → commands_of i (plan_of cs).sessions ≡ []
unfolding commands_of
plan_other [] i ne = refl
plan_other (c ∷ cs) i ne = rw ne refl

choose_line : (b : Bool) (i : ℕ) → (nat_eq 1 i ≡ b) → (nat_eq 1 i ≡ true) ⊎ (nat_eq 1 i ≡ false)
choose_line true i is = inl is
choose_line false i is = inr is

pub whole_follows : (cs : List Command) → IsForm cs → Follows (plan_of cs) (whole_history cs)
whole_follows cs f i = elim (choose_line (nat_eq 1 i) i refl) [
  | inl same ↦ subst (λ (n : ℕ). FollowsLines (lines (Session n) (whole_history cs)) (commands_of n (plan_of cs).sessions)) (eqb-true 1 i same)
      (inl (rw (whole_lines cs f, plan_one cs) (sym (take-length cs))))
  | inr other ↦ inl (rw (silent_whole (Session i) cs f other refl refl) refl)
]

-- all of it is told
pub whole_mover : (cs : List Command) → IsForm cs → mover_at cluster one (whole_history cs) ≡ between (course_end at_first cs)
unfolding mover_at
whole_mover cs f = ap (mover_at cluster one) (whole_is cs) ∙ raw_mover (told_history cs) (course_end at_first cs) (told_inv cs f)

pub whole_told : (cs : List Command) → IsForm cs → AllTold cluster (plan_of cs) 1 (whole_history cs)
whole_told cs f = rw (whole_mover cs f, whole_lines cs f, plan_one cs) (refl, inl refl)

pub whole_sessions : (cs : List Command) → IsForm cs → (p : SessionPlan) → Member p (plan_of cs).sessions →
    AllTold cluster (plan_of cs) p.session (whole_history cs)
whole_sessions [] f p m = absurd m
whole_sessions (c ∷ cs) f p m = elim m [
  | inl same ↦
      let is : p.session ≡ 1 = ap (λ (q : SessionPlan). q.session) same in
      subst (λ (n : ℕ). AllTold cluster (plan_of (c ∷ cs)) n (whole_history (c ∷ cs))) (sym is) (whole_told (c ∷ cs) f)
  | inr none ↦ absurd none
]

pub whole_passed : (cs : List Command) → IsForm cs → HasPassed cluster 0 (whole_history cs)
unfolding lines mover_at told_since
whole_passed cs f = rw (whole_is cs) (record {
  passes = simp append-nil (rw (applier_lines cs f) refl);
  told = refl;
  last = refl;
})

pub whole_appliers : (cs : List Command) → IsForm cs → (k : ℕ) → nat_lt k cluster.tablets ≡ true → HasPassed cluster k (whole_history cs)
whole_appliers cs f k lt =
    let small : k < 1 = ltb-true k 1 lt in
    let is : 0 ≡ k = omega arith in
    subst (λ (n : ℕ). HasPassed cluster n (whole_history cs)) is (whole_passed cs f)

pub whole_whole : (cs : List Command) → IsForm cs → Whole cluster (plan_of cs) (whole_history cs)
whole_whole cs f = record { follows = whole_follows cs f; sessions = whole_sessions cs f; appliers = whole_appliers cs f }
