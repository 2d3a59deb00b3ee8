-- The course of all commands of a script is a run.
use Rattle.std.proofs.Common.{◌≡◌, ℕ, ◌<◌, ◌≤◌, ◌+◌, ◌^◌, Bool, List, [], ◌∷◌, ◌++◌, Ok, Err, Result, refl, sym, ap, arith, reverse, length, subst, inl, append_assoc}
use Rattle.std.proofs.lemmas.List.{reverse-append, append-nil}
use Rattle.txn_data.specs.declared.place.Place.{Place}
use Rattle.txn_data.specs.declared.command.Command.{Command}
use Rattle.txn_data.specs.declared.command.Command.TheVariants as command
use Rattle.txn_data.specs.declared.entry.Entry.{Entry}
use Rattle.hybrid_time.specs.declared.time_refusal.TimeRefusal.{TimeRefusal}
use Rattle.txn_types.specs.History.{History}
use Rattle.txn_types.specs.Plan.{IsCluster, IsPlace, IsShort}
use Rattle.txn_types.specs.Clock.{last_time, has_given, lease_over, down_since, has_failed}
use Rattle.txn_types.specs.Tablet.{provisional_over, versions_over}
use Rattle.txn_types.specs.Run.{Run, Steps, mover_at, flight}
use Rattle.docdb_run.specs.BeforeLogs.{as_logged}
use Rattle.docdb_run.specs.Form.{cluster, IsFormLine, AreFormLines, IsForm, clock_after}
use Rattle.docdb_run.specs.Course.{Course, at_first, entries_of, course_after, entries_from, pass_entries, all_entries, single_time, after_single, after_read, after_clock}
use Rattle.docdb_run.proofs.Inv.{Inv}
use Rattle.docdb_run.proofs.SingleSteps.{on_t0, single_inv}
use Rattle.docdb_run.proofs.ReadSteps.{read_inv}
use Rattle.docdb_run.proofs.OtherSteps.{clock_inv, p5, o4, pass_steps}
use Rattle.docdb_run.proofs.Logged.{logged_single, logged_read, logged_clock, logged_pass}

-- a place of the one tablet
pub place_is : (place : Place) → IsPlace cluster place → place ≡ on_t0 place.path
place_is place p =
    let zero_is : place.tablet ≡ 0 = omega arith in
    ap (λ (n : ℕ). record { tablet = n; path = place.path }) zero_is

-- the course after a command: its clock, and how many commands it began
pub single_clock_is : (k : Course) (path : List (List ℕ)) (v : List ℕ) (time : Result ℕ TimeRefusal) →
    ((after_single k path v time).clock ≡ k.clock) × ((after_single k path v time).commands ≡ k.commands + 1)
single_clock_is k path v (Ok c) = (refl, refl)
single_clock_is k path v (Err e) = (refl, refl)

pub course_is : (k : Course) (c : Command) → IsFormLine k.clock c →
    ((course_after k c).clock ≡ clock_after k.clock c) × ((course_after k c).commands ≡ k.commands + 1)
course_is k (command.SinglePut place v priority) f = single_clock_is k place.path v (single_time k)
course_is k (command.Read strict (place ∷ [])) f = (refl, refl)
course_is k (command.Read strict (place ∷ other ∷ more)) f = absurd f
course_is k (command.Read strict []) f = absurd f
course_is k (command.Clock node micros) f = (refl, refl)
course_is k (command.Begin priority) f = absurd f
course_is k (command.Put place v) f = absurd f
course_is k (command.Del place) f = absurd f
course_is k command.Commit f = absurd f
course_is k command.Abort f = absurd f
course_is k (command.Scan strict place) f = absurd f
course_is k (command.SingleDel place priority) f = absurd f
course_is k (command.Restart actor) f = absurd f
course_is k (command.Apply tablet) f = absurd f
course_is k command.End f = absurd f

-- one command goes on with a run
abbrev pub GoesOn : History → Course → Command → Type 0
GoesOn h k c = Inv (as_logged cluster (reverse (entries_of k c) ++ h)) (course_after k c)

pub one_single : (h : History) (k : Course) (place : Place) (v : List ℕ) (priority : ℕ) → Inv (as_logged cluster h) k →
    IsPlace cluster place → IsShort v → k.commands < 2 ^ 40 → GoesOn h k (command.SinglePut place v priority)
one_single h k place v priority inv is_place short few =
    let P : Place → Type 0 = λ (p : Place). GoesOn h k (command.SinglePut p v priority) in
    let on_zero : IsPlace cluster (on_t0 place.path) = (omega arith, is_place.1) in
    subst P (sym (place_is place is_place))
    (subst (λ (g : History). Inv g (after_single k place.path v (single_time k)))
    (sym (logged_single h (as_logged cluster h) k place.path v priority (single_time k) refl inv refl))
    (single_inv (as_logged cluster h) k place.path v priority (single_time k) inv on_zero short few refl))

pub one_read : (h : History) (k : Course) (strict : Bool) (place : Place) → Inv (as_logged cluster h) k →
    IsPlace cluster place → k.commands < 2 ^ 40 → GoesOn h k (command.Read strict (place ∷ []))
one_read h k strict place inv is_place few =
    let P : Place → Type 0 = λ (p : Place). GoesOn h k (command.Read strict (p ∷ [])) in
    let on_zero : IsPlace cluster (on_t0 place.path) = (omega arith, is_place.1) in
    subst P (sym (place_is place is_place))
    (subst (λ (g : History). Inv g (after_read k))
    (sym (logged_read h (as_logged cluster h) k place.path strict refl inv))
    (read_inv (as_logged cluster h) k place.path strict inv on_zero few))

pub one_clock : (h : History) (k : Course) (node micros : ℕ) → Inv (as_logged cluster h) k → node ≡ 0 →
    micros ≤ 4000000000000000 → k.commands < 2 ^ 40 → GoesOn h k (command.Clock node micros)
one_clock h k node micros inv is_zero low few =
    let P : ℕ → Type 0 = λ (n : ℕ). GoesOn h k (command.Clock n micros) in
    subst P (sym is_zero)
    (subst (λ (g : History). Inv g (after_clock k micros))
    (sym (logged_clock h (as_logged cluster h) k micros refl))
    (clock_inv (as_logged cluster h) k micros inv few low))

pub one_command : (h : History) (k : Course) (c : Command) → Inv (as_logged cluster h) k → IsFormLine k.clock c →
    k.commands < 2 ^ 40 → GoesOn h k c
one_command h k (command.SinglePut place v priority) inv f few = one_single h k place v priority inv f.0 f.1 few
one_command h k (command.Read strict (place ∷ [])) inv f few = one_read h k strict place inv f few
one_command h k (command.Read strict (place ∷ other ∷ more)) inv f few = absurd f
one_command h k (command.Read strict []) inv f few = absurd f
one_command h k (command.Clock node micros) inv f few = one_clock h k node micros inv f.0 f.2 few
one_command h k (command.Begin priority) inv f few = absurd f
one_command h k (command.Put place v) inv f few = absurd f
one_command h k (command.Del place) inv f few = absurd f
one_command h k command.Commit inv f few = absurd f
one_command h k command.Abort inv f few = absurd f
one_command h k (command.Scan strict place) inv f few = absurd f
one_command h k (command.SingleDel place priority) inv f few = absurd f
one_command h k (command.Restart actor) inv f few = absurd f
one_command h k (command.Apply tablet) inv f few = absurd f
one_command h k command.End inv f few = absurd f

-- and all of them
unfoldable pub course_end : Course → List Command → Course
course_end k [] = k
course_end k (c ∷ cs) = course_end (course_after k c) cs

pub reverse_join : (xs ys h : List Entry) → reverse (xs ++ ys) ++ h ≡ reverse ys ++ (reverse xs ++ h)
reverse_join xs ys h = rw (reverse-append xs ys) (append_assoc (reverse ys) (reverse xs) h)

pub all_commands : (cs : List Command) (h : History) (k : Course) → Inv (as_logged cluster h) k → AreFormLines k.clock cs →
    k.commands + length cs ≤ 2 ^ 40 → Inv (as_logged cluster (reverse (entries_from k cs) ++ h)) (course_end k cs)
unfolding entries_from course_end AreFormLines
all_commands [] h k inv f few = inv
all_commands (c ∷ cs) h k inv f few =
    let is = course_is k c f.0 in
    let next : GoesOn h k c = one_command h k c inv f.0 (omega arith) in
    let fits : (course_after k c).commands + length cs ≤ 2 ^ 40 = rw is.1 (omega arith) in
    let rest : AreFormLines (course_after k c).clock cs = rw is.0 f.1 in
    rw (reverse_join (entries_of k c) (entries_from (course_after k c) cs) h)
    (all_commands cs (reverse (entries_of k c) ++ h) (course_after k c) next rest fits)

pub first_inv : Inv (as_logged cluster []) at_first
unfolding as_logged Steps mover_at flight last_time has_given lease_over down_since has_failed provisional_over versions_over
first_inv = record {
  steps = tt;
  tablet = record {
    serve = tt;
    last_is = refl;
    prov = refl;
    vers = refl;
    down = refl;
    sound = refl;
    free = inl refl;
    order = tt;
    upto = tt;
  };
  mover = refl;
  quiet = refl;
  passes = refl;
  still = refl;
  upto = tt;
  clock = omega arith;
}

-- the history of all commands, and with the last pass
abbrev pub told_history : List Command → History
told_history cs = reverse (entries_from at_first cs)

abbrev pub whole_history : List Command → History
whole_history cs = reverse (all_entries cs)

pub told_inv : (cs : List Command) → IsForm cs → Inv (as_logged cluster (told_history cs)) (course_end at_first cs)
told_inv cs f =
    subst (λ (h : History). Inv (as_logged cluster h) (course_end at_first cs)) (append-nil (told_history cs))
    (all_commands cs [] at_first first_inv f.lines (omega (arith, f.few)))

pub whole_is : (cs : List Command) → whole_history cs ≡ p5 ∷ o4 (told_history cs)
whole_is cs = reverse-append (entries_from at_first cs) pass_entries

pub whole_steps : (cs : List Command) → IsForm cs → Steps cluster (as_logged cluster (whole_history cs))
whole_steps cs f =
    let inv = told_inv cs f in
    rw (whole_is cs)
    (subst (λ (g : History). Steps cluster g) (sym (logged_pass (told_history cs) (as_logged cluster (told_history cs)) (course_end at_first cs) refl inv))
    (pass_steps (as_logged cluster (told_history cs)) (course_end at_first cs) inv))

pub is_cluster : IsCluster cluster
is_cluster = record {
  nodes = (omega arith, omega arith);
  tablets = (omega arith, omega arith);
  status = (omega arith, omega arith);
  passes = omega arith;
  skew = omega arith;
  lease = (omega arith, omega arith);
}

pub whole_run : (cs : List Command) → IsForm cs → Run cluster (as_logged cluster (whole_history cs))
whole_run cs f = (is_cluster, whole_steps cs f)

-- what was recorded before is a run too
pub earlier_steps : (later h : History) → Steps cluster (as_logged cluster (later ++ h)) → Steps cluster (as_logged cluster h)
unfolding Steps as_logged
earlier_steps [] h s = s
earlier_steps (e ∷ later) h s = earlier_steps later h s.0
