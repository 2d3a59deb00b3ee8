-- The moves and the readings of a whole script are those of the serial schedule.
use Rattle.std.proofs.Common.{◌≡◌, ℕ, ◌+◌, Bool, false, List, [], ◌∷◌, ◌++◌, Option, Some, None, Ok, Err, Result, refl, sym, ap, ◌∙◌, arith, length, reverse, map, subst, replicate}
use Rattle.std.proofs.lemmas.List.{append-nil, reverse-append, map-append}
use Rattle.hybrid_time.specs.declared.time_refusal.TimeRefusal.{TimeRefusal}
use Rattle.hybrid_time.specs.declared.time_refusal.TimeRefusal.TheVariants as time_refusal
use Rattle.doc_path.specs.Path.{Parts}
use Rattle.txn_data.specs.declared.actor.Actor.{Actor}
use Rattle.txn_data.specs.declared.append.Append.TheVariants.{Nothing}
use Rattle.txn_data.specs.declared.place.Place.{Place}
use Rattle.txn_data.specs.declared.command.Command.{Command}
use Rattle.txn_data.specs.declared.command.Command.TheVariants as command
use Rattle.txn_data.specs.declared.told.Told.TheVariants as told
use Rattle.txn_data.specs.declared.event.Event.{Event}
use Rattle.txn_data.specs.declared.event.Event.TheVariants.{Tell}
use Rattle.txn_data.specs.declared.entry.Entry.{Entry}
use Rattle.txn_types.specs.History.{History}
use Rattle.txn_types.specs.Run.{mover_at}
use Rattle.txn_types.specs.Script.{lines, asker, entries_of, turns, count, in_line_order, moves, serial_moves, passes_at, from_up, clock_by, reading_of, number_at, ReadingsAsTold, Scheduled}
use Rattle.docdb_run.specs.Form.{cluster, plan_of, IsFormLine, AreFormLines, IsForm}
use Rattle.docdb_run.specs.Course as course
use Rattle.docdb_run.specs.Course.{Course, one, t0, applier, by, course_after, entries_from, at_first, pass_entries, all_entries, single_time, after_single}
use Rattle.docdb_run.proofs.OtherSteps.{d2}
use Rattle.docdb_run.proofs.SingleSteps.{e1, e2, e3, e4, e5, e6, e7, e8, h4, h5, single_line}
use Rattle.docdb_run.proofs.ReadSteps.{r1, r2, r3, r4, r5, r6, r7, r8, q2, q4, q5, q7}
use Rattle.docdb_run.proofs.Logged.{raw_single, raw_read}
use Rattle.docdb_run.proofs.Courses.{place_is, course_is, course_end, reverse_join, told_history, whole_history, whole_is}
use Rattle.docdb_run.proofs.Moves.{Block, block_here, none_above, in_order}
use Rattle.docdb_run.proofs.Whole.{pass_list, whole_lines, applier_lines}

-- the pass adds nothing to the session's entries, and is the applier's first command
pass_others : (n : ℕ) (g : History) → entries_of one n (pass_list ++ g) ≡ entries_of one n g
unfolding entries_of
pass_others n g = omega arith

session_moves : (cs : List Command) → IsForm cs →
    in_line_order (whole_history cs) [] (replicate (length cs) 1) ≡ map asker (entries_from at_first cs)
unfolding lines count
session_moves cs f =
    ap (λ (h : History). in_line_order h [] (replicate (length cs) 1)) (whole_is cs)
    ∙ (ap (λ (h : History). in_line_order (pass_list ++ h) [] (replicate (length cs) 1)) (sym (append-nil (told_history cs)))
    ∙ in_order cs pass_list [] at_first [] f.lines refl pass_others)

pass_block : (cs : List Command) → IsForm cs → Block applier 1 pass_list (told_history cs)
unfolding lines
pass_block cs f =
    let n : length (lines applier (told_history cs) ++ command.Apply 0 ∷ []) ≡ 1 = rw (applier_lines cs f) refl in
    (refl, simp append-nil n, (refl, simp append-nil n, (refl, simp append-nil n, (refl, simp append-nil n, (refl, n, tt)))))

applier_entries : (cs : List Command) → IsForm cs → entries_of applier 1 (whole_history cs) ≡ 5
applier_entries cs f =
    ap (entries_of applier 1) (whole_is cs)
    ∙ block_here applier 1 pass_list (told_history cs) (pass_block cs f)
    ∙ ap (λ (n : ℕ). n + 5) (none_above applier (told_history cs) 1 (rw (applier_lines cs f) (omega arith)))

applier_moves : (cs : List Command) → IsForm cs → passes_at cluster (whole_history cs) (cluster.passes + 1) ≡ replicate 5 applier
unfolding from_up
applier_moves cs f = rw (applier_entries cs f) refl

ends_none : (cs : List Command) → IsForm cs → turns (whole_history cs) one (length cs + 1) ≡ []
ends_none cs f =
    ap (λ (n : ℕ). replicate n one) (none_above one (whole_history cs) (length cs + 1) (rw (whole_lines cs f) (omega arith)))

serial_is : (cs : List Command) → IsForm cs → serial_moves cluster (plan_of cs) (whole_history cs) ≡ map asker (entries_from at_first cs)
unfolding from_up in_line_order entries_from
serial_is [] f = refl
serial_is (c ∷ cs) f =
    rw (session_moves (c ∷ cs) f, ends_none (c ∷ cs) f) (append-nil (map asker (entries_from at_first (c ∷ cs))))

map_reverse : (es : List Entry) → reverse (map asker (reverse es)) ≡ map asker es
map_reverse [] = refl
map_reverse (e ∷ es) =
    rw (reverse-append (e ∷ []) es, map-append asker (reverse es) (e ∷ []), reverse-append (map asker (reverse es)) (asker e ∷ []))
    (ap (λ (actors : List Actor). asker e ∷ actors) (map_reverse es))

pub whole_moves : (cs : List Command) → IsForm cs →
    moves (whole_history cs) ≡ serial_moves cluster (plan_of cs) (whole_history cs) ++ passes_at cluster (whole_history cs) (cluster.passes + 1)
whole_moves cs f =
    map_reverse (all_entries cs)
    ∙ (map-append asker (entries_from at_first cs) pass_entries
    ∙ (ap (λ (actors : List Actor). actors ++ replicate 5 applier) (sym (serial_is cs f))
    ∙ ap (λ (actors : List Actor). serial_moves cluster (plan_of cs) (whole_history cs) ++ actors) (sym (applier_moves cs f))))

-- only a clock line that is told sets a reading
abbrev pub IsSet : Event → Type 0
IsSet (Tell number told.Set) = Unit {0}
IsSet event = ⊥

pub no_clock : (line : Option Command) (event : Event) → (IsSet event → ⊥) → clock_by line event ≡ None
no_clock (Some (command.Clock node micros)) (Tell number told.Set) none = absurd (none tt)
no_clock line event none = refl

pub same_reading : (e : Entry) (h : History) → (IsSet e.event → ⊥) → reading_of cluster 0 (e ∷ h) ≡ reading_of cluster 0 h
unfolding reading_of
same_reading e h none = rw (no_clock (mover_at cluster e.actor h).line e.event none) refl

-- the reading between two commands, and that each recorded one was it
pub record ReadSo (h : History) (k : Course) : Type 0 where
  pub told : ReadingsAsTold cluster h
  pub now : reading_of cluster 0 h ≡ k.clock

single_sets : (n x : ℕ) (time : Result ℕ TimeRefusal) → IsSet (Tell n (course.single_told x time)) → ⊥
single_sets n x (Ok c) s = s
single_sets n x (Err (time_refusal.ClockFull at)) s = s
single_sets n x (Err (time_refusal.ClockRange reading)) s = s

single_clock : (k : Course) (path : Parts) (v : List ℕ) (time : Result ℕ TimeRefusal) → k.clock ≡ (after_single k path v time).clock
single_clock k path v (Ok c) = refl
single_clock k path v (Err e) = refl

pub single_reads : (h : History) (k : Course) (path : Parts) (v : List ℕ) (priority : ℕ) (time : Result ℕ TimeRefusal) → ReadSo h k →
    ReadSo (raw_single k path v priority time h) (after_single k path v time)
unfolding ReadingsAsTold
single_reads h k path v priority time s =
    let n1 : reading_of cluster 0 (e1 k (single_line path v priority) ∷ h) ≡ k.clock = same_reading (e1 k (single_line path v priority)) h (λ x. x) ∙ s.now in
    let n2 : reading_of cluster 0 (e2 k path ∷ e1 k (single_line path v priority) ∷ h) ≡ k.clock = same_reading (e2 k path) _ (λ x. x) ∙ n1 in
    let n3 : reading_of cluster 0 (e3 k path ∷ e2 k path ∷ e1 k (single_line path v priority) ∷ h) ≡ k.clock = same_reading (e3 k path) _ (λ x. x) ∙ n2 in
    let n4 : reading_of cluster 0 (h4 k path v priority h) ≡ k.clock = same_reading e4 _ (λ x. x) ∙ n3 in
    let n5 : reading_of cluster 0 (h5 k path v priority h) ≡ k.clock = same_reading (e5 k path v) _ (λ x. x) ∙ n4 in
    let n6 : reading_of cluster 0 (e6 k path v time Nothing ∷ h5 k path v priority h) ≡ k.clock = same_reading (e6 k path v time Nothing) _ (λ x. x) ∙ n5 in
    let n7 : reading_of cluster 0 (e7 time ∷ e6 k path v time Nothing ∷ h5 k path v priority h) ≡ k.clock = same_reading (e7 time) _ (λ x. x) ∙ n6 in
    record {
      told = ((((((((s.told, tt), tt), tt), tt), tt), sym n5), tt), tt);
      now = same_reading (e8 k time) _ (single_sets (k.commands + 1) (course.single_id k) time) ∙ n7 ∙ single_clock k path v time;
    }

pub read_reads : (h : History) (k : Course) (path : Parts) (strict : Bool) → ReadSo h k → ReadSo (raw_read k path strict h) (course.after_read k)
unfolding ReadingsAsTold
read_reads h k path strict s =
    let n1 : reading_of cluster 0 (r1 k path strict ∷ h) ≡ k.clock = same_reading (r1 k path strict) h (λ x. x) ∙ s.now in
    let n2 : reading_of cluster 0 (q2 k path strict h) ≡ k.clock = same_reading (r2 k path) _ (λ x. x) ∙ n1 in
    let n3 : reading_of cluster 0 (r3 k path false ∷ q2 k path strict h) ≡ k.clock = same_reading (r3 k path false) _ (λ x. x) ∙ n2 in
    let n4 : reading_of cluster 0 (q4 k path strict false h) ≡ k.clock = same_reading (r4 k) _ (λ x. x) ∙ n3 in
    let n5 : reading_of cluster 0 (q5 k path strict false h) ≡ k.clock = same_reading (r5 k path) _ (λ x. x) ∙ n4 in
    let n6 : reading_of cluster 0 (r6 k path ∷ q5 k path strict false h) ≡ k.clock = same_reading (r6 k path) _ (λ x. x) ∙ n5 in
    let n7 : reading_of cluster 0 (q7 k path strict false h) ≡ k.clock = same_reading (r7 k path) _ (λ x. x) ∙ n6 in
    record {
      told = ((((((((s.told, tt), sym n1), sym n2), tt), tt), tt), tt), tt);
      now = same_reading (r8 k path) _ (λ x. x) ∙ n7;
    }

pub clock_reads : (h : History) (k : Course) (micros : ℕ) → ReadSo h k → ReadSo (d2 k micros h) (course.after_clock k micros)
unfolding reading_of mover_at ReadingsAsTold
clock_reads h k micros s = record { told = ((s.told, tt), tt); now = refl }

abbrev pub ReadSoAfter : History → Course → Command → Type 0
ReadSoAfter h k c = ReadSo (reverse (course.entries_of k c) ++ h) (course_after k c)

pub command_reads : (h : History) (k : Course) (c : Command) → IsFormLine k.clock c → ReadSo h k → ReadSoAfter h k c
command_reads h k (command.SinglePut place v priority) f s =
    subst (λ (p : Place). ReadSoAfter h k (command.SinglePut p v priority)) (sym (place_is place f.0))
    (single_reads h k place.path v priority (single_time k) s)
command_reads h k (command.Read strict (place ∷ [])) f s =
    subst (λ (p : Place). ReadSoAfter h k (command.Read strict (p ∷ []))) (sym (place_is place f)) (read_reads h k place.path strict s)
command_reads h k (command.Read strict (place ∷ other ∷ more)) f s = absurd f
command_reads h k (command.Read strict []) f s = absurd f
command_reads h k (command.Clock node micros) f s =
    subst (λ (n : ℕ). ReadSoAfter h k (command.Clock n micros)) (sym f.0) (clock_reads h k micros s)
command_reads h k (command.Begin priority) f s = absurd f
command_reads h k (command.Put place v) f s = absurd f
command_reads h k (command.Del place) f s = absurd f
command_reads h k command.Commit f s = absurd f
command_reads h k command.Abort f s = absurd f
command_reads h k (command.Scan strict place) f s = absurd f
command_reads h k (command.SingleDel place priority) f s = absurd f
command_reads h k (command.Restart actor) f s = absurd f
command_reads h k (command.Apply tablet) f s = absurd f
command_reads h k command.End f s = absurd f

pub all_reads : (cs : List Command) (h : History) (k : Course) → AreFormLines k.clock cs → ReadSo h k →
    ReadSo (reverse (entries_from k cs) ++ h) (course_end k cs)
unfolding entries_from course_end AreFormLines
all_reads [] h k f s = s
all_reads (c ∷ cs) h k f s =
    let facts = course_is k c f.0 in
    let rest : AreFormLines (course_after k c).clock cs = rw facts.0 f.1 in
    rw (reverse_join (course.entries_of k c) (entries_from (course_after k c) cs) h)
    (all_reads cs (reverse (course.entries_of k c) ++ h) (course_after k c) rest (command_reads h k c f.0 s))

first_reads : ReadSo [] at_first
unfolding reading_of number_at ReadingsAsTold
first_reads = record { told = tt; now = refl }

pub told_reads : (cs : List Command) → IsForm cs → ReadSo (told_history cs) (course_end at_first cs)
told_reads cs f =
    subst (λ (h : History). ReadSo h (course_end at_first cs)) (append-nil (told_history cs)) (all_reads cs [] at_first f.lines first_reads)

pub whole_scheduled : (cs : List Command) → IsForm cs → Scheduled cluster (plan_of cs) (whole_history cs)
unfolding ReadingsAsTold
whole_scheduled cs f = record {
  order = whole_moves cs f;
  readings = rw (whole_is cs) (((((((told_reads cs f).told, tt), tt), tt), tt), tt));
}
