-- The text of a whole course is the report of what was told.
use Rattle.std.proofs.Common.{◌≡◌, ℕ, ◌≤◌, ◌+◌, Bool, true, List, [], ◌∷◌, ◌++◌, Option, Some, None, Ok, Err, Result, refl, sym, ap, ◌∙◌, arith, length, reverse, map, filter, flat_map, subst, append_assoc}
use Rattle.std.specs.List.{list_all}
use Rattle.std.proofs.lemmas.Bool.{le-leb}
use Rattle.std.proofs.lemmas.List.{append-nil, reverse-append}
use Rattle.std.proofs.lemmas.Grind.{flat_map-append}
use Rattle.hybrid_time.specs.declared.time_refusal.TimeRefusal.{TimeRefusal}
use Rattle.hybrid_time.specs.declared.time_refusal.TimeRefusal.TheVariants as time_refusal
use Rattle.doc_path.specs.Path.{Parts}
use Rattle.txn_data.specs.declared.place.Place.{Place}
use Rattle.txn_data.specs.declared.command.Command.{Command}
use Rattle.txn_data.specs.declared.command.Command.TheVariants as command
use Rattle.txn_data.specs.declared.told.Told.{Told}
use Rattle.txn_data.specs.declared.told.Told.TheVariants as told
use Rattle.txn_data.specs.declared.session_plan.SessionPlan.{SessionPlan}
use Rattle.txn_data.specs.declared.entry.Entry.{Entry}
use Rattle.txn_types.specs.History.{History, same_actor}
use Rattle.txn_types.specs.Run.{Mover, mover_at}
use Rattle.docdb_run.specs.BeforeLogs.{as_logged}
use Rattle.txn_types.specs.Reads.{reads, origin}
use Rattle.txn_types.specs.Script.{from_up}
use Rattle.txn_types.specs.Cause.{ToldAt, tells}
use Rattle.docdb_run.specs.Form.{cluster, plan_of, IsFormLine, AreFormLines, IsForm}
use Rattle.docdb_run.specs.Text.{command_line, session_line, told_to, session_lines, last_line, pass_lines, is_session, session_tells, reads_up_to, skew_ok, total_of, text_of, report_lines, report_text, word_of}
use Rattle.docdb_run.specs.Course as course
use Rattle.docdb_run.specs.Course.{Course, one, t0, applier, told_of, told_from, course_after, entries_from, at_first, single_time, after_single}
use Rattle.docdb_run.proofs.Inv.{Inv, between}
use Rattle.docdb_run.proofs.Raw.{raw_mover}
use Rattle.docdb_run.proofs.OtherSteps.{d2, p5, o4}
use Rattle.docdb_run.proofs.Courses.{place_is, course_is, one_command, course_end, reverse_join, told_history, whole_history, whole_is, first_inv}
use Rattle.docdb_run.proofs.NewRead.{new_read, origin_is, own_reading_is}
use Rattle.docdb_run.proofs.Logged.{raw_single, raw_read}

-- what a command tells, and the history before that
abbrev pub told_at : History → Told → History → ToldAt
told_at h t before = record { who = one; reading = None; told = t; before = before }

-- the lines of the session so far
abbrev pub lines_so_far : History → List ℕ
lines_so_far h = session_lines cluster h 1

abbrev pub own_tells : History → List ToldAt
own_tells h = filter (λ (t : ToldAt). same_actor t.who one) (tells h)

-- one more that is told
pub line_more : (h g : History) (t : ToldAt) (text : List ℕ) → own_tells g ≡ t ∷ own_tells h → session_line cluster 1 t ≡ text →
    lines_so_far g ≡ lines_so_far h ++ text
unfolding told_to
line_more h g t text are is =
    ap (λ (ts : List ToldAt). flat_map (session_line cluster 1) (reverse ts)) are
    ∙ (ap (flat_map (session_line cluster 1)) (reverse-append (t ∷ []) (own_tells h))
    ∙ (flat_map-append (session_line cluster 1) (reverse (own_tells h)) (t ∷ [])
    ∙ ap (λ (bytes : List ℕ). lines_so_far h ++ bytes) (append-nil (session_line cluster 1 t) ∙ is)))

abbrev pub LineAfter : History → Course → Command → Type 0
LineAfter h k c = lines_so_far (reverse (course.entries_of k c) ++ h)
    ≡ lines_so_far h ++ command_line 1 (k.commands + 1) (word_of (Some c)) (told_of k c)

numbered : (h : History) (k : Course) (word : List ℕ) (t : Told) → mover_at cluster one h ≡ between k →
    command_line 1 ((mover_at cluster one h).commands + 1) word t ≡ command_line 1 (k.commands + 1) word t
numbered h k word t is = ap (λ (m : Mover). command_line 1 (m.commands + 1) word t) is

pub line_after : (h : History) (k : Course) (c : Command) → mover_at cluster one h ≡ between k → IsFormLine k.clock c → LineAfter h k c
unfolding tells mover_at
line_after h k (command.SinglePut place v priority) is f =
    line_more h (reverse (course.entries_of k (command.SinglePut place v priority)) ++ h) _ _ refl (numbered h k (word_of (Some (command.SinglePut place v priority))) (told_of k (command.SinglePut place v priority)) is)
line_after h k (command.Read strict (place ∷ [])) is f =
    line_more h (reverse (course.entries_of k (command.Read strict (place ∷ []))) ++ h) _ _ refl (numbered h k (word_of (Some (command.Read strict (place ∷ [])))) (told_of k (command.Read strict (place ∷ []))) is)
line_after h k (command.Read strict (place ∷ other ∷ more)) is f = absurd f
line_after h k (command.Read strict []) is f = absurd f
line_after h k (command.Clock node micros) is f =
    line_more h (reverse (course.entries_of k (command.Clock node micros)) ++ h) _ _ refl (numbered h k (word_of (Some (command.Clock node micros))) (told_of k (command.Clock node micros)) is)
line_after h k (command.Begin priority) is f = absurd f
line_after h k (command.Put place v) is f = absurd f
line_after h k (command.Del place) is f = absurd f
line_after h k command.Commit is f = absurd f
line_after h k command.Abort is f = absurd f
line_after h k (command.Scan strict place) is f = absurd f
line_after h k (command.SingleDel place priority) is f = absurd f
line_after h k (command.Restart actor) is f = absurd f
line_after h k (command.Apply tablet) is f = absurd f
line_after h k command.End is f = absurd f

pub all_lines : (cs : List Command) (h : History) (k : Course) → Inv (as_logged cluster h) k → AreFormLines k.clock cs →
    k.commands + length cs ≤ 1099511627776 →
    lines_so_far (reverse (entries_from k cs) ++ h) ≡ lines_so_far h ++ report_lines (k.commands + 1) cs (told_from k cs)
unfolding entries_from AreFormLines report_lines told_from
all_lines [] h k inv f few = sym (append-nil (lines_so_far h))
all_lines (c ∷ cs) h k inv f few =
    let is = course_is k c f.0 in
    let next = one_command h k c inv f.0 (omega arith) in
    let fits : (course_after k c).commands + length cs ≤ 1099511627776 = rw is.1 (omega arith) in
    let rest : AreFormLines (course_after k c).clock cs = rw is.0 f.1 in
    let g : History = reverse (course.entries_of k c) ++ h in
    let text : List ℕ = command_line 1 (k.commands + 1) (word_of (Some c)) (told_of k c) in
    ap lines_so_far (reverse_join (course.entries_of k c) (entries_from (course_after k c) cs) h)
    ∙ (all_lines cs g (course_after k c) next rest fits
    ∙ (ap (λ (bytes : List ℕ). bytes ++ report_lines ((course_after k c).commands + 1) cs (told_from (course_after k c) cs))
    (line_after h k c (raw_mover h k inv) f.0)
    ∙ (append_assoc (lines_so_far h) text (report_lines ((course_after k c).commands + 1) cs (told_from (course_after k c) cs))
    ∙ ap (λ (n : ℕ). lines_so_far h ++ (text ++ report_lines (n + 1) cs (told_from (course_after k c) cs))) is.1)))

-- what the session was told, in order
abbrev newest_first : History → List Told
newest_first h = map (λ (t : ToldAt). t.told) (filter (λ (t : ToldAt). is_session t.who) (tells h))

pub tells_after : (h : History) (k : Course) (c : Command) → IsFormLine k.clock c →
    session_tells (reverse (course.entries_of k c) ++ h) ≡ session_tells h ++ told_of k c ∷ []
unfolding tells session_tells
tells_after h k (command.SinglePut place v priority) f = reverse-append (told_of k (command.SinglePut place v priority) ∷ []) (newest_first h)
tells_after h k (command.Read strict (place ∷ [])) f = reverse-append (told_of k (command.Read strict (place ∷ [])) ∷ []) (newest_first h)
tells_after h k (command.Read strict (place ∷ other ∷ more)) f = absurd f
tells_after h k (command.Read strict []) f = absurd f
tells_after h k (command.Clock node micros) f = reverse-append (told.Set ∷ []) (newest_first h)
tells_after h k (command.Begin priority) f = absurd f
tells_after h k (command.Put place v) f = absurd f
tells_after h k (command.Del place) f = absurd f
tells_after h k command.Commit f = absurd f
tells_after h k command.Abort f = absurd f
tells_after h k (command.Scan strict place) f = absurd f
tells_after h k (command.SingleDel place priority) f = absurd f
tells_after h k (command.Restart actor) f = absurd f
tells_after h k (command.Apply tablet) f = absurd f
tells_after h k command.End f = absurd f

pub all_tells : (cs : List Command) (h : History) (k : Course) → AreFormLines k.clock cs →
    session_tells (reverse (entries_from k cs) ++ h) ≡ session_tells h ++ told_from k cs
unfolding entries_from AreFormLines told_from
all_tells [] h k f = sym (append-nil (session_tells h))
all_tells (c ∷ cs) h k f =
    let is = course_is k c f.0 in
    let rest : AreFormLines (course_after k c).clock cs = rw is.0 f.1 in
    ap session_tells (reverse_join (course.entries_of k c) (entries_from (course_after k c) cs) h)
    ∙ (all_tells cs (reverse (course.entries_of k c) ++ h) (course_after k c) rest
    ∙ (ap (λ (ts : List Told). ts ++ told_from (course_after k c) cs) (tells_after h k c f.0)
    ∙ append_assoc (session_tells h) (told_of k c ∷ []) (told_from (course_after k c) cs)))

-- no reading recorded so far is above the clock
abbrev pub ReadUpto : ℕ → Option ℕ → Type 0
ReadUpto n None = Unit {0}
ReadUpto n (Some reading) = reading ≤ n

abbrev pub ReadingsUpto : ℕ → History → Type 0
ReadingsUpto n [] = Unit {0}
ReadingsUpto n (e ∷ h) = ReadUpto n e.reading × ReadingsUpto n h

upto_one : (n m : ℕ) (reading : Option ℕ) → n ≤ m → ReadUpto n reading → ReadUpto m reading
upto_one n m None le u = tt
upto_one n m (Some reading) le u = omega arith

readings_more : (n m : ℕ) (h : History) → n ≤ m → ReadingsUpto n h → ReadingsUpto m h
readings_more n m [] le u = tt
readings_more n m (e ∷ h) le u = (upto_one n m e.reading le u.0, readings_more n m h le u.1)

tested_one : (n : ℕ) (reading : Option ℕ) → ReadUpto n reading → reads_up_to n reading ≡ true
tested_one n None u = refl
tested_one n (Some reading) u = le-leb reading n u

tested : (n : ℕ) (h : History) → ReadingsUpto n h → list_all (λ (e : Entry). reads_up_to n e.reading) h ≡ true
tested n [] u = refl
tested n (e ∷ h) u = rw (tested_one n e.reading u.0) (tested n h u.1)

pub record SkewSo (h : History) (k : Course) : Type 0 where
  pub readings : ReadingsUpto k.clock h
  pub held : list_all (skew_ok cluster) (reads h) ≡ true

new_skew : (h : History) (k : Course) (path : Parts) (strict : Bool) → mover_at cluster one h ≡ between k → ReadingsUpto k.clock h →
    skew_ok cluster (new_read k path strict h) ≡ true
new_skew h k path strict is u =
    ap (λ (n : ℕ). list_all (λ (e : Entry). reads_up_to (n + 500000) e.reading) (origin cluster (new_read k path strict h))) (own_reading_is k path strict h is)
    ∙ (ap (λ (g : History). list_all (λ (e : Entry). reads_up_to (k.clock + 500000) e.reading) g) (origin_is k path strict h is)
    ∙ tested (k.clock + 500000) h (readings_more k.clock (k.clock + 500000) h (omega arith) u))

single_clock : (k : Course) (path : Parts) (v : List ℕ) (time : Result ℕ TimeRefusal) → k.clock ≡ (after_single k path v time).clock
single_clock k path v (Ok c) = refl
single_clock k path v (Err e) = refl

le_self : (n : ℕ) → n ≤ n
le_self n = omega arith

single_skew : (h : History) (k : Course) (path : Parts) (v : List ℕ) (priority : ℕ) (time : Result ℕ TimeRefusal) → SkewSo h k →
    SkewSo (raw_single k path v priority time h) (after_single k path v time)
unfolding reads
single_skew h k path v priority (Ok c) s = record { readings = (tt, (tt, (le_self k.clock, (tt, (tt, (tt, (tt, (tt, s.readings)))))))); held = s.held }
single_skew h k path v priority (Err (time_refusal.ClockFull at)) s = record { readings = (tt, (tt, (le_self k.clock, (tt, (tt, (tt, (tt, (tt, s.readings)))))))); held = s.held }
single_skew h k path v priority (Err (time_refusal.ClockRange reading)) s = record { readings = (tt, (tt, (le_self k.clock, (tt, (tt, (tt, (tt, (tt, s.readings)))))))); held = s.held }

read_skew : (h : History) (k : Course) (path : Parts) (strict : Bool) → mover_at cluster one h ≡ between k → SkewSo h k →
    SkewSo (raw_read k path strict h) (course.after_read k)
unfolding reads
read_skew h k path strict is s = record {
  readings = (tt, (tt, (tt, (tt, (tt, (le_self k.clock, (le_self k.clock, (tt, s.readings))))))));
  held = rw (new_skew h k path strict is s.readings) s.held;
}

clock_skew : (h : History) (k : Course) (micros : ℕ) → k.clock ≤ micros → SkewSo h k → SkewSo (d2 k micros h) (course.after_clock k micros)
unfolding reads
clock_skew h k micros le s = record { readings = (tt, (tt, readings_more k.clock micros h le s.readings)); held = s.held }

abbrev pub SkewAfter : History → Course → Command → Type 0
SkewAfter h k c = SkewSo (reverse (course.entries_of k c) ++ h) (course_after k c)

command_skew : (h : History) (k : Course) (c : Command) → mover_at cluster one h ≡ between k → IsFormLine k.clock c → SkewSo h k → SkewAfter h k c
command_skew h k (command.SinglePut place v priority) is f s =
    subst (λ (p : Place). SkewAfter h k (command.SinglePut p v priority)) (sym (place_is place f.0))
    (single_skew h k place.path v priority (single_time k) s)
command_skew h k (command.Read strict (place ∷ [])) is f s =
    subst (λ (p : Place). SkewAfter h k (command.Read strict (p ∷ []))) (sym (place_is place f)) (read_skew h k place.path strict is s)
command_skew h k (command.Read strict (place ∷ other ∷ more)) is f s = absurd f
command_skew h k (command.Read strict []) is f s = absurd f
command_skew h k (command.Clock node micros) is f s =
    subst (λ (n : ℕ). SkewAfter h k (command.Clock n micros)) (sym f.0) (clock_skew h k micros f.1 s)
command_skew h k (command.Begin priority) is f s = absurd f
command_skew h k (command.Put place v) is f s = absurd f
command_skew h k (command.Del place) is f s = absurd f
command_skew h k command.Commit is f s = absurd f
command_skew h k command.Abort is f s = absurd f
command_skew h k (command.Scan strict place) is f s = absurd f
command_skew h k (command.SingleDel place priority) is f s = absurd f
command_skew h k (command.Restart actor) is f s = absurd f
command_skew h k (command.Apply tablet) is f s = absurd f
command_skew h k command.End is f s = absurd f

all_skew : (cs : List Command) (h : History) (k : Course) → Inv (as_logged cluster h) k → AreFormLines k.clock cs →
    k.commands + length cs ≤ 1099511627776 → SkewSo h k → SkewSo (reverse (entries_from k cs) ++ h) (course_end k cs)
unfolding entries_from AreFormLines course_end
all_skew [] h k inv f few s = s
all_skew (c ∷ cs) h k inv f few s =
    let is = course_is k c f.0 in
    let next = one_command h k c inv f.0 (omega arith) in
    let fits : (course_after k c).commands + length cs ≤ 1099511627776 = rw is.1 (omega arith) in
    let rest : AreFormLines (course_after k c).clock cs = rw is.0 f.1 in
    rw (reverse_join (course.entries_of k c) (entries_from (course_after k c) cs) h)
    (all_skew cs (reverse (course.entries_of k c) ++ h) (course_after k c) next rest fits (command_skew h k c (raw_mover h k inv) f.0 s))

first_skew : SkewSo [] at_first
unfolding reads
first_skew = record { readings = tt; held = refl }

-- the text of all
told_skew : (cs : List Command) → IsForm cs → list_all (skew_ok cluster) (reads (told_history cs)) ≡ true
told_skew cs f =
    ap (λ (h : History). list_all (skew_ok cluster) (reads h)) (sym (append-nil (told_history cs)))
    ∙ (all_skew cs [] at_first first_inv f.lines (omega (arith, f.few)) first_skew).held

told_text : (cs : List Command) → IsForm cs → lines_so_far (told_history cs) ≡ report_lines 1 cs (told_from at_first cs)
unfolding tells told_to
told_text cs f =
    ap lines_so_far (sym (append-nil (told_history cs))) ∙ all_lines cs [] at_first first_inv f.lines (omega (arith, f.few))

told_all : (cs : List Command) → IsForm cs → session_tells (told_history cs) ≡ told_from at_first cs
unfolding tells session_tells
told_all cs f = ap session_tells (sym (append-nil (told_history cs))) ∙ all_tells cs [] at_first f.lines

session_part : (cs : List Command) → IsForm cs →
    flat_map (λ (p : SessionPlan). session_lines cluster (p5 ∷ o4 (told_history cs)) p.session) (plan_of cs).sessions
    ≡ report_lines 1 cs (told_from at_first cs)
unfolding report_lines told_from tells told_to
session_part [] f = refl
session_part (c ∷ cs) f = append-nil (lines_so_far (p5 ∷ o4 (told_history (c ∷ cs)))) ∙ told_text (c ∷ cs) f

total_part : (cs : List Command) → IsForm cs →
    total_of (session_tells (p5 ∷ o4 (told_history cs))) (list_all (skew_ok cluster) (reads (p5 ∷ o4 (told_history cs))))
    ≡ total_of (told_from at_first cs) true
unfolding tells session_tells reads
total_part cs f = rw (told_all cs f, told_skew cs f) refl

pass_part : (cs : List Command) →
    flat_map (pass_lines (p5 ∷ o4 (told_history cs))) (from_up 0 cluster.tablets) ≡ last_line 0 (told.Passed 0 0 0)
unfolding from_up tells
pass_part cs = append-nil (last_line 0 (told.Passed 0 0 0))

pub whole_text : (cs : List Command) → IsForm cs →
    text_of cluster (plan_of cs) (whole_history cs) ≡ report_text cs (told_from at_first cs) (told.Passed 0 0 0)
unfolding text_of
whole_text cs f =
    rw (whole_is cs, session_part cs f, pass_part cs, total_part cs f) refl
