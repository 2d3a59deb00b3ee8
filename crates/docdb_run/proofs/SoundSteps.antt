-- What is sound between two commands stays so over one more, and so over all of a script.
use Rattle.std.proofs.Common.{◌≡◌, ℕ, ◌<◌, ◌≤◌, ◌+◌, ◌^◌, max, Bool, true, false, ◌||◌, List, [], ◌∷◌, ◌++◌, Ok, Err, Result, refl, sym, arith, length, reverse, subst, inl, inr, ◌⊎◌, nat_eq}
use Rattle.std.proofs.lemmas.Bool.{eqb-true}
use Rattle.std.proofs.lemmas.List.{append-nil}
use Rattle.hybrid_time.specs.declared.time_refusal.TimeRefusal.{TimeRefusal}
use Rattle.hybrid_time.specs.declared.time_refusal.TimeRefusal.TheVariants as time_refusal
use Rattle.doc_path.specs.Path.{Parts}
use Rattle.txn_data.specs.declared.place.Place.{Place}
use Rattle.txn_data.specs.declared.command.Command.{Command}
use Rattle.txn_data.specs.declared.command.Command.TheVariants as command
use Rattle.txn_types.specs.Lists.{Member}
use Rattle.txn_types.specs.History.{History}
use Rattle.txn_types.specs.Run.{mover_at}
use Rattle.docdb_run.specs.BeforeLogs.{as_logged}
use Rattle.txn_types.specs.Reads.{Read, reads, IsFinal, Right, Steady}
use Rattle.docdb_run.specs.Form.{cluster, IsFormLine, AreFormLines, IsForm}
use Rattle.docdb_run.specs.Course.{Course, at_first, one, entries_of, course_after, entries_from, read_time, single_id, single_time, after_single, after_read, after_clock}
use Rattle.docdb_run.proofs.Times.{next_above}
use Rattle.docdb_run.proofs.Inv.{Inv, between}
use Rattle.docdb_run.proofs.Raw.{raw_mover}
use Rattle.docdb_run.proofs.ReadSteps.{q8}
use Rattle.docdb_run.proofs.OtherSteps.{d2, p5, o4}
use Rattle.docdb_run.proofs.Logged.{raw_single, raw_read}
use Rattle.docdb_run.proofs.Commits.{AllSimple, singles, commits_upto_more, upto_below, writes_one_more}
use Rattle.docdb_run.proofs.ReadsOk.{ReadOk, Sound, own_told_in, last_id, ok_more, ok_same, right_if, steady_if}
use Rattle.docdb_run.proofs.NewRead.{new_ok}
use Rattle.docdb_run.proofs.Courses.{place_is, course_is, one_command, course_end, reverse_join, told_history, whole_history, whole_is, first_inv}

either_true : (b c : Bool) → (b || c) ≡ true → (b ≡ true) ⊎ (c ≡ true)
either_true true c is = inl refl
either_true false c is = inr is

-- a single write
pub sound_single : (h : History) (k : Course) (path : Parts) (v : List ℕ) (priority : ℕ) (time : Result ℕ TimeRefusal) →
    Sound h k → single_time k ≡ time → Sound (raw_single k path v priority time h) (after_single k path v time)
unfolding singles reads
sound_single h k path v priority (Ok c) s is =
    let above = next_above k.tablet k.session k.clock c is in
    let lt : k.session < c = above.1 in
    record {
      simple = (tt, (tt, (tt, (tt, (tt, (tt, (tt, (tt, s.simple))))))));
      order = (upto_below k.session c (singles h) lt s.upto, s.order);
      upto = (omega arith, commits_upto_more k.session (max k.session c) (singles h) (omega arith) s.upto);
      writes = writes_one_more (singles h) k.versions (single_id k) c path v s.writes;
      told = λ x t. elim (either_true (nat_eq (single_id k) x) (own_told_in x h) t) [
        | inl now ↦ let e : single_id k ≡ x = eqb-true (single_id k) x now in omega arith
        | inr before ↦ let le : x ≤ last_id k = s.told x before in omega arith
      ];
      reads_ok = λ read m. ok_more h k c (single_id k) _ _ (after_single k path v (Ok c)) read (s.reads_ok read m)
          (above.0) refl (omega arith) (omega arith) refl refl;
    }
sound_single h k path v priority (Err (time_refusal.ClockFull at)) s is = record {
  simple = (tt, (tt, (tt, (tt, (tt, (tt, (tt, (tt, s.simple))))))));
  order = s.order;
  upto = s.upto;
  writes = s.writes;
  told = λ x t. let le : x ≤ last_id k = s.told x t in omega arith;
  reads_ok = λ read m. ok_same h k _ _ read (s.reads_ok read m) (omega arith) (omega arith) (omega arith) refl;
}
sound_single h k path v priority (Err (time_refusal.ClockRange reading)) s is = record {
  simple = (tt, (tt, (tt, (tt, (tt, (tt, (tt, (tt, s.simple))))))));
  order = s.order;
  upto = s.upto;
  writes = s.writes;
  told = λ x t. let le : x ≤ last_id k = s.told x t in omega arith;
  reads_ok = λ read m. ok_same h k _ _ read (s.reads_ok read m) (omega arith) (omega arith) (omega arith) refl;
}

-- a read
pub sound_read : (h : History) (k : Course) (path : Parts) (strict : Bool) → mover_at cluster one h ≡ between k → Sound h k →
    Sound (raw_read k path strict h) (after_read k)
unfolding singles reads
sound_read h k path strict is s = record {
  simple = (tt, (tt, (tt, (tt, (tt, (tt, (tt, (tt, s.simple))))))));
  order = s.order;
  upto = commits_upto_more k.session (read_time k) (singles h) (omega arith) s.upto;
  writes = s.writes;
  told = λ x t. s.told x t;
  reads_ok = λ read m. elim m [
    | inl same ↦ subst (λ (r : Read). ReadOk (q8 k path strict false h) (after_read k) r) (sym same) (new_ok h k path strict is s)
    | inr before ↦ ok_same h k _ _ read (s.reads_ok read before) (omega arith) (omega arith) (omega arith) refl
  ];
}

-- a clock line
pub sound_clock : (h : History) (k : Course) (micros : ℕ) → Sound h k → Sound (d2 k micros h) (after_clock k micros)
unfolding singles reads
sound_clock h k micros s = record {
  simple = (tt, (tt, s.simple));
  order = s.order;
  upto = s.upto;
  writes = s.writes;
  told = λ x t. s.told x t;
  reads_ok = λ read m. ok_same h k _ _ read (s.reads_ok read m) (omega arith) (omega arith) (omega arith) refl;
}

-- each command
abbrev pub SoundAfter : History → Course → Command → Type 0
SoundAfter h k c = Sound (reverse (entries_of k c) ++ h) (course_after k c)

pub sound_command : (h : History) (k : Course) (c : Command) → mover_at cluster one h ≡ between k → IsFormLine k.clock c →
    Sound h k → SoundAfter h k c
sound_command h k (command.SinglePut place v priority) is f s =
    subst (λ (p : Place). SoundAfter h k (command.SinglePut p v priority)) (sym (place_is place f.0))
    (sound_single h k place.path v priority (single_time k) s refl)
sound_command h k (command.Read strict (place ∷ [])) is f s =
    subst (λ (p : Place). SoundAfter h k (command.Read strict (p ∷ []))) (sym (place_is place f))
    (sound_read h k place.path strict is s)
sound_command h k (command.Read strict (place ∷ other ∷ more)) is f s = absurd f
sound_command h k (command.Read strict []) is f s = absurd f
sound_command h k (command.Clock node micros) is f s =
    subst (λ (n : ℕ). SoundAfter h k (command.Clock n micros)) (sym f.0) (sound_clock h k micros s)
sound_command h k (command.Begin priority) is f s = absurd f
sound_command h k (command.Put place v) is f s = absurd f
sound_command h k (command.Del place) is f s = absurd f
sound_command h k command.Commit is f s = absurd f
sound_command h k command.Abort is f s = absurd f
sound_command h k (command.Scan strict place) is f s = absurd f
sound_command h k (command.SingleDel place priority) is f s = absurd f
sound_command h k (command.Restart actor) is f s = absurd f
sound_command h k (command.Apply tablet) is f s = absurd f
sound_command h k command.End is f s = absurd f

-- all of them
pub sound_all : (cs : List Command) (h : History) (k : Course) → Inv (as_logged cluster h) k → Sound h k → AreFormLines k.clock cs →
    k.commands + length cs ≤ 2 ^ 40 → Sound (reverse (entries_from k cs) ++ h) (course_end k cs)
unfolding entries_from course_end AreFormLines
sound_all [] h k inv s f few = s
sound_all (c ∷ cs) h k inv s f few =
    let is = course_is k c f.0 in
    let next = one_command h k c inv f.0 (omega arith) in
    let sound : SoundAfter h k c = sound_command h k c (raw_mover h k inv) f.0 s in
    let fits : (course_after k c).commands + length cs ≤ 2 ^ 40 = rw is.1 (omega arith) in
    let rest : AreFormLines (course_after k c).clock cs = rw is.0 f.1 in
    rw (reverse_join (entries_of k c) (entries_from (course_after k c) cs) h)
    (sound_all cs (reverse (entries_of k c) ++ h) (course_after k c) next sound rest fits)

pub first_sound : Sound [] at_first
unfolding singles reads
first_sound = record {
  simple = tt;
  order = tt;
  upto = tt;
  writes = refl;
  told = λ x t. absurd cc;
  reads_ok = λ read m. absurd m;
}

pub told_sound : (cs : List Command) → IsForm cs → Sound (told_history cs) (course_end at_first cs)
told_sound cs f =
    subst (λ (h : History). Sound h (course_end at_first cs)) (append-nil (told_history cs))
    (sound_all cs [] at_first first_inv first_sound f.lines (omega (arith, f.few)))

-- with the last pass
pub whole_simple : (cs : List Command) → IsForm cs → AllSimple (whole_history cs)
whole_simple cs f = rw (whole_is cs) (tt, (tt, (tt, (tt, (tt, (told_sound cs f).simple)))))

pub whole_reads : (cs : List Command) → IsForm cs → (read : Read) → Member read (reads (whole_history cs)) →
    ReadOk (whole_history cs) (course_end at_first cs) read
unfolding reads singles
whole_reads cs f read m =
    let s = told_sound cs f in
    let k = course_end at_first cs in
    let before : Member read (reads (told_history cs)) = subst (λ (h : History). Member read (reads h)) (whole_is cs) m in
    subst (λ (h : History). ReadOk h k read) (sym (whole_is cs))
    (ok_same (told_history cs) k (p5 ∷ o4 (told_history cs)) k read (s.reads_ok read before) (omega arith) (omega arith) (omega arith) refl)

pub whole_final : (cs : List Command) → IsForm cs → (read : Read) → Member read (reads (whole_history cs)) → IsFinal cluster read
whole_final cs f read m = (whole_reads cs f read m).final

pub whole_right : (cs : List Command) → IsForm cs → (read : Read) → Member read (reads (whole_history cs)) →
    Right cluster (whole_history cs) read
whole_right cs f read m = right_if (whole_history cs) (course_end at_first cs) read (whole_simple cs f) (whole_reads cs f read m)

pub whole_steady : (cs : List Command) → IsForm cs → (read : Read) → Member read (reads (whole_history cs)) →
    Steady cluster (whole_history cs) read
whole_steady cs f read m = steady_if (whole_history cs) (course_end at_first cs) read (whole_simple cs f) (whole_reads cs f read m)
