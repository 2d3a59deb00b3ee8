-- Each refusal that a course tells has its cause.
use Rattle.std.proofs.Common.{◌≡◌, ℕ, ◌<◌, ◌≤◌, ◌+◌, ◌^◌, max, Bool, true, false, List, [], ◌∷◌, ◌++◌, Some, Ok, Err, Result, refl, sym, ap, ◌∙◌, arith, length, reverse, subst, inl, inr, nat_lt, nat_eq, if◌then◌else◌}
use Rattle.std.proofs.lemmas.Bool.{eqb-true, ltb-false, ltb-true}
use Rattle.std.proofs.lemmas.List.{append-nil}
use Rattle.hybrid_time.specs.Time.{time_after, time_at, micros_of, logical_of, greatest_reading}
use Rattle.hybrid_time.specs.declared.time_refusal.TimeRefusal.{TimeRefusal}
use Rattle.hybrid_time.specs.declared.time_refusal.TimeRefusal.TheVariants as time_refusal
use Rattle.doc_path.specs.Path.{Parts}
use Rattle.txn_data.specs.declared.append.Append.TheVariants.{Nothing}
use Rattle.txn_data.specs.declared.place.Place.{Place}
use Rattle.txn_data.specs.declared.command.Command.{Command}
use Rattle.txn_data.specs.declared.command.Command.TheVariants as command
use Rattle.txn_data.specs.declared.reply.Reply.TheVariants as reply
use Rattle.txn_data.specs.declared.refusal.Refusal.TheVariants as refusal
use Rattle.txn_types.specs.Lists.{Member, rising}
use Rattle.txn_types.specs.History.{History, own}
use Rattle.txn_types.specs.Tablet.{greatest_fate, provisional}
use Rattle.docdb_run.specs.BeforeLogs.{as_logged}
use Rattle.txn_types.specs.Cause.{ToldAt, ServedAt, tells, served_since, Cause, CounterEnded, needs_time, floor_asked}
use Rattle.docdb_run.specs.Form.{cluster, IsFormLine, AreFormLines, IsForm}
use Rattle.docdb_run.specs.Course.{Course, one, t0, tablet_time, course_after, entries_of, entries_from, at_first, single_time}
use Rattle.docdb_run.proofs.Inv.{Inv}
use Rattle.docdb_run.proofs.TabletState.{TabletAt, provisional_none, max_zero, is_due}
use Rattle.docdb_run.proofs.SingleSteps.{e3, h5, h7, h8, single_of, tablet4}
use Rattle.docdb_run.proofs.ReadSteps.{q8}
use Rattle.docdb_run.proofs.OtherSteps.{d2, p5, o4}
use Rattle.docdb_run.proofs.Logged.{logged_single, logged_read, logged_clock, logged_pass}
use Rattle.docdb_run.proofs.Courses.{place_is, course_is, one_command, course_end, reverse_join, told_history, whole_history, whole_is, first_inv, told_inv}

-- what a refused time says
pub record FullAt (b reading at : ℕ) : Type 0 where
  pub same : at ≡ b
  pub ended : logical_of b ≡ 4095
  pub early : reading ≤ micros_of b

full_after : (t u : Bool) (b r at : ℕ) → nat_lt (micros_of b) r ≡ t → nat_eq (logical_of b) 4095 ≡ u →
    (if t then Ok (time_at r 0) else (if u then Err (time_refusal.ClockFull b) else Ok (b + 1))) ≡ Err (time_refusal.ClockFull at) → FullAt b r at
full_after true u b r at lt eq is = cc
full_after false true b r at lt eq is = record { same = cc; ended = eqb-true (logical_of b) 4095 eq; early = ltb-false (micros_of b) r lt }
full_after false false b r at lt eq is = cc

full_next : (t : Bool) (b r at : ℕ) → (if t then Err (time_refusal.ClockRange r) else time_after b r) ≡ Err (time_refusal.ClockFull at) → FullAt b r at
full_next true b r at is = cc
full_next false b r at is = full_after (nat_lt (micros_of b) r) (nat_eq (logical_of b) 4095) b r at refl refl is

range_after : (t u : Bool) (b r reading : ℕ) →
    (if t then Ok (time_at r 0) else (if u then Err (time_refusal.ClockFull b) else Ok (b + 1))) ≡ Err (time_refusal.ClockRange reading) → ⊥
range_after true u b r reading is = cc
range_after false true b r reading is = cc
range_after false false b r reading is = cc

pub range_next : (t : Bool) (b r reading : ℕ) → nat_lt greatest_reading r ≡ t →
    (if t then Err (time_refusal.ClockRange r) else time_after b r) ≡ Err (time_refusal.ClockRange reading) → greatest_reading < r
range_next true b r reading lt is = ltb-true greatest_reading r lt
range_next false b r reading lt is = absurd (range_after (nat_lt (micros_of b) r) (nat_eq (logical_of b) 4095) b r reading is)

pub needs_single : (k : Course) (path : Parts) (v : List ℕ) (h : History) → provisional h ≡ [] → needs_time (single_of k path v) h ≡ true
unfolding rising
needs_single k path v h none = rw none refl

pub asks_floor : (k : Course) (path : Parts) (v : List ℕ) → floor_asked (single_of k path v) ≡ Some k.session
unfolding greatest_fate
asks_floor k path v = ap (λ (n : ℕ). Some n) (max_zero k.session)

-- a refused single write
pub full_cause : (g : History) (k : Course) (path : Parts) (v : List ℕ) (priority at : ℕ) → Inv g k →
    single_time k ≡ Err (time_refusal.ClockFull at) →
    CounterEnded one (h7 k path v priority (Err (time_refusal.ClockFull at)) g) t0 at
unfolding served_since
full_cause g k path v priority at inv is =
    let full : FullAt (max k.tablet k.session) k.clock at = full_next (nat_lt greatest_reading k.clock) (max k.tablet k.session) k.clock at is in
    let tablet : TabletAt (e3 k path ∷ own t0 g) k.tablet k.versions = tablet4 g k path inv in
    let served : ServedAt = record {
      by = t0;
      reading = Some k.clock;
      asked = single_of k path v;
      reply = reply.Refused (refusal.ClockFull at);
      append = Nothing;
      before = h5 k path v priority g;
    } in
    let none : provisional (e3 k path ∷ own t0 g) ≡ [] = provisional_none (e3 k path ∷ own t0 g) k.tablet k.versions tablet in
    record {
      served = served;
      here = inl refl;
      by = refl;
      answered = refl;
      takes = needs_single k path v (e3 k path ∷ own t0 g) none;
      floor = k.session;
      asks = asks_floor k path v;
      greater = full.same ∙ ap (λ (n : ℕ). max n k.session) (sym tablet.last_is);
      ended = rw full.same full.ended;
      early = rw full.same full.early;
    }

abbrev pub Caused : History → Type 0
Caused g = (t : ToldAt) → Member t (tells g) → Cause cluster t

-- one more entry that tells something
more_told : (t : ToldAt) (ts : List ToldAt) (u : ToldAt) → Cause cluster t → ((s : ToldAt) → Member s ts → Cause cluster s) →
    Member u (t ∷ ts) → Cause cluster u
more_told t ts u now before m = elim m [
  | inl same ↦ subst (λ (s : ToldAt). Cause cluster s) (sym same) now
  | inr more ↦ before u more
]

pub single_cause : (g : History) (k : Course) (path : Parts) (v : List ℕ) (priority : ℕ) (time : Result ℕ TimeRefusal) → Inv g k →
    single_time k ≡ time → Caused g → Caused (h8 k path v priority time g)
unfolding tells
single_cause g k path v priority (Ok c) inv is before = λ t m. more_told _ (tells g) t tt before m
single_cause g k path v priority (Err (time_refusal.ClockFull at)) inv is before =
    λ t m. more_told _ (tells g) t (full_cause g k path v priority at inv is) before m
single_cause g k path v priority (Err (time_refusal.ClockRange reading)) inv is before =
    let high : greatest_reading < k.clock = range_next (nat_lt greatest_reading k.clock) (max k.tablet k.session) k.clock reading refl is in
    absurd (omega (arith, high, inv.clock))

pub read_cause : (g : History) (k : Course) (path : Parts) (strict due : Bool) → Caused g → Caused (q8 k path strict due g)
unfolding tells
read_cause g k path strict due before = λ t m. more_told _ (tells g) t tt before m

pub clock_cause : (g : History) (k : Course) (micros : ℕ) → Caused g → Caused (d2 k micros g)
unfolding tells
clock_cause g k micros before = λ t m. more_told _ (tells g) t tt before m

pub pass_cause : (g : History) → Caused g → Caused (p5 ∷ o4 g)
unfolding tells
pass_cause g before = λ t m. more_told _ (tells g) t tt before m

abbrev pub CausedAfter : History → Course → Command → Type 0
CausedAfter h k c = Caused (as_logged cluster (reverse (entries_of k c) ++ h))

pub command_cause : (h : History) (k : Course) (c : Command) → Inv (as_logged cluster h) k → IsFormLine k.clock c →
    Caused (as_logged cluster h) → CausedAfter h k c
command_cause h k (command.SinglePut place v priority) inv f before =
    subst (λ (p : Place). CausedAfter h k (command.SinglePut p v priority)) (sym (place_is place f.0))
    (subst Caused (sym (logged_single h (as_logged cluster h) k place.path v priority (single_time k) refl inv refl))
    (single_cause (as_logged cluster h) k place.path v priority (single_time k) inv refl before))
command_cause h k (command.Read strict (place ∷ [])) inv f before =
    subst (λ (p : Place). CausedAfter h k (command.Read strict (p ∷ []))) (sym (place_is place f))
    (subst Caused (sym (logged_read h (as_logged cluster h) k place.path strict refl inv))
    (read_cause (as_logged cluster h) k place.path strict (is_due (own t0 (as_logged cluster h)) (tablet_time k)) before))
command_cause h k (command.Read strict (place ∷ other ∷ more)) inv f before = absurd f
command_cause h k (command.Read strict []) inv f before = absurd f
command_cause h k (command.Clock node micros) inv f before =
    subst (λ (n : ℕ). CausedAfter h k (command.Clock n micros)) (sym f.0)
    (subst Caused (sym (logged_clock h (as_logged cluster h) k micros refl)) (clock_cause (as_logged cluster h) k micros before))
command_cause h k (command.Begin priority) inv f before = absurd f
command_cause h k (command.Put place v) inv f before = absurd f
command_cause h k (command.Del place) inv f before = absurd f
command_cause h k command.Commit inv f before = absurd f
command_cause h k command.Abort inv f before = absurd f
command_cause h k (command.Scan strict place) inv f before = absurd f
command_cause h k (command.SingleDel place priority) inv f before = absurd f
command_cause h k (command.Restart actor) inv f before = absurd f
command_cause h k (command.Apply tablet) inv f before = absurd f
command_cause h k command.End inv f before = absurd f

pub all_caused : (cs : List Command) (h : History) (k : Course) → Inv (as_logged cluster h) k → AreFormLines k.clock cs →
    k.commands + length cs ≤ 2 ^ 40 → Caused (as_logged cluster h) → Caused (as_logged cluster (reverse (entries_from k cs) ++ h))
unfolding entries_from AreFormLines
all_caused [] h k inv f few before = before
all_caused (c ∷ cs) h k inv f few before =
    let is = course_is k c f.0 in
    let next = one_command h k c inv f.0 (omega arith) in
    let fits : (course_after k c).commands + length cs ≤ 2 ^ 40 = rw is.1 (omega arith) in
    let rest : AreFormLines (course_after k c).clock cs = rw is.0 f.1 in
    rw (reverse_join (entries_of k c) (entries_from (course_after k c) cs) h)
    (all_caused cs (reverse (entries_of k c) ++ h) (course_after k c) next rest fits (command_cause h k c inv f.0 before))

first_caused : Caused (as_logged cluster [])
unfolding tells as_logged
first_caused = λ t m. absurd m

pub whole_caused : (cs : List Command) → IsForm cs → Caused (as_logged cluster (whole_history cs))
whole_caused cs f =
    let inv = told_inv cs f in
    let g : History = as_logged cluster (told_history cs) in
    let before : Caused g =
    subst (λ (h : History). Caused (as_logged cluster h)) (append-nil (told_history cs))
    (all_caused cs [] at_first first_inv f.lines (omega (arith, f.few)) first_caused) in
    rw (whole_is cs) (subst Caused (sym (logged_pass (told_history cs) g (course_end at_first cs) refl inv)) (pass_cause g before))
