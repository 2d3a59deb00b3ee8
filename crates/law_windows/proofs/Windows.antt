-- An open transaction keeps the window of its begin.
use Rattle.std.proofs.Common.{◌≡◌, ℕ, ◌+◌, ◌%◌, max, Bool, false, List, [], ◌∷◌, Option, Some, None, nat_lt, nat_eq, length, refl, sym, ◌∙◌, ap, subst, inl, inr, if◌then◌else◌, arith}
use Rattle.std.proofs.lemmas.Bool.{le-ltb, cases_lt}
use Rattle.hybrid_time.specs.Time.{time_at, limit_time}
use Rattle.txn_data.specs.declared.actor.Actor.{Actor}
use Rattle.txn_data.specs.declared.actor.Actor.TheVariants.{Session}
use Rattle.txn_data.specs.declared.command.Command.{Command}
use Rattle.txn_data.specs.declared.command.Command.TheVariants as command
use Rattle.txn_data.specs.declared.config.Config.{Config}
use Rattle.txn_data.specs.declared.isolation.Isolation.TheVariants.{Snapshot}
use Rattle.txn_data.specs.declared.meta.Meta.{Meta}
use Rattle.txn_data.specs.declared.op.Op.{Op}
use Rattle.txn_data.specs.declared.op.Op.TheVariants as op
use Rattle.txn_data.specs.declared.place.Place.{Place}
use Rattle.txn_data.specs.declared.tablet_limit.TabletLimit.{TabletLimit}
use Rattle.txn_data.specs.declared.told.Told.{Told}
use Rattle.txn_data.specs.declared.told.Told.TheVariants as told
use Rattle.txn_data.specs.declared.told_refusal.ToldRefusal.TheVariants as told_refusal
use Rattle.txn_data.specs.declared.event.Event.{Event}
use Rattle.txn_data.specs.declared.event.Event.TheVariants.{Start, Ask, Serve, Hear, Tell, Restarted}
use Rattle.txn_data.specs.declared.entry.Entry.{Entry}
use Rattle.txn_types.specs.Lists.{or_else, or_zero}
use Rattle.txn_types.specs.History.{History}
use Rattle.txn_types.specs.Reads.{before_start, began_by, began_time, begin_of, reading_after, reading_by, met_since, own_window, origin, origin_under, inside, open_txn, Read}
use Rattle.txn_types.specs.Session.{Keeps, Opened, opens, after_write, after_end, after_read, opened_after, window_end, txn_id}
use Rattle.txn_types.specs.Run.{Run, Steps, mover_at, mover_after, kept_after, session_of}
use Rattle.law_machines.proofs.Basics.{eq_cases, eq_refl, same_cases}
use Rattle.law_owners.specs.Owner.{owner_of}
use Rattle.law_owners.proofs.Serials.{id_owner, id_number}
use Rattle.law_open_txns.proofs.Open.{number_of}
use Rattle.law_messages.proofs.Rules.{entry}
use Rattle.law_read_times.specs.Laws.{IsToldAt, IsBeginLine}
use Rattle.law_read_times.proofs.Runs.{reads_up}
use Rattle.law_apart.proofs.Steps.{or_none, start_keeps}
use Rattle.law_apart.proofs.Rising.{sessions_read}
use Rattle.law_steady_reads.proofs.Follows.{Final}
use Rattle.law_steady_reads.proofs.Finals.{timed_at, can_final, ReadingIs, reading_is, unread}
use Rattle.law_steady_reads.proofs.FinalTimes.{read_facts, start_of_keeps}
use Rattle.law_steady_reads.proofs.Steady.{timed_begin, began_not}
use Rattle.law_windows.specs.Laws.{WindowsAreOfBegins}

-- the time of its session before its begin, and the end of the window that the begin took with a reading
abbrev pub time_before : Config → ℕ → ℕ → History → ℕ
time_before config i x h = (mover_at config (Session i) (begin_of x h)).keeps.last

abbrev pub end_with : ℕ → ℕ → ℕ → ℕ
end_with low reading skew = max (max low (time_at reading 0)) (limit_time reading skew)

-- the open transaction of session i was begun, its session took a reading for that, and its window is the one of that reading
pub record HasWindow (config : Config) (h : History) (i : ℕ) (x : Opened) : Type 0 where
  pub at : ℕ
  pub began : began_time x.meta.txn h ≡ Some at
  pub reading : ℕ
  pub took : reading_after (Session i) (length (begin_of x.meta.txn h)) h ≡ Some reading
  pub end_is : x.g ≡ end_with (time_before config i x.meta.txn h) reading config.skew_us

abbrev pub WindowOf : Config → History → ℕ → Option Opened → Type 0
WindowOf config h i None = Unit {0}
WindowOf config h i (Some x) = HasWindow config h i x

-- ## one more entry

pub begin_still : (x : ℕ) (e : Entry) (h : History) → began_by x e.event ≡ None → begin_of x (e ∷ h) ≡ begin_of x h
unfolding begin_of
begin_still x e h none = ap (λ (o : Option ℕ). elim o [ Some at ↦ before_start e.actor h | None ↦ begin_of x h ]) none

began_still : (x : ℕ) (e : Entry) (h : History) → began_by x e.event ≡ None → began_time x (e ∷ h) ≡ began_time x h
unfolding began_time
began_still x e h none = ap (λ (o : Option ℕ). or_else (began_time x h) o) none ∙ or_none (began_time x h)

-- what was read stays the first
read_still : (a : Actor) (n : ℕ) (e : Entry) (h : History) (r : ℕ) → reading_after a n h ≡ Some r → reading_after a n (e ∷ h) ≡ Some r
unfolding reading_after
read_still a n e h r is = elim (cases_lt (length h) n) [
  | inl short ↦ let none : reading_after a n h ≡ None = unread a n h (omega (arith, short)) in cc
  | inr long ↦ let ge : nat_lt (length h) n ≡ false = le-ltb (length h) n long in rw ge (ap (λ (o : Option ℕ). or_else o (reading_by a e)) is)
]

has_more : (config : Config) (h : History) (i : ℕ) (x : Opened) (e : Entry) → began_by x.meta.txn e.event ≡ None → HasWindow config h i x → HasWindow config (e ∷ h) i x
has_more config h i x e none has =
    let same : begin_of x.meta.txn (e ∷ h) ≡ begin_of x.meta.txn h = begin_still x.meta.txn e h none in
    record {
      at = has.at;
      began = began_still x.meta.txn e h none ∙ has.began;
      reading = has.reading;
      took = subst (λ (l : History). reading_after (Session i) (length l) (e ∷ h) ≡ Some has.reading) (sym same) (read_still (Session i) (length (begin_of x.meta.txn h)) e h has.reading has.took);
      end_is = subst (λ (l : History). x.g ≡ end_with (mover_at config (Session i) l).keeps.last has.reading config.skew_us) (sym same) has.end_is;
    }

began_unused : (config : Config) (h : History) (a : Actor) (reading : Option ℕ) (number y at : ℕ) → Run config h → Run config (entry a reading (Tell number (told.Began y at)) ∷ h) → began_time y h ≡ None
began_unused config h a reading number y at before run =
    let e = entry a reading (Tell number (told.Began y at)) in
    let up : IsToldAt config h a (Tell number (told.Began y at)) = reads_up config (e ∷ h) h e run (inl (refl, refl)) in
    let j = session_of a in
    let serial = (mover_at config a h).keeps.serial in
    let owner : owner_of y ≡ j = ap owner_of up.3 ∙ id_owner j (serial + 1) up.4 in
    let number_is : number_of y ≡ serial + 1 = ap number_of up.3 ∙ id_number j (serial + 1) up.4 in
    let serial_is : (mover_at config (Session j) h).keeps.serial ≡ serial = ap (λ (b : Actor). (mover_at config b h).keeps.serial) (sym up.0) in
    ((sessions_read config h before j).fresh y owner (omega (arith, number_is, serial_is))).0

pub not_again : (config : Config) (h : History) (a : Actor) (reading : Option ℕ) (event : Event) (x at : ℕ) → Run config h → Run config (entry a reading event ∷ h) → began_time x h ≡ Some at → began_by x event ≡ None
not_again config h a reading (Tell number (told.Began y at)) x was before run began = elim (eq_cases y x) [
  | inl same ↦
      let none : began_time y h ≡ None = began_unused config h a reading number y at before run in
      let some : began_time y h ≡ Some was = subst (λ (z : ℕ). began_time z h ≡ Some was) (sym same.1) began in
      cc
  | inr differ ↦ began_not x y at differ.1
]
not_again config h a reading event x was before run began = refl

window_more : (config : Config) (h : History) (i : ℕ) (o : Option Opened) (e : Entry) → Run config h → Run config (e ∷ h) → WindowOf config h i o → WindowOf config (e ∷ h) i o
window_more config h i None e before run has = tt
window_more config h i (Some x) e before run has = has_more config h i x e (not_again config h e.actor e.reading e.event x.meta.txn has.at before run has.began) has

-- ## what a session keeps of it

-- the same transaction with the same window
abbrev SameWindow : Opened → Option Opened → Type 0
SameWindow x None = Unit {0}
SameWindow x (Some y) = (y.meta ≡ x.meta) × (y.g ≡ x.g)

same_window : (config : Config) (g : History) (i : ℕ) (x : Opened) (o : Option Opened) → SameWindow x o → HasWindow config g i x → WindowOf config g i o
same_window config g i x None same has = tt
same_window config g i x (Some y) same has = record {
  at = has.at;
  began = ap (λ (m : Meta). began_time m.txn g) same.0 ∙ has.began;
  reading = has.reading;
  took = ap (λ (m : Meta). reading_after (Session i) (length (begin_of m.txn g)) g) same.0 ∙ has.took;
  end_is = same.1 ∙ (has.end_is ∙ ap (λ (m : Meta). end_with (time_before config i m.txn g) has.reading config.skew_us) (sym same.0));
}

after_write_same : (x : Opened) (place : Place) (o : Op) (t : Told) → SameWindow x (after_write x place o t)
after_write_same x place o (told.Written at) = (refl, refl)
after_write_same x place o (told.Refused (told_refusal.Conflict other)) = tt
after_write_same x place o (told.Refused (told_refusal.Overlap at)) = tt
after_write_same x place o (told.Refused (told_refusal.LogFault actor)) = tt
after_write_same x place o t = (refl, refl)

after_end_same : (x : Opened) (t : Told) → SameWindow x (after_end x t)
after_end_same x (told.Committed y at) = tt
after_end_same x (told.Ended y) = tt
after_end_same x (told.Refused (told_refusal.Aborted by)) = tt
after_end_same x (told.Refused (told_refusal.LogFault actor)) = (refl, refl)
after_end_same x t = (refl, refl)

after_read_same : (x : Opened) (limits : List TabletLimit) (t : Told) → SameWindow x (after_read x limits t)
after_read_same x limits (told.Values at restarts rows) = (refl, refl)
after_read_same x limits t = (refl, refl)

after_same : (config : Config) (i : ℕ) (s : Keeps) (line : Command) (reading : Option ℕ) (limits : List TabletLimit) (t : Told) (x : Opened) → SameWindow x (opened_after config i s line reading limits t (Some x))
after_same config i s (command.Put place v) reading limits t x = after_write_same x place (op.Put v) t
after_same config i s (command.Del place) reading limits t x = after_write_same x place op.Delete t
after_same config i s command.Commit reading limits t x = after_end_same x t
after_same config i s command.Abort reading limits t x = after_end_same x t
after_same config i s command.End reading limits t x = after_end_same x t
after_same config i s (command.Read strict places) reading limits t x = after_read_same x limits t
after_same config i s (command.Scan strict place) reading limits t x = after_read_same x limits t
after_same config i s line reading limits t x = (refl, refl)

-- ## what a begin opens

begin_reading : (config : Config) (a : Actor) (h : History) (line : Option Command) → IsBeginLine line → ReadingIs config a h line → reading_after a (length (before_start a h)) h ≡ (mover_at config a h).reading
begin_reading config a h (Some line) of is = is
begin_reading config a h None of is = absurd of

begin_keeps : (config : Config) (a : Actor) (h : History) (line : Option Command) → IsBeginLine line → (mover_at config a h).line ≡ line → (mover_at config a (before_start a h)).keeps ≡ (mover_at config a h).keeps
begin_keeps config a h (Some line) of is = start_keeps config a h line is
begin_keeps config a h None of is = absurd of

abbrev began : ℕ → Option ℕ → ℕ → ℕ → ℕ → Entry
began i reading number y at = entry (Session i) reading (Tell number (told.Began y at))

begin_here : (i : ℕ) (reading : Option ℕ) (number y at : ℕ) (h : History) → begin_of y (began i reading number y at ∷ h) ≡ before_start (Session i) h
unfolding begin_of
begin_here i reading number y at h = ap (λ (b : Bool). elim (if b then Some at else None) [ Some t ↦ before_start (Session i) h | None ↦ begin_of y h ]) (eq_refl y)

began_here : (i : ℕ) (reading : Option ℕ) (number y at : ℕ) (h : History) → began_time y h ≡ None → began_time y (began i reading number y at ∷ h) ≡ Some at
unfolding began_time
began_here i reading number y at h unused = ap (λ (o : Option ℕ). or_else o (if nat_eq y y then Some at else None)) unused ∙ ap (λ (b : Bool). if b then Some at else None) (eq_refl y)

-- the reading and the time told are those of the begin
opened_has : (config : Config) (h : History) (i : ℕ) (own reading : Option ℕ) (number y at priority : ℕ) → Run config h → Run config (began i own number y at ∷ h) → (mover_at config (Session i) h).reading ≡ reading → IsBeginLine (mover_at config (Session i) h).line →
    y ≡ txn_id i ((mover_at config (Session i) h).keeps.serial + 1) → WindowOf config (began i own number y at ∷ h) i (opens config i (mover_at config (Session i) h).keeps priority reading (told.Began y at))
unfolding Steps
opened_has config h i own None number y at priority before run is of id = tt
opened_has config h i own (Some r) number y at priority before run is of id =
    let a = Session i in
    let s = mover_at config a h in
    let e = began i own number y at in
    let g = e ∷ h in
    let final : Final s.keeps s.reading (met_since a h) (told.Began y at) = can_final s own (met_since a h) (told.Began y at) run.1.1.3 tt (timed_begin s.keeps s.reading (met_since a h) s.rest s.line of (timed_at config h i before.1)) in
    let same : (mover_at config a (before_start a h)).keeps.last ≡ s.keeps.last = ap (λ (k : Keeps). k.last) (begin_keeps config a h s.line of refl) in
    let read : reading_after a (length (before_start a h)) h ≡ Some r = begin_reading config a h s.line of (reading_is config h i before.1) ∙ is in
    let time : at ≡ max (mover_at config a (before_start a h)).keeps.last (time_at r 0) = final ∙ (ap (λ (o : Option ℕ). max s.keeps.last (time_at (or_zero o) 0)) is ∙ ap (λ (n : ℕ). max n (time_at r 0)) (sym same)) in
    subst (λ (z : ℕ). HasWindow config g i (record { meta = record { txn = z; status = i % config.status; isolation = Snapshot; priority = priority }; r = at; g = window_end at r config.skew_us; writes = []; limits = []; has_read = false; in_doubt = false })) id (record {
      at = at;
      began = began_here i own number y at h (began_unused config h a own number y at before run);
      reading = r;
      took = subst (λ (l : History). reading_after a (length l) g ≡ Some r) (sym (begin_here i own number y at h)) (read_still a (length (before_start a h)) e h r read);
      end_is = subst (λ (l : History). window_end at r config.skew_us ≡ end_with (mover_at config a l).keeps.last r config.skew_us) (sym (begin_here i own number y at h)) (ap (λ (n : ℕ). max n (limit_time r config.skew_us)) time);
    })

begin_opens : (config : Config) (h : History) (i : ℕ) (own : Option ℕ) (priority number : ℕ) (reading : Option ℕ) (t : Told) → Run config h → Run config (entry (Session i) own (Tell number t) ∷ h) → (mover_at config (Session i) h).reading ≡ reading →
    WindowOf config (entry (Session i) own (Tell number t) ∷ h) i (opens config i (mover_at config (Session i) h).keeps priority reading t)
begin_opens config h i own priority number (Some r) (told.Began y at) before run is =
    let up : IsToldAt config h (Session i) (Tell number (told.Began y at)) = reads_up config (began i own number y at ∷ h) h (began i own number y at) run (inl (refl, refl)) in
    opened_has config h i own (Some r) number y at priority before run is up.1 up.3
begin_opens config h i own priority number reading t before run is = tt

-- ## one more entry of its own

told_window : (config : Config) (h : History) (i : ℕ) (own : Option ℕ) (number : ℕ) (t : Told) (line : Command) (o : Option Opened) → Run config h → Run config (entry (Session i) own (Tell number t) ∷ h) →
    WindowOf config (entry (Session i) own (Tell number t) ∷ h) i o →
    WindowOf config (entry (Session i) own (Tell number t) ∷ h) i (opened_after config i (mover_at config (Session i) h).keeps line (mover_at config (Session i) h).reading (mover_at config (Session i) h).limits t o)
told_window config h i own number t (command.Begin priority) None before run has = begin_opens config h i own priority number (mover_at config (Session i) h).reading t before run refl
told_window config h i own number t line None before run has = tt
told_window config h i own number t line (Some x) before run has =
    let s = mover_at config (Session i) h in
    same_window config (entry (Session i) own (Tell number t) ∷ h) i x (opened_after config i s.keeps line s.reading s.limits t (Some x)) (after_same config i s.keeps line s.reading s.limits t x) has

line_window : (config : Config) (h : History) (i : ℕ) (own : Option ℕ) (number : ℕ) (t : Told) (line : Option Command) → Run config h → Run config (entry (Session i) own (Tell number t) ∷ h) →
    WindowOf config (entry (Session i) own (Tell number t) ∷ h) i (mover_at config (Session i) h).keeps.opened →
    WindowOf config (entry (Session i) own (Tell number t) ∷ h) i (kept_after config (Session i) (mover_at config (Session i) h) line t).opened
line_window config h i own number t None before run has = has
line_window config h i own number t (Some line) before run has = told_window config h i own number t line (mover_at config (Session i) h).keeps.opened before run has

own_window_at : (config : Config) (h : History) (i : ℕ) (own : Option ℕ) (event : Event) → Run config h → Run config (entry (Session i) own event ∷ h) →
    WindowOf config (entry (Session i) own event ∷ h) i (mover_at config (Session i) h).keeps.opened →
    WindowOf config (entry (Session i) own event ∷ h) i (mover_after config (Session i) (mover_at config (Session i) h) own event).keeps.opened
own_window_at config h i own (Tell number t) before run has = line_window config h i own number t (mover_at config (Session i) h).line before run has
own_window_at config h i own (Start number line) before run has = has
own_window_at config h i own (Ask to asked) before run has = has
own_window_at config h i own (Hear from r) before run has = has
own_window_at config h i own (Serve from asked r time append) before run has = has
own_window_at config h i own (Restarted from kept) before run has = has

pub windows_at : (config : Config) (h : History) (i : ℕ) → Run config h → WindowOf config h i (mover_at config (Session i) h).keeps.opened
unfolding mover_at Steps
windows_at config [] i run = tt
windows_at config (e ∷ h) i run =
    let before : Run config h = (run.0, run.1.0) in
    let has = window_more config h i (mover_at config (Session i) h).keeps.opened e before run (windows_at config h i before) in
    elim (same_cases e.actor (Session i)) [
      | inl s ↦ rw s.0 (subst (λ (a : Actor). WindowOf config (entry a e.reading e.event ∷ h) i (mover_after config (Session i) (mover_at config (Session i) h) e.reading e.event).keeps.opened) (sym s.1)
          (own_window_at config h i e.reading e.event before (subst (λ (a : Actor). Run config (entry a e.reading e.event ∷ h)) s.1 run)
          (subst (λ (a : Actor). WindowOf config (entry a e.reading e.event ∷ h) i (mover_at config (Session i) h).keeps.opened) s.1 has)))
      | inr s ↦ rw s.0 has
    ]

-- ## the law

window_is : (config : Config) (read : Read) (x : Opened) → HasWindow config read.before read.session x → inside config read ≡ Some x.meta.txn → x.g ≡ own_window config read
window_is config read x has is =
    let begin = begin_of x.meta.txn read.before in
    let low : origin config read ≡ begin = ap (λ (o : Option ℕ). origin_under read o) is in
    let i = read.session in
    has.end_is ∙ (ap (λ (o : Option ℕ). end_with (mover_at config (Session i) begin).keeps.last (or_zero o) config.skew_us) (sym has.took)
    ∙ ap (λ (l : History). end_with (mover_at config (Session i) l).keeps.last (or_zero (reading_after (Session i) (length l) read.before)) config.skew_us) (sym low))

pub windows_of_begins : WindowsAreOfBegins
windows_of_begins config h read x run m is =
    let f = read_facts config h read run m in
    let i = read.session in
    let there : (mover_at config (Session i) read.before).keeps.opened ≡ Some x = sym (ap (λ (k : Keeps). k.opened) (start_of_keeps config read f)) ∙ is in
    let has : HasWindow config read.before i x = subst (λ (o : Option Opened). WindowOf config read.before i o) there (windows_at config read.before i f.run) in
    window_is config read x has (ap open_txn is)
