-- Each finished read is told its final time.
use Rattle.std.proofs.Common.{◌≡◌, ℕ, max, Bool, true, false, ◌&&◌, List, [], ◌∷◌, Option, Some, None, length, refl, sym, ◌∙◌, ap, subst, inl, inr, ◌⊎◌}
use Rattle.hybrid_time.specs.Time.{time_at}
use Rattle.txn_data.specs.declared.actor.Actor.{Actor}
use Rattle.txn_data.specs.declared.actor.Actor.TheVariants.{Session}
use Rattle.txn_data.specs.declared.command.Command.{Command}
use Rattle.txn_data.specs.declared.command.Command.TheVariants as command
use Rattle.txn_data.specs.declared.config.Config.{Config}
use Rattle.txn_data.specs.declared.told.Told.{Told}
use Rattle.txn_data.specs.declared.told.Told.TheVariants as told
use Rattle.txn_data.specs.declared.event.Event.{Event}
use Rattle.txn_data.specs.declared.event.Event.TheVariants.{Tell}
use Rattle.txn_data.specs.declared.entry.Entry.{Entry}
use Rattle.txn_types.specs.Lists.{Member, or_zero}
use Rattle.txn_types.specs.History.{History, same_actor, is_start}
use Rattle.txn_types.specs.Program.{Program}
use Rattle.txn_types.specs.Session.{Keeps, Opened}
use Rattle.txn_types.specs.Reads.{Read, reads_by, reads, before_start, start_of, open_txn, reading_after, last_met, met_of, time_unmet, inside, origin_under, origin}
use Rattle.txn_types.specs.Run.{Run, Steps, mover_at}
use Rattle.law_machines.specs.Own.{StandsOver}
use Rattle.law_machines.proofs.Basics.{member_cases}
use Rattle.law_machines.proofs.Owns.{steps_at}
use Rattle.law_messages.proofs.Rules.{entry}
use Rattle.law_read_times.specs.Laws.{IsReadLine, IsToldAt, IsUp}
use Rattle.law_read_times.proofs.Runs.{reads_up}
use Rattle.law_courses.specs.Course.{IsPart}
use Rattle.law_courses.proofs.Parts.{part_refl, part_more}
use Rattle.law_apart.proofs.Steps.{start_keeps}
use Rattle.law_apart.proofs.Keeps.{OpenedRead}
use Rattle.law_apart.proofs.Sessions.{line_some}
use Rattle.law_apart.proofs.Rising.{sessions_read}
use Rattle.law_steady_reads.specs.Laws.{ReadsAreFinal}
use Rattle.law_steady_reads.proofs.Follows.{TimeIs, Outer, unmet_time}
use Rattle.law_steady_reads.proofs.Finals.{Timed, timed_at, can_final, ReadingIs, reading_is}

-- ## the entry that told a finished read

pub record ToldRead (h : History) (read : Read) : Type 0 where
  pub number : ℕ
  pub reading : Option ℕ
  pub stands : StandsOver (entry (Session read.session) reading (Tell number (told.Values read.at read.restarts read.rows))) read.before h

read_event : (a : Actor) (reading : Option ℕ) (event : Event) (h : History) (read : Read) → Member read (reads_by h a event) → ToldRead (entry a reading event ∷ h) read
read_event (Session i) reading (Tell number (told.Values at restarts rows)) h read m = elim m [
  | inl is ↦ subst (λ (r : Read). ToldRead (entry (Session i) reading (Tell number (told.Values at restarts rows)) ∷ h) r) (sym is) (record { number = number; reading = reading; stands = inl (refl, refl) })
  | inr none ↦ absurd none
]
read_event a reading event h read m = absurd m

told_more : (e : Entry) (h : History) (read : Read) → ToldRead h read → ToldRead (e ∷ h) read
told_more e h read t = record { number = t.number; reading = t.reading; stands = inr t.stands }

pub read_told : (h : History) (read : Read) → Member read (reads h) → ToldRead h read
unfolding reads
read_told [] read m = absurd m
read_told (e ∷ h) read m = elim (member_cases read (reads_by h e.actor e.event) (reads h) m) [
  | inl new ↦ read_event e.actor e.reading e.event h read new
  | inr old ↦ told_more e h read (read_told h read old)
]

-- ## what its session kept where it was told

-- the read's session has this command under way
pub record Facts (config : Config) (read : Read) : Type 0 where
  pub run : Run config read.before
  pub line : Command
  pub line_is : (mover_at config (Session read.session) read.before).line ≡ Some line
  pub reads : IsReadLine (Some line)
  pub up : IsUp (mover_at config (Session read.session) read.before).keeps.opened read.at
  pub final : TimeIs (unmet_time (mover_at config (Session read.session) read.before).keeps.last (mover_at config (Session read.session) read.before).keeps.opened (mover_at config (Session read.session) read.before).reading)
      (met_of read) read.at read.restarts
  pub reading : reading_after (Session read.session) (length (start_of read)) read.before ≡ (mover_at config (Session read.session) read.before).reading

timed_outer : (s : Keeps) (own : Option ℕ) (mets : List ℕ) (p : Program Told) (line : Option Command) → IsReadLine line → Timed s own mets p line → Outer s own mets p
timed_outer s own mets p (Some (command.Read strict places)) of timed = timed
timed_outer s own mets p (Some (command.Scan strict place)) of timed = timed
timed_outer s own mets p line of timed = absurd of

reading_under : (config : Config) (a : Actor) (h : History) (line : Option Command) → IsReadLine line → ReadingIs config a h line → reading_after a (length (before_start a h)) h ≡ (mover_at config a h).reading
reading_under config a h (Some line) of is = is
reading_under config a h None of is = absurd of

pub read_facts : (config : Config) (h : History) (read : Read) → Run config h → Member read (reads h) → Facts config read
unfolding Steps
read_facts config h read run m =
    let t = read_told h read m in
    let i = read.session in
    let before = read.before in
    let e = entry (Session i) t.reading (Tell t.number (told.Values read.at read.restarts read.rows)) in
    let up_to : Steps config (e ∷ before) = steps_at config e before h run.1 t.stands in
    let up : IsToldAt config before (Session i) (Tell t.number (told.Values read.at read.restarts read.rows)) = reads_up config h before e run t.stands in
    let s = mover_at config (Session i) before in
    let line = line_some s.line up.0 in
    let outer = timed_outer s.keeps s.reading (met_of read) s.rest s.line up.0 (timed_at config before i up_to.0) in
    record {
      run = (run.0, up_to.0);
      line = line.0;
      line_is = line.1;
      reads = subst IsReadLine line.1 up.0;
      up = up.1;
      final = can_final s t.reading (met_of read) (told.Values read.at read.restarts read.rows) up_to.1.3 tt outer;
      reading = reading_under config (Session i) before s.line up.0 (reading_is config before i up_to.0);
    }

-- ## its final time

pub part_start : (a : Actor) (h : History) → IsPart (before_start a h) h
unfolding before_start
part_start a [] = part_refl []
part_start a (e ∷ h) = elim (same_start (same_actor e.actor a && is_start e.event)) [
  | inl is ↦ rw is (part_more h e h (part_refl h))
  | inr not ↦ rw not (part_more (before_start a h) e h (part_start a h))
]
  where
    same_start : (b : Bool) → (b ≡ true) ⊎ (b ≡ false)
    same_start true = inl refl
    same_start false = inr refl

pub part_steps : (config : Config) (low h : History) → IsPart low h → Steps config h → Steps config low
unfolding IsPart Steps
part_steps config low [] part steps = subst (λ (l : History). Steps config l) (sym part) steps
part_steps config low (e ∷ h) part steps = elim part [
  | inl is ↦ subst (λ (l : History). Steps config l) (sym is) steps
  | inr more ↦ part_steps config low h more steps.0
]

pub start_of_keeps : (config : Config) (read : Read) → Facts config read → (mover_at config (Session read.session) (start_of read)).keeps ≡ (mover_at config (Session read.session) read.before).keeps
start_of_keeps config read f = start_keeps config (Session read.session) read.before f.line f.line_is

unmet_is : (config : Config) (read : Read) (s : Keeps) (opened : Option Opened) → Facts config read → (mover_at config (Session read.session) (start_of read)).keeps ≡ s → s.opened ≡ opened →
    OpenedRead config (start_of read) read.session s.serial opened → time_unmet config read (open_txn opened) ≡ unmet_time s.last opened (mover_at config (Session read.session) read.before).reading
unmet_is config read s (Some x) f keeps opened ok = ok.time
unmet_is config read s None f keeps opened ok =
    let none : inside config read ≡ None = ap (λ (k : Keeps). open_txn k.opened) keeps ∙ ap open_txn opened in
    let own_origin : origin config read ≡ start_of read = ap (λ (o : Option ℕ). origin_under read o) none in
    ap (λ (g : History). max (mover_at config (Session read.session) g).keeps.last (time_at (or_zero (reading_after (Session read.session) (length g) read.before)) 0)) own_origin
    ∙ (ap (λ (k : Keeps). max k.last (time_at (or_zero (reading_after (Session read.session) (length (start_of read)) read.before)) 0)) keeps
    ∙ ap (λ (o : Option ℕ). max s.last (time_at (or_zero o) 0)) f.reading)

pub reads_final : ReadsAreFinal
reads_final config h read run m =
    let f = read_facts config h read run m in
    let i = read.session in
    let s = (mover_at config (Session i) read.before).keeps in
    let keeps = start_of_keeps config read f in
    let start = start_of read in
    let run_start : Run config start = (f.run.0, part_steps config start read.before (part_start (Session i) read.before) f.run.1) in
    let opened : OpenedRead config start i s.serial s.opened = subst (λ (k : Keeps). OpenedRead config start i k.serial k.opened) keeps (sessions_read config start run_start i).opened in
    let same : time_unmet config read (inside config read) ≡ unmet_time s.last s.opened (mover_at config (Session i) read.before).reading =
    ap (λ (k : Keeps). time_unmet config read (open_txn k.opened)) keeps ∙ unmet_is config read s s.opened f keeps refl opened in
    record { time = f.final.0 ∙ ap (λ (u : ℕ). last_met (met_of read) u) (sym same); met = f.final.1 }
