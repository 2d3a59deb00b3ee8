-- A session's time never falls, and no read is below it.
use Rattle.std.proofs.Common.{◌≡◌, ℕ, ◌+◌, ◌≤◌, max, Bool, true, false, ◌&&◌, List, [], ◌∷◌, Option, Some, None, Result, Ok, Err, nat_eq, nat_lt, refl, sym, ◌∙◌, ap, subst, inl, inr, if◌then◌else◌, arith}
use Rattle.std.proofs.lemmas.Bool.{and_parts}
use Rattle.hybrid_time.specs.Time.{time_at, limit_time, least_time, greatest_reading}
use Rattle.hybrid_time.specs.declared.time_refusal.TimeRefusal.{TimeRefusal}
use Rattle.hybrid_time.specs.declared.time_refusal.TimeRefusal.TheVariants as time_refusal
use Rattle.txn_data.specs.declared.actor.Actor.{Actor}
use Rattle.txn_data.specs.declared.actor.Actor.TheVariants.{Session}
use Rattle.txn_data.specs.declared.command.Command.{Command}
use Rattle.txn_data.specs.declared.command.Command.TheVariants as command
use Rattle.txn_data.specs.declared.committed_txn.CommittedTxn.{CommittedTxn}
use Rattle.txn_data.specs.declared.config.Config.{Config}
use Rattle.txn_data.specs.declared.place.Place.{Place}
use Rattle.txn_data.specs.declared.read_end.ReadEnd.{ReadEnd}
use Rattle.txn_data.specs.declared.read_kind.ReadKind.{ReadKind}
use Rattle.txn_data.specs.declared.read_kind.ReadKind.TheVariants.{Get, Scan}
use Rattle.txn_data.specs.declared.read_what.ReadWhat.{ReadWhat}
use Rattle.txn_data.specs.declared.read_what.ReadWhat.TheVariants as what
use Rattle.txn_data.specs.declared.refusal.Refusal.TheVariants as refusal
use Rattle.txn_data.specs.declared.reply.Reply.TheVariants as reply
use Rattle.txn_data.specs.declared.request.Request.{Request}
use Rattle.txn_data.specs.declared.row.Row.{Row}
use Rattle.txn_data.specs.declared.told.Told.{Told}
use Rattle.txn_data.specs.declared.told.Told.TheVariants as told
use Rattle.txn_data.specs.declared.written.Written.{Written}
use Rattle.txn_data.specs.declared.event.Event.{Event}
use Rattle.txn_data.specs.declared.event.Event.TheVariants.{Start, Ask, Serve, Hear, Tell, Restarted}
use Rattle.txn_data.specs.declared.entry.Entry.{Entry}
use Rattle.txn_types.specs.Lists.{Member, or_else, or_zero}
use Rattle.txn_types.specs.History.{History, same_actor, own}
use Rattle.txn_types.specs.Committed.{committed}
use Rattle.txn_types.specs.Program.{Program, Done, Asks, Reads}
use Rattle.txn_types.specs.ReadProgram.{read_program}
use Rattle.txn_types.specs.Session.{Keeps, Opened, timed_then, read_at, read_told, read_command, command_program, moved_by, time_taken}
use Rattle.txn_types.specs.Reads.{Read, reads, before_start, start_of, began_by, began_time, begin_of, origin_under, origin, inside, open_txn, first_read_time, met_since, read_time, is_commit_of}
use Rattle.txn_types.specs.Run.{Run, Steps, Mover, IsUnderWay, session_of, mover_at, mover_after, kept_after}
use Rattle.law_machines.specs.Own.{StandsOver}
use Rattle.law_machines.proofs.Basics.{same_cases, same_true, same_refl, eq_refl, eq_true, eq_cases, any_member}
use Rattle.law_machines.proofs.Owns.{steps_at, member_stands}
use Rattle.law_messages.proofs.Rules.{entry}
use Rattle.law_owners.specs.Owner.{owner_of}
use Rattle.law_owners.proofs.Serials.{id_owner, id_number}
use Rattle.law_open_txns.proofs.Open.{number_of}
use Rattle.law_read_times.specs.Laws.{IsReadLine, IsBeginLine, IsUp, IsToldAt}
use Rattle.law_read_times.proofs.Above.{fits_served, fits_restarted, fits_memory}
use Rattle.law_read_times.proofs.Holds.{Holds, then_holds, NoWrite, read_holds}
use Rattle.law_read_times.proofs.Runs.{reads_up}
use Rattle.law_courses.specs.Course.{IsPart, answered, Came}
use Rattle.law_courses.specs.Laws.{CameAbout}
use Rattle.law_courses.proofs.Parts.{part_refl, part_more, part_trans, part_tail, part_member, stands_part}
use Rattle.law_courses.proofs.Courses.{told_came_about}
use Rattle.law_apart.proofs.Steps.{or_none, first_read, start_keeps}
use Rattle.law_apart.proofs.Keeps.{OpenedRead}
use Rattle.law_apart.proofs.Sessions.{began_first}
use Rattle.law_apart.proofs.Rising.{sessions_read, time_rises}
use Rattle.law_steady_reads.specs.Laws.{ReadsAreSteady}
use Rattle.law_steady_reads.proofs.Follows.{Final, Outer}
use Rattle.law_steady_reads.proofs.Finals.{Timed, timed_at, can_final}
use Rattle.law_steady_reads.proofs.FinalTimes.{read_told as read_entry, Facts, read_facts, part_start, part_steps, start_of_keeps, reads_final}
use Rattle.law_told_commits.proofs.Commits.{commit_times}
use Rattle.law_told_commits.specs.Laws.{TellsCommit}

-- ## a session's time never falls

moved_up : (last : ℕ) (reading : Option ℕ) → last ≤ moved_by last reading
moved_up last None = omega arith
moved_up last (Some n) = omega arith

kept_up : (config : Config) (a : Actor) (s : Mover) (line : Option Command) (t : Told) → s.keeps.last ≤ (kept_after config a s line t).last
kept_up config a s None t = omega arith
kept_up config a s (Some line) t = let le = moved_up s.keeps.last s.reading in omega (arith, le)

last_event : (config : Config) (a : Actor) (s : Mover) (reading : Option ℕ) (event : Event) → s.keeps.last ≤ (mover_after config a s reading event).keeps.last
last_event config a s reading (Start number line) = omega arith
last_event config a s reading (Ask to asked) = omega arith
last_event config a s reading (Hear from r) = omega arith
last_event config a s reading (Tell number t) = kept_up config a s s.line t
last_event config a s reading (Serve from asked r time append) = omega arith
last_event config a s reading (Restarted from kept) = omega arith

last_step : (config : Config) (m : Actor) (e : Entry) (h : History) → (mover_at config m h).keeps.last ≤ (mover_at config m (e ∷ h)).keeps.last
unfolding mover_at
last_step config m e h = elim (same_cases e.actor m) [
  | inl s ↦ rw s.0 (last_event config m (mover_at config m h) e.reading e.event)
  | inr s ↦ rw s.0 (omega arith)
]

pub last_rises : (config : Config) (m : Actor) (low h : History) → IsPart low h → (mover_at config m low).keeps.last ≤ (mover_at config m h).keeps.last
unfolding IsPart
last_rises config m low [] part = subst (λ (l : History). (mover_at config m low).keeps.last ≤ (mover_at config m l).keeps.last) part (omega arith)
last_rises config m low (e ∷ h) part = elim part [
  | inl is ↦ subst (λ (l : History). (mover_at config m low).keeps.last ≤ (mover_at config m l).keeps.last) is (omega arith)
  | inr more ↦ let one = last_rises config m low h more in let two = last_step config m e h in omega (arith, one, two)
]

taken_kept : (config : Config) (a : Actor) (s : Mover) (line : Option Command) (t : Told) → IsUnderWay line → time_taken t ≤ (kept_after config a s line t).last
taken_kept config a s None t under = absurd under
taken_kept config a s (Some line) t under = omega arith

-- what it was told is not above its time then
taken_at : (config : Config) (m : Actor) (reading : Option ℕ) (number : ℕ) (t : Told) (h : History) → Steps config (entry m reading (Tell number t) ∷ h) → time_taken t ≤ (mover_at config m (entry m reading (Tell number t) ∷ h)).keeps.last
unfolding Steps mover_at
taken_at config m reading number t h steps = let same = same_refl m in rw same (taken_kept config m (mover_at config m h) (mover_at config m h).line t steps.1.0)

pub told_taken : (config : Config) (m : Actor) (reading : Option ℕ) (number : ℕ) (t : Told) (before h : History) → Steps config h → StandsOver (entry m reading (Tell number t)) before h → time_taken t ≤ (mover_at config m h).keeps.last
told_taken config m reading number t before h steps stands =
    let e = entry m reading (Tell number t) in
    let one = taken_at config m reading number t before (steps_at config e before h steps stands) in
    let two = last_rises config m (e ∷ before) h (stands_part e before h stands) in
    omega (arith, one, two)

-- ## a read outside a transaction is not below it

-- by the answers of a run
holds_came : {A : Type 0} (config : Config) (Q : Request → Type 0) (T : A → Type 0) (m : Actor) (h : History) (own_reading : Option ℕ) (low : History) (had : Option ℕ) (p : Program A) (end : A) → Steps config h → Holds Q T p → Came m h own_reading low had p end → T end
unfolding Came Steps
holds_came config Q T m h o low had (Done a) end steps holds came = subst T came.0 holds
holds_came config Q T m h o low had (Asks to asked next) end steps holds came = elim came [
  | inl heard ↦
      let a = heard.0 in
      let e = entry to a.reading (Serve m asked a.reply a.time a.append) in
      let up_to : Steps config (e ∷ a.before) = steps_at config e a.before h steps a.stands in
      holds_came config Q T m h o (answered m to asked h low a) had (next a.reply) end steps (holds.1 a.reply (fits_served config.lease_us to (own to a.before) a.reading asked a.reply a.time a.append up_to.1.2)) heard.1
  | inr other ↦ elim other [
    | inl restart ↦ holds_came config Q T m h o low had (next (reply.Restarted restart.1.0)) end steps (holds.1 (reply.Restarted restart.1.0) (fits_restarted asked restart.1.0)) restart.1.1
    | inr none ↦ holds_came config Q T m h o low had (next (reply.Refused refusal.Memory)) end steps (holds.1 (reply.Refused refusal.Memory) (fits_memory asked)) none
  ]
]
holds_came config Q T m h o low had (Reads given) end steps holds came = elim came.1 [
  | inl more ↦ holds_came config Q T m h o low (or_else had (Some came.0)) (given came.0) end steps (holds came.0) more
  | inr once ↦ subst (λ (p : Program _). Holds Q T p) once (holds came.0)
]

abbrev ValuesFrom : ℕ → Told → Type 0
ValuesFrom low (told.Values at restarts rows) = low ≤ at
ValuesFrom low t = Unit {0}

told_from : (low : ℕ) (kind : ReadKind) (ws : List Written) (places : List Place) (end : ReadEnd) (w : ReadWhat) → end.what ≡ w → low ≤ end.t → ValuesFrom low (read_told kind ws places end)
told_from low kind ws places end (what.Values rows) is le = rw is le
told_from low kind ws places end (what.Restart at path) is le = rw is tt
told_from low kind ws places end (what.Refused why) is le = rw is tt

timed_from : (low n i : ℕ) (next : ℕ → Program Told) (time : Result ℕ TimeRefusal) → least_time low 0 n ≡ time → ((now : ℕ) → low ≤ now → Holds NoWrite (ValuesFrom low) (next now)) → Holds NoWrite (ValuesFrom low) (timed_then i n next time)
timed_from low n i next (Ok now) is goes = goes now (now_from (nat_lt greatest_reading n) is)
  where
    now_from : (b : Bool) → (if b then Err (time_refusal.ClockRange n) else Ok (max (max low 0) (time_at n 0))) ≡ Ok now → low ≤ now
    now_from true same = cc
    now_from false same = let at : max (max low 0) (time_at n 0) ≡ now = cc in omega (arith, at)
timed_from low n i next (Err why) is goes = tt

outside_holds : (config : Config) (i : ℕ) (s : Keeps) (kind : ReadKind) (strict : Bool) (places : List Place) (opened : Option Opened) → opened ≡ None → Holds NoWrite (ValuesFrom s.last) (read_command config i s kind strict places opened)
outside_holds config i s kind strict places (Some x) is = cc
outside_holds config i s kind strict places None is = λ n. timed_from s.last n i (read_at config kind strict places n) (least_time s.last 0 n) refl (λ now le.
    then_holds NoWrite (λ (end : ReadEnd). now ≤ end.t) (ValuesFrom s.last) (read_program None kind places now (max now (limit_time n config.skew_us)) strict []) _
    (read_holds None kind places now (max now (limit_time n config.skew_us)) strict []) (λ end up. told_from s.last kind [] places end end.what refl (omega (arith, le, up))))

line_from : (config : Config) (i : ℕ) (s : Keeps) (h low : History) (own_reading : Option ℕ) (line : Command) (at restarts : ℕ) (rows : List Row) → Steps config h → IsReadLine (Some line) → s.opened ≡ None →
    Came (Session i) h own_reading low None (command_program config i s line) (told.Values at restarts rows) → s.last ≤ at
line_from config i s h low o (command.Read strict places) at restarts rows steps of none came =
    holds_came config NoWrite (ValuesFrom s.last) (Session i) h o low None (command_program config i s (command.Read strict places)) (told.Values at restarts rows) steps (outside_holds config i s Get strict places s.opened none) came
line_from config i s h low o (command.Scan strict place) at restarts rows steps of none came =
    holds_came config NoWrite (ValuesFrom s.last) (Session i) h o low None (command_program config i s (command.Scan strict place)) (told.Values at restarts rows) steps (outside_holds config i s Scan strict (place ∷ []) s.opened none) came
line_from config i s h low o line at restarts rows steps of none came = absurd of

about_from : (config : Config) (i : ℕ) (s : Keeps) (h low : History) (own_reading : Option ℕ) (line : Option Command) (at restarts : ℕ) (rows : List Row) → Steps config h → IsReadLine line → s.opened ≡ None →
    CameAbout config (Session i) h low s own_reading line (told.Values at restarts rows) → s.last ≤ at
about_from config i s h low o (Some line) at restarts rows steps of none came = elim came.1 [
  | inl is ↦ line_from config i s h low o line at restarts rows steps of none is
  | inr memory ↦ cc
]
about_from config i s h low o None at restarts rows steps of none came = absurd of

-- ## a begin is not below it

pub timed_begin : (s : Keeps) (own_reading : Option ℕ) (mets : List ℕ) (p : Program Told) (line : Option Command) → IsBeginLine line → Timed s own_reading mets p line → Outer s own_reading mets p
timed_begin s o mets p (Some (command.Begin priority)) of timed = timed
timed_begin s o mets p line of timed = absurd of

pub begin_some : (o : Option Command) → IsBeginLine o → (line : Command) × (o ≡ Some line)
begin_some (Some line) of = (line, refl)
begin_some None of = absurd of

began_at : (config : Config) (h : History) (j : ℕ) (reading : Option ℕ) (number y at : ℕ) → Run config (entry (Session j) reading (Tell number (told.Began y at)) ∷ h) → (mover_at config (Session j) (before_start (Session j) h)).keeps.last ≤ at
unfolding Steps
began_at config h j reading number y at run =
    let s = mover_at config (Session j) h in
    let e = entry (Session j) reading (Tell number (told.Began y at)) in
    let up : IsToldAt config h (Session j) (Tell number (told.Began y at)) = reads_up config (e ∷ h) h e run (inl (refl, refl)) in
    let line = begin_some s.line up.1 in
    let final : Final s.keeps s.reading (met_since (Session j) h) (told.Began y at) = can_final s reading (met_since (Session j) h) (told.Began y at) run.1.1.3 tt (timed_begin s.keeps s.reading (met_since (Session j) h) s.rest s.line up.1 (timed_at config h j run.1.0)) in
    let same : (mover_at config (Session j) (before_start (Session j) h)).keeps.last ≡ s.keeps.last = ap (λ (k : Keeps). k.last) (start_keeps config (Session j) h line.0 line.1) in
    omega (arith, final, same)

-- the session's time before the begin of a transaction is not above the time that the begin was told
abbrev Above : Config → ℕ → History → Type 0
Above config x h = (mover_at config (Session (owner_of x)) (begin_of x h)).keeps.last ≤ or_zero (began_time x h)

abbrev begin_with : ℕ → Entry → History → Option ℕ → History
begin_with x e h o = elim o [ Some at ↦ before_start e.actor h | None ↦ begin_of x h ]

begin_is : (x : ℕ) (e : Entry) (h : History) → begin_of x (e ∷ h) ≡ begin_with x e h (began_by x e.event)
unfolding begin_of
begin_is x e h = refl

began_is : (x : ℕ) (e : Entry) (h : History) → began_time x (e ∷ h) ≡ or_else (began_time x h) (began_by x e.event)
unfolding began_time
began_is x e h = refl

above_of : (config : Config) (x : ℕ) (g low : History) (o : Option ℕ) → begin_of x g ≡ low → began_time x g ≡ o → (mover_at config (Session (owner_of x)) low).keeps.last ≤ or_zero o → Above config x g
above_of config x g low o begin began le =
    subst (λ (p : Option ℕ). (mover_at config (Session (owner_of x)) (begin_of x g)).keeps.last ≤ or_zero p) (sym began)
    (subst (λ (l : History). (mover_at config (Session (owner_of x)) l).keeps.last ≤ or_zero o) (sym begin) le)

above_not : (config : Config) (x : ℕ) (e : Entry) (h : History) → began_by x e.event ≡ None → Above config x h → Above config x (e ∷ h)
above_not config x e h none above =
    above_of config x (e ∷ h) (begin_of x h) (began_time x h) (begin_is x e h ∙ ap (λ (o : Option ℕ). begin_with x e h o) none)
    (began_is x e h ∙ (ap (λ (o : Option ℕ). or_else (began_time x h) o) none ∙ or_none (began_time x h))) above

pub began_not : (x y at : ℕ) → (y ≡ x → ⊥) → (if nat_eq y x then Some at else None) ≡ None
began_not x y at other = elim (eq_cases y x) [ inl s ↦ absurd (other s.1) | inr s ↦ rw s.0 refl ]

began_mine : (y at : ℕ) → (if nat_eq y y then Some at else None) ≡ Some at
began_mine y at = rw (eq_refl y) refl

above_here : (config : Config) (h : History) (j : ℕ) (reading : Option ℕ) (number y at : ℕ) → Run config (entry (Session j) reading (Tell number (told.Began y at)) ∷ h) → owner_of y ≡ j → began_time y h ≡ None →
    Above config y (entry (Session j) reading (Tell number (told.Began y at)) ∷ h)
above_here config h j reading number y at run owner unused =
    let e = entry (Session j) reading (Tell number (told.Began y at)) in
    let le : (mover_at config (Session (owner_of y)) (before_start (Session j) h)).keeps.last ≤ at = subst (λ (i : ℕ). (mover_at config (Session i) (before_start (Session j) h)).keeps.last ≤ at) (sym owner) (began_at config h j reading number y at run) in
    above_of config y (e ∷ h) (before_start (Session j) h) (Some at) (begin_is y e h ∙ ap (λ (o : Option ℕ). begin_with y e h o) (began_mine y at))
    (began_is y e h ∙ (ap (λ (o : Option ℕ). or_else o (began_by y e.event)) unused ∙ began_mine y at)) le

above_event : (config : Config) (x : ℕ) (a : Actor) (reading : Option ℕ) (event : Event) (h : History) → Run config h → Run config (entry a reading event ∷ h) → Above config x h → Above config x (entry a reading event ∷ h)
above_event config x a reading (Tell number (told.Began y at)) h before run above = elim (eq_cases y x) [
  | inl same ↦
      let e = entry a reading (Tell number (told.Began y at)) in
      let up : IsToldAt config h a (Tell number (told.Began y at)) = reads_up config (e ∷ h) h e run (inl (refl, refl)) in
      let j = session_of a in
      let serial = (mover_at config a h).keeps.serial in
      let run_j : Run config (entry (Session j) reading (Tell number (told.Began y at)) ∷ h) = subst (λ (b : Actor). Run config (entry b reading (Tell number (told.Began y at)) ∷ h)) up.0 run in
      let owner : owner_of y ≡ j = ap owner_of up.3 ∙ id_owner j (serial + 1) up.4 in
      let number_is : number_of y ≡ serial + 1 = ap number_of up.3 ∙ id_number j (serial + 1) up.4 in
      let serial_is : (mover_at config (Session j) h).keeps.serial ≡ serial = ap (λ (b : Actor). (mover_at config b h).keeps.serial) (sym up.0) in
      let unused = (sessions_read config h before j).fresh y owner (omega (arith, number_is, serial_is)) in
      let here : Above config y (entry (Session j) reading (Tell number (told.Began y at)) ∷ h) = above_here config h j reading number y at run_j owner unused.0 in
      subst (λ (z : ℕ). Above config z (e ∷ h)) same.1 (subst (λ (b : Actor). Above config y (entry b reading (Tell number (told.Began y at)) ∷ h)) (sym up.0) here)
  | inr differ ↦ above_not config x (entry a reading (Tell number (told.Began y at))) h (began_not x y at differ.1) above
]
above_event config x a reading event h before run above = above_not config x (entry a reading event) h refl above

pub began_above : (config : Config) (x : ℕ) (h : History) → Run config h → Above config x h
unfolding Steps mover_at begin_of
began_above config x [] run = omega arith
began_above config x (e ∷ h) run = let before : Run config h = (run.0, run.1.0) in above_event config x e.actor e.reading e.event h before run (began_above config x h before)

-- which is not above its read time
low_event : (config : Config) (x : ℕ) (a : Actor) (reading : Option ℕ) (event : Event) (h : History) → Run config h → Run config (entry a reading event ∷ h) → began_time x h ≡ None → or_zero (began_by x event) ≤ read_time config (entry a reading event ∷ h) x
unfolding began_time
low_event config x a reading (Tell number (told.Began y at)) h before run unused = elim (eq_cases y x) [
  | inl same ↦
      let e = entry a reading (Tell number (told.Began y at)) in
      let up : IsToldAt config h a (Tell number (told.Began y at)) = reads_up config (e ∷ h) h e run (inl (refl, refl)) in
      let j = session_of a in
      let serial = (mover_at config a h).keeps.serial in
      let owner : owner_of y ≡ j = ap owner_of up.3 ∙ id_owner j (serial + 1) up.4 in
      let number_is : number_of y ≡ serial + 1 = ap number_of up.3 ∙ id_number j (serial + 1) up.4 in
      let serial_is : (mover_at config (Session j) h).keeps.serial ≡ serial = ap (λ (b : Actor). (mover_at config b h).keeps.serial) (sym up.0) in
      let none = (sessions_read config h before j).fresh y owner (omega (arith, number_is, serial_is)) in
      let first : first_read config (e ∷ h) x ≡ None = began_first config x a reading number y at h ∙ (ap (λ (z : ℕ). first_read config h z) (sym same.1) ∙ none.1) in
      let time : read_time config (e ∷ h) x ≡ or_zero (began_time x (e ∷ h)) = ap (λ (o : Option ℕ). or_zero (or_else o (began_time x (e ∷ h)))) first in
      let here : began_time x (e ∷ h) ≡ began_by x (Tell number (told.Began y at)) = ap (λ (o : Option ℕ). or_else o (began_by x (Tell number (told.Began y at)))) unused in
      let is : read_time config (e ∷ h) x ≡ or_zero (began_by x (Tell number (told.Began y at))) = time ∙ ap or_zero here in
      omega (arith, is)
  | inr differ ↦ let none : or_zero (began_by x (Tell number (told.Began y at))) ≡ 0 = ap or_zero (began_not x y at differ.1) in omega (arith, none)
]
low_event config x a reading event h before run unused = omega arith

began_choice : (o p : Option ℕ) (t u : ℕ) → (o ≡ None → or_zero p ≤ u) → or_zero o ≤ t → t ≤ u → or_zero (or_else o p) ≤ u
began_choice (Some n) p t u other le up = omega (arith, le, up)
began_choice None p t u other le up = other refl

pub began_low : (config : Config) (x : ℕ) (h : History) → Run config h → or_zero (began_time x h) ≤ read_time config h x
unfolding Steps began_time reads first_read_time
began_low config x [] run = omega arith
began_low config x (e ∷ h) run =
    let before : Run config h = (run.0, run.1.0) in
    began_choice (began_time x h) (began_by x e.event) (read_time config h x) (read_time config (e ∷ h) x) (low_event config x e.actor e.reading e.event h before run) (began_low config x h before)
    (time_rises config (e ∷ h) h e x run (inl (refl, refl)))

-- ## so no read is below the time of its session before its origin

part_begin : (x : ℕ) (h : History) → IsPart (begin_of x h) h
unfolding begin_of
part_begin x [] = part_refl []
part_begin x (e ∷ h) = begin_part (began_by x e.event) (part_begin x h)
  where
    begin_part : (o : Option ℕ) → IsPart (begin_of x h) h → IsPart (elim o [ Some at ↦ before_start e.actor h | None ↦ begin_of x h ]) (e ∷ h)
    begin_part (Some at) part = part_more (before_start e.actor h) e h (part_start e.actor h)
    begin_part None part = part_more (begin_of x h) e h part

pub part_origin : (read : Read) (o : Option ℕ) → IsPart (origin_under read o) read.before
part_origin read (Some x) = part_begin x read.before
part_origin read None = part_start (Session read.session) read.before

open_above : (config : Config) (read : Read) (x : Opened) (serial : ℕ) → Run config read.before → OpenedRead config read.before read.session serial (Some x) → x.r ≤ read.at → (mover_at config (Session read.session) (begin_of x.meta.txn read.before)).keeps.last ≤ read.at
open_above config read x serial run ok up =
    let above = began_above config x.meta.txn read.before run in
    let low = began_low config x.meta.txn read.before run in
    let time = ok.time in
    let mine : (mover_at config (Session read.session) (begin_of x.meta.txn read.before)).keeps.last ≤ or_zero (began_time x.meta.txn read.before) =
    subst (λ (i : ℕ). (mover_at config (Session i) (begin_of x.meta.txn read.before)).keeps.last ≤ or_zero (began_time x.meta.txn read.before)) ok.owner above in
    omega (arith, mine, low, time, up)

origin_above : (config : Config) (read : Read) (s : Keeps) (opened : Option Opened) → Facts config read → s.opened ≡ opened → (mover_at config (Session read.session) (start_of read)).keeps.last ≡ s.last → OpenedRead config read.before read.session s.serial opened → IsUp opened read.at →
    (opened ≡ None → s.last ≤ read.at) → (mover_at config (Session read.session) (origin_under read (open_txn opened))).keeps.last ≤ read.at
origin_above config read s (Some x) f is last ok up outside = open_above config read x s.serial f.run ok up
origin_above config read s None f is last ok up outside = let le = outside refl in omega (arith, le, last)

pub read_above : (config : Config) (h : History) (read : Read) → Run config h → Member read (reads h) → (mover_at config (Session read.session) (origin config read)).keeps.last ≤ read.at
read_above config h read run m =
    let f = read_facts config h read run m in
    let i = read.session in
    let s = mover_at config (Session i) read.before in
    let keeps = start_of_keeps config read f in
    let t = read_entry h read m in
    let e = entry (Session i) t.reading (Tell t.number (told.Values read.at read.restarts read.rows)) in
    let up_to : Steps config (e ∷ read.before) = steps_at config e read.before h run.1 t.stands in
    let came = told_came_about config h read.before e run t.stands in
    let outside : s.keeps.opened ≡ None → s.keeps.last ≤ read.at = λ none. about_from config i s.keeps (e ∷ read.before) (before_start (Session i) read.before) s.reading s.line read.at read.restarts read.rows up_to (subst IsReadLine (sym f.line_is) f.reads) none came in
    let is : inside config read ≡ open_txn s.keeps.opened = ap (λ (k : Keeps). open_txn k.opened) keeps in
    subst (λ (o : Option ℕ). (mover_at config (Session i) (origin_under read o)).keeps.last ≤ read.at) (sym is)
    (origin_above config read s.keeps s.keeps.opened f refl (ap (λ (k : Keeps). k.last) keeps) (sessions_read config read.before f.run i).opened f.up outside)

-- ## the law

commit_told : (config : Config) (h low : History) (i y : ℕ) (a : Actor) (reading : Option ℕ) (event : Event) (x : CommittedTxn) (before : History) → Steps config low → StandsOver (entry a reading event) before low → a ≡ Session i → is_commit_of y event ≡ true → TellsCommit h event →
    Member x (committed h) → x.txn ≡ y → x.at ≤ (mover_at config (Session i) low).keeps.last
commit_told config h low i y a reading (Tell number (told.Committed z at)) x before steps stands own is tells of same =
    let time : x.at ≡ at = tells x of (same ∙ sym (eq_true z y is)) in
    let le = told_taken config (Session i) reading number (told.Committed z at) before low steps (subst (λ (b : Actor). StandsOver (entry b reading (Tell number (told.Committed z at))) before low) own stands) in
    omega (arith, time, le)
commit_told config h low i y a reading event x before steps stands own is tells of same = cc

pub reads_steady : ReadsAreSteady
unfolding Steps
reads_steady config h read run m =
    let f = read_facts config h read run m in
    let i = read.session in
    let final = (reads_final config h read run m).time in
    let above = read_above config h read run m in
    let low = origin config read in
    let t = read_entry h read m in
    let in_before : IsPart low read.before = part_origin read (inside config read) in
    let steps_low : Steps config low = part_steps config low read.before in_before f.run.1 in
    let in_h : IsPart low h = part_trans low read.before h in_before (part_tail (entry (Session i) t.reading (Tell t.number (told.Values read.at read.restarts read.rows))) read.before h (stands_part (entry (Session i) t.reading (Tell t.number (told.Values read.at read.restarts read.rows))) read.before h t.stands)) in
    record {
      commits = λ x of told_own.
          let e = any_member (λ (g : Entry). same_actor g.actor (Session i) && is_commit_of x.txn g.event) low told_own in
          let parts = and_parts (same_actor e.0.actor (Session i)) (is_commit_of x.txn e.0.event) e.2 in
          let place = member_stands e.0 low e.1 in
          let le = commit_told config h low i x.txn e.0.actor e.0.reading e.0.event x place.0 steps_low place.1 (same_true e.0.actor (Session i) parts.0) parts.1 (commit_times config h e.0 run (part_member e.0 low h in_h e.1)) of refl in
          omega (arith, le, above, final);
      reads_before = λ earlier of same.
          let run_low : Run config low = (run.0, steps_low) in
          let time = (reads_final config low earlier run_low of).time in
          let u = read_entry low earlier of in
          let le = told_taken config (Session earlier.session) u.reading u.number (told.Values earlier.at earlier.restarts earlier.rows) earlier.before low steps_low u.stands in
          let there : earlier.at ≤ (mover_at config (Session i) low).keeps.last = subst (λ (j : ℕ). earlier.at ≤ (mover_at config (Session j) low).keeps.last) same le in
          omega (arith, there, above, final, time);
    }
