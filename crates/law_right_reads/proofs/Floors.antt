-- A commit is asked by the line of a commit alone, with the session's time as its floor.
use Rattle.std.proofs.Common.{◌≡◌, ℕ, max, Bool, true, false, ◌||◌, List, [], ◌∷◌, Option, Some, None, Result, Ok, Err, length, refl, ◌∙◌, ap, subst, inl, inr, if◌then◌else◌}
use Rattle.hybrid_time.specs.Time.{least_time, limit_time}
use Rattle.hybrid_time.specs.declared.time_refusal.TimeRefusal.{TimeRefusal}
use Rattle.txn_data.specs.declared.actor.Actor.{Actor}
use Rattle.txn_data.specs.declared.actor.Actor.TheVariants.{Tablet, Session}
use Rattle.txn_data.specs.declared.append.Append.{Append}
use Rattle.txn_data.specs.declared.command.Command.{Command}
use Rattle.txn_data.specs.declared.command.Command.TheVariants as command
use Rattle.txn_data.specs.declared.config.Config.{Config}
use Rattle.txn_data.specs.declared.meta.Meta.{Meta}
use Rattle.txn_data.specs.declared.op.Op.{Op}
use Rattle.txn_data.specs.declared.op.Op.TheVariants as op
use Rattle.txn_data.specs.declared.place.Place.{Place}
use Rattle.txn_data.specs.declared.read_kind.ReadKind.{ReadKind}
use Rattle.txn_data.specs.declared.read_kind.ReadKind.TheVariants.{Get, Scan}
use Rattle.txn_data.specs.declared.reply.Reply.{Reply}
use Rattle.txn_data.specs.declared.reply.Reply.TheVariants as reply
use Rattle.txn_data.specs.declared.request.Request.{Request}
use Rattle.txn_data.specs.declared.request.Request.TheVariants as request
use Rattle.txn_data.specs.declared.told.Told.{Told}
use Rattle.txn_data.specs.declared.told_refusal.ToldRefusal.{ToldRefusal}
use Rattle.txn_data.specs.declared.told_refusal.ToldRefusal.TheVariants as told_refusal
use Rattle.txn_data.specs.declared.txn_step.TxnStep.TheVariants as step
use Rattle.txn_data.specs.declared.event.Event.{Event}
use Rattle.txn_data.specs.declared.event.Event.TheVariants.{Start, Ask, Serve, Hear, Tell, Restarted}
use Rattle.txn_types.specs.History.{History}
use Rattle.txn_types.specs.Program.{Program, Done, Asks, Reads, refusal_told, heard, with_reading}
use Rattle.txn_types.specs.ReadProgram.{read_program}
use Rattle.txn_types.specs.TxnProgram.{refused, write_refused, txn_program}
use Rattle.txn_types.specs.Reads.{before_start}
use Rattle.txn_types.specs.Session.{Keeps, Opened, next_meta, timed_then, begin_program, read_at, read_inside, has_writes, read_command, write_command, commit_command, abort_command, if_closed, restart_program, command_program}
use Rattle.txn_types.specs.Run.{Steps, Mover, Flight, Quiet, Asked, Answered, flight, mover_at, mover_after}
use Rattle.law_machines.specs.Own.{StandsOver}
use Rattle.law_machines.proofs.Basics.{same_cases}
use Rattle.law_machines.proofs.Owns.{steps_at}
use Rattle.law_messages.proofs.Rules.{Rules, Stage, stage_of, entry}
use Rattle.law_messages.proofs.Safe.{MoverIs}
use Rattle.law_messages.proofs.Runs.{kept_by}
use Rattle.law_messages.proofs.Shapes.{Always, then_always, OfReads, read_always, OfPasses, pass_always, OfFinding, find_always}
use Rattle.law_courses.proofs.Courses.{rules, keeping}

-- ## programs that ask no commit

abbrev pub NoCommitAsk : Request → Type 0
NoCommitAsk (request.Commit x floor tablets) = ⊥
NoCommitAsk asked = Unit {0}

abbrev Never : Program Told → Type 0
Never p = Always NoCommitAsk p

of_reads : OfReads NoCommitAsk
of_reads = record { lists = λ own_txn paths t g limit. tt; asks = λ x t. tt; collects = λ own_txn kind paths t window fates. tt }

of_passes : OfPasses NoCommitAsk
of_passes = record { lists = tt; asks = λ x t. tt; applies = λ x at. tt; cleans = λ x. tt; notes = λ x tablet. tt }

of_finding : OfFinding NoCommitAsk
of_finding = record { lists = λ x path. tt; resolves = λ x by priority. tt }

timed_never : (i n : ℕ) (next : ℕ → Program Told) (time : Result ℕ TimeRefusal) → ((now : ℕ) → Never (next now)) → Never (timed_then i n next time)
timed_never i n next (Ok now) goes = goes now
timed_never i n next (Err why) goes = tt

read_never : (config : Config) (i : ℕ) (s : Keeps) (kind : ReadKind) (strict : Bool) (places : List Place) (opened : Option Opened) → Never (read_command config i s kind strict places opened)
read_never config i s kind strict places None = λ n. timed_never i n (read_at config kind strict places n) (least_time s.last 0 n) (λ now.
    then_always NoCommitAsk (read_program None kind places now (max now (limit_time n config.skew_us)) strict []) _ (read_always NoCommitAsk of_reads None kind places now (max now (limit_time n config.skew_us)) strict []) (λ end. tt))
read_never config i s kind strict places (Some x) = doubt_never x.in_doubt
  where
    doubt_never : (b : Bool) → Never (if b then refused told_refusal.InDoubt else read_inside x kind strict places)
    doubt_never true = tt
    doubt_never false = then_always NoCommitAsk (read_program (Some x.meta.txn) kind places x.r x.g (strict || has_writes x.writes || x.has_read) x.limits) _ (read_always NoCommitAsk of_reads (Some x.meta.txn) kind places x.r x.g (strict || has_writes x.writes || x.has_read) x.limits) (λ end. tt)

begin_never : (config : Config) (i : ℕ) (s : Keeps) (priority : ℕ) (opened : Option Opened) → Never (if_closed opened (begin_program config i s priority))
begin_never config i s priority (Some x) = tt
begin_never config i s priority None = λ n. timed_never i n (λ now. txn_program (step.Begin (next_meta config i s priority) now)) (least_time s.last 0 n) (λ now. (tt, elim [ reply.Begun ↦ tt | reply.Refused why ↦ tt | _ ↦ tt ]))

stop_never : (meta : Meta) (why : ToldRefusal) → Never (write_refused meta why)
stop_never meta (told_refusal.Conflict other) = (tt, λ r. tt)
stop_never meta (told_refusal.Overlap at) = (tt, λ r. tt)
stop_never meta (told_refusal.LogFault actor) = (tt, λ r. tt)
stop_never meta why = tt

write_never : (s : Keeps) (place : Place) (o : Op) (opened : Option Opened) → Never (write_command s place o opened)
write_never s place o None = tt
write_never s place o (Some x) = doubt_never x.in_doubt
  where
    doubt_never : (b : Bool) → Never (if b then refused told_refusal.InDoubt else txn_program (step.Write x.meta (length x.writes) place o x.r s.last))
    doubt_never true = tt
    doubt_never false = find_always NoCommitAsk of_finding x.meta place (write_refused x.meta) _ (λ why. stop_never x.meta why) (λ fates. (
      tt,
      elim [
        | reply.Written at ↦ tt
        | reply.Refused why ↦ stop_never x.meta (refusal_told (Tablet place.tablet) why)
        | _ ↦ tt
      ],
    ))

single_never : (config : Config) (i : ℕ) (s : Keeps) (place : Place) (o : Op) (priority : ℕ) (opened : Option Opened) → Never (if_closed opened (txn_program (step.Single (next_meta config i s priority) place o s.last)))
single_never config i s place o priority (Some x) = tt
single_never config i s place o priority None = find_always NoCommitAsk of_finding (next_meta config i s priority) place refused _ (λ why. tt) (λ fates. (tt, elim [ reply.SingleDone at ↦ tt | reply.Refused why ↦ tt | _ ↦ tt ]))

abort_never : (opened : Option Opened) → Never (abort_command opened)
abort_never None = tt
abort_never (Some x) = (tt, elim [ reply.Ended ↦ tt | reply.Committed at ↦ tt | reply.Refused why ↦ tt | _ ↦ tt ])

restart_never : (a : Actor) → Never (restart_program a)
restart_never a = (tt, elim [ reply.Restarted k ↦ tt | reply.Refused why ↦ tt | _ ↦ tt ])

-- ## the floor of a commit

abbrev pub FloorOn : ℕ → Command → Request → Type 0
FloorOn last line (request.Commit x floor tablets) = (floor ≡ last) × (line ≡ command.Commit)
FloorOn last line asked = Unit {0}

none_floor : (last : ℕ) (line : Command) (asked : Request) → NoCommitAsk asked → FloorOn last line asked
none_floor last line (request.Commit x floor tablets) never = absurd never
none_floor last line asked never = tt

floors_of : (last : ℕ) (line : Command) (p : Program Told) → Never p → Always (FloorOn last line) p
floors_of last line (Done t) never = tt
floors_of last line (Asks to asked next) never = (none_floor last line asked never.0, λ r. floors_of last line (next r) (never.1 r))
floors_of last line (Reads given) never = λ n. floors_of last line (given n) (never n)

commit_floors : (s : Keeps) (opened : Option Opened) → Always (FloorOn s.last command.Commit) (commit_command s opened)
commit_floors s None = tt
commit_floors s (Some x) = ((refl, refl), elim [ reply.Committed at ↦ tt | reply.AbortedBy by ↦ tt | reply.Gone ↦ tt | reply.Refused why ↦ tt | _ ↦ tt ])

command_floors : (config : Config) (i : ℕ) (s : Keeps) (line : Command) → Always (FloorOn s.last line) (command_program config i s line)
command_floors config i s command.Commit = commit_floors s s.opened
command_floors config i s (command.Begin priority) = floors_of s.last (command.Begin priority) (command_program config i s (command.Begin priority)) (begin_never config i s priority s.opened)
command_floors config i s (command.Put place v) = floors_of s.last (command.Put place v) (command_program config i s (command.Put place v)) (write_never s place (op.Put v) s.opened)
command_floors config i s (command.Del place) = floors_of s.last (command.Del place) (command_program config i s (command.Del place)) (write_never s place op.Delete s.opened)
command_floors config i s command.Abort = floors_of s.last command.Abort (command_program config i s command.Abort) (abort_never s.opened)
command_floors config i s command.End = floors_of s.last command.End (command_program config i s command.End) (abort_never s.opened)
command_floors config i s (command.Read strict places) = floors_of s.last (command.Read strict places) (command_program config i s (command.Read strict places)) (read_never config i s Get strict places s.opened)
command_floors config i s (command.Scan strict place) = floors_of s.last (command.Scan strict place) (command_program config i s (command.Scan strict place)) (read_never config i s Scan strict (place ∷ []) s.opened)
command_floors config i s (command.SinglePut place v priority) = floors_of s.last (command.SinglePut place v priority) (command_program config i s (command.SinglePut place v priority)) (single_never config i s place (op.Put v) priority s.opened)
command_floors config i s (command.SingleDel place priority) = floors_of s.last (command.SingleDel place priority) (command_program config i s (command.SingleDel place priority)) (single_never config i s place op.Delete priority s.opened)
command_floors config i s (command.Restart actor) = floors_of s.last (command.Restart actor) (command_program config i s (command.Restart actor)) (restart_never actor)
command_floors config i s (command.Apply tablet) = floors_of s.last (command.Apply tablet) (command_program config i s (command.Apply tablet)) (pass_always NoCommitAsk of_passes tablet)
command_floors config i s (command.Clock node micros) = tt

-- ## of what is left of a command

abbrev pub Floors : ℕ → Option Command → Program Told → Type 0
Floors last None p = Unit {0}
Floors last (Some line) p = Always (FloorOn last line) p

floors_map : (last : ℕ) (line : Option Command) (p q : Program Told) → ((l : Command) → Always (FloorOn last l) p → Always (FloorOn last l) q) → Floors last line p → Floors last line q
floors_map last None p q goes floors = tt
floors_map last (Some line) p q goes floors = goes line floors

reading_floors : (last : ℕ) (line : Command) (p : Program Told) (reading : Option ℕ) → Always (FloorOn last line) p → Always (FloorOn last line) (with_reading p reading)
reading_floors last line (Reads given) (Some n) floors = floors n
reading_floors last line (Reads given) None floors = floors
reading_floors last line (Done t) reading floors = floors
reading_floors last line (Asks to asked next) reading floors = floors

heard_floors : (last : ℕ) (line : Command) (p : Program Told) (r : Reply) → Always (FloorOn last line) p → Always (FloorOn last line) (heard p r)
heard_floors last line (Asks to asked next) r floors = floors.1 r
heard_floors last line (Done t) r floors = floors
heard_floors last line (Reads given) r floors = floors

floors_event : (config : Config) (i : ℕ) (s : Mover) (reading : Option ℕ) (event : Event) → Floors s.keeps.last s.line s.rest →
    Floors (mover_after config (Session i) s reading event).keeps.last (mover_after config (Session i) s reading event).line (mover_after config (Session i) s reading event).rest
floors_event config i s reading (Start number line) floors = command_floors config i s.keeps line
floors_event config i s reading (Ask to asked) floors = floors_map s.keeps.last s.line s.rest (with_reading s.rest reading) (λ l. reading_floors s.keeps.last l s.rest reading) floors
floors_event config i s reading (Hear from r) floors = floors_map s.keeps.last s.line s.rest (heard s.rest r) (λ l. heard_floors s.keeps.last l s.rest r) floors
floors_event config i s reading (Tell number t) floors = tt
floors_event config i s reading (Serve from asked r time append) floors = floors
floors_event config i s reading (Restarted from kept) floors = floors

floors_at : (config : Config) (h : History) (i : ℕ) → Floors (mover_at config (Session i) h).keeps.last (mover_at config (Session i) h).line (mover_at config (Session i) h).rest
unfolding mover_at
floors_at config [] i = tt
floors_at config (e ∷ h) i = elim (same_cases e.actor (Session i)) [
  | inl s ↦ rw s.0 (floors_event config i (mover_at config (Session i) h) e.reading e.event (floors_at config h i))
  | inr s ↦ rw s.0 (floors_at config h i)
]

-- ## where it is served

asked_floor : (R : Rules) (config : Config) (m : Actor) (z : History) (c : Stage) (h : History) (p : Program Told) (line : Option Command) (f : Flight) (a : Actor) (y floor last : ℕ) (tablets : List ℕ) → MoverIs R config m z c h p line f → f ≡ Asked a (request.Commit y floor tablets) → Floors last line p →
    (floor ≡ last) × (line ≡ Some command.Commit)
asked_floor R config m z c h (Asks to asked next) (Some line) (Asked b q) a y floor last tablets is same floors =
    let of : q ≡ request.Commit y floor tablets = cc in
    let on : FloorOn last line (request.Commit y floor tablets) = subst (λ (r : Request). FloorOn last line r) (is.1 ∙ of) floors.0 in
    (on.0, ap Some on.1)
asked_floor R config m z c h p line Quiet a y floor last tablets is same floors = cc
asked_floor R config m z c h p line (Answered by r) a y floor last tablets is same floors = cc
asked_floor R config m z c h (Done t) (Some line) (Asked b q) a y floor last tablets is same floors = absurd is
asked_floor R config m z c h (Reads given) (Some line) (Asked b q) a y floor last tablets is same floors = absurd is
asked_floor R config m z c h p None (Asked b q) a y floor last tablets is same floors = absurd is

-- the floor of a commit is the time of its session, whose line is a commit
pub commit_floor : (config : Config) (h before : History) (a : Actor) (reading : Option ℕ) (i y floor : ℕ) (tablets : List ℕ) (r : Reply) (time : Option ℕ) (append : Append) → Steps config h → StandsOver (entry a reading (Serve (Session i) (request.Commit y floor tablets) r time append)) before h →
    (floor ≡ (mover_at config (Session i) before).keeps.last) × ((mover_at config (Session i) before).line ≡ Some command.Commit)
unfolding Steps
commit_floor config h before a reading i y floor tablets r time append steps stands =
    let e = entry a reading (Serve (Session i) (request.Commit y floor tablets) r time append) in
    let up_to : Steps config (e ∷ before) = steps_at config e before h steps stands in
    let m = Session i in
    let s = mover_at config m before in
    asked_floor (rules config) config m (before_start m before) (stage_of s) before s.rest s.line (flight m before) a y floor s.keeps.last tablets ((kept_by (rules config) config (keeping config) before up_to.0).movers m) up_to.1.1 (floors_at config before i)
