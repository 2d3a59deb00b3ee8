-- What the program of a line tells, whatever it hears: a refusal, or an answer that the line may have.
use Rattle.std.proofs.Common.{◌≡◌, ℕ, ◌+◌, Bool, true, false, ◌||◌, List, [], ◌∷◌, Option, Some, None, Ok, Err, Result, max, length, if◌then◌else◌, refl}
use Rattle.hybrid_time.specs.Time.{least_time, limit_time}
use Rattle.hybrid_time.specs.declared.time_refusal.TimeRefusal.{TimeRefusal}
use Rattle.txn_data.specs.declared.actor.Actor.{Actor}
use Rattle.txn_data.specs.declared.actor.Actor.TheVariants.{Tablet, Status, Session, Applier}
use Rattle.txn_data.specs.declared.command.Command.{Command}
use Rattle.txn_data.specs.declared.command.Command.TheVariants as command
use Rattle.txn_data.specs.declared.config.Config.{Config}
use Rattle.txn_data.specs.declared.fate.Fate.TheVariants as fate
use Rattle.txn_data.specs.declared.fate_of.FateOf.{FateOf}
use Rattle.txn_data.specs.declared.found.Found.{Found}
use Rattle.txn_data.specs.declared.meta.Meta.{Meta}
use Rattle.txn_data.specs.declared.op.Op.{Op}
use Rattle.txn_data.specs.declared.op.Op.TheVariants as op
use Rattle.txn_data.specs.declared.place.Place.{Place}
use Rattle.txn_data.specs.declared.read_end.ReadEnd.{ReadEnd}
use Rattle.txn_data.specs.declared.read_kind.ReadKind.{ReadKind}
use Rattle.txn_data.specs.declared.read_kind.ReadKind.TheVariants.{Get, Scan}
use Rattle.txn_data.specs.declared.read_what.ReadWhat.{ReadWhat}
use Rattle.txn_data.specs.declared.read_what.ReadWhat.TheVariants as what
use Rattle.txn_data.specs.declared.reply.Reply.TheVariants as reply
use Rattle.txn_data.specs.declared.row.Row.{Row}
use Rattle.txn_data.specs.declared.told.Told.{Told}
use Rattle.txn_data.specs.declared.told.Told.TheVariants as told
use Rattle.txn_data.specs.declared.told_refusal.ToldRefusal.{ToldRefusal}
use Rattle.txn_data.specs.declared.told_refusal.ToldRefusal.TheVariants as told_refusal
use Rattle.txn_data.specs.declared.txn_step.TxnStep.TheVariants as step
use Rattle.txn_data.specs.declared.written.Written.{Written}
use Rattle.txn_types.specs.Program.{Program, refusal_told}
use Rattle.txn_types.specs.ReadProgram.{read_program}
use Rattle.txn_types.specs.TxnProgram.{refused, write_refused, resolve_all, find_others, txn_program}
use Rattle.txn_types.specs.PassProgram.{Counts, pass_over, pass_program}
use Rattle.txn_types.specs.Session.{Keeps, Opened, txn_id, next_meta, timed_then, begin_program, read_at, read_inside, read_told, writes_of, has_writes, read_command, write_command, commit_command, abort_command, if_closed, restart_program, command_program}
use Rattle.txn_types.specs.Run.{program_of, session_of}
use Rattle.txn_types.specs.Reads.{open_txn}
use Rattle.law_told_commits.proofs.Says.{Says, then_says}
use Rattle.txn_promises.specs.Answers.{txn_of_line, IsAnswerTo}

-- a refusal, or an answer that the line may have
abbrev pub Fits : Option ℕ → Command → Told → Type 0
Fits own line (told.Refused why) = Unit {0}
Fits own line t = IsAnswerTo own line t

-- ## programs whose every refusal is told

abbrev Tells_ : Option ℕ → Command → Program Told → Type 0
Tells_ own line p = Says (Fits own line) p

stop_says : (own : Option ℕ) (line : Command) (meta : Meta) (why : ToldRefusal) → Tells_ own line (write_refused meta why)
stop_says own line meta (told_refusal.Conflict other) = λ r. tt
stop_says own line meta (told_refusal.Overlap at) = λ r. tt
stop_says own line meta (told_refusal.LogFault actor) = λ r. tt
stop_says own line meta why = tt

resolve_says : (own : Option ℕ) (line : Command) (meta : Meta) (fs : List Found) (fates : List FateOf) (stop : ToldRefusal → Program Told) (next : List FateOf → Program Told) → ((why : ToldRefusal) → Tells_ own line (stop why)) →
    ((found : List FateOf) → Tells_ own line (next found)) → Tells_ own line (resolve_all meta fs fates stop next)
unfolding resolve_all
resolve_says own line meta [] fates stop next stops goes = goes fates
resolve_says own line meta (f ∷ fs) fates stop next stops goes = elim [
  | reply.FateIs fate.Pending ↦ stops (told_refusal.Conflict f.txn)
  | reply.FateIs settled ↦ resolve_says own line meta fs _ stop next stops goes
  | reply.Refused why ↦ stops (refusal_told (Status f.status) why)
  | _ ↦ tt
]

find_says : (own : Option ℕ) (line : Command) (meta : Meta) (place : Place) (stop : ToldRefusal → Program Told) (next : List FateOf → Program Told) → ((why : ToldRefusal) → Tells_ own line (stop why)) →
    ((found : List FateOf) → Tells_ own line (next found)) → Tells_ own line (find_others meta place stop next)
find_says own line meta place stop next stops goes = elim [
  | reply.Others found ↦ resolve_says own line meta found [] stop next stops goes
  | reply.Refused why ↦ stops (refusal_told (Tablet place.tablet) why)
  | _ ↦ tt
]

write_says : (own : Option ℕ) (line : Command) (s : Keeps) (place : Place) (o : Op) (opened : Option Opened) → ((at : ℕ) → Fits own line (told.Written at)) → Tells_ own line (write_command s place o opened)
write_says own line s place o None written = tt
write_says own line s place o (Some x) written = doubt_says x.in_doubt
  where
    doubt_says : (b : Bool) → Tells_ own line (if b then refused told_refusal.InDoubt else txn_program (step.Write x.meta (length x.writes) place o x.r s.last))
    doubt_says true = tt
    doubt_says false = find_says own line x.meta place (write_refused x.meta) _ (λ why. stop_says own line x.meta why) (λ fates. elim [
      | reply.Written at ↦ written at
      | reply.Refused why ↦ stop_says own line x.meta (refusal_told (Tablet place.tablet) why)
      | _ ↦ tt
    ])

single_says : (own : Option ℕ) (line : Command) (config : Config) (i : ℕ) (s : Keeps) (priority : ℕ) (place : Place) (o : Op) (opened : Option Opened) → ((at : ℕ) → Fits own line (told.Committed (txn_id i (s.serial + 1)) at)) →
    Tells_ own line (if_closed opened (txn_program (step.Single (next_meta config i s priority) place o s.last)))
single_says own line config i s priority place o (Some x) done = tt
single_says own line config i s priority place o None done = find_says own line (next_meta config i s priority) place refused _ (λ why. tt) (λ fates. elim [
  | reply.SingleDone at ↦ done at
  | reply.Refused why ↦ tt
  | _ ↦ tt
])

timed_says : (own : Option ℕ) (line : Command) (n i : ℕ) (next : ℕ → Program Told) (time : Result ℕ TimeRefusal) → ((now : ℕ) → Tells_ own line (next now)) → Tells_ own line (timed_then i n next time)
timed_says own line n i next (Ok now) goes = goes now
timed_says own line n i next (Err why) goes = tt

values_fit : (own : Option ℕ) (line : Command) (kind : ReadKind) (ws : List Written) (places : List Place) (end : ReadEnd) (w : ReadWhat) → end.what ≡ w → ((at restarts : ℕ) (rows : List Row) → Fits own line (told.Values at restarts rows)) →
    Fits own line (read_told kind ws places end)
values_fit own line kind ws places end (what.Values rows) is shows = rw is (shows end.t end.restarts _)
values_fit own line kind ws places end (what.Restart at path) is shows = rw is tt
values_fit own line kind ws places end (what.Refused why) is shows = rw is tt

read_says : (own : Option ℕ) (line : Command) (config : Config) (i : ℕ) (s : Keeps) (kind : ReadKind) (strict : Bool) (places : List Place) (opened : Option Opened) → ((at restarts : ℕ) (rows : List Row) → Fits own line (told.Values at restarts rows)) →
    Tells_ own line (read_command config i s kind strict places opened)
read_says own line config i s kind strict places None shows = λ n. timed_says own line n i (read_at config kind strict places n) (least_time s.last 0 n) (λ now.
    then_says (Fits own line) (read_program None kind places now (max now (limit_time n config.skew_us)) strict []) _ (λ end. values_fit own line kind [] places end end.what refl shows))
read_says own line config i s kind strict places (Some x) shows = doubt_says x.in_doubt
  where
    doubt_says : (b : Bool) → Tells_ own line (if b then refused told_refusal.InDoubt else read_inside x kind strict places)
    doubt_says true = tt
    doubt_says false = then_says (Fits own line) (read_program (Some x.meta.txn) kind places x.r x.g (strict || has_writes x.writes || x.has_read) x.limits) _ (λ end. values_fit own line kind (writes_of x.writes) places end end.what refl shows)

begin_says : (config : Config) (i : ℕ) (s : Keeps) (priority : ℕ) (opened : Option Opened) → Tells_ (Some (txn_id i (s.serial + 1))) (command.Begin priority) (if_closed opened (begin_program config i s priority))
begin_says config i s priority (Some x) = tt
begin_says config i s priority None = λ n. timed_says (Some (txn_id i (s.serial + 1))) (command.Begin priority) n i (λ now. txn_program (step.Begin (next_meta config i s priority) now)) (least_time s.last 0 n) (λ now. elim [ reply.Begun ↦ refl | reply.Refused why ↦ tt | _ ↦ tt ])

commit_says : (s : Keeps) (opened : Option Opened) → Tells_ (open_txn opened) command.Commit (commit_command s opened)
commit_says s None = tt
commit_says s (Some x) = elim [ reply.Committed at ↦ refl | reply.AbortedBy by ↦ tt | reply.Gone ↦ refl | reply.Refused why ↦ tt | _ ↦ tt ]

-- of an abort, and of an end
abort_says : (line : Command) (opened : Option Opened) → ((x : ℕ) → Fits (Some x) line (told.Ended x)) → ((x at : ℕ) → Fits (Some x) line (told.Committed x at)) → Tells_ (open_txn opened) line (abort_command opened)
abort_says line None ended committed = tt
abort_says line (Some x) ended committed = elim [ reply.Ended ↦ ended x.meta.txn | reply.Committed at ↦ committed x.meta.txn at | reply.Refused why ↦ tt | _ ↦ tt ]

restart_says : (own : Option ℕ) (a : Actor) → Tells_ own (command.Restart a) (restart_program a)
restart_says own a = elim [ reply.Restarted k ↦ tt | reply.Refused why ↦ tt | _ ↦ tt ]

over_says : (own : Option ℕ) (k : ℕ) (n : Counts) (fs : List Found) → Tells_ own (command.Apply k) (pass_over k n fs)
unfolding pass_over
over_says own k n [] = tt
over_says own k n (f ∷ fs) = elim [
  | reply.FateIs fate.Pending ↦ over_says own k (record n { left = n.left + 1 }) fs
  | reply.FateIs (fate.Committed c) ↦ elim [
    | reply.AppliedHere ↦ elim [ reply.Noted ↦ over_says own k (record n { applied = n.applied + 1 }) fs | reply.Refused why ↦ tt | _ ↦ tt ]
    | reply.Refused why ↦ tt
    | _ ↦ tt
  ]
  | reply.FateIs fate.Aborted ↦ elim [ reply.Cleaned ↦ over_says own k (record n { cleaned = n.cleaned + 1 }) fs | reply.Refused why ↦ tt | _ ↦ tt ]
  | reply.FateIs fate.Absent ↦ elim [ reply.Cleaned ↦ over_says own k (record n { cleaned = n.cleaned + 1 }) fs | reply.Refused why ↦ tt | _ ↦ tt ]
  | reply.Refused why ↦ tt
  | _ ↦ tt
]

pass_says : (own : Option ℕ) (k : ℕ) → Tells_ own (command.Apply k) (pass_program k)
pass_says own k = elim [ reply.Intents found ↦ over_says own k _ found | reply.Refused why ↦ tt | _ ↦ tt ]

-- ## each line

command_says : (config : Config) (i : ℕ) (s : Keeps) (line : Command) → Tells_ (txn_of_line i s line) line (command_program config i s line)
command_says config i s (command.Begin priority) = begin_says config i s priority s.opened
command_says config i s (command.Put place v) = write_says (open_txn s.opened) (command.Put place v) s place (op.Put v) s.opened (λ at. tt)
command_says config i s (command.Del place) = write_says (open_txn s.opened) (command.Del place) s place op.Delete s.opened (λ at. tt)
command_says config i s command.Commit = commit_says s s.opened
command_says config i s command.Abort = abort_says command.Abort s.opened (λ x. refl) (λ x at. refl)
command_says config i s command.End = abort_says command.End s.opened (λ x. refl) (λ x at. refl)
command_says config i s (command.Read strict places) = read_says (open_txn s.opened) (command.Read strict places) config i s Get strict places s.opened (λ at restarts rows. tt)
command_says config i s (command.Scan strict place) = read_says (open_txn s.opened) (command.Scan strict place) config i s Scan strict (place ∷ []) s.opened (λ at restarts rows. tt)
command_says config i s (command.SinglePut place v priority) = single_says (Some (txn_id i (s.serial + 1))) (command.SinglePut place v priority) config i s priority place (op.Put v) s.opened (λ at. refl)
command_says config i s (command.SingleDel place priority) = single_says (Some (txn_id i (s.serial + 1))) (command.SingleDel place priority) config i s priority place op.Delete s.opened (λ at. refl)
command_says config i s (command.Restart actor) = restart_says (open_txn s.opened) actor
command_says config i s (command.Apply tablet) = pass_says (open_txn s.opened) tablet
command_says config i s (command.Clock node micros) = tt

-- and of each mover
pub line_says : (config : Config) (m : Actor) (s : Keeps) (line : Command) → Says (Fits (txn_of_line (session_of m) s line) line) (program_of config m s line)
line_says config (Session i) s line = command_says config i s line
line_says config (Applier k) s (command.Apply tablet) = pass_says (open_txn s.opened) tablet
line_says config (Tablet k) s (command.Apply tablet) = pass_says (open_txn s.opened) tablet
line_says config (Status j) s (command.Apply tablet) = pass_says (open_txn s.opened) tablet
line_says config (Applier k) s line = tt
line_says config (Tablet k) s line = tt
line_says config (Status j) s line = tt
