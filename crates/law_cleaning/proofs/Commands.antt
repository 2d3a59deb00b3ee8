-- Each command of a session, and each pass, cleans only what it was told to be ended.
use Rattle.std.proofs.Common.{ℕ, max, Bool, true, false, ◌||◌, List, [], ◌∷◌, Option, Some, None, Result, Ok, Err, length, sym, subst, if◌then◌else◌}
use Rattle.hybrid_time.specs.Time.{least_time, limit_time}
use Rattle.hybrid_time.specs.declared.time_refusal.TimeRefusal.{TimeRefusal}
use Rattle.txn_data.specs.declared.actor.Actor.{Actor}
use Rattle.txn_data.specs.declared.actor.Actor.TheVariants.{Tablet, Status, Session, Applier}
use Rattle.txn_data.specs.declared.command.Command.{Command}
use Rattle.txn_data.specs.declared.command.Command.TheVariants as command
use Rattle.txn_data.specs.declared.config.Config.{Config}
use Rattle.txn_data.specs.declared.op.Op.{Op}
use Rattle.txn_data.specs.declared.op.Op.TheVariants as op
use Rattle.txn_data.specs.declared.place.Place.{Place}
use Rattle.txn_data.specs.declared.read_kind.ReadKind.{ReadKind}
use Rattle.txn_data.specs.declared.read_kind.ReadKind.TheVariants.{Get, Scan}
use Rattle.txn_data.specs.declared.reply.Reply.TheVariants as reply
use Rattle.txn_data.specs.declared.told.Told.{Told}
use Rattle.txn_data.specs.declared.told.Told.TheVariants as told
use Rattle.txn_data.specs.declared.told_refusal.ToldRefusal.TheVariants as told_refusal
use Rattle.txn_data.specs.declared.txn_step.TxnStep.TheVariants as step
use Rattle.txn_data.specs.declared.event.Event.TheVariants.{Start}
use Rattle.txn_types.specs.History.{History}
use Rattle.txn_types.specs.Program.{Program, Done, refusal_told}
use Rattle.txn_types.specs.TxnProgram.{refused, txn_program}
use Rattle.txn_types.specs.ReadProgram.{read_program}
use Rattle.txn_types.specs.Session.{Keeps, Opened, next_meta, timed_then, begin_program, read_at, read_inside, read_command, has_writes, write_command, commit_command, abort_command, if_closed, restart_program, command_program}
use Rattle.txn_types.specs.Run.{Mover, MayStart, program_of}
use Rattle.txn_data.specs.declared.meta.Meta.{Meta}
use Rattle.txn_types.specs.TxnProgram.{write_refused}
use Rattle.txn_data.specs.declared.told_refusal.ToldRefusal.{ToldRefusal}
use Rattle.law_messages.proofs.Rules.{entry, started}
use Rattle.law_messages.proofs.Safe.{Safe, Keeping}
use Rattle.law_messages.proofs.Shapes.{Always, then_always, OfReads, read_always}
use Rattle.txn_types.specs.Plan.{IsCluster}
use Rattle.law_messages.proofs.Shapes.{OfFinding, find_always}
use Rattle.law_cleaning.proofs.Passes.{rules, NoClean, Safe_, none_safe, pass_safe}

of_reads : OfReads NoClean
of_reads = record { lists = λ own_txn paths t g limit. tt; asks = λ x t. tt; collects = λ own_txn kind paths t window fates. tt }

timed_none : (i reading : ℕ) (next : ℕ → Program Told) (time : Result ℕ TimeRefusal) → ((now : ℕ) → Always NoClean (next now)) → Always NoClean (timed_then i reading next time)
timed_none i reading next (Ok now) goes = goes now
timed_none i reading next (Err why) goes = tt

read_none : (config : Config) (i : ℕ) (s : Keeps) (kind : ReadKind) (strict : Bool) (places : List Place) (opened : Option Opened) → Always NoClean (read_command config i s kind strict places opened)
read_none config i s kind strict places None = λ reading. timed_none i reading (read_at config kind strict places reading) (least_time s.last 0 reading) (λ now.
    then_always NoClean (read_program None kind places now (max now (limit_time reading config.skew_us)) strict []) _
    (read_always NoClean of_reads None kind places now (max now (limit_time reading config.skew_us)) strict []) (λ end. tt))
read_none config i s kind strict places (Some x) = doubt_none x.in_doubt
  where
    doubt_none : (b : Bool) → Always NoClean (if b then refused told_refusal.InDoubt else read_inside x kind strict places)
    doubt_none true = tt
    doubt_none false = then_always NoClean (read_program (Some x.meta.txn) kind places x.r x.g (strict || has_writes x.writes || x.has_read) x.limits) _
        (read_always NoClean of_reads (Some x.meta.txn) kind places x.r x.g (strict || has_writes x.writes || x.has_read) x.limits) (λ end. tt)

begin_none : (config : Config) (i : ℕ) (s : Keeps) (priority : ℕ) (opened : Option Opened) → Always NoClean (if_closed opened (begin_program config i s priority))
begin_none config i s priority (Some x) = tt
begin_none config i s priority None = λ reading. timed_none i reading (λ now. txn_program (step.Begin (next_meta config i s priority) now)) (least_time s.last 0 reading)
    (λ now. (tt, elim [ reply.Begun ↦ tt | reply.Refused why ↦ tt | _ ↦ tt ]))

commit_none : (s : Keeps) (opened : Option Opened) → Always NoClean (commit_command s opened)
commit_none s None = tt
commit_none s (Some x) = (tt, elim [ reply.Committed at ↦ tt | reply.AbortedBy by ↦ tt | reply.Gone ↦ tt | reply.Refused why ↦ tt | _ ↦ tt ])

abort_none : (opened : Option Opened) → Always NoClean (abort_command opened)
abort_none None = tt
abort_none (Some x) = (tt, elim [ reply.Ended ↦ tt | reply.Committed at ↦ tt | reply.Refused why ↦ tt | _ ↦ tt ])

restart_none : (a : Actor) → Always NoClean (restart_program a)
restart_none a = (tt, elim [ reply.Restarted k ↦ tt | reply.Refused why ↦ tt | _ ↦ tt ])

-- ## writes

of_finding : OfFinding NoClean
of_finding = record { lists = λ x path. tt; resolves = λ x by priority. tt }

stop_none : (meta : Meta) (why : ToldRefusal) → Always NoClean (write_refused meta why)
stop_none meta (told_refusal.Conflict other) = (tt, λ r. tt)
stop_none meta (told_refusal.Overlap at) = (tt, λ r. tt)
stop_none meta (told_refusal.LogFault actor) = (tt, λ r. tt)
stop_none meta why = tt

write_none : (s : Keeps) (place : Place) (o : Op) (opened : Option Opened) → Always NoClean (write_command s place o opened)
write_none s place o None = tt
write_none s place o (Some x) = doubt_none x.in_doubt
  where
    doubt_none : (b : Bool) → Always NoClean (if b then refused told_refusal.InDoubt else txn_program (step.Write x.meta (length x.writes) place o x.r s.last))
    doubt_none true = tt
    doubt_none false = find_always NoClean of_finding x.meta place (write_refused x.meta) _ (λ why. stop_none x.meta why)
        (λ fates. (tt, elim [ reply.Written at ↦ tt | reply.Refused why ↦ stop_none x.meta (refusal_told (Tablet place.tablet) why) | _ ↦ tt ]))

single_none : (config : Config) (i : ℕ) (s : Keeps) (place : Place) (o : Op) (priority : ℕ) (opened : Option Opened) → Always NoClean (if_closed opened (txn_program (step.Single (next_meta config i s priority) place o s.last)))
single_none config i s place o priority (Some x) = tt
single_none config i s place o priority None = find_always NoClean of_finding (next_meta config i s priority) place refused _ (λ why. tt)
    (λ fates. (tt, elim [ reply.SingleDone at ↦ tt | reply.Refused why ↦ tt | _ ↦ tt ]))

-- ## each command

command_safe : (config : Config) → IsCluster config → (m : Actor) (z : History) (i : ℕ) (s : Keeps) (line : Command) → Safe_ config m z (command_program config i s line)
command_safe config cluster m z i s (command.Begin priority) = none_safe config m z (if_closed s.opened (begin_program config i s priority)) (begin_none config i s priority s.opened)
command_safe config cluster m z i s (command.Put place v) = none_safe config m z (write_command s place (op.Put v) s.opened) (write_none s place (op.Put v) s.opened)
command_safe config cluster m z i s (command.Del place) = none_safe config m z (write_command s place op.Delete s.opened) (write_none s place op.Delete s.opened)
command_safe config cluster m z i s command.Commit = none_safe config m z (commit_command s s.opened) (commit_none s s.opened)
command_safe config cluster m z i s command.Abort = none_safe config m z (abort_command s.opened) (abort_none s.opened)
command_safe config cluster m z i s command.End = none_safe config m z (abort_command s.opened) (abort_none s.opened)
command_safe config cluster m z i s (command.Read strict places) = none_safe config m z (read_command config i s Get strict places s.opened) (read_none config i s Get strict places s.opened)
command_safe config cluster m z i s (command.Scan strict place) = none_safe config m z (read_command config i s Scan strict (place ∷ []) s.opened) (read_none config i s Scan strict (place ∷ []) s.opened)
command_safe config cluster m z i s (command.SinglePut place v priority) = none_safe config m z (if_closed s.opened (txn_program (step.Single (next_meta config i s priority) place (op.Put v) s.last))) (single_none config i s place (op.Put v) priority s.opened)
command_safe config cluster m z i s (command.SingleDel place priority) = none_safe config m z (if_closed s.opened (txn_program (step.Single (next_meta config i s priority) place op.Delete s.last))) (single_none config i s place op.Delete priority s.opened)
command_safe config cluster m z i s (command.Restart actor) = none_safe config m z (restart_program actor) (restart_none actor)
command_safe config cluster m z i s (command.Apply tablet) = pass_safe config cluster m z tablet
command_safe config cluster m z i s (command.Clock node micros) = none_safe config m z (Done told.Set) tt

starts : (config : Config) → IsCluster config → (h : History) (m : Actor) (s : Mover) (number : ℕ) (line : Command) → MayStart config m s line →
    Safe rules config m h (started s.keeps line) (entry m None (Start number line) ∷ h) (program_of config m s.keeps line)
starts config cluster h (Session i) s number line may = command_safe config cluster (Session i) h i s.keeps line (started s.keeps line) (entry (Session i) None (Start number line) ∷ h)
starts config cluster h (Applier k) s number line may =
    subst (λ (l : Command). Safe rules config (Applier k) h (started s.keeps l) (entry (Applier k) None (Start number line) ∷ h) (program_of config (Applier k) s.keeps l)) (sym may.1)
    (pass_safe config cluster (Applier k) h k (started s.keeps (command.Apply k)) (entry (Applier k) None (Start number line) ∷ h))
starts config cluster h (Tablet k) s number line may = absurd may
starts config cluster h (Status j) s number line may = absurd may

pub keeping : (config : Config) → IsCluster config → Keeping rules config
keeping config cluster = record {
  first_base = tt;
  base = λ h e base fine. tt;
  first_idle = λ m. tt;
  idle = λ h e m keeps base fine other idle. tt;
  starts = λ h m s number line steps base is may idle. starts config cluster h m s number line may;
}
