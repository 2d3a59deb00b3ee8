-- What the program of a line tells a refusal for.
use Rattle.std.proofs.Common.{◌≡◌, ℕ, ◌<◌, Bool, true, false, ◌||◌, List, [], ◌∷◌, Option, Some, None, Ok, Err, max, length, nat_lt, refl, sym, ap, subst, inl, inr, ◌⊎◌, if◌then◌else◌}
use Rattle.std.proofs.lemmas.Bool.{ltb-true}
use Rattle.hybrid_time.specs.Time.{greatest_reading, limit_time, time_at}
use Rattle.hybrid_time.specs.declared.time_refusal.TimeRefusal.TheVariants as time_refusal
use Rattle.txn_data.specs.declared.actor.Actor.{Actor}
use Rattle.txn_data.specs.declared.actor.Actor.TheVariants.{Tablet, Status, Session, Applier}
use Rattle.txn_data.specs.declared.command.Command.{Command}
use Rattle.txn_data.specs.declared.command.Command.TheVariants as command
use Rattle.txn_data.specs.declared.config.Config.{Config}
use Rattle.txn_data.specs.declared.op.Op.{Op}
use Rattle.txn_data.specs.declared.op.Op.TheVariants as op
use Rattle.txn_data.specs.declared.place.Place.{Place}
use Rattle.txn_data.specs.declared.read_kind.ReadKind.{ReadKind}
use Rattle.txn_data.specs.declared.read_kind.ReadKind.TheVariants.{Get, Scan}
use Rattle.txn_data.specs.declared.request.Request.{Request}
use Rattle.txn_data.specs.declared.reply.Reply.{Reply}
use Rattle.txn_data.specs.declared.reply.Reply.TheVariants as reply
use Rattle.txn_data.specs.declared.refusal.Refusal.TheVariants as refusal
use Rattle.txn_data.specs.declared.told.Told.{Told}
use Rattle.txn_data.specs.declared.told.Told.TheVariants as told
use Rattle.txn_data.specs.declared.told_refusal.ToldRefusal.{ToldRefusal}
use Rattle.txn_data.specs.declared.told_refusal.ToldRefusal.TheVariants as told_refusal
use Rattle.txn_data.specs.declared.txn_step.TxnStep.TheVariants as step
use Rattle.txn_types.specs.Program.{Program, Done, Asks, Reads, then_do}
use Rattle.txn_types.specs.ReadProgram.{read_program}
use Rattle.txn_types.specs.TxnProgram.{refused, txn_program}
use Rattle.txn_types.specs.PassProgram.{pass_program}
use Rattle.txn_types.specs.Plan.{IsLine}
use Rattle.txn_types.specs.Session.{Keeps, Opened, IsOpen, next_meta, timed_then, begin_program, read_at, read_inside, read_told, writes_of, has_writes, tablets_used, read_command, write_command, commit_command, abort_command, if_closed, restart_program, command_program}
use Rattle.txn_types.specs.Run.{Mover, MayStart, StartsLine, program_of}
use Rattle.txn_types.specs.Cause.{needs_open, needs_closed, works_inside, is_strict, wrote_or_read}
use Rattle.law_causes.proofs.Goes.{IsMachineName, Because, ToldIs, EndIs, Goes, then_goes}
use Rattle.law_causes.proofs.Programs.{read_goes, told_end, begin_tells, write_tells, single_tells, commit_tells, abort_tells, restart_tells, pass_tells}

-- the line is a read that may not restart
abbrev pub MayNotRestart : Keeps → Command → Type 0
MayNotRestart s line = (is_strict (Some line) ≡ true) ⊎ (wrote_or_read s.opened ≡ true)

-- what a session tells of its own
abbrev pub AtOnce : Actor → Keeps → Command → ToldRefusal → Type 0
AtOnce m s line told_refusal.NoTxn = (needs_open (Some line) ≡ true) × (s.opened ≡ None)
AtOnce m s line told_refusal.TxnOpen = (needs_closed (Some line) ≡ true) × IsOpen s.opened
AtOnce m s line told_refusal.InDoubt = (works_inside (Some line) ≡ true) × ((x : Opened) × (s.opened ≡ Some x) × (x.in_doubt ≡ true))
AtOnce m s line why = ⊥

abbrev pub LineIs : (Actor → Request → Reply → Type 0) → Actor → Keeps → Command → Told → Type 0
LineIs H m s line (told.Refused why) = Because H (MayNotRestart s line) why ⊎ AtOnce m s line why
LineIs H m s line t = Unit {0}

module _ (H : Actor → Request → Reply → Type 0) (m : Actor) (s : Keeps) (line : Command) where
  weaker_told : (t : Told) → ToldIs H (MayNotRestart s line) t → LineIs H m s line t
  weaker_told (told.Refused why) is = inl is
  weaker_told (told.Began txn r) is = tt
  weaker_told (told.Written at) is = tt
  weaker_told (told.Committed txn at) is = tt
  weaker_told (told.Ended txn) is = tt
  weaker_told (told.Values at restarts rows) is = tt
  weaker_told (told.Restarted kept) is = tt
  weaker_told (told.Passed applied cleaned left) is = tt
  weaker_told told.Set is = tt

  weaker : (p : Program Told) → Goes H (ToldIs H (MayNotRestart s line)) p → Goes H (LineIs H m s line) p
  weaker (Done t) goes = weaker_told t goes
  weaker (Asks to asked next) goes = (λ r h. weaker (next r) (goes.0 r h), λ k is. weaker (next (reply.Restarted k)) (goes.1 k is), weaker (next (reply.Refused refusal.Memory)) goes.2)
  weaker (Reads given) goes = λ n. weaker (given n) (goes n)

  -- a reading out of range is told at once
  abbrev pub OutOfRange : ℕ → Program Told → Type 0
  OutOfRange n p = (p ≡ refused (told_refusal.ClockRange m n)) × (greatest_reading < n)

  abbrev pub Starts : Program Told → Type 0
  Starts (Reads given) = (n : ℕ) → OutOfRange n (given n) ⊎ Goes H (LineIs H m s line) (given n)
  Starts (Done t) = Goes H (LineIs H m s line) (Done t)
  Starts (Asks to asked next) = Goes H (LineIs H m s line) (Asks to asked next)

  pub goes_starts : (p : Program Told) → Goes H (LineIs H m s line) p → Starts p
  goes_starts (Done t) goes = goes
  goes_starts (Asks to asked next) goes = goes
  goes_starts (Reads given) goes = λ n. inr (goes n)

  timed_goes : (b : Bool) (i n low : ℕ) (next : ℕ → Program Told) → m ≡ Session i → nat_lt greatest_reading n ≡ b → ((now : ℕ) → Goes H (LineIs H m s line) (next now)) →
      (let p = timed_then i n next (if b then Err (time_refusal.ClockRange n) else Ok low) in OutOfRange n p ⊎ Goes H (LineIs H m s line) p)
  timed_goes true i n low next is lt goes = inl (ap (λ (a : Actor). refused (told_refusal.ClockRange a n)) (sym is), ltb-true greatest_reading n lt)
  timed_goes false i n low next is lt goes = inr (goes low)

  read_of : (own_txn : Option ℕ) (kind : ReadKind) (places : List Place) (t g : ℕ) (strict : Bool) (ws : List _) (limits : List _) → (strict ≡ true → MayNotRestart s line) →
      Goes H (LineIs H m s line) (then_do (read_program own_txn kind places t g strict limits) (λ end. Done (read_told kind ws places end)))
  read_of own_txn kind places t g strict ws limits may = weaker (then_do (read_program own_txn kind places t g strict limits) (λ end. Done (read_told kind ws places end)))
      (then_goes H (EndIs H strict) (ToldIs H (MayNotRestart s line)) (read_program own_txn kind places t g strict limits) (λ end. Done (read_told kind ws places end)) (read_goes H own_txn kind places t g strict limits)
      (λ end goes. told_end H (MayNotRestart s line) strict kind ws places end end.what refl may goes))

or_two : (a b : Bool) → (a || b) ≡ true → (a ≡ true) ⊎ (b ≡ true)
or_two true b is = inl refl
or_two false b is = inr is

wrote_of : (x : Opened) → ((has_writes x.writes ≡ true) ⊎ (x.has_read ≡ true)) → wrote_or_read (Some x) ≡ true
wrote_of x either = choice (has_writes x.writes) either
  where
    choice : (b : Bool) → ((b ≡ true) ⊎ (x.has_read ≡ true)) → (if b then true else x.has_read) ≡ true
    choice true e = refl
    choice false e = elim e [ inl wrong ↦ cc | inr read ↦ read ]

inside_strict : (strict : Bool) (s : Keeps) (line : Command) (x : Opened) → s.opened ≡ Some x → (strict ≡ true → is_strict (Some line) ≡ true) → ((strict || has_writes x.writes) || x.has_read) ≡ true → MayNotRestart s line
inside_strict strict s line x is said any =
    let inner : ((has_writes x.writes ≡ true) ⊎ (x.has_read ≡ true)) → MayNotRestart s line = λ either. inr (subst (λ (o : Option Opened). wrote_or_read o ≡ true) (sym is) (wrote_of x either)) in
    elim (or_two (strict || has_writes x.writes) x.has_read any) [
      | inl either ↦ elim (or_two strict (has_writes x.writes) either) [ inl first ↦ inl (said first) | inr second ↦ inner (inl second) ]
      | inr read ↦ inner (inr read)
    ]

read_line : (H : Actor → Request → Reply → Type 0) (config : Config) (i : ℕ) (s : Keeps) (line : Command) (kind : ReadKind) (strict : Bool) (places : List Place) (o : Option Opened) → s.opened ≡ o → (strict ≡ true → is_strict (Some line) ≡ true) → works_inside (Some line) ≡ true →
    Starts H (Session i) s line (read_command config i s kind strict places o)
read_line H config i s line kind strict places None is said inside = λ n.
    timed_goes H (Session i) s line (nat_lt greatest_reading n) i n (max (max s.last 0) (time_at n 0)) (read_at config kind strict places n) refl refl
    (λ now. read_of H (Session i) s line None kind places now (max now (limit_time n config.skew_us)) strict [] [] (λ yes. inl (said yes)))
read_line H config i s line kind strict places (Some x) is said inside = goes_starts H (Session i) s line (if x.in_doubt then refused told_refusal.InDoubt else read_inside x kind strict places) (doubt x.in_doubt refl)
  where
    doubt : (b : Bool) → x.in_doubt ≡ b → Goes H (LineIs H (Session i) s line) (if b then refused told_refusal.InDoubt else read_inside x kind strict places)
    doubt true in_doubt = inr (inside, (x, is, in_doubt))
    doubt false in_doubt = read_of H (Session i) s line (Some x.meta.txn) kind places x.r x.g (strict || has_writes x.writes || x.has_read) (writes_of x.writes) x.limits (inside_strict strict s line x is said)

write_line : (H : Actor → Request → Reply → Type 0) (i : ℕ) (s : Keeps) (line : Command) (place : Place) (o : Op) (opened : Option Opened) → s.opened ≡ opened → works_inside (Some line) ≡ true → needs_open (Some line) ≡ true →
    Goes H (LineIs H (Session i) s line) (write_command s place o opened)
write_line H i s line place o None is inside needs = inr (needs, is)
write_line H i s line place o (Some x) is inside needs = doubt x.in_doubt refl
  where
    doubt : (b : Bool) → x.in_doubt ≡ b → Goes H (LineIs H (Session i) s line) (if b then refused told_refusal.InDoubt else txn_program (step.Write x.meta (length x.writes) place o x.r s.last))
    doubt true in_doubt = inr (inside, (x, is, in_doubt))
    doubt false in_doubt = weaker H (Session i) s line (txn_program (step.Write x.meta (length x.writes) place o x.r s.last)) (write_tells H (MayNotRestart s line) x.meta (length x.writes) place o x.r s.last)

commit_line : (H : Actor → Request → Reply → Type 0) (i : ℕ) (s : Keeps) (opened : Option Opened) → s.opened ≡ opened → Goes H (LineIs H (Session i) s command.Commit) (commit_command s opened)
commit_line H i s None is = inr (refl, is)
commit_line H i s (Some x) is = weaker H (Session i) s command.Commit (txn_program (step.Commit x.meta s.last (tablets_used [] x.writes))) (commit_tells H (MayNotRestart s command.Commit) x.meta s.last (tablets_used [] x.writes))

abort_line : (H : Actor → Request → Reply → Type 0) (i : ℕ) (s : Keeps) (opened : Option Opened) → s.opened ≡ opened → Goes H (LineIs H (Session i) s command.Abort) (abort_command opened)
abort_line H i s None is = inr (refl, is)
abort_line H i s (Some x) is = weaker H (Session i) s command.Abort (txn_program (step.Abort x.meta)) (abort_tells H (MayNotRestart s command.Abort) x.meta)

end_line : (H : Actor → Request → Reply → Type 0) (i : ℕ) (s : Keeps) (opened : Option Opened) → IsOpen opened → Goes H (LineIs H (Session i) s command.End) (abort_command opened)
end_line H i s None is = absurd is
end_line H i s (Some x) is = weaker H (Session i) s command.End (txn_program (step.Abort x.meta)) (abort_tells H (MayNotRestart s command.End) x.meta)

open_of : (s : Keeps) (x : Opened) → s.opened ≡ Some x → IsOpen s.opened
open_of s x is = subst IsOpen (sym is) tt

begin_line : (H : Actor → Request → Reply → Type 0) (config : Config) (i : ℕ) (s : Keeps) (priority : ℕ) (opened : Option Opened) → s.opened ≡ opened → Starts H (Session i) s (command.Begin priority) (if_closed opened (begin_program config i s priority))
begin_line H config i s priority (Some x) is = inr (refl, open_of s x is)
begin_line H config i s priority None is = λ n.
    timed_goes H (Session i) s (command.Begin priority) (nat_lt greatest_reading n) i n (max (max s.last 0) (time_at n 0)) (λ now. txn_program (step.Begin (next_meta config i s priority) now)) refl refl
    (λ now. weaker H (Session i) s (command.Begin priority) (txn_program (step.Begin (next_meta config i s priority) now)) (begin_tells H (MayNotRestart s (command.Begin priority)) (next_meta config i s priority) now))

single_line : (H : Actor → Request → Reply → Type 0) (config : Config) (i : ℕ) (s : Keeps) (line : Command) (priority : ℕ) (place : Place) (o : Op) (opened : Option Opened) → s.opened ≡ opened → needs_closed (Some line) ≡ true →
    Goes H (LineIs H (Session i) s line) (if_closed opened (txn_program (step.Single (next_meta config i s priority) place o s.last)))
single_line H config i s line priority place o (Some x) is needs = inr (needs, open_of s x is)
single_line H config i s line priority place o None is needs = weaker H (Session i) s line (txn_program (step.Single (next_meta config i s priority) place o s.last)) (single_tells H (MayNotRestart s line) (next_meta config i s priority) place o s.last)

machine_name : (config : Config) (a : Actor) → IsLine config (command.Restart a) → IsMachineName a
machine_name config (Tablet k) is = tt
machine_name config (Status j) is = tt
machine_name config (Session i) is = absurd is
machine_name config (Applier k) is = absurd is

command_goes : (H : Actor → Request → Reply → Type 0) (config : Config) (i : ℕ) (s : Keeps) (line : Command) → StartsLine config s.opened line → Starts H (Session i) s line (command_program config i s line)
command_goes H config i s (command.Begin priority) may = begin_line H config i s priority s.opened refl
command_goes H config i s (command.Put place v) may = goes_starts H (Session i) s (command.Put place v) (write_command s place (op.Put v) s.opened) (write_line H i s (command.Put place v) place (op.Put v) s.opened refl refl refl)
command_goes H config i s (command.Del place) may = goes_starts H (Session i) s (command.Del place) (write_command s place op.Delete s.opened) (write_line H i s (command.Del place) place op.Delete s.opened refl refl refl)
command_goes H config i s command.Commit may = goes_starts H (Session i) s command.Commit (commit_command s s.opened) (commit_line H i s s.opened refl)
command_goes H config i s command.Abort may = goes_starts H (Session i) s command.Abort (abort_command s.opened) (abort_line H i s s.opened refl)
command_goes H config i s command.End may = goes_starts H (Session i) s command.End (abort_command s.opened) (end_line H i s s.opened may)
command_goes H config i s (command.Read strict places) may = read_line H config i s (command.Read strict places) Get strict places s.opened refl (λ yes. yes) refl
command_goes H config i s (command.Scan strict place) may = read_line H config i s (command.Scan strict place) Scan strict (place ∷ []) s.opened refl (λ yes. yes) refl
command_goes H config i s (command.SinglePut place v priority) may = goes_starts H (Session i) s (command.SinglePut place v priority) (if_closed s.opened (txn_program (step.Single (next_meta config i s priority) place (op.Put v) s.last))) (single_line H config i s (command.SinglePut place v priority) priority place (op.Put v) s.opened refl refl)
command_goes H config i s (command.SingleDel place priority) may = goes_starts H (Session i) s (command.SingleDel place priority) (if_closed s.opened (txn_program (step.Single (next_meta config i s priority) place op.Delete s.last))) (single_line H config i s (command.SingleDel place priority) priority place op.Delete s.opened refl refl)
command_goes H config i s (command.Restart actor) may = weaker H (Session i) s (command.Restart actor) (restart_program actor) (restart_tells H (MayNotRestart s (command.Restart actor)) actor (machine_name config actor may))
command_goes H config i s (command.Apply tablet) may = weaker H (Session i) s (command.Apply tablet) (pass_program tablet) (pass_tells H (MayNotRestart s (command.Apply tablet)) tablet)
command_goes H config i s (command.Clock node micros) may = tt

-- the program of a line that may be started
pub line_goes : (H : Actor → Request → Reply → Type 0) (config : Config) (m : Actor) (s : Mover) (line : Command) → MayStart config m s line → Starts H m s.keeps line (program_of config m s.keeps line)
line_goes H config (Session i) s line may = command_goes H config i s.keeps line may.2
line_goes H config (Applier k) s line may = subst (λ (l : Command). Starts H (Applier k) s.keeps l (program_of config (Applier k) s.keeps l)) (sym may.1)
    (weaker H (Applier k) s.keeps (command.Apply k) (pass_program k) (pass_tells H (MayNotRestart s.keeps (command.Apply k)) k))
line_goes H config (Tablet k) s line may = absurd may
line_goes H config (Status j) s line may = absurd may
