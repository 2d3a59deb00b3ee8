-- What the program of each line asks, and what each reply means for what is told.
use Rattle.std.proofs.Common.{◌≡◌, ℕ, Bool, true, false, ◌||◌, List, [], ◌∷◌, Option, Some, None, Result, Ok, Err, max, length, refl, sym, ◌∙◌, ap, subst, inl, inr, ◌⊎◌, if◌then◌else◌}
use Rattle.hybrid_time.specs.Time.{limit_time, least_time}
use Rattle.hybrid_time.specs.declared.time_refusal.TimeRefusal.{TimeRefusal}
use Rattle.txn_data.specs.declared.actor.Actor.{Actor}
use Rattle.txn_data.specs.declared.actor.Actor.TheVariants.{Tablet, Status, Session, Applier}
use Rattle.txn_data.specs.declared.command.Command.{Command}
use Rattle.txn_data.specs.declared.command.Command.TheVariants as command
use Rattle.txn_data.specs.declared.config.Config.{Config}
use Rattle.txn_data.specs.declared.op.Op.{Op}
use Rattle.txn_data.specs.declared.op.Op.TheVariants as op
use Rattle.txn_data.specs.declared.place.Place.{Place}
use Rattle.txn_data.specs.declared.read_kind.ReadKind.{ReadKind}
use Rattle.txn_data.specs.declared.read_kind.ReadKind.TheVariants.{Get, Scan}
use Rattle.txn_data.specs.declared.request.Request.{Request}
use Rattle.txn_data.specs.declared.request.Request.TheVariants as request
use Rattle.txn_data.specs.declared.reply.Reply.{Reply}
use Rattle.txn_data.specs.declared.told.Told.{Told}
use Rattle.txn_data.specs.declared.told_refusal.ToldRefusal.TheVariants as told_refusal
use Rattle.txn_data.specs.declared.txn_step.TxnStep.TheVariants as step
use Rattle.txn_types.specs.Program.{Program}
use Rattle.txn_types.specs.TxnProgram.{refused, txn_program}
use Rattle.txn_types.specs.PassProgram.{pass_program}
use Rattle.txn_types.specs.Session.{Keeps, Opened, next_meta, timed_then, begin_program, read_at, read_inside, writes_of, has_writes, tablets_used, read_command, write_command, commit_command, abort_command, if_closed, command_program}
use Rattle.txn_types.specs.Run.{Mover, MayStart, program_of}
use Rattle.txn_types.specs.Reads.{open_txn}
use Rattle.txn_types.specs.Cause.{is_strict, wrote_or_read}
use Rattle.txn_promises.specs.Lines.{is_write, is_abort_line, is_read, is_single}
use Rattle.law_heard.proofs.Heeds.{Heeds}
use Rattle.law_heard.proofs.Means.{IsAsked, Closes, Means}
use Rattle.law_heard.proofs.Programs.{OfRead, told_read, begin_heeds, write_heeds, single_heeds, commit_heeds, end_heeds, restart_heeds, pass_heeds}

-- the line may not restart, over what is kept at its start
abbrev pub Stops : Keeps → Command → Type 0
Stops s line = (is_strict (Some line) ≡ true) ⊎ (wrote_or_read s.opened ≡ true)

abbrev pub LineHeeds : Keeps → Command → Program Told → Type 0
LineHeeds s line p = Heeds (IsAsked (Some line) s.opened) (Closes (is_write (Some line))) (Means (is_write (Some line)) (Stops s line)) p

-- ## reads

read_kinds : (s : Keeps) (line : Command) → is_read (Some line) ≡ true → (to : Actor) (asked : Request) → OfRead to asked → IsAsked (Some line) s.opened to asked
read_kinds s line is to (request.ListRead own_txn paths t g limit) of = is
read_kinds s line is to (request.AskFate x t) of = inl is
read_kinds s line is to (request.Collect own_txn kind paths t window fates) of = is
read_kinds s line is to asked of = absurd of

or_right : (a b : Bool) → b ≡ true → (a || b) ≡ true
or_right true b is = refl
or_right false b is = is

or_left : (a b : Bool) → a ≡ true → (a || b) ≡ true
or_left a b is = rw is refl

wrote_cases : (x : Opened) → wrote_or_read (Some x) ≡ true → (has_writes x.writes ≡ true) ⊎ (x.has_read ≡ true)
wrote_cases x is = choice (has_writes x.writes) refl is
  where
    choice : (b : Bool) → has_writes x.writes ≡ b → (if b then true else x.has_read) ≡ true → (has_writes x.writes ≡ true) ⊎ (x.has_read ≡ true)
    choice true e any = inl e
    choice false e read = inr read

stops_outside : (s : Keeps) (line : Command) (strict : Bool) → s.opened ≡ None → is_strict (Some line) ≡ strict → Stops s line → strict ≡ true
stops_outside s line strict is said stops = elim stops [
  | inl strictly ↦ sym said ∙ strictly
  | inr wrote ↦ let wrong : wrote_or_read None ≡ true = subst (λ (o : Option Opened). wrote_or_read o ≡ true) is wrote in cc
]

stops_inside : (s : Keeps) (line : Command) (strict : Bool) (x : Opened) → s.opened ≡ Some x → is_strict (Some line) ≡ strict → Stops s line → ((strict || has_writes x.writes) || x.has_read) ≡ true
stops_inside s line strict x is said stops = elim stops [
  | inl strictly ↦ or_left (strict || has_writes x.writes) x.has_read (or_left strict (has_writes x.writes) (sym said ∙ strictly))
  | inr any ↦ elim (wrote_cases x (subst (λ (o : Option Opened). wrote_or_read o ≡ true) is any)) [
    | inl wrote ↦ or_left (strict || has_writes x.writes) x.has_read (or_right strict (has_writes x.writes) wrote)
    | inr read ↦ or_right (strict || has_writes x.writes) x.has_read read
  ]
]

timed_heeds : (P C : Actor → Request → Type 0) (W : Actor → Request → Reply → Told → Type 0) (i n : ℕ) (next : ℕ → Program Told) (r : Result ℕ TimeRefusal) → ((now : ℕ) → Heeds P C W (next now)) → Heeds P C W (timed_then i n next r)
timed_heeds P C W i n next (Ok now) goes = goes now
timed_heeds P C W i n next (Err why) goes = tt

read_line : (config : Config) (i : ℕ) (s : Keeps) (line : Command) (kind : ReadKind) (strict : Bool) (places : List Place) (o : Option Opened) → s.opened ≡ o → is_strict (Some line) ≡ strict → is_read (Some line) ≡ true →
    LineHeeds s line (read_command config i s kind strict places o)
read_line config i s line kind strict places None is said reads = λ n.
    timed_heeds (IsAsked (Some line) s.opened) (Closes (is_write (Some line))) (Means (is_write (Some line)) (Stops s line)) i n (read_at config kind strict places n) (least_time s.last 0 n)
    (λ now. told_read (IsAsked (Some line) s.opened) (is_write (Some line)) (Stops s line) None kind places now (max now (limit_time n config.skew_us)) strict [] [] (stops_outside s line strict is said) (read_kinds s line reads))
read_line config i s line kind strict places (Some x) is said reads = doubt x.in_doubt
  where
    doubt : (b : Bool) → LineHeeds s line (if b then refused told_refusal.InDoubt else read_inside x kind strict places)
    doubt true = tt
    doubt false = told_read (IsAsked (Some line) s.opened) (is_write (Some line)) (Stops s line) (Some x.meta.txn) kind places x.r x.g (strict || has_writes x.writes || x.has_read) (writes_of x.writes) x.limits (stops_inside s line strict x is said) (read_kinds s line reads)

-- ## the others

open_is : (s : Keeps) (x : Opened) → s.opened ≡ Some x → open_txn s.opened ≡ Some x.meta.txn
open_is s x is = ap open_txn is

write_line : (s : Keeps) (line : Command) (place : Place) (o : Op) (opened : Option Opened) → s.opened ≡ opened → is_write (Some line) ≡ true → LineHeeds s line (write_command s place o opened)
write_line s line place o None is writes = tt
write_line s line place o (Some x) is writes = doubt x.in_doubt
  where
    doubt : (b : Bool) → LineHeeds s line (if b then refused told_refusal.InDoubt else txn_program (step.Write x.meta (length x.writes) place o x.r s.last))
    doubt true = tt
    doubt false = write_heeds (IsAsked (Some line) s.opened) (is_write (Some line)) (Stops s line) x.meta (length x.writes) place o x.r s.last writes (inl writes) (λ j y. inl writes) (λ fates. (tt, writes, open_is s x is)) (inl writes, open_is s x is)

commit_line : (s : Keeps) (opened : Option Opened) → s.opened ≡ opened → LineHeeds s command.Commit (commit_command s opened)
commit_line s None is = tt
commit_line s (Some x) is = commit_heeds (IsAsked (Some command.Commit) s.opened) false (Stops s command.Commit) x.meta s.last (tablets_used [] x.writes) (refl, open_is s x is)

end_line : (s : Keeps) (line : Command) (opened : Option Opened) → s.opened ≡ opened → is_abort_line (Some line) ≡ true → is_write (Some line) ≡ false → LineHeeds s line (abort_command opened)
end_line s line None is ends not = tt
end_line s line (Some x) is ends not = end_heeds (IsAsked (Some line) s.opened) (is_write (Some line)) (Stops s line) x.meta not (inr ends, open_is s x is)

begin_line : (config : Config) (i : ℕ) (s : Keeps) (priority : ℕ) (opened : Option Opened) → LineHeeds s (command.Begin priority) (if_closed opened (begin_program config i s priority))
begin_line config i s priority (Some x) = tt
begin_line config i s priority None = λ n.
    timed_heeds (IsAsked (Some (command.Begin priority)) s.opened) (Closes false) (Means false (Stops s (command.Begin priority))) i n (λ now. txn_program (step.Begin (next_meta config i s priority) now)) (least_time s.last 0 n)
    (λ now. begin_heeds (IsAsked (Some (command.Begin priority)) s.opened) false (Stops s (command.Begin priority)) (next_meta config i s priority) now refl)

single_line : (config : Config) (i : ℕ) (s : Keeps) (line : Command) (priority : ℕ) (place : Place) (o : Op) (opened : Option Opened) → is_single (Some line) ≡ true → LineHeeds s line (if_closed opened (txn_program (step.Single (next_meta config i s priority) place o s.last)))
single_line config i s line priority place o (Some x) is = tt
single_line config i s line priority place o None is =
    single_heeds (IsAsked (Some line) s.opened) (is_write (Some line)) (Stops s line) (next_meta config i s priority) place o s.last (inr is) (λ j y. inr is) (λ fates. (tt, is))

pass_line : (s : Keeps) (tablet : ℕ) → LineHeeds s (command.Apply tablet) (pass_program tablet)
pass_line s tablet = pass_heeds (IsAsked (Some (command.Apply tablet)) s.opened) false (Stops s (command.Apply tablet)) tablet
    (record { lists = refl; asks = λ j x. inr refl; applies = λ x at. refl; cleans = λ x. refl; notes = λ j x. refl })

command_heeds : (config : Config) (i : ℕ) (s : Keeps) (line : Command) → LineHeeds s line (command_program config i s line)
command_heeds config i s (command.Begin priority) = begin_line config i s priority s.opened
command_heeds config i s (command.Put place v) = write_line s (command.Put place v) place (op.Put v) s.opened refl refl
command_heeds config i s (command.Del place) = write_line s (command.Del place) place op.Delete s.opened refl refl
command_heeds config i s command.Commit = commit_line s s.opened refl
command_heeds config i s command.Abort = end_line s command.Abort s.opened refl refl refl
command_heeds config i s command.End = end_line s command.End s.opened refl refl refl
command_heeds config i s (command.Read strict places) = read_line config i s (command.Read strict places) Get strict places s.opened refl refl refl
command_heeds config i s (command.Scan strict place) = read_line config i s (command.Scan strict place) Scan strict (place ∷ []) s.opened refl refl refl
command_heeds config i s (command.SinglePut place v priority) = single_line config i s (command.SinglePut place v priority) priority place (op.Put v) s.opened refl
command_heeds config i s (command.SingleDel place priority) = single_line config i s (command.SingleDel place priority) priority place op.Delete s.opened refl
command_heeds config i s (command.Restart actor) = restart_heeds (IsAsked (Some (command.Restart actor)) s.opened) false (Stops s (command.Restart actor)) actor refl
command_heeds config i s (command.Apply tablet) = pass_line s tablet
command_heeds config i s (command.Clock node micros) = tt

-- the program of a line that may be started
pub line_heeds : (config : Config) (m : Actor) (s : Mover) (line : Command) → MayStart config m s line → LineHeeds s.keeps line (program_of config m s.keeps line)
line_heeds config (Session i) s line may = command_heeds config i s.keeps line
line_heeds config (Applier k) s line may = subst (λ (l : Command). LineHeeds s.keeps l (program_of config (Applier k) s.keeps l)) (sym may.1) (pass_line s.keeps k)
line_heeds config (Tablet k) s line may = absurd may
line_heeds config (Status j) s line may = absurd may
