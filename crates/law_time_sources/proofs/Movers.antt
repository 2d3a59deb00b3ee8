-- Each mover keeps grounded times, and goes on with grounded ones.
use Rattle.std.proofs.Common.{◌≡◌, ℕ, Bool, true, false, List, Option, Some, None, sym, subst, inl, inr, if◌then◌else◌}
use Rattle.hybrid_time.specs.Time.{time_at}
use Rattle.txn_data.specs.declared.actor.Actor.{Actor}
use Rattle.txn_data.specs.declared.command.Command.{Command}
use Rattle.txn_data.specs.declared.command.Command.TheVariants as command
use Rattle.txn_data.specs.declared.config.Config.{Config}
use Rattle.txn_data.specs.declared.op.Op.{Op}
use Rattle.txn_data.specs.declared.op.Op.TheVariants as op
use Rattle.txn_data.specs.declared.place.Place.{Place}
use Rattle.txn_data.specs.declared.tablet_limit.TabletLimit.{TabletLimit}
use Rattle.txn_data.specs.declared.request.Request.{Request}
use Rattle.txn_data.specs.declared.reply.Reply.{Reply}
use Rattle.txn_data.specs.declared.told.Told.{Told}
use Rattle.txn_data.specs.declared.told.Told.TheVariants as told
use Rattle.txn_data.specs.declared.told_refusal.ToldRefusal.TheVariants as told_refusal
use Rattle.txn_data.specs.declared.event.Event.{Event}
use Rattle.txn_data.specs.declared.event.Event.TheVariants.{Start, Ask, Serve, Hear, Tell, Restarted}
use Rattle.txn_types.specs.Lists.{or_else}
use Rattle.txn_types.specs.History.{History}
use Rattle.txn_types.specs.Program as program
use Rattle.txn_types.specs.Program.{Program, Done, Asks, Reads, turn, turn_with, with_reading, heard}
use Rattle.txn_types.specs.Session.{Keeps, Opened, opens, after_write, after_end, after_read, opened_after, keeps_after, moved_by, time_taken}
use Rattle.txn_types.specs.Run.{Mover, mover_after, kept_after, session_of, CanTell}
use Rattle.law_time_sources.specs.Laws.{IsGrounded, RequestIsGrounded, ReplyIsGrounded, ToldIsGrounded}
use Rattle.law_time_sources.proofs.Grounds.{Within, within_same, grounded_in, told_in, zero_grounded, greater_grounded}
use Rattle.law_time_sources.proofs.Programs.{goes_in, Tells, KeptIsGrounded, OpenIsGrounded, program_goes}

-- a reading that stands in an entry
abbrev pub ReadingIsGrounded : History → Option ℕ → Type 0
ReadingIsGrounded h (Some reading) = IsGrounded h (time_at reading 0)
ReadingIsGrounded h None = Unit {0}

reading_in : (h g : History) (reading : Option ℕ) → Within h g → ReadingIsGrounded h reading → ReadingIsGrounded g reading
reading_in h g (Some r) on is = grounded_in h g (time_at r 0) on is
reading_in h g None on is = tt

-- what a mover keeps and what is left of its command
pub record MoverIsGrounded (h : History) (m : Mover) : Type 0 where
  pub kept_is : KeptIsGrounded h m.keeps
  pub reading_is : ReadingIsGrounded h m.reading
  pub rest_is : Tells h m.rest

open_in : (h g : History) (opened : Option Opened) → Within h g → OpenIsGrounded h opened → OpenIsGrounded g opened
open_in h g (Some x) on is = grounded_in h g x.r on is
open_in h g None on is = tt

kept_in : (h g : History) (s : Keeps) → Within h g → KeptIsGrounded h s → KeptIsGrounded g s
kept_in h g s on is = record { last_is = grounded_in h g s.last on is.last_is; open_is = open_in h g s.opened on is.open_is }

rest_in : (h g : History) (p : Program Told) → Within h g → Tells h p → Tells g p
rest_in h g p on goes = goes_in ToldIsGrounded h g p (λ t is. told_in h g t on is) on goes

pub mover_in : (h g : History) (m : Mover) → Within h g → MoverIsGrounded h m → MoverIsGrounded g m
mover_in h g m on is = record { kept_is = kept_in h g m.keeps on is.kept_is; reading_is = reading_in h g m.reading on is.reading_is; rest_is = rest_in h g m.rest on is.rest_is }

-- ## what is asked and told

turn_asks : (h : History) (p : Program Told) (to : Actor) (asked : Request) → turn p ≡ program.Ask to asked → Tells h p → RequestIsGrounded h asked
turn_asks h (Done t) to asked is goes = cc
turn_asks h (Reads given) to asked is goes = cc
turn_asks h (Asks a q next) to asked is goes = let same : q ≡ asked = cc in subst (λ (r : Request). RequestIsGrounded h r) same goes.0

pub asks_grounded : (h : History) (p : Program Told) (reading : Option ℕ) (to : Actor) (asked : Request) → turn_with p reading ≡ program.Ask to asked → ReadingIsGrounded h reading → Tells h p → RequestIsGrounded h asked
asks_grounded h (Done t) None to asked is read goes = cc
asks_grounded h (Done t) (Some r) to asked is read goes = cc
asks_grounded h (Asks a q next) None to asked is read goes = turn_asks h (Asks a q next) to asked is goes
asks_grounded h (Asks a q next) (Some r) to asked is read goes = cc
asks_grounded h (Reads given) None to asked is read goes = cc
asks_grounded h (Reads given) (Some r) to asked is read goes = turn_asks h (given r) to asked is (goes h (within_same h) r read)

turn_tells : (h : History) (p : Program Told) (t : Told) → turn p ≡ program.Tell t → Tells h p → ToldIsGrounded h t
turn_tells h (Done u) t is goes = let same : u ≡ t = cc in subst (λ (v : Told). ToldIsGrounded h v) same goes
turn_tells h (Reads given) t is goes = cc
turn_tells h (Asks a q next) t is goes = cc

with_tells : (h : History) (p : Program Told) (reading : Option ℕ) (t : Told) → turn_with p reading ≡ program.Tell t → ReadingIsGrounded h reading → Tells h p → ToldIsGrounded h t
with_tells h (Done u) None t is read goes = turn_tells h (Done u) t is goes
with_tells h (Done u) (Some r) t is read goes = cc
with_tells h (Asks a q next) None t is read goes = cc
with_tells h (Asks a q next) (Some r) t is read goes = cc
with_tells h (Reads given) None t is read goes = cc
with_tells h (Reads given) (Some r) t is read goes = turn_tells h (given r) t is (goes h (within_same h) r read)

pub tells_grounded : (h : History) (m : Mover) (reading : Option ℕ) (t : Told) → CanTell m reading t → ReadingIsGrounded h reading → MoverIsGrounded h m → ToldIsGrounded h t
tells_grounded h m reading t can read is = elim can [
  | inl turns ↦ with_tells h m.rest reading t turns read is.rest_is
  | inr lost ↦ subst (λ (v : Told). ToldIsGrounded h v) (sym lost.0) tt
]

-- ## what is kept once something is told

moved_grounded : (h : History) (last : ℕ) (reading : Option ℕ) → IsGrounded h last → ReadingIsGrounded h reading → IsGrounded h (moved_by last reading)
moved_grounded h last None is read = is
moved_grounded h last (Some r) is read = greater_grounded h last (time_at r 0) is read

taken_grounded : (h : History) (t : Told) → ToldIsGrounded h t → IsGrounded h (time_taken t)
taken_grounded h (told.Written at) is = is
taken_grounded h (told.Committed x at) is = is
taken_grounded h (told.Values at restarts rows) is = is
taken_grounded h t is = zero_grounded h

opens_grounded : (config : Config) (h : History) (i : ℕ) (s : Keeps) (priority : ℕ) (reading : Option ℕ) (t : Told) → ToldIsGrounded h t → OpenIsGrounded h (opens config i s priority reading t)
opens_grounded config h i s priority (Some r) (told.Began x at) is = is
opens_grounded config h i s priority reading t is = tt

written_grounded : (h : History) (x : Opened) (place : Place) (o : Op) (t : Told) → IsGrounded h x.r → OpenIsGrounded h (after_write x place o t)
written_grounded h x place o (told.Written at) is = is
written_grounded h x place o (told.Refused (told_refusal.Conflict other)) is = tt
written_grounded h x place o (told.Refused (told_refusal.Overlap at)) is = tt
written_grounded h x place o (told.Refused (told_refusal.LogFault actor)) is = tt
written_grounded h x place o t is = is

ended_grounded : (h : History) (x : Opened) (t : Told) → IsGrounded h x.r → OpenIsGrounded h (after_end x t)
ended_grounded h x (told.Committed y at) is = tt
ended_grounded h x (told.Ended y) is = tt
ended_grounded h x (told.Refused (told_refusal.Aborted by)) is = tt
ended_grounded h x (told.Refused (told_refusal.LogFault actor)) is = is
ended_grounded h x t is = is

read_choice : (b : Bool) (h : History) (m n : ℕ) → IsGrounded h m → IsGrounded h n → IsGrounded h (if b then m else n)
read_choice true h m n one two = one
read_choice false h m n one two = two

read_grounded : (h : History) (x : Opened) (limits : List TabletLimit) (t : Told) → IsGrounded h x.r → ToldIsGrounded h t → OpenIsGrounded h (after_read x limits t)
read_grounded h x limits (told.Values at restarts rows) is at_is = read_choice x.has_read h x.r at is at_is
read_grounded h x limits t is at_is = is

opened_grounded : (config : Config) (h : History) (i : ℕ) (s : Keeps) (line : Command) (reading : Option ℕ) (limits : List TabletLimit) (t : Told) (opened : Option Opened) → OpenIsGrounded h opened → ToldIsGrounded h t →
    OpenIsGrounded h (opened_after config i s line reading limits t opened)
opened_grounded config h i s (command.Begin priority) reading limits t None is told_is = opens_grounded config h i s priority reading t told_is
opened_grounded config h i s line reading limits t None is told_is = tt
opened_grounded config h i s (command.Put place v) reading limits t (Some x) is told_is = written_grounded h x place (op.Put v) t is
opened_grounded config h i s (command.Del place) reading limits t (Some x) is told_is = written_grounded h x place op.Delete t is
opened_grounded config h i s command.Commit reading limits t (Some x) is told_is = ended_grounded h x t is
opened_grounded config h i s command.Abort reading limits t (Some x) is told_is = ended_grounded h x t is
opened_grounded config h i s command.End reading limits t (Some x) is told_is = ended_grounded h x t is
opened_grounded config h i s (command.Read strict places) reading limits t (Some x) is told_is = read_grounded h x limits t is told_is
opened_grounded config h i s (command.Scan strict place) reading limits t (Some x) is told_is = read_grounded h x limits t is told_is
opened_grounded config h i s line reading limits t (Some x) is told_is = is

keeps_grounded : (config : Config) (h : History) (i : ℕ) (s : Keeps) (line : Command) (reading : Option ℕ) (limits : List TabletLimit) (t : Told) → KeptIsGrounded h s → ReadingIsGrounded h reading → ToldIsGrounded h t →
    KeptIsGrounded h (keeps_after config i s line reading limits t)
keeps_grounded config h i s line reading limits t is read told_is = record {
  last_is = greater_grounded h (moved_by s.last reading) (time_taken t) (moved_grounded h s.last reading is.last_is read) (taken_grounded h t told_is);
  open_is = opened_grounded config h i s line reading limits t s.opened is.open_is told_is;
}

told_kept : (config : Config) (h : History) (a : Actor) (m : Mover) (line : Option Command) (t : Told) → MoverIsGrounded h m → ToldIsGrounded h t → KeptIsGrounded h (kept_after config a m line t)
told_kept config h a m None t is told_is = is.kept_is
told_kept config h a m (Some line) t is told_is = keeps_grounded config h (session_of a) m.keeps line m.reading m.limits t is.kept_is is.reading_is told_is

-- ## one more entry of a mover's own

with_goes : (h : History) (p : Program Told) (reading : Option ℕ) → ReadingIsGrounded h reading → Tells h p → Tells h (with_reading p reading)
with_goes h (Done t) reading read goes = goes
with_goes h (Asks a q next) reading read goes = goes
with_goes h (Reads given) None read goes = goes
with_goes h (Reads given) (Some r) read goes = goes h (within_same h) r read

heard_goes : (h : History) (p : Program Told) (r : Reply) → ReplyIsGrounded h r → Tells h p → Tells h (heard p r)
heard_goes h (Done t) r is goes = goes
heard_goes h (Reads given) r is goes = goes
heard_goes h (Asks a q next) r is goes = goes.1 h (within_same h) r is

first_reading : (h : History) (one two : Option ℕ) → ReadingIsGrounded h one → ReadingIsGrounded h two → ReadingIsGrounded h (or_else one two)
first_reading h (Some r) two is more = is
first_reading h None two is more = more

-- what is told or heard by this event
abbrev pub OwnIsGrounded : History → Event → Type 0
OwnIsGrounded h (Hear from r) = ReplyIsGrounded h r
OwnIsGrounded h (Tell number t) = ToldIsGrounded h t
OwnIsGrounded h event = Unit {0}

pub mover_moves : (config : Config) (h : History) (a : Actor) (m : Mover) (reading : Option ℕ) (event : Event) → MoverIsGrounded h m → ReadingIsGrounded h reading → OwnIsGrounded h event →
    MoverIsGrounded h (mover_after config a m reading event)
mover_moves config h a m reading (Start number line) is read own = record { kept_is = is.kept_is; reading_is = tt; rest_is = program_goes config h a m.keeps line is.kept_is }
mover_moves config h a m reading (Ask to asked) is read own = record { kept_is = is.kept_is; reading_is = first_reading h m.reading reading is.reading_is read; rest_is = with_goes h m.rest reading read is.rest_is }
mover_moves config h a m reading (Hear from r) is read own = record { kept_is = is.kept_is; reading_is = is.reading_is; rest_is = heard_goes h m.rest r own is.rest_is }
mover_moves config h a m reading (Tell number t) is read own = record { kept_is = told_kept config h a m m.line t is own; reading_is = tt; rest_is = tt }
mover_moves config h a m reading (Serve from asked r time append) is read own = is
mover_moves config h a m reading (Restarted from kept) is read own = is
