-- A session that tells its own reading out of range tells it in the entry with that reading.
use Rattle.std.proofs.Common.{◌≡◌, ℕ, ◌∷◌, [], Option, Some, None, refl, ap, subst, inl, inr}
use Rattle.txn_data.specs.declared.actor.Actor.{Actor}
use Rattle.txn_data.specs.declared.actor.Actor.TheVariants.{Tablet}
use Rattle.txn_data.specs.declared.command.Command.{Command}
use Rattle.txn_data.specs.declared.config.Config.{Config}
use Rattle.txn_data.specs.declared.request.Request.{Request}
use Rattle.txn_data.specs.declared.reply.Reply.{Reply}
use Rattle.txn_data.specs.declared.refusal.Refusal.{Refusal}
use Rattle.txn_data.specs.declared.refusal.Refusal.TheVariants as refusal
use Rattle.txn_data.specs.declared.told.Told.{Told}
use Rattle.txn_data.specs.declared.told.Told.TheVariants as told
use Rattle.txn_data.specs.declared.told_refusal.ToldRefusal.TheVariants as told_refusal
use Rattle.txn_data.specs.declared.event.Event.{Event}
use Rattle.txn_data.specs.declared.event.Event.TheVariants.{Start, Ask, Serve, Hear, Tell, Restarted}
use Rattle.txn_types.specs.History.{History}
use Rattle.txn_types.specs.Program as program
use Rattle.txn_types.specs.Program.{Program, Done, Asks, Reads, turn, turn_with, with_reading, heard, refusal_told}
use Rattle.txn_types.specs.TxnProgram.{refused}
use Rattle.txn_types.specs.Session.{Keeps}
use Rattle.txn_types.specs.Run.{Mover, MayStart, Allowed, Steps, mover_at, mover_after, program_of}
use Rattle.law_machines.proofs.Basics.{same_cases}
use Rattle.law_causes.proofs.Goes.{IsMachineName, ByMachine, ByWrite, ByPending, ByAborted, ByMet, OutOfMemory, Goes}
use Rattle.law_causes.proofs.Lines.{LineIs, Starts, goes_starts, line_goes}

abbrev Any : Actor → Request → Reply → Type 0
Any to asked r = Unit {0}

told_range : (a m : Actor) (r : Refusal) (n : ℕ) → IsMachineName a → refusal_told a r ≡ told_refusal.ClockRange m n → IsMachineName m
told_range a m (refusal.ClockRange k) n machine is = let same : a ≡ m = cc in subst IsMachineName same machine
told_range a m (refusal.Conflict other) n machine is = cc
told_range a m (refusal.Overlap at) n machine is = cc
told_range a m (refusal.LeaseHeld until) n machine is = cc
told_range a m (refusal.ClockFull at) n machine is = cc
told_range a m refusal.LogFault n machine is = cc
told_range a m (refusal.Down since) n machine is = cc
told_range a m refusal.Memory n machine is = cc

-- the program of a line tells it only at once
not_own : (m : Actor) (s : Keeps) (line : Command) (n : ℕ) (t : Told) → (IsMachineName m → ⊥) → LineIs Any m s line t → t ≡ told.Refused (told_refusal.ClockRange m n) → ⊥
not_own m s line n t mover is same = elim (subst (LineIs Any m s line) same is) [
  | inl because ↦ elim because [
    | ByMachine a asked r h plain machine e ↦ mover (told_range a m r n machine e)
    | ByWrite k asked r h listed e ↦ mover (told_range (Tablet k) m r n tt e)
    | ByPending j other by priority h e ↦ cc
    | ByAborted j x floor by tablets h e ↦ cc
    | ByMet k at path asked h strict e ↦ cc
    | OutOfMemory e ↦ cc
  ]
  | inr at_once ↦ absurd at_once
]

turn_is : (t u : Told) → turn (Done t) ≡ program.Tell u → t ≡ u
turn_is t u is = cc

pub own_reading : (m : Actor) (s : Keeps) (line : Command) (p : Program Told) (reading : Option ℕ) (n : ℕ) → (IsMachineName m → ⊥) → Starts Any m s line p → turn_with p reading ≡ program.Tell (told.Refused (told_refusal.ClockRange m n)) → reading ≡ Some n
own_reading m s line (Done t) None n mover starts is = absurd (not_own m s line n t mover starts (turn_is t _ is))
own_reading m s line (Done t) (Some k) n mover starts is = cc
own_reading m s line (Asks to asked next) None n mover starts is = cc
own_reading m s line (Asks to asked next) (Some k) n mover starts is = cc
own_reading m s line (Reads given) None n mover starts is = cc
own_reading m s line (Reads given) (Some k) n mover starts is = elim (starts k) [
  | inl range ↦
      let same : told.Refused (told_refusal.ClockRange m k) ≡ told.Refused (told_refusal.ClockRange m n) = turn_is _ _ (subst (λ (q : Program Told). turn q ≡ program.Tell (told.Refused (told_refusal.ClockRange m n))) range.0 is) in
      let e : k ≡ n = cc in ap Some e
  | inr goes ↦ absurd (at_tell (given k) goes is)
]
  where
    at_tell : (q : Program Told) → Goes Any (LineIs Any m s line) q → turn q ≡ program.Tell (told.Refused (told_refusal.ClockRange m n)) → ⊥
    at_tell (Done t) goes e = not_own m s line n t mover goes (turn_is t _ e)
    at_tell (Asks to asked next) goes e = cc
    at_tell (Reads more) goes e = cc

-- ## what is left of a program

after_ask : (m : Actor) (s : Keeps) (line : Command) (p : Program Told) (reading : Option ℕ) (to : Actor) (asked : Request) → Starts Any m s line p → turn_with p reading ≡ program.Ask to asked → Starts Any m s line (with_reading p reading)
after_ask m s line (Done t) None to asked starts is = starts
after_ask m s line (Done t) (Some k) to asked starts is = starts
after_ask m s line (Asks a q next) None to asked starts is = starts
after_ask m s line (Asks a q next) (Some k) to asked starts is = starts
after_ask m s line (Reads given) None to asked starts is = starts
after_ask m s line (Reads given) (Some k) to asked starts is = elim (starts k) [
  | inl range ↦ let wrong : turn (refused (told_refusal.ClockRange m k)) ≡ program.Ask to asked = subst (λ (q : Program Told). turn q ≡ program.Ask to asked) range.0 is in cc
  | inr goes ↦ goes_starts Any m s line (given k) goes
]

after_hear : (m : Actor) (s : Keeps) (line : Command) (p : Program Told) (r : Reply) → Starts Any m s line p → Starts Any m s line (heard p r)
after_hear m s line (Done t) r starts = starts
after_hear m s line (Asks a q next) r starts = goes_starts Any m s line (next r) (starts.0 r tt)
after_hear m s line (Reads given) r starts = starts

abbrev Left : Config → Actor → Mover → Type 0
Left config m s = (line : Command) → s.line ≡ Some line → Starts Any m s.keeps line s.rest

-- one more entry of its own
own_left : (config : Config) (h : History) (m : Actor) (s : Mover) (reading : Option ℕ) (event : Event) → mover_at config m h ≡ s → Allowed config h m reading event → Left config m s → Left config m (mover_after config m s reading event)
own_left config h m s reading (Start number line) same ok left given is =
    let e : line ≡ given = cc in
    subst (λ (l : Command). Starts Any m s.keeps l (program_of config m s.keeps line)) e (line_goes Any config m s line (subst (λ (t : Mover). MayStart config m t line) same ok.3))
own_left config h m s reading (Ask to asked) same ok left line is =
    after_ask m s.keeps line s.rest reading to asked (left line is) (subst (λ (t : Mover). turn_with t.rest reading ≡ program.Ask to asked) same ok.2)
own_left config h m s reading (Hear from r) same ok left line is = after_hear m s.keeps line s.rest r (left line is)
own_left config h m s reading (Tell number t) same ok left line is = cc
own_left config h m s reading (Serve from asked r time append) same ok left line is = left line is
own_left config h m s reading (Restarted from kept) same ok left line is = left line is

pub left_at : (config : Config) (m : Actor) (h : History) → Steps config h → Left config m (mover_at config m h)
unfolding mover_at Steps
left_at config m [] steps = λ line is. cc
left_at config m (e ∷ h) steps = elim (same_cases e.actor m) [
  | inl same ↦ rw same.0 (own_left config h m (mover_at config m h) e.reading e.event refl (subst (λ (a : Actor). Allowed config h a e.reading e.event) same.1 steps.1) (left_at config m h steps.0))
  | inr other ↦ rw other.0 (left_at config m h steps.0)
]
