-- The id that a session uses next, and what its open transaction says of itself.
use Rattle.std.proofs.Common.{◌≡◌, ℕ, ◌+◌, ◌%◌, ◌^◌, ◌<◌, ◌≤◌, Bool, true, false, List, [], ◌∷◌, Option, Some, None, refl, sym, ap, subst, inl, inr, if◌then◌else◌, arith}
use Rattle.txn_data.specs.declared.actor.Actor.{Actor}
use Rattle.txn_data.specs.declared.actor.Actor.TheVariants.{Session}
use Rattle.txn_data.specs.declared.command.Command.{Command}
use Rattle.txn_data.specs.declared.command.Command.TheVariants as command
use Rattle.txn_data.specs.declared.config.Config.{Config}
use Rattle.txn_data.specs.declared.op.Op.{Op}
use Rattle.txn_data.specs.declared.op.Op.TheVariants as op
use Rattle.txn_data.specs.declared.place.Place.{Place}
use Rattle.txn_data.specs.declared.tablet_limit.TabletLimit.{TabletLimit}
use Rattle.txn_data.specs.declared.told.Told.{Told}
use Rattle.txn_data.specs.declared.told.Told.TheVariants as told
use Rattle.txn_data.specs.declared.told_refusal.ToldRefusal.TheVariants as told_refusal
use Rattle.txn_data.specs.declared.event.Event.{Event}
use Rattle.txn_data.specs.declared.event.Event.TheVariants.{Start, Ask, Serve, Hear, Tell, Restarted}
use Rattle.txn_types.specs.History.{History}
use Rattle.txn_types.specs.Session.{Keeps, Opened, txn_id, next_meta, uses_serial, serial_after, opens, after_write, after_end, after_read, opened_after}
use Rattle.txn_types.specs.Run.{Mover, mover_at, mover_after, kept_after}
use Rattle.law_machines.proofs.Basics.{same_cases}
use Rattle.law_owners.specs.Owner.{owner_of}
use Rattle.law_owners.proofs.Homed.{NotOpen}
use Rattle.law_owners.proofs.Programs.{MetaHomed}

-- ## a session uses at most as many ids as it began commands

abbrev pub SerialIs : Option Command → ℕ → ℕ → Type 0
SerialIs None serial commands = serial ≤ commands
SerialIs (Some line) serial commands = serial < commands

abbrev pub next_serial : Bool → ℕ → ℕ
next_serial true n = n + 1
next_serial false n = n

serial_choice : (b : Bool) (n : ℕ) → (if b then n + 1 else n) ≤ n + 1
serial_choice true n = omega arith
serial_choice false n = omega arith

serial_most : (s : Keeps) (line : Command) (t : Told) → serial_after s line t ≤ s.serial + 1
serial_most s line (told.Refused told_refusal.TxnOpen) = omega arith
serial_most s line t = serial_choice (uses_serial line) s.serial

pub serial_least : (s : Keeps) (line : Command) (t : Told) → s.serial ≤ serial_after s line t
serial_least s line (told.Refused told_refusal.TxnOpen) = omega arith
serial_least s line t = least_choice (uses_serial line) s.serial
  where
    least_choice : (b : Bool) (n : ℕ) → n ≤ (if b then n + 1 else n)
    least_choice true n = omega arith
    least_choice false n = omega arith

told_serial : (config : Config) (a : Actor) (s : Mover) (line : Option Command) (t : Told) → SerialIs line s.keeps.serial s.commands → (kept_after config a s line t).serial ≤ s.commands
told_serial config a s None t is = is
told_serial config a s (Some line) t is = let le = serial_most s.keeps line t in omega (arith, le, is)

lower : (line : Option Command) (serial commands : ℕ) → SerialIs line serial commands → serial ≤ commands
lower None serial commands is = is
lower (Some line) serial commands is = omega (arith, is)

serial_event : (config : Config) (a : Actor) (s : Mover) (reading : Option ℕ) (event : Event) → SerialIs s.line s.keeps.serial s.commands →
    SerialIs (mover_after config a s reading event).line (mover_after config a s reading event).keeps.serial (mover_after config a s reading event).commands
serial_event config a s reading (Start number line) is = let le = lower s.line s.keeps.serial s.commands is in omega (arith, le)
serial_event config a s reading (Ask to asked) is = is
serial_event config a s reading (Hear from r) is = is
serial_event config a s reading (Tell number t) is = told_serial config a s s.line t is
serial_event config a s reading (Serve from asked r time append) is = is
serial_event config a s reading (Restarted from kept) is = is

serial_at : (config : Config) (a : Actor) (h : History) → SerialIs (mover_at config a h).line (mover_at config a h).keeps.serial (mover_at config a h).commands
unfolding mover_at
serial_at config a [] = omega arith
serial_at config a (e ∷ h) = elim (same_cases e.actor a) [
  | inl s ↦ rw s.0 (serial_event config a (mover_at config a h) e.reading e.event (serial_at config a h))
  | inr s ↦ rw s.0 (serial_at config a h)
]

pub serial_low : (config : Config) (a : Actor) (h : History) (s : Mover) → mover_at config a h ≡ s → s.keeps.serial ≤ s.commands
serial_low config a h s is =
    subst (λ (n : Mover). n.keeps.serial ≤ n.commands) is (lower (mover_at config a h).line (mover_at config a h).keeps.serial (mover_at config a h).commands (serial_at config a h))

-- ## the id that it uses next

pub id_owner : (i n : ℕ) → n < 2 ^ 64 → owner_of (txn_id i n) ≡ i
id_owner i n low = omega (arith, low)

pub id_number : (i n : ℕ) → n < 2 ^ 64 → txn_id i n % 2 ^ 64 ≡ n
id_number i n low = omega (arith, low)

pub next_homed : (config : Config) (i : ℕ) (s : Keeps) (priority : ℕ) → s.serial + 1 < 2 ^ 64 → MetaHomed config (Session i) (next_meta config i s priority)
next_homed config i s priority low =
    let o = id_owner i (s.serial + 1) low in
    (ap Session (sym o), ap (λ (j : ℕ). j % config.status) (sym o))

-- ## what it keeps then

pub serial_is : (s : Keeps) (line : Command) (t : Told) → NotOpen t → serial_after s line t ≡ next_serial (uses_serial line) s.serial
serial_is s line (told.Refused told_refusal.TxnOpen) ok = absurd ok
serial_is s line t ok = choice_is (uses_serial line) s.serial
  where
    choice_is : (b : Bool) (n : ℕ) → (if b then n + 1 else n) ≡ next_serial b n
    choice_is true n = refl
    choice_is false n = refl

abbrev pub OpenedHomed : Config → Actor → Option Opened → Type 0
OpenedHomed config m None = Unit {0}
OpenedHomed config m (Some x) = MetaHomed config m x.meta

opens_homed : (config : Config) (i : ℕ) (s : Keeps) (priority : ℕ) (reading : Option ℕ) (t : Told) → s.serial + 1 < 2 ^ 64 → OpenedHomed config (Session i) (opens config i s priority reading t)
opens_homed config i s priority (Some reading) (told.Began x at) low = next_homed config i s priority low
opens_homed config i s priority reading t low = tt

write_keeps : (config : Config) (m : Actor) (x : Opened) (place : Place) (o : Op) (t : Told) → MetaHomed config m x.meta → OpenedHomed config m (after_write x place o t)
write_keeps config m x place o (told.Written at) homed = homed
write_keeps config m x place o (told.Refused (told_refusal.Conflict other)) homed = tt
write_keeps config m x place o (told.Refused (told_refusal.Overlap at)) homed = tt
write_keeps config m x place o (told.Refused (told_refusal.LogFault actor)) homed = tt
write_keeps config m x place o t homed = homed

end_keeps : (config : Config) (m : Actor) (x : Opened) (t : Told) → MetaHomed config m x.meta → OpenedHomed config m (after_end x t)
end_keeps config m x (told.Committed y at) homed = tt
end_keeps config m x (told.Ended y) homed = tt
end_keeps config m x (told.Refused (told_refusal.Aborted by)) homed = tt
end_keeps config m x (told.Refused (told_refusal.LogFault actor)) homed = homed
end_keeps config m x t homed = homed

read_keeps : (config : Config) (m : Actor) (x : Opened) (limits : List TabletLimit) (t : Told) → MetaHomed config m x.meta → OpenedHomed config m (after_read x limits t)
read_keeps config m x limits (told.Values at restarts rows) homed = homed
read_keeps config m x limits t homed = homed

pub opened_homed : (config : Config) (i : ℕ) (s : Keeps) (line : Command) (reading : Option ℕ) (limits : List TabletLimit) (t : Told) (opened : Option Opened) → s.serial + 1 < 2 ^ 64 →
    OpenedHomed config (Session i) opened → OpenedHomed config (Session i) (opened_after config i s line reading limits t opened)
opened_homed config i s (command.Begin priority) reading limits t None low homed = opens_homed config i s priority reading t low
opened_homed config i s line reading limits t None low homed = tt
opened_homed config i s (command.Put place v) reading limits t (Some x) low homed = write_keeps config (Session i) x place (op.Put v) t homed
opened_homed config i s (command.Del place) reading limits t (Some x) low homed = write_keeps config (Session i) x place op.Delete t homed
opened_homed config i s command.Commit reading limits t (Some x) low homed = end_keeps config (Session i) x t homed
opened_homed config i s command.Abort reading limits t (Some x) low homed = end_keeps config (Session i) x t homed
opened_homed config i s command.End reading limits t (Some x) low homed = end_keeps config (Session i) x t homed
opened_homed config i s (command.Read strict places) reading limits t (Some x) low homed = read_keeps config (Session i) x limits t homed
opened_homed config i s (command.Scan strict place) reading limits t (Some x) low homed = read_keeps config (Session i) x limits t homed
opened_homed config i s line reading limits t (Some x) low homed = homed
