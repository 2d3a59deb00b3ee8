-- Each command that a session may start, and each pass, is safe.
use Rattle.std.proofs.Common.{◌≡◌, ℕ, ◌+◌, ◌^◌, ◌<◌, ◌≤◌, max, Bool, true, false, ◌||◌, List, [], ◌∷◌, Option, Some, None, Result, Ok, Err, length, refl, sym, subst, if◌then◌else◌, arith}
use Rattle.hybrid_time.specs.Time.{least_time, limit_time}
use Rattle.hybrid_time.specs.declared.time_refusal.TimeRefusal.{TimeRefusal}
use Rattle.txn_data.specs.declared.actor.Actor.{Actor}
use Rattle.txn_data.specs.declared.actor.Actor.TheVariants.{Tablet, Status, Session, Applier}
use Rattle.txn_data.specs.declared.command.Command.{Command}
use Rattle.txn_data.specs.declared.command.Command.TheVariants as command
use Rattle.txn_data.specs.declared.config.Config.{Config}
use Rattle.txn_data.specs.declared.op.Op.{Op}
use Rattle.txn_data.specs.declared.op.Op.TheVariants as op
use Rattle.txn_data.specs.declared.place.Place.{Place}
use Rattle.txn_data.specs.declared.read_kind.ReadKind.{ReadKind}
use Rattle.txn_data.specs.declared.read_kind.ReadKind.TheVariants.{Get, Scan}
use Rattle.txn_data.specs.declared.read_end.ReadEnd.{ReadEnd}
use Rattle.txn_data.specs.declared.read_what.ReadWhat.{ReadWhat}
use Rattle.txn_data.specs.declared.read_what.ReadWhat.TheVariants as what
use Rattle.txn_data.specs.declared.tablet_limit.TabletLimit.{TabletLimit}
use Rattle.txn_data.specs.declared.written.Written.{Written}
use Rattle.txn_data.specs.declared.reply.Reply.TheVariants as reply
use Rattle.txn_data.specs.declared.told.Told.{Told}
use Rattle.txn_data.specs.declared.told.Told.TheVariants as told
use Rattle.txn_data.specs.declared.told_refusal.ToldRefusal.{ToldRefusal}
use Rattle.txn_data.specs.declared.told_refusal.ToldRefusal.TheVariants as told_refusal
use Rattle.txn_data.specs.declared.txn_step.TxnStep.TheVariants as step
use Rattle.txn_data.specs.declared.event.Event.TheVariants.{Start}
use Rattle.txn_types.specs.History.{History}
use Rattle.txn_types.specs.Program.{Program}
use Rattle.txn_types.specs.TxnProgram.{refused, txn_program}
use Rattle.txn_types.specs.ReadProgram.{read_program}
use Rattle.txn_types.specs.PassProgram.{pass_program}
use Rattle.txn_types.specs.Session.{Keeps, Opened, txn_id, next_meta, clock_range, timed_then, moved_then, begin_program, read_told, read_at, read_inside, read_command, has_writes, writes_of, tablets_used, write_command, commit_command, abort_command, if_closed, restart_program, command_program, uses_serial, serial_after, opened_after}
use Rattle.txn_types.specs.Run.{Mover, mover_at, Steps, MayStart, limits_of, program_of}
use Rattle.law_messages.proofs.Rules.{told_memory, entry, started}
use Rattle.law_messages.proofs.Safe.{Safe, Keeping}
use Rattle.law_owners.proofs.Founds.{AllHomed}
use Rattle.law_owners.proofs.Homed.{NotOpen, then_homed}
use Rattle.law_owners.proofs.Programs.{Told_, not_open, begin_homed, write_homed, single_homed, commit_homed, end_homed, EndsWell, read_homed, pass_homed}
use Rattle.law_owners.proofs.Serials.{next_serial, serial_least, serial_low, id_owner, id_number, next_homed, serial_is, OpenedHomed, opened_homed}
use Rattle.law_owners.proofs.Ids.{IdsUpTo, IdleOk, rules, base_step, ids_step, Spare, Closes, homed_safe, ids_later, ids_more}

-- ## the programs of a session

range_homed : (config : Config) (m : Actor) (spare : Option ℕ) (i reading : ℕ) → Told_ config m spare (clock_range i reading)
range_homed config m spare i reading = tt

timed_homed : (config : Config) (m : Actor) (spare : Option ℕ) (i reading : ℕ) (next : ℕ → Program Told) (time : Result ℕ TimeRefusal) → ((now : ℕ) → Told_ config m spare (next now)) →
    Told_ config m spare (timed_then i reading next time)
timed_homed config m spare i reading next (Ok now) goes = goes now
timed_homed config m spare i reading next (Err why) goes = range_homed config m spare i reading

moved_homed : (config : Config) (m : Actor) (spare : Option ℕ) (i last : ℕ) (next : ℕ → ℕ → Program Told) → ((reading now : ℕ) → Told_ config m spare (next reading now)) →
    Told_ config m spare (moved_then i last next)
moved_homed config m spare i last next goes = λ reading. timed_homed config m spare i reading (next reading) (least_time last 0 reading) (goes reading)

told_by : (kind : ReadKind) (ws : List Written) (places : List Place) (t restarts : ℕ) (limits : List TabletLimit) (w : ReadWhat) →
    ((why : ToldRefusal) → w ≡ what.Refused why → NotOpen (told.Refused why)) →
    NotOpen (read_told kind ws places (record { what = w; t = t; restarts = restarts; limits = limits }))
told_by kind ws places t restarts limits (what.Values rows) well = tt
told_by kind ws places t restarts limits (what.Restart at path) well = tt
told_by kind ws places t restarts limits (what.Refused why) well = well why refl

told_well : (kind : ReadKind) (ws : List Written) (places : List Place) (end : ReadEnd) → EndsWell end → NotOpen (read_told kind ws places end)
told_well kind ws places end well = told_by kind ws places end.t end.restarts end.limits end.what well

read_command_homed : (config : Config) (i : ℕ) (s : Keeps) (kind : ReadKind) (strict : Bool) (places : List Place) (opened : Option Opened) →
    Told_ config (Session i) None (read_command config i s kind strict places opened)
read_command_homed config i s kind strict places None =
    moved_homed config (Session i) None i s.last (read_at config kind strict places) (λ reading now.
    then_homed EndsWell NotOpen config (Session i) (read_program None kind places now (max now (limit_time reading config.skew_us)) strict []) _
    (read_homed config (Session i) None kind places now (max now (limit_time reading config.skew_us)) strict [])
    (λ end well. told_well kind [] places end well))
read_command_homed config i s kind strict places (Some x) = doubt_homed x.in_doubt
  where
    inside : Told_ config (Session i) None (read_inside x kind strict places)
    inside = then_homed EndsWell NotOpen config (Session i) (read_program (Some x.meta.txn) kind places x.r x.g (strict || has_writes x.writes || x.has_read) x.limits) _
        (read_homed config (Session i) (Some x.meta.txn) kind places x.r x.g (strict || has_writes x.writes || x.has_read) x.limits)
        (λ end well. told_well kind (writes_of x.writes) places end well)

    doubt_homed : (b : Bool) → Told_ config (Session i) None (if b then refused told_refusal.InDoubt else read_inside x kind strict places)
    doubt_homed true = tt
    doubt_homed false = inside

write_command_homed : (config : Config) (i : ℕ) (s : Keeps) (place : Place) (o : Op) (opened : Option Opened) → OpenedHomed config (Session i) opened →
    Told_ config (Session i) None (write_command s place o opened)
write_command_homed config i s place o None homed = tt
write_command_homed config i s place o (Some x) homed = doubt_homed x.in_doubt
  where
    doubt_homed : (b : Bool) → Told_ config (Session i) None (if b then refused told_refusal.InDoubt else txn_program (step.Write x.meta (length x.writes) place o x.r s.last))
    doubt_homed true = tt
    doubt_homed false = write_homed config (Session i) x.meta (length x.writes) place o x.r s.last homed

commit_command_homed : (config : Config) (i : ℕ) (s : Keeps) (opened : Option Opened) → OpenedHomed config (Session i) opened → Told_ config (Session i) None (commit_command s opened)
commit_command_homed config i s None homed = tt
commit_command_homed config i s (Some x) homed = commit_homed config (Session i) x.meta s.last (tablets_used [] x.writes) homed

abort_command_homed : (config : Config) (i : ℕ) (opened : Option Opened) → OpenedHomed config (Session i) opened → Told_ config (Session i) None (abort_command opened)
abort_command_homed config i None homed = tt
abort_command_homed config i (Some x) homed = end_homed config (Session i) x.meta homed

restart_homed : (config : Config) (m a : Actor) → Told_ config m None (restart_program a)
restart_homed config m a = (
  tt,
  tt,
  tt,
  elim [
    | reply.Restarted k ↦ λ ok. tt
    | reply.Refused why ↦ λ ok. not_open a why
    | _ ↦ λ ok. tt
  ],
)

-- ## what a command leaves

closes_session : (config : Config) (i : ℕ) (s : Keeps) (line : Command) → s.serial + 1 < 2 ^ 64 → OpenedHomed config (Session i) s.opened →
    Closes config (Session i) s (Some line) (next_serial (uses_serial line) s.serial)
closes_session config i s line low homed = λ reading limits lose t ok.
    (serial_is s line t ok, opened_homed config i s line reading limits t s.opened low homed)

-- a command that uses no id
plain_safe : (config : Config) (i : ℕ) (s : Keeps) (line : Command) (z h : History) → s.serial + 1 < 2 ^ 64 → OpenedHomed config (Session i) s.opened → IdsUpTo (Session i) s.serial h →
    uses_serial line ≡ false → Told_ config (Session i) None (command_program config i s line) → Safe (rules config) config (Session i) z (started s line) h (command_program config i s line)
plain_safe config i s line z h low homed ids plain program =
    homed_safe config (Session i) z (started s line) h (command_program config i s line) None s.serial
    (subst (λ (b : Bool). Closes config (Session i) s (Some line) (next_serial b s.serial)) plain (closes_session config i s line low homed)) program ids

-- a command that uses one
spare_now : (i : ℕ) (s : Keeps) (h : History) → s.serial + 1 < 2 ^ 64 → IdsUpTo (Session i) s.serial h → Spare (Session i) (txn_id i (s.serial + 1)) (s.serial + 1) h
spare_now i s h low ids = record {
  serial = s.serial;
  ids = ids;
  end = refl;
  next = (id_owner i (s.serial + 1) low, id_number i (s.serial + 1) low);
}

-- where a transaction is open nothing is begun
refused_open : (config : Config) (i : ℕ) (s : Keeps) (line : Command) (z h : History) → s.serial + 1 < 2 ^ 64 → OpenedHomed config (Session i) s.opened → IdsUpTo (Session i) s.serial h →
    Safe (rules config) config (Session i) z (started s line) h (refused told_refusal.TxnOpen)
refused_open config i s line z h low homed ids = (
  λ may g later. (
    tt,
    record {
      opened = opened_homed config i s line None (limits_of s.opened) told_memory s.opened low homed;
      ids = ids_more (Session i) s.serial (serial_after s line told_memory) g (serial_least s line told_memory) (ids_later config (Session i) s.serial h g later ids);
    },
  ),
  λ g later. (
    tt,
    record {
      opened = opened_homed config i s line None (limits_of s.opened) (told.Refused told_refusal.TxnOpen) s.opened low homed;
      ids = ids_later config (Session i) s.serial h g later ids;
    },
  ),
)

spend_safe : (config : Config) (i : ℕ) (s : Keeps) (line : Command) (z h : History) (x : ℕ) (p : Program Told) → s.serial + 1 < 2 ^ 64 → OpenedHomed config (Session i) s.opened → IdsUpTo (Session i) s.serial h →
    uses_serial line ≡ true → x ≡ txn_id i (s.serial + 1) → Told_ config (Session i) (Some x) p → Safe (rules config) config (Session i) z (started s line) h p
spend_safe config i s line z h x p low homed ids uses is program =
    homed_safe config (Session i) z (started s line) h p (Some x) (s.serial + 1)
    (subst (λ (b : Bool). Closes config (Session i) s (Some line) (next_serial b s.serial)) uses (closes_session config i s line low homed)) program
    (subst (λ (y : ℕ). Spare (Session i) y (s.serial + 1) h) (sym is) (spare_now i s h low ids))

begin_safe : (config : Config) (i : ℕ) (s : Keeps) (priority : ℕ) (z h : History) (opened : Option Opened) → s.serial + 1 < 2 ^ 64 → OpenedHomed config (Session i) s.opened → IdsUpTo (Session i) s.serial h →
    Safe (rules config) config (Session i) z (started s (command.Begin priority)) h (if_closed opened (begin_program config i s priority))
begin_safe config i s priority z h (Some x) low homed ids = refused_open config i s (command.Begin priority) z h low homed ids
begin_safe config i s priority z h None low homed ids =
    spend_safe config i s (command.Begin priority) z h (txn_id i (s.serial + 1)) (begin_program config i s priority) low homed ids refl refl
    (moved_homed config (Session i) (Some (txn_id i (s.serial + 1))) i s.last _ (λ reading now. begin_homed config (Session i) (next_meta config i s priority) now (next_homed config i s priority low)))

single_safe : (config : Config) (i : ℕ) (s : Keeps) (line : Command) (place : Place) (o : Op) (priority : ℕ) (z h : History) (opened : Option Opened) → s.serial + 1 < 2 ^ 64 → OpenedHomed config (Session i) s.opened →
    IdsUpTo (Session i) s.serial h → uses_serial line ≡ true →
    Safe (rules config) config (Session i) z (started s line) h (if_closed opened (txn_program (step.Single (next_meta config i s priority) place o s.last)))
single_safe config i s line place o priority z h (Some x) low homed ids uses = refused_open config i s line z h low homed ids
single_safe config i s line place o priority z h None low homed ids uses =
    spend_safe config i s line z h (txn_id i (s.serial + 1)) (txn_program (step.Single (next_meta config i s priority) place o s.last)) low homed ids uses refl
    (single_homed config (Session i) (next_meta config i s priority) place o s.last (next_homed config i s priority low).0)

command_safe : (config : Config) (i : ℕ) (s : Keeps) (line : Command) (z h : History) → s.serial + 1 < 2 ^ 64 → OpenedHomed config (Session i) s.opened → IdsUpTo (Session i) s.serial h →
    Safe (rules config) config (Session i) z (started s line) h (command_program config i s line)
command_safe config i s (command.Begin priority) z h low homed ids = begin_safe config i s priority z h s.opened low homed ids
command_safe config i s (command.SinglePut place v priority) z h low homed ids =
    single_safe config i s (command.SinglePut place v priority) place (op.Put v) priority z h s.opened low homed ids refl
command_safe config i s (command.SingleDel place priority) z h low homed ids =
    single_safe config i s (command.SingleDel place priority) place op.Delete priority z h s.opened low homed ids refl
command_safe config i s (command.Put place v) z h low homed ids = plain_safe config i s (command.Put place v) z h low homed ids refl (write_command_homed config i s place (op.Put v) s.opened homed)
command_safe config i s (command.Del place) z h low homed ids = plain_safe config i s (command.Del place) z h low homed ids refl (write_command_homed config i s place op.Delete s.opened homed)
command_safe config i s command.Commit z h low homed ids = plain_safe config i s command.Commit z h low homed ids refl (commit_command_homed config i s s.opened homed)
command_safe config i s command.Abort z h low homed ids = plain_safe config i s command.Abort z h low homed ids refl (abort_command_homed config i s.opened homed)
command_safe config i s command.End z h low homed ids = plain_safe config i s command.End z h low homed ids refl (abort_command_homed config i s.opened homed)
command_safe config i s (command.Read strict places) z h low homed ids =
    plain_safe config i s (command.Read strict places) z h low homed ids refl (read_command_homed config i s Get strict places s.opened)
command_safe config i s (command.Scan strict place) z h low homed ids =
    plain_safe config i s (command.Scan strict place) z h low homed ids refl (read_command_homed config i s Scan strict (place ∷ []) s.opened)
command_safe config i s (command.Restart actor) z h low homed ids = plain_safe config i s (command.Restart actor) z h low homed ids refl (restart_homed config (Session i) actor)
command_safe config i s (command.Apply tablet) z h low homed ids = plain_safe config i s (command.Apply tablet) z h low homed ids refl (pass_homed config (Session i) tablet)
command_safe config i s (command.Clock node micros) z h low homed ids = plain_safe config i s (command.Clock node micros) z h low homed ids refl tt

-- an applier has no transaction open
applier_closes : (config : Config) (k : ℕ) (s : Keeps) (tablet : ℕ) → OpenedHomed config (Applier k) s.opened → Closes config (Applier k) s (Some (command.Apply tablet)) s.serial
applier_closes config k s tablet homed = λ reading limits lose t ok. (serial_is s (command.Apply tablet) t ok, still s.opened homed reading limits t)
  where
    still : (opened : Option Opened) → OpenedHomed config (Applier k) opened → (reading : Option ℕ) (limits : List TabletLimit) (t : Told) →
        OpenedHomed config (Applier k) (opened_after config 0 s (command.Apply tablet) reading limits t opened)
    still None homed reading limits t = tt
    still (Some x) homed reading limits t = homed

pub few : (n k : ℕ) → n ≤ k → k < 2 ^ 40 → n + 1 < 2 ^ 64
few n k le lt = omega (arith, le, lt)

starts : (config : Config) (h : History) (m : Actor) (s : Mover) (number : ℕ) (line : Command) → Steps config h → AllHomed config h → mover_at config m h ≡ s → MayStart config m s line →
    IdleOk config (entry m None (Start number line) ∷ h) m s.keeps →
    Safe (rules config) config m h (started s.keeps line) (entry m None (Start number line) ∷ h) (program_of config m s.keeps line)
starts config h (Session i) s number line steps base is may idle =
    command_safe config i s.keeps line h (entry (Session i) None (Start number line) ∷ h) (few s.keeps.serial s.commands (serial_low config (Session i) h s is) may.1) idle.opened idle.ids
starts config h (Applier k) s number line steps base is may idle =
    subst (λ (l : Command). Safe (rules config) config (Applier k) h (started s.keeps l) (entry (Applier k) None (Start number line) ∷ h) (program_of config (Applier k) s.keeps l)) (sym may.1)
    (homed_safe config (Applier k) h (started s.keeps (command.Apply k)) (entry (Applier k) None (Start number line) ∷ h) (pass_program k) None s.keeps.serial
    (applier_closes config k s.keeps k idle.opened) (pass_homed config (Applier k) k) tt)
starts config h (Tablet k) s number line steps base is may idle = absurd may
starts config h (Status j) s number line steps base is may idle = absurd may

first_ids : (m : Actor) (n : ℕ) → IdsUpTo m n []
first_ids (Session i) n = λ e member. absurd member
first_ids (Applier k) n = tt
first_ids (Tablet k) n = tt
first_ids (Status j) n = tt

pub keeping : (config : Config) → Keeping (rules config) config
keeping config = record {
  first_base = λ e member. absurd member;
  base = λ h e base fine. base_step config h e base fine.good;
  first_idle = λ m. record { opened = tt; ids = first_ids m 0 };
  idle = λ h e m keeps base fine other idle. record { opened = idle.opened; ids = ids_step config m keeps.serial h e fine.good other idle.ids };
  starts = starts config;
}
