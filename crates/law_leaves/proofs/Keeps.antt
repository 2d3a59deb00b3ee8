-- What a mover keeps once it was told a refusal.
use Rattle.std.proofs.Common.{◌≡◌, ℕ, ◌+◌, true, false, List, Option, Some, None, max, refl, sym, ◌∙◌, ap, if◌then◌else◌, arith}
use Rattle.txn_data.specs.declared.actor.Actor.{Actor}
use Rattle.txn_data.specs.declared.command.Command.{Command}
use Rattle.txn_data.specs.declared.command.Command.TheVariants as command
use Rattle.txn_data.specs.declared.config.Config.{Config}
use Rattle.txn_data.specs.declared.op.Op.{Op}
use Rattle.txn_data.specs.declared.op.Op.TheVariants as op
use Rattle.txn_data.specs.declared.place.Place.{Place}
use Rattle.txn_data.specs.declared.tablet_limit.TabletLimit.{TabletLimit}
use Rattle.txn_data.specs.declared.told.Told.TheVariants as told
use Rattle.txn_data.specs.declared.told_refusal.ToldRefusal.{ToldRefusal}
use Rattle.txn_data.specs.declared.told_refusal.ToldRefusal.TheVariants as why
use Rattle.txn_types.specs.Session.{Keeps, Opened, after_write, after_end, opens, opened_after, serial_after, keeps_after}
use Rattle.txn_types.specs.Run.{Mover, kept_after, session_of}
use Rattle.txn_promises.specs.Lines.{is_write, is_end, is_read}
use Rattle.txn_promises.specs.Leaves.{ends_txn, leaves_doubt, spends_serial, txn_left, opened_left}
use Rattle.law_at_once.proofs.Late.{is_commit, MayAbort}

pub max_zero : (n : ℕ) → max n 0 ≡ n
max_zero n = grind arith

pub serial_left : (s : Keeps) (line : Command) (w : ToldRefusal) → serial_after s line (told.Refused w) ≡ (if spends_serial (Some line) w then s.serial + 1 else s.serial)
serial_left s line why.TxnOpen = refl
serial_left s line w = refl

-- ## the open transaction

abbrev Left : Command → List TabletLimit → ToldRefusal → Opened → Option Opened
Left line limits w x = if ends_txn (Some line) w then None else Some (txn_left (Some line) limits w x)

same_left : (line : Command) (limits : List TabletLimit) (w : ToldRefusal) (x : Opened) → is_read (Some line) ≡ false → leaves_doubt (Some line) w ≡ false → Some (txn_left (Some line) limits w x) ≡ Some x
same_left line limits w x reads doubt = rw reads (rw doubt refl)

write_left : (x : Opened) (place : Place) (o : Op) (line : Command) (limits : List TabletLimit) (w : ToldRefusal) → is_write (Some line) ≡ true → is_read (Some line) ≡ false → is_commit (Some line) ≡ false → MayAbort (is_commit (Some line)) (told.Refused w) →
    after_write x place o (told.Refused w) ≡ Left line limits w x
write_left x place o line limits (why.Conflict other) writes reads ends may = rw writes refl
write_left x place o line limits (why.Overlap at) writes reads ends may = rw writes refl
write_left x place o line limits (why.LogFault a) writes reads ends may = rw writes refl
write_left x place o line limits (why.Aborted by) writes reads ends may = let wrong : false ≡ true = sym ends ∙ may in cc
write_left x place o line limits (why.Restart at path) writes reads ends may = sym (same_left line limits (why.Restart at path) x reads refl)
write_left x place o line limits (why.LeaseHeld a until) writes reads ends may = sym (same_left line limits (why.LeaseHeld a until) x reads refl)
write_left x place o line limits (why.ClockFull a at) writes reads ends may = sym (same_left line limits (why.ClockFull a at) x reads refl)
write_left x place o line limits (why.ClockRange a n) writes reads ends may = sym (same_left line limits (why.ClockRange a n) x reads refl)
write_left x place o line limits (why.Down a since) writes reads ends may = sym (same_left line limits (why.Down a since) x reads refl)
write_left x place o line limits why.NoTxn writes reads ends may = sym (same_left line limits why.NoTxn x reads refl)
write_left x place o line limits why.TxnOpen writes reads ends may = sym (same_left line limits why.TxnOpen x reads refl)
write_left x place o line limits why.InDoubt writes reads ends may = sym (same_left line limits why.InDoubt x reads refl)
write_left x place o line limits why.Memory writes reads ends may = sym (same_left line limits why.Memory x reads refl)

end_left : (x : Opened) (line : Command) (limits : List TabletLimit) (w : ToldRefusal) → is_write (Some line) ≡ false → is_read (Some line) ≡ false → is_end (Some line) ≡ true → after_end x (told.Refused w) ≡ Left line limits w x
end_left x line limits (why.Conflict other) writes reads ends = rw writes (sym (same_left line limits (why.Conflict other) x reads refl))
end_left x line limits (why.Overlap at) writes reads ends = rw writes (sym (same_left line limits (why.Overlap at) x reads refl))
end_left x line limits (why.LogFault a) writes reads ends = rw writes (rw reads (rw ends refl))
end_left x line limits (why.Aborted by) writes reads ends = refl
end_left x line limits (why.Restart at path) writes reads ends = sym (same_left line limits (why.Restart at path) x reads refl)
end_left x line limits (why.LeaseHeld a until) writes reads ends = sym (same_left line limits (why.LeaseHeld a until) x reads refl)
end_left x line limits (why.ClockFull a at) writes reads ends = sym (same_left line limits (why.ClockFull a at) x reads refl)
end_left x line limits (why.ClockRange a n) writes reads ends = sym (same_left line limits (why.ClockRange a n) x reads refl)
end_left x line limits (why.Down a since) writes reads ends = sym (same_left line limits (why.Down a since) x reads refl)
end_left x line limits why.NoTxn writes reads ends = sym (same_left line limits why.NoTxn x reads refl)
end_left x line limits why.TxnOpen writes reads ends = sym (same_left line limits why.TxnOpen x reads refl)
end_left x line limits why.InDoubt writes reads ends = sym (same_left line limits why.InDoubt x reads refl)
end_left x line limits why.Memory writes reads ends = sym (same_left line limits why.Memory x reads refl)

-- a line that is no write and no end closes nothing
not_ended : (line : Command) (w : ToldRefusal) → is_write (Some line) ≡ false → is_end (Some line) ≡ false → is_commit (Some line) ≡ false → MayAbort (is_commit (Some line)) (told.Refused w) → (ends_txn (Some line) w ≡ false) × (leaves_doubt (Some line) w ≡ false)
not_ended line (why.Conflict other) writes ends commits may = (writes, refl)
not_ended line (why.Overlap at) writes ends commits may = (writes, refl)
not_ended line (why.LogFault a) writes ends commits may = (writes, ends)
not_ended line (why.Aborted by) writes ends commits may = let wrong : false ≡ true = sym commits ∙ may in cc
not_ended line (why.Restart at path) writes ends commits may = (refl, refl)
not_ended line (why.LeaseHeld a until) writes ends commits may = (refl, refl)
not_ended line (why.ClockFull a at) writes ends commits may = (refl, refl)
not_ended line (why.ClockRange a n) writes ends commits may = (refl, refl)
not_ended line (why.Down a since) writes ends commits may = (refl, refl)
not_ended line why.NoTxn writes ends commits may = (refl, refl)
not_ended line why.TxnOpen writes ends commits may = (refl, refl)
not_ended line why.InDoubt writes ends commits may = (refl, refl)
not_ended line why.Memory writes ends commits may = (refl, refl)

read_left : (x : Opened) (line : Command) (limits : List TabletLimit) (w : ToldRefusal) → is_write (Some line) ≡ false → is_read (Some line) ≡ true → is_end (Some line) ≡ false → is_commit (Some line) ≡ false → MayAbort (is_commit (Some line)) (told.Refused w) → Some (record x { limits = limits }) ≡ Left line limits w x
read_left x line limits w writes reads ends commits may = let both = not_ended line w writes ends commits may in rw both.0 (rw reads (rw both.1 refl))

other_left : (x : Opened) (line : Command) (limits : List TabletLimit) (w : ToldRefusal) → is_write (Some line) ≡ false → is_read (Some line) ≡ false → is_end (Some line) ≡ false → is_commit (Some line) ≡ false → MayAbort (is_commit (Some line)) (told.Refused w) → Some x ≡ Left line limits w x
other_left x line limits w writes reads ends commits may = let both = not_ended line w writes ends commits may in rw both.0 (sym (same_left line limits w x reads both.1))

none_opened : (config : Config) (i : ℕ) (s : Keeps) (priority : ℕ) (reading : Option ℕ) (w : ToldRefusal) → opens config i s priority reading (told.Refused w) ≡ None
none_opened config i s priority None w = refl
none_opened config i s priority (Some n) w = refl

pub open_left : (config : Config) (i : ℕ) (s : Keeps) (line : Command) (reading : Option ℕ) (limits : List TabletLimit) (w : ToldRefusal) (o : Option Opened) → MayAbort (is_commit (Some line)) (told.Refused w) →
    opened_after config i s line reading limits (told.Refused w) o ≡ opened_left (Some line) limits w o
open_left config i s (command.Begin priority) reading limits w None may = none_opened config i s priority reading w
open_left config i s line reading limits w None may = refl
open_left config i s (command.Put place v) reading limits w (Some x) may = write_left x place (op.Put v) (command.Put place v) limits w refl refl refl may
open_left config i s (command.Del place) reading limits w (Some x) may = write_left x place op.Delete (command.Del place) limits w refl refl refl may
open_left config i s command.Commit reading limits w (Some x) may = end_left x command.Commit limits w refl refl refl
open_left config i s command.Abort reading limits w (Some x) may = end_left x command.Abort limits w refl refl refl
open_left config i s command.End reading limits w (Some x) may = end_left x command.End limits w refl refl refl
open_left config i s (command.Read strict places) reading limits w (Some x) may = read_left x (command.Read strict places) limits w refl refl refl refl may
open_left config i s (command.Scan strict place) reading limits w (Some x) may = read_left x (command.Scan strict place) limits w refl refl refl refl may
open_left config i s (command.Begin priority) reading limits w (Some x) may = other_left x (command.Begin priority) limits w refl refl refl refl may
open_left config i s (command.SinglePut place v priority) reading limits w (Some x) may = other_left x (command.SinglePut place v priority) limits w refl refl refl refl may
open_left config i s (command.SingleDel place priority) reading limits w (Some x) may = other_left x (command.SingleDel place priority) limits w refl refl refl refl may
open_left config i s (command.Restart a) reading limits w (Some x) may = other_left x (command.Restart a) limits w refl refl refl refl may
open_left config i s (command.Apply tablet) reading limits w (Some x) may = other_left x (command.Apply tablet) limits w refl refl refl refl may
open_left config i s (command.Clock node micros) reading limits w (Some x) may = other_left x (command.Clock node micros) limits w refl refl refl refl may

pub keeps_of : (config : Config) (a : Actor) (m : Mover) (line : Command) (w : ToldRefusal) → m.line ≡ Some line → kept_after config a m m.line (told.Refused w) ≡ keeps_after config (session_of a) m.keeps line m.reading m.limits (told.Refused w)
keeps_of config a m line w is = ap (λ (o : Option Command). kept_after config a m o (told.Refused w)) is
