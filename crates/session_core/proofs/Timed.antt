-- A command that takes a reading first.
use Rattle.std.proofs.Common.{◌≡◌, ℕ, true, Some, refl}
use Rattle.std.specs.Prelude.{Err}
use Rattle.hybrid_time.specs.Time.{least_time}
use Rattle.hybrid_time.specs.declared.time_refusal.TimeRefusal.{TimeRefusal}
use Rattle.txn_data.specs.declared.actor.Actor.TheVariants.{Session}
use Rattle.txn_data.specs.declared.command.Command.{Command}
use Rattle.txn_data.specs.declared.command.Command.TheVariants as command
use Rattle.txn_data.specs.declared.config.Config.{Config}
use Rattle.txn_data.specs.declared.told.Told.TheVariants as told
use Rattle.txn_data.specs.declared.told_refusal.ToldRefusal.TheVariants as told_refusal
use Rattle.txn_types.specs.Program.{Reading, Tell, turn, turn_with, with_reading}
use Rattle.txn_types.specs.Session.{Keeps}
use Rattle.session_core.specs.Lines.{clocked}
use Rattle.session_core.specs.Work.{timed}

pub timed_wants : (config : Config) (i : ℕ) (s : Keeps) (line : Command) → clocked line ≡ true → Reading ≡ turn (timed config i s line)
timed_wants config i s (command.Begin priority) h = refl
timed_wants config i s (command.Read strict places) h = refl
timed_wants config i s (command.Scan strict place) h = refl
timed_wants config i s (command.Put place v) h = cc
timed_wants config i s (command.Del place) h = cc
timed_wants config i s command.Commit h = cc
timed_wants config i s command.Abort h = cc
timed_wants config i s (command.SinglePut place v priority) h = cc
timed_wants config i s (command.SingleDel place priority) h = cc
timed_wants config i s (command.Restart actor) h = cc
timed_wants config i s (command.Apply tablet) h = cc
timed_wants config i s (command.Clock node micros) h = cc
timed_wants config i s command.End h = cc

pub timed_turn : (config : Config) (i : ℕ) (s : Keeps) (line : Command) (reading : ℕ) → clocked line ≡ true → turn (with_reading (timed config i s line) (Some reading)) ≡ turn_with (timed config i s line) (Some reading)
timed_turn config i s (command.Begin priority) reading h = refl
timed_turn config i s (command.Read strict places) reading h = refl
timed_turn config i s (command.Scan strict place) reading h = refl
timed_turn config i s (command.Put place v) reading h = cc
timed_turn config i s (command.Del place) reading h = cc
timed_turn config i s command.Commit reading h = cc
timed_turn config i s command.Abort reading h = cc
timed_turn config i s (command.SinglePut place v priority) reading h = cc
timed_turn config i s (command.SingleDel place priority) reading h = cc
timed_turn config i s (command.Restart actor) reading h = cc
timed_turn config i s (command.Apply tablet) reading h = cc
timed_turn config i s (command.Clock node micros) reading h = cc
timed_turn config i s command.End reading h = cc

pub timed_range : (config : Config) (i : ℕ) (s : Keeps) (line : Command) (reading : ℕ) (why : TimeRefusal) → clocked line ≡ true → least_time s.last 0 reading ≡ Err why
    → Tell (told.Refused (told_refusal.ClockRange (Session i) reading)) ≡ turn_with (timed config i s line) (Some reading)
timed_range config i s (command.Begin priority) reading why h e = rw e refl
timed_range config i s (command.Read strict places) reading why h e = rw e refl
timed_range config i s (command.Scan strict place) reading why h e = rw e refl
timed_range config i s (command.Put place v) reading why h e = cc
timed_range config i s (command.Del place) reading why h e = cc
timed_range config i s command.Commit reading why h e = cc
timed_range config i s command.Abort reading why h e = cc
timed_range config i s (command.SinglePut place v priority) reading why h e = cc
timed_range config i s (command.SingleDel place priority) reading why h e = cc
timed_range config i s (command.Restart actor) reading why h e = cc
timed_range config i s (command.Apply tablet) reading why h e = cc
timed_range config i s (command.Clock node micros) reading why h e = cc
timed_range config i s command.End reading why h e = cc
