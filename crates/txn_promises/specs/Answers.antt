-- What each command is answered, where it is not refused.
use Rattle.std.specs.Prelude.{◌≡◌, ℕ, ◌+◌, Option, Some, ◌⊎◌}
use Rattle.txn_data.specs.declared.command.Command.{Command}
use Rattle.txn_data.specs.declared.command.Command.TheVariants as command
use Rattle.txn_data.specs.declared.told.Told.{Told}
use Rattle.txn_data.specs.declared.told.Told.TheVariants as told
use Rattle.txn_data.specs.declared.config.Config.{Config}
use Rattle.txn_types.specs.Session.{Keeps, txn_id}
use Rattle.txn_types.specs.Run.{session_of}
use Rattle.txn_types.specs.Reads.{open_txn}
use Rattle.txn_types.specs.Cause.{ToldAt}
use Rattle.txn_promises.specs.Lines.{mover_then}

-- the transaction of a command: the one that a begin or a single write takes the next serial number for, or the open one
abbrev pub txn_of_line : ℕ → Keeps → Command → Option ℕ
txn_of_line session s (command.Begin priority) = Some (txn_id session (s.serial + 1))
txn_of_line session s (command.SinglePut place v priority) = Some (txn_id session (s.serial + 1))
txn_of_line session s (command.SingleDel place priority) = Some (txn_id session (s.serial + 1))
txn_of_line session s line = open_txn s.opened

-- the command may be answered so, refusals apart, and the transaction named is its own; which answer is due the tables say
abbrev pub IsAnswerTo : Option ℕ → Command → Told → Type 0
IsAnswerTo own (command.Begin priority) (told.Began x at) = own ≡ Some x
IsAnswerTo own (command.Put place v) (told.Written at) = Unit {0}
IsAnswerTo own (command.Del place) (told.Written at) = Unit {0}
IsAnswerTo own command.Commit (told.Committed x at) = own ≡ Some x
IsAnswerTo own command.Commit (told.Ended x) = own ≡ Some x
IsAnswerTo own command.Abort (told.Ended x) = own ≡ Some x
IsAnswerTo own command.Abort (told.Committed x at) = own ≡ Some x
IsAnswerTo own command.End (told.Ended x) = own ≡ Some x
IsAnswerTo own command.End (told.Committed x at) = own ≡ Some x
IsAnswerTo own (command.SinglePut place v priority) (told.Committed x at) = own ≡ Some x
IsAnswerTo own (command.SingleDel place priority) (told.Committed x at) = own ≡ Some x
IsAnswerTo own (command.Read strict places) (told.Values at restarts rows) = Unit {0}
IsAnswerTo own (command.Scan strict place) (told.Values at restarts rows) = Unit {0}
IsAnswerTo own (command.Restart actor) (told.Restarted kept) = Unit {0}
IsAnswerTo own (command.Apply tablet) (told.Passed applied cleaned left) = Unit {0}
IsAnswerTo own (command.Clock node micros) told.Set = Unit {0}
IsAnswerTo own line t = ⊥

-- what was told is a refusal
abbrev pub IsRefusal : Told → Type 0
IsRefusal (told.Refused why) = Unit {0}
IsRefusal t = ⊥

-- the mover had a command under way, and what it was told is a refusal or an answer that this command may have
pub record IsAnswered (config : Config) (t : ToldAt) : Type 0 where
  pub line : Command
  pub under_way : (mover_then config t).line ≡ Some line
  pub fits : IsRefusal t.told ⊎ IsAnswerTo (txn_of_line (session_of t.who) (mover_then config t).keeps line) line t.told
