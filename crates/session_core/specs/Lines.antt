-- What kind of command a line has.
use Rattle.std.specs.Prelude.{Bool, true, false, length, nat_le}
use Rattle.txn_data.specs.declared.reply.Reply.{Reply}
use Rattle.txn_data.specs.declared.reply.Reply.TheVariants as reply
use Rattle.txn_data.specs.declared.command.Command.{Command}
use Rattle.txn_data.specs.declared.command.Command.TheVariants as command

abbrev pub writes_line : Command → Bool
writes_line (command.Put place v) = true
writes_line (command.Del place) = true
writes_line _ = false

-- the commands that may want a reading
abbrev pub clocked : Command → Bool
clocked (command.Begin priority) = true
clocked (command.Read strict places) = true
clocked (command.Scan strict place) = true
clocked _ = false

abbrev pub is_listed : Reply → Bool
is_listed (reply.Listed limit others) = true
is_listed _ = false

-- a read has at most sixteen places
abbrev pub has_few_places : Command → Bool
has_few_places (command.Read strict places) = nat_le (length places) 16
has_few_places _ = true
