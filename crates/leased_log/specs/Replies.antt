-- What an actor tells that its table does not decide.
use Rattle.std.specs.Prelude.{Bool, None}
use Rattle.txn_data.specs.declared.append.Append.TheVariants.{Nothing}
use Rattle.txn_data.specs.declared.reply.Reply.TheVariants as reply
use Rattle.txn_data.specs.declared.refusal.Refusal.TheVariants as refusal
use Rattle.txn_data.specs.declared.served.Served.{Served}

-- what is told if memory runs out
abbrev pub out_of_memory : Served
out_of_memory = record { reply = reply.Refused refusal.Memory; copy = reply.Refused refusal.Memory; time = None; append = Nothing }

-- what is told of a restart, and whether it kept the piece of a failed append
abbrev pub restarted_with : Bool → Served
restarted_with kept = record { reply = reply.Restarted kept; copy = reply.Restarted kept; time = None; append = Nothing }

-- what is told of a load that failed
abbrev pub not_loaded : Served
not_loaded = record { reply = reply.Refused refusal.LogFault; copy = reply.Refused refusal.LogFault; time = None; append = Nothing }
