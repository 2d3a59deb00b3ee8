-- The commands that each session has left, by its number.
use Rattle.std.specs.Prelude.{ℕ, List, [], map, slice_index_or}
use denote.Ref.{Bor}
use Rattle.txn_data.specs.declared.command.Command.{Command}

abbrev pub lists_of : List (Bor (List Command)) → List (List Command)
lists_of queues = map (λ q. q.now) queues

abbrev pub queue_of : List (Bor (List Command)) → ℕ → List Command
queue_of queues session = slice_index_or (lists_of queues) session []
