-- The lines of a session that are left.
use Rattle.std.specs.Prelude.{◌≡◌, ℕ, ◌+◌, Bool, true, false, ◌&&◌, not, List, [], ◌∷◌, ◌++◌, length}
use Rattle.txn_data.specs.declared.command.Command.{Command}
use Rattle.txn_data.specs.declared.command.Command.TheVariants as command
use Rattle.mover_chain.specs.NextEvent.{NextEvent, starts_next}
use Rattle.session_core.specs.Core.{commands_of}
use Rattle.session_core.specs.declared.session_core.SessionCore.{SessionCore}
use Rattle.mover_seat.specs.Step.{clock_of}
use Rattle.mover_seat.specs.declared.lines.Lines.{Lines}

-- what is left, where a transaction is open or not
abbrev pub line_next : Lines → Bool → NextEvent
line_next l is_open = starts_next l.left.items (l.finished && not l.ended && is_open)

-- the line is the first of those that are left, or else End
pub data TakesLine (old : Lines) (line : Command) (new : Lines) : Type 0 where
  Next : (is : old.left.items ≡ line ∷ new.left.items) (ended : new.ended ≡ old.ended) → TakesLine old line new
  Ends : (none : old.left.items ≡ []) (is : line ≡ command.End) (was : old.ended ≡ false) (ended : new.ended ≡ true) (after : new.left.items ≡ []) → TakesLine old line new

-- the next line is taken
pub record Takes (old : Lines) (line : Command) (new : Lines) : Type 0 where
  pub clock : new.clock ≡ clock_of line
  pub finished : new.finished ≡ old.finished
  pub given : new.given ≡ old.given
  pub taken : TakesLine old line new

-- nothing was taken
pub record Stays (old new : Lines) : Type 0 where
  pub left : new.left.items ≡ old.left.items
  pub given : new.given ≡ old.given
  pub finished : new.finished ≡ old.finished
  pub ended : new.ended ≡ old.ended
  pub clock : new.clock ≡ old.clock

-- the lines given are those that were begun and those that are left; or all were begun, and End after them
abbrev pub Splits : List Command → List Command → Bool → List Command → Type 0
Splits given begun false left = given ≡ begun ++ left
Splits given begun true left = begun ≡ given ++ command.End ∷ []

abbrev pub one_if : Bool → ℕ
one_if true = 1
one_if false = 0

-- each command that was begun is of a line given, or is End
abbrev pub IsCounted : SessionCore → Lines → Type 0
IsCounted c l = commands_of c + length l.left.items ≡ l.given + one_if l.ended
