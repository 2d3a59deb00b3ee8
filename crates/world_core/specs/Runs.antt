-- What a list of moves adds.
use Rattle.std.specs.Prelude.{◌≡◌, ℕ, List, [], ◌∷◌, ◌++◌, Result, Ok, Err, length}
use Rattle.std.specs.List.{All}
use Rattle.txn_data.specs.declared.config.Config.{Config}
use Rattle.txn_data.specs.declared.move_at.MoveAt.{MoveAt}
use Rattle.txn_types.specs.History.{History}
use Rattle.txn_types.specs.Script.{actor_of}
use Rattle.mover_chain.specs.NextEvent.{Given}
use Rattle.mover_seat.specs.declared.moved.Moved.{Moved}
use Rattle.world_actors.specs.Steps.{MovesOn, Steps}
use Rattle.world_actors.specs.declared.step_refusal.StepRefusal.{StepRefusal}

-- the moves of a list, one after another, lead from one history to another
unfoldable pub Leads : Given → Config → List MoveAt → History → History → Type 0
Leads given config [] h g = g ≡ h
Leads given config (m ∷ ms) h g =
    (between : History) × ((moved : Moved) × MovesOn given config m.readings (actor_of m.who) h between moved) × Leads given config ms between g

-- a list of moves was made up to a move that was refused: those before it stand, and it is refused for this
pub record StopsAt (given : Given) (config : Config) (list : List MoveAt) (h g : History) (why : StepRefusal) : Type 0 where
  pub before : List MoveAt
  pub refused : MoveAt
  pub after : List MoveAt
  pub parts : list ≡ before ++ refused ∷ after
  pub made : Leads given config before h g
  pub stopped : Steps given config refused.readings (actor_of refused.who) g g (Err why)

abbrev pub Runs : {T : Type 0} → Given → Config → List MoveAt → History → History → Result T StepRefusal → Type 0
Runs given config list h g (Ok done) = Leads given config list h g
Runs given config list h g (Err why) = StopsAt given config list h g why

-- there is one reading for each node in each move
abbrev pub HaveReadings : ℕ → List MoveAt → Type 0
HaveReadings nodes list = All (λ (m : MoveAt). length m.readings ≡ nodes) list
