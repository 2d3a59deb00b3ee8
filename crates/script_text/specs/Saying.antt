-- What a script can say, and what is read from one: places and values that have spellings, numbers within their limits, and
-- movers that are there.
use Rattle.std.specs.Prelude.{◌≡◌, ℕ, ◌^◌, ◌<◌, ◌≤◌, List, All, IsTrue, length}
use Rattle.std.specs.List.{AllByRecursion}
use Rattle.doc_key.specs.declared.doc_key.DocKey.{DocKey}
use Rattle.doc_key.specs.Spelling as of_key
use Rattle.doc_value.specs.declared.primitive.Primitive.{Primitive}
use Rattle.doc_value.specs.Spelling as of_value
use Rattle.txn_data.specs.declared.command.Command.{Command}
use Rattle.txn_data.specs.declared.command.Command.TheVariants as command
use Rattle.txn_data.specs.declared.commands.Commands.{Commands}
use Rattle.txn_data.specs.declared.config.Config.{Config}
use Rattle.txn_data.specs.declared.go_line.GoLine.{GoLine}
use Rattle.txn_data.specs.declared.mover.Mover.{Mover}
use Rattle.txn_data.specs.declared.mover.Mover.TheVariants.{Session, Applier}
use Rattle.txn_data.specs.declared.place.Place.{Place}
use Rattle.txn_data.specs.declared.schedule.Schedule.TheVariants.{Go}
use Rattle.txn_data.specs.declared.session_plan.SessionPlan.{SessionPlan}
use Rattle.txn_types.specs.Plan.{AreRising, CanRestart, IsSession}
use Rattle.txn_types.specs.Script.{commands_of, count}
use Rattle.cluster_config.specs.Head.{largest}
use Rattle.script_text.specs.Terms.{is_document, place_for}

-- the place of a document that has a spelling: on the tablet that owns the hash of its key, or the first where no
-- column is hashed
pub record IsPlaced (config : Config) (p : Place) : Type 0 where
  pub key : DocKey
  pub subkeys : List Primitive
  pub key_in_range : of_key.IsInRange key
  pub subkeys_in_range : AllByRecursion of_value.IsInRange subkeys
  pub has : IsTrue (is_document (record { key = key; subkeys = subkeys }))
  pub is : p ≡ place_for config.tablets (record { key = key; subkeys = subkeys })

-- the bytes of a value that is a column
pub record IsColumn (bytes : List ℕ) : Type 0 where
  pub value : Primitive
  pub in_range : of_value.IsInRange value
  pub column : IsTrue (of_key.is_column value)
  pub is : bytes ≡ of_value.spelling value

-- a command that a line can give
abbrev pub IsSpoken : Config → Command → Type 0
IsSpoken config (command.Begin priority) = priority < 2 ^ 32
IsSpoken config (command.Put place v) = IsPlaced config place × IsColumn v
IsSpoken config (command.Del place) = IsPlaced config place
IsSpoken config command.Commit = Unit {0}
IsSpoken config command.Abort = Unit {0}
IsSpoken config (command.Read strict places) = (1 ≤ length places) × (length places ≤ 16) × All (IsPlaced config) places
IsSpoken config (command.Scan strict place) = IsPlaced config place
IsSpoken config (command.SinglePut place v priority) = IsPlaced config place × IsColumn v × (priority < 2 ^ 32)
IsSpoken config (command.SingleDel place priority) = IsPlaced config place × (priority < 2 ^ 32)
IsSpoken config (command.Restart actor) = CanRestart config actor
IsSpoken config (command.Apply tablet) = tablet < config.tablets
IsSpoken config (command.Clock node micros) = (node < config.nodes) × (micros ≤ largest)
IsSpoken config command.End = ⊥

-- a session that has commands
abbrev pub IsSpeaker : Config → SessionPlan → Type 0
IsSpeaker config p = IsSession p.session × (1 ≤ length p.commands) × All (IsSpoken config) p.commands

-- an applier of the cluster, or a session that has commands
abbrev pub IsMover : Config → Commands → Mover → Type 0
IsMover config plan (Session i) = 1 ≤ length (commands_of i plan.sessions)
IsMover config plan (Applier k) = k < config.tablets

abbrev pub IsMove : Config → Commands → GoLine → Type 0
IsMove config plan g = IsMover config plan g.who × (1 ≤ g.count) × (g.count ≤ 1000000)

-- a plan that a script can say beside a cluster
pub record IsSaid (config : Config) (plan : Commands) : Type 0 where
  pub rising : AreRising plan.sessions
  pub sessions : All (IsSpeaker config) plan.sessions
  pub order : (i : ℕ) → count i plan.order ≡ length (commands_of i plan.sessions)
  pub few_commands : length plan.order ≤ 100000
  pub moves : All (IsMove config plan) plan.go
  pub few_moves : length plan.go ≤ 100000
  pub schedule : 0 < length plan.go → config.schedule ≡ Go
