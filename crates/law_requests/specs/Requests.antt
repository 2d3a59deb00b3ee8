-- What a request may be: of the line under way, and within the limits that a machine asks for.
use Rattle.std.specs.Prelude.{◌≡◌, ℕ, ◌≤◌, List, [], ◌∷◌, All, length}
use Rattle.doc_path.specs.Path.{Parts}
use Rattle.txn_data.specs.declared.actor.Actor.{Actor}
use Rattle.txn_data.specs.declared.actor.Actor.TheVariants.{Tablet}
use Rattle.txn_data.specs.declared.op.Op.{Op}
use Rattle.txn_data.specs.declared.op.Op.TheVariants as op
use Rattle.txn_data.specs.declared.place.Place.{Place}
use Rattle.txn_data.specs.declared.request.Request.{Request}
use Rattle.txn_data.specs.declared.request.Request.TheVariants as request
use Rattle.txn_data.specs.declared.command.Command.{Command}
use Rattle.txn_data.specs.declared.command.Command.TheVariants as command
use Rattle.txn_data.specs.declared.config.Config.{Config}
use Rattle.txn_types.specs.Lists.{Member}
use Rattle.txn_types.specs.ReadProgram.{paths_on}
use Rattle.txn_types.specs.Plan.{IsShort, IsPath, places_of}
use Rattle.txn_types.specs.Run.{IsMachine}
use Rattle.law_owners.specs.Owner.{IsOfTable}

-- the line names a place with this tablet and path
abbrev pub IsNamed : Command → ℕ → Parts → Type 0
IsNamed line k path = (place : Place) × Member place (places_of line) × (place.tablet ≡ k) × (place.path ≡ path)

-- what the line does at its place
abbrev pub Sets : Command → Op → Type 0
Sets (command.Put place v) o = o ≡ op.Put v
Sets (command.Del place) o = o ≡ op.Delete
Sets (command.SinglePut place v priority) o = o ≡ op.Put v
Sets (command.SingleDel place priority) o = o ≡ op.Delete
Sets line o = ⊥

-- the paths and the value of a request to a tablet are those of the line
abbrev pub IsOfLine : Command → Actor → Request → Type 0
IsOfLine line (Tablet k) (request.ListWrite x path) = IsNamed line k path
IsOfLine line (Tablet k) (request.Write meta number path o read seen fates) = IsNamed line k path × Sets line o
IsOfLine line (Tablet k) (request.Single x path o seen fates) = IsNamed line k path × Sets line o
IsOfLine line (Tablet k) (request.ListRead own_txn paths t g limit) = paths ≡ paths_on k (places_of line)
IsOfLine line (Tablet k) (request.Collect own_txn kind paths t window fates) = paths ≡ paths_on k (places_of line)
IsOfLine line a asked = Unit {0}

abbrev pub IsShortOp : Op → Type 0
IsShortOp (op.Put v) = IsShort v
IsShortOp op.Delete = Unit {0}

-- none stands twice
unfoldable pub AreDistinct : List ℕ → Type 0
AreDistinct [] = Unit {0}
AreDistinct (n ∷ ns) = (Member n ns → ⊥) × AreDistinct ns

-- paths of one to five parts, parts and values of 1 to 65,536 bytes, at most 64 tablets and none twice
abbrev pub IsSmall : Request → Type 0
IsSmall (request.ListWrite x path) = IsPath path
IsSmall (request.Write meta number path o read seen fates) = IsPath path × IsShortOp o
IsSmall (request.Single x path o seen fates) = IsPath path × IsShortOp o
IsSmall (request.ListRead own_txn paths t g limit) = All IsPath paths
IsSmall (request.Collect own_txn kind paths t window fates) = All IsPath paths
IsSmall (request.Commit x floor tablets) = (length tablets ≤ 64) × AreDistinct tablets
IsSmall asked = Unit {0}

-- a machine of the cluster, of whose table the request is, may serve it
pub record IsServable (config : Config) (to : Actor) (asked : Request) : Type 0 where
  pub machine : IsMachine config to
  pub table : IsOfTable to asked
  pub small : IsSmall asked
