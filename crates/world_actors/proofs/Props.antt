-- What a request may be is a proposition.
use Rattle.std.proofs.Common.{ℕ, List, [], ◌∷◌}
use Rattle.std.proofs.Props.{props}
use mathlib.Core.HLevel.{×_prop}
use Rattle.txn_data.specs.declared.actor.Actor.{Actor}
use Rattle.txn_data.specs.declared.actor.Actor.TheVariants.{Tablet, Status, Session, Applier}
use Rattle.txn_data.specs.declared.config.Config.{Config}
use Rattle.txn_data.specs.declared.op.Op.{Op}
use Rattle.txn_data.specs.declared.op.Op.TheVariants as op
use Rattle.txn_data.specs.declared.request.Request.{Request}
use Rattle.txn_data.specs.declared.request.Request.TheVariants as request
use Rattle.txn_types.specs.Run.{IsMachine}
use Rattle.law_owners.specs.Owner.{IsOfTable}
use Rattle.law_requests.specs.Requests.{AreDistinct, IsShortOp, IsSmall}

pub machine_prop : (config : Config) (a : Actor) → IsProp (IsMachine config a)
machine_prop config (Tablet k) = Prim.hlevel props
machine_prop config (Status j) = Prim.hlevel props
machine_prop config (Session i) = Prim.hlevel props
machine_prop config (Applier k) = Prim.hlevel props

pub table_prop : (a : Actor) (asked : Request) → IsProp (IsOfTable a asked)
table_prop (Tablet k) (request.ListWrite x path) = Prim.hlevel props
table_prop (Tablet k) (request.Write meta number path o read seen fates) = Prim.hlevel props
table_prop (Tablet k) (request.Single x path o seen fates) = Prim.hlevel props
table_prop (Tablet k) (request.ListRead own_txn paths t g limit) = Prim.hlevel props
table_prop (Tablet k) (request.Collect own_txn kind paths t window fates) = Prim.hlevel props
table_prop (Tablet k) request.ListIntents = Prim.hlevel props
table_prop (Tablet k) (request.Apply x at) = Prim.hlevel props
table_prop (Tablet k) (request.Clean x) = Prim.hlevel props
table_prop (Tablet k) (request.Begin x isolation priority) = Prim.hlevel props
table_prop (Tablet k) (request.AskFate x t) = Prim.hlevel props
table_prop (Tablet k) (request.Resolve x by priority) = Prim.hlevel props
table_prop (Tablet k) (request.Commit x floor tablets) = Prim.hlevel props
table_prop (Tablet k) (request.Abort x) = Prim.hlevel props
table_prop (Tablet k) (request.Applied x tablet) = Prim.hlevel props
table_prop (Tablet k) request.Restart = Prim.hlevel props
table_prop (Status j) (request.ListWrite x path) = Prim.hlevel props
table_prop (Status j) (request.Write meta number path o read seen fates) = Prim.hlevel props
table_prop (Status j) (request.Single x path o seen fates) = Prim.hlevel props
table_prop (Status j) (request.ListRead own_txn paths t g limit) = Prim.hlevel props
table_prop (Status j) (request.Collect own_txn kind paths t window fates) = Prim.hlevel props
table_prop (Status j) request.ListIntents = Prim.hlevel props
table_prop (Status j) (request.Apply x at) = Prim.hlevel props
table_prop (Status j) (request.Clean x) = Prim.hlevel props
table_prop (Status j) (request.Begin x isolation priority) = Prim.hlevel props
table_prop (Status j) (request.AskFate x t) = Prim.hlevel props
table_prop (Status j) (request.Resolve x by priority) = Prim.hlevel props
table_prop (Status j) (request.Commit x floor tablets) = Prim.hlevel props
table_prop (Status j) (request.Abort x) = Prim.hlevel props
table_prop (Status j) (request.Applied x tablet) = Prim.hlevel props
table_prop (Status j) request.Restart = Prim.hlevel props
table_prop (Session i) (request.ListWrite x path) = Prim.hlevel props
table_prop (Session i) (request.Write meta number path o read seen fates) = Prim.hlevel props
table_prop (Session i) (request.Single x path o seen fates) = Prim.hlevel props
table_prop (Session i) (request.ListRead own_txn paths t g limit) = Prim.hlevel props
table_prop (Session i) (request.Collect own_txn kind paths t window fates) = Prim.hlevel props
table_prop (Session i) request.ListIntents = Prim.hlevel props
table_prop (Session i) (request.Apply x at) = Prim.hlevel props
table_prop (Session i) (request.Clean x) = Prim.hlevel props
table_prop (Session i) (request.Begin x isolation priority) = Prim.hlevel props
table_prop (Session i) (request.AskFate x t) = Prim.hlevel props
table_prop (Session i) (request.Resolve x by priority) = Prim.hlevel props
table_prop (Session i) (request.Commit x floor tablets) = Prim.hlevel props
table_prop (Session i) (request.Abort x) = Prim.hlevel props
table_prop (Session i) (request.Applied x tablet) = Prim.hlevel props
table_prop (Session i) request.Restart = Prim.hlevel props
table_prop (Applier k) (request.ListWrite x path) = Prim.hlevel props
table_prop (Applier k) (request.Write meta number path o read seen fates) = Prim.hlevel props
table_prop (Applier k) (request.Single x path o seen fates) = Prim.hlevel props
table_prop (Applier k) (request.ListRead own_txn paths t g limit) = Prim.hlevel props
table_prop (Applier k) (request.Collect own_txn kind paths t window fates) = Prim.hlevel props
table_prop (Applier k) request.ListIntents = Prim.hlevel props
table_prop (Applier k) (request.Apply x at) = Prim.hlevel props
table_prop (Applier k) (request.Clean x) = Prim.hlevel props
table_prop (Applier k) (request.Begin x isolation priority) = Prim.hlevel props
table_prop (Applier k) (request.AskFate x t) = Prim.hlevel props
table_prop (Applier k) (request.Resolve x by priority) = Prim.hlevel props
table_prop (Applier k) (request.Commit x floor tablets) = Prim.hlevel props
table_prop (Applier k) (request.Abort x) = Prim.hlevel props
table_prop (Applier k) (request.Applied x tablet) = Prim.hlevel props
table_prop (Applier k) request.Restart = Prim.hlevel props

op_prop : (o : Op) → IsProp (IsShortOp o)
op_prop (op.Put v) = Prim.hlevel props
op_prop op.Delete = Prim.hlevel props

distinct_prop : (ns : List ℕ) → IsProp (AreDistinct ns)
unfolding AreDistinct
distinct_prop [] = Prim.hlevel props
distinct_prop (n ∷ ns) = ×_prop (Prim.hlevel props) (distinct_prop ns)

pub small_prop : (asked : Request) → IsProp (IsSmall asked)
small_prop (request.ListWrite x path) = Prim.hlevel props
small_prop (request.Write meta number path o read seen fates) = ×_prop (Prim.hlevel props) (op_prop o)
small_prop (request.Single x path o seen fates) = ×_prop (Prim.hlevel props) (op_prop o)
small_prop (request.ListRead own_txn paths t g limit) = Prim.hlevel props
small_prop (request.Collect own_txn kind paths t window fates) = Prim.hlevel props
small_prop request.ListIntents = Prim.hlevel props
small_prop (request.Apply x at) = Prim.hlevel props
small_prop (request.Clean x) = Prim.hlevel props
small_prop (request.Begin x isolation priority) = Prim.hlevel props
small_prop (request.AskFate x t) = Prim.hlevel props
small_prop (request.Resolve x by priority) = Prim.hlevel props
small_prop (request.Commit x floor tablets) = ×_prop (Prim.hlevel props) (distinct_prop tablets)
small_prop (request.Abort x) = Prim.hlevel props
small_prop (request.Applied x tablet) = Prim.hlevel props
small_prop request.Restart = Prim.hlevel props
