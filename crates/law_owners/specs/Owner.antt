-- Whose a transaction is, where its record stands, and what follows for each request.
use Rattle.std.specs.Prelude.{◌≡◌, ℕ, ◌/◌, ◌%◌, ◌^◌}
use Rattle.txn_data.specs.declared.actor.Actor.{Actor}
use Rattle.txn_data.specs.declared.actor.Actor.TheVariants.{Tablet, Status, Session}
use Rattle.txn_data.specs.declared.config.Config.{Config}
use Rattle.txn_data.specs.declared.request.Request.{Request}
use Rattle.txn_data.specs.declared.request.Request.TheVariants as request
use Rattle.txn_data.specs.declared.event.Event.{Event}
use Rattle.txn_data.specs.declared.event.Event.TheVariants.{Serve}
use Rattle.txn_data.specs.declared.entry.Entry.{Entry}
use Rattle.txn_types.specs.Lists.{Member}
use Rattle.txn_types.specs.History.{History}

-- the session whose transaction it is
abbrev pub owner_of : ℕ → ℕ
owner_of x = x / 2 ^ 64

-- the status tablet of its record
abbrev pub home_of : Config → ℕ → ℕ
home_of config x = owner_of x % config.status

abbrev pub IsOwner : Actor → ℕ → Type 0
IsOwner m x = m ≡ Session (owner_of x)

abbrev pub IsHome : Config → Actor → ℕ → Type 0
IsHome config a x = a ≡ Status (home_of config x)

-- what a transaction's own session alone asks, and what is asked of the transaction's own status tablet
abbrev pub IsHomed : Config → Actor → Actor → Request → Type 0
IsHomed config m a (request.ListWrite x path) = IsOwner m x
IsHomed config m a (request.Write meta number path op read seen fates) = IsOwner m meta.txn × (meta.status ≡ home_of config meta.txn)
IsHomed config m a (request.Single x path op seen fates) = IsOwner m x
IsHomed config m a (request.Begin x isolation priority) = IsOwner m x × IsHome config a x
IsHomed config m a (request.Commit x floor tablets) = IsOwner m x × IsHome config a x
IsHomed config m a (request.Abort x) = IsOwner m x × IsHome config a x
IsHomed config m a (request.Resolve x by priority) = IsOwner m by × IsHome config a x
IsHomed config m a (request.AskFate x t) = IsHome config a x
IsHomed config m a (request.Applied x tablet) = IsHome config a x
IsHomed config m a asked = Unit {0}

-- the request is one of the actor's own table
abbrev pub IsOfTable : Actor → Request → Type 0
IsOfTable a request.Restart = Unit {0}
IsOfTable (Tablet k) (request.ListWrite x path) = Unit {0}
IsOfTable (Tablet k) (request.Write meta number path op read seen fates) = Unit {0}
IsOfTable (Tablet k) (request.Single x path op seen fates) = Unit {0}
IsOfTable (Tablet k) (request.ListRead own_txn paths t g limit) = Unit {0}
IsOfTable (Tablet k) (request.Collect own_txn kind paths t window fates) = Unit {0}
IsOfTable (Tablet k) request.ListIntents = Unit {0}
IsOfTable (Tablet k) (request.Apply x at) = Unit {0}
IsOfTable (Tablet k) (request.Clean x) = Unit {0}
IsOfTable (Status j) (request.Begin x isolation priority) = Unit {0}
IsOfTable (Status j) (request.AskFate x t) = Unit {0}
IsOfTable (Status j) (request.Resolve x by priority) = Unit {0}
IsOfTable (Status j) (request.Commit x floor tablets) = Unit {0}
IsOfTable (Status j) (request.Abort x) = Unit {0}
IsOfTable (Status j) (request.Applied x tablet) = Unit {0}
IsOfTable a asked = ⊥

abbrev pub IsHomedAt : Config → Actor → Event → Type 0
IsHomedAt config a (Serve from asked r time append) = IsHomed config from a asked × IsOfTable a asked
IsHomedAt config a event = Unit {0}

-- the entry serves the request that begins this transaction, or the single write of this id
abbrev pub Uses : ℕ → Event → Type 0
Uses x (Serve from (request.Begin y isolation priority) r time append) = y ≡ x
Uses x (Serve from (request.Single y path op seen fates) r time append) = y ≡ x
Uses x event = ⊥

-- no entry uses the id
abbrev pub IsUnused : ℕ → History → Type 0
IsUnused x h = (e : Entry) → Member e h → Uses x e.event → ⊥
