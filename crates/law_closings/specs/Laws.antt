-- A transaction is closed once, in every run.
use Rattle.std.specs.Prelude.{◌≡◌, ℕ}
use Rattle.txn_data.specs.declared.config.Config.{Config}
use Rattle.txn_data.specs.declared.request.Request.{Request}
use Rattle.txn_data.specs.declared.request.Request.TheVariants as request
use Rattle.txn_data.specs.declared.reply.Reply.{Reply}
use Rattle.txn_data.specs.declared.event.Event.{Event}
use Rattle.txn_data.specs.declared.event.Event.TheVariants.{Serve}
use Rattle.txn_data.specs.declared.entry.Entry.{Entry}
use Rattle.txn_types.specs.Lists.{Member}
use Rattle.txn_types.specs.History.{History}
use Rattle.txn_types.specs.Run.{Run}
use Rattle.law_machines.specs.Own.{StandsOver}
use Rattle.law_open_txns.specs.Laws.{ClosesCommit, ClosesAbort}

-- a request to end this transaction, and an answer to one after which it is closed
abbrev pub Ends : ℕ → Request → Type 0
Ends x (request.Commit y floor tablets) = y ≡ x
Ends x (request.Abort y) = y ≡ x
Ends x asked = ⊥

abbrev pub ClosesBy : Request → Reply → Type 0
ClosesBy (request.Commit y floor tablets) r = ClosesCommit r
ClosesBy (request.Abort y) r = ClosesAbort r
ClosesBy asked r = ⊥

abbrev pub EndsAt : ℕ → Event → Type 0
EndsAt x (Serve from asked r time append) = Ends x asked
EndsAt x event = ⊥

abbrev pub Closes : ℕ → Event → Type 0
Closes x (Serve from asked r time append) = Ends x asked × ClosesBy asked r
Closes x event = ⊥

-- once a commit or an abort of a transaction was answered so that it is closed, none is served again
abbrev pub ClosedIsNotEnded : Type 0
ClosedIsNotEnded = (config : Config) (h before : History) (e k : Entry) (x : ℕ) → Run config h → StandsOver e before h → EndsAt x e.event → Member k before → Closes x k.event → ⊥
