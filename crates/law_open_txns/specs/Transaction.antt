-- The requests of a transaction: its begin, its writes, what ends it, and which writes a commit covers.
use Rattle.std.specs.Prelude.{◌≡◌, ℕ, ◌≤◌, List, Some}
use Rattle.txn_data.specs.declared.actor.Actor.{Actor}
use Rattle.txn_data.specs.declared.actor.Actor.TheVariants.{Tablet}
use Rattle.txn_data.specs.declared.append.Append.{Append}
use Rattle.txn_data.specs.declared.append.Append.TheVariants.{Nothing, Failed}
use Rattle.txn_data.specs.declared.request.Request.TheVariants as request
use Rattle.txn_data.specs.declared.reply.Reply.TheVariants as reply
use Rattle.txn_data.specs.declared.event.Event.{Event}
use Rattle.txn_data.specs.declared.event.Event.TheVariants.{Serve}
use Rattle.txn_data.specs.declared.entry.Entry.{Entry}
use Rattle.txn_types.specs.Lists.{Member}
use Rattle.txn_types.specs.History.{History}

-- something was to be logged
abbrev pub IsLogged : Append → Type 0
IsLogged Nothing = ⊥
IsLogged append = Unit {0}

-- a commit or an abort of the transaction that was to be logged
abbrev pub IsEndOf : ℕ → Event → Type 0
IsEndOf x (Serve from (request.Commit y floor tablets) r time append) = (y ≡ x) × IsLogged append
IsEndOf x (Serve from (request.Abort y) r time append) = (y ≡ x) × IsLogged append
IsEndOf x event = ⊥

abbrev pub IsWriteOf : ℕ → Event → Type 0
IsWriteOf x (Serve from (request.Write meta number path op read seen fates) r time append) = meta.txn ≡ x
IsWriteOf x event = ⊥

-- a Begin of the transaction that was answered Begun
abbrev pub IsBeginOf : ℕ → Event → Type 0
IsBeginOf x (Serve from (request.Begin y isolation priority) reply.Begun time append) = y ≡ x
IsBeginOf x event = ⊥

abbrev pub Begun : History → ℕ → Type 0
Begun h x = (e : Entry) × Member e h × IsBeginOf x e.event

abbrev pub IsOn : Actor → List ℕ → Type 0
IsOn (Tablet k) tablets = Member k tablets
IsOn a tablets = ⊥

-- a write of a transaction is covered by a floor and some tablets: its append did not fail, it read not above the floor,
-- and where it was accepted, it was not above the floor and at one of the tablets
abbrev pub IsCoveredBy : ℕ → ℕ → List ℕ → Actor → Event → Type 0
IsCoveredBy x floor tablets a (Serve from (request.Write meta number path op read seen fates) r time append) =
    meta.txn ≡ x → (append ≡ Failed → ⊥) × (read ≤ floor) × ((w : ℕ) → time ≡ Some w → (w ≤ floor) × IsOn a tablets)
IsCoveredBy x floor tablets a event = Unit {0}
