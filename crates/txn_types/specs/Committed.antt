-- What was committed, and what all that was committed up to a time leaves.
use Rattle.std.specs.Prelude.{ℕ, Bool, List, [], ◌∷◌, ◌++◌, Some, nat_eq, nat_le, nat_lt, if◌then◌else◌, ◌&&◌, ◌||◌, map, filter, flat_map}
use Rattle.txn_data.specs.declared.request.Request.TheVariants as request
use Rattle.txn_data.specs.declared.reply.Reply.TheVariants as reply
use Rattle.txn_data.specs.declared.event.Event.{Event}
use Rattle.txn_data.specs.declared.event.Event.TheVariants.{Serve}
use Rattle.txn_data.specs.declared.entry.Entry.{Entry}
use Rattle.txn_data.specs.declared.written.Written.{Written}
use Rattle.txn_data.specs.declared.committed_txn.CommittedTxn.{CommittedTxn}
use Rattle.txn_types.specs.Lists.{sorted_by}
use Rattle.txn_types.specs.History.{History, counting}

pub record Numbered : Type 0 where
  pub number : ℕ
  pub write : Written

-- a write that was answered Written, with its number
abbrev pub accepted_by : ℕ → Event → List Numbered
accepted_by x (Serve from (request.Write meta number path op read seen fates) (reply.Written at) time append) =
    if nat_eq meta.txn x then (record { number = number; write = record { path = path; op = op } }) ∷ [] else []
accepted_by x _ = []

-- the accepted writes of a transaction, over all tablets, by write number
unfoldable pub writes : History → ℕ → List Written
writes h x =
    map (λ (n : Numbered). n.write)
    (sorted_by (λ (a b : Numbered). nat_le a.number b.number) (flat_map (λ (e : Entry). accepted_by x e.event) h))

-- a Commit that took a time commits its transaction
abbrev pub snapshot_by : History → Event → List CommittedTxn
snapshot_by h (Serve from (request.Commit x floor tablets) reply (Some c) append) =
    (record { txn = x; at = c; writes = writes h x }) ∷ []
snapshot_by h event = []

-- a Single that took a time commits its one write
abbrev pub single_by : Event → List CommittedTxn
single_by (Serve from (request.Single x path op seen fates) reply (Some c) append) =
    (record { txn = x; at = c; writes = (record { path = path; op = op }) ∷ [] }) ∷ []
single_by event = []

-- the committed transactions, and with them the committed single writes
unfoldable pub committed_snapshots : History → List CommittedTxn
committed_snapshots h = flat_map (λ (e : Entry). snapshot_by h e.event) (counting h)

unfoldable pub committed : History → List CommittedTxn
committed h = flat_map (λ (e : Entry). snapshot_by h e.event ++ single_by e.event) (counting h)

-- by commit time, then by id
abbrev pub commits_before : CommittedTxn → CommittedTxn → Bool
commits_before x y = nat_lt x.at y.at || (nat_eq x.at y.at && nat_le x.txn y.txn)

-- the writes of all that is committed not later than t, in the order of commits
unfoldable pub fold_of : List CommittedTxn → ℕ → List Written
fold_of list t =
    flat_map (λ (x : CommittedTxn). x.writes) (sorted_by commits_before (filter (λ (x : CommittedTxn). nat_le x.at t) list))

abbrev pub fold : History → ℕ → List Written
fold h t = fold_of (committed h) t
