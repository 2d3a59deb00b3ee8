-- The listing that fixed the local limit of a tablet for a read.
use Rattle.std.specs.Prelude.{ℕ, List, Option, Some, None}
use Rattle.doc_path.specs.Path.{Parts}
use Rattle.txn_data.specs.declared.actor.Actor.{Actor}
use Rattle.txn_data.specs.declared.actor.Actor.TheVariants.{Tablet}
use Rattle.txn_data.specs.declared.append.Append.{Append}
use Rattle.txn_data.specs.declared.found.Found.{Found}
use Rattle.txn_data.specs.declared.request.Request.TheVariants as request
use Rattle.txn_data.specs.declared.reply.Reply.TheVariants as reply
use Rattle.txn_data.specs.declared.event.Event.TheVariants.{Serve}
use Rattle.txn_data.specs.declared.entry.Entry.{Entry}
use Rattle.txn_types.specs.History.{History}
use Rattle.law_machines.specs.Own.{StandsOver}
use Rattle.law_courses.specs.Course.{IsPart, entry_of}

-- a tablet listed at a time with no limit given, and fixed this one
abbrev pub list_at : ℕ → Option ℕ → Actor → Option ℕ → List Parts → ℕ → ℕ → ℕ → List Found → ℕ → Append → Entry
list_at k reading m own_txn paths t g limit others now append =
    entry_of (Tablet k) reading (Serve m (request.ListRead own_txn paths t g None) (reply.Listed limit others) (Some now) append)

-- such a listing, with the window up to g, stands later than `low`
pub record FixedLimit (h low : History) (k g limit : ℕ) : Type 0 where
  pub session : Actor
  pub own_txn : Option ℕ
  pub paths : List Parts
  pub time_asked : ℕ
  pub others : List Found
  pub reading : Option ℕ
  pub now : ℕ
  pub append : Append
  pub before : History
  pub stands : StandsOver (list_at k reading session own_txn paths time_asked g limit others now append) before h
  pub later : IsPart low before
