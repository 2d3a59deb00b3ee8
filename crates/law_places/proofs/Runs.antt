-- The law of places in every run.
use Rattle.txn_data.specs.declared.actor.Actor.{Actor}
use Rattle.txn_data.specs.declared.request.Request.TheVariants as request
use Rattle.txn_data.specs.declared.event.Event.{Event}
use Rattle.txn_data.specs.declared.event.Event.TheVariants.{Serve}
use Rattle.txn_types.specs.History.{History}
use Rattle.law_messages.proofs.Rules.{GoodServe}
use Rattle.law_messages.proofs.Runs.{good_of}
use Rattle.law_places.specs.Laws.{IsPlaced, WritesArePlaced}
use Rattle.law_places.proofs.Placed.{rules, keeping}

placed : (before : History) (a : Actor) (event : Event) → GoodServe rules before a event → IsPlaced before a event
placed before a (Serve from (request.Write meta number path op read seen fates) r time append) good = good
placed before a (Serve from (request.Single x path op seen fates) r time append) good = good
placed before a event good = tt

pub writes_placed : WritesArePlaced
writes_placed config h before e run stands = placed before e.actor e.event (good_of rules config (keeping config) h before e run.1 stands)
