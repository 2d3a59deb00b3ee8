-- The law of what writes carry in every run.
use Rattle.std.proofs.Common.{List, subst}
use Rattle.txn_data.specs.declared.actor.Actor.{Actor}
use Rattle.txn_data.specs.declared.fate_of.FateOf.{FateOf}
use Rattle.txn_data.specs.declared.request.Request.TheVariants as request
use Rattle.txn_data.specs.declared.event.Event.{Event}
use Rattle.txn_data.specs.declared.event.Event.TheVariants.{Serve}
use Rattle.txn_types.specs.History.{History}
use Rattle.law_messages.proofs.Rules.{GoodServe}
use Rattle.law_messages.proofs.Runs.{good_of}
use Rattle.law_carried_fates.specs.Laws.{Carries}
use Rattle.law_resolving.specs.Laws.{FatesAreOfBegun}
use Rattle.law_resolving.proofs.Resolved.{AllTold, rules}
use Rattle.law_resolving.proofs.Commands.{keeping}

carried : (before : History) (a : Actor) (event : Event) (fates : List FateOf) → GoodServe rules before a event → Carries event fates → AllTold before fates
carried before a (Serve from (request.Write meta number path op read seen given) r time append) fates good is = subst (λ (fs : List FateOf). AllTold before fs) is good
carried before a (Serve from (request.Single x path op seen given) r time append) fates good is = subst (λ (fs : List FateOf). AllTold before fs) is good
carried before a event fates good is = absurd is

pub fates_begun : FatesAreOfBegun
fates_begun config h before e fates f run stands is m = carried before e.actor e.event fates (good_of rules config (keeping config run.0) h before e run.1 stands) is f m
