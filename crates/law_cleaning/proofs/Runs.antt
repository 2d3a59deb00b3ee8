-- The law of passes in every run.
use Rattle.std.proofs.Common.{ℕ, subst}
use Rattle.txn_data.specs.declared.actor.Actor.{Actor}
use Rattle.txn_data.specs.declared.request.Request.TheVariants as request
use Rattle.txn_data.specs.declared.event.Event.{Event}
use Rattle.txn_data.specs.declared.event.Event.TheVariants.{Serve}
use Rattle.txn_types.specs.History.{History}
use Rattle.law_messages.proofs.Rules.{GoodServe}
use Rattle.law_messages.proofs.Runs.{good_of}
use Rattle.law_carried_fates.specs.Laws.{CleansOf}
use Rattle.law_cleaning.specs.Laws.{ToldEnded, CleansAreOfBegun}
use Rattle.law_cleaning.proofs.Passes.{rules}
use Rattle.law_cleaning.proofs.Commands.{keeping}

cleaned : (before : History) (a : Actor) (event : Event) (x : ℕ) → GoodServe rules before a event → CleansOf x event → ToldEnded before x
cleaned before a (Serve from (request.Clean y) r time append) x good is = subst (λ (z : ℕ). ToldEnded before z) is good
cleaned before a event x good is = absurd is

pub cleans_begun : CleansAreOfBegun
cleans_begun config h before e x run stands is = cleaned before e.actor e.event x (good_of rules config (keeping config run.0) h before e run.1 stands) is
