-- The laws of what was heard in every run.
use Rattle.std.proofs.Common.{ℕ, List, subst, ◌⊎◌}
use Rattle.txn_data.specs.declared.actor.Actor.{Actor}
use Rattle.txn_data.specs.declared.config.Config.{Config}
use Rattle.txn_data.specs.declared.fate.Fate.TheVariants as fate
use Rattle.txn_data.specs.declared.fate_of.FateOf.{FateOf}
use Rattle.txn_data.specs.declared.request.Request.TheVariants as request
use Rattle.txn_data.specs.declared.event.Event.{Event}
use Rattle.txn_data.specs.declared.event.Event.TheVariants.{Serve}
use Rattle.txn_data.specs.declared.entry.Entry.{Entry}
use Rattle.txn_types.specs.History.{History}
use Rattle.txn_types.specs.Run.{Run}
use Rattle.law_machines.specs.Own.{StandsOver}
use Rattle.law_machines.proofs.Owns.{run_until}
use Rattle.law_messages.proofs.Rules.{GoodServe}
use Rattle.law_messages.proofs.Runs.{good_of}
use Rattle.law_fates.proofs.Runs.{told_committed}
use Rattle.law_carried_fates.specs.Laws.{WasTold, Carries, AppliesAt, CleansOf, NotesOf, FatesWereTold, AppliesAreOfCommits, CleansAreOfEnded, NotesFollowApplies}
use Rattle.law_carried_fates.proofs.Heard.{AllTold, WasApplied, rules}
use Rattle.law_carried_fates.proofs.Commands.{keeping}

good_at : (config : Config) (h before : History) (e : Entry) → Run config h → StandsOver e before h → GoodServe rules before e.actor e.event
good_at config h before e run stands = good_of rules config (keeping config) h before e run.1 stands

carried : (before : History) (a : Actor) (event : Event) (fates : List FateOf) → GoodServe rules before a event → Carries event fates → AllTold before fates
carried before a (Serve from (request.Write meta number path op read seen given) r time append) fates good is = subst (λ (fs : List FateOf). AllTold before fs) is good
carried before a (Serve from (request.Single x path op seen given) r time append) fates good is = subst (λ (fs : List FateOf). AllTold before fs) is good
carried before a event fates good is = absurd is

pub fates_told : FatesWereTold
fates_told config h before e fates f run stands is m = carried before e.actor e.event fates (good_at config h before e run stands) is f m

applied : (before : History) (a : Actor) (event : Event) (x c : ℕ) → GoodServe rules before a event → AppliesAt x c event → WasTold before x (fate.Committed c)
applied before a (Serve from (request.Apply y at) r time append) x c good is =
    subst (λ (d : ℕ). WasTold before x (fate.Committed d)) is.1 (subst (λ (z : ℕ). WasTold before z (fate.Committed at)) is.0 good)
applied before a event x c good is = absurd is

pub applies_committed : AppliesAreOfCommits
applies_committed config h before e x c run stands is =
    let told = applied before e.actor e.event x c (good_at config h before e run stands) is in
    told_committed config before told.0 x c (run_until config h before e run stands) told.1 told.2

cleaned : (before : History) (a : Actor) (event : Event) (x : ℕ) → GoodServe rules before a event → CleansOf x event → WasTold before x fate.Aborted ⊎ WasTold before x fate.Absent
cleaned before a (Serve from (request.Clean y) r time append) x good is = subst (λ (z : ℕ). WasTold before z fate.Aborted ⊎ WasTold before z fate.Absent) is good
cleaned before a event x good is = absurd is

pub cleans_ended : CleansAreOfEnded
cleans_ended config h before e x run stands is = cleaned before e.actor e.event x (good_at config h before e run stands) is

noted : (before : History) (a : Actor) (event : Event) (x k : ℕ) → GoodServe rules before a event → NotesOf x k event → WasApplied before x k
noted before a (Serve from (request.Applied y tablet) r time append) x k good is = subst (λ (j : ℕ). WasApplied before x j) is.1 (subst (λ (z : ℕ). WasApplied before z tablet) is.0 good)
noted before a event x k good is = absurd is

pub notes_applied : NotesFollowApplies
notes_applied config h before e x k run stands is = noted before e.actor e.event x k (good_at config h before e run stands) is
