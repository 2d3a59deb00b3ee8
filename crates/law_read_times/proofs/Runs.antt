-- The laws of read times in every run.
use Rattle.std.proofs.Common.{ℕ, Option}
use Rattle.txn_data.specs.declared.actor.Actor.{Actor}
use Rattle.txn_data.specs.declared.config.Config.{Config}
use Rattle.txn_data.specs.declared.request.Request.TheVariants as request
use Rattle.txn_data.specs.declared.event.Event.{Event}
use Rattle.txn_data.specs.declared.event.Event.TheVariants.{Serve, Tell}
use Rattle.txn_types.specs.History.{History}
use Rattle.txn_types.specs.Run.{Run}
use Rattle.law_machines.specs.Own.{StandsOver}
use Rattle.law_messages.proofs.Rules.{GoodServe, entry}
use Rattle.law_messages.proofs.Runs.{good_of, ends_of}
use Rattle.law_read_times.specs.Laws.{IsToldAt, ReadsAreUp, ReadsAsOpen, WritesReadAsOpen}
use Rattle.law_read_times.proofs.Told.{rules, keeping}

up_event : (config : Config) (h before : History) (m : Actor) (reading : Option ℕ) (event : Event) → Run config h → StandsOver (entry m reading event) before h → IsToldAt config before m event
up_event config h before m reading (Tell number t) run stands = ends_of (rules config) config (keeping config) h before m reading number t run.1 stands
up_event config h before m reading event run stands = tt

pub reads_up : ReadsAreUp
reads_up config h before e run stands = up_event config h before e.actor e.reading e.event run stands

as_open : (config : Config) (before : History) (a : Actor) (event : Event) → GoodServe (rules config) before a event → ReadsAsOpen config before event
as_open config before a (Serve from (request.Write meta number path op read seen fates) r time append) good = good
as_open config before a event good = tt

pub writes_as_open : WritesReadAsOpen
writes_as_open config h before e run stands = as_open config before e.actor e.event (good_of (rules config) config (keeping config) h before e run.1 stands)
