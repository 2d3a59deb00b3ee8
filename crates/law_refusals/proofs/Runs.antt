-- Each refusal that a machine serves is explained, in every run.
use Rattle.std.proofs.Common.{◌≡◌, ℕ, ◌∷◌, Option, refl, ap}
use Rattle.txn_data.specs.declared.actor.Actor.{Actor}
use Rattle.txn_data.specs.declared.append.Append.{Append}
use Rattle.txn_data.specs.declared.config.Config.{Config}
use Rattle.txn_data.specs.declared.refusal.Refusal.{Refusal}
use Rattle.txn_data.specs.declared.refusal.Refusal.TheVariants as refusal
use Rattle.txn_data.specs.declared.request.Request.{Request}
use Rattle.txn_data.specs.declared.reply.Reply.TheVariants as reply
use Rattle.txn_data.specs.declared.event.Event.TheVariants.{Serve}
use Rattle.txn_data.specs.declared.entry.Entry.{Entry}
use Rattle.txn_types.specs.History.{History, own}
use Rattle.txn_types.specs.Run.{Run, Allowed, Steps}
use Rattle.law_machines.specs.Own.{StandsOver}
use Rattle.law_machines.proofs.Owns.{steps_at, stands_member}
use Rattle.law_requests.proofs.Replies.{no_memory}
use Rattle.law_refusals.specs.Laws.{RefusalsAreExplained}
use Rattle.law_refusals.proofs.Tables.{served_says}

pub allowed_last : (config : Config) (e : Entry) (h : History) → Steps config (e ∷ h) → Allowed config h e.actor e.reading e.event
unfolding Steps
allowed_last config e h steps = steps.1

not_memory : (config : Config) (h before : History) (a from : Actor) (reading time : Option ℕ) (asked : Request) (why : Refusal) (append : Append) → Run config h →
    StandsOver (record { actor = a; reading = reading; event = Serve from asked (reply.Refused why) time append }) before h → why ≡ refusal.Memory → ⊥
not_memory config h before a from reading time asked why append run stands is =
    let e : Entry = record { actor = a; reading = reading; event = Serve from asked (reply.Refused why) time append } in
    no_memory config h e from asked time append run (stands_member e before h stands) (ap (λ (w : Refusal). Serve from asked (reply.Refused w) time append) is)

pub are_explained : RefusalsAreExplained
are_explained config h before a from reading time asked why append run stands =
    let e : Entry = record { actor = a; reading = reading; event = Serve from asked (reply.Refused why) time append } in
    let ok : Allowed config before a reading (Serve from asked (reply.Refused why) time append) = allowed_last config e before (steps_at config e before h run.1 stands) in
    served_says config.lease_us a (own a before) reading asked (reply.Refused why) time append why ok.2 refl (not_memory config h before a from reading time asked why append run stands)
