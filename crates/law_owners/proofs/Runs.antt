-- The laws of transactions and their sessions and status tablets in every run.
use Rattle.std.proofs.Common.{◌≡◌, ℕ, Some, sym, ◌∙◌, subst}
use Rattle.txn_data.specs.declared.actor.Actor.{Actor}
use Rattle.txn_data.specs.declared.config.Config.{Config}
use Rattle.txn_data.specs.declared.fate.Fate.TheVariants as fate
use Rattle.txn_data.specs.declared.request.Request.TheVariants as request
use Rattle.txn_data.specs.declared.reply.Reply.TheVariants as reply
use Rattle.txn_data.specs.declared.event.Event.{Event}
use Rattle.txn_data.specs.declared.event.Event.TheVariants.{Serve}
use Rattle.txn_types.specs.Lists.{Member}
use Rattle.txn_types.specs.History.{History}
use Rattle.law_machines.proofs.Owns.{stands_member}
use Rattle.law_clocks.proofs.Runs.{pending_promises, member_before}
use Rattle.law_messages.proofs.Rules.{GoodServe}
use Rattle.law_messages.proofs.Runs.{kept_by, good_of}
use Rattle.law_owners.specs.Owner.{IsHomedAt, Uses, IsUnused}
use Rattle.law_owners.specs.Laws.{RequestsAreHomed, IdsAreUsedOnce, PendingIsKept}
use Rattle.law_owners.proofs.Ids.{rules}
use Rattle.law_owners.proofs.Commands.{keeping}

pub requests_homed : RequestsAreHomed
requests_homed config h e run m = (kept_by (rules config) config (keeping config) h run.1).base e m

used_new : (config : Config) (before : History) (a : Actor) (event : Event) (x : ℕ) → GoodServe (rules config) before a event → Uses x event → IsUnused x before
used_new config before a (Serve from (request.Begin y isolation priority) r time append) x good uses = subst (λ (z : ℕ). IsUnused z before) uses good.new
used_new config before a (Serve from (request.Single y path op seen fates) r time append) x good uses = subst (λ (z : ℕ). IsUnused z before) uses good.new
used_new config before a event x good uses = absurd uses

pub ids_once : IdsAreUsedOnce
ids_once config h before e x run stands uses = used_new config before e.actor e.event x (good_of (rules config) config (keeping config) h before e run.1 stands) uses

-- a single write with this id
abbrev pub IsSingleOf : ℕ → Event → Type 0
IsSingleOf x (Serve from (request.Single y path op seen fates) r time append) = y ≡ x
IsSingleOf x event = ⊥

pub single_uses : (x : ℕ) (event : Event) → IsSingleOf x event → Uses x event
single_uses x (Serve from (request.Single y path op seen fates) r time append) is = is
single_uses x event is = absurd is

pub pending_kept : PendingIsKept
pending_kept config h before j k m n x t floor c tablets r time append after run stands mj is_j is_k =
    let in_h : Member j h = member_before j k before h mj stands in
    let at_j : IsHomedAt config j.actor (Serve m (request.AskFate x t) (reply.FateIs fate.Pending) time append) =
    subst (λ (ev : Event). IsHomedAt config j.actor ev) is_j (requests_homed config h j run in_h) in
    let at_k : IsHomedAt config k.actor (Serve n (request.Commit x floor tablets) r (Some c) after) =
    subst (λ (ev : Event). IsHomedAt config k.actor ev) is_k (requests_homed config h k run (stands_member k before h stands)) in
    let same : j.actor ≡ k.actor = at_j.0 ∙ sym at_k.0.1 in
    pending_promises config h before j k m n x x t floor c tablets r time append after run stands mj same is_j is_k
