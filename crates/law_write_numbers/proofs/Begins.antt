-- A begin takes an id under which nothing was written.
use Rattle.std.proofs.Common.{◌≡◌, ℕ, ◌+◌, ◌^◌, ◌<◌, Bool, true, ◌&&◌, List, ◌∷◌, Option, Some, None, Result, Ok, Err, refl, sym, ◌∙◌, ap, subst, inl, reverse, []}
use Rattle.hybrid_time.specs.Time.{least_time}
use Rattle.hybrid_time.specs.declared.time_refusal.TimeRefusal.{TimeRefusal}
use Rattle.txn_data.specs.declared.actor.Actor.TheVariants.{Status, Session}
use Rattle.txn_data.specs.declared.command.Command.TheVariants as command
use Rattle.txn_data.specs.declared.config.Config.{Config}
use Rattle.txn_data.specs.declared.refusal.Refusal.TheVariants as refusal
use Rattle.txn_data.specs.declared.request.Request.TheVariants as request
use Rattle.txn_data.specs.declared.reply.Reply.{Reply}
use Rattle.txn_data.specs.declared.reply.Reply.TheVariants as reply
use Rattle.txn_data.specs.declared.tablet_limit.TabletLimit.{TabletLimit}
use Rattle.txn_data.specs.declared.told.Told.{Told}
use Rattle.txn_data.specs.declared.told.Told.TheVariants as told
use Rattle.txn_data.specs.declared.told_refusal.ToldRefusal.{ToldRefusal}
use Rattle.txn_data.specs.declared.told_refusal.ToldRefusal.TheVariants as told_refusal
use Rattle.txn_data.specs.declared.txn_step.TxnStep.TheVariants as step
use Rattle.txn_data.specs.declared.event.Event.{Event}
use Rattle.txn_data.specs.declared.event.Event.TheVariants.{Serve}
use Rattle.txn_types.specs.History.{History}
use Rattle.txn_types.specs.Plan.{IsCluster}
use Rattle.txn_types.specs.Program.{Done, refusal_told}
use Rattle.txn_types.specs.TxnProgram.{refused, lost, txn_program}
use Rattle.txn_types.specs.Session.{Keeps, Opened, txn_id, next_meta, timed_then, begin_program, opens, opened_after}
use Rattle.txn_types.specs.Run.{Run, Steps, limits_after, may_lose_after}
use Rattle.law_machines.proofs.Owns.{member_stands}
use Rattle.law_clocks.proofs.Runs.{member_before}
use Rattle.law_messages.proofs.Rules.{Stage, kept, no_memory, entry}
use Rattle.law_messages.proofs.Safe.{Safe, Ending}
use Rattle.law_owners.specs.Owner.{Uses, IsUnused}
use Rattle.law_owners.proofs.Runs.{ids_once}
use Rattle.law_owners.proofs.Serials.{next_homed}
use Rattle.law_open_txns.specs.Transaction.{IsWriteOf, IsBeginOf}
use Rattle.law_session_order.proofs.Runs.{writes_begun}
use Rattle.law_write_numbers.specs.Laws.{IsNumbered}
use Rattle.law_write_numbers.proofs.Numbers.{all_accepted, all_none, downwards}
use Rattle.law_write_numbers.proofs.Claims.{Claim, Holds, claim_of, rules, holds_later, holds_served}

-- ## what is unused is not written under

pub numbered_write : (x k : ℕ) (event : Event) → IsNumbered x k event → IsWriteOf x event
numbered_write x k (Serve from (request.Write meta number path op read seen fates) (reply.Written w) time append) is = is.0
numbered_write x k event is = absurd is

pub begin_uses : (x : ℕ) (event : Event) → IsBeginOf x event → Uses x event
begin_uses x (Serve from (request.Begin y isolation priority) reply.Begun time append) is = is
begin_uses x event is = absurd is

unwritten : (config : Config) (g : History) (x : ℕ) → Run config g → IsUnused x g → all_accepted g x ≡ []
unwritten config g x run unused = all_none x g (λ e m k is.
    let at = member_stands e g m in
    let begun = writes_begun config g at.0 e x run at.1 (numbered_write x k e.event is) in
    unused begun.0 (member_before begun.0 e at.0 g begun.1 at.1) (begin_uses x begun.0.event begun.2))

down_none : [] ≡ downwards (reverse [])
unfolding downwards
down_none = refl

-- ## a begin

abbrev stage : Keeps → ℕ → Option ℕ → List TabletLimit → Bool → Stage
stage s priority reading limits lose = record { keeps = s; line = Some (command.Begin priority); reading = reading; limits = limits; may_lose = lose }

abbrev new_claim : ℕ → Keeps → Option Claim
new_claim i s = Some (record { txn = txn_id i (s.serial + 1); accepted = [] })

begin_kept : (config : Config) (i : ℕ) (s : Keeps) (priority : ℕ) (reading : Option ℕ) (limits : List TabletLimit) (lose : Bool) (t : Told) → s.opened ≡ None → (kept config (Session i) (stage s priority reading limits lose) t).opened ≡ opens config i s priority reading t
begin_kept config i s priority reading limits lose t none = ap (λ (o : Option Opened). opened_after config i s (command.Begin priority) reading limits t o) none

opens_holds : (config : Config) (i : ℕ) (s : Keeps) (priority : ℕ) (reading : Option ℕ) (t : Told) (g : History) → Holds g (Session i) (new_claim i s) → Holds g (Session i) (claim_of (opens config i s priority reading t))
opens_holds config i s priority (Some reading) (told.Began x at) g holds = holds
opens_holds config i s priority reading t g holds = tt

opens_none : (config : Config) (i : ℕ) (s : Keeps) (priority : ℕ) (reading : Option ℕ) (why : ToldRefusal) → None ≡ opens config i s priority reading (told.Refused why)
opens_none config i s priority (Some reading) why = refl
opens_none config i s priority None why = refl

refused_ending : (config : Config) (i : ℕ) (s : Keeps) (priority : ℕ) (reading : Option ℕ) (limits : List TabletLimit) (lose : Bool) (z h : History) (why : ToldRefusal) → s.opened ≡ None → Ending rules config (Session i) z (stage s priority reading limits lose) h (told.Refused why)
refused_ending config i s priority reading limits lose z h why none = λ g later. (
  tt,
  subst (λ (u : Option Opened). Holds g (Session i) (claim_of u)) (opens_none config i s priority reading why ∙ sym (begin_kept config i s priority reading limits lose (told.Refused why) none)) tt,
)

refused_safe : (config : Config) (i : ℕ) (s : Keeps) (priority : ℕ) (reading : Option ℕ) (limits : List TabletLimit) (lose : Bool) (z h : History) (why : ToldRefusal) → s.opened ≡ None → Safe rules config (Session i) z (stage s priority reading limits lose) h (refused why)
refused_safe config i s priority reading limits lose z h why none =
    (λ may. refused_ending config i s priority reading limits lose z h told_refusal.Memory none, refused_ending config i s priority reading limits lose z h why none)

answered : (config : Config) → IsCluster config → (i : ℕ) (s : Keeps) (priority now : ℕ) (reading : Option ℕ) (limits : List TabletLimit) (lose : Bool) (z g : History) (r : Reply) → s.opened ≡ None → Holds g (Session i) (new_claim i s) →
    Safe rules config (Session i) z (stage s priority reading limits lose) g (elim r [
      | reply.Begun ↦ Done (told.Began (txn_id i (s.serial + 1)) now)
      | reply.Refused why ↦ refused (refusal_told (Status (next_meta config i s priority).status) why)
      | _ ↦ lost
    ])
answered config cluster i s priority now reading limits lose z g reply.Begun none holds = (
  λ may. refused_ending config i s priority reading limits lose z g told_refusal.Memory none,
  λ f later. (
    tt,
    subst (λ (u : Option Opened). Holds f (Session i) (claim_of u)) (sym (begin_kept config i s priority reading limits lose (told.Began (txn_id i (s.serial + 1)) now) none))
        (opens_holds config i s priority reading (told.Began (txn_id i (s.serial + 1)) now) f (holds_later config cluster (Session i) (new_claim i s) g f later holds)),
  ),
)
answered config cluster i s priority now reading limits lose z g (reply.Refused why) none holds = refused_safe config i s priority reading limits lose z g (refusal_told (Status (next_meta config i s priority).status) why) none
answered config cluster i s priority now reading limits lose z g r none holds = refused_safe config i s priority reading limits lose z g told_refusal.Memory none

begin_asks : (config : Config) → IsCluster config → (i : ℕ) (s : Keeps) (priority now : ℕ) (reading : Option ℕ) (limits : List TabletLimit) (lose : Bool) (z h : History) → s.opened ≡ None → s.serial + 1 < 2 ^ 64 →
    Safe rules config (Session i) z (stage s priority reading limits lose) h (txn_program (step.Begin (next_meta config i s priority) now))
unfolding Steps
begin_asks config cluster i s priority now reading limits lose z h none low =
    let meta = next_meta config i s priority in
    let asked = request.Begin meta.txn meta.isolation meta.priority in (
      λ may. refused_ending config i s priority reading limits lose z h told_refusal.Memory none,
      λ g later steps base. (
        tt,
        λ own r time append allowed after.
            let e = entry (Status meta.status) own (Serve (Session i) asked r time append) in
            let all : Steps config (e ∷ g) = (steps, allowed) in
            let unused = ids_once config (e ∷ g) g e meta.txn (cluster, all) (inl (refl, refl)) refl in
            answered config cluster i s priority now reading (limits_after limits (Status meta.status) r) (lose && may_lose_after (Session i) r) z (e ∷ g) r none
            (holds_served (Session i) (new_claim i s) g (Status meta.status) own asked r time append tt ((next_homed config i s priority low).0, unwritten config g meta.txn (cluster, steps) unused ∙ down_none)),
        λ own k is after. cc,
        refused_safe config i s priority reading (limits_after limits (Status meta.status) no_memory) (lose && may_lose_after (Session i) no_memory) z g (refusal_told (Status meta.status) refusal.Memory) none,
      ),
    )

begin_timed : (config : Config) → IsCluster config → (i : ℕ) (s : Keeps) (priority reading : ℕ) (limits : List TabletLimit) (lose : Bool) (z h : History) (time : Result ℕ TimeRefusal) → s.opened ≡ None → s.serial + 1 < 2 ^ 64 →
    Safe rules config (Session i) z (stage s priority (Some reading) limits lose) h (timed_then i reading (λ now. txn_program (step.Begin (next_meta config i s priority) now)) time)
    × ((t : Told) → timed_then i reading (λ now. txn_program (step.Begin (next_meta config i s priority) now)) time ≡ Done t → Ending rules config (Session i) z (stage s priority None limits lose) h t)
begin_timed config cluster i s priority reading limits lose z h (Err why) none low = (
  refused_safe config i s priority (Some reading) limits lose z h (told_refusal.ClockRange (Session i) reading) none,
  λ t is.
      let same : told.Refused (told_refusal.ClockRange (Session i) reading) ≡ t = cc in
      subst (λ (u : Told). Ending rules config (Session i) z (stage s priority None limits lose) h u) same (refused_ending config i s priority None limits lose z h (told_refusal.ClockRange (Session i) reading) none),
)
begin_timed config cluster i s priority reading limits lose z h (Ok now) none low = (begin_asks config cluster i s priority now (Some reading) limits lose z h none low, λ t is. cc)

pub begin_safe : (config : Config) → IsCluster config → (i : ℕ) (s : Keeps) (priority : ℕ) (limits : List TabletLimit) (z h : History) → s.opened ≡ None → s.serial + 1 < 2 ^ 64 →
    Safe rules config (Session i) z (stage s priority None limits true) h (begin_program config i s priority)
begin_safe config cluster i s priority limits z h none low = (
  λ may. refused_ending config i s priority None limits true z h told_refusal.Memory none,
  λ reading g later own. begin_timed config cluster i s priority reading limits true z g (least_time s.last 0 reading) none low,
)
