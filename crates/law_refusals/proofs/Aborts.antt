-- What aborted a record: a Resolve of a higher priority that stands in the log of its status tablet.
use Rattle.std.proofs.Common.{◌≡◌, ℕ, ◌<◌, Bool, true, false, [], ◌∷◌, Option, Some, None, nat_eq, nat_lt, refl, sym, ◌∙◌, subst, inl, inr, ◌⊎◌, if◌then◌else◌}
use Rattle.std.proofs.lemmas.Bool.{ltb-true, and_from}
use Rattle.txn_data.specs.declared.actor.Actor.{Actor}
use Rattle.txn_data.specs.declared.actor.Actor.TheVariants.{Status}
use Rattle.txn_data.specs.declared.append.Append.{Append}
use Rattle.txn_data.specs.declared.config.Config.{Config}
use Rattle.txn_data.specs.declared.fate.Fate.TheVariants as fate
use Rattle.txn_data.specs.declared.request.Request.TheVariants as request
use Rattle.txn_data.specs.declared.reply.Reply.{Reply}
use Rattle.txn_data.specs.declared.reply.Reply.TheVariants as reply
use Rattle.txn_data.specs.declared.event.Event.{Event}
use Rattle.txn_data.specs.declared.event.Event.TheVariants.{Serve}
use Rattle.txn_data.specs.declared.entry.Entry.{Entry}
use Rattle.txn_types.specs.History.{History, own, event_counts, next_restart_kept, counting_before, was_logged}
use Rattle.txn_types.specs.Clock.{told_only, logged, down_since}
use Rattle.txn_types.specs.Status.{Record, NoRecord, Pending, Committed, AbortedBy, record_after, record_over, record_of, resolved, status_standing}
use Rattle.txn_types.specs.Run.{Run, Steps, Serves}
use Rattle.txn_types.specs.Cause.{ResolvesHigher, ResolvedBefore, WasResolved}
use Rattle.law_machines.specs.Own.{StandsOver, ServesNext}
use Rattle.law_machines.proofs.Basics.{eq_true, same_cases, test_cases}
use Rattle.law_machines.proofs.Counted.{own_all, counting_own, own_counting}
use Rattle.law_machines.proofs.Owns.{allowed_serves, run_until}
use Rattle.law_machines.proofs.Landed as landed
use Rattle.law_fates.proofs.Table.{IsLogged, logged_is}

-- ## the entry that decides a record

-- a Resolve of this transaction for that one
abbrev Resolves : ℕ → ℕ → Event → Type 0
Resolves x by (Serve from (request.Resolve y z priority) r time append) = (y ≡ x) × (z ≡ by)
Resolves x by event = ⊥

-- another entry leaves no record that is aborted where there was none
other_choice : (b : Bool) (by : ℕ) (q new : Record) → (new ≡ AbortedBy by → ⊥) → (if b then new else q) ≡ AbortedBy by → q ≡ AbortedBy by
other_choice true by q new never is = absurd (never is)
other_choice false by q new never is = is

resolve_choice : (b : Bool) (x y z by : ℕ) (q : Record) → nat_eq y x ≡ b → (if b then AbortedBy z else q) ≡ AbortedBy by → (q ≡ AbortedBy by) ⊎ ((y ≡ x) × (z ≡ by))
resolve_choice true x y z by q same is = let who : z ≡ by = cc in inr (eq_true y x same, who)
resolve_choice false x y z by q same is = inl is

decides : (x by : ℕ) (q : Record) (event : Event) → record_after x q event ≡ AbortedBy by → (q ≡ AbortedBy by) ⊎ Resolves x by event
decides x by q (Serve from (request.Begin y isolation priority) r time append) is = inl (other_choice (nat_eq y x) by q (Pending priority) (λ e. cc) is)
decides x by q (Serve from (request.Resolve y z priority) r time append) is = resolve_choice (nat_eq y x) x y z by q refl is
decides x by q (Serve from (request.Commit y floor tablets) r (Some c) append) is = inl (other_choice (nat_eq y x) by q (Committed c tablets) (λ e. cc) is)
decides x by q (Serve from (request.Abort y) r time append) is = inl (other_choice (nat_eq y x) by q NoRecord (λ e. cc) is)
decides x by q (Serve from (request.Applied y tablet) r time append) is = inl (other_choice (nat_eq y x) by q NoRecord (λ e. cc) is)
decides x by q event is = inl is

-- ## a Resolve that was logged found a lower priority

lower_choice : (b fails : Bool) → IsLogged (if b then logged fails true None (reply.FateIs fate.Aborted) else told_only (reply.FateIs fate.Pending)).append → b ≡ true
lower_choice true fails is = refl
lower_choice false fails is = absurd is

-- the record was Pending with a priority below this one
abbrev WasLower : ℕ → Record → Type 0
WasLower priority q = (own_priority : ℕ) × (q ≡ Pending own_priority) × (own_priority < priority)

pending_lower : (fails : Bool) (priority : ℕ) (q : Record) → IsLogged (resolved fails priority q).append → WasLower priority q
pending_lower fails priority (Pending own_priority) is = (own_priority, refl, ltb-true own_priority priority (lower_choice (nat_lt own_priority priority) fails is))
pending_lower fails priority (Committed c tablets) is = absurd is
pending_lower fails priority (AbortedBy by) is = absurd is
pending_lower fails priority NoRecord is = absurd is

up_lower : (d : Option ℕ) (fails : Bool) (priority : ℕ) (q : Record) → IsLogged (status_standing d (resolved fails priority q)).append → WasLower priority q
up_lower (Some since) fails priority q is = absurd is
up_lower None fails priority q is = pending_lower fails priority q is

served_lower : (lease j : ℕ) (o : History) (reading : Option ℕ) (x by priority : ℕ) (r : Reply) (time : Option ℕ) (append : Append) →
    Serves lease (Status j) o reading (request.Resolve x by priority) r time append → IsLogged append → WasLower priority (record_of x o)
served_lower lease j o reading x by priority r time append served is =
    up_lower (down_since o) served.fails priority (record_of x o) (subst (λ (a : Append). IsLogged a) served.logged is)

higher : (lease j x by : ℕ) (h : History) (reading : Option ℕ) (event : Event) → ServesNext lease (Status j) (own (Status j) h) reading event → was_logged event ≡ true → Resolves x by event →
    ResolvesHigher x by (Status j) event h
higher lease j x by h reading (Serve from (request.Resolve y z priority) r time append) served logs is =
    let low = served_lower lease j (own (Status j) h) reading y z priority r time append served (logged_is from (request.Resolve y z priority) r time append logs) in
    (is.0, is.1, subst (λ (w : ℕ). WasLower priority (record_of w (own (Status j) h))) is.0 low)
higher lease j x by h reading event served logs is = absurd is

-- ## it stands in the log

-- with one more entry, which may count
step_choice : (a : Actor) (x by : ℕ) (counts : Bool) (e : Entry) (rest : History) → record_over x (landed.logged (own a (if counts then e ∷ rest else rest))) ≡ AbortedBy by →
    (record_over x (landed.logged (own a rest)) ≡ AbortedBy by) ⊎ ((counts ≡ true) × (e.actor ≡ a) × (was_logged e.event ≡ true) × Resolves x by e.event)
unfolding record_over
step_choice a x by false e rest is = inl is
step_choice a x by true e rest is = elim (same_cases e.actor a) [
  | inl s ↦ elim (test_cases (was_logged e.event)) [
    | inl logs ↦ elim (decides x by (record_over x (landed.logged (own a rest))) e.event (rw (s.0, logs) at is)) [
      | inl old ↦ inl old
      | inr new ↦ inr (refl, s.1, logs, new)
    ]
    | inr none ↦ inl (rw (s.0, none) at is)
  ]
  | inr s ↦ inl (rw s.0 at is)
]

resolved_in : (config : Config) (j x by : ℕ) (later h : History) → Steps config h → record_over x (landed.logged (own (Status j) (counting_before later h))) ≡ AbortedBy by → ResolvedBefore later x by (Status j) h
unfolding Steps counting_before record_over ResolvedBefore
resolved_in config j x by later [] steps is = cc
resolved_in config j x by later (e ∷ h) steps is =
    elim (step_choice (Status j) x by (event_counts e.event (next_restart_kept e.actor later)) e (counting_before (e ∷ later) h) is) [
      | inl old ↦ inr (resolved_in config j x by (e ∷ later) h steps.0 old)
      | inr new ↦
          let served : ServesNext config.lease_us (Status j) (own (Status j) h) e.reading e.event =
          subst (λ (b : Actor). ServesNext config.lease_us b (own b h) e.reading e.event) new.1 (allowed_serves config h e.actor e.reading e.event steps.1) in
          inl (
            new.1,
            and_from (event_counts e.event (next_restart_kept e.actor later)) (was_logged e.event) new.0 new.2,
            higher config.lease_us j x by h e.reading e.event served new.2 new.3,
          )
    ]

-- what aborted a record is a Resolve of a higher priority that stands in its log
pub aborted_resolved : (config : Config) (h b : History) (j x by : ℕ) (e : Entry) →
    Run config h → StandsOver e b h → record_of x (own (Status j) b) ≡ AbortedBy by → WasResolved x by (Status j) b
aborted_resolved config h b j x by e run stands is =
    let before = run_until config h b e run stands in
    let same = counting_own (Status j) (own (Status j) b) (own_all (Status j) b) ∙ sym (own_counting (Status j) b) in
    resolved_in config j x by [] b before.1 (subst (λ (l : History). record_over x (landed.logged l) ≡ AbortedBy by) same is)
