-- A machine whose append failed is down: it takes no time and logs nothing until its restart.
use Rattle.std.proofs.Common.{◌≡◌, ℕ, Bool, [], ◌∷◌, Option, Some, None, length, refl, sym, ◌∙◌, ap, subst}
use Rattle.txn_data.specs.declared.actor.Actor.{Actor}
use Rattle.txn_data.specs.declared.actor.Actor.TheVariants.{Tablet}
use Rattle.txn_data.specs.declared.append.Append.{Append}
use Rattle.txn_data.specs.declared.append.Append.TheVariants.{Nothing, Took, Failed}
use Rattle.txn_data.specs.declared.request.Request.{Request}
use Rattle.txn_data.specs.declared.request.Request.TheVariants as request
use Rattle.txn_data.specs.declared.reply.Reply.{Reply}
use Rattle.txn_data.specs.declared.event.Event.{Event}
use Rattle.txn_data.specs.declared.event.Event.TheVariants.{Start, Ask, Serve, Hear, Tell, Restarted}
use Rattle.txn_data.specs.declared.entry.Entry.{Entry}
use Rattle.txn_types.specs.Lists.{or_zero, or_else}
use Rattle.txn_types.specs.History.{History}
use Rattle.txn_types.specs.Clock.{down_since, down_after}
use Rattle.txn_types.specs.Tablet.{tablet_answer}
use Rattle.txn_types.specs.Status.{status_answer}
use Rattle.txn_types.specs.Run.{Serves, machine_answer}
use Rattle.law_machines.specs.Own.{piece, piece_after, ServesNext, ServesAll}

abbrev pub IsSome : {A : Type 0} → Option A → Type 0
IsSome (Some x) = Unit {0}
IsSome None = ⊥

-- while there is a piece, nothing is logged and no time is taken
abbrev pub QuietWith : Option Entry → Event → Type 0
QuietWith None event = Unit {0}
QuietWith (Some p) (Serve from asked r time append) = (time ≡ None) × (append ≡ Nothing)
QuietWith (Some p) event = Unit {0}

unfoldable pub Orderly : History → Type 0
Orderly [] = Unit {0}
Orderly (e ∷ o) = Orderly o × QuietWith (piece o) e.event

or_else_some : (d : Option ℕ) (n : ℕ) → IsSome (or_else d (Some n))
or_else_some None n = tt
or_else_some (Some m) n = tt

down_more : (d : Option ℕ) (n : ℕ) (from : Actor) (asked : Request) (r : Reply) (time : Option ℕ) (append : Append) → IsSome d → IsSome (down_after d n (Serve from asked r time append))
down_more None n from asked r time append some = absurd some
down_more (Some m) n from asked r time Failed some = tt
down_more (Some m) n from request.Restart r time append some = tt
down_more (Some m) n from asked r time append some = some

fell : (d : Option ℕ) (n : ℕ) (from : Actor) (asked : Request) (r : Reply) (time : Option ℕ) → IsSome (down_after d n (Serve from asked r time Failed))
fell None n from asked r time = tt
fell (Some m) n from asked r time = tt

down_event : (q : Option Entry) (d : Option ℕ) (n : ℕ) (e : Entry) (event : Event) → (IsSome q → IsSome d) → IsSome (piece_after q e event) → IsSome (down_after d n event)
down_event q d n e (Serve from asked r time Failed) before some = fell d n from asked r time
down_event q d n e (Serve from asked r time Nothing) before some = down_more d n from asked r time Nothing (before some)
down_event q d n e (Serve from asked r time Took) before some = down_more d n from asked r time Took (before some)
down_event q d n e (Restarted from kept) before some = absurd some
down_event q d n e (Start number line) before some = before some
down_event q d n e (Ask to asked) before some = before some
down_event q d n e (Hear from r) before some = before some
down_event q d n e (Tell number t) before some = before some

-- where there is a piece, the machine is down
pub down_with : (o : History) → IsSome (piece o) → IsSome (down_since o)
unfolding piece down_since
down_with [] some = absurd some
down_with (e ∷ o) some = down_event (piece o) (down_since o) (length (e ∷ o)) e e.event (down_with o) some

some_is : {A : Type 0} (d : Option A) → IsSome d → (x : A) × (d ≡ Some x)
some_is None some = absurd some
some_is (Some x) some = (x, refl)

-- a machine that is down takes no time and logs nothing
silent_tablet : (lease : ℕ) (o : History) (fails : Bool) (reading : ℕ) (asked : Request) (n : ℕ) → down_since o ≡ Some n →
    ((tablet_answer lease o fails reading asked).time ≡ None) × ((tablet_answer lease o fails reading asked).append ≡ Nothing)
silent_tablet lease o fails reading request.Restart n is = (refl, refl)
silent_tablet lease o fails reading asked n is = rw is (refl, refl)

silent_status : (lease : ℕ) (o : History) (fails : Bool) (reading : ℕ) (asked : Request) (n : ℕ) → down_since o ≡ Some n →
    ((status_answer lease o fails reading asked).time ≡ None) × ((status_answer lease o fails reading asked).append ≡ Nothing)
silent_status lease o fails reading request.Restart n is = (refl, refl)
silent_status lease o fails reading asked n is = rw is (refl, refl)

silent : (lease : ℕ) (a : Actor) (o : History) (fails : Bool) (reading : ℕ) (asked : Request) (n : ℕ) → down_since o ≡ Some n →
    ((machine_answer lease a o fails reading asked).time ≡ None) × ((machine_answer lease a o fails reading asked).append ≡ Nothing)
silent lease (Tablet k) o fails reading asked n is = silent_tablet lease o fails reading asked n is
silent lease a o fails reading asked n is = silent_status lease o fails reading asked n is

quiet_served : (lease : ℕ) (a : Actor) (o : History) (reading : Option ℕ) (from : Actor) (asked : Request) (r : Reply) (time : Option ℕ) (append : Append) (q : Option Entry) →
    (IsSome q → IsSome (down_since o)) → Serves lease a o reading asked r time append → QuietWith q (Serve from asked r time append)
quiet_served lease a o reading from asked r time append None down served = tt
quiet_served lease a o reading from asked r time append (Some p) down served =
    let d = some_is (down_since o) (down tt) in
    let s = silent lease a o served.fails (or_zero reading) asked d.0 d.1 in
    (served.took ∙ s.0, served.logged ∙ s.1)

quiet_other : (q : Option Entry) (event : Event) → ((p : Entry) → QuietWith (Some p) event) → QuietWith q event
quiet_other None event quiet = tt
quiet_other (Some p) event quiet = quiet p

pub quiet_next : (lease : ℕ) (a : Actor) (o : History) (reading : Option ℕ) (event : Event) → ServesNext lease a o reading event → QuietWith (piece o) event
quiet_next lease a o reading (Serve from asked r time append) served = quiet_served lease a o reading from asked r time append (piece o) (down_with o) served
quiet_next lease a o reading (Restarted from kept) served = quiet_other (piece o) (Restarted from kept) (λ p. tt)
quiet_next lease a o reading (Start number line) served = quiet_other (piece o) (Start number line) (λ p. tt)
quiet_next lease a o reading (Ask to asked) served = quiet_other (piece o) (Ask to asked) (λ p. tt)
quiet_next lease a o reading (Hear from r) served = quiet_other (piece o) (Hear from r) (λ p. tt)
quiet_next lease a o reading (Tell number t) served = quiet_other (piece o) (Tell number t) (λ p. tt)

pub orderly : (lease : ℕ) (a : Actor) (o : History) → ServesAll lease a o → Orderly o
unfolding ServesAll Orderly
orderly lease a [] all = tt
orderly lease a (e ∷ o) all = (orderly lease a o all.0, quiet_next lease a o e.reading e.event all.2)

-- a piece is an entry whose append failed
abbrev pub HasFailed : Event → Type 0
HasFailed (Serve from asked r time Failed) = Unit {0}
HasFailed event = ⊥

piece_event : (q : Option Entry) (e p : Entry) (event : Event) → e.event ≡ event → (q ≡ Some p → HasFailed p.event) → piece_after q e event ≡ Some p → HasFailed p.event
piece_event q e p (Serve from asked r time Failed) same before is =
    let entry : e ≡ p = cc in
    subst (λ (ev : Event). HasFailed ev) (sym same ∙ ap (λ (x : Entry). x.event) entry) tt
piece_event q e p (Serve from asked r time Nothing) same before is = before is
piece_event q e p (Serve from asked r time Took) same before is = before is
piece_event q e p (Restarted from kept) same before is = cc
piece_event q e p (Start number line) same before is = before is
piece_event q e p (Ask to asked) same before is = before is
piece_event q e p (Hear from r) same before is = before is
piece_event q e p (Tell number t) same before is = before is

pub piece_failed : (o : History) (p : Entry) → piece o ≡ Some p → HasFailed p.event
unfolding piece
piece_failed [] p is = cc
piece_failed (e ∷ o) p is = piece_event (piece o) e p e.event refl (piece_failed o p) is

none_is : {A : Type 0} (d : Option A) → (IsSome d → ⊥) → d ≡ None
none_is None never = refl
none_is (Some x) never = absurd (never tt)

-- a machine that is up has no piece
pub no_piece : (o : History) → down_since o ≡ None → piece o ≡ None
no_piece o up = none_is (piece o) (λ some. subst (λ (d : Option ℕ). IsSome d) up (down_with o some))
