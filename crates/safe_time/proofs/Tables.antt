-- What one more entry of an actor does to its clock.
use Rattle.std.proofs.Common.{◌≡◌, ℕ, ◌+◌, Bool, true, false, cond, max, List, [], ◌∷◌, ◌++◌, Option, Some, None, Ok, refl, sym, ap, ◌∙◌}
use Rattle.hybrid_time.specs.Time.{micros_of}
use Rattle.txn_data.specs.declared.actor.Actor.{Actor}
use Rattle.txn_data.specs.declared.append.Append.{Append}
use Rattle.txn_data.specs.declared.append.Append.TheVariants.{Nothing, Took, Failed}
use Rattle.txn_data.specs.declared.request.Request.{Request}
use Rattle.txn_data.specs.declared.reply.Reply.{Reply}
use Rattle.txn_data.specs.declared.event.Event.{Event}
use Rattle.txn_data.specs.declared.event.Event.TheVariants.{Serve, Restarted}
use Rattle.txn_data.specs.declared.entry.Entry.{Entry}
use Rattle.txn_types.specs.Lists.{or_else}
use Rattle.txn_types.specs.History.{History, same_actor, kept_by, next_restart_kept, counting_before, counting}
use Rattle.txn_types.specs.Clock.{lease_due, lease_with, lease_over, lease_end, last_time, has_given}
use Rattle.safe_time.specs.declared.step.Step.{Step}
use Rattle.safe_time.specs.ActorClock.{ClockState, served, taken, restarted, clock_of}
use Rattle.safe_time.proofs.Courses.{served_is}

abbrev entry : Actor → Option ℕ → Event → Entry
entry a reading ev = record { actor = a; reading = reading; event = ev }

-- a Serve behind all others decides nothing of what failed
no_restart : (b a : Actor) (reading : Option ℕ) (from : Actor) (asked : Request) (r : Reply) (time : Option ℕ) (append : Append) (later : List Entry)
    → next_restart_kept b (later ++ entry a reading (Serve from asked r time append) ∷ []) ≡ next_restart_kept b later
unfolding next_restart_kept
no_restart b a reading from asked r time append [] =
    elim (same_actor a b) as (λ (s : Bool). cond s (next_restart_kept b []) (next_restart_kept b []) ≡ next_restart_kept b []) [
      | true ↦ refl
      | false ↦ refl
    ]
no_restart b a reading from asked r time append (e ∷ later) =
    ap (λ (k : Bool). cond (same_actor e.actor b) (kept_by e.event k) k) (no_restart b a reading from asked r time append later)

counting_same : (a : Actor) (reading : Option ℕ) (from : Actor) (asked : Request) (r : Reply) (time : Option ℕ) (append : Append) (later : List Entry) (h : History)
    → counting_before (later ++ entry a reading (Serve from asked r time append) ∷ []) h ≡ counting_before later h
unfolding counting_before
counting_same a reading from asked r time append later [] = refl
counting_same a reading from asked r time append later (e ∷ h) =
    let rest = counting_same a reading from asked r time append (e ∷ later) h in
    let kept = no_restart e.actor a reading from asked r time append later in
    rw (kept, rest) refl

counting_taken : (a : Actor) (reading : Option ℕ) (from : Actor) (asked : Request) (r : Reply) (time : Option ℕ) (append : Append) (h : History) → (append ≡ Failed → ⊥)
    → counting (entry a reading (Serve from asked r time append) ∷ h) ≡ entry a reading (Serve from asked r time append) ∷ counting h
unfolding counting_before
counting_taken a reading from asked r time Nothing h went = ap (λ (cs : History). entry a reading (Serve from asked r time Nothing) ∷ cs) (counting_same a reading from asked r time Nothing [] h)
counting_taken a reading from asked r time Took h went = ap (λ (cs : History). entry a reading (Serve from asked r time Took) ∷ cs) (counting_same a reading from asked r time Took [] h)
counting_taken a reading from asked r time Failed h went = absurd (went refl)

lease_taken : (lease : ℕ) (a : Actor) (reading : Option ℕ) (from : Actor) (asked : Request) (r : Reply) (time : Option ℕ) (append : Append) (h : History) → (append ≡ Failed → ⊥)
    → lease_end lease (entry a reading (Serve from asked r time append) ∷ h) ≡ lease_over lease (entry a reading (Serve from asked r time append) ∷ counting h)
lease_taken lease a reading from asked r time append h went = ap (lease_over lease) (counting_taken a reading from asked r time append h went)

due_is : (lease time : ℕ) (end : Option ℕ) → lease_with lease end time ≡ or_else (cond (lease_due end time) (Some (micros_of time + lease)) None) end
due_is lease time end =
    elim (lease_due end time) as (λ (b : Bool). cond b (Some (micros_of time + lease)) end ≡ or_else (cond b (Some (micros_of time + lease)) None) end) [
      | true ↦ refl
      | false ↦ refl
    ]

abbrev clock : ℕ → ℕ → Bool → Option ℕ → ClockState
clock lease last given until = record { lease = lease; last = last; given = given; until = until }

pub clock_taken : (lease : ℕ) (h : History) (reading floor : ℕ) (tick : Bool) (step : Step) → served (clock_of lease h) reading floor tick ≡ Ok step
    → (a : Actor) (read : Option ℕ) (from : Actor) (asked : Request) (r : Reply) (append : Append) → (append ≡ Failed → ⊥)
    → clock_of lease (entry a read (Serve from asked r (Some step.time) append) ∷ h) ≡ taken (clock_of lease h) step
unfolding last_time has_given lease_over
clock_taken lease h reading floor tick step e a read from asked r append went =
    let is = served_is (clock_of lease h) reading floor tick step e in
    let until : lease_end lease (entry a read (Serve from asked r (Some step.time) append) ∷ h) ≡ or_else step.lease (lease_end lease h) =
    lease_taken lease a read from asked r (Some step.time) append h went ∙ due_is lease step.time (lease_end lease h) ∙ ap (λ (l : Option ℕ). or_else l (lease_end lease h)) (sym is.lease) in
    ap (clock lease (max (last_time h) step.time) true) until

pub clock_same : (lease : ℕ) (h : History) (a : Actor) (read : Option ℕ) (from : Actor) (asked : Request) (r : Reply) (append : Append) → (append ≡ Failed → ⊥)
    → clock_of lease (entry a read (Serve from asked r None append) ∷ h) ≡ clock_of lease h
unfolding last_time has_given lease_over
clock_same lease h a read from asked r append went = ap (clock lease (last_time h) (has_given h)) (lease_taken lease a read from asked r None append h went)

pub clock_restarted : (lease : ℕ) (h : History) (a : Actor) (read : Option ℕ) (from : Actor) (kept : Bool)
    → clock_of lease (entry a read (Restarted from kept) ∷ h) ≡ restarted (clock_of lease h) (lease_end lease (entry a read (Restarted from kept) ∷ h))
unfolding last_time has_given
clock_restarted lease h a read from kept = refl
