-- What one more entry of an actor does to the records that stand in its log.
use Rattle.std.proofs.Common.{◌≡◌, ℕ, Bool, true, false, cond, List, [], ◌∷◌, ◌++◌, Option, refl, ap}
use Rattle.txn_data.specs.declared.actor.Actor.{Actor}
use Rattle.txn_data.specs.declared.append.Append.{Append}
use Rattle.txn_data.specs.declared.append.Append.TheVariants.{Nothing, Took, Failed}
use Rattle.txn_data.specs.declared.request.Request.{Request}
use Rattle.txn_data.specs.declared.reply.Reply.{Reply}
use Rattle.txn_data.specs.declared.event.Event.TheVariants.{Serve}
use Rattle.txn_data.specs.declared.entry.Entry.{Entry}
use Rattle.txn_types.specs.History.{History, same_actor, kept_by, next_restart_kept, counting_before, counting}
use Rattle.txn_types.specs.Clock.{lease_end}
use Rattle.tablet_log.specs.Entries.{records_of, logged_over, logged_records, failed_records}

abbrev serve : Actor → Option ℕ → Actor → Request → Reply → Option ℕ → Append → Entry
serve a reading from asked r time append = record { actor = a; reading = reading; event = Serve from asked r time append }

-- a Serve behind all others decides nothing of what failed
no_restart : (b : Actor) (a : Actor) (reading : Option ℕ) (from : Actor) (asked : Request) (r : Reply) (time : Option ℕ) (append : Append) (later : List Entry)
    → next_restart_kept b (later ++ serve a reading from asked r time append ∷ []) ≡ next_restart_kept b later
unfolding next_restart_kept
no_restart b a reading from asked r time append [] =
    elim (same_actor a b) as (λ (s : Bool). cond s (next_restart_kept b []) (next_restart_kept b []) ≡ next_restart_kept b []) [
      | true ↦ refl
      | false ↦ refl
    ]
no_restart b a reading from asked r time append (e ∷ later) =
    ap (λ (k : Bool). cond (same_actor e.actor b) (kept_by e.event k) k) (no_restart b a reading from asked r time append later)

counting_same : (a : Actor) (reading : Option ℕ) (from : Actor) (asked : Request) (r : Reply) (time : Option ℕ) (append : Append) (later : List Entry) (h : History)
    → counting_before (later ++ serve a reading from asked r time append ∷ []) h ≡ counting_before later h
unfolding counting_before
counting_same a reading from asked r time append later [] = refl
counting_same a reading from asked r time append later (e ∷ h) =
    let rest = counting_same a reading from asked r time append (e ∷ later) h in
    let kept = no_restart e.actor a reading from asked r time append later in
    rw (kept, rest) refl

pub counting_taken : (a : Actor) (reading : Option ℕ) (from : Actor) (asked : Request) (r : Reply) (time : Option ℕ) (append : Append) (h : History) → (append ≡ Failed → ⊥)
    → counting (serve a reading from asked r time append ∷ h) ≡ serve a reading from asked r time append ∷ counting h
unfolding counting_before
counting_taken a reading from asked r time Nothing h went = ap (λ (cs : History). serve a reading from asked r time Nothing ∷ cs) (counting_same a reading from asked r time Nothing [] h)
counting_taken a reading from asked r time Took h went = ap (λ (cs : History). serve a reading from asked r time Took ∷ cs) (counting_same a reading from asked r time Took [] h)
counting_taken a reading from asked r time Failed h went = absurd (went refl)

pub counting_failed : (a : Actor) (reading : Option ℕ) (from : Actor) (asked : Request) (r : Reply) (time : Option ℕ) (h : History)
    → counting (serve a reading from asked r time Failed ∷ h) ≡ counting h
unfolding counting_before next_restart_kept
counting_failed a reading from asked r time h = counting_same a reading from asked r time Failed [] h

pub log_taken : (lease : ℕ) (a : Actor) (reading : Option ℕ) (from : Actor) (asked : Request) (r : Reply) (time : Option ℕ) (append : Append) (h : History) → (append ≡ Failed → ⊥)
    → logged_records lease (serve a reading from asked r time append ∷ h) ≡ logged_records lease h ++ records_of lease (lease_end lease h) (Serve from asked r time append)
unfolding logged_over
log_taken lease a reading from asked r time append h went = ap (logged_over lease) (counting_taken a reading from asked r time append h went)

pub log_failed : (lease : ℕ) (a : Actor) (reading : Option ℕ) (from : Actor) (asked : Request) (r : Reply) (time : Option ℕ) (h : History)
    → logged_records lease (serve a reading from asked r time Failed ∷ h) ≡ logged_records lease h
log_failed lease a reading from asked r time h = ap (logged_over lease) (counting_failed a reading from asked r time h)

pub piece_failed : (lease : ℕ) (a : Actor) (reading : Option ℕ) (from : Actor) (asked : Request) (r : Reply) (time : Option ℕ) (h : History)
    → failed_records lease (serve a reading from asked r time Failed ∷ h) ≡ records_of lease (lease_end lease h) (Serve from asked r time Failed)
unfolding failed_records
piece_failed lease a reading from asked r time h = refl
