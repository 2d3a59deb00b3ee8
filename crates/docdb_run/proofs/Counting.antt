-- What counts among the entries of an actor none of whose appends failed.
use Rattle.std.proofs.Common.{◌≡◌, Bool, true, List, [], ◌∷◌, refl, ap}
use Rattle.txn_data.specs.declared.append.Append.TheVariants.{Nothing, Took, Failed}
use Rattle.txn_data.specs.declared.event.Event.{Event}
use Rattle.txn_data.specs.declared.event.Event.TheVariants.{Start, Ask, Serve, Hear, Tell, Restarted}
use Rattle.txn_data.specs.declared.entry.Entry.{Entry}
use Rattle.txn_types.specs.History.{History, event_counts, next_restart_kept, counting_before, counting}

-- an entry that served something, with an append that did not fail
abbrev pub Serves : Event → Type 0
Serves (Serve from asked r time Nothing) = Unit {0}
Serves (Serve from asked r time Took) = Unit {0}
Serves event = ⊥

abbrev pub AllServe : History → Type 0
AllServe [] = Unit {0}
AllServe (e ∷ h) = Serves e.event × AllServe h

pub counts : (event : Event) (kept : Bool) → Serves event → event_counts event kept ≡ true
counts (Serve from asked r time Nothing) kept s = refl
counts (Serve from asked r time Took) kept s = refl
counts (Serve from asked r time Failed) kept s = absurd s
counts (Start number line) kept s = absurd s
counts (Ask to asked) kept s = absurd s
counts (Hear from r) kept s = absurd s
counts (Tell number t) kept s = absurd s
counts (Restarted from k) kept s = absurd s

-- all of them count
pub counting_all : (later : List Entry) (h : History) → AllServe h → counting_before later h ≡ h
unfolding counting_before
counting_all later [] s = refl
counting_all later (e ∷ h) s =
    rw (counts e.event (next_restart_kept e.actor later) s.0) (ap (λ (t : History). e ∷ t) (counting_all (e ∷ later) h s.1))

pub counting_is : (h : History) → AllServe h → counting h ≡ h
counting_is h s = counting_all [] h s
