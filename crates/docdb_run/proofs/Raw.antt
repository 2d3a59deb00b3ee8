-- What the recorded history itself shows between two commands: the session and the applier.
use Rattle.std.proofs.Common.{◌≡◌, ℕ, Bool, true, false, [], ◌∷◌, Option, refl, sym, ap, ◌∙◌, if◌then◌else◌}
use Rattle.txn_data.specs.declared.actor.Actor.{Actor}
use Rattle.txn_data.specs.declared.event.Event.{Event}
use Rattle.txn_data.specs.declared.event.Event.TheVariants.{Start, Ask, Serve, Hear, Tell, Restarted}
use Rattle.txn_types.specs.History.{History, same_actor}
use Rattle.txn_types.specs.Run.{Mover, mover_at, mover_after, idle}
use Rattle.docdb_run.specs.BeforeLogs.{as_logged, logged_event}
use Rattle.docdb_run.specs.Form.{cluster}
use Rattle.docdb_run.specs.Course.{Course, one, applier}
use Rattle.docdb_run.proofs.Inv.{Inv, between}

-- an append is nothing that a mover sees
pub same_after : (a : Actor) (m : Mover) (g : History) (actor : Actor) (reading : Option ℕ) (event : Event) →
    mover_after cluster a m reading (logged_event cluster g (record { actor = actor; reading = reading; event = event }))
    ≡ mover_after cluster a m reading event
same_after a m g actor reading (Start number line) = refl
same_after a m g actor reading (Ask to asked) = refl
same_after a m g actor reading (Serve from asked r time append) = refl
same_after a m g actor reading (Hear from r) = refl
same_after a m g actor reading (Tell number t) = refl
same_after a m g actor reading (Restarted from kept) = refl

choose : (b : Bool) (m n p q : Mover) → m ≡ p → n ≡ q → (if b then m else n) ≡ (if b then p else q)
choose true m n p q is other = is
choose false m n p q is other = other

pub mover_logged : (a : Actor) (h : History) → mover_at cluster a (as_logged cluster h) ≡ mover_at cluster a h
unfolding mover_at as_logged
mover_logged a [] = refl
mover_logged a (e ∷ h) =
    let is = mover_logged a h in
    let after : mover_after cluster a (mover_at cluster a (as_logged cluster h)) e.reading (logged_event cluster (as_logged cluster h) e)
    ≡ mover_after cluster a (mover_at cluster a h) e.reading e.event =
    same_after a (mover_at cluster a (as_logged cluster h)) (as_logged cluster h) e.actor e.reading e.event
    ∙ ap (λ (m : Mover). mover_after cluster a m e.reading e.event) is in
    choose (same_actor e.actor a) _ _ _ _ after is

pub raw_mover : (h : History) (k : Course) → Inv (as_logged cluster h) k → mover_at cluster one h ≡ between k
raw_mover h k inv = sym (mover_logged one h) ∙ inv.mover

pub raw_passes : (h : History) (k : Course) → Inv (as_logged cluster h) k → mover_at cluster applier h ≡ idle
raw_passes h k inv = sym (mover_logged applier h) ∙ inv.passes
