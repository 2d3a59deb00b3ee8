-- What a mover does next, and of which command or pass, depends on its own entries alone, besides the message on its way.
use Rattle.std.proofs.Common.{◌≡◌, ℕ, Bool, true, false, List, [], ◌∷◌, ◌++◌, refl, sym, ap, ◌∙◌, inl, inr, length, nat_lt, if◌then◌else◌}
use Rattle.txn_data.specs.declared.actor.Actor.{Actor}
use Rattle.txn_data.specs.declared.actor.Actor.TheVariants.{Tablet, Status, Session, Applier}
use Rattle.txn_data.specs.declared.command.Command.{Command}
use Rattle.txn_data.specs.declared.config.Config.{Config}
use Rattle.txn_data.specs.declared.entry.Entry.{Entry}
use Rattle.txn_types.specs.History.{History, same_actor, own}
use Rattle.txn_types.specs.Run.{Mover, flight, mover_at}
use Rattle.txn_types.specs.Script.{lines, line_by, started, commands_of}
use Rattle.law_machines.proofs.Basics.{test_cases}
use Rattle.law_parts.proofs.Own.{mover_of_own, own_same, own_other}
use Rattle.mover_chain.specs.NextEvent.{NextEvent, NoneLeft, all_done, number_of_next}
use Rattle.mover_seat.specs.Laws.{EventsAreOwn, NumbersAreOwn}
use Rattle.mover_seat.specs.NextEvent.{session_from, applier_from}

lines_own : (a : Actor) (e : Entry) (h : History) → same_actor e.actor a ≡ true → lines a (e ∷ h) ≡ lines a h ++ line_by e.event
unfolding lines
lines_own a e h is = rw is refl

lines_other : (a : Actor) (e : Entry) (h : History) → same_actor e.actor a ≡ false → lines a (e ∷ h) ≡ lines a h
unfolding lines
lines_other a e h is = rw is refl

pub lines_of_own : (a : Actor) (h : History) → lines a (own a h) ≡ lines a h
lines_of_own a [] = refl
lines_of_own a (e ∷ h) = elim (test_cases (same_actor e.actor a)) [
  | inl is ↦ ap (lines a) (own_same a e h is) ∙ lines_own a e (own a h) is ∙ ap (λ (ls : List Command). ls ++ line_by e.event) (lines_of_own a h) ∙ sym (lines_own a e h is)
  | inr not ↦ ap (lines a) (own_other a e h not) ∙ lines_of_own a h ∙ sym (lines_other a e h not)
]

session_own : (given : List Command) (all : Bool) (config : Config) (i : ℕ) (h : History) →
    session_from given all (lines (Session i) h) (mover_at config (Session i) h) (flight (Session i) h)
    ≡ session_from given all (lines (Session i) (own (Session i) h)) (mover_at config (Session i) (own (Session i) h)) (flight (Session i) h)
session_own given all config i h =
    ap (λ (ls : List Command). session_from given all ls (mover_at config (Session i) h) (flight (Session i) h)) (sym (lines_of_own (Session i) h))
    ∙ ap (λ (m : Mover). session_from given all (lines (Session i) (own (Session i) h)) m (flight (Session i) h)) (sym (mover_of_own config (Session i) h))

applier_own : (done : Bool) (config : Config) (k : ℕ) (h : History) →
    applier_from done config.passes k (started (Applier k) h) (mover_at config (Applier k) h) (flight (Applier k) h)
    ≡ applier_from done config.passes k (started (Applier k) (own (Applier k) h)) (mover_at config (Applier k) (own (Applier k) h)) (flight (Applier k) h)
applier_own done config k h =
    ap (λ (ls : List Command). applier_from done config.passes k (length ls) (mover_at config (Applier k) h) (flight (Applier k) h)) (sym (lines_of_own (Applier k) h))
    ∙ ap (λ (m : Mover). applier_from done config.passes k (started (Applier k) (own (Applier k) h)) m (flight (Applier k) h)) (sym (mover_of_own config (Applier k) h))

pub own_events : EventsAreOwn
own_events given config (Session i) h = session_own (commands_of i given.sessions) given.all config i h
own_events given config (Applier k) h = ap (λ (n : NextEvent). if nat_lt k config.tablets then n else NoneLeft) (applier_own (all_done given config h) config k h)
own_events given config (Tablet k) h = refl
own_events given config (Status j) h = refl

pub own_numbers : NumbersAreOwn
own_numbers config a h =
    ap (λ (ls : List Command). number_of_next (length ls) (mover_at config a h).line) (sym (lines_of_own a h))
    ∙ ap (λ (m : Mover). number_of_next (started a (own a h)) m.line) (sym (mover_of_own config a h))
