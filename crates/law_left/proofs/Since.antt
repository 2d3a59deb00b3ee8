-- What each landing keeps, from a front part of the history on, where no machine restarts.
use Rattle.std.proofs.Common.{◌≡◌, Bool, true, false, [], ◌∷◌, ◌++◌, Option, refl, sym, ap, subst, inl, inr}
use Rattle.txn_data.specs.declared.actor.Actor.{Actor}
use Rattle.txn_data.specs.declared.append.Append.TheVariants.{Nothing, Took, Failed}
use Rattle.txn_data.specs.declared.event.Event.{Event}
use Rattle.txn_data.specs.declared.event.Event.TheVariants.{Start, Ask, Serve, Hear, Tell, Restarted}
use Rattle.txn_data.specs.declared.entry.Entry.{Entry}
use Rattle.txn_types.specs.History.{History, own, was_logged}
use Rattle.law_machines.specs.Own.{piece, effect, landed, StandsOver}
use Rattle.law_machines.proofs.Basics.{same_cases}
use Rattle.law_machines.proofs.Landed.{logged}
use Rattle.law_machines.proofs.Lands.{Grows, Same, grows_entry}
use Rattle.law_machines.proofs.Since.{IsLanding}
use Rattle.law_courses.specs.Course.{IsPart}

-- what may happen is no restart
abbrev pub NoRestart : (Event → Type 0) → Type 0
NoRestart N = (from : Actor) (kept : Bool) → N (Restarted from kept) → ⊥

landing_event : (I : History → Type 0) (N : Event → Type 0) → IsLanding I N → NoRestart N → (q : Option Entry) (e : Entry) (event : Event) (rest : History) → e.event ≡ event → N event → I (logged rest) → I (logged (effect q e event ++ rest))
landing_event I N lands never q e (Serve from asked r time Nothing) rest same next is = let l : was_logged e.event ≡ false = ap was_logged same in rw l is
landing_event I N lands never q e (Serve from asked r time Took) rest same next is =
    let l : was_logged e.event ≡ true = ap was_logged same in rw l (lands (logged rest) e (subst (λ (ev : Event). N ev) (sym same) next) is)
landing_event I N lands never q e (Serve from asked r time Failed) rest same next is = is
landing_event I N lands never q e (Restarted from kept) rest same next is = absurd (never from kept next)
landing_event I N lands never q e (Start number line) rest same next is = is
landing_event I N lands never q e (Ask to asked) rest same next is = is
landing_event I N lands never q e (Hear from r) rest same next is = is
landing_event I N lands never q e (Tell number t) rest same next is = is

pub since_front : (I : History → Type 0) (N : Event → Type 0) → IsLanding I N → NoRestart N → (a : Actor) (low h : History) → IsPart low h → ((e : Entry) (b : History) → StandsOver e b h → IsPart low b → N e.event) →
    I (logged (landed (own a low))) → I (logged (landed (own a h)))
unfolding IsPart landed
since_front I N lands never a low [] part next first = subst (λ (l : History). I (logged (landed (own a l)))) part first
since_front I N lands never a low (e ∷ h) part next first = elim part [
  | inl is ↦ subst (λ (l : History). I (logged (landed (own a l)))) is first
  | inr more ↦
      let before = since_front I N lands never a low h more (λ f b stands at. next f b (inr stands) at) first in
      elim (same_cases e.actor a) [
        | inl s ↦ rw s.0 (landing_event I N lands never (piece (own a h)) e e.event (landed (own a h)) refl (next e h (inl (refl, refl)) more) before)
        | inr s ↦ rw s.0 before
      ]
]

-- what took effect stays
pub grows_front : (a : Actor) (low h : History) → IsPart low h → Grows (logged (landed (own a low))) (logged (landed (own a h)))
unfolding IsPart
grows_front a low [] part = subst (λ (l : History). Grows (logged (landed (own a low))) (logged (landed (own a l)))) part Same
grows_front a low (e ∷ h) part = elim part [
  | inl is ↦ subst (λ (l : History). Grows (logged (landed (own a low))) (logged (landed (own a l)))) is Same
  | inr more ↦
      let before = grows_front a low h more in
      elim (same_cases e.actor a) [
        | inl s ↦ rw s.0 (grows_entry e (own a h) (logged (landed (own a low))) before)
        | inr s ↦ rw s.0 before
      ]
]
