-- What the moves of one mover leave of whether others have an event left.
use Rattle.std.proofs.Common.{◌≡◌, ℕ, zero, suc, true, false, nat_lt, List, [], ◌∷◌, refl, sym, ◌∙◌, subst, inl, inr}
use Rattle.txn_data.specs.declared.actor.Actor.{Actor}
use Rattle.txn_data.specs.declared.actor.Actor.TheVariants.{Tablet, Status, Session, Applier}
use Rattle.txn_data.specs.declared.commands.Commands.{Commands}
use Rattle.txn_data.specs.declared.config.Config.{Config}
use Rattle.txn_types.specs.Lists.{Member}
use Rattle.txn_types.specs.History.{History}
use Rattle.law_machines.proofs.Basics.{same_cases, test_cases}
use Rattle.mover_chain.specs.NextEvent.{given_by, has_event}
use Rattle.mover_chain.proofs.States.{Same, another_moves, applier_has, session_has}
use Rattle.law_schedules.specs.Courses.{Moved, MovedToEnd, OneByOne}
use Rattle.law_schedules.proofs.Passing.{one_first, one_none}
use Rattle.law_moves.specs.Laws.{OthersStay}

-- it is told by the line under way, the lines and the open transaction
pub has_same : (config : Config) (plan : Commands) (a : Actor) (g h : History) → Same config a g h → has_event (given_by plan) config a h ≡ has_event (given_by plan) config a g
has_same config plan (Session i) g h same = session_has config plan i h ∙ rw same.line (rw same.begun (rw same.opened (sym (session_has config plan i g))))
has_same config plan (Applier k) g h same = elim (test_cases (nat_lt k config.tablets)) [
  | inl there ↦ applier_has config plan k h there ∙ rw same.line (rw same.begun (sym (applier_has config plan k g there)))
  | inr absent ↦ rw absent refl
]
has_same config plan (Tablet k) g h same = refl
has_same config plan (Status j) g h same = refl

pub others_stay : OthersStay
others_stay config plan a e h other = has_same config plan a h (e ∷ h) (another_moves config a e h other)

-- a mover that is at its end stays there, whoever moves
pub end_stays : (config : Config) (plan : Commands) (a b : Actor) (n : ℕ) (g h : History) → Moved (given_by plan) config b n g h → has_event (given_by plan) config a g ≡ false → has_event (given_by plan) config a h ≡ false
unfolding Moved
end_stays config plan a b zero g h moved over = subst (λ (f : History). has_event (given_by plan) config a f ≡ false) (sym moved) over
end_stays config plan a b (suc n) g [] moved over = absurd moved
end_stays config plan a b (suc n) g (e ∷ h) moved over =
    let before = end_stays config plan a b n g h moved.0 over in
    elim (same_cases b a) [
      | inl same ↦ absurd (let some = subst (λ (c : Actor). has_event (given_by plan) config c h ≡ true) same.1 moved.2 in let never : true ≡ false = sym some ∙ before in cc)
      | inr other ↦ others_stay config plan a e h (rw moved.1 other.0) ∙ before
    ]

one_stays : (config : Config) (plan : Commands) (a : Actor) (names : List Actor) (g h : History) → OneByOne (MovedToEnd (given_by plan) config) names g h → has_event (given_by plan) config a g ≡ false → has_event (given_by plan) config a h ≡ false
one_stays config plan a [] g h all over = subst (λ (f : History). has_event (given_by plan) config a f ≡ false) (sym (one_none (MovedToEnd (given_by plan) config) g h all)) over
one_stays config plan a (b ∷ more) g h all over =
    let first = one_first (MovedToEnd (given_by plan) config) b more g h all in
    one_stays config plan a more first.0 h first.2 (end_stays config plan a b first.1.0 g first.0 first.1.1 over)

-- movers that were moved to their ends, one after another, have no event left then
pub ends_over : (config : Config) (plan : Commands) (names : List Actor) (g h : History) → OneByOne (MovedToEnd (given_by plan) config) names g h → (a : Actor) → Member a names → has_event (given_by plan) config a h ≡ false
ends_over config plan [] g h all a at = absurd at
ends_over config plan (b ∷ more) g h all a (inl same) =
    let first = one_first (MovedToEnd (given_by plan) config) b more g h all in
    one_stays config plan a more first.0 h first.2 (subst (λ (c : Actor). has_event (given_by plan) config c first.0 ≡ false) (sym same) first.1.2)
ends_over config plan (b ∷ more) g h all a (inr later) =
    let first = one_first (MovedToEnd (given_by plan) config) b more g h all in
    ends_over config plan more first.0 h first.2 a later
