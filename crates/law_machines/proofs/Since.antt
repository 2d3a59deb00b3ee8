-- What each landing keeps holds from an entry on.
use Rattle.std.proofs.Common.{◌≡◌, true, false, [], ◌∷◌, ◌++◌, Option, Some, None, refl, sym, ap, subst, inl, inr}
use Rattle.txn_data.specs.declared.actor.Actor.{Actor}
use Rattle.txn_data.specs.declared.append.Append.TheVariants.{Nothing, Took, Failed}
use Rattle.txn_data.specs.declared.event.Event.{Event}
use Rattle.txn_data.specs.declared.event.Event.TheVariants.{Start, Ask, Serve, Hear, Tell, Restarted}
use Rattle.txn_data.specs.declared.entry.Entry.{Entry}
use Rattle.txn_types.specs.History.{History, own, was_logged}
use Rattle.law_machines.specs.Own.{piece, piece_after, effect, landed, StandsOver}
use Rattle.law_machines.proofs.Basics.{same_cases}
use Rattle.law_machines.proofs.Pieces.{HasFailed, piece_failed}
use Rattle.law_machines.proofs.Landed.{logged, failed_logged}

abbrev pub PieceIs : (Event → Type 0) → Option Entry → Type 0
PieceIs N None = Unit {0}
PieceIs N (Some p) = N p.event

-- I holds of what stands in the log, and a piece may land
pub record Since (I : History → Type 0) (N : Event → Type 0) (o : History) : Type 0 where
  pub now : I (logged (landed o))
  pub piece_is : PieceIs N (piece o)

abbrev pub IsLanding : (History → Type 0) → (Event → Type 0) → Type 0
IsLanding I N = (l : History) (e : Entry) → N e.event → I l → I (e ∷ l)

now_event : (I : History → Type 0) (N : Event → Type 0) → IsLanding I N → (q : Option Entry) (e : Entry) (event : Event) (rest : History) → e.event ≡ event → ((p : Entry) → q ≡ Some p → HasFailed p.event) →
    (was_logged event ≡ true → N event) → I (logged rest) → PieceIs N q → I (logged (effect q e event ++ rest))
now_event I N lands q e (Serve from asked r time Nothing) rest same failed next is at = let l : was_logged e.event ≡ false = ap was_logged same in rw l is
now_event I N lands q e (Serve from asked r time Took) rest same failed next is at =
    let l : was_logged e.event ≡ true = ap was_logged same in
    rw l (lands (logged rest) e (subst (λ (ev : Event). N ev) (sym same) (next refl)) is)
now_event I N lands q e (Serve from asked r time Failed) rest same failed next is at = is
now_event I N lands None e (Restarted from k) rest same failed next is at = is
now_event I N lands (Some p) e (Restarted from true) rest same failed next is at =
    let l : was_logged p.event ≡ true = failed_logged p.event (failed p refl) in rw l (lands (logged rest) p at is)
now_event I N lands (Some p) e (Restarted from false) rest same failed next is at = is
now_event I N lands q e (Start number line) rest same failed next is at = is
now_event I N lands q e (Ask to asked) rest same failed next is at = is
now_event I N lands q e (Hear from r) rest same failed next is at = is
now_event I N lands q e (Tell number t) rest same failed next is at = is

piece_event : (N : Event → Type 0) (q : Option Entry) (e : Entry) (event : Event) → e.event ≡ event → (was_logged event ≡ true → N event) → PieceIs N q → PieceIs N (piece_after q e event)
piece_event N q e (Serve from asked r time Failed) same next at = subst (λ (ev : Event). N ev) (sym same) (next refl)
piece_event N q e (Serve from asked r time Nothing) same next at = at
piece_event N q e (Serve from asked r time Took) same next at = at
piece_event N q e (Restarted from k) same next at = tt
piece_event N q e (Start number line) same next at = at
piece_event N q e (Ask to asked) same next at = at
piece_event N q e (Hear from r) same next at = at
piece_event N q e (Tell number t) same next at = at

pub since_step : (I : History → Type 0) (N : Event → Type 0) → IsLanding I N → (e : Entry) (o : History) → (was_logged e.event ≡ true → N e.event) → Since I N o → Since I N (e ∷ o)
unfolding landed piece
since_step I N lands e o next before = record {
  now = now_event I N lands (piece o) e e.event (landed o) refl (piece_failed o) next before.now before.piece_is;
  piece_is = piece_event N (piece o) e e.event refl next before.piece_is;
}

pub since_from : (I : History → Type 0) (N : Event → Type 0) → IsLanding I N → (j : Entry) (b o : History) → StandsOver j b o → Since I N (j ∷ b) →
    ((e : Entry) (c : History) → StandsOver e c o → StandsOver j b c → was_logged e.event ≡ true → N e.event) → Since I N o
since_from I N lands j b [] stands first next = absurd stands
since_from I N lands j b (e ∷ o) stands first next = elim stands [
  | inl here ↦ subst (λ (g : Entry). Since I N (g ∷ o)) (sym here.0) (subst (λ (l : History). Since I N (j ∷ l)) (sym here.1) first)
  | inr deeper ↦ since_step I N lands e o (next e o (inl (refl, refl)) deeper) (since_from I N lands j b o deeper first (λ f c at below. next f c (inr at) below))
]

pub since_all : (I : History → Type 0) (N : Event → Type 0) → IsLanding I N → (o : History) → I [] → ((e : Entry) (c : History) → StandsOver e c o → was_logged e.event ≡ true → N e.event) → Since I N o
unfolding landed piece
since_all I N lands [] first next = record { now = first; piece_is = tt }
since_all I N lands (e ∷ o) first next = since_step I N lands e o (next e o (inl (refl, refl))) (since_all I N lands o first (λ f c at. next f c (inr at)))

-- where an entry stands among its actor's own, it stands in the history
pub own_stands : (a : Actor) (e : Entry) (c h : History) → StandsOver e c (own a h) → (before : History) × StandsOver e before h × (own a before ≡ c)
own_stands a e c [] stands = absurd stands
own_stands a e c (f ∷ h) stands = elim (same_cases f.actor a) [
  | inl s ↦ elim (rw s.0 at stands) [
    | inl here ↦ (h, inl (here.0, refl), here.1)
    | inr deeper ↦ let r = own_stands a e c h deeper in (r.0, inr r.1, r.2)
  ]
  | inr s ↦ let r = own_stands a e c h (rw s.0 at stands) in (r.0, inr r.1, r.2)
]
