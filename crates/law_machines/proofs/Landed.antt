-- What stands in a machine's log is what took effect there and was logged, in the order of taking effect.
use Rattle.std.proofs.Common.{◌≡◌, ℕ, Bool, true, false, cond, [], ◌∷◌, ◌++◌, Option, Some, None, filter, refl, sym, ◌∙◌, ap, subst, inl, inr}
use Rattle.txn_data.specs.declared.actor.Actor.{Actor}
use Rattle.txn_data.specs.declared.append.Append.TheVariants.{Nothing, Took, Failed}
use Rattle.txn_data.specs.declared.event.Event.{Event}
use Rattle.txn_data.specs.declared.event.Event.TheVariants.{Start, Ask, Serve, Hear, Tell, Restarted}
use Rattle.txn_data.specs.declared.entry.Entry.{Entry}
use Rattle.txn_types.specs.History.{History, same_actor, own, kept_by, event_counts, was_logged, standing}
use Rattle.law_machines.specs.Own.{piece, piece_after, restored, effect, landed, effects, ServesAll}
use Rattle.law_machines.proofs.Basics.{same_cases}
use Rattle.law_machines.proofs.Pieces.{QuietWith, Orderly, orderly, HasFailed, piece_failed}
use Rattle.law_machines.proofs.Counted.{counted, counting_own, own_all, AllOf}

-- the entries that were logged
abbrev pub logged : History → History
logged h = filter (λ (e : Entry). was_logged e.event) h

abbrev pub logged_first : Bool → Entry → History → History
logged_first b e xs = cond b (e ∷ xs) xs

pub failed_logged : (event : Event) → HasFailed event → was_logged event ≡ true
failed_logged (Serve from asked r time Failed) ok = refl
failed_logged (Serve from asked r time Nothing) ok = absurd ok
failed_logged (Serve from asked r time Took) ok = absurd ok
failed_logged (Restarted from kept) ok = absurd ok
failed_logged (Start number line) ok = absurd ok
failed_logged (Ask to asked) ok = absurd ok
failed_logged (Hear from r) ok = absurd ok
failed_logged (Tell number t) ok = absurd ok

restored_logged : (q : Option Entry) (kept : Bool) (rest : History) → ((p : Entry) → q ≡ Some p → HasFailed p.event) → logged (restored q kept ++ rest) ≡ restored q kept ++ logged rest
restored_logged None kept rest failed = refl
restored_logged (Some p) true rest failed = rw (failed_logged p.event (failed p refl)) refl
restored_logged (Some p) false rest failed = refl

restored_none : (q : Option Entry) → restored q false ≡ []
restored_none None = refl
restored_none (Some p) = refl

-- with one more entry
stands_event : (kept : Bool) (q : Option Entry) (e : Entry) (event : Event) (o : History) → e.event ≡ event → QuietWith q event →
    ((p : Entry) → q ≡ Some p → HasFailed p.event) →
    ((k : Bool) → logged (counted k o) ≡ restored q k ++ logged (landed o)) →
    logged (cond (event_counts event kept) (e ∷ counted (kept_by event kept) o) (counted (kept_by event kept) o))
    ≡ restored (piece_after q e event) kept ++ logged (effect q e event ++ landed o)
stands_event kept q e (Serve from asked r time Nothing) o same quiet failed before =
    let l : was_logged e.event ≡ false = ap was_logged same in rw l (before kept)
stands_event kept None e (Serve from asked r time Took) o same quiet failed before =
    let l : was_logged e.event ≡ true = ap was_logged same in rw l (ap (λ (xs : History). e ∷ xs) (before kept))
stands_event kept (Some p) e (Serve from asked r time Took) o same quiet failed before = cc
stands_event true None e (Serve from asked r time Failed) o same quiet failed before =
    let l : was_logged e.event ≡ true = ap was_logged same in rw l (ap (λ (xs : History). e ∷ xs) (before true))
stands_event false None e (Serve from asked r time Failed) o same quiet failed before = before false
stands_event kept (Some p) e (Serve from asked r time Failed) o same quiet failed before = cc
stands_event kept q e (Restarted from k) o same quiet failed before = before k ∙ sym (restored_logged q k (landed o) failed)
stands_event kept q e (Start number line) o same quiet failed before = before kept
stands_event kept q e (Ask to asked) o same quiet failed before = before kept
stands_event kept q e (Hear from r) o same quiet failed before = before kept
stands_event kept q e (Tell number t) o same quiet failed before = before kept

pub logged_counted : (kept : Bool) (o : History) → Orderly o → logged (counted kept o) ≡ restored (piece o) kept ++ logged (landed o)
unfolding counted piece landed Orderly
logged_counted kept [] ord = refl
logged_counted kept (e ∷ o) ord =
    stands_event kept (piece o) e e.event o refl ord.1 (piece_failed o) (λ k. logged_counted k o ord.0)

-- what stands in the log of a machine
pub standing_landed : (lease : ℕ) (a : Actor) (o : History) → ServesAll lease a o → AllOf a o → standing o ≡ logged (landed o)
standing_landed lease a o all mine =
    ap logged (counting_own a o mine)
    ∙ (logged_counted false o (orderly lease a o all) ∙ ap (λ (xs : History). xs ++ logged (landed o)) (restored_none (piece o)))

-- a piece is an entry of the machine's own
piece_own_event : (a : Actor) (q : Option Entry) (e : Entry) (event : Event) → e.actor ≡ a → ((p : Entry) → q ≡ Some p → p.actor ≡ a) → (p : Entry) → piece_after q e event ≡ Some p → p.actor ≡ a
piece_own_event a q e (Serve from asked r time Failed) mine before p is = let entry : e ≡ p = cc in subst (λ (x : Entry). x.actor ≡ a) entry mine
piece_own_event a q e (Serve from asked r time Nothing) mine before p is = before p is
piece_own_event a q e (Serve from asked r time Took) mine before p is = before p is
piece_own_event a q e (Restarted from kept) mine before p is = cc
piece_own_event a q e (Start number line) mine before p is = before p is
piece_own_event a q e (Ask to asked) mine before p is = before p is
piece_own_event a q e (Hear from r) mine before p is = before p is
piece_own_event a q e (Tell number t) mine before p is = before p is

pub piece_own : (a : Actor) (o : History) → AllOf a o → (p : Entry) → piece o ≡ Some p → p.actor ≡ a
unfolding piece AllOf
piece_own a [] mine p is = cc
piece_own a (e ∷ o) mine p is = piece_own_event a (piece o) e e.event mine.1 (piece_own a o mine.0) p is

-- what takes effect with an entry of a machine is an entry of the machine
own_append : (a : Actor) (xs ys : History) → own a (xs ++ ys) ≡ own a xs ++ own a ys
own_append a [] ys = refl
own_append a (e ∷ xs) ys = elim (same_cases e.actor a) [
  | inl s ↦ rw s.0 (ap (λ (l : History). e ∷ l) (own_append a xs ys))
  | inr s ↦ rw s.0 (own_append a xs ys)
]

own_one : (a : Actor) (e : Entry) → e.actor ≡ a → own a (e ∷ []) ≡ e ∷ []
own_one a e mine = elim (same_cases e.actor a) [ inl s ↦ rw s.0 refl | inr s ↦ absurd (s.1 mine) ]

other_one : (a : Actor) (e : Entry) → same_actor e.actor a ≡ false → own a (e ∷ []) ≡ []
other_one a e other = rw other refl

own_restored : (a : Actor) (q : Option Entry) (kept : Bool) → ((p : Entry) → q ≡ Some p → p.actor ≡ a) → own a (restored q kept) ≡ restored q kept
own_restored a None kept mine = refl
own_restored a (Some p) true mine = own_one a p (mine p refl)
own_restored a (Some p) false mine = refl

other_restored : (a b : Actor) (q : Option Entry) (kept : Bool) → same_actor b a ≡ false → ((p : Entry) → q ≡ Some p → p.actor ≡ b) → own a (restored q kept) ≡ []
other_restored a b None kept other mine = refl
other_restored a b (Some p) true other mine = other_one a p (subst (λ (c : Actor). same_actor c a ≡ false) (sym (mine p refl)) other)
other_restored a b (Some p) false other mine = refl

own_effect : (a : Actor) (q : Option Entry) (e : Entry) (event : Event) → e.actor ≡ a → ((p : Entry) → q ≡ Some p → p.actor ≡ a) → own a (effect q e event) ≡ effect q e event
own_effect a q e (Serve from asked r time Nothing) mine piece_mine = own_one a e mine
own_effect a q e (Serve from asked r time Took) mine piece_mine = own_one a e mine
own_effect a q e (Serve from asked r time Failed) mine piece_mine = refl
own_effect a q e (Restarted from kept) mine piece_mine = own_restored a q kept piece_mine
own_effect a q e (Start number line) mine piece_mine = refl
own_effect a q e (Ask to asked) mine piece_mine = refl
own_effect a q e (Hear from r) mine piece_mine = refl
own_effect a q e (Tell number t) mine piece_mine = refl

other_effect : (a : Actor) (q : Option Entry) (e : Entry) (event : Event) → same_actor e.actor a ≡ false → ((p : Entry) → q ≡ Some p → p.actor ≡ e.actor) → own a (effect q e event) ≡ []
other_effect a q e (Serve from asked r time Nothing) other piece_mine = other_one a e other
other_effect a q e (Serve from asked r time Took) other piece_mine = other_one a e other
other_effect a q e (Serve from asked r time Failed) other piece_mine = refl
other_effect a q e (Restarted from kept) other piece_mine = other_restored a e.actor q kept other piece_mine
other_effect a q e (Start number line) other piece_mine = refl
other_effect a q e (Ask to asked) other piece_mine = refl
other_effect a q e (Hear from r) other piece_mine = refl
other_effect a q e (Tell number t) other piece_mine = refl

pub own_effects : (a : Actor) (h : History) → own a (effects h) ≡ landed (own a h)
unfolding effects landed
own_effects a [] = refl
own_effects a (e ∷ h) = elim (same_cases e.actor a) [
  | inl s ↦ rw s.0 (own_append a (effect (piece (own e.actor h)) e e.event) (effects h)
      ∙ (ap (λ (xs : History). xs ++ own a (effects h))
      (own_effect a (piece (own e.actor h)) e e.event s.1 (λ p is. piece_own e.actor (own e.actor h) (own_all e.actor h) p is ∙ s.1))
      ∙ (ap (λ (ys : History). effect (piece (own e.actor h)) e e.event ++ ys) (own_effects a h)
      ∙ ap (λ (b : Actor). effect (piece (own b h)) e e.event ++ landed (own a h)) s.1)))
  | inr s ↦ rw s.0 (own_append a (effect (piece (own e.actor h)) e e.event) (effects h)
      ∙ (ap (λ (xs : History). xs ++ own a (effects h))
      (other_effect a (piece (own e.actor h)) e e.event s.0 (piece_own e.actor (own e.actor h) (own_all e.actor h)))
      ∙ own_effects a h))
]
