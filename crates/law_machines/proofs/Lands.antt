-- What the table asked where an entry was served still holds where it takes effect: between the two its machine is down.
use Rattle.std.proofs.Common.{◌≡◌, Bool, true, false, cond, [], ◌∷◌, ◌++◌, Option, Some, None, refl, sym, ap, subst, inl, inr, ◌⊎◌}
use Rattle.txn_data.specs.declared.append.Append.TheVariants.{Nothing, Took, Failed}
use Rattle.txn_data.specs.declared.event.Event.{Event}
use Rattle.txn_data.specs.declared.event.Event.TheVariants.{Start, Ask, Serve, Hear, Tell, Restarted}
use Rattle.txn_data.specs.declared.entry.Entry.{Entry}
use Rattle.txn_types.specs.Lists.{Member}
use Rattle.txn_types.specs.History.{History, was_logged}
use Rattle.law_machines.specs.Own.{piece, piece_after, effect, landed, StandsOver}
use Rattle.law_machines.proofs.Basics.{member_cases, filter_member}
use Rattle.law_machines.proofs.Pieces.{QuietWith, Orderly}
use Rattle.law_machines.proofs.Landed.{logged}

-- each entry, over those that took effect before it
unfoldable pub Lands : (History → Event → Type 0) → History → Type 0
Lands K [] = Unit {0}
Lands K (e ∷ l) = Lands K l × K l e.event

-- each own entry that was to be logged, over what stood in the log where it was served
unfoldable pub NextAll : (History → Event → Type 0) → History → Type 0
NextAll K [] = Unit {0}
NextAll K (e ∷ o) = NextAll K o × (was_logged e.event ≡ true → K (logged (landed o)) e.event)

-- of the piece too
abbrev pub PieceLands : (History → Event → Type 0) → Option Entry → History → Type 0
PieceLands K None l = Unit {0}
PieceLands K (Some p) l = (was_logged p.event ≡ true) × K l p.event

lands_event : (K : History → Event → Type 0) (q : Option Entry) (e : Entry) (event : Event) (rest : History) → e.event ≡ event → QuietWith q event →
    (was_logged event ≡ true → K (logged rest) event) → Lands K (logged rest) → PieceLands K q (logged rest) →
    Lands K (logged (effect q e event ++ rest)) × PieceLands K (piece_after q e event) (logged (effect q e event ++ rest))
unfolding Lands
lands_event K q e (Serve from asked r time Nothing) rest same quiet next lands at =
    let l : was_logged e.event ≡ false = ap was_logged same in rw l (lands, at)
lands_event K None e (Serve from asked r time Took) rest same quiet next lands at =
    let l : was_logged e.event ≡ true = ap was_logged same in
    rw l ((lands, subst (λ (ev : Event). K (logged rest) ev) (sym same) (next refl)), tt)
lands_event K (Some p) e (Serve from asked r time Took) rest same quiet next lands at = cc
lands_event K None e (Serve from asked r time Failed) rest same quiet next lands at =
    (lands, (ap was_logged same, subst (λ (ev : Event). K (logged rest) ev) (sym same) (next refl)))
lands_event K (Some p) e (Serve from asked r time Failed) rest same quiet next lands at = cc
lands_event K None e (Restarted from k) rest same quiet next lands at = (lands, tt)
lands_event K (Some p) e (Restarted from true) rest same quiet next lands at = rw at.0 ((lands, at.1), tt)
lands_event K (Some p) e (Restarted from false) rest same quiet next lands at = (lands, tt)
lands_event K q e (Start number line) rest same quiet next lands at = (lands, at)
lands_event K q e (Ask to asked) rest same quiet next lands at = (lands, at)
lands_event K q e (Hear from r) rest same quiet next lands at = (lands, at)
lands_event K q e (Tell number t) rest same quiet next lands at = (lands, at)

lands_both : (K : History → Event → Type 0) (o : History) → Orderly o → NextAll K o → Lands K (logged (landed o)) × PieceLands K (piece o) (logged (landed o))
unfolding Lands NextAll landed piece Orderly
lands_both K [] ord all = (tt, tt)
lands_both K (e ∷ o) ord all =
    let before = lands_both K o ord.0 all.0 in
    lands_event K (piece o) e e.event (landed o) refl ord.1 all.1 before.0 before.1

pub lands : (K : History → Event → Type 0) (o : History) → Orderly o → NextAll K o → Lands K (logged (landed o))
lands K o ord all = (lands_both K o ord all).0

-- what took effect is among the machine's own entries
effect_member : (q : Option Entry) (e f : Entry) (event : Event) → Member f (effect q e event) → (f ≡ e) ⊎ (q ≡ Some f)
effect_member q e f (Serve from asked r time Nothing) m = elim m [ inl is ↦ inl is | inr none ↦ absurd none ]
effect_member q e f (Serve from asked r time Took) m = elim m [ inl is ↦ inl is | inr none ↦ absurd none ]
effect_member q e f (Serve from asked r time Failed) m = absurd m
effect_member None e f (Restarted from k) m = absurd m
effect_member (Some p) e f (Restarted from true) m = elim m [ inl is ↦ inr (ap Some (sym is)) | inr none ↦ absurd none ]
effect_member (Some p) e f (Restarted from false) m = absurd m
effect_member q e f (Start number line) m = absurd m
effect_member q e f (Ask to asked) m = absurd m
effect_member q e f (Hear from r) m = absurd m
effect_member q e f (Tell number t) m = absurd m

piece_event_member : (q : Option Entry) (e f : Entry) (event : Event) (o : History) → (q ≡ Some f → Member f o) → piece_after q e event ≡ Some f → Member f (e ∷ o)
piece_event_member q e f (Serve from asked r time Failed) o before is = let entry : f ≡ e = cc in inl entry
piece_event_member q e f (Serve from asked r time Nothing) o before is = inr (before is)
piece_event_member q e f (Serve from asked r time Took) o before is = inr (before is)
piece_event_member q e f (Restarted from k) o before is = cc
piece_event_member q e f (Start number line) o before is = inr (before is)
piece_event_member q e f (Ask to asked) o before is = inr (before is)
piece_event_member q e f (Hear from r) o before is = inr (before is)
piece_event_member q e f (Tell number t) o before is = inr (before is)

pub piece_member : (o : History) (f : Entry) → piece o ≡ Some f → Member f o
unfolding piece
piece_member [] f is = cc
piece_member (e ∷ o) f is = piece_event_member (piece o) e f e.event o (piece_member o f) is

pub landed_member : (o : History) (f : Entry) → Member f (landed o) → Member f o
unfolding landed
landed_member [] f m = m
landed_member (e ∷ o) f m = elim (member_cases f (effect (piece o) e e.event) (landed o) m) [
  | inl now ↦ elim (effect_member (piece o) e f e.event now) [ inl is ↦ inl is | inr p ↦ inr (piece_member o f p) ]
  | inr old ↦ inr (landed_member o f old)
]

pub logged_member : (o : History) (f : Entry) → Member f (logged (landed o)) → Member f o
logged_member o f m = landed_member o f (filter_member (λ (e : Entry). was_logged e.event) f (landed o) m).0

-- what took effect before stays, below what takes effect later
pub data Grows (l : History) : History → Type 0 where
  Same : Grows l l
  More : (e : Entry) (k : History) → Grows l k → Grows l (e ∷ k)

logged_append : (xs ys : History) → logged (xs ++ ys) ≡ logged xs ++ logged ys
logged_append [] ys = refl
logged_append (e ∷ xs) ys = logged_choice (was_logged e.event) e (logged_append xs ys)
  where
    logged_choice : (b : Bool) (e : Entry) → logged (xs ++ ys) ≡ logged xs ++ logged ys →
        cond b (e ∷ logged (xs ++ ys)) (logged (xs ++ ys)) ≡ cond b (e ∷ logged xs) (logged xs) ++ logged ys
    logged_choice true e is = ap (λ (l : History). e ∷ l) is
    logged_choice false e is = is

grows_list : (xs l k : History) → Grows l k → Grows l (xs ++ k)
grows_list [] l k grows = grows
grows_list (e ∷ xs) l k grows = More e (xs ++ k) (grows_list xs l k grows)

pub grows_entry : (e : Entry) (o l : History) → Grows l (logged (landed o)) → Grows l (logged (landed (e ∷ o)))
unfolding landed
grows_entry e o l grows =
    subst (λ (k : History). Grows l k) (sym (logged_append (effect (piece o) e e.event) (landed o)))
    (grows_list (logged (effect (piece o) e e.event)) l (logged (landed o)) grows)

pub grows_over : (f : Entry) (before o : History) → StandsOver f before o → Grows (logged (landed before)) (logged (landed o))
grows_over f before [] stands = absurd stands
grows_over f before (e ∷ o) stands = elim stands [
  | inl here ↦ grows_entry e o (logged (landed before)) (subst (λ (l : History). Grows (logged (landed before)) (logged (landed l))) (sym here.1) Same)
  | inr deeper ↦ grows_entry e o (logged (landed before)) (grows_over f before o deeper)
]
