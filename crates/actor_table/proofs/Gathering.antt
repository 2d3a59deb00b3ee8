-- The step by which a seat takes in what another one knows keeps the rule.
use Rattle.std.proofs.Common.{◌≡◌, ◌≢◌, ℕ, zero, suc, eqb, eq-eqb, ne_eqb, List, [], ◌∷◌, set, refl, sym, ap, ◌∙◌, subst, ⊎_elim}
use mathlib.Core.Option.{some, some-injective}
use lib.ListN.{get_elem?}
use Rattle.atomic_table.specs.Table.{State, Me, Joins}
use Rattle.atomic_table.proofs.Lists.{at_set, set_else}
use Rattle.actor_table.specs.declared.gathered_seat.GatheredSeat.{GatheredSeat}
use Rattle.actor_table.specs.declared.seat_view.SeatView.{SeatView}
use Rattle.actor_table.specs.declared.view.View.{View}
use Rattle.actor_table.specs.declared.view.View.TheVariants.{Spent, Sits}
use Rattle.actor_table.specs.Rule.{Spot, held_by, used_by, GatheredFits, SeatFits, Fits, IsKept}
use Rattle.actor_table.specs.Steps.{gathered_of, after_gather, gather_view}
use Rattle.actor_table.proofs.Goings.{Goes, grows_same, held-goes, seat-goes, view-goes, each-set, runs-moved, number, number-true, number-false}

-- what the view other held, the view id holds now
brought : ℕ → ℕ → Spot → Spot
brought other id (held_by k) = held_by (number (eqb k other) id k)
brought other id (used_by k) = used_by k

brought-used : (other id : ℕ) (s : Spot) (k : ℕ) → s ≡ used_by k → brought other id s ≡ used_by k
unfolding brought
brought-used other id s k e = ap (brought other id) e

brought-else : (other id : ℕ) (s : Spot) (j : ℕ) → j ≢ other → s ≡ held_by j → brought other id s ≡ held_by j
unfolding brought
brought-else other id s j ne e = ap (brought other id) e ∙ ap held_by (number-false (eqb j other) id j (ne_eqb j other ne))

brought-here : (other id : ℕ) (s : Spot) → s ≡ held_by other → brought other id s ≡ held_by id
unfolding brought
brought-here other id s e = ap (brought other id) e ∙ ap held_by (number-true (eqb other other) id other (eq-eqb other other refl))

module _ (w : GatheredSeat) (gs : List GatheredSeat) where
  parts-in : (P : GatheredSeat → Type 0) → P w → ((k : ℕ) (g : GatheredSeat) → get_elem? gs k ≡ some g → P g) → (k : ℕ) (g : GatheredSeat) → get_elem? (w ∷ gs) k ≡ some g → P g
  parts-in P one more zero g e = subst P (some-injective _ _ e) one
  parts-in P one more (suc k) g e = more k g e

  parts-apart : ((k : ℕ) (g : GatheredSeat) → get_elem? gs k ≡ some g → g.actor ≢ w.actor) → ((j k : ℕ) (g h : GatheredSeat) → get_elem? gs j ≡ some g → get_elem? gs k ≡ some h → g.actor ≡ h.actor → j ≡ k)
      → (j k : ℕ) (g h : GatheredSeat) → get_elem? (w ∷ gs) j ≡ some g → get_elem? (w ∷ gs) k ≡ some h → g.actor ≡ h.actor → j ≡ k
  parts-apart other apart zero zero g h e q same = refl
  parts-apart other apart zero (suc k) g h e q same = absurd (other k h q (sym same ∙ ap (λ (x : GatheredSeat). x.actor) (sym (some-injective _ _ e))))
  parts-apart other apart (suc j) zero g h e q same = absurd (other j g e (same ∙ ap (λ (x : GatheredSeat). x.actor) (sym (some-injective _ _ q))))
  parts-apart other apart (suc j) (suc k) g h e q same = ap suc (apart j k g h e q same)

gathers : (actors id : ℕ) (v : SeatView) (other : ℕ) (w : SeatView) → Joins (λ (s : State (Unit {0}) View). IsKept actors s.words s.views) id (Sits v) other (Sits w) (gather_view (Sits v) (Sits w)) Spent
gathers actors id v other w s h at apart there =
    let f : SeatFits actors h.history h.keeper h.spot id v = h.each id (Sits v) at in
    let both : View = Sits (after_gather v w) in
    let there' : get_elem? s.views other ≡ some (Sits w) = sym (set_else s.views id other both apart) ∙ there in
    let g : SeatFits actors h.history h.keeper h.spot other w = h.each other (Sits w) there' in
    let keeper' : ℕ → ℕ = λ a. number (eqb (h.keeper a) other) id (h.keeper a) in
    let spot' : ℕ → Spot = λ m. brought other id (h.spot m) in
    let P : ℕ → View → Type 0 = Fits actors h.history keeper' spot' in
    let go : (j : ℕ) → j ≢ other → Goes h.history h.history h.keeper keeper' h.spot spot' j j = λ j ne. record {
      grows = grows_same h.history;
      actors = λ a e. (number-false (eqb (h.keeper a) other) id (h.keeper a) (ne_eqb (h.keeper a) other (λ q. ne (sym e ∙ q))) ∙ e, refl);
      messages = λ m _ e. brought-else other id (h.spot m) j ne e;
    } in
    let come : Goes h.history h.history h.keeper keeper' h.spot spot' other id = record {
      grows = grows_same h.history;
      actors = λ a e. (number-true (eqb (h.keeper a) other) id (h.keeper a) (eq-eqb (h.keeper a) other e), refl);
      messages = λ m _ e. brought-here other id (h.spot m) e;
    } in
    let here : id ≢ other = λ q. apart (sym q) in
    let mine : SeatFits actors h.history keeper' spot' id v = seat-goes actors h.history h.history h.keeper keeper' h.spot spot' id id (go id here) v f in
    let part : GatheredFits actors h.history keeper' spot' id (gathered_of w) = record {
      below = g.below;
      here = (come.actors w.actor g.here).0;
      own = g.own;
      held = held-goes actors h.history h.history h.keeper keeper' h.spot spot' other id come w.held g.held;
      seen = g.seen;
    } in
    let new : (k : ℕ) (p : GatheredSeat) → get_elem? v.gathered k ≡ some p → p.actor ≢ w.actor = λ k p e q. apart (sym g.here ∙ ap h.keeper (sym q) ∙ (f.gathered k p e).here) in
    record {
      history = h.history;
      keeper = keeper';
      spot = spot';
      runs = runs-moved actors s.words h.history h.spot spot' (λ n k e. brought-used other id (h.spot n) k e) h.runs;
      each = each-set P (set s.views id both) other Spent
          (λ j u ne e. ⊎_elim
          (λ (t : (j ≡ id) × (both ≡ u)). subst (λ (y : ℕ × View). P y.0 y.1) (λ i. (sym t.0 i, t.1 i))
          record {
            below = mine.below;
            here = mine.here;
            own = mine.own;
            known = mine.known;
            undealt = mine.undealt;
            gathered = parts-in (gathered_of w) v.gathered (GatheredFits actors h.history keeper' spot' id) part mine.gathered;
            others = parts-in (gathered_of w) v.gathered (λ (p : GatheredSeat). p.actor ≢ v.actor) (λ q. apart (sym g.here ∙ ap h.keeper q ∙ f.here)) f.others;
            apart = parts-apart (gathered_of w) v.gathered new f.apart;
            held = mine.held;
            seen = mine.seen;
          })
          (λ (t : (j ≢ id) × (get_elem? s.views j ≡ some u)). view-goes actors h.history h.history h.keeper keeper' h.spot spot' j j (go j ne) u (h.each j u t.1))
          (at_set s.views id j both u e))
          tt;
    }

-- the same at what the two seats are known to be
pub gathers-as : (actors id : ℕ) (me : Me (Unit {0}) View) (v : SeatView) (other : ℕ) (me' : Me (Unit {0}) View) (w : SeatView) → me ≡ (Sits v, []) → me' ≡ (Sits w, [])
    → Joins (λ (s : State (Unit {0}) View). IsKept actors s.words s.views) id me.0 other me'.0 (gather_view me.0 me'.0) Spent
gathers-as actors id me v other me' w is is' =
    subst (λ (m : Me (Unit {0}) View). Joins (λ (s : State (Unit {0}) View). IsKept actors s.words s.views) id m.0 other me'.0 (gather_view m.0 me'.0) Spent) (sym is)
    (subst (λ (m : Me (Unit {0}) View). Joins (λ (s : State (Unit {0}) View). IsKept actors s.words s.views) id (Sits v) other m.0 (gather_view (Sits v) m.0) Spent) (sym is') (gathers actors id v other w))
