-- The table at the start, and the step that makes the seat of the next actor.
use Rattle.std.proofs.Common.{◌≡◌, ◌≢◌, ℕ, zero, suc, ◌<◌, ◌≤◌, eqb, eq-eqb, ne_eqb, List, [], ◌∷◌, ◌++◌, length, set, refl, sym, ap, ◌∙◌, subst, ⊎_elim, arith}
use mathlib.Core.Option.{some, some-injective}
use lib.ListN.{get_elem?}
use Rattle.atomic_table.specs.Table.{State, Me, Splits}
use Rattle.atomic_table.specs.Seated.{TableId}
use Rattle.actor_table.specs.declared.gathered_seat.GatheredSeat.{GatheredSeat}
use Rattle.actor_table.specs.declared.seat_view.SeatView.{SeatView}
use Rattle.actor_table.specs.declared.view.View.{View}
use Rattle.actor_table.specs.declared.view.View.TheVariants.{Sits}
use Rattle.actor_table.specs.Rule.{used_by, SeatFits, Fits, IsKept}
use Rattle.actor_table.specs.Steps.{newcomer, opening_view, deal_view, dealt_view}
use Rattle.actor_table.specs.Values.{SeatValue, fresh, fresh_seats, seat_of}
use Rattle.actor_table.proofs.Histories.{no_elem, get_snoc}
use Rattle.actor_table.proofs.Goings.{grows_same, view-goes, each-set, number, number-true, number-false}

pub opening-kept : (actors : ℕ) → 0 < actors → actors ≤ 65536 → IsKept actors (0 ∷ []) (opening_view actors ∷ [])
opening-kept actors pos few = record {
  history = [];
  keeper = λ a. 0;
  spot = λ m. used_by 0;
  runs = record { word = refl; few = few; makers = λ k e q. absurd (no_elem k e q); counts = λ a. omega arith; uses = λ k e q. absurd (no_elem k e q) };
  each = one;
}
  where
    one : (by : ℕ) (v : View) → get_elem? (opening_view actors ∷ []) by ≡ some v → Fits actors [] (λ a. 0) (λ m. used_by 0) by v
    one zero v e = subst (Fits actors [] (λ a. 0) (λ m. used_by 0) 0) (some-injective _ _ e)
        record {
          below = omega arith;
          here = refl;
          own = refl;
          known = omega arith;
          undealt = λ a p q. (refl, refl);
          gathered = λ k g x. absurd (no_elem k g x);
          others = λ k g x. absurd (no_elem k g x);
          apart = λ j k g h x y. absurd (no_elem j g x);
          held = tt;
          seen = tt;
        }
    one (suc by) v e = absurd (no_elem by v e)

deals : (actors id : ℕ) (v : SeatView) → v.gathered ≡ [] → v.next < v.actor → Splits (λ (s : State (Unit {0}) View). IsKept actors s.words s.views) id (Sits v) (deal_view (Sits v)) (dealt_view (Sits v))
deals actors id v none_in lt s h at =
    let f : SeatFits actors h.history h.keeper h.spot id v = h.each id (Sits v) at in
    let left : View = deal_view (Sits v) in
    let right : View = dealt_view (Sits v) in
    let new : ℕ = length (set s.views id left) in
    let keeper' : ℕ → ℕ = λ a. number (eqb a v.next) new (h.keeper a) in
    let was : (a : ℕ) → a ≢ v.next → keeper' a ≡ h.keeper a = λ a ne. number-false (eqb a v.next) new (h.keeper a) (ne_eqb a v.next ne) in
    let at_next = f.undealt v.next (omega arith) lt in
    let P : ℕ → View → Type 0 = Fits actors h.history keeper' h.spot in
    record {
      history = h.history;
      keeper = keeper';
      spot = h.spot;
      runs = h.runs;
      each = λ j u e. ⊎_elim
          (λ (t : get_elem? (set s.views id left) j ≡ some u). each-set P s.views id left
          (λ i x ne g. view-goes actors h.history h.history h.keeper keeper' h.spot h.spot i i record {
            grows = grows_same h.history;
            actors = λ a there. (was a (λ q. ne (sym there ∙ ap h.keeper q ∙ at_next.0)) ∙ there, refl);
            messages = λ m _ k. k;
          } x (h.each i x g))
          record {
            below = f.below;
            here = was v.actor (λ q. omega arith) ∙ f.here;
            own = f.own;
            known = f.known;
            undealt = λ a p q. let x = f.undealt a (omega arith) q in (was a (λ y. omega arith) ∙ x.0, x.1);
            gathered = λ k g x. absurd (no_elem k g (subst (λ (gs : List GatheredSeat). get_elem? gs k ≡ some g) none_in x));
            others = f.others;
            apart = f.apart;
            held = f.held;
            seen = f.seen;
          } j u t)
          (λ (t : (j ≡ new) × (right ≡ u)). subst (λ (y : ℕ × View). P y.0 y.1) (λ i. (sym t.0 i, t.1 i))
          record {
            below = omega (arith, f.below);
            here = number-true (eqb v.next v.next) new (h.keeper v.next) (eq-eqb v.next v.next refl);
            own = sym at_next.1;
            known = omega arith;
            undealt = λ a p q. absurd (omega arith);
            gathered = λ k g x. absurd (no_elem k g x);
            others = λ k g x. absurd (no_elem k g x);
            apart = λ i k g x y z. absurd (no_elem i g y);
            held = tt;
            seen = tt;
          })
          (get_snoc (set s.views id left) right u j e);
    }

-- the same at what a seat is known to be
pub deals-as : (actors id : ℕ) (me : Me (Unit {0}) View) (v : SeatView) → me ≡ (Sits v, []) → v.gathered ≡ [] → v.next < v.actor → Splits (λ (s : State (Unit {0}) View). IsKept actors s.words s.views) id me.0 (deal_view me.0) (dealt_view me.0)
deals-as actors id me v is a b = subst (λ (m : Me (Unit {0}) View). Splits (λ (s : State (Unit {0}) View). IsKept actors s.words s.views) id m.0 (deal_view m.0) (dealt_view m.0)) (sym is) (deals actors id v a b)

-- the first seat is dealt last
pub all-dealt : (t table : TableId) (me : Me (Unit {0}) View) (items : List SeatValue) (last k : ℕ) {actors : ℕ} → t ≡ table → me ≡ (Sits (newcomer last k), []) → items ≡ fresh_seats table k → last ≡ k → suc k ≡ actors
    → items ++ record { table = t; at = seat_of me.0 } ∷ [] ≡ fresh_seats table actors
all-dealt t table me items last k {actors} same is so end count =
    let it : seat_of me.0 ≡ newcomer k k = ap (λ (m : Me (Unit {0}) View). seat_of m.0) is ∙ ap (λ a. newcomer a k) end in
    let one : SeatValue = record { table = t; at = seat_of me.0 } in
    let e : one ≡ fresh table k = λ i. record { table = same i; at = it i } in
    ap (λ l. l ++ one ∷ []) so ∙ ap (λ x. fresh_seats table k ++ x ∷ []) e ∙ ap (fresh_seats table) count
