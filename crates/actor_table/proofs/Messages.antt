-- The steps by which a message leaves with a note, and arrives, keep the rule.
use Rattle.std.proofs.Common.{◌≡◌, ◌≢◌, ℕ, ◌<◌, eqb, eq-eqb, ne_eqb, true, List, [], length, set, Some, refl, sym, ap, ◌∙◌, subst, ⊎_elim, arith}
use mathlib.Core.Option.{some}
use lib.ListN.{get_elem?}
use Rattle.atomic_table.specs.Table.{State, Me, Splits, Joins}
use Rattle.atomic_table.proofs.Lists.{at_set, set_else}
use Rattle.actor_table.specs.declared.message.Message.{Message}
use Rattle.actor_table.specs.declared.gathered_seat.GatheredSeat.{GatheredSeat}
use Rattle.actor_table.specs.declared.held.Held.{Held}
use Rattle.actor_table.specs.declared.held.Held.TheVariants.{Nothing, Made, Arrived}
use Rattle.actor_table.specs.declared.seat_view.SeatView.{SeatView}
use Rattle.actor_table.specs.declared.note_view.NoteView.{NoteView}
use Rattle.actor_table.specs.declared.view.View.{View}
use Rattle.actor_table.specs.declared.view.View.TheVariants.{Spent, Sits, Carries}
use Rattle.actor_table.specs.History.{HistoryEntry, entries_of}
use Rattle.actor_table.specs.Rule.{Spot, held_by, used_by, SeenFits, Has, HeldFits, GatheredFits, SeatFits, Fits, IsKept}
use Rattle.actor_table.specs.Steps.{held_message, has_message, note_from, after_leave, leave_view, left_view, after_arrive, arrive_view}
use Rattle.actor_table.proofs.Histories.{no_elem, get_lt, get_snoc}
use Rattle.actor_table.proofs.Goings.{grows_same, view-goes, each-set, runs-moved, pick, held≢used, held-same}

-- the message n is now at s
moved : (ℕ → Spot) → ℕ → Spot → ℕ → Spot
moved spot n s x = pick (eqb x n) s (spot x)

moved-here : (spot : ℕ → Spot) (n : ℕ) (s : Spot) → moved spot n s n ≡ s
unfolding moved
moved-here spot n s = rw (eq-eqb n n refl) refl

moved-else : (spot : ℕ → Spot) (n : ℕ) (s : Spot) (x : ℕ) (t : Spot) → spot n ≢ t → spot x ≡ t → moved spot n s x ≡ t
unfolding moved
moved-else spot n s x t ne e = let apart : x ≢ n = λ q. ne (ap spot (sym q) ∙ e) in rw (ne_eqb x n apart) e

held-has : (history : List HistoryEntry) (spot : ℕ → Spot) (by : ℕ) (h : Held) → has_message h ≡ true → HeldFits history spot by h → Has history spot by (held_message h)
held-has history spot by Nothing e f = absurd (cc)
held-has history spot by (Made m) e f = f
held-has history spot by (Arrived m) e f = f

-- a seat that gathered no other knows nothing of others that could fail
none-fit : (actors : ℕ) (history : List HistoryEntry) (keeper : ℕ → ℕ) (spot : ℕ → Spot) (by : ℕ) (gs : List GatheredSeat) → gs ≡ [] → (k : ℕ) (g : GatheredSeat) → get_elem? gs k ≡ some g → GatheredFits actors history keeper spot by g
none-fit actors history keeper spot by gs none_in k g e = absurd (no_elem k g (subst (λ (xs : List GatheredSeat). get_elem? xs k ≡ some g) none_in e))

leaves : (actors id : ℕ) (v : SeatView) → v.gathered ≡ [] → has_message v.held ≡ true → Splits (λ (s : State (Unit {0}) View). IsKept actors s.words s.views) id (Sits v) (leave_view (Sits v)) (left_view (Sits v))
leaves actors id v none_in holds s h at =
    let f : SeatFits actors h.history h.keeper h.spot id v = h.each id (Sits v) at in
    let m : Message = held_message v.held in
    let k : Has h.history h.spot id m = held-has h.history h.spot id v.held holds f.held in
    let left : View = Sits (after_leave v) in
    let right : View = Carries (note_from v) in
    let new : ℕ = length (set s.views id left) in
    let spot' : ℕ → Spot = moved h.spot m.stamp (held_by new) in
    let P : ℕ → View → Type 0 = Fits actors h.history h.keeper spot' in
    record {
      history = h.history;
      keeper = h.keeper;
      spot = spot';
      runs = runs-moved actors s.words h.history h.spot spot' (λ n j e. moved-else h.spot m.stamp (held_by new) n (used_by j) (λ q. held≢used id j (sym k.1 ∙ q)) e) h.runs;
      each = λ j u e. ⊎_elim
          (λ (t : get_elem? (set s.views id left) j ≡ some u). each-set P s.views id left
          (λ i x ne g. view-goes actors h.history h.history h.keeper h.keeper h.spot spot' i i record {
            grows = grows_same h.history;
            actors = λ a there. (there, refl);
            messages = λ n _ q. moved-else h.spot m.stamp (held_by new) n (held_by i) (λ r. ne (held-same i id (sym r ∙ k.1))) q;
          } x (h.each i x g))
          record { below = f.below; here = f.here; own = f.own; known = f.known; undealt = f.undealt; gathered = none-fit actors h.history h.keeper spot' id v.gathered none_in; others = f.others; apart = f.apart; held = tt; seen = f.seen }
          j u t)
          (λ (t : (j ≡ new) × (right ≡ u)). subst (λ (y : ℕ × View). P y.0 y.1) (λ i. (sym t.0 i, t.1 i))
          ((k.0, moved-here h.spot m.stamp (held_by new)), (f.below, (let e : length v.own ≡ length (entries_of v.actor h.history) = ap length f.own in omega arith))))
          (get_snoc (set s.views id left) right u j e);
    }

-- the same at what a seat is known to be
pub leaves-as : (actors id : ℕ) (me : Me (Unit {0}) View) (v : SeatView) → me ≡ (Sits v, []) → v.gathered ≡ [] → has_message v.held ≡ true → Splits (λ (s : State (Unit {0}) View). IsKept actors s.words s.views) id me.0 (leave_view me.0) (left_view me.0)
leaves-as actors id me v is a b = subst (λ (m : Me (Unit {0}) View). Splits (λ (s : State (Unit {0}) View). IsKept actors s.words s.views) id m.0 (leave_view m.0) (left_view m.0)) (sym is) (leaves actors id v a b)

arrives : (actors id : ℕ) (v : SeatView) (other : ℕ) (n : NoteView) → v.gathered ≡ [] → Joins (λ (s : State (Unit {0}) View). IsKept actors s.words s.views) id (Sits v) other (Carries n) (arrive_view (Sits v) (Carries n)) Spent
arrives actors id v other n none_in s h at apart there =
    let f : SeatFits actors h.history h.keeper h.spot id v = h.each id (Sits v) at in
    let both : View = Sits (after_arrive v n) in
    let there' : get_elem? s.views other ≡ some (Carries n) = sym (set_else s.views id other both apart) ∙ there in
    let g : Has h.history h.spot other n.message × SeenFits actors h.history (Some n.count) = h.each other (Carries n) there' in
    let m : ℕ = n.message.stamp in
    let given : m < length h.history = get_lt h.history m g.0.0.0 g.0.0.1 in
    let spot' : ℕ → Spot = moved h.spot m (held_by id) in
    let P : ℕ → View → Type 0 = Fits actors h.history h.keeper spot' in
    record {
      history = h.history;
      keeper = h.keeper;
      spot = spot';
      runs = runs-moved actors s.words h.history h.spot spot' (λ x j e. moved-else h.spot m (held_by id) x (used_by j) (λ q. held≢used other j (sym g.0.1 ∙ q)) e) h.runs;
      each = each-set P (set s.views id both) other Spent
          (λ j u ne e. ⊎_elim
          (λ (t : (j ≡ id) × (both ≡ u)). subst (λ (y : ℕ × View). P y.0 y.1) (λ i. (sym t.0 i, t.1 i))
          record {
            below = f.below;
            here = f.here;
            own = f.own;
            known = omega (arith, f.known, given);
            undealt = f.undealt;
            gathered = none-fit actors h.history h.keeper spot' id v.gathered none_in;
            others = f.others;
            apart = f.apart;
            held = (g.0.0, moved-here h.spot m (held_by id));
            seen = g.1;
          })
          (λ (t : (j ≢ id) × (get_elem? s.views j ≡ some u)). view-goes actors h.history h.history h.keeper h.keeper h.spot spot' j j record {
            grows = grows_same h.history;
            actors = λ a here. (here, refl);
            messages = λ x _ q. moved-else h.spot m (held_by id) x (held_by j) (λ r. ne (held-same j other (sym r ∙ g.0.1))) q;
          } u (h.each j u t.1))
          (at_set s.views id j both u e))
          tt;
    }

-- the same at what a seat and a note are known to be
pub arrives-as : (actors id : ℕ) (me : Me (Unit {0}) View) (v : SeatView) (other : ℕ) (me' : Me (Unit {0}) View) (n : NoteView) → me ≡ (Sits v, []) → me' ≡ (Carries n, []) → v.gathered ≡ []
    → Joins (λ (s : State (Unit {0}) View). IsKept actors s.words s.views) id me.0 other me'.0 (arrive_view me.0 me'.0) Spent
arrives-as actors id me v other me' n is is' a =
    subst (λ (m : Me (Unit {0}) View). Joins (λ (s : State (Unit {0}) View). IsKept actors s.words s.views) id m.0 other me'.0 (arrive_view m.0 me'.0) Spent) (sym is)
    (subst (λ (m : Me (Unit {0}) View). Joins (λ (s : State (Unit {0}) View). IsKept actors s.words s.views) id (Sits v) other m.0 (arrive_view (Sits v) m.0) Spent) (sym is') (arrives actors id v other n a))
