-- What one seat knows once it has gathered the others, and what the table then tells.
use Rattle.std.proofs.Common.{◌≡◌, ℕ, ◌*◌, ◌≤◌, List, [], ◌∷◌, ◌++◌, length, map, Option, Some, None, refl, sym, ap, ◌∙◌, subst, ⊎_elim, arith, append_assoc}
use mathlib.Core.Option.{some, some-injective}
use lib.ListN.{get_elem?}
use Rattle.atomic_table.specs.Table.{State, Me, Final, Seen}
use Rattle.atomic_table.proofs.Lists.{at_map, at_last, at_longer}
use Rattle.actor_table.specs.declared.message.Message.{Message}
use Rattle.actor_table.specs.declared.gathered_seat.GatheredSeat.{GatheredSeat}
use Rattle.actor_table.specs.declared.held.Held.{Held}
use Rattle.actor_table.specs.declared.held.Held.TheVariants.{Nothing, Made, Arrived}
use Rattle.actor_table.specs.declared.seat_view.SeatView.{SeatView}
use Rattle.actor_table.specs.declared.view.View.{View}
use Rattle.actor_table.specs.declared.view.View.TheVariants.{Sits}
use Rattle.actor_table.specs.History.{HistoryEntry, most_entries, UsesEarlier, IsHistory}
use Rattle.actor_table.specs.Rule.{Spot, used_by, Uses, Runs, Has, HeldFits, GatheredFits, SeatFits, IsKept}
use Rattle.actor_table.specs.Steps.{gathered_of, after_gather, gather_view}
use Rattle.actor_table.specs.Values.{StageValue, SeatValue, seat_of}
use Rattle.actor_table.specs.Closed.{AreAllOf, IsUnused, HoldsUnused, AreOf, HaveHistory}
use Rattle.actor_table.proofs.Histories.{get_snoc, length-bounded}
use Rattle.actor_table.proofs.Goings.{held≢used}
use Rattle.actor_table.proofs.Counting.{Found, each-has}

pub part : SeatValue → GatheredSeat
part s = gathered_of s.at

-- the seats are those that are left and those that the last one gathered, with it
pub record Gathered (seats left : List SeatValue) (me : Me (Unit {0}) View) : Type 0 where
  pub sits : me ≡ (Sits (seat_of me.0), [])
  pub rest : List SeatValue
  pub all : seats ≡ left ++ rest
  pub parts : map part rest ≡ (seat_of me.0).gathered ++ gathered_of (seat_of me.0) ∷ []

pub begins : (seats left : List SeatValue) (t : SeatValue) (me : Me (Unit {0}) View) → seats ≡ left ++ t ∷ [] → me ≡ (Sits (seat_of me.0), []) → (seat_of me.0).gathered ≡ [] → t.at ≡ seat_of me.0 → Gathered seats left me
unfolding part
begins seats left t me all sits none_in is = record {
  sits = sits;
  rest = t ∷ [];
  all = all;
  parts = ap (λ (v : SeatView). gathered_of v ∷ []) is ∙ ap (λ gs. gs ++ gathered_of (seat_of me.0) ∷ []) (sym none_in);
}

pub goes-on : (seats left left' : List SeatValue) (t : SeatValue) (me me' now : Me (Unit {0}) View) → Gathered seats left me → left ≡ left' ++ t ∷ [] → me' ≡ (Sits t.at, []) → now ≡ (gather_view me.0 me'.0, me.1) → Gathered seats left' now
unfolding part
goes-on seats left left' t me me' now g e is came =
    let after : now ≡ (Sits (after_gather (seat_of me.0) t.at), []) = came ∙ (λ i. (gather_view (g.sits i).0 (is i).0, (g.sits i).1)) in
    let q : seat_of now.0 ≡ after_gather (seat_of me.0) t.at = ap (λ (m : Me (Unit {0}) View). seat_of m.0) after in
    record {
      sits = after ∙ ap (λ (v : SeatView). (Sits v, [])) (sym q);
      rest = t ∷ g.rest;
      all = g.all ∙ ap (λ l. l ++ g.rest) e ∙ append_assoc left' (t ∷ []) g.rest;
      parts = ap (λ gs. gathered_of t.at ∷ gs) g.parts ∙ ap (λ (v : SeatView). v.gathered ++ gathered_of v ∷ []) (sym q);
    }

-- a seat that is taken from those that are left is of the stage
pub table-in : (stage : StageValue) (seats left left' rest : List SeatValue) (t : SeatValue) → AreAllOf stage seats → seats ≡ left ++ rest → left ≡ left' ++ t ∷ [] → t.table ≡ stage.table
table-in stage seats left left' rest t all e e' =
    let k : ℕ = length left' in
    let here : get_elem? (left' ++ t ∷ []) k ≡ some t = at_last left' t k refl in
    let there : get_elem? seats k ≡ some t = ap (λ l. get_elem? l k) e ∙ at_longer left rest k t (ap (λ l. get_elem? l k) e' ∙ here) in
    all.each k t there

pub table-last : (stage : StageValue) (seats left : List SeatValue) (t : SeatValue) → AreAllOf stage seats → seats ≡ left ++ t ∷ [] → t.table ≡ stage.table
table-last stage seats left t all e = all.each (length left) t (ap (λ l. get_elem? l (length left)) e ∙ at_last left t (length left) refl)

pub no-items : (l : List SeatValue) → length l ≡ 0 → l ≡ []
no-items [] e = refl
no-items (x ∷ xs) e = absurd (omega arith)

-- ---- what the last seat knows, of all seats alike

part-fits : (actors : ℕ) (history : List HistoryEntry) (keeper : ℕ → ℕ) (spot : ℕ → Spot) (by : ℕ) (w : SeatView) → SeatFits actors history keeper spot by w → (k : ℕ) (g : GatheredSeat) → get_elem? (w.gathered ++ gathered_of w ∷ []) k ≡ some g → GatheredFits actors history keeper spot by g
part-fits actors history keeper spot by w f k g e = ⊎_elim
    (λ (t : get_elem? w.gathered k ≡ some g). f.gathered k g t)
    (λ (t : (k ≡ length w.gathered) × (gathered_of w ≡ g)). subst (GatheredFits actors history keeper spot by) t.1 record { below = f.below; here = f.here; own = f.own; held = f.held; seen = f.seen })
    (get_snoc w.gathered (gathered_of w) g k e)

parts-apart : (actors : ℕ) (history : List HistoryEntry) (keeper : ℕ → ℕ) (spot : ℕ → Spot) (by : ℕ) (w : SeatView) → SeatFits actors history keeper spot by w
    → (j k : ℕ) (g h : GatheredSeat) → get_elem? (w.gathered ++ gathered_of w ∷ []) j ≡ some g → get_elem? (w.gathered ++ gathered_of w ∷ []) k ≡ some h → g.actor ≡ h.actor → j ≡ k
parts-apart actors history keeper spot by w f j k g h e q same = ⊎_elim
    (λ (t : get_elem? w.gathered j ≡ some g). ⊎_elim
    (λ (u : get_elem? w.gathered k ≡ some h). f.apart j k g h t u same)
    (λ (u : (k ≡ length w.gathered) × (gathered_of w ≡ h)). absurd (f.others j g t (same ∙ ap (λ (x : GatheredSeat). x.actor) (sym u.1))))
    (get_snoc w.gathered (gathered_of w) h k q))
    (λ (t : (j ≡ length w.gathered) × (gathered_of w ≡ g)). ⊎_elim
    (λ (u : get_elem? w.gathered k ≡ some h). absurd (f.others k h u (sym same ∙ ap (λ (x : GatheredSeat). x.actor) (sym t.1))))
    (λ (u : (k ≡ length w.gathered) × (gathered_of w ≡ h)). t.0 ∙ sym u.0)
    (get_snoc w.gathered (gathered_of w) h k q))
    (get_snoc w.gathered (gathered_of w) g j e)

uses-earlier : (history : List HistoryEntry) (spot : ℕ → Spot) (k : ℕ) (o : Option Message) → Uses history spot k o → UsesEarlier history k o
uses-earlier history spot k None u = tt
uses-earlier history spot k (Some m) u = (u.0, u.1)

used-same : (a b : ℕ) → used_by a ≡ used_by b → a ≡ b
used-same a b e = cc

is-history : (actors : ℕ) (words : List ℕ) (history : List HistoryEntry) (spot : ℕ → Spot) → Runs actors words history spot → IsHistory actors history
is-history actors words history spot r = record {
  makers = r.makers;
  earlier = λ k e q. uses-earlier history spot k e.used (r.uses k e q);
  once = λ j k e f x y p q u v same.
      let a : Uses history spot j (Some x) = subst (Uses history spot j) u (r.uses j e p) in
      let b : Uses history spot k (Some y) = subst (Uses history spot k) v (r.uses k f q) in
      used-same j k (sym a.2 ∙ ap spot same ∙ b.2);
}

is-unused : (actors : ℕ) (words : List ℕ) (history : List HistoryEntry) (spot : ℕ → Spot) (by : ℕ) (m : Message) → Runs actors words history spot → Has history spot by m → IsUnused history m
is-unused actors words history spot by m r k = record {
  message = k.0;
  unused = λ i e x q u same.
      let a : Uses history spot i (Some x) = subst (Uses history spot i) u (r.uses i e q) in
      held≢used by i (sym k.1 ∙ ap spot (sym same) ∙ a.2);
}

holds-unused : (actors : ℕ) (words : List ℕ) (history : List HistoryEntry) (spot : ℕ → Spot) (by : ℕ) (h : Held) → Runs actors words history spot → HeldFits history spot by h → HoldsUnused history h
holds-unused actors words history spot by Nothing r f = tt
holds-unused actors words history spot by (Made m) r f = is-unused actors words history spot by m r f
holds-unused actors words history spot by (Arrived m) r f = is-unused actors words history spot by m r f

-- all that is told of the seats, over one history
pub record Closes (stage : StageValue) (seats : List SeatValue) (count : ℕ) : Type 0 where
  pub have : HaveHistory stage.actors count seats
  pub bound : count ≤ stage.actors * most_entries

pub closes : (stage : StageValue) (seats : List SeatValue) (id n : ℕ) (me : Me (Unit {0}) View) (ws : List ℕ) (xs : List (Unit {0}))
    → AreAllOf stage seats → Gathered seats [] me
    → Final (Seen (λ (s : State (Unit {0}) View). IsKept stage.actors s.words s.views) id me.0) ws xs
    → get_elem? ws 0 ≡ some n
    → Closes stage seats n
unfolding part
closes stage seats id n me ws xs all g f e =
    let w : SeatView = seat_of me.0 in
    let h : IsKept stage.actors f.0.words f.0.views = f.1.0 in
    let at : get_elem? f.0.views id ≡ some (Sits w) = f.1.1 ∙ ap (λ m. some m.0) g.sits in
    let fits : SeatFits stage.actors h.history h.keeper h.spot id w = h.each id (Sits w) at in
    let word : n ≡ length h.history = some-injective n (length h.history) (sym e ∙ ap (λ l. get_elem? l 0) (sym f.2 ∙ h.runs.word)) in
    let parts : map part seats ≡ w.gathered ++ gathered_of w ∷ [] = ap (map part) g.all ∙ g.parts in
    let there : (k : ℕ) (s : SeatValue) → get_elem? seats k ≡ some s → get_elem? (w.gathered ++ gathered_of w ∷ []) k ≡ some (gathered_of s.at) =
    λ k s q. ap (λ gs. get_elem? gs k) (sym parts) ∙ at_map part seats k s q in
    let of : (k : ℕ) (s : SeatValue) → get_elem? seats k ≡ some s → GatheredFits stage.actors h.history h.keeper h.spot id (gathered_of s.at) =
    λ k s q. part-fits stage.actors h.history h.keeper h.spot id w fits k (gathered_of s.at) (there k s q) in
    let apart : (j k : ℕ) (s t : SeatValue) → get_elem? seats j ≡ some s → get_elem? seats k ≡ some t → s.at.actor ≡ t.at.actor → j ≡ k =
    λ j k s t p q same. parts-apart stage.actors h.history h.keeper h.spot id w fits j k (gathered_of s.at) (gathered_of t.at) (there j s p) (there k t q) same in
    let small : length h.history ≤ stage.actors * most_entries = length-bounded stage.actors most_entries h.history h.runs.makers h.runs.counts in
    record {
      have = record {
        history = h.history;
        count_is = sym word;
        is_history = is-history stage.actors f.0.words h.history h.spot h.runs;
        are_of = record {
          own = λ k s q. (of k s q).own;
          actor = λ k s q. (of k s q).below;
          apart = apart;
          all = λ a lt. let x : Found a seats = each-has stage.actors seats all.count (λ k s q. (of k s q).below) apart a lt in (x.place, x.seat, x.there, x.actor);
          held = λ k s q. holds-unused stage.actors f.0.words h.history h.spot id s.at.held h.runs (of k s q).held;
          seen = λ k s q. (of k s q).seen;
        };
      };
      bound = omega (arith, word, small);
    }
