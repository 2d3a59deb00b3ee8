-- What a view knows still fits after a step that leaves it alone.
use Rattle.std.proofs.Common.{◌≡◌, ◌≢◌, ℕ, ◌<◌, ◌≤◌, Bool, true, false, List, [], ◌∷◌, ◌++◌, length, set, Option, Some, None, refl, sym, ◌∙◌, subst, ⊎_elim, arith, length-append}
use mathlib.Core.Option.{some}
use lib.ListN.{get_elem?}
use Rattle.atomic_table.proofs.Lists.{at_set, at_longer}
use Rattle.actor_table.specs.declared.message.Message.{Message}
use Rattle.actor_table.specs.declared.entry_count.EntryCount.{EntryCount}
use Rattle.actor_table.specs.declared.gathered_seat.GatheredSeat.{GatheredSeat}
use Rattle.actor_table.specs.declared.held.Held.{Held}
use Rattle.actor_table.specs.declared.held.Held.TheVariants.{Nothing, Made, Arrived}
use Rattle.actor_table.specs.declared.seat_view.SeatView.{SeatView}
use Rattle.actor_table.specs.declared.view.View.{View}
use Rattle.actor_table.specs.declared.view.View.TheVariants.{Spent, Sits, Carries}
use Rattle.actor_table.specs.History.{HistoryEntry, entries_of, IsMessage}
use Rattle.actor_table.specs.Rule.{Spot, held_by, used_by, Uses, Runs, SeenFits, Has, HeldFits, GatheredFits, SeatFits, Fits}
use Rattle.actor_table.proofs.Histories.{get_lt, entries_of-more}

pub record Grows (history now : List HistoryEntry) : Type 0 where
  pub longer : length history ≤ length now
  pub stay : (k : ℕ) (e : HistoryEntry) → get_elem? history k ≡ some e → get_elem? now k ≡ some e
  pub more : (a : ℕ) → length (entries_of a history) ≤ length (entries_of a now)

pub grows_same : (history : List HistoryEntry) → Grows history history
grows_same history = record { longer = omega arith; stay = λ k e q. q; more = λ a. omega arith }

pub grows_snoc : (history : List HistoryEntry) (e : HistoryEntry) → Grows history (history ++ e ∷ [])
grows_snoc history e = record {
  longer = omega (arith, length-append history (e ∷ []));
  stay = λ k x q. at_longer history (e ∷ []) k x q;
  more = λ a. entries_of-more a history e;
}

pub is_message-grows : (history now : List HistoryEntry) (m : Message) → Grows history now → IsMessage history m → IsMessage now m
is_message-grows history now m g i = (i.0, g.stay m.stamp i.0 i.1, i.2)

pub seen-grows : (actors : ℕ) (history now : List HistoryEntry) (c : Option EntryCount) → Grows history now → SeenFits actors history c → SeenFits actors now c
seen-grows actors history now None g f = tt
seen-grows actors history now (Some c) g f = let m = g.more c.actor in (f.0, omega (arith, m, f.1))

-- the view j goes on as the view j': its actors keep their entries, and its messages stay with it
pub record Goes (history now : List HistoryEntry) (keeper keeper' : ℕ → ℕ) (spot spot' : ℕ → Spot) (j j' : ℕ) : Type 0 where
  pub grows : Grows history now
  pub actors : (a : ℕ) → keeper a ≡ j → (keeper' a ≡ j') × (entries_of a now ≡ entries_of a history)
  pub messages : (m : ℕ) → m < length history → spot m ≡ held_by j → spot' m ≡ held_by j'

module _ (actors : ℕ) (history now : List HistoryEntry) (keeper keeper' : ℕ → ℕ) (spot spot' : ℕ → Spot) (j j' : ℕ) (go : Goes history now keeper keeper' spot spot' j j') where
  has-goes : (m : Message) → Has history spot j m → Has now spot' j' m
  has-goes m k = (is_message-grows history now m go.grows k.0, go.messages m.stamp (get_lt history m.stamp k.0.0 k.0.1) k.1)

  pub held-goes : (h : Held) → HeldFits history spot j h → HeldFits now spot' j' h
  held-goes Nothing f = tt
  held-goes (Made m) f = has-goes m f
  held-goes (Arrived m) f = has-goes m f

  pub gathered-goes : (g : GatheredSeat) → GatheredFits actors history keeper spot j g → GatheredFits actors now keeper' spot' j' g
  gathered-goes g f =
      let h = go.actors g.actor f.here in
      record { below = f.below; here = h.0; own = f.own ∙ sym h.1; held = held-goes g.held f.held; seen = seen-grows actors history now g.seen go.grows f.seen }

  pub seat-goes : (v : SeatView) → SeatFits actors history keeper spot j v → SeatFits actors now keeper' spot' j' v
  seat-goes v f =
      let h = go.actors v.actor f.here in
      record {
        below = f.below;
        here = h.0;
        own = f.own ∙ sym h.1;
        known = omega (arith, f.known, go.grows.longer);
        undealt = λ a p q. let u = f.undealt a p q in let x = go.actors a u.0 in (x.0, x.1 ∙ u.1);
        gathered = λ k g e. gathered-goes g (f.gathered k g e);
        others = f.others;
        apart = f.apart;
        held = held-goes v.held f.held;
        seen = seen-grows actors history now v.seen go.grows f.seen;
      }

  -- a view that a step leaves alone fits after it
  pub view-goes : (v : View) → Fits actors history keeper spot j v → Fits actors now keeper' spot' j' v
  view-goes Spent f = tt
  view-goes (Sits v) f = seat-goes v f
  view-goes (Carries n) f = (has-goes n.message f.0, seen-grows actors history now (Some n.count) go.grows f.1)

-- the view by is now w, and the others are as they were
pub each-set : (P : ℕ → View → Type 0) (views : List View) (by : ℕ) (w : View) → ((j : ℕ) (u : View) → j ≢ by → get_elem? views j ≡ some u → P j u) → P by w → (j : ℕ) (u : View) → get_elem? (set views by w) j ≡ some u → P j u
each-set P views by w others mine j u e =
    ⊎_elim
    (λ (x : (j ≡ by) × (w ≡ u)). subst (λ (y : ℕ × View). P y.0 y.1) (λ i. (sym x.0 i, x.1 i)) mine)
    (λ (x : (j ≢ by) × (get_elem? views j ≡ some u)). others j u x.0 x.1)
    (at_set views by j w u e)

pub held≢used : (a b : ℕ) → held_by a ≢ used_by b
held≢used a b e = cc

pub held-same : (a b : ℕ) → held_by a ≡ held_by b → a ≡ b
held-same a b e = cc

-- messages that move between views are used where they were
module _ (actors : ℕ) (words : List ℕ) (history : List HistoryEntry) (spot spot' : ℕ → Spot) (same : (n k : ℕ) → spot n ≡ used_by k → spot' n ≡ used_by k) where
  uses-moved : (k : ℕ) (o : Option Message) → Uses history spot k o → Uses history spot' k o
  uses-moved k None u = tt
  uses-moved k (Some m) u = (u.0, u.1, same m.stamp k u.2)

  pub runs-moved : Runs actors words history spot → Runs actors words history spot'
  runs-moved r = record { word = r.word; few = r.few; makers = r.makers; counts = r.counts; uses = λ k e q. uses-moved k e.used (r.uses k e q) }

-- ---- one value or another, by a test

abbrev pub pick : Bool → Spot → Spot → Spot
pick true x y = x
pick false x y = y

pub number : Bool → ℕ → ℕ → ℕ
number true x y = x
number false x y = y

pub number-true : (b : Bool) (x y : ℕ) → b ≡ true → number b x y ≡ x
unfolding number
number-true b x y e = rw e refl

pub number-false : (b : Bool) (x y : ℕ) → b ≡ false → number b x y ≡ y
unfolding number
number-false b x y e = rw e refl

pub number-less : (b : Bool) → number b 1 0 ≤ 1
unfolding number
number-less true = omega arith
number-less false = omega arith
