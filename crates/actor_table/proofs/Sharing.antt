-- What the one history tells of the entries of all seats.
use Rattle.std.proofs.Common.{◌≡◌, ℕ, zero, suc, ◌+◌, ◌<◌, List, length, Some, refl, sym, ap, ◌∙◌, subst, arith}
use mathlib.Core.Option.{some, some-injective}
use lib.ListN.{get_elem?}
use Rattle.actor_table.specs.declared.message.Message.{Message}
use Rattle.actor_table.specs.declared.stamped_entry.StampedEntry.{StampedEntry}
use Rattle.actor_table.specs.History.{HistoryEntry, with_stamp, entries_of, message_by, IsMessage, UsesEarlier, IsHistory}
use Rattle.actor_table.specs.Rule.{SeenFits}
use Rattle.actor_table.specs.Values.{SeatValue}
use Rattle.actor_table.specs.Closed.{Stands, SharesStamps, IsMade, UsesOnce, SeesNoMore, AreOf}
use Rattle.actor_table.proofs.Histories.{get_lt, get_there, Place, placed, Among, among, entries_from-rises}

-- the entry of the history that an entry of a seat is
record Stood (history : List HistoryEntry) (actor : ℕ) (e : StampedEntry) : Type 0 where
  pub entry : HistoryEntry
  pub there : get_elem? history e.stamp ≡ some entry
  pub by : entry.by ≡ actor
  pub used : entry.used ≡ e.used

-- the entry of a seat that an entry of the history is
record Sat (seats : List SeatValue) (n : ℕ) (e : HistoryEntry) : Type 0 where
  pub seat : ℕ
  pub place : ℕ
  pub stands : Stands seats seat place (with_stamp n e)
  pub actor : stands.seat.at.actor ≡ e.by

same-number : (i l : ℕ) → (i < l → ⊥) → (l < i → ⊥) → i ≡ l
same-number zero zero a b = refl
same-number zero (suc l) a b = absurd (a (omega arith))
same-number (suc i) zero a b = absurd (b (omega arith))
same-number (suc i) (suc l) a b = ap suc (same-number i l (λ h. a (omega arith)) (λ h. b (omega arith)))

module _ (actors : ℕ) (seats : List SeatValue) (history : List HistoryEntry) (h : IsHistory actors history) (a : AreOf actors history seats) where
  own-there : (k i : ℕ) (e : StampedEntry) (s : Stands seats k i e) → get_elem? (entries_of s.seat.at.actor history) i ≡ some e
  own-there k i e s = ap (λ es. get_elem? es i) (sym (a.own k s.seat s.at)) ∙ s.there

  stood : (k i : ℕ) (e : StampedEntry) (s : Stands seats k i e) → Stood history s.seat.at.actor e
  stood k i e s =
      let p : Place 0 s.seat.at.actor history e = placed 0 s.seat.at.actor history i e (own-there k i e s) in
      let stamp : e.stamp ≡ 0 + p.at = ap (λ (x : StampedEntry). x.stamp) p.is in
      let at : p.at ≡ e.stamp = omega (arith, stamp) in
      record {
        entry = p.entry;
        there = subst (λ n. get_elem? history n ≡ some p.entry) at p.there;
        by = p.by;
        used = sym (ap (λ (x : StampedEntry). x.used) p.is);
      }

  sat : (n : ℕ) (e : HistoryEntry) → get_elem? history n ≡ some e → Sat seats n e
  sat n e q =
      let x = a.all e.by (h.makers n e q) in
      let z : 0 + n ≡ n = omega arith in
      let m : Among (entries_of e.by history) (with_stamp n e) = subst (λ k. Among (entries_of e.by history) (with_stamp k e)) z (among 0 n history e q) in
      let own : x.1.at.own ≡ entries_of e.by history = a.own x.0 x.1 x.2 ∙ ap (λ b. entries_of b history) x.3 in
      record { seat = x.0; place = m.place; stands = record { seat = x.1; at = x.2; there = ap (λ es. get_elem? es m.place) own ∙ m.there }; actor = x.3 }

  rise : (actor i l : ℕ) (e f : StampedEntry) → get_elem? (entries_of actor history) i ≡ some e → get_elem? (entries_of actor history) l ≡ some f → e.stamp ≡ f.stamp → i ≡ l
  rise actor i l e f p q same = same-number i l
      (λ lt. let up : e.stamp < f.stamp = entries_from-rises 0 actor history i l e f p q lt in omega (arith, up, same))
      (λ lt. let down : f.stamp < e.stamp = entries_from-rises 0 actor history l i f e q p lt in omega (arith, down, same))

  one-place : (j k i l : ℕ) (e f : StampedEntry) → Stands seats j i e → Stands seats k l f → e.stamp ≡ f.stamp → (j ≡ k) × (i ≡ l)
  one-place j k i l e f s t same =
      let x = stood j i e s in
      let y = stood k l f t in
      let one : x.entry ≡ y.entry = some-injective _ _ (sym x.there ∙ ap (λ n. get_elem? history n) same ∙ y.there) in
      let actor : s.seat.at.actor ≡ t.seat.at.actor = sym x.by ∙ ap (λ (z : HistoryEntry). z.by) one ∙ y.by in (
        a.apart j k s.seat t.seat s.at t.at actor,
        rise t.seat.at.actor i l e f (ap (λ b. get_elem? (entries_of b history) i) (sym actor) ∙ own-there j i e s) (own-there k l f t) same,
      )

  pub shares-stamps : SharesStamps (length history) seats
  shares-stamps = record {
    each = λ n lt.
        let e = get_there history n lt in
        let s = sat n e.0 e.1 in
        record { seat = s.seat; place = s.place; entry = with_stamp n e.0; stands = s.stands; stamp = refl };
    below = λ k i e s. let x = stood k i e s in get_lt history e.stamp x.entry x.there;
    once = one-place;
    rises = λ k i l e f s t lt.
        let one : s.seat ≡ t.seat = some-injective _ _ (sym s.at ∙ t.at) in
        entries_from-rises 0 t.seat.at.actor history i l e f (ap (λ (x : SeatValue). get_elem? (entries_of x.at.actor history) i) (sym one) ∙ own-there k i e s) (own-there k l f t) lt;
  }

  made : (k i : ℕ) (e : StampedEntry) (m : Message) → Stands seats k i e → e.used ≡ Some m → IsMade seats m × (m.stamp < e.stamp)
  made k i e m s u =
      let x = stood k i e s in
      let w : IsMessage history m × (m.stamp < e.stamp) = subst (UsesEarlier history e.stamp) (x.used ∙ u) (h.earlier e.stamp x.entry x.there) in
      let maker = sat m.stamp w.0.0 w.0.1 in (
        record {
          seat = maker.seat;
          place = maker.place;
          entry = with_stamp m.stamp w.0.0;
          stands = maker.stands;
          message = w.0.2 ∙ ap (λ b. message_by b (with_stamp m.stamp w.0.0)) (sym maker.actor);
        },
        w.1,
      )

  pub uses-once : UsesOnce seats
  uses-once = record {
    made = made;
    once = λ j k i l e f x y s t u v same.
        let p = stood j i e s in
        let q = stood k l f t in
        one-place j k i l e f s t (h.once e.stamp f.stamp p.entry q.entry x y p.there q.there (p.used ∙ u) (q.used ∙ v) same);
  }

  pub sees-no-more : SeesNoMore seats
  sees-no-more k s c at seen =
      let f : SeenFits actors history (Some c) = subst (SeenFits actors history) seen (a.seen k s at) in
      let x = a.all c.actor f.0 in
      let own : length x.1.at.own ≡ length (entries_of c.actor history) = ap length (a.own x.0 x.1 x.2 ∙ ap (λ b. entries_of b history) x.3) in
      record { place = x.0; seat = x.1; at = x.2; actor = x.3; made = omega (arith, own, f.1) }
