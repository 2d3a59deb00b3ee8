-- The step that stamps an entry keeps the rule.
use Rattle.std.proofs.Common.{◌≡◌, ◌≢◌, ℕ, suc, ◌+◌, ◌*◌, ◌%◌, ◌<◌, ◌≤◌, eqb, eq-eqb, ne_eqb, List, [], ◌∷◌, ◌++◌, length, Option, Some, None, refl, sym, ap, ◌∙◌, subst, ⊎_elim, arith, length-append, mul-le-mul_right}
use Rattle.std.specs.Prelude.{slice_index, slice_set}
use mathlib.Core.Option.{some, none}
use mathlib.Core.Logic.{dite}
use native.Mathlib.Decide.{ℕ_discrete}
use lib.ListN.{get_elem?}
use Rattle.atomic_table.specs.Table.{State, Me, step, keeps, Allows}
use Rattle.atomic_table.proofs.Lists.{at_last}
use Rattle.txn_data.specs.declared.entry.Entry.{Entry}
use Rattle.actor_table.specs.declared.message.Message.{Message}
use Rattle.actor_table.specs.declared.gathered_seat.GatheredSeat.{GatheredSeat}
use Rattle.actor_table.specs.declared.held.Held.{Held}
use Rattle.actor_table.specs.declared.held.Held.TheVariants.{Nothing, Made, Arrived}
use Rattle.actor_table.specs.declared.seat_view.SeatView.{SeatView}
use Rattle.actor_table.specs.declared.view.View.{View}
use Rattle.actor_table.specs.declared.view.View.TheVariants.{Sits}
use Rattle.actor_table.specs.History.{HistoryEntry, most_actors, most_entries, with_stamp, entries_of, message_of}
use Rattle.actor_table.specs.Rule.{Spot, held_by, used_by, Uses, Runs, Has, HeldFits, SeatFits, Fits, IsKept}
use Rattle.actor_table.specs.Steps.{arrived, after_act, IsBelow, AreBelow, Acts}
use Rattle.actor_table.proofs.Histories.{no_elem, get_lt, get_snoc, entries_of-other, entries_of-mine, entries_of-below, length-bounded}
use Rattle.actor_table.proofs.Goings.{grows_snoc, is_message-grows, seen-grows, view-goes, each-set, held≢used, held-same, pick}

-- where messages are once the entry n has used one
spot_used : Option Message → ℕ → (ℕ → Spot) → ℕ → Spot
spot_used None n spot x = spot x
spot_used (Some m) n spot x = pick (eqb x m.stamp) (used_by n) (spot x)

-- and once its own message is with the view by
spot_acted : Option Message → ℕ → ℕ → (ℕ → Spot) → ℕ → Spot
spot_acted used n by spot x = pick (eqb x n) (held_by by) (spot_used used n spot x)

module _ (spot : ℕ → Spot) (n by : ℕ) where
  spot_new : (used : Option Message) → spot_acted used n by spot n ≡ held_by by
  unfolding spot_acted
  spot_new used = rw (eq-eqb n n refl) refl

  spot_old : (used : Option Message) (m : ℕ) → m < n → spot_acted used n by spot m ≡ spot_used used n spot m
  unfolding spot_acted
  spot_old used m h = let ne : m ≢ n = λ e. omega arith in rw (ne_eqb m n ne) refl

  spot_stays : (used : Option Message) (m : ℕ) (s : Spot) → ((u : Message) → used ≡ Some u → spot u.stamp ≢ s) → spot m ≡ s → spot_used used n spot m ≡ s
  unfolding spot_used
  spot_stays None m s ne e = e
  spot_stays (Some u) m s ne e = let apart : m ≢ u.stamp = λ q. ne u refl (ap spot (sym q) ∙ e) in rw (ne_eqb m u.stamp apart) e

  spot_uses : (u : Message) → spot_used (Some u) n spot u.stamp ≡ used_by n
  unfolding spot_used
  spot_uses u = rw (eq-eqb u.stamp u.stamp refl) refl

arrived-has : (history : List HistoryEntry) (spot : ℕ → Spot) (by : ℕ) (h : Held) → HeldFits history spot by h → (u : Message) → arrived h ≡ Some u → Has history spot by u
arrived-has history spot by Nothing f u e = absurd (cc)
arrived-has history spot by (Made m) f u e = absurd (cc)
arrived-has history spot by (Arrived m) f u e = let q : m ≡ u = cc in subst (Has history spot by) q f

arrived-below : (history : List HistoryEntry) (spot : ℕ → Spot) (by : ℕ) (h : Held) → HeldFits history spot by h → IsBelow (length history) (arrived h)
arrived-below history spot by Nothing f = tt
arrived-below history spot by (Made m) f = tt
arrived-below history spot by (Arrived m) f = get_lt history m.stamp f.0.0 f.0.1

module _ (history : List HistoryEntry) (spot : ℕ → Spot) (by : ℕ) (entry : HistoryEntry) (held : Held) (used_is : entry.used ≡ arrived held) (f : HeldFits history spot by held) where
  abbrev now : List HistoryEntry
  now = history ++ entry ∷ []

  abbrev spot' : ℕ → Spot
  spot' = spot_acted (arrived held) (length history) by spot

  old-use : (k : ℕ) (o : Option Message) → Uses history spot k o → Uses now spot' k o
  old-use k None u = tt
  old-use k (Some m) u =
      let lt = get_lt history m.stamp u.0.0 u.0.1 in (
        is_message-grows history (history ++ entry ∷ []) m (grows_snoc history entry) u.0,
        u.1,
        spot_old spot (length history) by (arrived held) m.stamp lt
            ∙ spot_stays spot (length history) by (arrived held) m.stamp (used_by k) (λ x e q. held≢used by k (sym (arrived-has history spot by held f x e).1 ∙ q)) u.2,
      )

  new-use : (o : Option Message) → o ≡ arrived held → Uses now spot' (length history) o
  new-use None e = tt
  new-use (Some m) e =
      let k = arrived-has history spot by held f m (sym e) in
      let lt = get_lt history m.stamp k.0.0 k.0.1 in (
        is_message-grows history (history ++ entry ∷ []) m (grows_snoc history entry) k.0,
        lt,
        spot_old spot (length history) by (arrived held) m.stamp lt ∙ subst (λ (o : Option Message). spot_used o (length history) spot m.stamp ≡ used_by (length history)) e (spot_uses spot (length history) by m),
      )

  uses-after : ((k : ℕ) (e : HistoryEntry) → get_elem? history k ≡ some e → Uses history spot k e.used) → (k : ℕ) (e : HistoryEntry) → get_elem? now k ≡ some e → Uses now spot' k e.used
  uses-after h k e q = ⊎_elim
      (λ (t : get_elem? history k ≡ some e). old-use k e.used (h k e t))
      (λ (t : (k ≡ length history) × (entry ≡ e)). subst (λ (y : ℕ × HistoryEntry). Uses now spot' y.0 y.1.used) (λ i. (sym t.0 i, t.1 i)) (new-use entry.used used_is))
      (get_snoc history entry e k q)

  messages-after : (j : ℕ) → j ≢ by → (m : ℕ) → m < length history → spot m ≡ held_by j → spot' m ≡ held_by j
  messages-after j ne m lt e = spot_old spot (length history) by (arrived held) m lt
      ∙ spot_stays spot (length history) by (arrived held) m (held_by j) (λ x q r. ne (held-same j by (sym r ∙ (arrived-has history spot by held f x q).1))) e

  made-after : Has now spot' by (message_of (length history) entry)
  made-after = ((entry, at_last history entry (length history) refl, refl), spot_new spot (length history) by (arrived held))

abbrev entry_by : SeatView → Entry → HistoryEntry
entry_by v e = record { by = v.actor; entry = e; used = arrived v.held }

-- the next value of the word is one more
word-fits : (n k : ℕ) → n ≤ k * most_entries → k ≤ most_actors → (n + 1) % 18446744073709551616 ≡ suc n
word-fits n k h le =
    let p : k * most_entries ≤ most_actors * most_entries = mul-le-mul_right most_entries le in
    let q : n ≤ 72057594037927936 = omega arith in
    omega arith

stamp-bound : (n k : ℕ) → suc n ≤ k * most_entries → k ≤ most_actors → n < most_actors * most_entries
stamp-bound n k h le = let p : k * most_entries ≤ most_actors * most_entries = mul-le-mul_right most_entries le in omega arith

counts-after : (m : ℕ) (history : List HistoryEntry) (e : HistoryEntry) → length (entries_of e.by history) ≡ m → m < most_entries → ((a : ℕ) → length (entries_of a history) ≤ most_entries) → (a : ℕ) → length (entries_of a (history ++ e ∷ [])) ≤ most_entries
counts-after m history e is lt h a = dite (ℕ_discrete a e.by)
    (λ q. subst (λ (b : ℕ). length (entries_of b (history ++ e ∷ [])) ≤ most_entries) (sym q) (omega (arith, ap length (entries_of-mine history e), length-append (entries_of e.by history) (with_stamp (length history) e ∷ []))))
    (λ ne. omega (arith, ap length (entries_of-other a history e ne), h a))

pub acts-allowed : (actors slots id : ℕ) (v : SeatView) (e : Entry) → v.gathered ≡ [] → v.next ≡ v.actor → length v.own < most_entries
    → Allows (λ (s : State (Unit {0}) View). IsKept actors s.words s.views) slots id (Sits v, []) 0 (λ n. (n + 1) % 18446744073709551616) (Acts e (step slots 0 1 0 none) (Sits v, []))
acts-allowed actors slots id v e none_in all_dealt room s h len at fits =
    let f : SeatFits actors h.history h.keeper h.spot id v = h.each id (Sits v) at in
    let entry : HistoryEntry = entry_by v e in
    let history' : List HistoryEntry = h.history ++ entry ∷ [] in
    let n : ℕ = length h.history in
    let w : SeatView = after_act n e v in
    let spot' : ℕ → Spot = spot_acted (arrived v.held) n id h.spot in
    let word : slice_index s.words 0 ≡ n = ap (λ ws. slice_index ws 0) h.runs.word in
    let small : n ≤ actors * most_entries = length-bounded actors most_entries h.history h.runs.makers h.runs.counts in
    let longer : length history' ≡ suc n = omega (arith, length-append h.history (entry ∷ [])) in
    let mine : entries_of v.actor history' ≡ entries_of v.actor h.history ++ with_stamp n entry ∷ [] = entries_of-mine h.history entry in
    let words' : slice_set s.words 0 ((slice_index s.words 0 + 1) % 18446744073709551616) ≡ length history' ∷ [] =
    ap (λ k. slice_set s.words 0 ((k + 1) % 18446744073709551616)) word ∙ ap (λ k. slice_set s.words 0 k) (word-fits n actors small h.runs.few) ∙ ap (λ ws. slice_set ws 0 (suc n)) h.runs.word ∙ ap (λ k. k ∷ []) (sym longer) in
    let runs : Runs actors (slice_set s.words 0 ((slice_index s.words 0 + 1) % 18446744073709551616)) history' spot' = record {
      word = words';
      few = h.runs.few;
      makers = λ k x g. ⊎_elim (λ (t : get_elem? h.history k ≡ some x). h.runs.makers k x t) (λ (t : (k ≡ n) × (entry ≡ x)). subst (λ (y : HistoryEntry). y.by < actors) t.1 f.below) (get_snoc h.history entry x k g);
      counts = λ a. counts-after (length v.own) h.history entry (ap length (sym f.own)) room h.runs.counts a;
      uses = uses-after h.history h.spot id entry v.held refl f.held h.runs.uses;
    } in
    let small' : length history' ≤ actors * most_entries = length-bounded actors most_entries history' runs.makers runs.counts in (
      Sits w,
      keeps,
      tt,
      record {
        history = history';
        keeper = h.keeper;
        spot = spot';
        runs = runs;
        each = each-set (Fits actors history' h.keeper spot') s.views id (Sits w)
            (λ j u ne g. view-goes actors h.history history' h.keeper h.keeper h.spot spot' j j record {
              grows = grows_snoc h.history entry;
              actors = λ a there. (there, entries_of-other a h.history entry (λ q. ne (sym there ∙ ap h.keeper q ∙ f.here)));
              messages = messages-after h.history h.spot id entry v.held refl f.held j ne;
            } u (h.each j u g))
            record {
              below = f.below;
              here = f.here;
              own = ap (λ t. t ++ with_stamp n entry ∷ []) f.own ∙ sym mine;
              known = omega (arith, longer);
              undealt = λ a p q. absurd (omega arith);
              gathered = λ k g x. absurd (no_elem k g (subst (λ (gs : List GatheredSeat). get_elem? gs k ≡ some g) none_in x));
              others = f.others;
              apart = f.apart;
              held = made-after h.history h.spot id entry v.held refl f.held;
              seen = seen-grows actors h.history history' v.seen (grows_snoc h.history entry) f.seen;
            };
      },
      subst (λ (k : ℕ). Acts e (step slots 0 1 0 none) (Sits v, []) k (Sits w, [])) (sym word) (
        refl,
        record {
          rises = subst (AreBelow n) (sym f.own) (entries_of-below v.actor h.history);
          later = f.known;
          answers = arrived-below h.history h.spot id v.held f.held;
          bound = stamp-bound n actors (omega (arith, longer, small')) h.runs.few;
        },
      ),
    )

-- the same at what a seat is known to be
pub acts-as : (actors slots id : ℕ) (me : Me (Unit {0}) View) (v : SeatView) (e : Entry) → me ≡ (Sits v, []) → v.gathered ≡ [] → v.next ≡ v.actor → length v.own < most_entries
    → Allows (λ (s : State (Unit {0}) View). IsKept actors s.words s.views) slots id me 0 (λ n. (n + 1) % 18446744073709551616) (Acts e (step slots 0 1 0 none) me)
acts-as actors slots id me v e is a b c = subst (λ (m : Me (Unit {0}) View). Allows (λ (s : State (Unit {0}) View). IsKept actors s.words s.views) slots id m 0 (λ n. (n + 1) % 18446744073709551616) (Acts e (step slots 0 1 0 none) m)) (sym is) (acts-allowed actors slots id v e a b c)
