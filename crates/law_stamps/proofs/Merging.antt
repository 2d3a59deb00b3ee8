-- The parts of the seats of a closed stage have the entries of its history, each once.
use Rattle.std.proofs.Common.{◌≡◌, ℕ, zero, suc, ◌<◌, nat_eq, eq-eqb, ne_eqb, List, [], ◌∷◌, ◌++◌, map, reverse, refl, sym, ◌∙◌, ap, subst, inl, inr, arith}
use Rattle.std.specs.Prelude.{IsPermutation}
use Rattle.std.specs.List.{flat_map}
use Rattle.std.proofs.lemmas.List.Folds.{flat_map-map}
use Rattle.std.proofs.lemmas.List.Sorted.{IsPermutation-refl, IsPermutation-middle, IsPermutation-trans, IsPermutation-sym, IsPermutation-cons, IsPermutation-append_right, IsPermutation-map}
use Rattle.std.proofs.lemmas.Map.Keys.{IsDistinct-IsPermutation}
use mathlib.Core.Option.{some, some-injective}
use lib.ListN.{get_elem?}
use Rattle.txn_data.specs.declared.entry.Entry.{Entry}
use Rattle.txn_data.specs.declared.stamped1.Stamped1.{Stamped1}
use Rattle.txn_data.specs.declared.histories.Histories.{Histories}
use Rattle.txn_types.specs.Run.{Run}
use Rattle.law_machines.proofs.Basics.{eq_cases}
use Rattle.actor_table.specs.declared.stamped_entry.StampedEntry.{StampedEntry}
use Rattle.actor_table.proofs.Histories.{no_elem}
use Rattle.actor_table.specs.History.{HistoryEntry, with_stamp, entries_from, entries_of}
use Rattle.actor_table.specs.Closed.{HaveHistory}
use Rattle.actor_table.specs.Values.{SeatValue}
use Rattle.trace_merge.specs.Merged.{joined, stamped_of, stamps}
use Rattle.law_stamps.specs.Merging.{as_stamped, part_of, ArePartsOf, PartsMayBeMerged, PartsAreTheHistory, MergedPartsMakeARun}
use Rattle.law_stamps.proofs.Rising.{Above, Rises, one_sorted, once_each, rises_of}
use Rattle.law_stamps.proofs.Seats.{seats_run}

-- ## the history with its stamps

abbrev numbered_from : ℕ → List HistoryEntry → List Stamped1
numbered_from n [] = []
numbered_from n (e ∷ es) = as_stamped (with_stamp n e) ∷ numbered_from (suc n) es

numbered_above : (m n : ℕ) (history : List HistoryEntry) → m < n → Above m (numbered_from n history)
numbered_above m n [] lt = tt
numbered_above m n (e ∷ es) lt = (lt, numbered_above m (suc n) es (omega (arith, lt)))

numbered_rises : (n : ℕ) (history : List HistoryEntry) → Rises (numbered_from n history)
numbered_rises n [] = tt
numbered_rises n (e ∷ es) = (numbered_above n (suc n) es (omega arith), numbered_rises (suc n) es)

numbered_entries : (n : ℕ) (history : List HistoryEntry) → map (λ (s : Stamped1). s.entry) (numbered_from n history) ≡ map (λ (e : HistoryEntry). e.entry) history
numbered_entries n [] = refl
numbered_entries n (e ∷ es) = ap (λ (l : List Entry). e.entry ∷ l) (numbered_entries (suc n) es)

-- ## the entries of all seats

abbrev own_part : ℕ → List HistoryEntry → SeatValue → List Stamped1
own_part n history s = part_of (entries_from n s.at.actor history)

abbrev own_parts : ℕ → List HistoryEntry → List SeatValue → List Stamped1
own_parts n history seats = flat_map (own_part n history) seats

-- no actor has two of the seats
abbrev AreApart : List SeatValue → Type 0
AreApart seats = (j k : ℕ) (s t : SeatValue) → get_elem? seats j ≡ some s → get_elem? seats k ≡ some t → s.at.actor ≡ t.at.actor → j ≡ k

-- one of the seats is this actor's
abbrev HasSeat : ℕ → List SeatValue → Type 0
HasSeat a seats = (k : ℕ) × (s : SeatValue) × (get_elem? seats k ≡ some s) × (s.at.actor ≡ a)

part_mine : (n : ℕ) (e : HistoryEntry) (es : List HistoryEntry) (s : SeatValue) → s.at.actor ≡ e.by → own_part n (e ∷ es) s ≡ as_stamped (with_stamp n e) ∷ own_part (suc n) es s
part_mine n e es s is = rw (eq-eqb e.by s.at.actor (sym is)) refl

part_other : (n : ℕ) (e : HistoryEntry) (es : List HistoryEntry) (s : SeatValue) → (s.at.actor ≡ e.by → ⊥) → own_part n (e ∷ es) s ≡ own_part (suc n) es s
part_other n e es s not = rw (ne_eqb e.by s.at.actor (λ is. not (sym is))) refl

parts_other : (n : ℕ) (e : HistoryEntry) (es : List HistoryEntry) (seats : List SeatValue) → ((k : ℕ) (s : SeatValue) → get_elem? seats k ≡ some s → s.at.actor ≡ e.by → ⊥) → own_parts n (e ∷ es) seats ≡ own_parts (suc n) es seats
parts_other n e es [] none = refl
parts_other n e es (s ∷ seats) none =
    ap (λ (l : List Stamped1). l ++ own_parts n (e ∷ es) seats) (part_other n e es s (none 0 s refl))
    ∙ ap (λ (l : List Stamped1). own_part (suc n) es s ++ l) (parts_other n e es seats (λ k t at. none (suc k) t at))

no_parts : (n : ℕ) (seats : List SeatValue) → own_parts n [] seats ≡ []
no_parts n [] = refl
no_parts n (s ∷ seats) = no_parts n seats

later_seat : (a : ℕ) (s : SeatValue) (seats : List SeatValue) → (s.at.actor ≡ a → ⊥) → HasSeat a (s ∷ seats) → HasSeat a seats
later_seat a s seats not (zero, t, at, is) = absurd (not (ap (λ (u : SeatValue). u.at.actor) (some-injective s t at) ∙ is))
later_seat a s seats not (suc k, t, at, is) = (k, t, at, is)

-- the first entry stands in the part of its actor, and nowhere else
first_entry : (n : ℕ) (e : HistoryEntry) (es : List HistoryEntry) (seats : List SeatValue) → AreApart seats → HasSeat e.by seats
    → IsPermutation (own_parts n (e ∷ es) seats) (as_stamped (with_stamp n e) ∷ own_parts (suc n) es seats)
first_entry n e es [] apart has = absurd (no_elem has.0 has.1 has.2)
first_entry n e es (s ∷ seats) apart has =
    let x = as_stamped (with_stamp n e) in
    elim (eq_cases s.at.actor e.by) [
      | inl same ↦
          let none : (k : ℕ) (t : SeatValue) → get_elem? seats k ≡ some t → t.at.actor ≡ e.by → ⊥ = λ k t at is.
          let zero_is : 0 ≡ suc k = apart 0 (suc k) s t refl at (same.1 ∙ sym is) in omega (arith, zero_is) in
          let whole : own_parts n (e ∷ es) (s ∷ seats) ≡ x ∷ own_parts (suc n) es (s ∷ seats) =
          ap (λ (l : List Stamped1). l ++ own_parts n (e ∷ es) seats) (part_mine n e es s same.1)
          ∙ ap (λ (l : List Stamped1). x ∷ (own_part (suc n) es s ++ l)) (parts_other n e es seats none) in
          subst (IsPermutation (own_parts n (e ∷ es) (s ∷ seats))) whole (IsPermutation-refl (own_parts n (e ∷ es) (s ∷ seats)))
      | inr other ↦
          let p = own_part (suc n) es s in
          let rest = own_parts (suc n) es seats in
          let whole : own_parts n (e ∷ es) (s ∷ seats) ≡ p ++ own_parts n (e ∷ es) seats =
          ap (λ (l : List Stamped1). l ++ own_parts n (e ∷ es) seats) (part_other n e es s other.1) in
          let inner : IsPermutation (own_parts n (e ∷ es) seats) (x ∷ rest) =
          first_entry n e es seats (λ j k t u at there is. let next : suc j ≡ suc k = apart (suc j) (suc k) t u at there is in omega (arith, next)) (later_seat e.by s seats other.1 has) in
          subst (λ (l : List Stamped1). IsPermutation l (x ∷ (p ++ rest))) (sym whole)
          (IsPermutation-trans (p ++ own_parts n (e ∷ es) seats) (p ++ (x ∷ rest)) (x ∷ (p ++ rest))
          (IsPermutation-append_right p (own_parts n (e ∷ es) seats) (x ∷ rest) inner)
          (IsPermutation-middle p x rest))
    ]

-- the parts of all seats have the entries of the history
one_history : (n : ℕ) (history : List HistoryEntry) (seats : List SeatValue) → AreApart seats → ((i : ℕ) (e : HistoryEntry) → get_elem? history i ≡ some e → HasSeat e.by seats) → IsPermutation (own_parts n history seats) (numbered_from n history)
one_history n [] seats apart has = subst (λ (l : List Stamped1). IsPermutation l []) (sym (no_parts n seats)) (IsPermutation-refl [])
one_history n (e ∷ es) seats apart has =
    let x = as_stamped (with_stamp n e) in
    IsPermutation-trans (own_parts n (e ∷ es) seats) (x ∷ own_parts (suc n) es seats) (x ∷ numbered_from (suc n) es)
    (first_entry n e es seats apart (has 0 e refl))
    (IsPermutation-cons x (own_parts (suc n) es seats) (numbered_from (suc n) es) (one_history (suc n) es seats apart (λ i f at. has (suc i) f at)))

-- ## a closed stage

seat_parts : (history : List HistoryEntry) (seats : List SeatValue) → ((k : ℕ) (s : SeatValue) → get_elem? seats k ≡ some s → s.at.own ≡ entries_of s.at.actor history) → flat_map (λ (s : SeatValue). part_of s.at.own) seats ≡ own_parts 0 history seats
seat_parts history [] own = refl
seat_parts history (s ∷ seats) own =
    ap (λ (l : List StampedEntry). part_of l ++ flat_map (λ (t : SeatValue). part_of t.at.own) seats) (own 0 s refl)
    ∙ ap (λ (l : List Stamped1). own_part 0 history s ++ l) (seat_parts history seats (λ k t at. own (suc k) t at))

-- what is merged is the history with its stamps, in some order
same_entries : (actors count : ℕ) (seats : List SeatValue) (histories : Histories) → (closed : HaveHistory actors count seats) → ArePartsOf histories seats → IsPermutation (stamped_of histories) (numbered_from 0 closed.history)
same_entries actors count seats histories closed parts =
    let history = closed.history in
    let are = closed.are_of in
    let whole : stamped_of histories ≡ own_parts 0 history seats =
    ap joined parts
    ∙ flat_map-map (λ (part : List Stamped1). part) (λ (s : SeatValue). part_of s.at.own) seats
    ∙ seat_parts history seats are.own in
    subst (λ (l : List Stamped1). IsPermutation l (numbered_from 0 history)) (sym whole)
    (one_history 0 history seats are.apart (λ i e at. are.all e.by (closed.is_history.makers i e at)))

eq_flips : (a b : ℕ) → nat_eq a b ≡ nat_eq b a
eq_flips a b = elim (eq_cases a b) [
  | inl same ↦ same.0 ∙ sym (eq-eqb b a (sym same.1))
  | inr other ↦ other.0 ∙ sym (ne_eqb b a (λ is. other.1 (sym is)))
]

pub may_be_merged : PartsMayBeMerged
may_be_merged actors count seats histories closed parts =
    let whole = numbered_from 0 closed.history in
    let same = same_entries actors count seats histories closed parts in
    IsDistinct-IsPermutation nat_eq eq_flips (stamps whole) (stamps (stamped_of histories))
    (IsPermutation-map (λ (s : Stamped1). s.stamp) whole (stamped_of histories) (IsPermutation-sym (stamped_of histories) whole same))
    (once_each whole (numbered_rises 0 closed.history))

pub are_the_history : PartsAreTheHistory
are_the_history actors count seats histories list closed parts merged =
    let whole = numbered_from 0 closed.history in
    let all = stamped_of histories in
    let same = same_entries actors count seats histories closed parts in
    let order : merged.sorted ≡ whole =
    one_sorted merged.sorted whole (rises_of merged.sorted merged.rising) (numbered_rises 0 closed.history)
    (IsPermutation-trans merged.sorted all whole (IsPermutation-sym all merged.sorted merged.same) same) in
    merged.entries ∙ ap (λ (l : List Stamped1). map (λ (s : Stamped1). s.entry) l) order ∙ numbered_entries 0 closed.history

pub merged_run : MergedPartsMakeARun
merged_run config actors count name seats histories list cluster closed keep parts merged =
    subst (λ (l : List Entry). Run config (reverse l)) (sym (are_the_history actors count seats histories list closed parts merged))
    (seats_run config actors count name seats cluster closed keep)
