-- The entries of the seats of a closed stage.
use Rattle.std.proofs.Common.{◌≡◌, ◌⊎◌, ℕ, zero, suc, ◌+◌, ◌<◌, eqb, eq-eqb, ne_eqb, Bool, false, List, [], ◌∷◌, ◌++◌, map, filter, reverse, refl, sym, ◌∙◌, ap, subst, inl, inr, ⊎_elim, arith}
use Rattle.std.proofs.lemmas.List.{reverse-append, append-nil}
use Rattle.std.proofs.lemmas.List.Elements.{filter-append}
use mathlib.Core.Option.{some}
use lib.ListN.{get_elem?}
use Rattle.txn_data.specs.declared.actor.Actor.{Actor}
use Rattle.txn_data.specs.declared.entry.Entry.{Entry}
use Rattle.txn_data.specs.declared.config.Config.{Config}
use Rattle.txn_types.specs.History.{same_actor, own}
use Rattle.law_machines.proofs.Basics.{test_cases, same_cases}
use Rattle.law_parts.specs.Parts.{OwnSteps}
use Rattle.law_parts.proofs.RunsOf.{parts_run}
use Rattle.law_stamps.proofs.Own.{own_none}
use Rattle.actor_table.specs.declared.stamped_entry.StampedEntry.{StampedEntry}
use Rattle.actor_table.specs.History.{HistoryEntry, IsHistory, with_stamp, entries_from, entries_of}
use Rattle.actor_table.specs.Closed.{AreOf}
use Rattle.actor_table.specs.Values.{SeatValue}
use Rattle.actor_table.proofs.Histories.{among}
use Rattle.law_stamps.specs.Uses.{UsesAnswered}
use Rattle.law_stamps.specs.Stamps.{merged, made, KeepsTables, SeatsKeep, SeatsMakeARun}
use Rattle.law_stamps.proofs.Matching.{below_or_at, stamps_match}

-- ## the entries of one actor, in the whole and by its seat

filter_reverse : {A : Type 0} (p : A → Bool) (l : List A) → filter p (reverse l) ≡ reverse (filter p l)
filter_reverse p [] = refl
filter_reverse p (x ∷ xs) =
    let first = ap (filter p) (reverse-append (x ∷ []) xs) ∙ filter-append p (reverse xs) (x ∷ []) ∙ ap (λ l. l ++ filter p (x ∷ [])) (filter_reverse p xs) in
    elim (test_cases (p x)) [
      | inl is ↦ first ∙ rw is (sym (reverse-append (x ∷ []) (filter p xs)))
      | inr is ↦ first ∙ rw is (append-nil (reverse (filter p xs)))
    ]

abbrev entry_in : HistoryEntry → Entry
entry_in e = e.entry

abbrev by_actor : Actor → Entry → Bool
by_actor a e = same_actor e.actor a

by_seat : (n k : ℕ) (a : Actor) (history : List HistoryEntry) → ((i : ℕ) (e : HistoryEntry) → get_elem? history i ≡ some e → same_actor e.entry.actor a ≡ eqb e.by k)
    → filter (by_actor a) (map entry_in history) ≡ map (λ (e : StampedEntry). e.entry) (entries_from n k history)
by_seat n k a [] fits = refl
by_seat n k a (x ∷ xs) fits =
    let rest = by_seat (suc n) k a xs (λ i e p. fits (suc i) e p) in
    elim (test_cases (eqb x.by k)) [
      | inl is ↦ rw (fits 0 x refl ∙ is) (rw is (ap (λ l. x.entry ∷ l) rest))
      | inr is ↦ rw (fits 0 x refl ∙ is) (rw is rest)
    ]

by_none : (a : Actor) (history : List HistoryEntry) → ((i : ℕ) (e : HistoryEntry) → get_elem? history i ≡ some e → same_actor e.entry.actor a ≡ false) → filter (by_actor a) (map entry_in history) ≡ []
by_none a [] fits = refl
by_none a (x ∷ xs) fits = rw (fits 0 x refl) (by_none a xs (λ i e p. fits (suc i) e p))

-- ## what the seats say holds of the whole

-- the entry is of the actor of its number, and used the message that it answers
record IsKept (name : ℕ → Actor) (e : HistoryEntry) : Type 0 where
  pub actor : e.entry.actor ≡ name e.by
  pub uses : UsesAnswered e.entry.actor e.entry.event e.used

kept : (config : Config) (actors : ℕ) (name : ℕ → Actor) (seats : List SeatValue) (history : List HistoryEntry) → IsHistory actors history → AreOf actors history seats → SeatsKeep config actors name seats
    → (i : ℕ) (e : HistoryEntry) → get_elem? history i ≡ some e → IsKept name e
kept config actors name seats history is are keep i e here =
    let found = are.all e.by (is.makers i e here) in
    let k = found.0 in
    let s = found.1 in
    let seat = keep.each k s found.2 in
    let stands = among 0 i history e here in
    let own_is : s.at.own ≡ entries_of e.by history = are.own k s found.2 ∙ ap (λ (a : ℕ). entries_of a history) found.3 in
    let there : get_elem? s.at.own stands.place ≡ some (with_stamp (0 + i) e) = ap (λ (l : List StampedEntry). get_elem? l stands.place) own_is ∙ stands.there in
    let actor = seat.actor stands.place (with_stamp (0 + i) e) there in
    record {
      actor = actor ∙ ap name found.3;
      uses = subst (λ (a : Actor). UsesAnswered a e.entry.event e.used) (sym actor) (seat.uses stands.place (with_stamp (0 + i) e) there);
    }

named : (name : ℕ → Actor) (a : Actor) (n : ℕ) → ((k : ℕ) × (k < n) × (name k ≡ a)) ⊎ ((k : ℕ) → k < n → name k ≡ a → ⊥)
named name a zero = inr (λ k lt is. absurd (omega (arith, lt)))
named name a (suc n) = elim (named name a n) [
  | inl found ↦ inl (found.0, omega (arith, found.1), found.2)
  | inr none ↦ elim (same_cases (name n) a) [
    | inl same ↦ inl (n, omega arith, same.1)
    | inr other ↦ inr (λ k lt is. ⊎_elim (λ low. none k low is) (λ at. other.1 (ap name (sym at) ∙ is)) (below_or_at k n lt))
  ]
]

steps_of : (config : Config) (actors : ℕ) (name : ℕ → Actor) (seats : List SeatValue) (history : List HistoryEntry) → IsHistory actors history → AreOf actors history seats → SeatsKeep config actors name seats
    → (a : Actor) → OwnSteps config a (own a (merged history))
steps_of config actors name seats history is are keep a = elim (named name a actors) [
  | inl found ↦
      let k = found.0 in
      let at = are.all k found.1 in
      let s = at.1 in
      let own_is : s.at.own ≡ entries_of k history = are.own at.0 s at.2 ∙ ap (λ (b : ℕ). entries_of b history) at.3 in
      let steps = subst (λ (b : ℕ). OwnSteps config (name b) (made s.at.own)) at.3 (keep.each at.0 s at.2).steps in
      let mine = subst (λ (l : List StampedEntry). OwnSteps config (name k) (made l)) own_is steps in
      let whole : own (name k) (merged history) ≡ made (entries_of k history) = filter_reverse (by_actor (name k)) (map entry_in history) ∙ ap reverse (by_seat 0 k (name k) history (fits k found.1)) in
      subst (λ (b : Actor). OwnSteps config b (own b (merged history))) found.2 (subst (OwnSteps config (name k)) (sym whole) mine)
  | inr none ↦
      let whole : own a (merged history) ≡ [] = filter_reverse (by_actor a) (map entry_in history) ∙ ap reverse (by_none a history (other none)) in
      subst (OwnSteps config a) (sym whole) (own_none config a)
]
  where
    fits : (k : ℕ) → k < actors → (i : ℕ) (e : HistoryEntry) → get_elem? history i ≡ some e → same_actor e.entry.actor (name k) ≡ eqb e.by k
    fits k lt i e here =
        let at = kept config actors name seats history is are keep i e here in
        let first = ap (λ (b : Actor). same_actor b (name k)) at.actor in
        elim (same_cases (name e.by) (name k)) [
          | inl same ↦ first ∙ same.0 ∙ sym (eq-eqb e.by k (keep.apart e.by k (is.makers i e here) lt same.1))
          | inr not ↦ first ∙ not.0 ∙ sym (ne_eqb e.by k (λ q. not.1 (ap name q)))
        ]

    other : ((k : ℕ) → k < actors → name k ≡ a → ⊥) → (i : ℕ) (e : HistoryEntry) → get_elem? history i ≡ some e → same_actor e.entry.actor a ≡ false
    other none i e here =
        let at = kept config actors name seats history is are keep i e here in
        elim (same_cases e.entry.actor a) [
          | inl same ↦ absurd (none e.by (is.makers i e here) (sym at.actor ∙ same.1))
          | inr not ↦ not.0
        ]

pub seats_run : SeatsMakeARun
seats_run config actors count name seats cluster closed keep =
    let history = closed.history in
    let tables : KeepsTables config history = record {
      steps = steps_of config actors name seats history closed.is_history closed.are_of keep;
      uses = λ k e here. (kept config actors name seats history closed.is_history closed.are_of keep k e here).uses;
    } in
    parts_run config (merged history) (record { cluster = cluster; actors = tables.steps; messages = stamps_match config actors history closed.is_history tables })
