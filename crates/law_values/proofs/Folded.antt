-- What the versions leave is what the fold leaves.
use Rattle.std.proofs.Common.{◌≡◌, ℕ, ◌≤◌, Bool, true, false, ◌&&◌, ◌||◌, List, [], ◌∷◌, Option, map, filter, flat_map, nat_lt, nat_le, nat_eq, refl, sym, ◌∙◌, subst, inl, inr, arith}
use Rattle.std.proofs.lemmas.Bool.{or_cases, and_parts, ltb-true, ltb-false, leb-true, le-leb}
use Rattle.doc_path.specs.Path.{Parts}
use Rattle.txn_data.specs.declared.committed_txn.CommittedTxn.{CommittedTxn}
use Rattle.txn_data.specs.declared.written.Written.{Written}
use Rattle.txn_types.specs.Lists.{Member, or_else, sorted_by}
use Rattle.txn_types.specs.Writes.{last_word}
use Rattle.txn_types.specs.Committed.{commits_before, fold_of}
use Rattle.txn_types.specs.Tablet.{writes_at}
use Rattle.law_machines.proofs.Basics.{eq_true, eq_cases, member_filter, filter_member, sorted_from}
use Rattle.law_values.specs.Laws.{Ranked, IsUpTo, IsOn, InOrder, IsInSome, IsRankOf, AreItsRanks, AreRanked, VersionsLeaveTheFold}
use Rattle.law_values.proofs.Orders.{Sorts, sorted_into, sorted_order}
use Rattle.law_values.proofs.Over.{last_after}
use Rattle.law_values.proofs.Last.{IsLast, NoWord, Word, AreUnique, last_same, last_of, IsSome, last_in, last_version}

-- ## of one transaction it is the write with the greatest number

order_in : (x : CommittedTxn) (ranks all : List Ranked) → ((r : Ranked) → Member r all → r.at ≡ x.at) → ((r : Ranked) → Member r ranks → Member r all) → InOrder (λ (r s : Ranked). r.number ≤ s.number) ranks → InOrder IsUpTo ranks
order_in x [] all time part order = tt
order_in x (r ∷ ranks) all time part order = (
  λ s m. inr (time r (part r (inl refl)) ∙ sym (time s (part s (inr m))), order.0 s m),
  order_in x ranks all time (λ s m. part s (inr m)) order.1,
)

its_last : (x : CommittedTxn) (ranks : List Ranked) (p : Parts) → AreItsRanks ranks x → IsLast p (λ r. Member r ranks) (last_word x.writes p)
its_last x ranks p its =
    subst (λ (ws : List Written). IsLast p (λ r. Member r ranks) (last_word ws p)) (sym its.writes)
    (last_of p (IsSome (λ (r : Ranked). r) ranks) (λ r. Member r ranks) (last_word (map (λ (r : Ranked). r.write) ranks) p)
    (λ r on there. subst (λ (s : Ranked). Member s ranks) there.2 there.1) (λ r on m. (r, m, refl))
    (last_in (λ (r : Ranked). r) p ranks (order_in x ranks ranks its.time (λ r m. m) its.order)))

-- ## of several it is one of the last that has a word

abbrev InOne : (CommittedTxn → List Ranked) → List CommittedTxn → Ranked → Type 0
InOne ranks xs r = (x : CommittedTxn) × Member x xs × Member r (ranks x)

-- what AreRanked asks of these transactions
abbrev One : (CommittedTxn → List Ranked) → List CommittedTxn → Parts → Type 0
One ranks xs p = (x y : CommittedTxn) (r s : Ranked) → Member x xs → Member y xs → Member r (ranks x) → Member s (ranks y) → IsOn p r → IsOn p s → x.at ≡ y.at → Member s (ranks x)

none_later : (o : Option Written) (ranks : CommittedTxn → List Ranked) (p : Parts) (y : CommittedTxn) (xs : List CommittedTxn) → ((r : Ranked) → InOne ranks xs r → IsOn p r → ⊥) → IsLast p (λ r. Member r (ranks y)) o →
    IsLast p (InOne ranks (y ∷ xs)) o
none_later o ranks p y xs none first = last_of p (λ r. Member r (ranks y)) (InOne ranks (y ∷ xs)) o (λ r on m. (y, inl refl, m)) (λ r on there. elim there.1 [
  | inl here ↦ subst (λ (x : CommittedTxn). Member r (ranks x)) here there.2
  | inr later ↦ absurd (none r (there.0, later, there.2) on)
]) first

fold_more : (o first : Option Written) (ranks : CommittedTxn → List Ranked) (p : Parts) (y : CommittedTxn) (xs : List CommittedTxn) → ((x : CommittedTxn) → Member x (y ∷ xs) → AreItsRanks (ranks x) x) → One ranks (y ∷ xs) p →
    ((x : CommittedTxn) → Member x xs → y.at ≤ x.at) → IsLast p (λ r. Member r (ranks y)) first → IsLast p (InOne ranks xs) o → IsLast p (InOne ranks (y ∷ xs)) (or_else o first)
fold_more o first ranks p y xs its one below own (NoWord is none) =
    subst (λ (u : Option Written). IsLast p (InOne ranks (y ∷ xs)) (or_else u first)) (sym is) (none_later first ranks p y xs none own)
fold_more o first ranks p y xs its one below own (Word r is in_it on most) =
    subst (λ (u : Option Written). IsLast p (InOne ranks (y ∷ xs)) (or_else u first)) (sym is)
    (Word r refl (in_it.0, inr in_it.1, in_it.2) on (λ s there over. elim there.1 [
      | inl here ↦
          let s_in : Member s (ranks y) = subst (λ (x : CommittedTxn). Member s (ranks x)) here there.2 in
          let low = below in_it.0 in_it.1 in
          let at_r = (its in_it.0 (inr in_it.1)).time r in_it.2 in
          let at_s = (its y (inl refl)).time s s_in in
          elim (eq_cases in_it.0.at y.at) [
            | inl same ↦ most s (in_it.0, in_it.1, one in_it.0 y r s (inr in_it.1) (inl refl) in_it.2 s_in on over same.1) over
            | inr apart ↦ let other = apart.1 in inl (omega (arith, low, at_r, at_s, other))
          ]
      | inr later ↦ most s (there.0, later, there.2) over
    ]))

fold_last : (ranks : CommittedTxn → List Ranked) (p : Parts) (xs : List CommittedTxn) → ((x : CommittedTxn) → Member x xs → AreItsRanks (ranks x) x) → One ranks xs p → InOrder (λ (x y : CommittedTxn). x.at ≤ y.at) xs →
    IsLast p (InOne ranks xs) (last_word (flat_map (λ (x : CommittedTxn). x.writes) xs) p)
unfolding last_word
fold_last ranks p [] its one order = NoWord refl (λ r there on. absurd there.1)
fold_last ranks p (y ∷ xs) its one order =
    let rest = flat_map (λ (x : CommittedTxn). x.writes) xs in
    subst (λ (o : Option Written). IsLast p (InOne ranks (y ∷ xs)) o) (sym (last_after y.writes rest p))
    (fold_more (last_word rest p) (last_word y.writes p) ranks p y xs its one order.0 (its_last y (ranks y) p (its y (inl refl)))
    (fold_last ranks p xs (λ x m. its x (inr m)) (λ x z r s m n. one x z r s (inr m) (inr n)) order.1))

-- ## so of the fold

commit_first : (x y : CommittedTxn) → commits_before x y ≡ true → x.at ≤ y.at
commit_first x y is = elim (or_cases (nat_lt x.at y.at) (nat_eq x.at y.at && nat_le x.txn y.txn) is) [
  | inl low ↦ let less = ltb-true x.at y.at low in omega (arith, less)
  | inr tie ↦ let same = eq_true x.at y.at (and_parts (nat_eq x.at y.at) (nat_le x.txn y.txn) tie).0 in omega (arith, same)
]

pub first_not : (a b : Bool) → a || b ≡ false → a ≡ false
first_not true b is = cc
first_not false b is = refl

commit_second : (x y : CommittedTxn) → commits_before x y ≡ false → y.at ≤ x.at
commit_second x y is = ltb-false x.at y.at (first_not (nat_lt x.at y.at) (nat_eq x.at y.at && nat_le x.txn y.txn) is)

commits_sort : Sorts commits_before (λ (x y : CommittedTxn). x.at ≤ y.at)
commits_sort = record { first = commit_first; second = commit_second; through = λ x y z low high. omega (arith, low, high) }

folded_last : (ranks : CommittedTxn → List Ranked) (xs : List CommittedTxn) (t : ℕ) (p : Parts) → AreRanked ranks xs p → IsLast p (IsInSome ranks xs t) (last_word (fold_of xs t) p)
unfolding fold_of
folded_last ranks xs t p ranked =
    let up_to = λ (x : CommittedTxn). nat_le x.at t in
    let list = sorted_by commits_before (filter up_to xs) in
    let from : (x : CommittedTxn) → Member x list → Member x xs × (up_to x ≡ true) = λ x m. filter_member up_to x xs (sorted_from commits_before x (filter up_to xs) m) in
    last_of p (InOne ranks list) (IsInSome ranks xs t) (last_word (flat_map (λ (x : CommittedTxn). x.writes) list) p)
    (λ r on there. let f = from there.0 there.1 in (there.0, f.0, leb-true there.0.at t f.1, there.2))
    (λ r on there. (there.0, sorted_into commits_before there.0 (filter up_to xs) (member_filter up_to there.0 xs there.1 (le-leb there.0.at t there.2)), there.3))
    (fold_last ranks p list (λ x m. ranked.its x (from x m).0) (λ x y r s m n. ranked.one x y r s (from x m).0 (from y n).0)
    (sorted_order commits_before (λ (x y : CommittedTxn). x.at ≤ y.at) commits_sort (filter up_to xs)))

some_unique : (ranks : CommittedTxn → List Ranked) (xs : List CommittedTxn) (t : ℕ) (p : Parts) → AreRanked ranks xs p → AreUnique p (IsInSome ranks xs t)
some_unique ranks xs t p ranked r s one two on over at number =
    let times : one.0.at ≡ two.0.at = sym ((ranked.its one.0 one.1).time r one.3) ∙ (at ∙ (ranked.its two.0 two.1).time s two.3) in
    ranked.unique one.0 r s one.1 one.3 (ranked.one one.0 two.0 r s one.1 two.1 one.3 two.3 on over times) on over number

pub versions_leave : VersionsLeaveTheFold
versions_leave ranks xs vs t p ranked same =
    last_same p (IsInSome ranks xs t) (last_word (writes_at t vs) p) (last_word (fold_of xs t) p) (some_unique ranks xs t p ranked)
    (last_of p (IsRankOf vs t) (IsInSome ranks xs t) (last_word (writes_at t vs) p) same.known same.shown (last_version vs t p))
    (folded_last ranks xs t p ranked)
