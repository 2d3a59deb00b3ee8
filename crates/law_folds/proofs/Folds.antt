-- What tablets show is what the fold of all commits leaves.
use Rattle.std.proofs.Common.{◌≡◌, ℕ, ◌≤◌, Bool, true, false, ◌||◌, List, [], ◌∷◌, Some, map, filter, nat_eq, refl, sym, ◌∙◌, ap, subst, inl, inr, if◌then◌else◌, arith}
use Rattle.std.specs.List.{list_any}
use Rattle.doc_path.specs.Path.{Parts, is_prefix, related}
use Rattle.txn_data.specs.declared.actor.Actor.TheVariants.{Tablet}
use Rattle.txn_data.specs.declared.committed_txn.CommittedTxn.{CommittedTxn}
use Rattle.txn_data.specs.declared.config.Config.{Config}
use Rattle.txn_data.specs.declared.place.Place.{Place}
use Rattle.txn_data.specs.declared.written.Written.{Written}
use Rattle.txn_data.specs.declared.request.Request.TheVariants as request
use Rattle.txn_data.specs.declared.reply.Reply.TheVariants as reply
use Rattle.txn_data.specs.declared.event.Event.{Event}
use Rattle.txn_data.specs.declared.event.Event.TheVariants.{Serve}
use Rattle.txn_data.specs.declared.entry.Entry.{Entry}
use Rattle.txn_types.specs.Lists.{Member}
use Rattle.txn_types.specs.History.{History, counting}
use Rattle.txn_types.specs.Committed.{Numbered, accepted_by, writes, single_by, committed, fold}
use Rattle.txn_types.specs.Plan.{IsPath, PlacesAgree}
use Rattle.txn_types.specs.Reads.{places_asked, related_writes}
use Rattle.txn_types.specs.ReadProgram.{paths_on}
use Rattle.txn_types.specs.Tablet.{writes_at}
use Rattle.txn_types.specs.Run.{Run}
use Rattle.law_machines.proofs.Basics.{eq_true, eq_cases, member_map, map_member, filter_member}
use Rattle.law_machines.proofs.Owns.{Before, After, One, in_order, counting_part}
use Rattle.law_owners.proofs.Runs.{ids_once, IsSingleOf, single_uses}
use Rattle.law_places.specs.Laws.{IsPlace}
use Rattle.law_related_writes.proofs.Related.{commits_differ}
use Rattle.law_write_numbers.specs.Laws.{IsNumbered}
use Rattle.law_write_numbers.proofs.Runs.{rise}
use Rattle.law_values.specs.Laws.{Ranked, IsOn, AreRanked}
use Rattle.law_values.proofs.Paths.{prefixes_related}
use Rattle.law_values.proofs.Folded.{versions_leave}
use Rattle.law_values.proofs.Tablets.{reads_show as rows_show}
use Rattle.law_versions.proofs.Same.{write_and_single}
use Rattle.law_folds.specs.Laws.{TabletsShowTheFold, AreStarted, ReadsShowTheFold}
use Rattle.law_folds.proofs.Ranks.{ranks, snapshot_writes, snapshot_entry, single_ranks}
use Rattle.law_folds.proofs.Made.{Snapshot, Single, kind_of, its, rank_entry, version_rank, made_at}

-- ## transactions of one time with related writes are one

any_of : {A : Type 0} (test : A → Bool) (a : A) (xs : List A) → Member a xs → test a ≡ true → list_any test xs ≡ true
any_of test a [] m is = absurd m
any_of test a (x ∷ xs) m is = elim m [
  | inl here ↦ left_true (test x) (list_any test xs) (ap test (sym here) ∙ is)
  | inr later ↦ right_true (test x) (list_any test xs) (any_of test a xs later is)
]
  where
    left_true : (a b : Bool) → a ≡ true → a || b ≡ true
    left_true true b is = refl
    left_true false b is = cc

    right_true : (a b : Bool) → b ≡ true → a || b ≡ true
    right_true true b is = refl
    right_true false b is = is

rank_write : (config : Config) (h : History) (x : CommittedTxn) (r : Ranked) → Run config h → Member x (committed h) → Member r (ranks h x) → Member r.write x.writes
rank_write config h x r run m in_it =
    subst (λ (ws : List Written). Member r.write ws) (sym (its config h x run m).writes) (member_map (λ (s : Ranked). s.write) r (ranks h x) in_it)

are_related : (config : Config) (h : History) (x y : CommittedTxn) (r s : Ranked) (q : Parts) → Run config h → Member x (committed h) → Member y (committed h) → Member r (ranks h x) → Member s (ranks h y) → IsOn q r → IsOn q s →
    related_writes x y ≡ true
are_related config h x y r s q run m n in_x in_y on over =
    any_of (λ (w : Written). list_any (related w.path) (map (λ (v : Written). v.path) y.writes)) r.write x.writes (rank_write config h x r run m in_x)
    (any_of (related r.write.path) s.write.path (map (λ (v : Written). v.path) y.writes) (member_map (λ (v : Written). v.path) s.write y.writes (rank_write config h y s run n in_y))
    (prefixes_related r.write.path s.write.path q on over))

same_txn : (config : Config) (h : History) (x y : CommittedTxn) (r s : Ranked) (q : Parts) → Run config h → PlacesAgree h → Member x (committed h) → Member y (committed h) → Member r (ranks h x) → Member s (ranks h y) → IsOn q r → IsOn q s → x.at ≡ y.at →
    x.txn ≡ y.txn
same_txn config h x y r s q run agree m n in_x in_y on over at = elim (eq_cases x.txn y.txn) [
  | inl same ↦ same.1
  | inr other ↦ absurd (commits_differ config h x y run agree m n other.1 (are_related config h x y r s q run m n in_x in_y on over) at)
]

record_same : (x y : CommittedTxn) → x.txn ≡ y.txn → x.at ≡ y.at → x.writes ≡ y.writes → x ≡ y
record_same x y txn at ws =
    ap (λ (z : ℕ). let t : CommittedTxn = record { txn = z; at = x.at; writes = x.writes } in t) txn
    ∙ (ap (λ (c : ℕ). let t : CommittedTxn = record { txn = y.txn; at = c; writes = x.writes } in t) at
    ∙ ap (λ (v : List Written). let t : CommittedTxn = record { txn = y.txn; at = y.at; writes = v } in t) ws)

single_same : (x y : CommittedTxn) (event : Event) → Member x (single_by event) → Member y (single_by event) → x ≡ y
single_same x y (Serve from (request.Single z path op seen fates) r (Some c) append) m n = elim m [
  | inl one ↦ elim n [ inl two ↦ one ∙ sym two | inr none ↦ absurd none ]
  | inr none ↦ absurd none
]
single_same x y event m n = absurd m

singles_same : (config : Config) (h : History) (x y : CommittedTxn) (e f : Entry) → Run config h → Member e (counting h) → Member f (counting h) → Member x (single_by e.event) → Member y (single_by f.event) → IsSingleOf x.txn e.event → IsSingleOf x.txn f.event → x ≡ y
singles_same config h x y e f run of_e of_f in_x in_y one two =
    elim (in_order e f h (counting_part e h of_e) (counting_part f h of_f)) [
      | Before before stands earlier ↦ absurd (ids_once config h before f x.txn run stands (single_uses x.txn f.event two) e earlier (single_uses x.txn e.event one))
      | After before stands earlier ↦ absurd (ids_once config h before e x.txn run stands (single_uses x.txn e.event one) f earlier (single_uses x.txn f.event two))
      | One same ↦ single_same x y f.event (subst (λ (g : Entry). Member x (single_by g.event)) same in_x) in_y
    ]

same_committed : (config : Config) (h : History) (x y : CommittedTxn) (r s : Ranked) → Run config h → Member x (committed h) → Member y (committed h) → Member r (ranks h x) → Member s (ranks h y) → x.txn ≡ y.txn → x.at ≡ y.at → x ≡ y
same_committed config h x y r s run m n in_x in_y txn at = elim (kind_of h x m) [
  | Snapshot one ↦ elim (kind_of h y n) [
    | Snapshot two ↦ record_same x y txn at (snapshot_writes h x one ∙ (ap (writes h) txn ∙ sym (snapshot_writes h y two)))
    | Single f counts in_it of ↦
        let k = snapshot_entry h x r one in_x in
        absurd (write_and_single config h k.1.0 f x.txn k.0.number run k.1.1 (counting_part f h counts) k.1.3.number (subst (λ (z : ℕ). IsSingleOf z f.event) (sym txn) of.single))
  ]
  | Single e counts in_it of ↦ elim (kind_of h y n) [
    | Snapshot two ↦
        let k = snapshot_entry h y s two in_y in
        absurd (write_and_single config h k.1.0 e y.txn k.0.number run k.1.1 (counting_part e h counts) k.1.3.number (subst (λ (z : ℕ). IsSingleOf z e.event) txn of.single))
    | Single f counts_f in_f of_f ↦ singles_same config h x y e f run counts counts_f in_it in_f of.single (subst (λ (z : ℕ). IsSingleOf z f.event) (sym txn) of_f.single)
  ]
]

-- ## the writes of one have numbers of their own

one_accepted : (x : ℕ) (n k : Numbered) (event : Event) → Member n (accepted_by x event) → Member k (accepted_by x event) → n ≡ k
one_accepted x n k (Serve from (request.Write meta number path op read seen fates) (reply.Written w) time append) m o = one_choice (nat_eq meta.txn x) m o
  where
    one_choice : (b : Bool) → Member n (if b then (record { number = number; write = record { path = path; op = op } }) ∷ [] else []) → Member k (if b then (record { number = number; write = record { path = path; op = op } }) ∷ [] else []) → n ≡ k
    one_choice true m o = elim m [ inl one ↦ elim o [ inl two ↦ one ∙ sym two | inr none ↦ absurd none ] | inr none ↦ absurd none ]
    one_choice false m o = absurd m
one_accepted x n k event m o = absurd m

snapshot_unique : (config : Config) (h : History) (x : CommittedTxn) (e f : Entry) (n k : Numbered) → Run config h → Member e h → Member f h → Member n (accepted_by x.txn e.event) → Member k (accepted_by x.txn f.event) →
    IsNumbered x.txn n.number e.event → IsNumbered x.txn k.number f.event → n.number ≡ k.number → n ≡ k
snapshot_unique config h x e f n k run of_e of_f in_e in_f one two same =
    elim (in_order e f h of_e of_f) [
      | Before before stands earlier ↦ let low = rise config h before e f x.txn n.number k.number run stands earlier one two in absurd (omega (arith, low, same))
      | After before stands earlier ↦ let low = rise config h before f e x.txn k.number n.number run stands earlier two one in absurd (omega (arith, low, same))
      | One here ↦ one_accepted x.txn n k f.event (subst (λ (g : Entry). Member n (accepted_by x.txn g.event)) here in_e) in_f
    ]

unique : (config : Config) (h : History) (x : CommittedTxn) (r s : Ranked) → Run config h → Member x (committed h) → Member r (ranks h x) → Member s (ranks h x) → r.number ≡ s.number → r.write ≡ s.write
unique config h x r s run m in_r in_s same = elim (kind_of h x m) [
  | Snapshot of ↦
      let n = snapshot_entry h x r of in_r in
      let k = snapshot_entry h x s of in_s in
      let numbers : n.0.number ≡ k.0.number = sym (ap (λ (z : Ranked). z.number) n.2) ∙ (same ∙ ap (λ (z : Ranked). z.number) k.2) in
      let one = snapshot_unique config h x n.1.0 k.1.0 n.0 k.0 run n.1.1 k.1.1 n.1.2 k.1.2 n.1.3.number k.1.3.number numbers in
      ap (λ (z : Ranked). z.write) n.2 ∙ (ap (λ (z : Numbered). z.write) one ∙ sym (ap (λ (z : Ranked). z.write) k.2))
  | Single e counts in_it of ↦
      let list = single_ranks config h x e run (counting_part e h counts) of.single in
      let one = of.is r (subst (λ (rs : List Ranked). Member r rs) list in_r) in
      let two = of.is s (subst (λ (rs : List Ranked). Member s rs) list in_s) in
      ap (λ (z : Ranked). z.write) (sym one ∙ two)
]

are_ranked : (config : Config) (h : History) (q : Parts) → Run config h → PlacesAgree h → AreRanked (ranks h) (committed h) q
are_ranked config h q run agree = record {
  its = λ x m. its config h x run m;
  one = λ x y r s m n in_x in_y on over at.
      let txn = same_txn config h x y r s q run agree m n in_x in_y on over at in
      subst (λ (z : CommittedTxn). Member s (ranks h z)) (sym (same_committed config h x y r s run m n in_x in_y txn at)) in_y;
  unique = λ x r s m in_r in_s on over number. unique config h x r s run m in_r in_s number;
}

-- ## so the versions leave what the fold leaves

pub tablets_show : TabletsShowTheFold
tablets_show config h k t paths vs p q run agree are m at under =
    versions_leave (ranks h) (committed h) vs t q (are_ranked config h q run agree) (record {
      known = λ r on there.
          let v = there.0 in
          let path : is_prefix v.path q ≡ true = subst (λ (z : Ranked). IsOn q z) (sym there.3) on in
          let has = version_rank config h k v run (are.known v p m (prefixes_related v.path p q path under) there.2 there.1) in
          let low = there.2 in
          let same = has.2 in
          (has.0, has.1, omega (arith, low, same), subst (λ (z : Ranked). Member z (ranks h has.0)) there.3 has.3);
      shown = λ r on there.
          let x = there.0 in
          let made = rank_entry config h x r run there.1 there.3 in
          let v = made.version in
          let path : is_prefix v.path q ≡ true = subst (λ (z : Ranked). IsOn q z) (sym made.is) on in
          let rel = prefixes_related v.path p q path under in
          let time : v.at ≡ x.at = ap (λ (z : Ranked). z.at) made.is ∙ (its config h x run there.1).time r there.3 in
          let low = there.2 in
          let up_to : v.at ≤ t = omega (arith, low, time) in
          (v, are.shown v p m rel up_to (made.entry, made.member, made_at config h k v made.entry p run agree made.member made.makes at rel, made.makes), up_to, made.is);
    })

-- ## and reads show the fold

place_at : (h : History) (places : List Place) (k : ℕ) (p : Parts) → AreStarted h places → Member p (paths_on k places) → IsPlace h (Tablet k) p
place_at h places k p started m =
    let q = map_member (λ (z : Place). z.path) p (filter (λ (z : Place). nat_eq z.tablet k) places) m in
    let f = filter_member (λ (z : Place). nat_eq z.tablet k) q.0 places q.1 in
    let s = started q.0 f.0 in
    (q.0, s.0, ap Tablet (sym (eq_true q.0.tablet k f.1)), sym q.2, subst IsPath (sym q.2) s.1)

pub reads_show : ReadsShowTheFold
reads_show config h kind line found t own run agree is started tablets each =
    rows_show kind line found (fold h t) own is tablets (λ f m.
    let shown = each f m in
    record {
      writes = writes_at t shown.0;
      rows = shown.1;
      same = λ p q in_it under. tablets_show config h f.tablet t (paths_on f.tablet (places_asked line)) shown.0 p q run agree shown.2 in_it (place_at h (places_asked line) f.tablet p started in_it) under;
    })
