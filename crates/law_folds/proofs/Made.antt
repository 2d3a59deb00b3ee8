-- Each rank of a committed transaction is that of a version that an entry made, and the other way round.
use Rattle.std.proofs.Common.{◌≡◌, ℕ, Bool, true, false, List, [], ◌∷◌, ◌++◌, Some, map, nat_eq, refl, sym, ◌∙◌, ap, subst, inl, inr, if◌then◌else◌}
use Rattle.doc_path.specs.Path.{Parts, related}
use Rattle.txn_data.specs.declared.actor.Actor.TheVariants.{Tablet}
use Rattle.txn_data.specs.declared.committed_txn.CommittedTxn.{CommittedTxn}
use Rattle.txn_data.specs.declared.config.Config.{Config}
use Rattle.txn_data.specs.declared.version.Version.{Version}
use Rattle.txn_data.specs.declared.written.Written.{Written}
use Rattle.txn_data.specs.declared.request.Request.TheVariants as request
use Rattle.txn_data.specs.declared.reply.Reply.TheVariants as reply
use Rattle.txn_data.specs.declared.event.Event.{Event}
use Rattle.txn_data.specs.declared.event.Event.TheVariants.{Serve}
use Rattle.txn_data.specs.declared.entry.Entry.{Entry}
use Rattle.txn_types.specs.Lists.{Member}
use Rattle.txn_types.specs.History.{History, own, counting}
use Rattle.txn_types.specs.Committed.{Numbered, accepted_by, snapshot_by, single_by, committed_snapshots, committed}
use Rattle.txn_types.specs.Plan.{PlacesAgree, first_part}
use Rattle.txn_types.specs.Run.{Run}
use Rattle.law_machines.proofs.Basics.{eq_refl, member_cases, member_left, member_right, flat_member, member_flat}
use Rattle.law_machines.proofs.Owns.{counting_part}
use Rattle.law_owners.proofs.Runs.{IsSingleOf}
use Rattle.law_places.specs.Laws.{IsPlace}
use Rattle.law_related_writes.proofs.Writes.{Made}
use Rattle.law_related_writes.proofs.Related.{first_same, made_place}
use Rattle.law_values.specs.Laws.{Ranked, rank, AreItsRanks}
use Rattle.law_versions.specs.Laws.{MakesVersion, IsMadeIn}
use Rattle.law_versions.proofs.Same.{by}
use Rattle.law_folds.proofs.Ranks.{ranks, first, its_snapshot, its_single, snapshot_entry, accepted_rank, single_ranks}

-- ## committed transactions and single writes

-- a committed single write, and the version that it made
pub record SingleOf (h : History) (x : CommittedTxn) (e : Entry) (event : Event) : Type 0 where
  pub version : Version
  pub single : IsSingleOf x.txn event
  pub at : version.at ≡ x.at
  pub makes : Member e (counting h) → MakesVersion h version e event
  pub is : (r : Ranked) → Member r (map (first x.at) x.writes) → rank version ≡ r

single_event : (h : History) (x : CommittedTxn) (e : Entry) (event : Event) → Member x (single_by event) → SingleOf h x e event
single_event h x e (Serve from (request.Single y path op seen fates) r (Some c) append) m = elim m [
  | inl is ↦ subst (λ (z : CommittedTxn). SingleOf h z e (Serve from (request.Single y path op seen fates) r (Some c) append)) (sym is) (record {
    version = record { path = path; at = c; wrote = c; number = 0; op = op };
    single = refl;
    at = refl;
    makes = λ counts. (refl, counts);
    is = λ s k. elim k [ inl here ↦ sym here | inr none ↦ absurd none ];
  })
  | inr none ↦ absurd none
]
single_event h x e event m = absurd m

pub data Kind (h : History) (x : CommittedTxn) : Type 0 where
  Snapshot : Member x (committed_snapshots h) → Kind h x
  Single : (e : Entry) → Member e (counting h) → Member x (single_by e.event) → SingleOf h x e e.event → Kind h x

pub kind_of : (h : History) (x : CommittedTxn) → Member x (committed h) → Kind h x
unfolding committed committed_snapshots
kind_of h x m =
    let e = flat_member (λ (f : Entry). snapshot_by h f.event ++ single_by f.event) x (counting h) m in
    elim (member_cases x (snapshot_by h e.0.event) (single_by e.0.event) e.2) [
      | inl snapshot ↦ Snapshot (member_flat (λ (f : Entry). snapshot_by h f.event) e.0 x (counting h) e.1 snapshot)
      | inr single ↦ Single e.0 e.1 single (single_event h x e.0 e.0.event single)
    ]

snapshot_committed : (h : History) (x : CommittedTxn) → Member x (committed_snapshots h) → Member x (committed h)
unfolding committed committed_snapshots
snapshot_committed h x m =
    let e = flat_member (λ (f : Entry). snapshot_by h f.event) x (counting h) m in
    member_flat (λ (f : Entry). snapshot_by h f.event ++ single_by f.event) e.0 x (counting h) e.1 (member_left x (snapshot_by h e.0.event) (single_by e.0.event) e.2)

single_committed : (h : History) (x : CommittedTxn) (e : Entry) → Member e (counting h) → Member x (single_by e.event) → Member x (committed h)
unfolding committed
single_committed h x e m of = member_flat (λ (f : Entry). snapshot_by h f.event ++ single_by f.event) e x (counting h) m (member_right x (snapshot_by h e.event) (single_by e.event) of)

pub its : (config : Config) (h : History) (x : CommittedTxn) → Run config h → Member x (committed h) → AreItsRanks (ranks h x) x
its config h x run m = elim (kind_of h x m) [
  | Snapshot of ↦ its_snapshot h x of
  | Single e counts in_it of ↦ its_single config h x e run (counting_part e h counts) of.single
]

-- ## from a rank to an entry

-- an entry made a version of this rank
pub record IsRanked (h : History) (x : CommittedTxn) (r : Ranked) : Type 0 where
  pub version : Version
  pub entry : Entry
  pub member : Member entry h
  pub makes : MakesVersion h version entry entry.event
  pub is : rank version ≡ r

pub rank_entry : (config : Config) (h : History) (x : CommittedTxn) (r : Ranked) → Run config h → Member x (committed h) → Member r (ranks h x) → IsRanked h x r
rank_entry config h x r run m in_it = elim (kind_of h x m) [
  | Snapshot of ↦
      let n = snapshot_entry h x r of in_it in
      let a = n.1.3 in
      record { version = a.version; entry = n.1.0; member = n.1.1; makes = a.makes (x, of, refl, refl); is = a.is ∙ sym n.2 }
  | Single e counts single of ↦
      let listed : Member r (map (first x.at) x.writes) = subst (λ (rs : List Ranked). Member r rs) (single_ranks config h x e run (counting_part e h counts) of.single) in_it in
      record { version = of.version; entry = e; member = counting_part e h counts; makes = of.makes counts; is = of.is r listed }
]

-- ## and back

-- a committed transaction has the rank of the version
abbrev pub HasRank : History → Version → Type 0
HasRank h v = (x : CommittedTxn) × Member x (committed h) × (x.at ≡ v.at) × Member (rank v) (ranks h x)

accepted_own : (b : Bool) (n : Numbered) → b ≡ true → Member n (if b then n ∷ [] else [])
accepted_own true n is = inl refl
accepted_own false n is = cc

rank_event : (config : Config) (h : History) (v : Version) (e : Entry) (event : Event) → Run config h → Member e h → e.event ≡ event → MakesVersion h v e event → HasRank h v
rank_event config h v e (Serve from (request.Write meta number path op read seen fates) (reply.Written w) time append) run m is makes =
    let y = makes.1.0 in
    let n : Numbered = record { number = number; write = record { path = path; op = op } } in
    let own : nat_eq meta.txn y.txn ≡ true = subst (λ (z : ℕ). nat_eq z y.txn ≡ true) makes.1.2 (eq_refl y.txn) in
    let of : Member n (accepted_by y.txn e.event) = subst (λ (ev : Event). Member n (accepted_by y.txn ev)) (sym is) (accepted_own (nat_eq meta.txn y.txn) n own) in
    let r : Ranked = record { at = y.at; number = number; write = record { path = path; op = op } } in
    let same : r ≡ rank v = ap (λ (c : ℕ). let s : Ranked = record { at = c; number = number; write = record { path = path; op = op } } in s) makes.1.3 ∙ sym (ap rank makes.0) in
    (y, snapshot_committed h y makes.1.1, makes.1.3, subst (λ (s : Ranked). Member s (ranks h y)) same (accepted_rank h y n e m of))
rank_event config h v e (Serve from (request.Single x path op seen fates) r (Some c) append) run m is makes =
    let w : Written = record { path = path; op = op } in
    let y : CommittedTxn = record { txn = x; at = c; writes = w ∷ [] } in
    let of : Member y (single_by e.event) = subst (λ (ev : Event). Member y (single_by ev)) (sym is) (inl refl) in
    let single : IsSingleOf x e.event = subst (λ (ev : Event). IsSingleOf x ev) (sym is) refl in
    let listed : Member (first c w) (ranks h y) = subst (λ (rs : List Ranked). Member (first c w) rs) (sym (single_ranks config h y e run m single)) (inl refl) in
    (y, single_committed h y e makes.1 of, sym (ap (λ (u : Version). u.at) makes.0), subst (λ (s : Ranked). Member s (ranks h y)) (sym (ap rank makes.0)) listed)
rank_event config h v e event run m is makes = absurd makes

pub version_rank : (config : Config) (h : History) (k : ℕ) (v : Version) → Run config h → IsMadeIn h h k v → HasRank h v
version_rank config h k v run made = rank_event config h v made.0 made.0.event run made.1 refl made.3

-- ## at the tablet of the path

pub made_at : (config : Config) (h : History) (k : ℕ) (v : Version) (e : Entry) (p : Parts) → Run config h → PlacesAgree h → Member e h → MakesVersion h v e e.event → IsPlace h (Tablet k) p → related v.path p ≡ true → e.actor ≡ Tablet k
made_at config h k v e p run agree m makes at rel =
    let who = by h v e e.event makes in
    let x : CommittedTxn = record { txn = who.txn; at = v.at; writes = [] } in
    let made : Made h x v.path = record { entry = e; member = m; writes = who.writes } in
    let a = made_place config h x v.path made run in
    let first_of = ap (λ (q : Parts). first_part q) a.3 ∙ (first_same v.path p a.4 at.4 rel ∙ ap (λ (q : Parts). first_part q) (sym at.3)) in
    a.2 ∙ (ap Tablet (agree a.0 at.0 a.1 at.1 first_of) ∙ sym at.2)
