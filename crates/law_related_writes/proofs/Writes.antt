-- Each write of a committed transaction was made by an entry.
use Rattle.std.proofs.Common.{◌≡◌, ℕ, Bool, true, false, ◌||◌, [], ◌∷◌, ◌++◌, Some, map, flat_map, nat_le, nat_eq, refl, sym, ap, subst, inl, inr, if◌then◌else◌}
use Rattle.std.specs.List.{list_any}
use Rattle.doc_path.specs.Path.{Parts, is_prefix, related}
use Rattle.txn_data.specs.declared.committed_txn.CommittedTxn.{CommittedTxn}
use Rattle.txn_data.specs.declared.written.Written.{Written}
use Rattle.txn_data.specs.declared.request.Request.TheVariants as request
use Rattle.txn_data.specs.declared.reply.Reply.TheVariants as reply
use Rattle.txn_data.specs.declared.event.Event.{Event}
use Rattle.txn_data.specs.declared.event.Event.TheVariants.{Serve}
use Rattle.txn_data.specs.declared.entry.Entry.{Entry}
use Rattle.txn_types.specs.Lists.{Member, sorted_by}
use Rattle.txn_types.specs.History.{History, own, counting}
use Rattle.txn_types.specs.Committed.{Numbered, accepted_by, writes, snapshot_by, single_by, committed_snapshots, committed}
use Rattle.txn_types.specs.Reads.{related_writes}
use Rattle.law_machines.proofs.Basics.{eq_true, member_cases, map_member, flat_member, member_flat, any_member, sorted_from}
use Rattle.law_fates.specs.Laws.{CommittedAt}
use Rattle.law_machines.proofs.Owns.{counting_part}
use Rattle.law_open_txns.specs.Transaction.{IsWriteOf}
use Rattle.law_write_order.specs.Laws.{IsCommittedWrite}

-- ## relation goes both ways

or_back : (a b : Bool) → a || b ≡ true → b || a ≡ true
or_back true true is = refl
or_back true false is = refl
or_back false true is = refl
or_back false false is = is

pub related_back : (p q : Parts) → related p q ≡ true → related q p ≡ true
related_back p q is = or_back (is_prefix p q) (is_prefix q p) is

-- ## related writes are writes on related paths

pub record Pair (x y : CommittedTxn) : Type 0 where
  pub one : Written
  pub two : Written
  pub of_one : Member one x.writes
  pub of_two : Member two y.writes
  pub related : related one.path two.path ≡ true

pub pair_of : (x y : CommittedTxn) → related_writes x y ≡ true → Pair x y
pair_of x y is =
    let a = any_member (λ (w : Written). list_any (related w.path) (map (λ (v : Written). v.path) y.writes)) x.writes is in
    let b = any_member (related a.0.path) (map (λ (v : Written). v.path) y.writes) a.2 in
    let v = map_member (λ (w : Written). w.path) b.0 y.writes b.1 in
    record { one = a.0; two = v.0; of_one = a.1; of_two = v.1; related = subst (λ (p : Parts). related a.0.path p ≡ true) v.2 b.2 }

-- ## the entry that made a write

accepted_choice : (b : Bool) (x : ℕ) (txn : ℕ) (n k : Numbered) → nat_eq txn x ≡ b → Member n (if b then k ∷ [] else []) → (txn ≡ x) × (n ≡ k)
accepted_choice true x txn n k same m = elim m [ inl is ↦ (eq_true txn x same, is) | inr none ↦ absurd none ]
accepted_choice false x txn n k same m = absurd m

accepted_event : (h : History) (x c : ℕ) (e : Entry) (event : Event) (n : Numbered) → CommittedAt h x c → Member n (accepted_by x event) → IsCommittedWrite h x c n.write.path e event × IsWriteOf x event
accepted_event h x c e (Serve from (request.Write meta number path op read seen fates) (reply.Written at) time append) n committed m =
    let is = accepted_choice (nat_eq meta.txn x) x meta.txn n (record { number = number; write = record { path = path; op = op } }) refl m in
    ((is.0, sym (ap (λ (k : Numbered). k.write.path) is.1), committed), is.0)
accepted_event h x c e event n committed m = absurd m

-- an entry of a transaction's own, with the path
pub record Made (h : History) (x : CommittedTxn) (path : Parts) : Type 0 where
  pub entry : Entry
  pub member : Member entry h
  pub writes : IsCommittedWrite h x.txn x.at path entry entry.event

-- of a snapshot transaction each was made by a write of it
snapshot_made : (h : History) (x : CommittedTxn) (w : Written) (event : Event) → Member x (snapshot_by h event) → CommittedAt h x.txn x.at → Member w x.writes → (m : Made h x w.path) × IsWriteOf x.txn m.entry.event
unfolding writes
snapshot_made h x w (Serve from (request.Commit y floor tablets) r (Some c) append) m committed of = elim m [
  | inl is ↦
      let n = map_member (λ (k : Numbered). k.write) w (sorted_by (λ (a b : Numbered). nat_le a.number b.number) (flat_map (λ (e : Entry). accepted_by y e.event) h)) (subst (λ (z : CommittedTxn). Member w z.writes) is of) in
      let f = flat_member (λ (e : Entry). accepted_by y e.event) n.0 h (sorted_from (λ (a b : Numbered). nat_le a.number b.number) n.0 (flat_map (λ (e : Entry). accepted_by y e.event) h) n.1) in
      let own : x.txn ≡ y = ap (λ (z : CommittedTxn). z.txn) is in
      let made = accepted_event h y x.at f.0 f.0.event n.0 (subst (λ (z : ℕ). CommittedAt h z x.at) own committed) f.2 in (
        record {
          entry = f.0;
          member = f.1;
          writes = subst (λ (z : ℕ). IsCommittedWrite h z x.at w.path f.0 f.0.event) (sym own) (subst (λ (v : Written). IsCommittedWrite h y x.at v.path f.0 f.0.event) (sym n.2) made.0);
        },
        subst (λ (z : ℕ). IsWriteOf z f.0.event) (sym own) made.1,
      )
  | inr none ↦ absurd none
]
snapshot_made h x w event m committed of = absurd m

single_event : (h : History) (x : CommittedTxn) (w : Written) (e : Entry) (event : Event) → Member e (counting h) → Member x (single_by event) → Member w x.writes → IsCommittedWrite h x.txn x.at w.path e event
single_event h x w e (Serve from (request.Single y path op seen fates) r (Some c) append) counts m of = elim m [
  | inl is ↦ elim (subst (λ (z : CommittedTxn). Member w z.writes) is of) [
    | inl here ↦ (sym (ap (λ (z : CommittedTxn). z.txn) is), sym (ap (λ (v : Written). v.path) here), sym (ap (λ (z : CommittedTxn). z.at) is), counts)
    | inr none ↦ absurd none
  ]
  | inr none ↦ absurd none
]
single_event h x w e event counts m of = absurd m

snapshot_at : (h : History) (x : CommittedTxn) → Member x (committed_snapshots h) → CommittedAt h x.txn x.at
snapshot_at h x m = (x, m, refl, refl)

pub made_by_snapshot : (h : History) (x : CommittedTxn) (w : Written) → Member x (committed_snapshots h) → Member w x.writes → (m : Made h x w.path) × IsWriteOf x.txn m.entry.event
unfolding committed_snapshots
made_by_snapshot h x w m of =
    let e = flat_member (λ (f : Entry). snapshot_by h f.event) x (counting h) m in
    snapshot_made h x w e.0.event e.2 (snapshot_at h x m) of

pub made_by : (h : History) (x : CommittedTxn) (w : Written) → Member x (committed h) → Member w x.writes → Made h x w.path
unfolding committed committed_snapshots
made_by h x w m of =
    let e = flat_member (λ (f : Entry). snapshot_by h f.event ++ single_by f.event) x (counting h) m in
    elim (member_cases x (snapshot_by h e.0.event) (single_by e.0.event) e.2) [
      | inl snapshot ↦ (made_by_snapshot h x w (member_flat (λ (f : Entry). snapshot_by h f.event) e.0 x (counting h) e.1 snapshot) of).0
      | inr single ↦ record { entry = e.0; member = counting_part e.0 h e.1; writes = single_event h x w e.0 e.0.event e.1 single of }
    ]
