-- The writes of a committed transaction with what ranks them, and the entries that made them.
use Rattle.std.proofs.Common.{◌≡◌, ℕ, ◌≤◌, Bool, true, false, List, [], ◌∷◌, Some, map, nat_eq, refl, sym, ◌∙◌, ap, subst, inl, inr, if◌then◌else◌, arith}
use Rattle.std.proofs.lemmas.Bool.{leb-true, leb-false}
use Rattle.txn_data.specs.declared.committed_txn.CommittedTxn.{CommittedTxn}
use Rattle.txn_data.specs.declared.config.Config.{Config}
use Rattle.txn_data.specs.declared.version.Version.{Version}
use Rattle.txn_data.specs.declared.written.Written.{Written}
use Rattle.txn_data.specs.declared.request.Request.TheVariants as request
use Rattle.txn_data.specs.declared.reply.Reply.TheVariants as reply
use Rattle.txn_data.specs.declared.event.Event.{Event}
use Rattle.txn_data.specs.declared.event.Event.TheVariants.{Serve}
use Rattle.txn_data.specs.declared.entry.Entry.{Entry}
use Rattle.txn_types.specs.Lists.{Member, sorted_by}
use Rattle.txn_types.specs.History.{History, counting}
use Rattle.txn_types.specs.Committed.{Numbered, accepted_by, writes, snapshot_by, committed_snapshots}
use Rattle.txn_types.specs.Run.{Run}
use Rattle.law_machines.proofs.Basics.{eq_true, map_member, member_map, flat_member, member_flat, sorted_from}
use Rattle.law_owners.proofs.Runs.{IsSingleOf}
use Rattle.law_fates.specs.Laws.{CommittedAt}
use Rattle.law_write_numbers.specs.Laws.{IsNumbered}
use Rattle.law_values.specs.Laws.{Ranked, rank, InOrder, AreItsRanks}
use Rattle.law_values.proofs.Orders.{Sorts, sorted_into, sorted_order}
use Rattle.law_write_numbers.proofs.Numbers.{all_accepted, by_number}
use Rattle.law_versions.specs.Laws.{MakesVersion}
use Rattle.law_versions.proofs.Same.{write_and_single}

-- ## ranks

abbrev pub numbered : History → ℕ → List Numbered
numbered h x = sorted_by by_number (all_accepted h x)

abbrev pub ranked : ℕ → Numbered → Ranked
ranked c n = record { at = c; number = n.number; write = n.write }

abbrev pub first : ℕ → Written → Ranked
first c w = record { at = c; number = 0; write = w }

-- by the numbers of its accepted writes; a single write has no such, and is the first
abbrev ranks_from : CommittedTxn → List Numbered → List Ranked
ranks_from x [] = map (first x.at) x.writes
ranks_from x (n ∷ ns) = map (ranked x.at) (n ∷ ns)

abbrev pub ranks : History → CommittedTxn → List Ranked
ranks h x = ranks_from x (numbered h x.txn)

abbrev write_of : Ranked → Written
write_of r = r.write

first_writes : (c : ℕ) (ws : List Written) → ws ≡ map write_of (map (first c) ws)
first_writes c [] = refl
first_writes c (w ∷ ws) = ap (λ (more : List Written). w ∷ more) (first_writes c ws)

ranked_writes : (c : ℕ) (ns : List Numbered) → map (λ (n : Numbered). n.write) ns ≡ map write_of (map (ranked c) ns)
ranked_writes c [] = refl
ranked_writes c (n ∷ ns) = ap (λ (more : List Written). n.write ∷ more) (ranked_writes c ns)

abbrev NumbersUp : List Ranked → Type 0
NumbersUp rs = InOrder (λ (r s : Ranked). r.number ≤ s.number) rs

first_order : (c : ℕ) (ws : List Written) → NumbersUp (map (first c) ws)
first_order c [] = tt
first_order c (w ∷ ws) = (λ r m. omega arith, first_order c ws)

ranked_order : (c : ℕ) (ns : List Numbered) → InOrder (λ (a b : Numbered). a.number ≤ b.number) ns → NumbersUp (map (ranked c) ns)
ranked_order c [] order = tt
ranked_order c (n ∷ ns) order = (
  λ r m.
      let k = map_member (ranked c) r ns m in
      let is : r.number ≡ k.0.number = ap (λ (s : Ranked). s.number) k.2 in
      let low = order.0 k.0 k.1 in
      omega (arith, is, low),
  ranked_order c ns order.1,
)

numbers_sort : Sorts by_number (λ (a b : Numbered). a.number ≤ b.number)
numbers_sort = record {
  first = λ a b is. leb-true a.number b.number is;
  second = λ a b is. let low = leb-false a.number b.number is in omega (arith, low);
  through = λ a b c one two. omega (arith, one, two);
}

its_from : (x : CommittedTxn) (ns : List Numbered) → x.writes ≡ map (λ (n : Numbered). n.write) ns → InOrder (λ (a b : Numbered). a.number ≤ b.number) ns → AreItsRanks (ranks_from x ns) x
its_from x [] is order = record {
  writes = first_writes x.at x.writes;
  order = first_order x.at x.writes;
  time = λ r m. ap (λ (s : Ranked). s.at) (map_member (first x.at) r x.writes m).2;
}
its_from x (n ∷ ns) is order = record {
  writes = is ∙ ranked_writes x.at (n ∷ ns);
  order = ranked_order x.at (n ∷ ns) order;
  time = λ r m. ap (λ (s : Ranked). s.at) (map_member (ranked x.at) r (n ∷ ns) m).2;
}

-- ## of a snapshot transaction

snapshot_event : (h : History) (x : CommittedTxn) (event : Event) → Member x (snapshot_by h event) → x.writes ≡ writes h x.txn
snapshot_event h x (Serve from (request.Commit y floor tablets) r (Some c) append) m = elim m [
  | inl is ↦ ap (λ (z : CommittedTxn). z.writes) is ∙ ap (writes h) (sym (ap (λ (z : CommittedTxn). z.txn) is))
  | inr none ↦ absurd none
]
snapshot_event h x event m = absurd m

pub snapshot_writes : (h : History) (x : CommittedTxn) → Member x (committed_snapshots h) → x.writes ≡ writes h x.txn
unfolding committed_snapshots
snapshot_writes h x m = let e = flat_member (λ (f : Entry). snapshot_by h f.event) x (counting h) m in snapshot_event h x e.0.event e.2

numbered_writes : (h : History) (x : CommittedTxn) → Member x (committed_snapshots h) → x.writes ≡ map (λ (n : Numbered). n.write) (numbered h x.txn)
unfolding writes
numbered_writes h x m = snapshot_writes h x m

pub its_snapshot : (h : History) (x : CommittedTxn) → Member x (committed_snapshots h) → AreItsRanks (ranks h x) x
its_snapshot h x m = its_from x (numbered h x.txn) (numbered_writes h x m) (sorted_order by_number (λ (a b : Numbered). a.number ≤ b.number) numbers_sort (all_accepted h x.txn))

-- the accepted write of an entry
accepted_choice : (b : Bool) (x txn : ℕ) (n k : Numbered) → nat_eq txn x ≡ b → Member n (if b then k ∷ [] else []) → (txn ≡ x) × (n ≡ k)
accepted_choice true x txn n k same m = elim m [ inl is ↦ (eq_true txn x same, is) | inr none ↦ absurd none ]
accepted_choice false x txn n k same m = absurd m

-- it makes this version, once its transaction is committed at c
pub record Accepted (h : History) (x c : ℕ) (n : Numbered) (e : Entry) (event : Event) : Type 0 where
  pub version : Version
  pub is : rank version ≡ record { at = c; number = n.number; write = n.write }
  pub number : IsNumbered x n.number event
  pub makes : CommittedAt h x c → MakesVersion h version e event

accepted_event : (h : History) (x c : ℕ) (n : Numbered) (e : Entry) (event : Event) → Member n (accepted_by x event) → Accepted h x c n e event
accepted_event h x c n e (Serve from (request.Write meta number path op read seen fates) (reply.Written w) time append) m =
    let k : Numbered = record { number = number; write = record { path = path; op = op } } in
    let is = accepted_choice (nat_eq meta.txn x) x meta.txn n k refl m in
    record {
      version = record { path = path; at = c; wrote = w; number = number; op = op };
      is = ap (ranked c) (sym is.1);
      number = (is.0, sym (ap (λ (z : Numbered). z.number) is.1));
      makes = λ committed. (refl, subst (λ (z : ℕ). CommittedAt h z c) (sym is.0) committed);
    }
accepted_event h x c n e event m = absurd m

abbrev pub IsAccepted : History → CommittedTxn → Numbered → Type 0
IsAccepted h x n = (e : Entry) × Member e h × Member n (accepted_by x.txn e.event) × Accepted h x.txn x.at n e e.event

numbered_entry : (h : History) (x : CommittedTxn) (n : Numbered) → Member n (numbered h x.txn) → IsAccepted h x n
numbered_entry h x n m =
    let f = flat_member (λ (e : Entry). accepted_by x.txn e.event) n h (sorted_from by_number n (all_accepted h x.txn) m) in
    (f.0, f.1, f.2, accepted_event h x.txn x.at n f.0 f.0.event f.2)

from_numbered : (x : CommittedTxn) (ns : List Numbered) (r : Ranked) → x.writes ≡ map (λ (n : Numbered). n.write) ns → Member r (ranks_from x ns) → (n : Numbered) × Member n ns × (r ≡ record { at = x.at; number = n.number; write = n.write })
from_numbered x [] r is m = absurd (subst (λ (ws : List Written). Member r (map (first x.at) ws)) is m)
from_numbered x (n ∷ ns) r is m = map_member (ranked x.at) r (n ∷ ns) m

pub snapshot_entry : (h : History) (x : CommittedTxn) (r : Ranked) → Member x (committed_snapshots h) → Member r (ranks h x) → (n : Numbered) × IsAccepted h x n × (r ≡ record { at = x.at; number = n.number; write = n.write })
snapshot_entry h x r m in_it =
    let n = from_numbered x (numbered h x.txn) r (numbered_writes h x m) in_it in
    (n.0, numbered_entry h x n.0 n.1, n.2)

into_numbered : (x : CommittedTxn) (ns : List Numbered) (n : Numbered) → Member n ns → Member (record { at = x.at; number = n.number; write = n.write }) (ranks_from x ns)
into_numbered x [] n m = absurd m
into_numbered x (k ∷ ns) n m = member_map (ranked x.at) n (k ∷ ns) m

pub accepted_rank : (h : History) (x : CommittedTxn) (n : Numbered) (e : Entry) → Member e h → Member n (accepted_by x.txn e.event) → Member (record { at = x.at; number = n.number; write = n.write }) (ranks h x)
accepted_rank h x n e m of = into_numbered x (numbered h x.txn) n (sorted_into by_number n (all_accepted h x.txn) (member_flat (λ (f : Entry). accepted_by x.txn f.event) e n h m of))

-- ## of a single write

list_none : (ns : List Numbered) → ((n : Numbered) → Member n ns → ⊥) → ns ≡ []
list_none [] none = refl
list_none (n ∷ ns) none = absurd (none n (inl refl))

pub single_ranks : (config : Config) (h : History) (x : CommittedTxn) (f : Entry) → Run config h → Member f h → IsSingleOf x.txn f.event → ranks h x ≡ map (first x.at) x.writes
single_ranks config h x f run m single =
    ap (ranks_from x) (list_none (numbered h x.txn) (λ n k.
    let e = numbered_entry h x n k in
    write_and_single config h e.0 f x.txn n.number run e.1 m e.3.number single))

pub its_single : (config : Config) (h : History) (x : CommittedTxn) (f : Entry) → Run config h → Member f h → IsSingleOf x.txn f.event → AreItsRanks (ranks h x) x
its_single config h x f run m single =
    subst (λ (rs : List Ranked). AreItsRanks rs x) (sym (single_ranks config h x f run m single))
    (record {
      writes = first_writes x.at x.writes;
      order = first_order x.at x.writes;
      time = λ r k. ap (λ (s : Ranked). s.at) (map_member (first x.at) r x.writes k).2;
    })
