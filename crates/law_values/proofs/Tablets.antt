-- A read over several tablets: its rows are those of one list of writes.
use Rattle.std.proofs.Common.{◌≡◌, ℕ, Bool, true, false, List, [], ◌∷◌, ◌++◌, Option, Some, map, filter, flat_map, nat_eq, refl, sym, ◌∙◌, ap, subst, inl, inr, ◌⊎◌, if◌then◌else◌}
use Rattle.std.proofs.lemmas.Bool.{and_parts}
use Rattle.std.proofs.lemmas.List.{append-nil}
use Rattle.doc_path.specs.Path.{Parts, is_prefix}
use Rattle.txn_data.specs.declared.command.Command.TheVariants as command
use Rattle.txn_data.specs.declared.place.Place.{Place}
use Rattle.txn_data.specs.declared.read_kind.ReadKind.{ReadKind}
use Rattle.txn_data.specs.declared.read_kind.ReadKind.TheVariants.{Get, Scan}
use Rattle.txn_data.specs.declared.row.Row.{Row}
use Rattle.txn_data.specs.declared.written.Written.{Written}
use Rattle.txn_types.specs.Lists.{Member, with_number, rising}
use Rattle.txn_types.specs.Writes.{set_at, value, beneath}
use Rattle.txn_types.specs.Tablet.{same_path}
use Rattle.txn_types.specs.ReadProgram.{TabletRows, tablets_of, paths_on, row_of, rows_from, all_rows}
use Rattle.txn_types.specs.Session.{row_under, with_rows, is_untouched}
use Rattle.law_machines.proofs.Basics.{eq_refl, eq_true, member_map, member_filter, member_rising}
use Rattle.law_values.specs.Laws.{IsAnswer, ReadsShowTheWrites}
use Rattle.law_values.proofs.Paths.{prefix_self, prefix_both}
use Rattle.law_values.proofs.Beneath.{beneath_same}
use Rattle.law_values.proofs.Over.{rows_of_paths, rows_of_scan}

-- ## each tablet of a read answered

-- what a tablet answered is found under its number
pub record Answered (k : ℕ) (found : List TabletRows) : Type 0 where
  pub answer : TabletRows
  pub member : Member answer found
  pub tablet : answer.tablet ≡ k
  pub rows : rows_from k found ≡ answer.rows

rows_choice : (b : Bool) (k : ℕ) (f : TabletRows) (fs : List TabletRows) → nat_eq f.tablet k ≡ b → (k ≡ f.tablet) ⊎ Member k (map (λ (g : TabletRows). g.tablet) fs) → (Member k (map (λ (g : TabletRows). g.tablet) fs) → Answered k fs) →
    (a : TabletRows) × Member a (f ∷ fs) × (a.tablet ≡ k) × ((if b then f.rows else rows_from k fs) ≡ a.rows)
rows_choice true k f fs same m more = (f, inl refl, eq_true f.tablet k same, refl)
rows_choice false k f fs same m more = elim m [
  | inl here ↦ let is : nat_eq f.tablet k ≡ true = subst (λ (n : ℕ). nat_eq f.tablet n ≡ true) (sym here) (eq_refl f.tablet) in cc
  | inr later ↦ let r = more later in (r.answer, inr r.member, r.tablet, r.rows)
]

answered : (k : ℕ) (found : List TabletRows) → Member k (map (λ (f : TabletRows). f.tablet) found) → Answered k found
unfolding rows_from
answered k [] m = absurd m
answered k (f ∷ fs) m =
    let r = rows_choice (nat_eq f.tablet k) k f fs refl m (answered k fs) in
    record { answer = r.0; member = r.1; tablet = r.2; rows = r.3 }

-- ## a read of paths

abbrev row_for : List Written → Parts → Row
row_for ws p = record { path = p; value = value ws p }

path_same : (q p : Parts) → same_path q p ≡ true → q ≡ p
path_same q p is = let a = and_parts (is_prefix q p) (is_prefix p q) is in prefix_both q p a.0 a.1

same_self : (p : Parts) → same_path p p ≡ true
same_self p = rw (prefix_self p) refl

row_choice : (b : Bool) (ws : List Written) (p q : Parts) (rest : Row) → same_path q p ≡ b → (p ≡ q) ⊎ (rest ≡ row_for ws p) → (if b then row_for ws q else rest) ≡ row_for ws p
row_choice true ws p q rest same is = ap (row_for ws) (path_same q p same)
row_choice false ws p q rest same is = elim is [
  | inl here ↦ let there : same_path q p ≡ true = subst (λ (r : Parts). same_path q r ≡ true) (sym here) (same_self q) in cc
  | inr later ↦ later
]

row_found : (ws : List Written) (p : Parts) (ps : List Parts) → Member p ps → row_of p (map (row_for ws) ps) ≡ row_for ws p
unfolding row_of
row_found ws p [] m = absurd m
row_found ws p (q ∷ ps) m = row_choice (same_path q p) ws p q (row_of p (map (row_for ws) ps)) refl (elim m [
  | inl here ↦ inl here
  | inr later ↦ inr (row_found ws p ps later)
])

map_same : (f g : Place → Row) (ps : List Place) → ((p : Place) → Member p ps → f p ≡ g p) → map f ps ≡ map g ps
map_same f g [] same = refl
map_same f g (p ∷ ps) same =
    ap (λ (r : Row). r ∷ map f ps) (same p (inl refl)) ∙ ap (λ (rows : List Row). g p ∷ rows) (map_same f g ps (λ q m. same q (inr m)))

abbrev tablet_of : TabletRows → ℕ
tablet_of f = f.tablet

abbrev AllAnswer : ReadKind → List Place → List Written → List TabletRows → Type 0
AllAnswer kind places ws found = (f : TabletRows) → Member f found → IsAnswer kind places ws f

place_row : (places : List Place) (found : List TabletRows) (ws : List Written) (p : Place) → Member p places → map tablet_of found ≡ tablets_of places → AllAnswer Get places ws found →
    row_of p.path (rows_from p.tablet found) ≡ row_for ws p.path
place_row places found ws p m tablets each =
    let named = member_rising p.tablet (map (λ (q : Place). q.tablet) places) (member_map (λ (q : Place). q.tablet) p places m) in
    let a = answered p.tablet found (subst (λ (ks : List ℕ). Member p.tablet ks) (sym tablets) named) in
    let one = each a.answer a.member in
    let k = a.answer.tablet in
    let on : Member p.path (paths_on k places) = member_map (λ (q : Place). q.path) p (filter (λ (q : Place). nat_eq q.tablet k) places)
    (member_filter (λ (q : Place). nat_eq q.tablet k) p places m (subst (λ (n : ℕ). nat_eq p.tablet n ≡ true) (sym a.tablet) (eq_refl p.tablet))) in
    ap (row_of p.path) (a.rows ∙ one.rows) ∙ (row_found one.writes p.path (paths_on k places) on ∙ ap (λ (v : Option (List ℕ)). let r : Row = record { path = p.path; value = v } in r) (ap (set_at p.path) (one.same p.path p.path on (prefix_self p.path))))

-- ## a scan

one_tablet : (found : List TabletRows) (k : ℕ) → map tablet_of found ≡ k ∷ [] → (f : TabletRows) × (found ≡ f ∷ []) × (f.tablet ≡ k)
one_tablet [] k is = cc
one_tablet (f ∷ []) k is = (f, refl, cc)
one_tablet (f ∷ g ∷ more) k is = cc

tablets_one : (place : Place) → tablets_of (place ∷ []) ≡ place.tablet ∷ []
unfolding rising with_number
tablets_one place = refl

paths_one : (k : ℕ) (place : Place) → k ≡ place.tablet → paths_on k (place ∷ []) ≡ place.path ∷ []
paths_one k place is =
    let here : nat_eq place.tablet k ≡ true = subst (λ (n : ℕ). nat_eq place.tablet n ≡ true) (sym is) (eq_refl place.tablet) in
    rw here refl

scan_rows : (place : Place) (found : List TabletRows) (ws : List Written) → map tablet_of found ≡ tablets_of (place ∷ []) → AllAnswer Scan (place ∷ []) ws found →
    all_rows Scan (place ∷ []) found ≡ beneath ws place.path
scan_rows place found ws tablets each =
    let o = one_tablet found place.tablet (tablets ∙ tablets_one place) in
    let f = o.0 in
    let one = each f (subst (λ (fs : List TabletRows). Member f fs) (sym o.1) (inl refl)) in
    let paths = paths_one f.tablet place o.2 in
    let on : Member place.path (paths_on f.tablet (place ∷ [])) = subst (λ (ps : List Parts). Member place.path ps) (sym paths) (inl refl) in
    ap (flat_map (λ (g : TabletRows). g.rows)) o.1
    ∙ (append-nil f.rows
    ∙ (one.rows
    ∙ (ap (flat_map (beneath one.writes)) paths
    ∙ (append-nil (beneath one.writes place.path)
    ∙ beneath_same one.writes ws place.path (λ q under. ap (set_at q) (one.same place.path q on under))))))

-- ## both

pub reads_show : ReadsShowTheWrites
reads_show Get (Some (command.Read strict places)) found ws own is tablets each =
    ap (map (row_under own)) (map_same (λ (p : Place). row_of p.path (rows_from p.tablet found)) (λ (p : Place). row_for ws p.path) places (λ p m. place_row places found ws p m tablets each))
    ∙ rows_of_paths ws own places
reads_show Scan (Some (command.Scan strict place)) found ws own is tablets each =
    ap (λ (rows : List Row). with_rows (beneath own place.path ++ []) (filter (is_untouched own) rows)) (scan_rows place found ws tablets each)
    ∙ (ap (λ (rows : List Row). with_rows rows (filter (is_untouched own) (beneath ws place.path))) (append-nil (beneath own place.path))
    ∙ rows_of_scan ws own place.path)
reads_show kind line found ws own is tablets each = absurd is
