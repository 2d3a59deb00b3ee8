-- Values and rows of two lists of versions together.
use Rattle.std.proofs.Common.{◌≡◌, ℕ, ◌+◌, true, false, List, [], ◌∷◌, ◌++◌, Option, Some, None, if◌then◌else◌, length, refl, sym, ap, ◌∙◌, arith, ◌⊎◌, inl, inr, subst}
use Rattle.std.specs.Prelude.{map, flat_map, option_map}
use Rattle.std.specs.List.{AllByRecursion}
use Rattle.doc_path.specs.Path.{Parts, is_prefix}
use Rattle.txn_data.specs.declared.version.Version.{Version}
use Rattle.txn_data.specs.declared.row.Row.{Row}
use Rattle.txn_data.specs.declared.written.Written.{Written}
use Rattle.txn_data.specs.declared.read_kind.ReadKind.{ReadKind}
use Rattle.txn_data.specs.declared.read_kind.ReadKind.TheVariants.{Get, Scan}
use Rattle.txn_types.specs.Lists.{Member}
use Rattle.txn_types.specs.Writes.{set_at, value, row_with, with_path, paths_beneath, beneath}
use Rattle.txn_types.specs.Tablet.{version_before, with_versions, writes_at, rows_of}
use Rattle.regular_records.specs.Records.{later, newest, write_of}
use Rattle.regular_records.specs.Laws.{RowsOfAdded}
use Rattle.regular_records.specs.Merged.{with_rows, rows_at}
use Rattle.regular_records.proofs.Newest.{newest_is_last_word, newest_of_both}
use Rattle.regular_records.proofs.Added.{newest-behind}
use Rattle.regular_records.proofs.Rows.{Rising, rising-with, with-has, with-keeps, with-only, rising-beneath, beneath-prefix, Covers, same-rows}
use Rattle.regular_records.proofs.Scanned.{valued-written, covered, flat_map-same}

-- ---- values

pub value-newest : (t : ℕ) (q : Parts) (vs : List Version) → value (writes_at t vs) q ≡ set_at q (option_map write_of (newest t q vs))
value-newest t q vs = ap (set_at q) (newest_is_last_word t q vs)

-- the value is by the newest of both
pub value-both : (t : ℕ) (q : Parts) (us vs : List Version) (o : Option Version) → later (newest t q us) (newest t q vs) ≡ o
    → value (writes_at t (us ++ vs)) q ≡ set_at q (option_map write_of o)
value-both t q us vs o h = value-newest t q (us ++ vs) ∙ ap (λ x. set_at q (option_map write_of x)) (newest_of_both t q us vs ∙ h)

later-either : (a b : Option Version) → (later a b ≡ a) ⊎ (later a b ≡ b)
later-either None b = inr refl
later-either (Some u) None = inl refl
later-either (Some u) (Some v) = elim (version_before u v) as (λ c. ((if c then Some v else Some u) ≡ Some u) ⊎ ((if c then Some v else Some u) ≡ Some v)) [ true ↦ inr refl | false ↦ inl refl ]

-- it is the value of one of the two
value-either : (t : ℕ) (q : Parts) (us vs : List Version) (x : Option (List ℕ)) → value (writes_at t (us ++ vs)) q ≡ x
    → (value (writes_at t us) q ≡ x) ⊎ (value (writes_at t vs) q ≡ x)
value-either t q us vs x h = elim (later-either (newest t q us) (newest t q vs)) [
  | inl e ↦ inl (value-newest t q us ∙ sym (value-both t q us vs (newest t q us) e) ∙ h)
  | inr e ↦ inr (value-newest t q vs ∙ sym (value-both t q us vs (newest t q vs) e) ∙ h)
]

-- ---- the paths of rows

abbrev row_paths : List Row → List Parts
row_paths rows = map (λ (r : Row). r.path) rows

row_paths-left : (q : Parts) (rows others : List Row) → Member q (row_paths rows) → Member q (row_paths (rows ++ others))
row_paths-left q [] others m = absurd m
row_paths-left q (r ∷ rows) others m = elim m [ inl e ↦ inl e | inr n ↦ inr (row_paths-left q rows others n) ]

row_paths-right : (q : Parts) (rows others : List Row) → Member q (row_paths others) → Member q (row_paths (rows ++ others))
row_paths-right q [] others m = m
row_paths-right q (r ∷ rows) others m = inr (row_paths-right q rows others m)

row_paths-split : (q : Parts) (rows others : List Row) → Member q (row_paths (rows ++ others)) → Member q (row_paths rows) ⊎ Member q (row_paths others)
row_paths-split q [] others m = inr m
row_paths-split q (r ∷ rows) others m = elim m [ inl e ↦ inl (inl e) | inr n ↦ elim (row_paths-split q rows others n) [ inl l ↦ inl (inr l) | inr k ↦ inr k ] ]

row_with-path : (q r : Parts) (o : Option (List ℕ)) → Member q (row_paths (row_with r o)) → q ≡ r
row_with-path q r None m = absurd m
row_with-path q r (Some v) m = elim m [ inl e ↦ e | inr n ↦ absurd n ]

row_with-has : (q : Parts) (o : Option (List ℕ)) (v : List ℕ) → o ≡ Some v → Member q (row_paths (row_with q o))
row_with-has q None v h = cc
row_with-has q (Some w) v h = inl refl

rows-path : (found : Parts → Option (List ℕ)) (q : Parts) (qs : List Parts) → Member q (row_paths (flat_map (λ r. row_with r (found r)) qs)) → Member q qs
rows-path found q [] m = absurd m
rows-path found q (r ∷ qs) m = elim (row_paths-split q (row_with r (found r)) (flat_map (λ r. row_with r (found r)) qs) m) [
  | inl l ↦ inl (row_with-path q r (found r) l)
  | inr n ↦ inr (rows-path found q qs n)
]

rows-has : (found : Parts → Option (List ℕ)) (q : Parts) (v : List ℕ) (qs : List Parts) → Member q qs → found q ≡ Some v → Member q (row_paths (flat_map (λ r. row_with r (found r)) qs))
rows-has found q v [] m h = absurd m
rows-has found q v (r ∷ qs) m h = elim m [
  | inl e ↦
      let P : Parts → Type 0 = λ x. Member q (row_paths (row_with x (found x))) in
      row_paths-left q (row_with r (found r)) (flat_map (λ r. row_with r (found r)) qs) (subst P e (row_with-has q (found q) v h))
  | inr n ↦ row_paths-right q (row_with r (found r)) (flat_map (λ r. row_with r (found r)) qs) (rows-has found q v qs n h)
]

beneath-row : (ws : List Written) (p q : Parts) (v : List ℕ) → value ws q ≡ Some v → is_prefix p q ≡ true → Member q (row_paths (beneath ws p))
unfolding beneath
beneath-row ws p q v h b = rows-has (value ws) q v (paths_beneath p ws) (valued-written ws p q v h b) h

row-beneath : (ws : List Written) (p q : Parts) → Member q (row_paths (beneath ws p)) → is_prefix p q ≡ true
unfolding beneath
row-beneath ws p q m = beneath-prefix p ws q (rows-path (value ws) q (paths_beneath p ws) m)

-- ---- paths with those of rows

rising-rows : (ps : List Parts) (rows : List Row) → Rising ps → Rising (with_rows ps rows)
rising-rows ps [] h = h
rising-rows ps (r ∷ rows) h = rising-rows (with_path r.path ps) rows (rising-with r.path ps h)

rows-keep : (q : Parts) (ps : List Parts) (rows : List Row) → Member q ps → Member q (with_rows ps rows)
rows-keep q ps [] m = m
rows-keep q ps (r ∷ rows) m = rows-keep q (with_path r.path ps) rows (with-keeps q r.path ps m)

rows-add : (q : Parts) (ps : List Parts) (rows : List Row) → Member q (row_paths rows) → Member q (with_rows ps rows)
rows-add q ps [] m = absurd m
rows-add q ps (r ∷ rows) m = elim m [
  | inl e ↦ rows-keep q (with_path r.path ps) rows (subst (λ x. Member q (with_path x ps)) e (with-has q ps))
  | inr n ↦ rows-add q (with_path r.path ps) rows n
]

rows-only : (q : Parts) (ps : List Parts) (rows : List Row) → Member q (with_rows ps rows) → Member q ps ⊎ Member q (row_paths rows)
rows-only q ps [] m = inl m
rows-only q ps (r ∷ rows) m = elim (rows-only q (with_path r.path ps) rows m) [
  | inl k ↦ elim (with-only q r.path ps k) [ inl e ↦ inr (inl e) | inr n ↦ inl n ]
  | inr k ↦ inr (inr k)
]

all-from : (P : Parts → Type 0) (ps : List Parts) → ((q : Parts) → Member q ps → P q) → AllByRecursion P ps
all-from P [] h = tt
all-from P (p ∷ ps) h = (h p (inl refl), all-from P ps (λ q m. h q (inr m)))

all-at : (P : Parts → Type 0) (q : Parts) (ps : List Parts) → AllByRecursion P ps → Member q ps → P q
all-at P q [] a m = absurd m
all-at P q (p ∷ ps) a m = elim m [ inl e ↦ subst P (sym e) a.0 | inr n ↦ all-at P q ps a.1 n ]

pub all-with : (P : Parts → Type 0) (p : Parts) (ps : List Parts) → P p → AllByRecursion P ps → AllByRecursion P (with_path p ps)
all-with P p ps h a = all-from P (with_path p ps) (λ q m. elim (with-only q p ps m) [ inl e ↦ subst P (sym e) h | inr n ↦ all-at P q ps a n ])

pub all-rows : (P : Parts → Type 0) (ps : List Parts) (rows : List Row) → AllByRecursion P ps → AllByRecursion (λ (r : Row). P r.path) rows → AllByRecursion P (with_rows ps rows)
all-rows P ps [] a b = a
all-rows P ps (r ∷ rows) a b = all-rows P (with_path r.path ps) rows (all-with P r.path ps b.0 a) b.1

-- ---- the rows of two lists together

pub rows-both : (t : ℕ) (p : Parts) (us vs : List Version)
    → rows_at t (us ++ vs) (with_rows (with_rows [] (beneath (writes_at t us) p)) (beneath (writes_at t vs) p)) ≡ beneath (writes_at t (us ++ vs)) p
unfolding beneath
rows-both t p us vs =
    let all = writes_at t (us ++ vs) in
    let first = with_rows [] (beneath (writes_at t us) p) in
    let asked = with_rows first (beneath (writes_at t vs) p) in
    let written = paths_beneath p all in
    let rows : Parts → List Row = λ q. row_with q (value all q) in
    let as_rows : (q : Parts) (o : Option (List ℕ)) → value all q ≡ o → rows q ≡ row_with q o = λ q o e. ap (row_with q) e in
    let under : (q : Parts) → Member q asked → is_prefix p q ≡ true = λ q m. elim (rows-only q first (beneath (writes_at t vs) p) m) [
      | inl k ↦ elim (rows-only q [] (beneath (writes_at t us) p) k) [ inl n ↦ absurd n | inr n ↦ row-beneath (writes_at t us) p q n ]
      | inr k ↦ row-beneath (writes_at t vs) p q k
    ] in
    let there : Covers rows asked written = λ q m. covered rows (value all) q written (as_rows q) (λ v e. valued-written all p q v e (under q m)) in
    let here : Covers rows written asked = λ q m. covered rows (value all) q asked (as_rows q) (λ v e. elim (value-either t q us vs (Some v) e) [
      | inl k ↦ rows-keep q first (beneath (writes_at t vs) p) (rows-add q [] (beneath (writes_at t us) p) (beneath-row (writes_at t us) p q v k (beneath-prefix p all q m)))
      | inr k ↦ rows-add q first (beneath (writes_at t vs) p) (beneath-row (writes_at t vs) p q v k (beneath-prefix p all q m))
    ]) in
    same-rows (length asked + length written) rows asked written (omega arith)
    (rising-rows first (beneath (writes_at t vs) p) (rising-rows [] (beneath (writes_at t us) p) tt)) (rising-beneath p all) there here

-- ---- lists with the same values have the same rows

beneath-same : (xs ys : List Written) → ((q : Parts) → value xs q ≡ value ys q) → (p : Parts) → beneath xs p ≡ beneath ys p
unfolding beneath
beneath-same xs ys same p =
    let rows : Parts → List Row = λ q. row_with q (value xs q) in
    let left = paths_beneath p xs in
    let right = paths_beneath p ys in
    let as_rows : (q : Parts) (o : Option (List ℕ)) → value xs q ≡ o → rows q ≡ row_with q o = λ q o e. ap (row_with q) e in
    let there : Covers rows left right = λ q m. covered rows (value xs) q right (as_rows q) (λ v e. valued-written ys p q v (sym (same q) ∙ e) (beneath-prefix p xs q m)) in
    let here : Covers rows right left = λ q m. covered rows (value xs) q left (as_rows q) (λ v e. valued-written xs p q v e (beneath-prefix p ys q m)) in
    same-rows (length left + length right) rows left right (omega arith) (rising-beneath p xs) (rising-beneath p ys) there here
    ∙ flat_map-same rows (λ q. row_with q (value ys q)) right (λ q. ap (row_with q) (same q))

got-same : (xs ys : List Written) → ((q : Parts) → value xs q ≡ value ys q) → (ps : List Parts) → rows_of Get ps xs ≡ rows_of Get ps ys
got-same xs ys same [] = refl
got-same xs ys same (p ∷ ps) =
    let row : Option (List ℕ) → Row = λ o. record { path = p; value = o } in
    ap (λ o. row o ∷ rows_of Get ps xs) (same p) ∙ ap (λ rs. row (value ys p) ∷ rs) (got-same xs ys same ps)

scanned-same : (xs ys : List Written) → ((q : Parts) → value xs q ≡ value ys q) → (ps : List Parts) → rows_of Scan ps xs ≡ rows_of Scan ps ys
scanned-same xs ys same [] = refl
scanned-same xs ys same (p ∷ ps) = ap (λ r. r ++ rows_of Scan ps xs) (beneath-same xs ys same p) ∙ ap (λ r. beneath ys p ++ r) (scanned-same xs ys same ps)

rows-same : (xs ys : List Written) → ((q : Parts) → value xs q ≡ value ys q) → (kind : ReadKind) (ps : List Parts) → rows_of kind ps xs ≡ rows_of kind ps ys
rows-same xs ys same Get ps = got-same xs ys same ps
rows-same xs ys same Scan ps = scanned-same xs ys same ps

pub rows_of_added : RowsOfAdded
rows_of_added kind ps t us vs =
    rows-same (writes_at t (us ++ with_versions [] vs)) (writes_at t (us ++ vs))
    (λ q. value-newest t q (us ++ with_versions [] vs) ∙ ap (λ o. set_at q (option_map write_of o)) (newest-behind t q us vs) ∙ sym (value-newest t q (us ++ vs)))
    kind ps
