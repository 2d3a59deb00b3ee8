-- What a read answers rests only on the versions on paths related to the paths that are asked.
use Rattle.std.proofs.Common.{◌≡◌, ℕ, ◌+◌, Bool, true, false, ◌&&◌, ◌||◌, List, [], ◌∷◌, ◌++◌, Option, Some, None, if◌then◌else◌, length, refl, sym, ap, ◌∙◌, arith, inl, inr}
use Rattle.std.specs.Prelude.{nat_lt, nat_le, filter, flat_map, option_map}
use Rattle.std.specs.List.{list_any}
use Rattle.doc_path.specs.Path.{Parts, is_prefix, related}
use Rattle.doc_path.proofs.Prefix.{prefixes_related}
use Rattle.txn_data.specs.declared.version.Version.{Version}
use Rattle.txn_data.specs.declared.window.Window.{Window}
use Rattle.txn_data.specs.declared.row.Row.{Row}
use Rattle.txn_data.specs.declared.written.Written.{Written}
use Rattle.txn_data.specs.declared.read_kind.ReadKind.{ReadKind}
use Rattle.txn_data.specs.declared.read_kind.ReadKind.TheVariants.{Get, Scan}
use Rattle.txn_types.specs.Lists.{Member}
use Rattle.txn_types.specs.Writes.{set_at, value, row_with, paths_beneath, beneath}
use Rattle.txn_types.specs.Tablet.{writes_at, rows_of, is_met, met_in, better_met}
use Rattle.regular_records.specs.Records.{later, deciding, newest, write_of, better}
use Rattle.regular_records.proofs.Newest.{newest_of_both}
use Rattle.regular_records.proofs.Several.{met_of_both}
use Rattle.regular_records.proofs.Prefix.{is_prefix-itself}
use Rattle.regular_records.proofs.Rows.{rising-beneath, beneath-prefix, Covers, same-rows}
use Rattle.regular_records.proofs.Scanned.{valued-written, covered}
use Rattle.regular_records.proofs.Joined.{value-newest}
use Rattle.tablet_records.specs.Committed.{on_related}

and-false : (b : Bool) → (b && false) ≡ false
and-false true = refl
and-false false = refl

or-true : (b : Bool) → (b || true) ≡ true
or-true true = refl
or-true false = refl

none-first : (o : Option Version) → o ≡ later None o
none-first None = refl
none-first (Some v) = refl

newest-near : (f : Version → Bool) (t : ℕ) (q : Parts) (vs : List Version) → ((v : Version) → is_prefix v.path q ≡ true → f v ≡ true) → newest t q (filter f vs) ≡ newest t q vs
unfolding newest
newest-near f t q [] rests = refl
newest-near f t q (v ∷ vs) rests =
    let P : Bool → Type 0 = λ b. f v ≡ b → newest t q (if b then v ∷ filter f vs else filter f vs) ≡ later (deciding t q v) (newest t q vs) in
    (elim (f v) as P [
      | true ↦ λ h. ap (later (deciding t q v)) (newest-near f t q vs rests)
      | false ↦ λ h.
          newest-near f t q vs rests
          ∙ none-first (newest t q vs)
          ∙ sym (ap (λ b. later (if (nat_le v.at t && b) then Some v else None) (newest t q vs)) (apart h)
          ∙ ap (λ b. later (if b then Some v else None) (newest t q vs)) (and-false (nat_le v.at t)))
    ]) refl
  where
    apart : f v ≡ false → is_prefix v.path q ≡ false
    apart h =
        let Q : Bool → Type 0 = λ b. is_prefix v.path q ≡ b → b ≡ false in
        (elim (is_prefix v.path q) as Q [ true ↦ λ k. sym (rests v k) ∙ h | false ↦ λ k. refl ]) refl

value-near : (f : Version → Bool) (t : ℕ) (q : Parts) (us vs : List Version) → ((v : Version) → is_prefix v.path q ≡ true → f v ≡ true)
    → value (writes_at t (us ++ filter f vs)) q ≡ value (writes_at t (us ++ vs)) q
value-near f t q us vs rests =
    value-newest t q (us ++ filter f vs)
    ∙ ap (λ o. set_at q (option_map write_of o)) (newest_of_both t q us (filter f vs) ∙ ap (later (newest t q us)) (newest-near f t q vs rests) ∙ sym (newest_of_both t q us vs))
    ∙ sym (value-newest t q (us ++ vs))

-- ---- lists with the same values beneath a path have the same rows there

rows-members : (f g : Parts → List Row) (qs : List Parts) → ((q : Parts) → Member q qs → f q ≡ g q) → flat_map f qs ≡ flat_map g qs
rows-members f g [] h = refl
rows-members f g (q ∷ qs) h = ap (λ r. r ++ flat_map f qs) (h q (inl refl)) ∙ ap (λ r. g q ++ r) (rows-members f g qs (λ r m. h r (inr m)))

beneath-near : (xs ys : List Written) (p : Parts) → ((q : Parts) → is_prefix p q ≡ true → value xs q ≡ value ys q) → beneath xs p ≡ beneath ys p
unfolding beneath
beneath-near xs ys p same =
    let rows : Parts → List Row = λ q. row_with q (value xs q) in
    let left = paths_beneath p xs in
    let right = paths_beneath p ys in
    let as_rows : (q : Parts) (o : Option (List ℕ)) → value xs q ≡ o → rows q ≡ row_with q o = λ q o e. ap (row_with q) e in
    let there : Covers rows left right =
    λ q m. let under = beneath-prefix p xs q m in covered rows (value xs) q right (as_rows q) (λ v e. valued-written ys p q v (sym (same q under) ∙ e) under) in
    let here : Covers rows right left = λ q m. covered rows (value xs) q left (as_rows q) (λ v e. valued-written xs p q v e (beneath-prefix p ys q m)) in
    same-rows (length left + length right) rows left right (omega arith) (rising-beneath p xs) (rising-beneath p ys) there here
    ∙ rows-members rows (λ q. row_with q (value ys q)) right (λ q m. ap (row_with q) (same q (beneath-prefix p ys q m)))

-- ---- the paths that are asked

-- a version that decides at or beneath one of the paths is on a path related to it
decides-near : (paths : List Parts) (p q : Parts) → Member p paths → is_prefix p q ≡ true → (v : Version) → is_prefix v.path q ≡ true → on_related paths v ≡ true
decides-near [] p q m under v h = absurd m
decides-near (r ∷ paths) p q (inl e) under v h =
    ap (λ x. related v.path x || list_any (related v.path) paths) (sym e)
    ∙ ap (λ b. b || list_any (related v.path) paths) (prefixes_related v.path p q h under)
decides-near (r ∷ paths) p q (inr m) under v h =
    ap (λ b. related v.path r || b) (decides-near paths p q m under v h) ∙ or-true (related v.path r)

got-near : (all : List Parts) (t : ℕ) (us vs : List Version) (ps : List Parts) → ((p : Parts) → Member p ps → Member p all)
    → rows_of Get ps (writes_at t (us ++ filter (on_related all) vs)) ≡ rows_of Get ps (writes_at t (us ++ vs))
got-near all t us vs [] among = refl
got-near all t us vs (p ∷ ps) among =
    let row : Option (List ℕ) → Row = λ o. record { path = p; value = o } in
    ap (λ o. row o ∷ rows_of Get ps (writes_at t (us ++ filter (on_related all) vs)))
    (value-near (on_related all) t p us vs (λ v h. decides-near all p p (among p (inl refl)) (is_prefix-itself p) v h))
    ∙ ap (λ rs. row (value (writes_at t (us ++ vs)) p) ∷ rs) (got-near all t us vs ps (λ q m. among q (inr m)))

scanned-near : (all : List Parts) (t : ℕ) (us vs : List Version) (ps : List Parts) → ((p : Parts) → Member p ps → Member p all)
    → rows_of Scan ps (writes_at t (us ++ filter (on_related all) vs)) ≡ rows_of Scan ps (writes_at t (us ++ vs))
scanned-near all t us vs [] among = refl
scanned-near all t us vs (p ∷ ps) among =
    ap (λ r. r ++ rows_of Scan ps (writes_at t (us ++ filter (on_related all) vs)))
    (beneath-near (writes_at t (us ++ filter (on_related all) vs)) (writes_at t (us ++ vs)) p
    (λ q under. value-near (on_related all) t q us vs (λ v h. decides-near all p q (among p (inl refl)) under v h)))
    ∙ ap (λ r. beneath (writes_at t (us ++ vs)) p ++ r) (scanned-near all t us vs ps (λ q m. among q (inr m)))

-- behind other versions, only those on paths related to the paths count for their rows
pub rows_of_related : (kind : ReadKind) (paths : List Parts) (t : ℕ) (us vs : List Version)
    → rows_of kind paths (writes_at t (us ++ filter (on_related paths) vs)) ≡ rows_of kind paths (writes_at t (us ++ vs))
rows_of_related Get paths t us vs = got-near paths t us vs paths (λ p m. m)
rows_of_related Scan paths t us vs = scanned-near paths t us vs paths (λ p m. m)

-- ---- what is met

met-near : (w : Window) (t : ℕ) (paths : List Parts) (vs : List Version) → met_in w t paths (filter (on_related paths) vs) ≡ met_in w t paths vs
unfolding met_in
met-near w t paths [] = refl
met-near w t paths (v ∷ vs) =
    let P : Bool → Type 0 = λ b. on_related paths v ≡ b
    → met_in w t paths (if b then v ∷ filter (on_related paths) vs else filter (on_related paths) vs) ≡ (if is_met w t paths v then Some (better_met v (met_in w t paths vs)) else met_in w t paths vs) in
    (elim (on_related paths v) as P [
      | true ↦ λ h. ap (λ m. if is_met w t paths v then Some (better_met v m) else m) (met-near w t paths vs)
      | false ↦ λ h. met-near w t paths vs ∙ sym (ap (λ b. if b then Some (better_met v (met_in w t paths vs)) else met_in w t paths vs) (unmet h))
    ]) refl
  where
    unmet : on_related paths v ≡ false → is_met w t paths v ≡ false
    unmet h = ap (λ b. (nat_lt t v.at && nat_le v.at w.g && nat_le v.wrote w.limit) && b) h ∙ and-false (nat_lt t v.at && nat_le v.at w.g && nat_le v.wrote w.limit)

-- and for what a read of the paths meets
pub met_of_related : (w : Window) (t : ℕ) (paths : List Parts) (us vs : List Version)
    → met_in w t paths (us ++ filter (on_related paths) vs) ≡ met_in w t paths (us ++ vs)
met_of_related w t paths us vs =
    met_of_both w t paths us (filter (on_related paths) vs)
    ∙ ap (better (met_in w t paths us)) (met-near w t paths vs)
    ∙ sym (met_of_both w t paths us vs)
