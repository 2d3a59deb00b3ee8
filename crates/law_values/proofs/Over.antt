-- A transaction's own writes over what it read: what all writes leave, with its own after the others.
use Rattle.std.proofs.Common.{◌≡◌, ℕ, Bool, true, false, not, is_some, List, [], ◌∷◌, ◌++◌, Option, Some, None, map, filter, refl, sym, ◌∙◌, ap, subst, inl, inr, ◌⊎◌, if◌then◌else◌}
use Rattle.doc_path.specs.Path.{Parts, is_prefix}
use Rattle.txn_data.specs.declared.place.Place.{Place}
use Rattle.txn_data.specs.declared.row.Row.{Row}
use Rattle.txn_data.specs.declared.written.Written.{Written}
use Rattle.txn_types.specs.Lists.{Member, or_else}
use Rattle.txn_types.specs.Writes.{last_word, set_at, value, beneath}
use Rattle.txn_types.specs.Session.{row_under, with_rows, is_untouched}
use Rattle.law_machines.proofs.Basics.{filter_member, member_filter}
use Rattle.law_values.proofs.Rows.{IsBelow, Rise, rows_same, with_rows_rise, with_rows_from, with_rows_new, with_rows_old}
use Rattle.law_values.proofs.Beneath.{beneath_from, beneath_all, beneath_rise}

-- ## the last word

or_none : (a : Option Written) → a ≡ or_else a None
or_none None = refl
or_none (Some w) = refl

or_three : (a b c : Option Written) → or_else (or_else a b) c ≡ or_else a (or_else b c)
or_three None b c = refl
or_three (Some w) b c = refl

pub last_after : (ws os : List Written) (p : Parts) → last_word (ws ++ os) p ≡ or_else (last_word os p) (last_word ws p)
unfolding last_word
last_after [] os p = or_none (last_word os p)
last_after (w ∷ ws) os p =
    let here = if is_prefix w.path p then Some w else None in
    ap (λ (o : Option Written). or_else o here) (last_after ws os p) ∙ or_three (last_word os p) (last_word ws p) here

value_after : (ws os : List Written) (p : Parts) (o : Option Written) → last_word os p ≡ o → value (ws ++ os) p ≡ set_at p (or_else o (last_word ws p))
value_after ws os p o is = ap (set_at p) (last_after ws os p ∙ ap (λ (u : Option Written). or_else u (last_word ws p)) is)

value_own : (ws os : List Written) (p : Parts) (w : Written) → last_word os p ≡ Some w → value (ws ++ os) p ≡ value os p
value_own ws os p w is = value_after ws os p (Some w) is ∙ ap (set_at p) (sym is)

value_other : (ws os : List Written) (p : Parts) → last_word os p ≡ None → value (ws ++ os) p ≡ value ws p
value_other ws os p is = value_after ws os p None is

-- ## the rows of paths

under_choice : (ws os : List Written) (p : Parts) (o : Option Written) → last_word os p ≡ o →
    (elim o [ Some w ↦ record { path = p; value = value os p } | None ↦ record { path = p; value = value ws p } ]) ≡ (let r : Row = record { path = p; value = value (ws ++ os) p } in r)
under_choice ws os p (Some w) is = ap (λ (v : Option (List ℕ)). let r : Row = record { path = p; value = v } in r) (sym (value_own ws os p w is))
under_choice ws os p None is = ap (λ (v : Option (List ℕ)). let r : Row = record { path = p; value = v } in r) (sym (value_other ws os p is))

pub rows_of_paths : (ws os : List Written) (places : List Place) →
    map (row_under os) (map (λ (p : Place). record { path = p.path; value = value ws p.path }) places) ≡ map (λ (p : Place). record { path = p.path; value = value (ws ++ os) p.path }) places
rows_of_paths ws os [] = refl
rows_of_paths ws os (p ∷ places) =
    ap (λ (r : Row). r ∷ map (row_under os) (map (λ (q : Place). record { path = q.path; value = value ws q.path }) places)) (under_choice ws os p.path (last_word os p.path) refl)
    ∙ ap (λ (rows : List Row). (record { path = p.path; value = value (ws ++ os) p.path }) ∷ rows) (rows_of_paths ws os places)

-- ## the rows of a scan

filter_below : (test : Row → Bool) (p : Parts) (rows : List Row) → IsBelow p rows → IsBelow p (filter test rows)
filter_below test p rows below s m = below s (filter_member test s rows m).0

filter_choice : (b : Bool) (r : Row) (rows : List Row) → IsBelow r.path rows → Rise rows → Rise (if b then r ∷ rows else rows)
filter_choice true r rows below rise = (below, rise)
filter_choice false r rows below rise = rise

filter_rise : (test : Row → Bool) (rows : List Row) → Rise rows → Rise (filter test rows)
filter_rise test [] rise = tt
filter_rise test (r ∷ rows) rise = filter_choice (test r) r (filter test rows) (filter_below test r.path rows rise.0) (filter_rise test rows rise.1)

word_cases : (o : Option Written) → ((w : Written) × (o ≡ Some w)) ⊎ (o ≡ None)
word_cases (Some w) = inl (w, refl)
word_cases None = inr refl

untouched_none : (o : Option Written) → not (is_some o) ≡ true → o ≡ None
untouched_none (Some w) is = cc
untouched_none None is = refl

value_word : (os : List Written) (p : Parts) (v : List ℕ) → value os p ≡ Some v → (w : Written) × (last_word os p ≡ Some w)
value_word os p v is = elim (word_cases (last_word os p)) [
  | inl word ↦ word
  | inr none ↦ let nothing : value os p ≡ None = ap (set_at p) none in cc
]

scan_in : (ws os : List Written) (p : Parts) (r : Row) → Member r (with_rows (beneath os p) (filter (is_untouched os) (beneath ws p))) → Member r (beneath (ws ++ os) p)
scan_in ws os p r m = elim (with_rows_from (beneath os p) (filter (is_untouched os) (beneath ws p)) r m) [
  | inl mine ↦
      let row = beneath_from os p r mine in
      let word = value_word os r.path row.set row.has in
      subst (λ (s : Row). Member s (beneath (ws ++ os) p)) (sym row.is) (beneath_all (ws ++ os) p r.path row.set row.under (value_own ws os r.path word.0 word.1 ∙ row.has))
  | inr read ↦
      let f = filter_member (is_untouched os) r (beneath ws p) read in
      let row = beneath_from ws p r f.0 in
      subst (λ (s : Row). Member s (beneath (ws ++ os) p)) (sym row.is) (beneath_all (ws ++ os) p r.path row.set row.under (value_other ws os r.path (untouched_none (last_word os r.path) f.1) ∙ row.has))
]

scan_out : (ws os : List Written) (p : Parts) (r : Row) → Member r (beneath (ws ++ os) p) → Member r (with_rows (beneath os p) (filter (is_untouched os) (beneath ws p)))
scan_out ws os p r m =
    let row = beneath_from (ws ++ os) p r m in
    elim (word_cases (last_word os r.path)) [
      | inl word ↦
          let mine = beneath_all os p r.path row.set row.under (sym (value_own ws os r.path word.0 word.1) ∙ row.has) in
          with_rows_new (beneath os p) (filter (is_untouched os) (beneath ws p)) r (beneath_rise os p) (subst (λ (s : Row). Member s (beneath os p)) (sym row.is) mine)
      | inr none ↦
          let read = beneath_all ws p r.path row.set row.under (sym (value_other ws os r.path none) ∙ row.has) in
          with_rows_old (beneath os p) (filter (is_untouched os) (beneath ws p)) r
          (λ s n same.
          let own = beneath_from os p s n in
          let word = value_word os s.path own.set own.has in
          let other : last_word os s.path ≡ None = ap (last_word os) same ∙ none in
          cc)
          (member_filter (is_untouched os) r (beneath ws p) (subst (λ (s : Row). Member s (beneath ws p)) (sym row.is) read) (ap (λ (o : Option Written). not (is_some o)) none))
    ]

pub rows_of_scan : (ws os : List Written) (p : Parts) → with_rows (beneath os p) (filter (is_untouched os) (beneath ws p)) ≡ beneath (ws ++ os) p
rows_of_scan ws os p =
    rows_same (with_rows (beneath os p) (filter (is_untouched os) (beneath ws p))) (beneath (ws ++ os) p)
    (with_rows_rise (beneath os p) (filter (is_untouched os) (beneath ws p)) (filter_rise (is_untouched os) (beneath ws p) (beneath_rise ws p)))
    (beneath_rise (ws ++ os) p) (scan_in ws os p) (scan_out ws os p)
