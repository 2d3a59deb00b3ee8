-- What is printed for the table of a configuration is the text of its head, and it says this configuration.
use Rattle.std.proofs.Common.{◌≡◌, ◌∙◌, ◌≤◌, ◌∷◌, ◌++◌, refl, ℕ, Bool, true, false, List, [], pos, arith, codes, decimal, flat_map, map, ap, sym, subst, append_assoc}
use Rattle.std.specs.List.{All, AllByRecursion}
use Rattle.std.specs.Int.{w64}
use Rattle.std.specs.Int.RustNames.{FitsSigned}
use Rattle.std.specs.Prelude.{Ok}
use Rattle.std.proofs.lemmas.Int.{ints}
use Rattle.std.proofs.lemmas.List.Elements.{All-head, All-tail}
use Rattle.toml.specs.Data.{Data, string, array, items_are_sorted, items_have_valid_dates, members_are_sorted, members_have_valid_dates}
use Rattle.toml.specs.Tables.{key_value, Expression}
use Rattle.toml.specs.Text.{IsDocumentText, IsItemsText, IsLinesText, IsValueText, breaks_lines, expressions, is_section, section}
use Rattle.toml.proofs.ReadBack.{parse_document-printed}
use Rattle.toml_writer.specs.Text.{encoding_of, escaped, key_text, needs_escape, quotes_after, string_text}
use Rattle.txn_data.specs.declared.config.Config.{Config}
use Rattle.txn_data.specs.declared.schedule.Schedule.{Schedule}
use Rattle.txn_data.specs.declared.schedule.Schedule.TheVariants.{Serial, Go, Drawn}
use Rattle.cluster_config.specs.Head.{IsSpelled, head_of, head_of_document, largest}
use Rattle.cluster_config.specs.Table.{integers, number, schedule_text, table_of}
use Rattle.cluster_config.specs.Written.{head_text, listed}
use Rattle.cluster_config.proofs.Members.{depth_fits, head_back}

fits : (n : ℕ) → n ≤ largest → FitsSigned w64 (pos n)
fits n le = omega (arith, ints)

-- ---- arrays of numbers

no_section : (ns : List ℕ) → is_section (array (integers ns)) ≡ false
no_section [] = refl
no_section (n ∷ ns) = refl

no_elements : (key : List (List ℕ) × List ℕ) (ns : List ℕ) → section key (array (integers ns)) ≡ []
no_elements key [] = refl
no_elements key (n ∷ ns) = refl

one_line : (ns : List ℕ) → breaks_lines false (integers ns) ≡ false
one_line [] = refl
one_line (n ∷ []) = refl
one_line (n ∷ m ∷ ns) = refl

abbrev behind_comma : ℕ → List ℕ
behind_comma m = codes ", " ++ decimal m

others_only : (ns text : List ℕ) → IsItemsText false false false (integers ns) text → text ≡ flat_map behind_comma ns ++ codes "]"
others_only [] text h = h
others_only (n ∷ ns) text h =
    h.2 ∙ (ap (λ (t : List ℕ). 44 ∷ 32 ∷ (t ++ h.1)) h.3.0
    ∙ (ap (λ (t : List ℕ). 44 ∷ 32 ∷ (decimal n ++ t)) (others_only ns h.1 h.4)
    ∙ ap (λ (t : List ℕ). 44 ∷ 32 ∷ t) (sym (append_assoc (decimal n) (flat_map behind_comma ns) (codes "]")))))

items_only : (ns text : List ℕ) → IsItemsText false false true (integers ns) text → text ≡ listed ns ++ codes "]"
items_only [] text h = h
items_only (n ∷ ns) text h =
    h.2 ∙ (ap (λ (t : List ℕ). t ++ h.1) h.3.0
    ∙ (ap (λ (t : List ℕ). decimal n ++ t) (others_only ns h.1 h.4)
    ∙ sym (append_assoc (decimal n) (flat_map behind_comma ns) (codes "]"))))

others_are : (ns : List ℕ) → All (λ n. n ≤ largest) ns → IsItemsText false false false (integers ns) (flat_map behind_comma ns ++ codes "]")
others_are [] all = refl
others_are (n ∷ ns) all = (
  decimal n,
  flat_map behind_comma ns ++ codes "]",
  ap (λ (t : List ℕ). 44 ∷ 32 ∷ t) (append_assoc (decimal n) (flat_map behind_comma ns) (codes "]")),
  (refl, fits n (All-head (λ (n : ℕ). n ≤ largest) n ns all)),
  others_are ns (All-tail (λ (n : ℕ). n ≤ largest) n ns all),
)

items_are : (ns : List ℕ) → All (λ n. n ≤ largest) ns → IsItemsText false false true (integers ns) (listed ns ++ codes "]")
items_are [] all = refl
items_are (n ∷ ns) all = (
  decimal n,
  flat_map behind_comma ns ++ codes "]",
  append_assoc (decimal n) (flat_map behind_comma ns) (codes "]"),
  (refl, fits n (All-head (λ (n : ℕ). n ≤ largest) n ns all)),
  others_are ns (All-tail (λ (n : ℕ). n ≤ largest) n ns all),
)

abbrev array_text : List ℕ → List ℕ
array_text ns = codes "[" ++ (listed ns ++ codes "]")

array_only : (ns text : List ℕ) → IsValueText false (array (integers ns)) text → text ≡ array_text ns
array_only ns text h =
    let items = subst (λ (b : Bool). IsItemsText false b true (integers ns) h.0) (one_line ns) h.2 in
    h.1 ∙ ap (λ (t : List ℕ). 91 ∷ t) (items_only ns h.0 items)

array_is : (ns : List ℕ) → All (λ n. n ≤ largest) ns → IsValueText false (array (integers ns)) (array_text ns)
array_is ns all =
    (listed ns ++ codes "]", refl, subst (λ (b : Bool). IsItemsText false b true (integers ns) (listed ns ++ codes "]")) (sym (one_line ns)) (items_are ns all))

integers_valid : (ns : List ℕ) → items_have_valid_dates (integers ns) ≡ true
integers_valid [] = refl
integers_valid (n ∷ ns) = integers_valid ns

integers_sorted : (ns : List ℕ) → items_are_sorted (integers ns) ≡ true
integers_sorted [] = refl
integers_sorted (n ∷ ns) = integers_sorted ns

-- ---- lines

-- a key, what stands at it, and the text of that
record Row : Type 0 where
  key : List ℕ
  data_at : Data
  value : List ℕ

abbrev expression_of : Row → Expression
expression_of r = (([], r.key), key_value r.data_at)

abbrev row_text : Row → List ℕ
row_text r = r.key ++ (codes " = " ++ (r.value ++ 10 ∷ []))

-- the text is the only one of this row
record IsRow (r : Row) : Type 0 where
  key : key_text r.key ≡ r.key
  only : (text : List ℕ) → IsValueText false r.data_at text → text ≡ r.value
  is : IsValueText false r.data_at r.value

lines_only : (started : Bool) (rows : List Row) (text : List ℕ) → AllByRecursion IsRow rows → IsLinesText false started (map expression_of rows) text
    → text ≡ flat_map row_text rows
lines_only started [] text all h = h
lines_only started (r ∷ rows) text all h =
    let line : List ℕ = h.0 in
    let is : h.0 ≡ row_text r = h.3.1 ∙ (ap (λ (k : List ℕ). k ++ (codes " = " ++ (h.3.0 ++ 10 ∷ []))) all.0.key
    ∙ ap (λ (v : List ℕ). r.key ++ (codes " = " ++ (v ++ 10 ∷ []))) (all.0.only h.3.0 h.3.2)) in
    h.2 ∙ (ap (λ (t : List ℕ). t ++ h.1) is ∙ ap (λ (t : List ℕ). row_text r ++ t) (lines_only true rows h.1 all.1 h.4))

lines_are : (started : Bool) (rows : List Row) → AllByRecursion IsRow rows → IsLinesText false started (map expression_of rows) (flat_map row_text rows)
lines_are started [] all = refl
lines_are started (r ∷ rows) all = (
  row_text r,
  flat_map row_text rows,
  refl,
  (r.value, ap (λ (k : List ℕ). k ++ (codes " = " ++ (r.value ++ 10 ∷ []))) (sym all.0.key), all.0.is),
  lines_are true rows all.1,
)

-- ---- the head

abbrev number_row : List ℕ → ℕ → Row
number_row key n = record { key = key; data_at = number n; value = decimal n }

number_is : (key : List ℕ) (n : ℕ) → key_text key ≡ key → n ≤ largest → IsRow (number_row key n)
number_is key n is le = record { key = is; only = λ text h. h.0; is = (refl, fits n le) }

abbrev schedule_row : Schedule → Row
schedule_row s = record { key = codes "schedule"; data_at = string (schedule_text s); value = codes "\"" ++ (schedule_text s ++ codes "\"") }

quoted : (s : Schedule) → string_text (schedule_text s) ≡ codes "\"" ++ (schedule_text s ++ codes "\"")
unfolding string_text encoding_of escaped needs_escape quotes_after
quoted Serial = refl
quoted Go = refl
quoted Drawn = refl

schedule_is : (s : Schedule) → IsRow (schedule_row s)
unfolding key_text
schedule_is s = record { key = refl; only = λ text h. h ∙ quoted s; is = sym (quoted s) }

abbrev readings_row : List ℕ → Row
readings_row ns = record { key = codes "start_us"; data_at = array (integers ns); value = array_text ns }

readings_is : (ns : List ℕ) → All (λ n. n ≤ largest) ns → IsRow (readings_row ns)
unfolding key_text
readings_is ns all = record { key = refl; only = array_only ns; is = array_is ns all }

abbrev rows_of : Config → List Row
rows_of c =
    number_row (codes "lease_us") c.lease_us
    ∷ number_row (codes "nodes") c.nodes
    ∷ number_row (codes "number") c.number
    ∷ number_row (codes "passes") c.passes
    ∷ schedule_row c.schedule
    ∷ number_row (codes "skew_us") c.skew_us
    ∷ readings_row c.start_us
    ∷ number_row (codes "status") c.status
    ∷ number_row (codes "tablets") c.tablets ∷ []

rows_are : (c : Config) → IsSpelled c → AllByRecursion IsRow (rows_of c)
unfolding key_text
rows_are c h = (
  number_is (codes "lease_us") c.lease_us refl (omega (arith, h.cluster.lease.1)),
  (
    number_is (codes "nodes") c.nodes refl (omega (arith, h.cluster.nodes.1)),
    (
      number_is (codes "number") c.number refl h.number,
      (
        number_is (codes "passes") c.passes refl (omega (arith, h.cluster.passes)),
        (
          schedule_is c.schedule,
          (
            number_is (codes "skew_us") c.skew_us refl (omega (arith, h.cluster.skew)),
            (
              readings_is c.start_us h.readings,
              (
                number_is (codes "status") c.status refl (omega (arith, h.cluster.status.1)),
                (number_is (codes "tablets") c.tablets refl (omega (arith, h.cluster.tablets.1)), tt),
              ),
            ),
          ),
        ),
      ),
    ),
  ),
)

expressions_of : (c : Config) → expressions (table_of c) ≡ map expression_of (rows_of c)
expressions_of c = rw (no_section c.start_us, no_elements ([], codes "start_us") c.start_us) refl

rows_text : (c : Config) → flat_map row_text (rows_of c) ≡ head_text c
rows_text c = refl

-- the text is the only one that is printed for the table
pub head_only : (c : Config) (text : List ℕ) → IsSpelled c → IsDocumentText false (table_of c) text → text ≡ head_text c
head_only c text h is =
    lines_only false (rows_of c) text (rows_are c h) (subst (λ (es : List Expression). IsLinesText false false es text) (expressions_of c) is) ∙ rows_text c

printed : (c : Config) → IsSpelled c → IsDocumentText false (table_of c) (head_text c)
printed c h =
    subst (λ (t : List ℕ). IsDocumentText false (table_of c) t) (rows_text c)
    (subst (λ (es : List Expression). IsLinesText false false es (flat_map row_text (rows_of c))) (sym (expressions_of c)) (lines_are false (rows_of c) (rows_are c h)))

pub valid : (c : Config) → members_have_valid_dates (table_of c) ≡ true
valid c = rw (integers_valid c.start_us) refl

sorted : (c : Config) → members_are_sorted (table_of c) ≡ true
sorted c = rw (integers_sorted c.start_us) refl

-- the text of the head says this configuration
pub head_again : (c : Config) → IsSpelled c → head_of (head_text c) ≡ Ok c
head_again c h =
    ap head_of_document (parse_document-printed false (table_of c) (head_text c) (printed c h) (depth_fits c) (valid c) (sorted c)) ∙ head_back c h
