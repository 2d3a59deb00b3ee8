-- The slots of one path, with the newest first.
use Rattle.std.proofs.Common.{◌≡◌, ℕ, ◌<◌, ◌≤◌, Bool, true, false, ◌&&◌, ◌||◌, length, take, not, List, [], ◌∷◌, Option, Some, None, nat_lt, nat_eq, if◌then◌else◌, refl, sym, ap, ◌∙◌, arith}
use Rattle.std.specs.Prelude.{nat_le, filter}
use Rattle.std.proofs.lemmas.Bool.Decides.{nat_tests}
use Rattle.std.specs.BTreeMap.Range.{range_contains}
use Rattle.std.specs.Ordering.{nat_cmp, on, flip_args, then_cmp, is_le}
use Rattle.std.specs.declared.cmp.Ordering.{Ordering}
use Rattle.std.specs.declared.cmp.Ordering.TheVariants.{Less, Equal, Greater}
use Rattle.std.specs.declared.ops.Bound.TheVariants.{Included, Unbounded}
use Rattle.doc_path.specs.Path.{Parts, path_order}
use Rattle.txn_types.specs.Tablet.{not_after}
use Rattle.txn_data.specs.declared.version.Version.{Version}
use Rattle.txn_types.specs.Lists.{or_else}
use Rattle.regular_records.specs.declared.version_key.VersionKey.{VersionKey}
use Rattle.regular_records.specs.declared.version_value.VersionValue.{VersionValue}
use Rattle.regular_records.specs.declared.word.Word.{Word}
use Rattle.regular_records.specs.Records.{later}
use Rattle.regular_records.proofs.Order.{take-less}
use Rattle.regular_records.specs.Store.{word_version, Slot, shown, version_of, first_until}

-- the order of the slots
abbrev pub version_key_cmp : VersionKey → VersionKey → Ordering
version_key_cmp = flip_args (then_cmp (on (λ (m : VersionKey). m.at) nat_cmp) (on (λ (m : VersionKey). m.number) nat_cmp))

-- the first version of slots
abbrev pub first_shown : Parts → List Slot → Option Version
first_shown p [] = None
first_shown p (s ∷ slots) = or_else (shown p s) (first_shown p slots)

abbrev pub greatest_at : ℕ → VersionKey
greatest_at t = record { at = t; number = 4294967295 }

-- a slot with a version lies in the range from t on exactly where it is not later than t
range-until : (t : ℕ) (m : VersionKey) → nat_lt m.number 4294967296 ≡ true → is_le (version_key_cmp (greatest_at t) m) ≡ nat_le m.at t
range-until t m small = grind (arith, nat_tests)

abbrev kept_if : Bool → Option Version → Option Version
kept_if b o = if b then o else None

kept_if-none : (b c : Bool) → kept_if b None ≡ kept_if c None
kept_if-none true true = refl
kept_if-none true false = refl
kept_if-none false true = refl
kept_if-none false false = refl

-- a slot without a version shows nothing, in the range or out of it
shown-either : (p : Parts) (s : Slot) (b c : Bool) → (nat_lt s.0.number 4294967296 ≡ true → b ≡ c)
    → kept_if c (shown p s) ≡ kept_if b (shown p s)
shown-either p (m, None) b c h = kept_if-none c b
shown-either p (m, Some held) b c h =
    let P : Bool → Type 0 = λ small. (small ≡ true → b ≡ c) → kept_if c (if small then Some (version_of p m held) else None) ≡ kept_if b (if small then Some (version_of p m held) else None) in
    (elim (nat_lt m.number 4294967296) as P [
      | true ↦ λ g. ap (λ x. kept_if x (Some (version_of p m held))) (sym (g refl))
      | false ↦ λ g. kept_if-none c b
    ]) h

first_shown-if : (p : Parts) (s : Slot) (b : Bool) (slots : List Slot)
    → or_else (if b then shown p s else None) (first_shown p slots) ≡ first_shown p (if b then s ∷ slots else slots)
first_shown-if p s true slots = refl
first_shown-if p s false slots = refl

abbrev pub in_range : ℕ → Slot → Bool
in_range t s = range_contains version_key_cmp (Included (greatest_at t)) Unbounded s.0

and-true : (b : Bool) → (b && true) ≡ b
and-true true = refl
and-true false = refl

pub first_shown-range : (t : ℕ) (p : Parts) (slots : List Slot) → first_until t p slots ≡ first_shown p (filter (in_range t) slots)
first_shown-range t p [] = refl
first_shown-range t p (s ∷ slots) =
    ap (λ x. or_else x (first_until t p slots)) (shown-either p s (in_range t s) (nat_le s.0.at t) (λ small. and-true (is_le (version_key_cmp (greatest_at t) s.0)) ∙ range-until t s.0 small))
    ∙ ap (or_else (if in_range t s then shown p s else None)) (first_shown-range t p slots)
    ∙ first_shown-if p s (in_range t s) (filter (in_range t) slots)

-- the first slot that has a version
pub first_shown-here : (p : Parts) (s : Slot) (h : VersionValue) (slots : List Slot) → s.1 ≡ Some h → s.0.number < 4294967296
    → first_shown p (s ∷ slots) ≡ Some (version_of p s.0 h)
first_shown-here p (m, o) h slots is small =
    let is_small : nat_lt m.number 4294967296 ≡ true = grind (arith, nat_tests) in
    rw (is, is_small) refl

older-not : (a b m n : ℕ) (o : Ordering) → o ≡ Less
    → (nat_lt a b || (nat_eq a b && (nat_lt m n || (nat_eq m n && not_after o)))) ≡ not (nat_lt b a || (nat_eq b a && nat_lt n m))
older-not a b m n Less is = grind (arith, nat_tests)
older-not a b m n Equal is = cc
older-not a b m n Greater is = cc

-- the version of the longer path comes later, unless it is older
pub later-longer : (p : Parts) (w o : Word) (b : Bool) → w.parts < o.parts → o.parts ≤ length p
    → b ≡ (nat_lt o.at.now w.at.now || (nat_eq o.at.now w.at.now && nat_lt o.number w.number))
    → (if b then Some (word_version p w) else Some (word_version p o)) ≡ later (Some (word_version p w)) (Some (word_version p o))
later-longer p w o b longer fits is =
    rw (older-not w.at.now o.at.now w.number o.number (path_order (take w.parts p) (take o.parts p)) (take-less p w.parts o.parts longer fits), ← is)
    (elim b as (λ b. (if b then Some (word_version p w) else Some (word_version p o)) ≡ (if not b then Some (word_version p o) else Some (word_version p w))) [ true ↦ refl | false ↦ refl ])
