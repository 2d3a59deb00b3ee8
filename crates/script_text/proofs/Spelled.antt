-- What is read from words has a spelling.
use Rattle.std.proofs.Common.{◌≡◌, ℕ, ◌-◌, ◌^◌, ◌≤◌, Bool, true, false, cond, List, [], ◌∷◌, ◌++◌, Option, Some, None, IfSome, pos, negsuc, refl, arith, nat_eq, nat_le, not, ◌&&◌, codes}
use Rattle.std.specs.Prelude.{option_map, option_and_then}
use Rattle.std.specs.Str.{bytes_eq}
use Rattle.std.specs.Int.{w64}
use Rattle.std.specs.Int.RustNames.{FitsSigned}
use Rattle.std.specs.List.{AllByRecursion}
use Rattle.std.proofs.lemmas.Bool.{and_parts, leb-true}
use Rattle.std.proofs.lemmas.Int.{ints}
use Rattle.doc_key.specs.Spelling as of_key
use Rattle.doc_value.specs.declared.primitive.Primitive.{Primitive}
use Rattle.doc_value.specs.declared.primitive.Primitive.TheVariants.{Int, Text as TextCase, False, True, Column}
use Rattle.doc_value.specs.Spelling as of_value
use Rattle.txn_data.specs.declared.config.Config.{Config}
use Rattle.script_text.specs.declared.document.Document.{Document}
use Rattle.script_text.specs.declared.in_string.InString.TheVariants.{Plain}
use Rattle.script_text.specs.declared.marks.Marks.TheVariants.{OfPath}
use Rattle.script_text.specs.declared.part_kind.PartKind.{PartKind}
use Rattle.script_text.specs.declared.part_kind.PartKind.TheVariants.{OfKey, BehindKey}
use Rattle.script_text.specs.Lines.{Text}
use Rattle.script_text.specs.Saying.{IsColumn, IsPlaced}
use Rattle.script_text.specs.Terms.{Group, column_of, columns_to, document_behind, document_in, document_of, group_step, group_to, if_document, if_spelled}
use Rattle.script_text.specs.Terms.{decimal_value, integer_of, is_document, is_whole, number_in, onto_group, part_of, place_for, place_of, string_in, subkey_of, subkeys_in, value_of}
use Rattle.script_text.specs.Words.{Piece, is_empty, pieces_of}

-- ---- options

and_then_some : {A B : Type 0} (o : Option A) (f : A → Option B) (P : A → Type 0) (Q : B → Type 0) → IfSome o P
    → ((x : A) → P x → IfSome (f x) Q) → IfSome (option_and_then f o) Q
and_then_some None f P Q p more = tt
and_then_some (Some x) f P Q p more = more x p

map_some : {A B : Type 0} (o : Option A) (f : A → B) (P : A → Type 0) (Q : B → Type 0) → IfSome o P
    → ((x : A) → P x → Q (f x)) → IfSome (option_map f o) Q
map_some None f P Q p more = tt
map_some (Some x) f P Q p more = more x p

pub cond_some : {A : Type 0} (b : Bool) (x y : Option A) (P : A → Type 0) → IfSome x P → IfSome y P → IfSome (cond b x y) P
cond_some true x y P p q = p
cond_some false x y P p q = q

pub guard_some : {A : Type 0} (b : Bool) (x : A) (P : A → Type 0) → (b ≡ true → P x) → IfSome (cond b (Some x) None) P
guard_some true x P p = p refl
guard_some false x P p = tt

-- ---- numbers and values

pub number_some : (low high : ℕ) (text : Text) → IfSome (number_in low high text) (λ n. (low ≤ n) × (n ≤ high))
number_some low high text =
    guard_some (is_whole text && (nat_le low (decimal_value text) && nat_le (decimal_value text) high)) (decimal_value text) (λ n. (low ≤ n) × (n ≤ high))
    (λ e. let bounds = and_parts _ _ (and_parts _ _ e).1 in (leb-true _ _ bounds.0, leb-true _ _ bounds.1))

below_fits : (n : ℕ) → (1 ≤ n) × (n ≤ 2 ^ 63) → FitsSigned w64 (negsuc (n - 1))
below_fits n h = omega (arith, ints, h.0, h.1)

above_fits : (n : ℕ) → (0 ≤ n) × (n ≤ 2 ^ 63 - 1) → FitsSigned w64 (pos n)
above_fits n h = omega (arith, ints, h.1)

integer_some : (text : Text) → IfSome (integer_of text) (FitsSigned w64)
integer_some [] = tt
integer_some (b ∷ text) =
    cond_some (nat_eq b 45) (option_map (λ n. negsuc (n - 1)) (number_in 1 (2 ^ 63) text)) (option_map pos (number_in 0 (2 ^ 63 - 1) (b ∷ text))) (FitsSigned w64)
    (map_some (number_in 1 (2 ^ 63) text) (λ n. negsuc (n - 1)) _ (FitsSigned w64) (number_some 1 (2 ^ 63) text) below_fits)
    (map_some (number_in 0 (2 ^ 63 - 1) (b ∷ text)) pos _ (FitsSigned w64) (number_some 0 (2 ^ 63 - 1) (b ∷ text)) above_fits)

abbrev IsGoodColumn : Primitive → Type 0
IsGoodColumn v = of_value.IsInRange v × (of_key.is_column v ≡ true)

spelled_some : (bytes : List ℕ) → IfSome (if_spelled (TextCase bytes)) IsGoodColumn
spelled_some bytes = guard_some (of_value.has_spelling (TextCase bytes)) (TextCase bytes) IsGoodColumn (λ e. (tt, e))

any_some : {A : Type 0} (o : Option A) → IfSome o (λ _. Unit {0})
any_some None = tt
any_some (Some x) = tt

-- what a text is that is no string
abbrev plain_column : Text → Option Primitive
plain_column text =
    cond (bytes_eq text (codes "true")) (Some True) (cond (bytes_eq text (codes "false")) (Some False) (option_map Int (integer_of text)))

plain_some : (text : Text) → IfSome (plain_column text) IsGoodColumn
plain_some text =
    let numbers = option_map Int (integer_of text) in
    cond_some (bytes_eq text (codes "true")) (Some True) (cond (bytes_eq text (codes "false")) (Some False) numbers) IsGoodColumn (tt, refl)
    (cond_some (bytes_eq text (codes "false")) (Some False) numbers IsGoodColumn (tt, refl)
    (map_some (integer_of text) Int (FitsSigned w64) IsGoodColumn (integer_some text) (λ z fits. (fits, refl))))

column_some : (text : Text) → IfSome (column_of text) IsGoodColumn
column_some [] = tt
column_some (b ∷ text) =
    let string = λ (bytes : List ℕ). if_spelled (TextCase bytes) in
    cond_some (nat_eq b 34) (option_and_then string (string_in text Plain)) (plain_column (b ∷ text)) IsGoodColumn
    (and_then_some (string_in text Plain) string (λ _. Unit {0}) IsGoodColumn (any_some (string_in text Plain)) (λ bytes _. spelled_some bytes))
    (plain_some (b ∷ text))

pub value_some : (text : Text) → IfSome (value_of text) IsColumn
value_some text =
    map_some (column_of text) of_value.spelling IsGoodColumn IsColumn (column_some text)
    (λ v good. record { value = v; in_range = good.0; column = good.1; is = refl })

column_fits : (n : ℕ) → (0 ≤ n) × (n ≤ 2 ^ 32 - 1) → of_value.IsInRange (Column n)
column_fits n h = omega (arith, h.1)

subkey_some : (text : Text) → IfSome (subkey_of text) of_value.IsInRange
subkey_some [] = tt
subkey_some (b ∷ text) =
    cond_some (nat_eq b 35) (option_map Column (number_in 0 (2 ^ 32 - 1) text)) (column_of (b ∷ text)) of_value.IsInRange
    (map_some (number_in 0 (2 ^ 32 - 1) text) Column _ of_value.IsInRange (number_some 0 (2 ^ 32 - 1) text) column_fits)
    (in_range (column_of (b ∷ text)) (column_some (b ∷ text)))
  where
    in_range : (o : Option Primitive) → IfSome o IsGoodColumn → IfSome o of_value.IsInRange
    in_range None p = tt
    in_range (Some v) p = p.0

part_some : (kind : PartKind) (text : Text) → IfSome (part_of kind text) of_value.IsInRange
part_some OfKey text = in_range (column_of text) (column_some text)
  where
    in_range : (o : Option Primitive) → IfSome o IsGoodColumn → IfSome o of_value.IsInRange
    in_range None p = tt
    in_range (Some v) p = p.0
part_some BehindKey text = subkey_some text

-- ---- paths

abbrev IsGoodGroup : Group → Type 0
IsGoodGroup g = AllByRecursion of_value.IsInRange g.values

step_some : (between ends mark : ℕ) (more : List Piece) (others : Option Group) (read : Option Primitive) → IfSome read of_value.IsInRange
    → IfSome others IsGoodGroup → IfSome (group_step between ends mark more others read) IsGoodGroup
step_some between ends mark more others None p q = tt
step_some between ends mark more others (Some value) p q =
    let last : Option Group = Some (record { values = value ∷ []; rest = more }) in
    let others_after = onto_group (value ∷ []) others in
    cond_some (nat_eq mark ends) last (cond (nat_eq mark between) others_after None) IsGoodGroup (p, tt)
    (cond_some (nat_eq mark between) others_after None IsGoodGroup
    (map_some others (λ (g : Group). record g { values = (value ∷ []) ++ g.values }) IsGoodGroup IsGoodGroup q (λ g good. (p, good))) tt)

group_some : (kind : PartKind) (between ends : ℕ) (pieces : List Piece) → IfSome (group_to kind between ends pieces) IsGoodGroup
unfolding group_to
group_some kind between ends [] = tt
group_some kind between ends (p ∷ more) =
    step_some between ends p.mark more (group_to kind between ends more) (part_of kind p.text) (part_some kind p.text) (group_some kind between ends more)

columns_some : (ends : ℕ) (pieces : List Piece) → IfSome (columns_to ends pieces) IsGoodGroup
columns_some ends [] = tt
columns_some ends (p ∷ more) =
    let none : Option Group = Some (record { values = []; rest = more }) in
    cond_some (is_empty p.text && nat_eq p.mark ends) none (group_to OfKey 44 ends (p ∷ more)) IsGoodGroup tt (group_some OfKey 44 ends (p ∷ more))

abbrev AreGood : List Primitive → Type 0
AreGood values = AllByRecursion of_value.IsInRange values

subkeys_some : (pieces : List Piece) → IfSome (subkeys_in pieces) AreGood
subkeys_some [] = tt
subkeys_some (p ∷ more) =
    let group = option_map (λ (g : Group). g.values) (group_to BehindKey 47 0 more) in
    let others = cond (nat_eq p.mark 47) group None in
    cond_some (not (is_empty p.text)) None (cond (nat_eq p.mark 0) (Some []) others) AreGood tt
    (cond_some (nat_eq p.mark 0) (Some []) others AreGood tt
    (cond_some (nat_eq p.mark 47) group None AreGood
    (map_some (group_to BehindKey 47 0 more) (λ (g : Group). g.values) IsGoodGroup AreGood (group_some BehindKey 47 0 more) (λ g good. good)) tt))

pub record IsGoodDocument (d : Document) : Type 0 where
  pub key : of_key.IsInRange d.key
  pub subkeys : AreGood d.subkeys
  pub has : is_document d ≡ true

document_some : (d : Document) → of_key.IsInRange d.key → AreGood d.subkeys → IfSome (if_document d) IsGoodDocument
document_some d key subkeys = guard_some (is_document d) d IsGoodDocument (λ e. record { key = key; subkeys = subkeys; has = e })

document_behind_some : (pieces : List Piece) → IfSome (document_behind pieces) IsGoodDocument
document_behind_some pieces =
    and_then_some (columns_to 59 pieces) _ IsGoodGroup IsGoodDocument (columns_some 59 pieces) (λ hashed left.
    and_then_some (columns_to 93 hashed.rest) _ IsGoodGroup IsGoodDocument (columns_some 93 hashed.rest) (λ range right.
    and_then_some (subkeys_in range.rest) _ AreGood IsGoodDocument (subkeys_some range.rest) (λ subkeys good.
    document_some (record { key = record { hashed = hashed.values; range = range.values }; subkeys = subkeys })
    (record { hashed = left; range = right }) good)))

document_in_some : (pieces : List Piece) → IfSome (document_in pieces) IsGoodDocument
document_in_some [] = tt
document_in_some (p ∷ more) = cond_some (is_empty p.text && nat_eq p.mark 91) (document_behind more) None IsGoodDocument (document_behind_some more) tt

pub place_some : (config : Config) (text : Text) → IfSome (place_of config.tablets text) (IsPlaced config)
place_some config text =
    map_some (document_of text) (place_for config.tablets) IsGoodDocument (IsPlaced config) (document_in_some (pieces_of OfPath text))
    (λ d good. record {
      key = d.key;
      subkeys = d.subkeys;
      key_in_range = good.key;
      subkeys_in_range = good.subkeys;
      has = good.has;
      is = refl;
    })
