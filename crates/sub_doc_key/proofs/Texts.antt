-- The text of a path: one part more, and what it is where the parts are spelled.
use Rattle.std.proofs.Common.{◌≡◌, ℕ, zero, suc, ◌+◌, ◌≤◌, List, [], ◌∷◌, ◌++◌, take, map, IsTrue, Result, Some, IsAscii, refl, sym, ap, ◌∙◌, append_assoc, arith}
use Rattle.std.specs.Prelude.{slice_get}
use Rattle.std.specs.List.{flat_map, list_all, AllByRecursion}
use Rattle.std.proofs.Math.Seq.{take-suc}
use Rattle.std.proofs.lemmas.List.{append-nil}
use Rattle.std.proofs.lemmas.List.Concat.{flat_map-append}
use Rattle.std.proofs.lemmas.Option.{slice_get_within, get_or_from_slice_get}
use Rattle.std.proofs.lemmas.Bool.{and_parts}
use Rattle.std.proofs.lemmas.Str.{IsAscii-append}
use Rattle.std.proofs.lemmas.Str.Ascii.{IsAscii-cons}
use Rattle.doc_path.specs.Path.{Parts}
use Rattle.doc_value.specs.declared.key_refusal.KeyRefusal.{KeyRefusal}
use Rattle.doc_value.specs.declared.primitive.Primitive.{Primitive}
use Rattle.doc_value.specs.Reading.{value_of}
use Rattle.doc_value.specs.Showing as of_value
use Rattle.doc_value.specs.Spelling.{spelling as value_spelling, has_spelling as value_has_spelling, IsInRange as IsValueInRange}
use Rattle.doc_value.proofs.Values.{all_again as value_again}
use Rattle.doc_key.specs.declared.doc_key.DocKey.{DocKey}
use Rattle.doc_key.specs.Reading.{key_of}
use Rattle.doc_key.specs.Showing as of_key
use Rattle.doc_key.specs.Spelling.{spelling as key_spelling, has_spelling as key_has_spelling, IsInRange as IsKeyInRange}
use Rattle.doc_key.proofs.Keys.{all_again as key_again}
use Rattle.sub_doc_key.specs.Showing.{shown, shown_key, shown_value, shown_path}

take_more : (ps : Parts) (k : ℕ) (part : List ℕ) → slice_get ps k ≡ Some part → take (suc k) ps ≡ take k ps ++ part ∷ []
take_more ps k part at =
    take-suc ps k part (slice_get_within ps k part at) ∙ ap (λ (x : List ℕ). take k ps ++ x ∷ []) (get_or_from_slice_get ps k part part at)

abbrev subkey_text : List ℕ → List ℕ
subkey_text part = 47 ∷ shown_value (value_of part)

pub shown_more : (path : Parts) (i : ℕ) (part : List ℕ) → slice_get path i ≡ Some part → 1 ≤ i
    → shown_path (take (i + 1) path) ≡ shown_path (take i path) ++ subkey_text part
shown_more path zero part at some = absurd (omega arith)
shown_more [] (suc k) part at some = absurd cc
shown_more (first ∷ subkeys) (suc k) part at some =
    let next : suc k + 1 ≡ suc (suc k) = omega arith in
    ap (λ (n : ℕ). shown_path (take n (first ∷ subkeys))) next
    ∙ ap (λ (ps : Parts). shown_key (key_of first) ++ flat_map subkey_text ps) (take_more subkeys k part at)
    ∙ ap (λ (t : List ℕ). shown_key (key_of first) ++ t) (flat_map-append subkey_text (take k subkeys) (part ∷ []))
    ∙ ap (λ (t : List ℕ). shown_key (key_of first) ++ (flat_map subkey_text (take k subkeys) ++ t)) (append-nil (subkey_text part))
    ∙ sym (append_assoc (shown_key (key_of first)) (flat_map subkey_text (take k subkeys)) (subkey_text part))

-- a step of the loop
pub shown_step : (old so_far slashed new : List ℕ) (path : Parts) (i : ℕ) (part : List ℕ) → slice_get path i ≡ Some part → 1 ≤ i
    → so_far ≡ old ++ shown_path (take i path) → slashed ≡ so_far ++ 47 ∷ [] → new ≡ slashed ++ shown_value (value_of part)
    → new ≡ old ++ shown_path (take (i + 1) path)
shown_step old so_far slashed new path i part at some first second third =
    third
    ∙ ap (λ (t : List ℕ). t ++ shown_value (value_of part)) (second ∙ ap (λ (t : List ℕ). t ++ 47 ∷ []) first)
    ∙ append_assoc (old ++ shown_path (take i path)) (47 ∷ []) (shown_value (value_of part))
    ∙ append_assoc old (shown_path (take i path)) (subkey_text part)
    ∙ ap (λ (t : List ℕ). old ++ t) (sym (shown_more path i part at some))

-- what is shown of one part more is ASCII too
pub ascii_step : (path : Parts) (i : ℕ) (part : List ℕ) → slice_get path i ≡ Some part → 1 ≤ i → IsAscii (shown_path (take i path))
    → IsAscii (shown_value (value_of part)) → IsAscii (shown_path (take (i + 1) path))
ascii_step path i part at some so_far here =
    rw (shown_more path i part at some)
    (IsAscii-append (shown_path (take i path)) (subkey_text part) so_far (IsAscii-cons 47 (shown_value (value_of part)) (omega arith) here))

-- ---- what the parts spell

subkeys_shown : (subkeys : List Primitive) → AllByRecursion IsValueInRange subkeys → IsTrue (list_all value_has_spelling subkeys)
    → flat_map subkey_text (map value_spelling subkeys) ≡ flat_map (λ s. 47 ∷ of_value.shown s) subkeys
subkeys_shown [] in_range have = refl
subkeys_shown (s ∷ ss) in_range have =
    let each = and_parts (value_has_spelling s) (list_all value_has_spelling ss) have in
    ap (λ (r : Result Primitive KeyRefusal). 47 ∷ (shown_value r ++ flat_map subkey_text (map value_spelling ss))) (value_again s in_range.0 each.0)
    ∙ ap (λ (t : List ℕ). 47 ∷ (of_value.shown s ++ t)) (subkeys_shown ss in_range.1 each.1)

pub shown_is : (key : DocKey) (subkeys : List Primitive) → IsKeyInRange key → IsTrue (key_has_spelling key) → AllByRecursion IsValueInRange subkeys → IsTrue (list_all value_has_spelling subkeys)
    → shown_path (key_spelling key ∷ map value_spelling subkeys) ≡ shown key subkeys
shown_is key subkeys in_range has subkeys_in_range subkeys_have =
    ap (λ (r : Result DocKey KeyRefusal). shown_key r ++ flat_map subkey_text (map value_spelling subkeys)) (key_again key in_range has)
    ∙ ap (λ (t : List ℕ). of_key.shown key ++ t) (subkeys_shown subkeys subkeys_in_range subkeys_have)
