-- What is shown is ASCII, and what stood before it stays there.
use Rattle.std.proofs.Common.{◌≡◌, ℕ, List, [], ◌∷◌, ◌++◌, All, IsAscii, OnErr, Result, Ok, Err, length, take, refl, sym, ap, ◌∙◌, append_assoc, length-append, arith}
use Rattle.std.specs.List.{flat_map}
use Rattle.std.proofs.lemmas.List.{take-take, take_at}
use Rattle.std.proofs.lemmas.Str.{IsAscii-append}
use Rattle.std.proofs.lemmas.Str.Ascii.{IsAscii-cons, IsAscii-nil}
use Rattle.doc_value.specs.declared.primitive.Primitive.{Primitive}
use Rattle.doc_value.specs.Showing as value
use Rattle.doc_value.proofs.Shown.{parted_ascii}
use Rattle.doc_key.specs.declared.doc_key.DocKey.{DocKey}
use Rattle.doc_key.specs.Showing.{shown_columns, shown}

pub columns_ascii : (first : Primitive) (others : List Primitive) → IsAscii (value.shown first) → All (λ (d : Primitive). IsAscii (value.shown d)) others
    → IsAscii (shown_columns (first ∷ others))
columns_ascii first others here all =
    IsAscii-append (value.shown first) (flat_map (λ (d : Primitive). 44 ∷ value.shown d) others) here
    (parted_ascii 44 (omega arith) value.shown others all)

pub key_ascii : (key : DocKey) → IsAscii (shown_columns key.hashed) → IsAscii (shown_columns key.range) → IsAscii (shown key)
key_ascii key hashed range =
    let rest = shown_columns key.range ++ 93 ∷ [] in
    IsAscii-cons 91 (shown_columns key.hashed ++ 59 ∷ rest) (omega arith)
    (IsAscii-append (shown_columns key.hashed) (59 ∷ rest) hashed
    (IsAscii-cons 59 rest (omega arith)
    (IsAscii-append (shown_columns key.range) (93 ∷ []) range (IsAscii-cons 93 [] (omega arith) IsAscii-nil))))

-- what stood there before three steps, where a fourth runs out of memory
pub kept : {T E : Type 0} (r : Result T E) (old one two three new a b c : List ℕ) → one ≡ old ++ a → two ≡ one ++ b → three ≡ two ++ c
    → take (length three) new ≡ three → OnErr r (take (length old) new ≡ old)
kept (Ok x) old one two three new a b c p q s same = tt
kept (Err e) old one two three new a b c p q s same =
    let whole : three ≡ old ++ ((a ++ b) ++ c) = s ∙ (ap (λ (t : List ℕ). t ++ c) (q ∙ (ap (λ (t : List ℕ). t ++ b) p ∙ append_assoc old a b)) ∙ append_assoc old (a ++ b) c) in
    sym (take-take (length old) (length three) new (omega (arith, ap length whole, length-append old ((a ++ b) ++ c))))
    ∙ (ap (take (length old)) (same ∙ whole) ∙ take_at old ((a ++ b) ++ c) (length old) refl)
