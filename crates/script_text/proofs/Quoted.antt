-- How the bytes of a string are read from the left.
use Rattle.std.proofs.Common.{◌≡◌, ℕ, ◌+◌, ◌<◌, ◌≤◌, List, [], ◌∷◌, ◌++◌, length, get_or, drop, Option, Some, None, refl, sym, ap, arith}
use Rattle.std.proofs.lemmas.List.{append-nil, append_assoc, at_drop_more, drop_all, drop_more}
use Rattle.script_text.specs.declared.in_string.InString.{InString}
use Rattle.script_text.specs.declared.in_string.InString.TheVariants.{Plain}
use Rattle.script_text.specs.declared.string_step.StringStep.TheVariants.{Goes, Gives, Ends, Wrong}
use Rattle.script_text.specs.Lines.{Text}
use Rattle.script_text.specs.Terms.{onto, step, string_in}

onto-onto : (a b : List ℕ) (rest : Option (List ℕ)) → onto a (onto b rest) ≡ onto (a ++ b) rest
onto-onto a b None = refl
onto-onto a b (Some bytes) = ap Some (sym (append_assoc a b bytes))

-- a byte that gives none
pub string_goes : (front : List ℕ) (text : Text) (i : ℕ) (at next : InString) → i < length text → step at (get_or text i 0) ≡ Goes next
    → onto front (string_in (drop i text) at) ≡ onto front (string_in (drop (i + 1) text) next)
unfolding string_in
string_goes front text i at next lt goes =
    let more = at_drop_more (λ (t : Text). string_in t at) text i 0 lt in
    rw (more, goes) refl

-- a byte that gives one
pub string_gives : (front : List ℕ) (text : Text) (i byte : ℕ) (at : InString) → i < length text
    → step at (get_or text i 0) ≡ Gives byte → onto front (string_in (drop i text) at) ≡ onto (front ++ byte ∷ []) (string_in (drop (i + 1) text) Plain)
unfolding string_in
string_gives front text i byte at lt gives =
    let more = at_drop_more (λ (t : Text). string_in t at) text i 0 lt in
    rw (more, gives) (onto-onto front (byte ∷ []) (string_in (drop (i + 1) text) Plain))

-- a byte that ends the text
pub string_ends : (front : List ℕ) (text : Text) (i : ℕ) (at : InString) → i < length text → step at (get_or text i 0) ≡ Ends
    → i + 1 ≡ length text → onto front (string_in (drop i text) at) ≡ Some front
unfolding string_in
string_ends front text i at lt ends last =
    let more = at_drop_more (λ (t : Text). string_in t at) text i 0 lt in
    rw (more, ends, drop_all (i + 1) text (omega arith)) (ap Some (append-nil front))

-- a byte that would end the string before the text ends
pub string_stops : (front : List ℕ) (text : Text) (i : ℕ) (at : InString) → i < length text → step at (get_or text i 0) ≡ Ends
    → i + 1 < length text → onto front (string_in (drop i text) at) ≡ None
unfolding string_in
string_stops front text i at lt ends more_text =
    let more = at_drop_more (λ (t : Text). string_in t at) text i 0 lt in
    rw (more, ends, drop_more text (i + 1) 0 more_text) refl

pub string_wrong : (front : List ℕ) (text : Text) (i : ℕ) (at : InString) → i < length text → step at (get_or text i 0) ≡ Wrong
    → onto front (string_in (drop i text) at) ≡ None
unfolding string_in
string_wrong front text i at lt wrong =
    let more = at_drop_more (λ (t : Text). string_in t at) text i 0 lt in
    rw (more, wrong) refl

-- no byte is left
pub string_none : (front : List ℕ) (text : Text) (i : ℕ) (at : InString) → length text ≤ i → onto front (string_in (drop i text) at) ≡ None
unfolding string_in
string_none front text i at le = rw (drop_all i text le) refl
