use Rattle.std.proofs.Common.{◌≡◌, ℕ, Bool, true, false, not, List, get_or, refl, sym, ap, ◌∙◌, arith}
use Rattle.std.proofs.lemmas.Slice.Eq.{bytes_eq-Decides}
use Rattle.std.specs.Str.{bytes_eq}
use Rattle.std.proofs.lemmas.List.{take_more_same}
use Rattle.regular_records.proofs.prefix_words.shared.Goals as goal

part-is : (a b : List ℕ) → not (bytes_eq a b) ≡ false → a ≡ b
part-is a b h =
    let P : Bool → Type 0 = λ x. bytes_eq a b ≡ x → not x ≡ false → a ≡ b in
    (elim (bytes_eq a b) as P [ true ↦ λ x k. (bytes_eq-Decides a b).0 x | false ↦ λ x k. cc ]) refl h

pub loop-i-preserved : goal.loop-i-preserved
loop-i-preserved c =
    let p = c.args.path.now in
    let q = c.args.other.now in
    let i = c.loop-i.i in
    let a = c.index-path-i.result in
    let same = part-is a c.index-other-i.result (sym c.ne.ensures ∙ c.if-ne.false) in
    let here : get_or p i a ≡ get_or q i a = sym c.index-path-i.is ∙ same ∙ c.index-other-i.is ∙ ap (get_or q i) (sym same) in
    take_more_same p q i a (omega (arith, c.min-most.ensures)) (omega (arith, c.min-most.ensures)) c.loop-i.invariant here
