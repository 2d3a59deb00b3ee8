use Rattle.std.proofs.Common.{◌≡◌, ℕ, ◌+◌, ◌≤◌, Bool, true, false, nat_le, take, length, refl, sym, ap, ◌∙◌, subst, arith}
use Rattle.std.proofs.lemmas.Bool.Decides.{nat_tests}
use Rattle.doc_path.specs.Path.{Parts}
use Rattle.regular_records.specs.declared.newest_beneath.NewestBeneath.{NewestBeneath}
use Rattle.regular_records.specs.NewestBeneath.{HasPlace}
use Rattle.regular_records.proofs.newest_beneath.NewestBeneath.make_places.Goals as goal

here-or-before : (p : Parts) (i : ℕ) (s : NewestBeneath) → ((n : ℕ) → 1 ≤ n → n ≤ i → HasPlace (take n p) s) → HasPlace (take (i + 1) p) s
    → (n : ℕ) → 1 ≤ n → n ≤ i + 1 → HasPlace (take n p) s
here-or-before p i s before here n least most =
    let P : Bool → Type 0 = λ b. nat_le n i ≡ b → HasPlace (take n p) s in
    (elim (nat_le n i) as P [
      | true ↦ λ b. before n least (grind (arith, nat_tests))
      | false ↦ λ b. let is : i + 1 ≡ n = grind (arith, nat_tests) in subst (λ m. HasPlace (take m p) s) is here
    ]) refl

pub returns-in_err-make_place-clause-others : goal.returns-in_err-make_place-clause-others
returns-in_err-make_place-clause-others c p h n least most = c.make_place.ensures.others (take n p) (c.loop-i.invariant.others p h n least most)

pub loop-i-preserved : goal.loop-i-preserved
loop-i-preserved c = record {
  times = λ q. c.make_place.ensures.times q ∙ c.loop-i.invariant.times q;
  others = λ p h n least most. c.make_place.ensures.others (take n p) (c.loop-i.invariant.others p h n least most);
  places =
      let p = c.as_parts-parts.result.now.items in
      here-or-before p c.loop-i.i c.make_place.new.self
      (λ n least most. c.make_place.ensures.others (take n p) (c.loop-i.invariant.places n least most))
      (subst (λ q. HasPlace q c.make_place.new.self) (ap (take (c.loop-i.i + 1)) c.deref.ensures.value) c.in_ok-make_place.ensures.place);
}

pub returns-clause-places : goal.returns-clause-places
returns-clause-places c n least most =
    let many : length c.args.path.now ≡ length c.as_parts-parts.result.now.items = ap length (sym c.as_parts-parts.ensures.value) in
    subst (λ p. HasPlace (take n p) c.loop-i.self) c.as_parts-parts.ensures.value (c.loop-i.invariant.places n least (omega arith))
