use Rattle.std.proofs.Common.{◌≡◌, ℕ, ◌+◌, ◌≤◌, ◌<◌, Bool, true, false, nat_eq, max, take, length, if◌then◌else◌, refl, sym, ap, ◌∙◌, arith}
use Rattle.std.proofs.lemmas.Bool.Decides.{nat_tests}
use Rattle.std.proofs.lemmas.List.{length-take-le}
use Rattle.doc_path.specs.Path.{Parts, is_prefix}
use Rattle.regular_records.specs.declared.newest_beneath.NewestBeneath.{NewestBeneath}
use Rattle.regular_records.specs.NewestBeneath.{newest_at}
use Rattle.regular_records.proofs.Prefix.{prefix-take, prefix-length, is_prefix-take}
use Rattle.regular_records.proofs.newest_beneath.NewestBeneath.raise.Goals as goal

-- the prefix of i + 1 parts is the one that is raised
raised-next : (p q : Parts) (i at : ℕ) (a b d : NewestBeneath) → i < length p
    → ((r : Parts) → (length r ≤ i → is_prefix r p ≡ true → ⊥) → newest_at r b ≡ newest_at r a)
    → (length q ≤ i → newest_at q b ≡ max at (newest_at q a))
    → newest_at (take (i + 1) p) d ≡ max at (newest_at (take (i + 1) p) b)
    → ((r : Parts) → (r ≡ take (i + 1) p → ⊥) → newest_at r d ≡ newest_at r b)
    → length q ≤ i + 1 → is_prefix q p ≡ true → newest_at q d ≡ max at (newest_at q a)
raised-next p q i at a b d inside others before here apart le begins =
    let P : Bool → Type 0 = λ x. nat_eq (length q) (i + 1) ≡ x → newest_at q d ≡ max at (newest_at q a) in
    (elim (nat_eq (length q) (i + 1)) as P [
      | true ↦ λ e.
          let many : length q ≡ i + 1 = grind (arith, nat_tests) in
          let is : q ≡ take (i + 1) p = prefix-take q p begins ∙ ap (λ n. take n p) many in
          ap (λ r. newest_at r d) is ∙ here ∙ ap (λ r. max at (newest_at r b)) (sym is) ∙ ap (max at) (others q (λ less begins. omega arith))
      | false ↦ λ e.
          let less : length q ≤ i = grind (arith, nat_tests) in
          let many : length (take (i + 1) p) ≡ i + 1 = length-take-le (i + 1) p (omega arith) in
          apart q (λ is. let same = ap length is in omega arith) ∙ before less
    ]) refl

other-next : (p q : Parts) (i : ℕ) (a b d : NewestBeneath) → i < length p
    → ((r : Parts) → (length r ≤ i → is_prefix r p ≡ true → ⊥) → newest_at r b ≡ newest_at r a)
    → ((r : Parts) → (r ≡ take (i + 1) p → ⊥) → newest_at r d ≡ newest_at r b)
    → (length q ≤ i + 1 → is_prefix q p ≡ true → ⊥) → newest_at q d ≡ newest_at q a
other-next p q i a b d inside others apart none =
    let many : length (take (i + 1) p) ≡ i + 1 = length-take-le (i + 1) p (omega arith) in
    apart q (λ is. none (let same = ap length is in omega arith) (ap (λ r. is_prefix r p) is ∙ is_prefix-take p (i + 1)))
    ∙ others q (λ le begins. none (omega arith) begins)

pub raise_one-requires : goal.raise_one-requires
raise_one-requires c = c.loop-i.invariant.places c.args.path.now c.requires (c.loop-i.i + 1) (omega arith) (omega arith)

pub loop-i-preserved : goal.loop-i-preserved
loop-i-preserved c =
    let p = c.args.path.now in
    let i = c.loop-i.i in
    let inside : i < length p = c.loop-i-test.true in
    record {
      raised = λ q some le begins.
          raised-next p q i c.args.at c.args.self.now c.loop-i.self c.raise_one.new.self inside c.loop-i.invariant.others
          (λ less. c.loop-i.invariant.raised q some less begins) c.raise_one.ensures.raised c.raise_one.ensures.others le begins;
      others = λ q none. other-next p q i c.args.self.now c.loop-i.self c.raise_one.new.self inside c.loop-i.invariant.others c.raise_one.ensures.others none;
      places = λ q h n least most. c.raise_one.ensures.places (take n q) (c.loop-i.invariant.places q h n least most);
    }

pub returns-clause-times : goal.returns-clause-times
returns-clause-times c q some =
    let p = c.args.path.now in
    let P : Bool → Type 0 = λ b. is_prefix q p ≡ b → newest_at q c.loop-i.self ≡ (if b then max c.args.at (newest_at q c.args.self.now) else newest_at q c.args.self.now) in
    (elim (is_prefix q p) as P [
      | true ↦ λ b. let le = prefix-length q p b in c.loop-i.invariant.raised q some (omega arith) b
      | false ↦ λ b. c.loop-i.invariant.others q (λ le begins. let bad : true ≡ false = sym begins ∙ b in cc)
    ]) refl
