-- What stands in front of a list that something was appended to, in part.
use Rattle.std.proofs.Common.{◌≡◌, ℕ, ◌≤◌, List, ◌++◌, length, take, sym, ap, ◌∙◌, arith, length-append, refl}
use Rattle.std.proofs.lemmas.List.{take_at, take-take}

kept_with : (old mid more new : List ℕ) → mid ≡ old ++ more → take (length mid) new ≡ mid → take (length old) new ≡ old
kept_with old mid more new e kept =
    let longer : length old ≤ length mid = omega (arith, ap length e, length-append old more) in
    sym (take-take (length old) (length mid) new longer) ∙ ap (take (length old)) (kept ∙ e) ∙ take_at old more (length old) refl

-- three parts were appended, and of a fourth a part
pub front_kept : (old a b d new x y z : List ℕ) → a ≡ old ++ x → b ≡ a ++ y → d ≡ b ++ z → take (length d) new ≡ d → take (length old) new ≡ old
front_kept old a b d new x y z first second third kept =
    kept_with old a x new first (kept_with a b y new second (kept_with b d z new third kept))
