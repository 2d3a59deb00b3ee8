-- What stood in a buffer stands there still, whatever was put behind it.
use Rattle.std.proofs.Common.{◌≡◌, ℕ, ◌≤◌, List, ◌++◌, length, take, Result, Ok, Err, sym, ap, ◌∙◌, refl, arith}
use Rattle.std.specs.Prelude.{OnErr}
use Rattle.std.proofs.lemmas.List.{take_at, take-take, length-append}

-- after one step that went well, and later ones
kept : (before piece between after : List ℕ) → between ≡ before ++ piece → take (length between) after ≡ between → take (length before) after ≡ before
kept before piece between after e later =
    let longer : length before ≤ length between = omega (arith, ap length e, length-append before piece) in
    sym (take-take (length before) (length between) after longer) ∙ ap (take (length before)) (later ∙ e) ∙ take_at before piece (length before) refl

-- and where a later one failed
pub kept_on_err : {A E : Type 0} (r : Result A E) (before piece between after : List ℕ) → between ≡ before ++ piece → take (length between) after ≡ between
    → OnErr r (take (length before) after ≡ before)
kept_on_err (Ok x) before piece between after e later = tt
kept_on_err (Err x) before piece between after e later = kept before piece between after e later
