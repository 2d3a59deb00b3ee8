use Rattle.std.proofs.Common.{◌≡◌, ℕ, replicate, ap, ◌∙◌, arith}
use Rattle.report_text.specs.Walk.{nothing_shown}
use Rattle.report_text.proofs.seen.no_lines.Goals as goal

pub returns : goal.returns
returns c =
    let all : c.loop-session._session ≡ 1001 = omega arith in
    c.loop-session.invariant ∙ ap (λ (n : ℕ). replicate n nothing_shown) all
