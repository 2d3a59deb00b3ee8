use Rattle.std.proofs.Common.{List, ℕ, ◌++◌, ◌≡◌, ◌∙◌, ap, codes, decimal, string_bytes}
use Rattle.std.proofs.lemmas.Result.{IfOk-weaker}
use Rattle.report_text.specs.Total.{skew_text}
use Rattle.report_text.proofs.total.plain_total.Goals as goal

pub returns : goal.returns
returns c =
    let n = c.args.counts.now in
    let front : List ℕ → List ℕ = λ rest. codes "total commands=" ++ (decimal n.commands ++ (codes " ok=" ++ (decimal n.ok ++ (codes " refused=" ++ (decimal n.refused
    ++ (codes " committed=" ++ (decimal n.committed ++ (codes " " ++ rest)))))))) in
    let reads : string_bytes c.in_ok-reads.reads ≡ codes "reads=" ++ (decimal n.reads ++ (codes " restarts=" ++ (decimal n.restarts ++ (codes " skew=" ++ (skew_text c.args.agree ++ codes "\n"))))) =
    c.in_ok-reads.ensures.ok ∙ ap (λ (skew : List ℕ). codes "reads=" ++ (decimal n.reads ++ (codes " restarts=" ++ (decimal n.restarts ++ (codes " skew=" ++ (skew ++ codes "\n")))))) c.skew_text-skew.ensures in
    IfOk-weaker c.format-2.result _ _ (λ line h. h ∙ ap front reads) c.format-2.ensures.ok
