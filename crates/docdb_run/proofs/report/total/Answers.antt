use Rattle.std.proofs.Common.{List, ℕ, ◌++◌, ◌≡◌, ◌∙◌, ap, codes, decimal, string_bytes}
use Rattle.std.proofs.lemmas.Result.{IfOk-weaker}
use Rattle.docdb_run.proofs.report.total.Goals as goal

pub returns : goal.returns
returns c =
    let n = c.args.counts.now in
    let front : List ℕ → List ℕ = λ rest. codes "total commands=" ++ (decimal c.args.commands ++ (codes " ok=" ++ (decimal n.ok ++ (codes " refused=" ++ (decimal n.refused
    ++ (codes " committed=" ++ (decimal n.committed ++ (codes " " ++ rest)))))))) in
    let reads : string_bytes c.in_ok-reads.reads ≡ codes "reads=" ++ (decimal n.reads ++ (codes " restarts=" ++ (decimal n.restarts ++ codes " skew=ok\n"))) = c.in_ok-reads.ensures.ok in
    IfOk-weaker c.format-2.result _ _ (λ line h. h ∙ ap front reads) c.format-2.ensures.ok
