use Rattle.std.proofs.Common.{◌++◌, ◌∙◌, List, ℕ, ap, codes}
use Rattle.cluster_config.specs.Written.{head_text}
use Rattle.script_text.proofs.Kept.{behind}
use Rattle.script_text.proofs.writing.write_top.Goals as goal

pub returns-clause-ok : goal.returns-clause-ok
returns-clause-ok c =
    let old = c.args.out.now.items in
    let head = head_text c.args.config.now in
    behind old c.extend_from_slice.new.self.items c.extend_from_slice-2.new.self.items head (codes "---\n")
    (c.in_ok-extend_from_slice.ensures.items ∙ ap (λ (t : List ℕ). old ++ t) (c.as_bytes.ensures.value ∙ c.in_ok-head.ensures.text))
    c.in_ok-extend_from_slice-2.ensures.items
