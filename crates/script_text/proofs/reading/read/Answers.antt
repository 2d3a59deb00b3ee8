use Rattle.std.proofs.Common.{◌≡◌, Result, ap, arith, subst, sym, take, ◌∙◌}
use Rattle.std.specs.List.{slice_range}
use Rattle.std.proofs.lemmas.Slice.{between_from_start}
use Rattle.txn_data.specs.declared.commands.Commands.{Commands}
use Rattle.txn_data.specs.declared.config.Config.{Config}
use Rattle.cluster_config.specs.Head.{head_of}
use Rattle.script_text.specs.declared.script_refusal.ScriptRefusal.{ScriptRefusal}
use Rattle.script_text.specs.Lines.{Text, lines_of}
use Rattle.script_text.specs.Outcomes.{Tells}
use Rattle.script_text.specs.Script.{script_in, with_head}
use Rattle.script_text.proofs.Heads.{script_other, script_parts}
use Rattle.script_text.proofs.reading.read.Goals as goal

pub returns-in_default-clause-value : goal.returns-in_default-clause-value
returns-in_default-clause-value c = rw c.refused-in_default.ensures (script_other c.args.bytes.now (omega arith) c.in_default.ensures.cases.0)

pub returns-in-Some-clause-value : goal.returns-in-Some-clause-value
returns-in-Some-clause-value c =
    let bytes = c.args.bytes.now in
    let end = c.in-Some.end in
    let head : c.range.result.now ≡ take end bytes =
    c.range.ensures.value ∙ (ap (λ (t : Text). slice_range t 0 end) c.in-Ok.ensures.cases.0 ∙ between_from_start bytes end) in
    let whole =
    script_parts bytes (omega arith) c.in-Ok.ensures.cases.1
    ∙ (ap script_in (sym c.in-Some.ensures.parts)
    ∙ ap (λ (h : Text). with_head (record { head = h; before = c.in-Some.before; body = lines_of c.in-Some.body.now }) (head_of h)) (sym head)) in
    subst (λ (said : Result (Config × Commands) ScriptRefusal). Tells (λ x. x) c.read_parts.result said) (sym whole) c.read_parts.ensures.value

pub returns-in-None-clause-value : goal.returns-in-None-clause-value
returns-in-None-clause-value c =
    rw c.refused-in-None.ensures (script_parts c.args.bytes.now (omega arith) c.in-Ok.ensures.cases.1 ∙ ap script_in (sym c.in-None.ensures.parts))
