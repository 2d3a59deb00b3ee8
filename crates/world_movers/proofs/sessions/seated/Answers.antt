use Rattle.std.proofs.Common.{◌≡◌, ◌<◌, ◌≤◌, ◌+◌, ◌∷◌, ◌++◌, List, ℕ, false, [], get_or, length, take, sym, ap, subst, ◌∙◌, arith}
use Rattle.std.proofs.lemmas.List.{take_all, take_more}
use Rattle.txn_data.specs.declared.command.Command.{Command}
use Rattle.txn_types.specs.Plan.{IsLine}
use Rattle.world_movers.specs.Slots.{SessionStands}
use Rattle.world_movers.proofs.sessions.seated.Goals as goal

pub loop-line-preserved : goal.loop-line-preserved
loop-line-preserved c =
    let config = c.args.config.now in
    let i = c.args.plan.now.session in
    let xs = c.items-line-items.result.now in
    let k = c.loop-line.line-index in
    let line = c.in_ok-try_copy.field-0 in
    let within : k < length xs = omega (arith, c.loop-line-test.true) in
    let lines : k < length c.args.plan.now.commands = subst (λ (ys : List Command). k < length ys) c.items-line-items.ensures within in
    let copy : line ≡ get_or xs k c.line-item.result = c.in_ok-try_copy.ensures ∙ c.line-item.is in
    let is_line : IsLine config line = subst (IsLine config) (sym (copy ∙ ap (λ (ys : List Command). get_or ys k c.line-item.result) c.items-line-items.ensures)) (c.requires.plan.2 k c.line-item.result lines) in
    let more : take k xs ++ line ∷ [] ≡ take (k + 1) xs = ap (λ (x : Command). take k xs ++ x ∷ []) copy ∙ sym (take_more xs k c.line-item.result within) in
    record {
      stands = subst (λ (ys : List Command). SessionStands config i ys false [] c.give.new.self) more (c.in_ok-give.ensures.stands config i (take k xs) [] c.loop-line.invariant.stands is_line);
      given = c.in_ok-give.ensures.given ∙ ap (λ (n : ℕ). n + 1) c.loop-line.invariant.given;
      unfinished = c.give.ensures.open;
    }

pub returns : goal.returns
returns c =
    let config = c.args.config.now in
    let i = c.args.plan.now.session in
    let xs = c.items-line-items.result.now in
    let all : take c.loop-line.line-index xs ≡ xs = take_all c.loop-line.line-index xs (omega arith) in
    c.finish.ensures config i c.args.plan.now.commands false [] (subst (λ (ys : List Command). SessionStands config i ys false [] c.loop-line.slot) (all ∙ c.items-line-items.ensures) c.loop-line.invariant.stands)
