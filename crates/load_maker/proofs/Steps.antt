-- Steps of making a plan.
use Rattle.std.proofs.Common.{◌≡◌, ℕ, suc, ◌+◌, ◌-◌, ◌<◌, ap, ap₂, arith, ◌∙◌, refl}
use Rattle.txn_data.specs.declared.command.Command.{Command}
use Rattle.txn_data.specs.declared.commands.Commands.{Commands}
use Rattle.script_text.specs.declared.line.Line.TheVariants.{Told}
use Rattle.script_text.specs.Script.{said_after}
use Rattle.load_maker.specs.Made.{blocks_from, draws_from, state, with_block}

-- one more command
pub told_next : (a b x : Commands) (s t : ℕ) (c d : Command) → b ≡ said_after a (Told s c) → a ≡ x → s ≡ t → c ≡ d → b ≡ said_after x (Told t d)
told_next a b x s t c d is said session told =
    is ∙ (ap (λ (y : Commands). said_after y (Told s c)) said
    ∙ ap₂ (λ (i : ℕ) (e : Command). said_after x (Told i e)) session told)

-- one more block
pub blocks_more : (blocks block x : ℕ) (said : Commands) → block < blocks
    → blocks_from (blocks - block) block x said ≡ blocks_from (blocks - (block + 1)) (block + 1) (state 9 x) (with_block block (draws_from x) said)
unfolding blocks_from
blocks_more blocks block x said lt =
    let left : blocks - block ≡ suc (blocks - (block + 1)) = omega arith in
    rw left refl

pub blocks_none : (blocks block x : ℕ) (said : Commands) → blocks - block ≡ 0 → blocks_from (blocks - block) block x said ≡ said
unfolding blocks_from
blocks_none blocks block x said none = rw none refl
