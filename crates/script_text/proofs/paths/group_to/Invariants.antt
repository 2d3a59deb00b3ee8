use Rattle.std.proofs.Common.{◌≡◌, length}
use Rattle.script_text.specs.declared.marks.Marks.TheVariants.{OfPath}
use Rattle.script_text.specs.Terms.{group_to, onto_group}
use Rattle.script_text.specs.Words.{pieces_of}
use Rattle.script_text.proofs.paths.group_to.Given as goal

abbrev pub invariant-values : goal.invariant-values
invariant-values l =
    onto_group l.values.items (group_to l.kind l.between l.ends (pieces_of OfPath l.rest)) ≡ group_to l.kind l.between l.ends (pieces_of OfPath l.bytes)

abbrev pub decreases-values : goal.decreases-values
decreases-values l = length l.rest
