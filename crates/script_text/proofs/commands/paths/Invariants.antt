use Rattle.std.proofs.Common.{◌≡◌, drop}
use Rattle.script_text.specs.Commands.{paths}
use Rattle.script_text.specs.Outcomes.{texts}
use Rattle.script_text.proofs.Steps.{onto_places}
use Rattle.script_text.proofs.commands.paths.Given as goal

abbrev pub invariant-paths : goal.invariant-paths
invariant-paths l =
    onto_places l.places.items (paths l.config (drop l.word-index (texts l.words))) ≡ paths l.config (texts l.words)
