use Rattle.std.proofs.Common.{◌≡◌, ◌∷◌, map, take}
use Rattle.doc_key.specs.Spelling as of_key
use Rattle.doc_value.specs.Spelling as of_value
use Rattle.script_text.proofs.paths.path_for.Given as goal

abbrev pub invariant-subkeys : goal.invariant-subkeys
invariant-subkeys l = l.path ≡ of_key.spelling l.document.key ∷ map of_value.spelling (take l.subkey-index l.subkey-items)
