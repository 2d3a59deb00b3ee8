use Rattle.script_text.proofs.Steps.{subkey_spelled}
use Rattle.script_text.proofs.paths.path_for.Goals as goal

pub encode-requires-in-subkeys : goal.encode-requires-in-subkeys
encode-requires-in-subkeys c =
    let at = rw c.items-subkey-items.ensures at c.subkey-item.is in
    let lt = rw c.items-subkey-items.ensures at c.subkeys-test.true in
    rw at (subkey_spelled c.args.document.now c.subkeys.subkey-index c.subkey-item.result lt c.requires)
