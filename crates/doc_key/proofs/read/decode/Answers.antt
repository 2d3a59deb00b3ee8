use Rattle.std.proofs.Common.{arith}
use Rattle.doc_key.proofs.Keys.{is_found, is_only}
use Rattle.doc_key.proofs.read.decode.Goals as goal

pub returns-clause-found : goal.returns-clause-found
returns-clause-found c = is_found c.args.bytes.now c.key_of.result (λ i. omega (arith, c.type_inv.bytes i)) c.key_of.ensures

pub returns-clause-only : goal.returns-clause-only
returns-clause-only c =
    λ key in_range has e. is_only c.args.bytes.now c.key_of.result key in_range has e c.key_of.ensures
