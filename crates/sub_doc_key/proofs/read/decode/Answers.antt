use Rattle.std.proofs.Common.{arith}
use Rattle.sub_doc_key.proofs.Versions.{is_found, is_only}
use Rattle.sub_doc_key.proofs.read.decode.Goals as goal

pub returns-clause-found : goal.returns-clause-found
returns-clause-found c = is_found c.args.bytes.now c.versioned_of.result (λ i. omega (arith, c.type_inv.bytes i)) c.versioned_of.ensures

pub returns-clause-only : goal.returns-clause-only
returns-clause-only c = λ key has e. is_only c.args.bytes.now c.versioned_of.result key has e c.versioned_of.ensures
