use Rattle.std.proofs.Common.{arith}
use Rattle.doc_value.proofs.Values.{is_found, is_only}
use Rattle.doc_value.proofs.read.decode.Goals as goal

pub returns-clause-found : goal.returns-clause-found
returns-clause-found c = is_found c.args.bytes.now c.value_of.result (λ i. omega (arith, c.type_inv.bytes i)) c.value_of.ensures

pub returns-clause-only : goal.returns-clause-only
returns-clause-only c =
    λ value in_range has e. is_only c.args.bytes.now c.value_of.result value in_range has e c.value_of.ensures
