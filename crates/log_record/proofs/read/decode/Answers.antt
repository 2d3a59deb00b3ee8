use Rattle.std.proofs.Common.{arith}
use Rattle.log_record.proofs.Records.{is_found, is_only}
use Rattle.log_record.proofs.read.decode.Goals as goal

pub returns-clause-found : goal.returns-clause-found
returns-clause-found c = is_found c.args.bytes.now c.record_of.result (λ i. omega (arith, c.type_inv.bytes i)) c.record_of.ensures

pub returns-clause-only : goal.returns-clause-only
returns-clause-only c = λ r spells. is_only c.args.bytes.now c.record_of.result r spells c.record_of.ensures
