use Rattle.std.proofs.Common.{arith}
use Rattle.doc_value.proofs.Shown.{quoted_ascii}
use Rattle.doc_value.proofs.show.show_text.Goals as goal

pub returns-clause-ascii : goal.returns-clause-ascii
returns-clause-ascii c = quoted_ascii c.args.text.now (λ i. omega (arith, c.type_inv.text i))
