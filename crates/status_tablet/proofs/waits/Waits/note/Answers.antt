use Rattle.std.proofs.Common.{not, nat_eq, ℕ, rules}
use Rattle.std.proofs.lemmas.Fn.{filter_same}
use Rattle.status_tablet.proofs.waits.Waits.note.Goals as goal

pub returns : goal.returns
returns c = rw (← c.self.view_is) (filter_same _ (λ (k : ℕ). not (nat_eq k c.args.tablet)) _ (λ x b f called. (search rules, search rules)) _ _ c.retain.ensures.filtered)
