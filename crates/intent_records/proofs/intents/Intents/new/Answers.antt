use Rattle.std.proofs.Common.{ap}
use Rattle.std.specs.BTreeMap.{is_at}
use Rattle.std.specs.Map.{lookup}
use Rattle.std.specs.Ordering.{nat_cmp}
use Rattle.intent_records.specs.Holds.{first_meta}
use Rattle.intent_records.specs.Keys.{key_order}
use Rattle.intent_records.proofs.intents.Intents.new.Goals as goal

pub returns : goal.returns
unfolding first_meta
returns c = record {
  metas = λ x. ap (lookup (is_at (nat_cmp x))) c.new.ensures.empty;
  index = λ x. ap (lookup (is_at (nat_cmp x))) c.new-3.ensures.empty;
  primary = λ k. ap (lookup (is_at (key_order k))) c.new-2.ensures.empty;
  ordered = c.new-2.ensures.ordered;
  parts = λ p m. elim m [ ];
}
