use Rattle.std.proofs.Common.{◌≡◌, None, vec_len}
use Rattle.std.specs.Prelude.{cond}
use Rattle.std.specs.BTreeMap.{get, IsOrdered}
use Rattle.std.specs.Ordering.{nat_cmp}
use Rattle.intent_records.specs.declared.record_key.RecordKey.{RecordKey}
use Rattle.intent_records.specs.Keys.{key_order}
use Rattle.intent_records.specs.Steps.{is_listed, paths_or_none}
use Rattle.intent_records.proofs.intents.Intents.drop_of.Given as goal

abbrev pub invariant-loop-path : goal.invariant-loop-path
invariant-loop-path l = record {
  metas : l.self.metas ≡ l.initial.self.metas;
  index : l.self.index ≡ l.initial.self.index;
  kept : (k : RecordKey) → cond (is_listed l.txn l.paths.items k) None (get key_order l.self.records k)
      ≡ cond (is_listed l.txn (paths_or_none (get nat_cmp l.fn.self.index l.txn)) k) None (get key_order l.fn.self.records k);
  ordered : IsOrdered key_order l.fn.self.records → IsOrdered key_order l.self.records;
}

abbrev pub decreases-loop-path : goal.decreases-loop-path
decreases-loop-path l = vec_len l.paths
