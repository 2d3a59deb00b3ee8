use Rattle.std.proofs.Common.{◌≡◌, ◌≤◌, List, length, drop, ◌∙◌, ap, subst, arith}
use Rattle.txn_data.specs.declared.version.Version.{Version}
use Rattle.txn_types.specs.Tablet.{with_versions}
use Rattle.regular_records.specs.Holding.{Holds}
use Rattle.own_writes.specs.Numbered.{numbered}
use Rattle.own_writes.specs.Indexed.{written}
use Rattle.own_writes.proofs.Index.{failed_indexed, all_indexed, rest_sliced}
use Rattle.own_writes.proofs.own_writes.OwnWrites.index.Goals as goal

pub invariant_of-self : goal.invariant_of-self
invariant_of-self c =
    let self = c.args.self.now in
    record { in_order = self.in_order; few = self.few; within = self.within; held = failed_indexed self.by_path c.add_all.new.self self.indexed self.writes.items c.in_err-add_all.ensures.memory self.held }

pub invariant_of-self-2 : goal.invariant_of-self-2
invariant_of-self-2 c =
    let self = c.args.self.now in
    let made : c.in_ok-versions.versions.items ≡ numbered self.indexed (written (drop self.indexed self.writes.items)) =
    c.in_ok-versions.ensures ∙ ap (λ l. numbered self.indexed (written l)) (rest_sliced self.indexed c.deref.result.now) ∙ ap (λ l. numbered self.indexed (written (drop self.indexed l))) c.deref.ensures.value in
    let all : c.len-self.result ≡ length self.writes.items = omega (arith, ap length c.deref.ensures.value) in
    let within : c.len-self.result ≤ length self.writes.items = omega arith in
    record {
      in_order = self.in_order;
      few = self.few;
      within = within;
      held = all_indexed self.by_path c.add_all.new.self self.indexed c.len-self.result self.writes.items self.within all
          (λ vs held. let P : List Version → Type 0 = λ list. Holds c.add_all.new.self (with_versions vs list) in subst P made (c.in_ok-add_all.ensures.ok vs held)) self.held;
    }
