use Rattle.std.proofs.Common.{◌≡◌, take}
use Rattle.regular_records.specs.Store.{versions_of}
use Rattle.regular_records.specs.Kept.{IsKept}
use Rattle.regular_records.specs.Adding.{HaveSlots}
use Rattle.regular_records.proofs.adding.make_slots.Given as goal

abbrev pub invariant-loop-version : goal.invariant-loop-version
invariant-loop-version l = record {
  kept : IsKept l.paths;
  versions : versions_of l.paths.entries ≡ versions_of l.initial.paths.entries;
  slots : HaveSlots l.paths.entries (take l.version-index l.list);
}
