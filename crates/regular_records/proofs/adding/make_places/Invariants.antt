use Rattle.std.proofs.Common.{◌≡◌, take}
use Rattle.doc_path.specs.Path.{Parts}
use Rattle.regular_records.specs.NewestBeneath.{newest_at, HavePlaces}
use Rattle.regular_records.proofs.adding.make_places.Given as goal

abbrev pub invariant-loop-version : goal.invariant-loop-version
invariant-loop-version l = record {
  times : (q : Parts) → newest_at q l.beneath ≡ newest_at q l.initial.beneath;
  places : HavePlaces (take l.version-index l.list) l.beneath;
}
