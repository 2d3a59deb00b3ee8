use Rattle.std.proofs.Common.{◌≡◌, map}
use Rattle.tablet_records.specs.Keeps.{version_of}
use Rattle.tablet_records.proofs.tablet_records.versions_of.Given as goal

abbrev pub invariant-loop-write : goal.invariant-loop-write
invariant-loop-write l = l.list.items ≡ map (version_of l.commit_time) l.yielded
