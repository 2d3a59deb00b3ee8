use Rattle.std.proofs.Common.{◌≡◌, take}
use Rattle.txn_types.specs.Session.{writes_of}
use Rattle.own_writes.specs.Accepted.{all_accepted}
use Rattle.own_writes.specs.Numbered.{numbered}
use Rattle.own_writes.proofs.overlay.versions_of.Given as goal

abbrev pub invariant-loop-i : goal.invariant-loop-i
invariant-loop-i l = l.versions.items ≡ numbered l.first (writes_of (all_accepted (take l.i l.writes)))
