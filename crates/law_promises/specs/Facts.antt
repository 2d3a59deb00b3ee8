-- The facts on which what a read has to answer rests, each over every cluster and every history that is a run. Two of the
-- last group want besides that places agree: those with equal first parts name one tablet.
use Rattle.law_clocks.specs.Laws.{TimesRise, TimesKeepFloors, CountsForGood, LeasesCover, LastIsGreatest, ListingsReach}
use Rattle.law_owners.specs.Laws.{PendingIsKept}
use Rattle.law_fates.specs.Laws.{CommitsOnce, ToldCommittedIs, ToldAbortedNeverCommits, PendingCommitsAbove}
use Rattle.law_session_order.specs.Laws.{WritesAreBegun, NoWriteAfterEnd, CommitsCover, CommitsAboveWrites}
use Rattle.law_told_commits.specs.Laws.{ToldCommitsAreThere, CommitTimesAreTold}
use Rattle.law_intents.specs.Laws.{AppliedStaysApplied}
use Rattle.law_forgetting.specs.Laws.{ToldAbsentIsForgotten}
use Rattle.law_committed_writes.specs.Laws.{CommittedIsRecorded}
use Rattle.law_resolving.specs.Laws.{FatesAreOfBegun}
use Rattle.law_places.specs.Laws.{WritesArePlaced}
use Rattle.law_write_order.specs.Laws.{RelatedWritesAreInOrder}
use Rattle.law_related_writes.specs.Laws.{RelatedCommitsDiffer, RelatedCommitsReadAbove}
use Rattle.law_versions.specs.Laws.{VersionsAreCommits, IntentsAreWrites, CommitsAreThere, VersionsStay, VersionsAreUnique}
use Rattle.law_local_limits.specs.Laws.{ListingsPromiseTheirLimits}
use Rattle.law_commit_times.specs.Laws.{CommitsAreAboveReadTimes}
use Rattle.law_time_sources.specs.Laws.{TimesAreGrounded}

-- times and leases: no counting time is above the last time of its machine once that gave one since its restart, and the
-- lease covers it always; so each time is past all earlier ones that count; and the microseconds of all times are 0 or a
-- reading that was recorded up to then
pub record TimesAndLeases : Type 0 where
  pub grounded : TimesAreGrounded
  pub rise : TimesRise
  pub floors : TimesKeepFloors
  pub counts : CountsForGood
  pub covered : LeasesCover
  pub greatest : LastIsGreatest

-- what Pending promises: a later commit is above the time that was asked about, and so is the commit, whenever it comes
pub record PendingPromise : Type 0 where
  pub later : PendingIsKept
  pub whenever : PendingCommitsAbove

-- a transaction commits once, above all its writes, above the time that each of them read at and above its read time; one
-- with a write whose append failed never does
pub record CommitTimes : Type 0 where
  pub once : CommitsOnce
  pub above : CommitsAboveWrites
  pub above_reads : CommitsAreAboveReadTimes

-- what is told of a transaction is so; and where a session is told Committed, single writes among them, a commit is there,
-- at that time and at no other
pub record ToldFates : Type 0 where
  pub committed : ToldCommittedIs
  pub aborted : ToldAbortedNeverCommits
  pub there : ToldCommitsAreThere
  pub times : CommitTimesAreTold

-- a session's own order: a transaction writes only after its Begin and before its end, and its commit covers what it wrote
pub record SessionOrder : Type 0 where
  pub begun : WritesAreBegun
  pub ended : NoWriteAfterEnd
  pub covered : CommitsCover

-- what a listing read reached, and what it promises of later writes: they are above its time and above the local limit that
-- it answered, whether that was fixed then or given
pub record ListingPromise : Type 0 where
  pub reached : ListingsReach
  pub later : ListingsPromiseTheirLimits

-- the writes of what is committed, single writes among them: each is a version at its tablet, with its path, operation,
-- number, provisional time and commit time, or it is provisional there as the write that becomes this very version; nothing
-- else is a version, and none gives way; while something of a transaction is provisional its record is there; and once
-- applied nothing of it is provisional again
pub record CommittedWrites : Type 0 where
  pub there : CommitsAreThere
  pub versions : VersionsAreCommits
  pub intents : IntentsAreWrites
  pub stay : VersionsStay
  pub unique : VersionsAreUnique
  pub recorded : CommittedIsRecorded
  pub applied : AppliedStaysApplied
  pub forgotten : ToldAbsentIsForgotten

-- related writes: at a tablet they are committed in the order in which it took them; over all tablets, where the lines name
-- one tablet for each first part of a path, they never have one commit time, and a write of the one snapshot transaction
-- read not below the commit of the other
pub record RelatedWrites : Type 0 where
  pub resolved : FatesAreOfBegun
  pub placed : WritesArePlaced
  pub ordered : RelatedWritesAreInOrder
  pub differ : RelatedCommitsDiffer
  pub read : RelatedCommitsReadAbove
