-- What is known of a session after a history.
use Rattle.std.specs.Prelude.{◌≡◌, ℕ, length}
use Rattle.txn_data.specs.declared.actor.Actor.TheVariants.{Session}
use Rattle.txn_types.specs.History.{History}
use Rattle.txn_types.specs.Reads.{before_start, reading_after}
use Rattle.law_own_readings.specs.Laws.{last_begin}
use Rattle.trace_merge.specs.Seen.{greatest}
use Rattle.trace_merge.specs.declared.origin.Origin.{Origin}
use Rattle.trace_merge.specs.declared.session_clocks.SessionClocks.{SessionClocks}

-- an origin of session i: the greatest reading before it, and the first that the session recorded from it on
pub record TracksOrigin (i : ℕ) (low h : History) (o : Origin) : Type 0 where
  pub before : o.before ≡ greatest low
  pub own : o.own ≡ reading_after (Session i) (length low) h

-- of session i: the place of its last Start, and the origins that a read of it can have
pub record Tracks (i : ℕ) (h : History) (c : SessionClocks) : Type 0 where
  pub start : c.start ≡ length (before_start (Session i) h)
  pub last : TracksOrigin i (before_start (Session i) h) h c.last
  pub begun : TracksOrigin i (last_begin (Session i) h) h c.begun
