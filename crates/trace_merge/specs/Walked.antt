-- What the first walk knows after a history.
use Rattle.std.specs.Prelude.{◌≡◌, ℕ, ◌<◌, get_or, length}
use Rattle.txn_types.specs.History.{History}
use Rattle.trace_merge.specs.Seen.{greatest, JudgedFirst}
use Rattle.trace_merge.specs.Tracks.{Tracks}
use Rattle.trace_merge.specs.declared.session_clocks.SessionClocks.{SessionClocks}
use Rattle.trace_merge.specs.declared.walk.Walk.{Walk}

pub record Walked (skew : ℕ) (h : History) (w : Walk) : Type 0 where
  pub rows : length w.sessions ≡ 1001
  pub sessions : (i : ℕ) (any : SessionClocks) → i < 1001 → Tracks i h (get_or w.sessions i any)
  pub greatest : w.greatest ≡ greatest h
  pub failed : JudgedFirst skew h w.failed
