use Rattle.std.proofs.Common.{refl}
use Rattle.trace_merge.proofs.Tracking.{tracks_first}
use Rattle.trace_merge.proofs.session_clocks.SessionClocks.new.Goals as goal

pub returns : goal.returns
returns c = λ i. tracks_first i _ refl refl refl refl refl
