use Rattle.conflict_matrix.proofs.Meeting.{any_meet-related}
use Rattle.conflict_matrix.proofs.laws.writes_meet_where_related.Goals as goal

pub returns : goal.returns
returns c = any_meet-related
