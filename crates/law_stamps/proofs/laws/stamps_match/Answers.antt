use Rattle.law_stamps.proofs.Matching.{stamps_match}
use Rattle.law_stamps.proofs.laws.stamps_match.Goals as goal

pub returns : goal.returns
returns c = stamps_match
