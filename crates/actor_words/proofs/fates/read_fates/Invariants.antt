use Rattle.actor_words.specs.Words.{size}
use Rattle.actor_words.proofs.fates.read_fates.Given as goal

abbrev pub decreases-fates : goal.decreases-fates
decreases-fates l = size l.words
