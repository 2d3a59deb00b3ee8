use Rattle.actor_words.specs.Words.{size}
use Rattle.actor_words.proofs.lists.read_founds.Given as goal

abbrev pub decreases-founds : goal.decreases-founds
decreases-founds l = size l.words
