use Rattle.actor_words.specs.Words.{size}
use Rattle.actor_words.proofs.lists.read_places.Given as goal

abbrev pub decreases-places : goal.decreases-places
decreases-places l = size l.words
