use Rattle.actor_words.specs.Words.{size}
use Rattle.actor_words.proofs.lists.read_tablets.Given as goal

abbrev pub decreases-tablets : goal.decreases-tablets
decreases-tablets l = size l.words
