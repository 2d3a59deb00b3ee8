use Rattle.actor_words.specs.Words.{size}
use Rattle.docdb_actor.proofs.log.read_fails.Given as goal

abbrev pub decreases-fails : goal.decreases-fails
decreases-fails l = size l.words
