use Rattle.tablet_log.proofs.Framed.{one_list, one_offset, not_both}
use Rattle.tablet_log.proofs.laws.bytes_have_one_meaning.Goals as goal

pub returns-clause-one_list : goal.returns-clause-one_list
returns-clause-one_list c = one_list c.spellings_are_short.ensures c.no_spelling_begins_another.ensures

pub returns-clause-one_offset : goal.returns-clause-one_offset
returns-clause-one_offset c = one_offset c.spellings_are_short.ensures c.no_spelling_begins_another.ensures

pub returns-clause-not_both : goal.returns-clause-not_both
returns-clause-not_both c = not_both c.spellings_are_short.ensures c.no_spelling_begins_another.ensures
