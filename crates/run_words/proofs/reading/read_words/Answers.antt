use Rattle.std.proofs.Common.{◌≡◌, ◌∙◌, ap, sym, refl, true, [], List, Option, None, if◌then◌else◌}
use Rattle.clap.specs.Kinds.{Kinds}
use Rattle.clap.specs.Walk.{is_empty}
use Rattle.clap.specs.Words.{App, Row, Text, is_simple, is_simple_and_free, fault_of, matches_of}
use Rattle.clap.proofs.OnLiterals.{clap_on_literals}
use Rattle.run_words.specs.declared.job.Job.{Job}
use Rattle.run_words.specs.Words.{found_job, job_of, words_app}
use Rattle.run_words.proofs.reading.read_words.Goals as goal

is_free : is_simple_and_free words_app ≡ true
unfolding clap_on_literals
is_free = refl

is_plain : is_simple words_app ≡ true
unfolding clap_on_literals
is_plain = refl

-- words that the command takes ask for the job of what it finds
taken : (words : List Text) (app : App) (rows : List Row) (answer : Option Job) → app ≡ words_app → fault_of app words ≡ []
    → rows ≡ matches_of app words → found_job rows ≡ answer → job_of words ≡ answer
taken words app rows answer same no_fault found job =
    ap (λ (k : Kinds). if is_empty k then found_job (matches_of words_app words) else None) (ap (λ (a : App). fault_of a words) (sym same) ∙ no_fault)
    ∙ (ap found_job (ap (λ (a : App). matches_of a words) (sym same) ∙ sym found) ∙ job)

pub returns-in-Some-clause-job : goal.returns-in-Some-clause-job
returns-in-Some-clause-job c =
    let app = c.in-Ok.ensures in
    let parse = c.in-Ok-try_get_matches_from.ensures in
    taken _ _ _ _ app (parse.kinds (ap is_simple_and_free app ∙ is_free)) (parse.matches (ap is_simple app ∙ is_plain)).0
    (sym c.found_job.ensures.value ∙ c.in-Some.is)
