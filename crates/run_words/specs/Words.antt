-- What the words of a command line ask for: the command of `clap` that takes them apart, and the job of what it finds.
use Rattle.std.specs.Prelude.{◌≡◌, ◌≤◌, ℕ, Bool, false, true, List, Option, Some, None, codes, if◌then◌else◌, option_and_then, option_map}
use Rattle.std.specs.Option.{option_map_or}
use Rattle.std.specs.Str.{bytes_eq}
use Rattle.std.specs.Str.Parse.{digits_value, without_leading_plus}
use Rattle.clap.specs.Words.{App, Row, Rule, Text, first_of, one_of, matches_of, fault_of, new_app, new_rule, with_rule}
use Rattle.clap.specs.Simple.{on_top}
use Rattle.clap.specs.Walk.{is_empty}
use Rattle.clap.specs.ValueTests.{is_unsigned_in}
use Rattle.clap.specs.declared.builder.ArgAction.TheVariants.{SetTrue}
use Rattle.run_words.specs.declared.mode.Mode.{Mode}
use Rattle.run_words.specs.declared.mode.Mode.TheVariants.{Sim, Run, Load}
use Rattle.run_words.specs.declared.job.Job.{Job}

-- ---- the command

-- a word that has to be there
abbrev pub mode_rule : Rule
mode_rule = record (new_rule (codes "mode")) { required = true }

-- a flag
abbrev pub json_rule : Rule
json_rule = record (new_rule (codes "json")) { long = Some (codes "json"); action = Some SetTrue }

-- an option with one value
abbrev pub option_rule : Text → Rule
option_rule name = record (new_rule name) { long = Some name }

-- a command with no help flag, whose words have no name of a program
abbrev pub bare_app : App
bare_app = on_top (λ s. record s { no_binary_name = true; disable_help_flag = true }) (new_app (codes "run"))

abbrev pub words_app : App
words_app =
    with_rule (with_rule (with_rule (with_rule (with_rule bare_app
    mode_rule) json_rule) (option_rule (codes "workers"))) (option_rule (codes "count"))) (option_rule (codes "number"))

-- ---- the job

abbrev pub mode_named : Text → Option Mode
mode_named text =
    if bytes_eq text (codes "sim") then Some Sim
    else if bytes_eq text (codes "run") then Some Run
    else if bytes_eq text (codes "load") then Some Load
    else None

-- the number of a text, where it is one from low to high: decimal digits, before which a plus may stand
abbrev pub number_in : ℕ → ℕ → Text → Option ℕ
number_in low high text =
    if is_unsigned_in low high text then Some (digits_value 10 (without_leading_plus text)) else None

-- the number of an option, or its default where it is not given
abbrev pub number_or : ℕ → ℕ → ℕ → Option Text → Option ℕ
number_or low high default None = Some default
number_or low high default (Some text) = number_in low high text

-- the job where no option is given
abbrev pub plain_job : Mode → Bool → Job
plain_job mode json = record { mode = mode; json = json; workers = 4; count = 0; number = 1 }

-- the job of a mode, by the texts of its options: workers go with `run`; a count has to go with `load`, and a number may
abbrev pub job_in : Mode → Bool → Option Text → Option Text → Option Text → Option Job
job_in Sim json None None None = Some (plain_job Sim json)
job_in Run json workers None None =
    option_map (λ many. record (plain_job Run json) { workers = many }) (number_or 1 64 4 workers)
job_in Load json None (Some count) number =
    option_and_then (λ blocks. option_map (λ start. record (plain_job Load json) { count = blocks; number = start })
    (number_or 0 9223372036854775807 1 number)) (number_in 1 10000 count)
job_in mode json workers count number = None

abbrev pub has_flag : Text → List Row → Bool
has_flag id rows = option_map_or (λ text. bytes_eq text (codes "true")) (one_of id rows) false

-- the job of what the command found
abbrev pub found_job : List Row → Option Job
found_job rows = option_and_then (λ mode. job_in mode (has_flag (codes "json") rows)
    (first_of (codes "workers") rows) (first_of (codes "count") rows) (first_of (codes "number") rows))
    (option_and_then mode_named (first_of (codes "mode") rows))

-- the job that the words ask for, where the command takes them
abbrev pub job_of : List Text → Option Job
job_of words =
    if is_empty (fault_of words_app words) then found_job (matches_of words_app words) else None

-- what holds of each job that words ask for
pub record IsJob (job : Job) : Type 0 where
  pub workers : (1 ≤ job.workers) × (job.workers ≤ 64)
  pub count : job.count ≤ 10000
  pub loads : job.mode ≡ Load → 1 ≤ job.count
  pub number : job.number ≤ 9223372036854775807
