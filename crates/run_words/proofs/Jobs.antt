-- What words ask for, at words that are written out.
use Rattle.std.proofs.Common.{◌≡◌, ◌∷◌, [], refl, codes, List, Some, None, true, false}
use Rattle.clap.proofs.OnLiterals.{clap_on_literals}
use Rattle.clap.specs.Words.{Text}
use Rattle.run_words.specs.declared.job.Job.{Job}
use Rattle.run_words.specs.declared.mode.Mode.TheVariants.{Sim, Run, Load}
use Rattle.run_words.specs.Words.{job_of}

abbrev asks : List Text → Job → Type 0
asks words job = job_of words ≡ Some job

abbrev asks_nothing : List Text → Type 0
asks_nothing words = job_of words ≡ None

pub sim : asks (codes "sim" ∷ []) (record { mode = Sim; json = false; workers = 4; count = 0; number = 1 })
unfolding clap_on_literals
sim = refl

pub behind_dashes : asks (codes "--" ∷ codes "sim" ∷ []) (record { mode = Sim; json = false; workers = 4; count = 0; number = 1 })
unfolding clap_on_literals
behind_dashes = refl

pub run : asks (codes "run" ∷ codes "--json" ∷ codes "--workers" ∷ codes "+07" ∷ [])
    (record { mode = Run; json = true; workers = 7; count = 0; number = 1 })
unfolding clap_on_literals
run = refl

pub flag_first : asks (codes "--json" ∷ codes "run" ∷ [])
    (record { mode = Run; json = true; workers = 4; count = 0; number = 1 })
unfolding clap_on_literals
flag_first = refl

pub load : asks (codes "load" ∷ codes "--number=9223372036854775807" ∷ codes "--count=10000" ∷ [])
    (record { mode = Load; json = false; workers = 4; count = 10000; number = 9223372036854775807 })
unfolding clap_on_literals
load = refl

pub nothing : asks_nothing []
unfolding clap_on_literals
nothing = refl

pub no_mode : asks_nothing (codes "simulate" ∷ [])
unfolding clap_on_literals
no_mode = refl

pub no_help : asks_nothing (codes "run" ∷ codes "--help" ∷ [])
unfolding clap_on_literals
no_help = refl

pub flag_twice : asks_nothing (codes "run" ∷ codes "--json" ∷ codes "--json" ∷ [])
unfolding clap_on_literals
flag_twice = refl

pub option_twice : asks_nothing (codes "run" ∷ codes "--workers=4" ∷ codes "--workers=4" ∷ [])
unfolding clap_on_literals
option_twice = refl

pub too_many_workers : asks_nothing (codes "run" ∷ codes "--workers=65" ∷ [])
unfolding clap_on_literals
too_many_workers = refl

pub workers_of_sim : asks_nothing (codes "sim" ∷ codes "--workers=4" ∷ [])
unfolding clap_on_literals
workers_of_sim = refl

pub count_of_run : asks_nothing (codes "run" ∷ codes "--count=3" ∷ [])
unfolding clap_on_literals
count_of_run = refl

pub load_without_count : asks_nothing (codes "load" ∷ codes "--number=1" ∷ [])
unfolding clap_on_literals
load_without_count = refl

pub count_of_none : asks_nothing (codes "load" ∷ codes "--count=0" ∷ [])
unfolding clap_on_literals
count_of_none = refl

pub minus : asks_nothing (codes "load" ∷ codes "--count=3" ∷ codes "--number=-0" ∷ [])
unfolding clap_on_literals
minus = refl
