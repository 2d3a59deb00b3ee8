-- What heads say, at texts that are written out.
use Rattle.std.proofs.Common.{◌≡◌, ◌∷◌, ◌++◌, [], refl, ℕ, List, codes}
use Rattle.std.specs.Prelude.{Ok, Err}
use Rattle.toml.proofs.OnLiterals.{toml_on_literals}
use Rattle.txn_data.specs.declared.config.Config.{Config}
use Rattle.txn_data.specs.declared.schedule.Schedule.TheVariants.{Serial, Drawn}
use Rattle.cluster_config.specs.declared.head_refusal.HeadRefusal.{HeadRefusal}
use Rattle.cluster_config.specs.declared.head_refusal.HeadRefusal.TheVariants.{HeadText, HeadKey, HeadValue}
use Rattle.cluster_config.specs.Head.{head_of}

-- the configuration of an empty head
abbrev defaults : Config
defaults = record {
  nodes = 1;
  tablets = 1;
  status = 1;
  passes = 0;
  skew_us = 500000;
  lease_us = 2000000;
  number = 0;
  start_us = 1000000 ∷ [];
  schedule = Serial;
}

abbrev says : List ℕ → Config → Type 0
says text config = head_of text ≡ Ok config

abbrev is_refused : List ℕ → HeadRefusal → Type 0
is_refused text refusal = head_of text ≡ Err refusal

-- a line and its end
abbrev line : List ℕ → List ℕ
line text = text ++ 10 ∷ []

pub empty : says [] defaults
unfolding toml_on_literals
empty = refl

-- each node starts at one second where the head says nothing
pub three_nodes : says (codes "nodes = 3") (record defaults { nodes = 3; start_us = 1000000 ∷ 1000000 ∷ 1000000 ∷ [] })
unfolding toml_on_literals
three_nodes = refl

pub each_key : says (line (codes "passes = 1000") ++ (line (codes "number = 0x2") ++ (line (codes "schedule = 'drawn'")
    ++ (line (codes "start_us = [0, 7]") ++ (line (codes "lease_us = 1") ++ (line (codes "skew_us = 0")
    ++ (line (codes "status = 16") ++ (line (codes "tablets = 64") ++ codes "nodes = 2")))))))) (record {
      nodes = 2;
      tablets = 64;
      status = 16;
      passes = 1000;
      skew_us = 0;
      lease_us = 1;
      number = 2;
      start_us = 0 ∷ 7 ∷ [];
      schedule = Drawn;
    })
unfolding toml_on_literals
each_key = refl

pub no_toml : is_refused (codes "nodes = ") HeadText
unfolding toml_on_literals
no_toml = refl

-- a number of more than 64 bits is no TOML, and a key that stands twice is none
pub too_wide : is_refused (codes "number = 9223372036854775808") HeadText
unfolding toml_on_literals
too_wide = refl

pub twice : is_refused (line (codes "nodes = 1") ++ codes "nodes = 1") HeadText
unfolding toml_on_literals
twice = refl

-- the text comes before the keys, and a key before a value
pub text_first : is_refused (line (codes "other = 1") ++ codes "nodes") HeadText
unfolding toml_on_literals
text_first = refl

pub key_first : is_refused (line (codes "nodes = 0") ++ codes "other = 1") HeadKey
unfolding toml_on_literals
key_first = refl

-- only the keys of the head itself are looked at
pub other_table : is_refused (codes "[other]") HeadKey
unfolding toml_on_literals
other_table = refl

pub key_below : is_refused (codes "nodes.other = 1") HeadValue
unfolding toml_on_literals
key_below = refl

pub too_short : is_refused (line (codes "nodes = 2") ++ codes "start_us = [0]") HeadValue
unfolding toml_on_literals
too_short = refl

pub too_many : is_refused (codes "nodes = 17") HeadValue
unfolding toml_on_literals
too_many = refl
