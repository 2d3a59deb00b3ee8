-- What scripts say, at texts that are written out.
use Rattle.std.specs.Prelude.{◌≡◌, ◌∷◌, ◌++◌, ⊤, [], refl, ℕ, negsuc, false, true, List, Some, None, Ok, Err, codes, flat_map, replicate}
use Rattle.std.specs.Str.{chars, is_utf8}
use Rattle.toml.proofs.OnLiterals.{toml_on_literals}
use Rattle.doc_value.specs.declared.primitive.Primitive.TheVariants.{Int, Text as TextCase, Column}
use Rattle.txn_data.specs.declared.actor.Actor.TheVariants.{Status}
use Rattle.txn_data.specs.declared.command.Command.TheVariants as command
use Rattle.txn_data.specs.declared.commands.Commands.{Commands}
use Rattle.txn_data.specs.declared.config.Config.{Config}
use Rattle.txn_data.specs.declared.mover.Mover.TheVariants as mover
use Rattle.txn_data.specs.declared.place.Place.{Place}
use Rattle.txn_data.specs.declared.schedule.Schedule.{Schedule}
use Rattle.txn_data.specs.declared.schedule.Schedule.TheVariants.{Serial, Go}
use Rattle.script_text.specs.declared.script_refusal.ScriptRefusal.TheVariants.{ScriptRefused}
use Rattle.script_text.specs.declared.why.Why.{Why}
use Rattle.script_text.specs.declared.why.Why.TheVariants as why
use Rattle.script_text.specs.Lines.{Text, lines_of, parts_of}
use Rattle.script_text.specs.Words.{pieces_in, words_of}
use Rattle.script_text.specs.Terms.{column_of, group_to, place_of, string_in, subkey_of, value_of}
use Rattle.script_text.specs.Commands.{flags_over, paths}
use Rattle.script_text.specs.Script.{body_over, script_of, with_told}

unfoldable on_literals : ⊤
unfolding is_utf8 chars lines_of parts_of pieces_in group_to string_in paths flags_over body_over with_told toml_on_literals
on_literals = tt

-- ---- lines and words

lines : lines_of (97 ∷ 10 ∷ 10 ∷ 98 ∷ []) ≡ (97 ∷ []) ∷ [] ∷ (98 ∷ []) ∷ []
unfolding on_literals
lines = refl

words : words_of (codes "  1: put [;\"a b\"]  1 ") ≡ codes "1:" ∷ codes "put" ∷ codes "[;\"a b\"]" ∷ codes "1" ∷ []
unfolding on_literals
words = refl

-- a string that is not closed goes to the end of the line, and a quote behind a backslash closes none
unclosed : words_of (codes "1: put [;\"a 1") ≡ codes "1:" ∷ codes "put" ∷ codes "[;\"a 1" ∷ []
unfolding on_literals
unclosed = refl

not_closed : words_of (codes "a\"b\\\" c\" d") ≡ codes "a\"b\\\" c\"" ∷ codes "d" ∷ []
unfolding on_literals
not_closed = refl

-- ---- terms

text : column_of (codes "\"a\\x0f\\\"\"") ≡ Some (TextCase (97 ∷ 15 ∷ 34 ∷ []))
unfolding on_literals
text = refl

other_escape : column_of (codes "\"\\n\"") ≡ None
unfolding on_literals
other_escape = refl

longest : column_of (34 ∷ (replicate 256 97 ++ 34 ∷ [])) ≡ Some (TextCase (replicate 256 97))
unfolding on_literals
longest = refl

too_long : column_of (34 ∷ (replicate 257 97 ++ 34 ∷ [])) ≡ None
unfolding on_literals
too_long = refl

least : column_of (codes "-9223372036854775808") ≡ Some (Int (negsuc 9223372036854775807))
unfolding on_literals
least = refl

no_zero : column_of (codes "-0") ≡ None
unfolding on_literals
no_zero = refl

too_great : column_of (codes "9223372036854775808") ≡ None
unfolding on_literals
too_great = refl

number : subkey_of (codes "#4294967295") ≡ Some (Column 4294967295)
unfolding on_literals
number = refl

no_value : value_of (codes "#1") ≡ None
unfolding on_literals
no_value = refl

-- the document "a"
abbrev key : List ℕ
key = 83 ∷ 97 ∷ 0 ∷ 0 ∷ 33 ∷ []

abbrev document : Place
document = record { tablet = 0; path = key ∷ [] }

place : place_of 4 (codes "[;\"a\"]/#2") ≡ Some (record { tablet = 0; path = key ∷ (75 ∷ 0 ∷ 0 ∷ 0 ∷ 2 ∷ []) ∷ [] })
unfolding on_literals
place = refl

-- marks within a string part nothing
marks : place_of 1 (codes "[;\"],;/[\"]") ≡ Some (record { tablet = 0; path = (83 ∷ 93 ∷ 44 ∷ 59 ∷ 47 ∷ 91 ∷ 0 ∷ 0 ∷ 33 ∷ []) ∷ [] })
unfolding on_literals
marks = refl

-- the hash of `false` is F314
hashed : place_of 2 (codes "[false;true,false]") ≡ Some (record {
  tablet = 1;
  path = (71 ∷ 243 ∷ 20 ∷ 70 ∷ 33 ∷ 84 ∷ 70 ∷ 33 ∷ []) ∷ [];
})
unfolding on_literals
hashed = refl

no_column : place_of 1 (codes "[;]") ≡ None
unfolding on_literals
no_column = refl

ninth_column : place_of 1 (codes "[1,2,3,4;5,6,7,8,9]") ≡ None
unfolding on_literals
ninth_column = refl

fifth_subkey : place_of 1 (codes "[;1]/1/2/3/4/5") ≡ None
unfolding on_literals
fifth_subkey = refl

behind_key : place_of 1 (codes "[;1]2") ≡ None
unfolding on_literals
behind_key = refl

-- ---- scripts

-- these lines, each with its end
abbrev script : List Text → Text
script lines = flat_map (λ l. l ++ 10 ∷ []) lines

abbrev cluster : Schedule → Config
cluster schedule = record {
  nodes = 1;
  tablets = 1;
  status = 1;
  passes = 0;
  skew_us = 500000;
  lease_us = 2000000;
  number = 0;
  start_us = 1000000 ∷ [];
  schedule = schedule;
}

abbrev says : List Text → Config → Commands → Type 0
says lines config plan = script_of (script lines) ≡ Ok (config, plan)

-- refused for its head or as a whole, or at a line
abbrev is_refused : List Text → ℕ → Why → Type 0
is_refused lines number reason = script_of (script lines) ≡ Err (ScriptRefused number reason)

-- a body behind an empty head: its first line is line 2
abbrev is_wrong : Text → Why → Type 0
is_wrong line reason = is_refused (codes "---" ∷ line ∷ []) 2 reason

nothing : says (codes "---" ∷ []) (cluster Serial) (record { sessions = []; order = []; go = [] })
unfolding on_literals
nothing = refl

one_write : says (codes "---" ∷ codes "# a remark" ∷ [] ∷ codes "1: single put [;\"a\"] true prio=7" ∷ []) (cluster Serial) (record {
  sessions = record { session = 1; commands = command.SinglePut document (84 ∷ []) 7 ∷ [] } ∷ [];
  order = 1 ∷ [];
  go = [];
})
unfolding on_literals
one_write = refl

-- sessions stand by rising number, and a move may name a session whose line comes later
two_sessions : says (codes "schedule = 'go'" ∷ codes "---" ∷ codes "@go 3 20" ∷ codes "3: read norestart [;\"a\"] [;\"a\"]"
    ∷ codes "1: scan [;\"a\"]" ∷ codes "3: commit" ∷ codes "@go a0" ∷ codes "1: restart s0" ∷ []) (cluster Go) (record {
      sessions = record { session = 1; commands = command.Scan false document ∷ command.Restart (Status 0) ∷ [] }
          ∷ record { session = 3; commands = command.Read true (document ∷ document ∷ []) ∷ command.Commit ∷ [] } ∷ [];
      order = 3 ∷ 1 ∷ 3 ∷ 1 ∷ [];
      go = record { who = mover.Session 3; count = 20 } ∷ record { who = mover.Applier 0; count = 1 } ∷ [];
    })
unfolding on_literals
two_sessions = refl

no_head : is_refused (codes "nodes = 1" ∷ codes "--- " ∷ []) 0 why.NoHead
unfolding on_literals
no_head = refl

not_utf8 : script_of (255 ∷ []) ≡ Err (ScriptRefused 0 why.Utf8)
unfolding on_literals
not_utf8 = refl

head_value : is_refused (codes "nodes = 0" ∷ codes "---" ∷ codes "1: jump" ∷ []) 0 why.HeadValue
unfolding on_literals
head_value = refl

second_line : is_refused (codes "nodes = 1" ∷ codes "---" ∷ codes "1: commit" ∷ codes "1: abort 1" ∷ codes "no" ∷ []) 4 why.Words
unfolding on_literals
second_line = refl

no_session : is_wrong (codes "1001: commit") why.Session
unfolding on_literals
no_session = refl

leading_zero : is_wrong (codes "01: commit") why.Session
unfolding on_literals
leading_zero = refl

-- a tab belongs to a word
tab : is_wrong (codes "1:" ++ (9 ∷ codes "commit")) why.Session
unfolding on_literals
tab = refl

no_command : is_wrong (codes "1: single read [;1]") why.Command
unfolding on_literals
no_command = refl

no_schedule : is_wrong (codes "@go 1") why.Command
unfolding on_literals
no_schedule = refl

option_alone : is_wrong (codes "1: read norestart") why.Words
unfolding on_literals
option_alone = refl

no_path : is_wrong (codes "1: scan norestart") why.Words
unfolding on_literals
no_path = refl

open_string : is_wrong (codes "1: put [;\"a 1") why.Words
unfolding on_literals
open_string = refl

other_option : is_wrong (codes "1: scan x [;1]") why.Words
unfolding on_literals
other_option = refl

other_path : is_wrong (codes "1: read x [;1]") why.Path
unfolding on_literals
other_path = refl

-- the form of the last word comes before the path, and its number after the value
words_before_path : is_wrong (codes "1: single put [ 1 x") why.Words
unfolding on_literals
words_before_path = refl

value_before_number : is_wrong (codes "1: single put [;1] x prio=x") why.Value
unfolding on_literals
value_before_number = refl

priority_for_value : is_wrong (codes "1: single put [;1] prio=3") why.Value
unfolding on_literals
priority_for_value = refl

priority_for_path : is_wrong (codes "1: single del prio=3") why.Path
unfolding on_literals
priority_for_path = refl

wide_value : is_wrong (codes "1: put [;1] 9223372036854775808") why.Value
unfolding on_literals
wide_value = refl

wide_subkey : is_wrong (codes "1: del [;1]/#4294967296") why.Path
unfolding on_literals
wide_subkey = refl

wide_priority : is_wrong (codes "1: begin prio=4294967296") why.Number
unfolding on_literals
wide_priority = refl

no_tablet : is_wrong (codes "1: apply t1") why.Number
unfolding on_literals
no_tablet = refl

no_node : is_wrong (codes "1: clock 1 5") why.Number
unfolding on_literals
no_node = refl

-- a session that only a remark names does not move
not_named : is_refused (codes "schedule = 'go'" ∷ codes "---" ∷ codes "#7: commit" ∷ codes "@go 7" ∷ []) 4 why.Number
unfolding on_literals
not_named = refl

-- one whose line is refused later does
named_later : is_refused (codes "schedule = 'go'" ∷ codes "---" ∷ codes "@go 7" ∷ codes "7: jump" ∷ []) 4 why.Command
unfolding on_literals
named_later = refl
