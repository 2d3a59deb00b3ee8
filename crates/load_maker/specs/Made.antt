-- Made scripts: a cluster, and ten commands for each block by nine draws of the generator.
use Rattle.std.specs.Prelude.{ℕ, zero, suc, ◌+◌, ◌*◌, ◌%◌, false, List, [], ◌∷◌, pos}
use Rattle.docdb_base.specs.Generator.{draw_of, next_state}
use Rattle.doc_value.specs.declared.primitive.Primitive.{Primitive}
use Rattle.doc_value.specs.declared.primitive.Primitive.TheVariants.{Int, Column}
use Rattle.doc_value.specs.Spelling.{spelling}
use Rattle.txn_data.specs.declared.command.Command.TheVariants as command
use Rattle.txn_data.specs.declared.commands.Commands.{Commands}
use Rattle.txn_data.specs.declared.config.Config.{Config}
use Rattle.txn_data.specs.declared.place.Place.{Place}
use Rattle.txn_data.specs.declared.schedule.Schedule.TheVariants.{Serial}
use Rattle.script_text.specs.declared.document.Document.{Document}
use Rattle.script_text.specs.declared.line.Line.{Line}
use Rattle.script_text.specs.declared.line.Line.TheVariants.{Told}
use Rattle.script_text.specs.Script.{nothing_said, said_after}
use Rattle.script_text.specs.Terms.{place_for}
use Rattle.load_maker.specs.declared.draws.Draws.{Draws}

-- the cluster of a head with 8 tablets and 2 status tablets
abbrev pub cluster : Config
cluster = record {
  nodes = 1;
  tablets = 8;
  status = 2;
  passes = 0;
  skew_us = 500000;
  lease_us = 2000000;
  number = 0;
  start_us = 1000000 ∷ [];
  schedule = Serial;
}

-- ---- draws

-- the state after one more draw
abbrev pub state : ℕ → ℕ → ℕ
state zero x = x
state (suc n) x = next_state (state n x)

abbrev pub draw : ℕ → ℕ → ℕ
draw n x = draw_of (state n x)

-- the nine draws of a block, from this state on
unfoldable pub draws_from : ℕ → Draws
draws_from x = record {
  session = draw 1 x;
  key = draw 2 x;
  value = draw 3 x;
  other_key = draw 4 x;
  other_value = draw 5 x;
  single_session = draw 6 x;
  single_key = draw 7 x;
  single_value = draw 8 x;
  read_key = draw 9 x;
}

-- ---- commands

-- a column, and a value, by a draw
abbrev pub number_of : ℕ → Primitive
number_of draw = Int (pos (draw % 1000))

-- a hashed column, and column 1
abbrev pub document : ℕ → Document
document draw = record { key = record { hashed = number_of draw ∷ []; range = [] }; subkeys = Column 1 ∷ [] }

abbrev pub place : ℕ → Place
place draw = place_for 8 (document draw)

abbrev pub value : ℕ → List ℕ
value draw = spelling (number_of draw)

-- one of the sessions 1 to 20
abbrev pub session : ℕ → ℕ
session draw = draw % 20 + 1

abbrev pub clock : ℕ → ℕ → Line
clock block ahead = Told 1 (command.Clock 0 (1000000 + 30 * block + ahead))

-- a transaction of two writes
abbrev pub transaction : ℕ → Draws → List Line
transaction block d =
    clock block 10
    ∷ Told (session d.session) (command.Begin 0)
    ∷ Told (session d.session) (command.Put (place d.key) (value d.value))
    ∷ Told (session d.session) (command.Put (place d.other_key) (value d.other_value))
    ∷ Told (session d.session) command.Commit
    ∷ []

-- a single write, a read, and the passes of a tablet
abbrev pub others : ℕ → Draws → List Line
others block d =
    clock block 20
    ∷ Told (session d.single_session) (command.SinglePut (place d.single_key) (value d.single_value) 0)
    ∷ clock block 30
    ∷ Told (session d.single_session) (command.Read false (place d.read_key ∷ []))
    ∷ Told (session d.single_session) (command.Apply (block % 8))
    ∷ []

-- ---- the plan

-- what was said, and these lines
abbrev pub said_over : Commands → List Line → Commands
said_over said [] = said
said_over said (line ∷ lines) = said_over (said_after said line) lines

abbrev pub with_block : ℕ → Draws → Commands → Commands
with_block block d said = said_over (said_over said (transaction block d)) (others block d)

-- so many blocks, from this block and this state of the generator on
unfoldable pub blocks_from : ℕ → ℕ → ℕ → Commands → Commands
blocks_from zero block x said = said
blocks_from (suc left) block x said = blocks_from left (block + 1) (state 9 x) (with_block block (draws_from x) said)

abbrev pub made : ℕ → ℕ → Commands
made blocks number = blocks_from blocks 0 number nothing_said
