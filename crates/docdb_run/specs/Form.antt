-- The form of the scripts that are read so far, and the plan that a script of it spells.
use Rattle.std.specs.Prelude.{◌≡◌, ◌≤◌, ℕ, ◌+◌, ◌-◌, ◌*◌, ◌^◌, Bool, false, ◌&&◌, List, [], ◌∷◌, ◌++◌, Option, Some, None, nat_eq, nat_lt, nat_le, bytes_eq, if◌then◌else◌, codes, length, take, drop, replicate}
use Rattle.std.specs.Int.{to_be_bytes, w64}
use Rattle.txn_data.specs.declared.place.Place.{Place}
use Rattle.txn_data.specs.declared.command.Command.{Command}
use Rattle.txn_data.specs.declared.command.Command.TheVariants as command
use Rattle.txn_data.specs.declared.commands.Commands.{Commands}
use Rattle.txn_data.specs.declared.config.Config.{Config}
use Rattle.txn_data.specs.declared.schedule.Schedule.TheVariants.{Serial}
use Rattle.txn_types.specs.Plan.{IsPlace, IsShort}
use Rattle.docdb_run.specs.declared.line.Line.{Line}
use Rattle.docdb_run.specs.declared.line.Line.TheVariants.{Blank, Told}

-- the most bytes and the most commands of a script
abbrev pub most_bytes : ℕ
most_bytes = 16777216

abbrev pub most_commands : ℕ
most_commands = 100000

-- the lines of a text, each ended by a line feed, which the last one may lack; `line` is what stands before the bytes
unfoldable pub lines_from : List ℕ → List ℕ → List (List ℕ)
lines_from [] [] = []
lines_from (b ∷ line) [] = (b ∷ line) ∷ []
lines_from line (b ∷ bytes) = if nat_eq b 10 then line ∷ lines_from [] bytes else lines_from (line ++ b ∷ []) bytes

abbrev pub lines_of : List ℕ → List (List ℕ)
lines_of bytes = lines_from [] bytes

-- what follows a text that the bytes begin with
unfoldable pub after_text : List ℕ → List ℕ → Option (List ℕ)
after_text [] bytes = Some bytes
after_text (t ∷ text) [] = None
after_text (t ∷ text) (b ∷ bytes) = if nat_eq t b then after_text text bytes else None

-- how many letters a to z the bytes begin with
abbrev pub is_letter : ℕ → Bool
is_letter b = nat_le 97 b && nat_le b 122

unfoldable pub letter_count : List ℕ → ℕ
letter_count [] = 0
letter_count (b ∷ bytes) = if is_letter b then letter_count bytes + 1 else 0

-- a decimal number, no greater than `most`, where `n` stands before its digits
abbrev pub is_digit : ℕ → Bool
is_digit b = nat_le 48 b && nat_le b 57

unfoldable pub number_from : ℕ → ℕ → List ℕ → Option ℕ
number_from most n [] = Some n
number_from most n (b ∷ bytes) =
    if is_digit b && nat_le (n * 10 + (b - 48)) most then number_from most (n * 10 + (b - 48)) bytes else None

-- a decimal number without a leading zero
abbrev pub number_of : ℕ → List ℕ → Option ℕ
number_of most [] = None
number_of most (b ∷ []) = number_from most 0 (b ∷ [])
number_of most (b ∷ bytes) = if nat_eq b 48 then None else number_from most 0 (b ∷ bytes)

-- the key of a document with one text in its range columns, and a whole number as a value
abbrev pub key_of : List ℕ → List ℕ
key_of letters = 83 ∷ (letters ++ 0 ∷ 0 ∷ 33 ∷ [])

abbrev pub value_of : ℕ → List ℕ
value_of n = 73 ∷ to_be_bytes w64 (n + 2 ^ 63)

abbrev pub place_of : List ℕ → Place
place_of letters = record { tablet = 0; path = key_of letters ∷ [] }

-- one to eight letters
abbrev pub is_word : ℕ → Bool
is_word n = nat_le 1 n && nat_le n 8

-- `1: single put [;"LETTERS"] V`, after the quote that opens the letters
abbrev pub put_valued : List ℕ → Option ℕ → Option Line
put_valued letters None = None
put_valued letters (Some n) = Some (Told (command.SinglePut (place_of letters) (value_of n) 0))

abbrev pub put_digits : List ℕ → Option (List ℕ) → Option Line
put_digits letters None = None
put_digits letters (Some digits) = put_valued letters (number_of (2 ^ 63 - 1) digits)

abbrev pub put_letters : ℕ → List ℕ → Option Line
put_letters n bytes =
    if is_word n then put_digits (take n bytes) (after_text (codes "\"] ") (drop n bytes)) else None

abbrev pub put_line : List ℕ → Option Line
put_line bytes = put_letters (letter_count bytes) bytes

-- `1: read [;"LETTERS"]`, after the quote that opens the letters
abbrev pub read_letters : ℕ → List ℕ → Option Line
read_letters n bytes =
    if is_word n && bytes_eq (drop n bytes) (codes "\"]") then Some (Told (command.Read false (place_of (take n bytes) ∷ [])))
    else None

abbrev pub read_line : List ℕ → Option Line
read_line bytes = read_letters (letter_count bytes) bytes

-- `1: clock 0 MICROS`, after the last space; a clock is not below the one before, which is `clock`
abbrev pub clock_valued : ℕ → Option ℕ → Option Line
clock_valued clock None = None
clock_valued clock (Some micros) = if nat_le clock micros then Some (Told (command.Clock 0 micros)) else None

abbrev pub clock_line : ℕ → List ℕ → Option Line
clock_line clock digits = clock_valued clock (number_of 4000000000000000 digits)

abbrev pub third_of : ℕ → Option (List ℕ) → Option Line
third_of clock (Some bytes) = clock_line clock bytes
third_of clock None = None

abbrev pub second_of : ℕ → List ℕ → Option (List ℕ) → Option Line
second_of clock line (Some bytes) = read_line bytes
second_of clock line None = third_of clock (after_text (codes "1: clock 0 ") line)

abbrev pub first_of : ℕ → List ℕ → Option (List ℕ) → Option Line
first_of clock line (Some bytes) = put_line bytes
first_of clock line None = second_of clock line (after_text (codes "1: read [;\"") line)

-- a line of the body: it is empty, or one of the three commands
abbrev pub line_of : ℕ → List ℕ → Option Line
line_of clock [] = Some Blank
line_of clock line = first_of clock line (after_text (codes "1: single put [;\"") line)

-- what is read of a script: the last clock, the number of the next line, and the commands so far
pub record Reading : Type 0 where
  pub clock : ℕ
  pub line : ℕ
  pub commands : List Command

abbrev pub at_first : Reading
at_first = record { clock = 1000000; line = 1; commands = [] }

abbrev pub clock_after : ℕ → Command → ℕ
clock_after clock (command.Clock node micros) = micros
clock_after clock line = clock

abbrev pub with_command : Reading → Command → Option Reading
with_command r c =
    if nat_lt (length r.commands) most_commands
    then Some (record { clock = clock_after r.clock c; line = r.line + 1; commands = r.commands ++ c ∷ [] })
    else None

abbrev pub with_line : Reading → Option Line → Option Reading
with_line r None = None
with_line r (Some Blank) = Some (record r { line = r.line + 1 })
with_line r (Some (Told c)) = with_command r c

-- one more line: the first is three dashes
abbrev pub after_line : Reading → List ℕ → Option Reading
after_line r line =
    if nat_eq r.line 1 then (if bytes_eq line (codes "---") then Some (record r { line = 2 }) else None)
    else with_line r (line_of r.clock line)

-- what comes of a script: its commands, or the number of the first line that is not of the form
pub data Form : Type 0 where
  Accepted : (commands : List Command) → Form
  Later : (line : ℕ) → Form

unfoldable pub form_over : Reading → List (List ℕ) → Form
form_over r [] = if nat_eq r.line 1 then Later 1 else Accepted r.commands
form_over r (l ∷ ls) = elim (after_line r l) [ Some next ↦ form_over next ls | None ↦ Later r.line ]

-- a script of more bytes than the most is refused at line 0; one without a line at line 1
abbrev pub form_of : List ℕ → Form
form_of script = if nat_lt most_bytes (length script) then Later 0 else form_over at_first (lines_of script)

-- the plan of session 1, and the cluster of such a script
abbrev pub plan_of : List Command → Commands
plan_of [] = record { sessions = []; order = []; go = [] }
plan_of (c ∷ cs) = record {
  sessions = (record { session = 1; commands = c ∷ cs }) ∷ [];
  order = replicate (length (c ∷ cs)) 1;
  go = [];
}

abbrev pub cluster : Config
cluster = record {
  nodes = 1;
  tablets = 1;
  status = 1;
  passes = 0;
  skew_us = 500000;
  lease_us = 2000000;
  number = 0;
  start_us = 1000000 ∷ [];
  schedule = Serial;
}

-- what such a script has for commands: single writes and reads on tablet 0, and clocks that do not fall; `clock` is the
-- last one
abbrev pub IsFormLine : ℕ → Command → Type 0
IsFormLine clock (command.SinglePut place v priority) = IsPlace cluster place × IsShort v
IsFormLine clock (command.Read strict (place ∷ [])) = IsPlace cluster place
IsFormLine clock (command.Clock node micros) = (node ≡ 0) × (clock ≤ micros) × (micros ≤ 4000000000000000)
IsFormLine clock line = ⊥

unfoldable pub AreFormLines : ℕ → List Command → Type 0
AreFormLines clock [] = Unit {0}
AreFormLines clock (c ∷ cs) = IsFormLine clock c × AreFormLines (clock_after clock c) cs

pub record IsForm (commands : List Command) : Type 0 where
  pub lines : AreFormLines 1000000 commands
  pub few : length commands ≤ most_commands
