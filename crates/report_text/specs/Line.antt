-- A line of the report: the call, the command word, and what was told.
use Rattle.std.specs.Prelude.{ℕ, Bool, true, false, List, [], ◌++◌, Option, Some, None, codes, decimal}
use Rattle.json.specs.Print.{quoted}
use Rattle.serde_json.specs.Data.{Data, string, object, member, no_members}
use Rattle.txn_data.specs.declared.command.Command.{Command}
use Rattle.txn_data.specs.declared.command.Command.TheVariants as command

-- the first word of a command, or end
abbrev pub word_of : Command → List ℕ
word_of (command.Begin priority) = codes "begin"
word_of (command.Put place value) = codes "put"
word_of (command.Del place) = codes "del"
word_of command.Commit = codes "commit"
word_of command.Abort = codes "abort"
word_of (command.Read strict places) = codes "read"
word_of (command.Scan strict place) = codes "scan"
word_of (command.SinglePut place value priority) = codes "single"
word_of (command.SingleDel place priority) = codes "single"
word_of (command.Restart actor) = codes "restart"
word_of (command.Apply tablet) = codes "apply"
word_of (command.Clock node micros) = codes "clock"
word_of command.End = codes "end"

-- The word of the command under way. In a run there is one wherever a session is told something.
abbrev pub word_under_way : Option Command → List ℕ
word_under_way None = []
word_under_way (Some line) = word_of line

-- the call of a command: its session, a dot, and its number there
abbrev pub command_call : ℕ → ℕ → List ℕ
command_call session number = decimal session ++ (codes "." ++ decimal number)

-- the call of a last pass: its tablet
abbrev pub pass_call : ℕ → List ℕ
pass_call tablet = codes "t" ++ decimal tablet

abbrev pub plain_line : List ℕ → List ℕ → List ℕ → List ℕ
plain_line call word answer = call ++ (codes " " ++ (word ++ (codes " " ++ (answer ++ codes "\n"))))

-- one object without spaces, its keys in byte order
abbrev pub json_object : List ℕ → List ℕ → List ℕ → List ℕ
json_object call word answer =
    codes "{\"call\":" ++ (quoted call ++ (codes ",\"command\":" ++ (quoted word
    ++ (codes ",\"told\":" ++ (quoted answer ++ codes "}")))))

-- the same as a value
abbrev pub json_data : List ℕ → List ℕ → List ℕ → Data
json_data call word answer =
    object (member (codes "call") (string call) (member (codes "command") (string word)
    (member (codes "told") (string answer) no_members)))

-- a line, in JSON or plain
abbrev pub line_text : Bool → List ℕ → List ℕ → List ℕ → List ℕ
line_text true call word answer = json_object call word answer ++ codes "\n"
line_text false call word answer = plain_line call word answer
