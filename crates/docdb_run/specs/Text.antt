-- The report of a history: one line for each command of the sessions and for each last pass, and the total.
use Rattle.std.specs.Prelude.{ℕ, ◌+◌, ◌-◌, ◌^◌, Bool, true, false, not, List, [], ◌∷◌, ◌++◌, Option, Some, None, nat_le, codes, decimal, length, take, drop, map, filter, flat_map, reverse, sum}
use Rattle.std.specs.List.{list_all}
use Rattle.std.specs.Int.{to_be_bytes, from_be_bytes, w64, w128}
use Rattle.uuid.specs.Text.{hyphenated_text, lower}
use Rattle.hybrid_time.specs.Time.{micros_of, logical_of}
use Rattle.doc_path.specs.Path.{Parts}
use Rattle.txn_data.specs.declared.actor.Actor.{Actor}
use Rattle.txn_data.specs.declared.actor.Actor.TheVariants.{Tablet, Status, Session, Applier}
use Rattle.txn_data.specs.declared.row.Row.{Row}
use Rattle.txn_data.specs.declared.command.Command.{Command}
use Rattle.txn_data.specs.declared.command.Command.TheVariants as command
use Rattle.txn_data.specs.declared.told.Told.{Told}
use Rattle.txn_data.specs.declared.told.Told.TheVariants as told
use Rattle.txn_data.specs.declared.told_refusal.ToldRefusal.{ToldRefusal}
use Rattle.txn_data.specs.declared.told_refusal.ToldRefusal.TheVariants as why
use Rattle.txn_data.specs.declared.session_plan.SessionPlan.{SessionPlan}
use Rattle.txn_data.specs.declared.commands.Commands.{Commands}
use Rattle.txn_data.specs.declared.config.Config.{Config}
use Rattle.txn_data.specs.declared.entry.Entry.{Entry}
use Rattle.txn_types.specs.History.{History, same_actor}
use Rattle.txn_types.specs.Reads.{Read, reads, origin, own_reading}
use Rattle.txn_types.specs.Run.{mover_at}
use Rattle.txn_types.specs.Script.{from_up}
use Rattle.txn_types.specs.Cause.{ToldAt, tells}

abbrev pub id_text : ℕ → List ℕ
id_text id = hyphenated_text lower (to_be_bytes w128 id)

abbrev pub time_text : ℕ → List ℕ
time_text time = decimal (micros_of time) ++ (codes "." ++ decimal (logical_of time))

abbrev pub actor_text : Actor → List ℕ
actor_text (Tablet k) = codes "t" ++ decimal k
actor_text (Status j) = codes "s" ++ decimal j
actor_text (Session i) = decimal i
actor_text (Applier k) = codes "a" ++ decimal k

-- the letters between a key's tag and its three last bytes, and the number of a value: what this form has of paths
abbrev pub letters_of : List ℕ → List ℕ
letters_of key = take (length key - 4) (drop 1 key)

abbrev pub path_text : Parts → List ℕ
path_text [] = []
path_text (key ∷ more) = codes "[;\"" ++ (letters_of key ++ codes "\"]")

abbrev pub value_text : Option (List ℕ) → List ℕ
value_text None = codes "-"
value_text (Some v) = decimal (from_be_bytes w64 (drop 1 v) - 2 ^ 63)

abbrev pub row_text : Row → List ℕ
row_text row = codes " " ++ (path_text row.path ++ (codes "=" ++ value_text row.value))

-- the texts of what this form can tell; the others come with their commands
abbrev pub refusal_text : ToldRefusal → List ℕ
refusal_text (why.ClockFull a at) = codes "refused clock-full " ++ (actor_text a ++ (codes " " ++ time_text at))
refusal_text why.Memory = codes "refused memory"
refusal_text other = []

abbrev pub answer_text : Told → List ℕ
answer_text (told.Committed x at) = codes "committed " ++ (id_text x ++ (codes " at " ++ time_text at))
answer_text (told.Values at restarts rows) =
    codes "values at " ++ (time_text at ++ (codes " restarts " ++ (decimal restarts ++ (codes ":" ++ flat_map row_text rows))))
answer_text (told.Passed applied cleaned left) =
    codes "passed applied=" ++ (decimal applied ++ (codes " cleaned=" ++ (decimal cleaned ++ (codes " left=" ++ decimal left))))
answer_text told.Set = codes "set"
answer_text (told.Refused refusal) = refusal_text refusal
answer_text other = []

abbrev pub word_of : Option Command → List ℕ
word_of (Some (command.SinglePut place v priority)) = codes "single"
word_of (Some (command.Read strict places)) = codes "read"
word_of (Some (command.Clock node micros)) = codes "clock"
word_of line = []

-- the line of a command: its session, its number there, its word and what was told
abbrev pub command_line : ℕ → ℕ → List ℕ → Told → List ℕ
command_line session number word t =
    decimal session ++ (codes "." ++ (decimal number ++ (codes " " ++ (word ++ (codes " " ++ (answer_text t ++ codes "\n"))))))

abbrev pub session_line : Config → ℕ → ToldAt → List ℕ
session_line config i t =
    let m = mover_at config (Session i) t.before in command_line i m.commands (word_of m.line) t.told

-- what one actor was told, in its order
unfoldable pub told_to : Actor → History → List ToldAt
told_to a h = reverse (filter (λ (t : ToldAt). same_actor t.who a) (tells h))

abbrev pub session_lines : Config → History → ℕ → List ℕ
session_lines config h i = flat_map (session_line config i) (told_to (Session i) h)

-- the line of a tablet's last pass
abbrev pub last_line : ℕ → Told → List ℕ
last_line k t = codes "t" ++ (decimal k ++ (codes " last " ++ (answer_text t ++ codes "\n")))

abbrev pub newest_line : ℕ → List ToldAt → List ℕ
newest_line k [] = []
newest_line k (t ∷ earlier) = last_line k t.told

abbrev pub pass_lines : History → ℕ → List ℕ
pass_lines h k = newest_line k (filter (λ (t : ToldAt). same_actor t.who (Applier k)) (tells h))

-- the counts of the total: of the commands of sessions
abbrev pub is_session : Actor → Bool
is_session (Session i) = true
is_session a = false

abbrev pub is_refused : Told → Bool
is_refused (told.Refused refusal) = true
is_refused t = false

abbrev pub is_committed : Told → Bool
is_committed (told.Committed x at) = true
is_committed t = false

abbrev pub is_values : Told → Bool
is_values (told.Values at restarts rows) = true
is_values t = false

abbrev pub restarts_of : Told → ℕ
restarts_of (told.Values at restarts rows) = restarts
restarts_of t = 0

-- what sessions were told, in its order
unfoldable pub session_tells : History → List Told
session_tells h = reverse (map (λ (t : ToldAt). t.told) (filter (λ (t : ToldAt). is_session t.who) (tells h)))

abbrev pub count_told : (Told → Bool) → List Told → ℕ
count_told which ts = length (filter which ts)

-- whether clocks agree within the skew, at each finished read
abbrev pub reads_up_to : ℕ → Option ℕ → Bool
reads_up_to most None = true
reads_up_to most (Some reading) = nat_le reading most

abbrev pub skew_ok : Config → Read → Bool
skew_ok config read =
    list_all (λ (e : Entry). reads_up_to (own_reading config read + config.skew_us) e.reading) (origin config read)

abbrev pub skew_text : Bool → List ℕ
skew_text true = codes "ok"
skew_text false = codes "broken"

-- the line of the total, from its counts
abbrev pub total_line : ℕ → ℕ → ℕ → ℕ → ℕ → ℕ → Bool → List ℕ
total_line commands ok refused committed values restarts skew =
    codes "total commands=" ++ (decimal commands ++ (codes " ok=" ++ (decimal ok ++ (codes " refused=" ++ (decimal refused
    ++ (codes " committed=" ++ (decimal committed ++ (codes " reads=" ++ (decimal values ++ (codes " restarts="
    ++ (decimal restarts ++ (codes " skew=" ++ (skew_text skew ++ codes "\n")))))))))))))

abbrev pub total_of : List Told → Bool → List ℕ
total_of ts skew =
    total_line (length ts) (count_told (λ t. not (is_refused t)) ts) (count_told is_refused ts) (count_told is_committed ts)
    (count_told is_values ts) (sum (map restarts_of ts)) skew

-- the report: the sessions by number, then the last passes by tablet, then the total
unfoldable pub text_of : Config → Commands → History → List ℕ
text_of config plan h =
    flat_map (λ (p : SessionPlan). session_lines config h p.session) plan.sessions
    ++ (flat_map (pass_lines h) (from_up 0 config.tablets)
    ++ total_of (session_tells h) (list_all (skew_ok config) (reads h)))

-- the same text from what is told alone, for session 1 with these commands and a last pass of tablet 0
unfoldable pub report_lines : ℕ → List Command → List Told → List ℕ
report_lines n [] ts = []
report_lines n (c ∷ cs) [] = []
report_lines n (c ∷ cs) (t ∷ ts) = command_line 1 n (word_of (Some c)) t ++ report_lines (n + 1) cs ts

abbrev pub report_text : List Command → List Told → Told → List ℕ
report_text cs ts passed = report_lines 1 cs ts ++ (last_line 0 passed ++ total_of ts true)
