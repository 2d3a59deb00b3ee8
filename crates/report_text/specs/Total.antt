-- The total of a report: six counts over what sessions were told, and whether clocks agreed.
use Rattle.std.specs.Prelude.{ℕ, Bool, true, false, not, List, ◌++◌, codes, decimal, length, filter}
use Rattle.std.specs.List.{sum_by}
use Rattle.json.specs.Print.{quoted}
use Rattle.serde_json.specs.Data.{Data, number, unsigned, string, object, member, no_members}
use Rattle.txn_data.specs.declared.told.Told.{Told}
use Rattle.txn_data.specs.declared.told.Told.TheVariants as told
use Rattle.report_text.specs.declared.counts.Counts.{Counts}

abbrev pub is_refused : Told → Bool
is_refused (told.Refused refusal) = true
is_refused t = false

abbrev pub is_committed : Told → Bool
is_committed (told.Committed txn at) = true
is_committed t = false

abbrev pub is_values : Told → Bool
is_values (told.Values at restarts rows) = true
is_values t = false

-- how often a finished read restarted
abbrev pub restarts_of : Told → ℕ
restarts_of (told.Values at restarts rows) = restarts
restarts_of t = 0

abbrev pub count_told : (Told → Bool) → List Told → ℕ
count_told which ts = length (filter which ts)

-- Of what sessions were told: all; what is no refusal; the refusals; the commits told, to whatever command; the finished
-- reads; and the sum of their restarts.
abbrev pub counts_of : List Told → Counts
counts_of ts = record {
  commands = length ts;
  ok = count_told (λ t. not (is_refused t)) ts;
  refused = count_told is_refused ts;
  committed = count_told is_committed ts;
  reads = count_told is_values ts;
  restarts = sum_by restarts_of ts;
}

-- whether clocks agreed
abbrev pub skew_text : Bool → List ℕ
skew_text true = codes "ok"
skew_text false = codes "broken"

abbrev pub plain_total : Counts → Bool → List ℕ
plain_total n agree =
    codes "total commands=" ++ (decimal n.commands ++ (codes " ok=" ++ (decimal n.ok ++ (codes " refused=" ++ (decimal n.refused
    ++ (codes " committed=" ++ (decimal n.committed ++ (codes " reads=" ++ (decimal n.reads ++ (codes " restarts="
    ++ (decimal n.restarts ++ (codes " skew=" ++ (skew_text agree ++ codes "\n")))))))))))))

-- one object without spaces, its keys in byte order
abbrev pub json_total : Counts → Bool → List ℕ
json_total n agree =
    codes "{\"commands\":" ++ (decimal n.commands ++ (codes ",\"committed\":" ++ (decimal n.committed
    ++ (codes ",\"ok\":" ++ (decimal n.ok ++ (codes ",\"reads\":" ++ (decimal n.reads ++ (codes ",\"refused\":"
    ++ (decimal n.refused ++ (codes ",\"restarts\":" ++ (decimal n.restarts ++ (codes ",\"skew\":"
    ++ (quoted (skew_text agree) ++ codes "}")))))))))))))

-- the same as a value
abbrev pub total_data : Counts → List ℕ → Data
total_data n skew =
    object (member (codes "commands") (number (unsigned n.commands)) (member (codes "committed") (number (unsigned n.committed))
    (member (codes "ok") (number (unsigned n.ok)) (member (codes "reads") (number (unsigned n.reads))
    (member (codes "refused") (number (unsigned n.refused)) (member (codes "restarts") (number (unsigned n.restarts))
    (member (codes "skew") (string skew) no_members)))))))

-- the line of the total, in JSON or plain
abbrev pub total_text : Bool → Counts → Bool → List ℕ
total_text true n agree = json_total n agree ++ codes "\n"
total_text false n agree = plain_total n agree
