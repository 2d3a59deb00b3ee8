-- The table of a tablet: what it answers, from its own entries alone.
use Rattle.std.specs.Prelude.{ℕ, Bool, true, false, ◌&&◌, ◌||◌, not, List, [], ◌∷◌, ◌++◌, Option, Some, None, max, min, nat_eq, nat_lt, nat_le, if◌then◌else◌, map, filter, filter_map, flat_map}
use Rattle.std.specs.List.{list_any}
use Rattle.std.specs.declared.cmp.Ordering.{Ordering}
use Rattle.std.specs.declared.cmp.Ordering.TheVariants.{Less, Equal, Greater}
use Rattle.doc_path.specs.Path.{Parts, is_prefix, related, path_order}
use Rattle.txn_data.specs.declared.meta.Meta.{Meta}
use Rattle.txn_data.specs.declared.op.Op.{Op}
use Rattle.txn_data.specs.declared.fate.Fate.{Fate}
use Rattle.txn_data.specs.declared.fate.Fate.TheVariants as fate
use Rattle.txn_data.specs.declared.fate_of.FateOf.{FateOf}
use Rattle.txn_data.specs.declared.found.Found.{Found}
use Rattle.txn_data.specs.declared.window.Window.{Window}
use Rattle.txn_data.specs.declared.read_kind.ReadKind.{ReadKind}
use Rattle.txn_data.specs.declared.read_kind.ReadKind.TheVariants.{Get, Scan}
use Rattle.txn_data.specs.declared.row.Row.{Row}
use Rattle.txn_data.specs.declared.written.Written.{Written}
use Rattle.txn_data.specs.declared.version.Version.{Version}
use Rattle.txn_data.specs.declared.met_at.MetAt.{MetAt}
use Rattle.txn_data.specs.declared.request.Request.{Request}
use Rattle.txn_data.specs.declared.request.Request.TheVariants as request
use Rattle.txn_data.specs.declared.reply.Reply.{Reply}
use Rattle.txn_data.specs.declared.reply.Reply.TheVariants as reply
use Rattle.txn_data.specs.declared.refusal.Refusal.TheVariants as refusal
use Rattle.txn_data.specs.declared.event.Event.{Event}
use Rattle.txn_data.specs.declared.event.Event.TheVariants.{Serve}
use Rattle.txn_types.specs.Lists.{sorted_by, rising, or_zero}
use Rattle.txn_types.specs.Writes.{value, beneath}
use Rattle.txn_types.specs.History.{History, standing}
use Rattle.txn_types.specs.Clock.{Answer, told_only, refusal_answer, logged, Own, Floor, timed, down_since}

-- a provisional write, with what its record says of the transaction
pub record Intent : Type 0 where
  pub meta : Meta
  pub number : ℕ
  pub path : Parts
  pub op : Op
  pub wrote : ℕ

abbrev pub is_of : ℕ → Intent → Bool
is_of x p = nat_eq p.meta.txn x

-- the provisional writes after one more logged action, in the order in which they were added
abbrev pub provisional_after : List Intent → Event → List Intent
provisional_after ps (Serve from (request.Write meta number path op read seen fates) answer (Some w) append) =
    ps ++ (record { meta = meta; number = number; path = path; op = op; wrote = w }) ∷ []
provisional_after ps (Serve from (request.Apply x at) answer time append) = filter (λ (p : Intent). not (is_of x p)) ps
provisional_after ps (Serve from (request.Clean x) answer time append) = filter (λ (p : Intent). not (is_of x p)) ps
provisional_after ps _ = ps

unfoldable pub provisional_over : History → List Intent
provisional_over [] = []
provisional_over (e ∷ h) = provisional_after (provisional_over h) e.event

-- a provisional write as a version, once its transaction is committed at c
abbrev pub version_at : ℕ → Intent → Version
version_at c p = record { path = p.path; at = c; wrote = p.wrote; number = p.number; op = p.op }

abbrev pub same_path : Parts → Parts → Bool
same_path p q = is_prefix p q && is_prefix q p

-- the same path, commit time and write number
abbrev pub same_place : Version → Version → Bool
same_place u v = same_path u.path v.path && nat_eq u.at v.at && nat_eq u.number v.number

-- one more version, in the place of one of the same path, commit time and write number where there is one
unfoldable pub with_version : List Version → Version → List Version
with_version [] v = v ∷ []
with_version (u ∷ us) v = if same_place u v then v ∷ us else u ∷ with_version us v

unfoldable pub with_versions : List Version → List Version → List Version
with_versions us [] = us
with_versions us (v ∷ vs) = with_versions (with_version us v) vs

-- the versions after one more logged action, over the provisional writes before it
abbrev pub versions_after : List Version → List Intent → Event → List Version
versions_after vs ps (Serve from (request.Single x path op seen fates) answer (Some c) append) =
    with_version vs (record { path = path; at = c; wrote = c; number = 0; op = op })
versions_after vs ps (Serve from (request.Apply x at) answer time append) =
    with_versions vs (map (version_at at) (filter (is_of x) ps))
versions_after vs ps _ = vs

unfoldable pub versions_over : History → List Version
versions_over [] = []
versions_over (e ∷ h) = versions_after (versions_over h) (provisional_over h) e.event

-- the provisional writes and the versions of a tablet, from what stands in its log
abbrev pub provisional : History → List Intent
provisional h = provisional_over (standing h)

abbrev pub versions : History → List Version
versions h = versions_over (standing h)

abbrev pub txn_of : Intent → ℕ
txn_of p = p.meta.txn

-- the status tablet that the first provisional write of a transaction names
unfoldable pub home_in : ℕ → List Intent → ℕ
home_in x [] = 0
home_in x (p ∷ ps) = if is_of x p then p.meta.status else home_in x ps

-- the transactions of some of the provisional writes, by rising id, each with its status tablet
abbrev pub founds : List Intent → List Intent → List Found
founds all some = map (λ x. record { txn = x; status = home_in x all }) (rising (map txn_of some))

-- the provisional writes of other transactions on a related path
abbrev pub others_on : ℕ → Parts → List Intent → List Intent
others_on x path ps = filter (λ (p : Intent). not (is_of x p) && related p.path path) ps

-- the first fate of a transaction among those that are given
unfoldable pub first_fate : List FateOf → ℕ → Option Fate
first_fate [] x = None
first_fate (f ∷ fs) x = if nat_eq f.txn x then Some f.fate else first_fate fs x

abbrev pub is_open : Option Fate → Bool
is_open None = true
is_open (Some fate.Pending) = true
is_open (Some _) = false

abbrev pub commit_time : Option Fate → Option ℕ
commit_time (Some (fate.Committed at)) = Some at
commit_time _ = None

abbrev pub first_of : List ℕ → Option ℕ
first_of [] = None
first_of (n ∷ ns) = Some n

-- the least of the other transactions that have a related provisional write and no fate, or the fate Pending
abbrev pub conflict : ℕ → Parts → List FateOf → List Intent → Option ℕ
conflict x path fates ps = first_of (filter (λ y. is_open (first_fate fates y)) (rising (map txn_of (others_on x path ps))))

-- the greatest of these times that is above `read`
unfoldable pub greatest_above : ℕ → List ℕ → Option ℕ
greatest_above read [] = None
greatest_above read (c ∷ cs) =
    if nat_lt read c then Some (max c (or_zero (greatest_above read cs))) else greatest_above read cs

-- the commit times that a write at this path has to be above: those of related versions, and the Committed fates of
-- other transactions that have a related provisional write
abbrev pub related_commits : ℕ → Parts → List FateOf → List Intent → List Version → List ℕ
related_commits x path fates ps vs =
    map (λ (v : Version). v.at) (filter (λ (v : Version). related v.path path) vs)
    ++ filter_map (λ (p : Intent). commit_time (first_fate fates (txn_of p))) (others_on x path ps)

-- the greatest of the first Committed fates, or 0
unfoldable pub greatest_fate : List FateOf → List FateOf → ℕ
greatest_fate all [] = 0
greatest_fate all (f ∷ fs) = max (or_zero (commit_time (first_fate all f.txn))) (greatest_fate all fs)

abbrev pub is_own : Option ℕ → ℕ → Bool
is_own None x = false
is_own (Some y) x = nat_eq x y

abbrev pub under_fate : List FateOf → Intent → Option Version
under_fate fates p = elim (commit_time (first_fate fates (txn_of p))) [ Some c ↦ Some (version_at c p) | None ↦ None ]

-- what a Collect considers: the versions, and the provisional writes of other transactions whose fate is Committed, as
-- versions at that time, by transaction
abbrev pub considered : Option ℕ → List FateOf → List Intent → List Version → List Version
considered own_txn fates ps vs =
    vs ++ filter_map (under_fate fates)
    (sorted_by (λ (p q : Intent). nat_le (txn_of p) (txn_of q)) (filter (λ (p : Intent). not (is_own own_txn (txn_of p))) ps))

abbrev pub not_after : Ordering → Bool
not_after Less = true
not_after Equal = true
not_after Greater = false

-- by commit time, write number and path
abbrev pub version_before : Version → Version → Bool
version_before u v =
    nat_lt u.at v.at
    || (nat_eq u.at v.at && (nat_lt u.number v.number || (nat_eq u.number v.number && not_after (path_order u.path v.path))))

-- versions up to t as writes, the newest last
unfoldable pub writes_at : ℕ → List Version → List Written
writes_at t vs =
    map (λ (v : Version). record { path = v.path; op = v.op })
    (sorted_by version_before (filter (λ (v : Version). nat_le v.at t) vs))

abbrev pub rows_of : ReadKind → List Parts → List Written → List Row
rows_of Get paths ws = map (λ p. record { path = p; value = value ws p }) paths
rows_of Scan paths ws = flat_map (beneath ws) paths

-- what a read at t meets: a version on a related path that is newer than t, not above g, and was written here not later
-- than the local limit
abbrev pub is_met : Window → ℕ → List Parts → Version → Bool
is_met w t paths v = nat_lt t v.at && nat_le v.at w.g && nat_le v.wrote w.limit && list_any (related v.path) paths

abbrev pub better_met : Version → Option MetAt → MetAt
better_met v None = record { at = v.at; path = v.path }
better_met v (Some m) =
    if nat_lt m.at v.at || (nat_eq m.at v.at && not_after (path_order v.path m.path)) then record { at = v.at; path = v.path }
    else m

-- the greatest commit time that is met, with the least path that is met with it
unfoldable pub met_in : Window → ℕ → List Parts → List Version → Option MetAt
met_in w t paths [] = None
met_in w t paths (v ∷ vs) =
    if is_met w t paths v then Some (better_met v (met_in w t paths vs)) else met_in w t paths vs

abbrev pub met_under : Option Window → ℕ → List Parts → List Version → Option MetAt
met_under None t paths vs = None
met_under (Some w) t paths vs = met_in w t paths vs

abbrev pub collected : ReadKind → List Parts → ℕ → List Version → Option MetAt → Reply
collected kind paths t vs (Some m) = reply.Met m.at m.path
collected kind paths t vs None = reply.Collected (rows_of kind paths (writes_at t vs))

abbrev pub local_limit : Option ℕ → ℕ → ℕ → ℕ
local_limit (Some limit) now g = limit
local_limit None now g = min now g

-- the transactions that a read may have to ask about
abbrev pub listed : Option ℕ → List Parts → ℕ → ℕ → List Intent → Reply
listed own_txn paths t limit ps =
    reply.Listed limit (founds ps (filter
    (λ (p : Intent). not (is_own own_txn (txn_of p)) && nat_le p.wrote (max t limit) && list_any (related p.path) paths) ps))

abbrev pub has_any : ℕ → List Intent → Bool
has_any x ps = list_any (is_of x) ps

abbrev pub write_answer : Option ℕ → Option ℕ → Answer → Answer
write_answer (Some other) overlap done = refusal_answer (refusal.Conflict other)
write_answer None (Some at) done = refusal_answer (refusal.Overlap at)
write_answer None None done = done

-- what a tablet that is up answers
abbrev pub tablet_up : ℕ → History → Bool → ℕ → Request → Answer
tablet_up lease h fails reading (request.ListWrite x path) =
    told_only (reply.Others (founds (provisional h) (others_on x path (provisional h))))
tablet_up lease h fails reading (request.Write meta number path op read seen fates) =
    write_answer (conflict meta.txn path fates (provisional h))
    (greatest_above read (related_commits meta.txn path fates (provisional h) (versions h)))
    (timed lease h fails Own seen reading true (λ w. reply.Written w))
tablet_up lease h fails reading (request.Single x path op seen fates) =
    write_answer (conflict x path fates (provisional h)) None
    (timed lease h fails Own (max seen (greatest_fate fates fates)) reading true (λ c. reply.SingleDone c))
tablet_up lease h fails reading (request.ListRead own_txn paths t g limit) =
    timed lease h fails Floor t reading false (λ now. listed own_txn paths t (local_limit limit now g) (provisional h))
tablet_up lease h fails reading (request.Collect own_txn kind paths t window fates) =
    let vs = considered own_txn fates (provisional h) (versions h) in
    told_only (collected kind paths t vs (met_under window t paths vs))
tablet_up lease h fails reading request.ListIntents = told_only (reply.Intents (founds (provisional h) (provisional h)))
tablet_up lease h fails reading (request.Apply x at) =
    if has_any x (provisional h) then timed lease h fails Floor at reading true (λ now. reply.AppliedHere)
    else told_only reply.AppliedHere
tablet_up lease h fails reading (request.Clean x) = logged fails (has_any x (provisional h)) None reply.Cleaned
tablet_up lease h fails reading _ = refusal_answer refusal.Memory

abbrev pub tablet_standing : Option ℕ → Answer → Answer
tablet_standing (Some since) up = refusal_answer (refusal.Down since)
tablet_standing None up = up

-- what a tablet answers; an answer to Restart is a load that failed
abbrev pub tablet_answer : ℕ → History → Bool → ℕ → Request → Answer
tablet_answer lease h fails reading request.Restart = refusal_answer refusal.LogFault
tablet_answer lease h fails reading asked = tablet_standing (down_since h) (tablet_up lease h fails reading asked)
