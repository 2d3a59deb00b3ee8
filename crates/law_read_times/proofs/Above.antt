-- What a tablet says that a read met is above the time of the read.
use Rattle.std.proofs.Common.{◌≡◌, ℕ, ◌<◌, Bool, true, false, ◌&&◌, ◌||◌, List, [], ◌∷◌, Option, Some, None, nat_lt, nat_le, nat_eq, refl, subst, if◌then◌else◌, arith}
use Rattle.std.proofs.lemmas.Bool.{and_parts, ltb-true}
use Rattle.std.specs.List.{list_any}
use Rattle.doc_path.specs.Path.{Parts, related, path_order}
use Rattle.txn_data.specs.declared.actor.Actor.{Actor}
use Rattle.txn_data.specs.declared.actor.Actor.TheVariants.{Tablet, Status, Session, Applier}
use Rattle.txn_data.specs.declared.append.Append.{Append}
use Rattle.txn_data.specs.declared.fate_of.FateOf.{FateOf}
use Rattle.txn_data.specs.declared.met_at.MetAt.{MetAt}
use Rattle.txn_data.specs.declared.read_kind.ReadKind.{ReadKind}
use Rattle.txn_data.specs.declared.refusal.Refusal.TheVariants as refusal
use Rattle.txn_data.specs.declared.reply.Reply.{Reply}
use Rattle.txn_data.specs.declared.reply.Reply.TheVariants as reply
use Rattle.txn_data.specs.declared.request.Request.{Request}
use Rattle.txn_data.specs.declared.request.Request.TheVariants as request
use Rattle.txn_data.specs.declared.version.Version.{Version}
use Rattle.txn_data.specs.declared.window.Window.{Window}
use Rattle.txn_types.specs.History.{History}
use Rattle.txn_types.specs.Clock.{refusal_answer, told_only, down_since}
use Rattle.txn_types.specs.Status.{status_standing}
use Rattle.txn_types.specs.Tablet.{provisional, versions, considered, is_met, better_met, met_in, met_under, collected, not_after, tablet_standing}
use Rattle.txn_types.specs.Run.{Serves}

better_above : (t : ℕ) (v : Version) (o : Option MetAt) → t < v.at → ((m : MetAt) → o ≡ Some m → t < m.at) → t < (better_met v o).at
better_above t v None above more = above
better_above t v (Some m) above more = choice_above (nat_lt m.at v.at || (nat_eq m.at v.at && not_after (path_order v.path m.path)))
  where
    choice_above : (b : Bool) → t < (if b then (record { at = v.at; path = v.path }) else m).at
    choice_above true = above
    choice_above false = more m refl

met_choice : (b : Bool) (w : Window) (t : ℕ) (paths : List Parts) (v : Version) (vs : List Version) (m : MetAt) → is_met w t paths v ≡ b → (if b then Some (better_met v (met_in w t paths vs)) else met_in w t paths vs) ≡ Some m →
    ((n : MetAt) → met_in w t paths vs ≡ Some n → t < n.at) → t < m.at
met_choice true w t paths v vs m met is more =
    let a = and_parts (nat_lt t v.at && nat_le v.at w.g && nat_le v.wrote w.limit) (list_any (related v.path) paths) met in
    let b = and_parts (nat_lt t v.at && nat_le v.at w.g) (nat_le v.wrote w.limit) a.0 in
    let c = and_parts (nat_lt t v.at) (nat_le v.at w.g) b.0 in
    let same : better_met v (met_in w t paths vs) ≡ m = cc in
    subst (λ (n : MetAt). t < n.at) same (better_above t v (met_in w t paths vs) (ltb-true t v.at c.0) more)
met_choice false w t paths v vs m met is more = more m is

met_above : (w : Window) (t : ℕ) (paths : List Parts) (vs : List Version) (m : MetAt) → met_in w t paths vs ≡ Some m → t < m.at
unfolding met_in
met_above w t paths [] m is = cc
met_above w t paths (v ∷ vs) m is = met_choice (is_met w t paths v) w t paths v vs m refl is (λ n. met_above w t paths vs n)

under_above : (w : Option Window) (t : ℕ) (paths : List Parts) (vs : List Version) (m : MetAt) → met_under w t paths vs ≡ Some m → t < m.at
under_above None t paths vs m is = cc
under_above (Some w) t paths vs m is = met_above w t paths vs m is

collected_above : (kind : ReadKind) (paths : List Parts) (t : ℕ) (vs : List Version) (o : Option MetAt) (at : ℕ) (path : Parts) → reply.Met at path ≡ collected kind paths t vs o → ((m : MetAt) → o ≡ Some m → t < m.at) → t < at
collected_above kind paths t vs None at path is more = cc
collected_above kind paths t vs (Some m) at path is more = let same : m.at ≡ at = cc in let above = more m refl in omega (arith, same, above)

standing_above : (d : Option ℕ) (kind : ReadKind) (paths : List Parts) (t : ℕ) (vs : List Version) (o : Option MetAt) (at : ℕ) (path : Parts) → reply.Met at path ≡ (tablet_standing d (told_only (collected kind paths t vs o))).reply →
    ((m : MetAt) → o ≡ Some m → t < m.at) → t < at
standing_above (Some n) kind paths t vs o at path is more = cc
standing_above None kind paths t vs o at path is more = collected_above kind paths t vs o at path is more

status_never : (d : Option ℕ) (at : ℕ) (path : Parts) → reply.Met at path ≡ (status_standing d (refusal_answer refusal.Memory)).reply → ⊥
status_never (Some n) at path is = cc
status_never None at path is = cc

-- what a Collect met is above its time
abbrev pub Fits : Request → Reply → Type 0
Fits (request.Collect own_txn kind paths t window fates) (reply.Met at path) = t < at
Fits asked r = Unit {0}

met_served : (lease : ℕ) (a : Actor) (o : History) (reading own_txn : Option ℕ) (kind : ReadKind) (paths : List Parts) (t : ℕ) (window : Option Window) (fates : List FateOf) (at : ℕ) (path : Parts) (time : Option ℕ) (append : Append) →
    Serves lease a o reading (request.Collect own_txn kind paths t window fates) (reply.Met at path) time append → t < at
met_served lease (Tablet k) o reading own_txn kind paths t window fates at path time append served =
    let vs = considered own_txn fates (provisional o) (versions o) in
    standing_above (down_since o) kind paths t vs (met_under window t paths vs) at path served.replied (λ m. under_above window t paths vs m)
met_served lease (Status j) o reading own_txn kind paths t window fates at path time append served = absurd (status_never (down_since o) at path served.replied)
met_served lease (Session i) o reading own_txn kind paths t window fates at path time append served = absurd (status_never (down_since o) at path served.replied)
met_served lease (Applier k) o reading own_txn kind paths t window fates at path time append served = absurd (status_never (down_since o) at path served.replied)

pub fits_served : (lease : ℕ) (a : Actor) (o : History) (reading : Option ℕ) (asked : Request) (r : Reply) (time : Option ℕ) (append : Append) → Serves lease a o reading asked r time append → Fits asked r
fits_served lease a o reading (request.Collect own_txn kind paths t window fates) (reply.Met at path) time append served = met_served lease a o reading own_txn kind paths t window fates at path time append served
fits_served lease a o reading asked r time append served = tt

pub fits_restarted : (asked : Request) (k : Bool) → Fits asked (reply.Restarted k)
fits_restarted (request.Collect own_txn kind paths t window fates) k = tt
fits_restarted asked k = tt

pub fits_memory : (asked : Request) → Fits asked (reply.Refused refusal.Memory)
fits_memory (request.Collect own_txn kind paths t window fates) = tt
fits_memory asked = tt
