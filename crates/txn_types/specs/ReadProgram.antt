-- What a read asks: its tablets one after another, and all of them again where what it met raised its time.
use Rattle.std.specs.Prelude.{ℕ, ◌+◌, Bool, true, false, List, [], ◌∷◌, ◌++◌, Option, Some, None, nat_eq, if◌then◌else◌, map, filter, flat_map}
use Rattle.doc_path.specs.Path.{Parts}
use Rattle.txn_data.specs.declared.actor.Actor.TheVariants.{Tablet, Status}
use Rattle.txn_data.specs.declared.place.Place.{Place}
use Rattle.txn_data.specs.declared.read_kind.ReadKind.{ReadKind}
use Rattle.txn_data.specs.declared.read_kind.ReadKind.TheVariants.{Get, Scan}
use Rattle.txn_data.specs.declared.found.Found.{Found}
use Rattle.txn_data.specs.declared.fate_of.FateOf.{FateOf}
use Rattle.txn_data.specs.declared.window.Window.{Window}
use Rattle.txn_data.specs.declared.tablet_limit.TabletLimit.{TabletLimit}
use Rattle.txn_data.specs.declared.row.Row.{Row}
use Rattle.txn_data.specs.declared.request.Request.TheVariants as request
use Rattle.txn_data.specs.declared.reply.Reply.{Reply}
use Rattle.txn_data.specs.declared.reply.Reply.TheVariants as reply
use Rattle.txn_data.specs.declared.told_refusal.ToldRefusal.{ToldRefusal}
use Rattle.txn_data.specs.declared.told_refusal.ToldRefusal.TheVariants as told_refusal
use Rattle.txn_data.specs.declared.read_what.ReadWhat.{ReadWhat}
use Rattle.txn_data.specs.declared.read_what.ReadWhat.TheVariants as what
use Rattle.txn_data.specs.declared.read_end.ReadEnd.{ReadEnd}
use Rattle.txn_types.specs.Lists.{rising}
use Rattle.txn_types.specs.Tablet.{same_path}
use Rattle.txn_types.specs.Program.{Program, Done, Asks, refusal_told}

-- what is asked of a read
pub record Asked : Type 0 where
  pub own_txn : Option ℕ
  pub kind : ReadKind
  pub places : List Place
  pub g : ℕ
  pub strict : Bool

-- what a tablet answered, in the round that is under way
pub record TabletRows : Type 0 where
  pub tablet : ℕ
  pub rows : List Row

-- how far a read has come: its time, how often it restarted, the local limits that are fixed, and the rows of this round
pub record Progress : Type 0 where
  pub t : ℕ
  pub restarts : ℕ
  pub limits : List TabletLimit
  pub found : List TabletRows

-- the tablets of the places by rising number, and the paths asked of one of them in their order
abbrev pub tablets_of : List Place → List ℕ
tablets_of places = rising (map (λ (p : Place). p.tablet) places)

abbrev pub paths_on : ℕ → List Place → List Parts
paths_on k places = map (λ (p : Place). p.path) (filter (λ (p : Place). nat_eq p.tablet k) places)

unfoldable pub limit_of : ℕ → List TabletLimit → Option ℕ
limit_of k [] = None
limit_of k (l ∷ ls) = if nat_eq l.tablet k then Some l.limit else limit_of k ls

-- the limit of a tablet is the first that was heard from it
abbrev pub with_limit : ℕ → ℕ → List TabletLimit → List TabletLimit
with_limit k limit ls = elim (limit_of k ls) [ Some known ↦ ls | None ↦ ls ++ (record { tablet = k; limit = limit }) ∷ [] ]

abbrev pub read_ended : ReadWhat → Progress → Program ReadEnd
read_ended end s = Done (record { what = end; t = s.t; restarts = s.restarts; limits = s.limits })

abbrev pub read_refused : ToldRefusal → Progress → Program ReadEnd
read_refused why s = read_ended (what.Refused why) s

-- asks the fate at t of each transaction listed, by rising id, and goes on with the answers
unfoldable pub ask_fates : Progress → List Found → List FateOf → (List FateOf → Program ReadEnd) → Program ReadEnd
ask_fates s [] fates next = next fates
ask_fates s (f ∷ fs) fates next = Asks (Status f.status) (request.AskFate f.txn s.t) (λ r. elim r [
  | reply.FateIs fate ↦ ask_fates s fs (fates ++ (record { txn = f.txn; fate = fate }) ∷ []) next
  | reply.Refused why ↦ read_refused (refusal_told (Status f.status) why) s
  | _ ↦ read_refused told_refusal.Memory s
])

-- a visit of a tablet: ListRead, the fates, and Collect, in the first round with the window
abbrev pub window_of : Bool → ℕ → ℕ → Option Window
window_of false g limit = None
window_of true g limit = Some (record { g = g; limit = limit })

abbrev pub fixed : ℕ → ℕ → List TabletLimit → ℕ
fixed k limit ls = elim (limit_of k ls) [ Some known ↦ known | None ↦ limit ]

abbrev pub visit : Asked → Progress → Bool → ℕ → (Progress → Reply → Program ReadEnd) → Program ReadEnd
visit a s windowed k next =
    Asks (Tablet k) (request.ListRead a.own_txn (paths_on k a.places) s.t a.g (limit_of k s.limits)) (λ r. elim r [
      | reply.Listed limit others ↦
          let seen : Progress = record s { limits = with_limit k limit s.limits } in
          ask_fates seen others [] (λ fates.
          Asks (Tablet k) (request.Collect a.own_txn a.kind (paths_on k a.places) s.t (window_of windowed a.g (fixed k limit s.limits)) fates)
          (λ answer. next seen answer))
      | reply.Refused why ↦ read_refused (refusal_told (Tablet k) why) s
      | _ ↦ read_refused told_refusal.Memory s
    ])

abbrev pub with_tablet_rows : ℕ → List Row → Progress → Progress
with_tablet_rows k rows s = record s { found = s.found ++ (record { tablet = k; rows = rows }) ∷ [] }

-- the row of a path among those of a tablet
unfoldable pub row_of : Parts → List Row → Row
row_of p [] = record { path = p; value = None }
row_of p (r ∷ rs) = if same_path r.path p then r else row_of p rs

unfoldable pub rows_from : ℕ → List TabletRows → List Row
rows_from k [] = []
rows_from k (f ∷ fs) = if nat_eq f.tablet k then f.rows else rows_from k fs

-- the rows of a read: those of its paths in their order, or all of a scan
abbrev pub all_rows : ReadKind → List Place → List TabletRows → List Row
all_rows Get places found = map (λ (p : Place). row_of p.path (rows_from p.tablet found)) places
all_rows Scan places found = flat_map (λ (f : TabletRows). f.rows) found

abbrev pub read_done : Asked → Progress → Program ReadEnd
read_done a s = read_ended (what.Values (all_rows a.kind a.places s.found)) s

-- the second round: all tablets at the final time, without a window
unfoldable pub round_two : Asked → Progress → List ℕ → Program ReadEnd
round_two a s [] = read_done a s
round_two a s (k ∷ ks) = visit a s false k (λ seen answer. elim answer [
  | reply.Collected rows ↦ round_two a (with_tablet_rows k rows seen) ks
  | reply.Refused why ↦ read_refused (refusal_told (Tablet k) why) seen
  | _ ↦ read_refused told_refusal.Memory seen
])

-- what was met raises the time, and is one restart; or it ends a read that must not restart
abbrev pub restarted : ℕ → Progress → Progress
restarted at s = record s { t = at; restarts = s.restarts + 1 }

abbrev pub round_one_done : Asked → Progress → Program ReadEnd
round_one_done a s =
    if nat_eq s.restarts 0 then read_done a s else round_two a (record s { found = [] }) (tablets_of a.places)

abbrev pub met_then : Bool → ReadWhat → Progress → Program ReadEnd → Program ReadEnd
met_then true end s next = read_ended end s
met_then false end s next = next

-- the first round: the tablets by rising number
unfoldable pub round_one : Asked → Progress → List ℕ → Program ReadEnd
round_one a s [] = round_one_done a s
round_one a s (k ∷ ks) = visit a s true k (λ seen answer. elim answer [
  | reply.Collected rows ↦ round_one a (with_tablet_rows k rows seen) ks
  | reply.Met at path ↦ met_then a.strict (what.Restart at path) seen (round_one a (restarted at seen) ks)
  | reply.Refused why ↦ read_refused (refusal_told (Tablet k) why) seen
  | _ ↦ read_refused told_refusal.Memory seen
])

-- a read of these places at t with the window up to g, and with these limits fixed before
abbrev pub read_program : Option ℕ → ReadKind → List Place → ℕ → ℕ → Bool → List TabletLimit → Program ReadEnd
read_program own_txn kind places t g strict limits =
    round_one (record { own_txn = own_txn; kind = kind; places = places; g = g; strict = strict })
    (record { t = t; restarts = 0; limits = limits; found = [] }) (tablets_of places)
