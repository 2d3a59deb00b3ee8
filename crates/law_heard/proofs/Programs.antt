-- What each program asks, and what each reply means for its end.
use Rattle.std.proofs.Common.{◌≡◌, ℕ, ◌+◌, Bool, true, false, List, [], ◌∷◌, ◌++◌, Option, Some, nat_eq, refl, if◌then◌else◌}
use Rattle.doc_path.specs.Path.{Parts}
use Rattle.txn_data.specs.declared.actor.Actor.{Actor}
use Rattle.txn_data.specs.declared.actor.Actor.TheVariants.{Tablet, Status}
use Rattle.txn_data.specs.declared.fate.Fate.{Fate}
use Rattle.txn_data.specs.declared.fate.Fate.TheVariants as fate
use Rattle.txn_data.specs.declared.fate_of.FateOf.{FateOf}
use Rattle.txn_data.specs.declared.found.Found.{Found}
use Rattle.txn_data.specs.declared.meta.Meta.{Meta}
use Rattle.txn_data.specs.declared.op.Op.{Op}
use Rattle.txn_data.specs.declared.place.Place.{Place}
use Rattle.txn_data.specs.declared.written.Written.{Written}
use Rattle.txn_data.specs.declared.read_kind.ReadKind.{ReadKind}
use Rattle.txn_data.specs.declared.tablet_limit.TabletLimit.{TabletLimit}
use Rattle.txn_data.specs.declared.request.Request.{Request}
use Rattle.txn_data.specs.declared.request.Request.TheVariants as request
use Rattle.txn_data.specs.declared.refusal.Refusal.{Refusal}
use Rattle.txn_data.specs.declared.reply.Reply.{Reply}
use Rattle.txn_data.specs.declared.reply.Reply.TheVariants as reply
use Rattle.txn_data.specs.declared.read_end.ReadEnd.{ReadEnd}
use Rattle.txn_data.specs.declared.read_what.ReadWhat.{ReadWhat}
use Rattle.txn_data.specs.declared.read_what.ReadWhat.TheVariants as what
use Rattle.txn_data.specs.declared.told.Told.{Told}
use Rattle.txn_data.specs.declared.told.Told.TheVariants as told
use Rattle.txn_data.specs.declared.told_refusal.ToldRefusal.{ToldRefusal}
use Rattle.txn_data.specs.declared.told_refusal.ToldRefusal.TheVariants as told_refusal
use Rattle.txn_data.specs.declared.txn_step.TxnStep.TheVariants as step
use Rattle.txn_types.specs.Program.{Program, Done, Asks, then_do, refusal_told}
use Rattle.txn_types.specs.ReadProgram.{Asked, Progress, read_refused, ask_fates, visit, window_of, fixed, with_limit, with_tablet_rows, read_done, restarted, met_then, round_one, round_two, paths_on, tablets_of, read_program}
use Rattle.txn_types.specs.TxnProgram.{refused, lost, abort_after, write_refused, resolve_all, find_others, txn_program}
use Rattle.txn_types.specs.PassProgram.{Counts, apply_then, clean_then, pass_over, pass_program}
use Rattle.txn_types.specs.Session.{read_told, restart_program}
use Rattle.law_heard.proofs.Heeds.{ComesTo, Asking, Heeds, any, then_heeds}
use Rattle.law_heard.proofs.Means.{shuts, Closes, Means}

-- ## reads

-- what a read asks
abbrev pub OfRead : Actor → Request → Type 0
OfRead to (request.ListRead own_txn paths t g limit) = Unit {0}
OfRead to (request.AskFate x t) = Unit {0}
OfRead to (request.Collect own_txn kind paths t window fates) = Unit {0}
OfRead to asked = ⊥

-- once it is refused it asks no more
abbrev pub Never : Actor → Request → Type 0
Never to asked = ⊥

abbrev pub ReadMeans : Bool → Actor → Request → Reply → ReadEnd → Type 0
ReadMeans strict to asked (reply.Refused r) end = end.what ≡ what.Refused (refusal_told to r)
ReadMeans strict to (request.Collect own_txn kind paths t (Some window) fates) (reply.Met at path) end = strict ≡ true → end.what ≡ what.Restart at path
ReadMeans strict to asked r end = Unit {0}

module _ (strict : Bool) where
  abbrev Reading : Program ReadEnd → Type 0
  Reading p = Heeds OfRead Never (ReadMeans strict) p

  fates_heed : (s : Progress) (fs : List Found) (fates : List FateOf) (next : List FateOf → Program ReadEnd) → ((all : List FateOf) → Heeds OfRead Never (ReadMeans strict) (next all)) → Heeds OfRead Never (ReadMeans strict) (ask_fates s fs fates next)
  unfolding ask_fates
  fates_heed s [] fates next goes = goes fates
  fates_heed s (f ∷ fs) fates next goes = (
    tt,
    elim [
      | reply.FateIs told ↦ (any (λ end. Unit {0}) (λ end. tt) (ask_fates s fs (fates ++ (record { txn = f.txn; fate = told }) ∷ []) next), fates_heed s fs _ next goes)
      | reply.Refused r ↦ (refl, tt)
      | _ ↦ (tt, tt)
    ],
    λ w. tt,
  )

  visit_heeds : (a : Asked) (s : Progress) (windowed : Bool) (k : ℕ) (next : Progress → Reply → Program ReadEnd) →
      ((seen : Progress) (g limit : ℕ) (fates : List FateOf) (r : Reply) →
      ComesTo (ReadMeans strict (Tablet k) (request.Collect a.own_txn a.kind (paths_on k a.places) s.t (window_of windowed g limit) fates) r) (next seen r) × Heeds OfRead Never (ReadMeans strict) (next seen r)) →
      ((seen : Progress) (w : Refusal) → Asking Never (next seen (reply.Refused w))) →
      Heeds OfRead Never (ReadMeans strict) (visit a s windowed k next)
  visit_heeds a s windowed k next goes ends = (
    tt,
    elim [
      | reply.Listed limit others ↦ (
        any (λ end. Unit {0}) (λ end. tt) (ask_fates (record s { limits = with_limit k limit s.limits }) others [] _),
        fates_heed (record s { limits = with_limit k limit s.limits }) others [] _ (λ fates. (tt, λ r. goes (record s { limits = with_limit k limit s.limits }) a.g (fixed k limit s.limits) fates r, λ w. ends (record s { limits = with_limit k limit s.limits }) w)),
      )
      | reply.Refused r ↦ (refl, tt)
      | _ ↦ (tt, tt)
    ],
    λ w. tt,
  )

  abbrev two_next : Asked → ℕ → List ℕ → Progress → Reply → Program ReadEnd
  two_next a k ks = λ seen answer. elim answer [
    | reply.Collected rows ↦ round_two a (with_tablet_rows k rows seen) ks
    | reply.Refused why ↦ read_refused (refusal_told (Tablet k) why) seen
    | _ ↦ read_refused told_refusal.Memory seen
  ]

  two_heeds : (a : Asked) (s : Progress) (ks : List ℕ) → Heeds OfRead Never (ReadMeans strict) (round_two a s ks)
  unfolding round_two
  two_heeds a s [] = tt
  two_heeds a s (k ∷ ks) = visit_heeds a s false k (two_next a k ks)
      (λ seen g limit fates. elim [
        | reply.Collected rows ↦ (any (λ end. Unit {0}) (λ end. tt) (round_two a (with_tablet_rows k rows seen) ks), two_heeds a (with_tablet_rows k rows seen) ks)
        | reply.Refused r ↦ (refl, tt)
        | _ ↦ (tt, tt)
      ])
      (λ seen w. tt)

  done_heeds : (b : Bool) (a : Asked) (s : Progress) → Heeds OfRead Never (ReadMeans strict) (if b then read_done a s else round_two a (record s { found = [] }) (tablets_of a.places))
  done_heeds true a s = tt
  done_heeds false a s = two_heeds a (record s { found = [] }) (tablets_of a.places)

  met_comes : (b : Bool) (at : ℕ) (path : Parts) (s : Progress) (next : Program ReadEnd) → strict ≡ b → ComesTo (λ end. strict ≡ true → end.what ≡ what.Restart at path) (met_then b (what.Restart at path) s next)
  met_comes true at path s next is = λ closes. refl
  met_comes false at path s next is = any (λ end. strict ≡ true → end.what ≡ what.Restart at path) (λ end closes. cc) next

  met_heeds : (b : Bool) (at : ℕ) (path : Parts) (s : Progress) (next : Program ReadEnd) → Heeds OfRead Never (ReadMeans strict) next → Heeds OfRead Never (ReadMeans strict) (met_then b (what.Restart at path) s next)
  met_heeds true at path s next goes = tt
  met_heeds false at path s next goes = goes

  abbrev one_next : Asked → ℕ → List ℕ → Progress → Reply → Program ReadEnd
  one_next a k ks = λ seen answer. elim answer [
    | reply.Collected rows ↦ round_one a (with_tablet_rows k rows seen) ks
    | reply.Met at path ↦ met_then a.strict (what.Restart at path) seen (round_one a (restarted at seen) ks)
    | reply.Refused why ↦ read_refused (refusal_told (Tablet k) why) seen
    | _ ↦ read_refused told_refusal.Memory seen
  ]

  one_heeds : (a : Asked) (s : Progress) (ks : List ℕ) → strict ≡ a.strict → Heeds OfRead Never (ReadMeans strict) (round_one a s ks)
  unfolding round_one
  one_heeds a s [] is = done_heeds (nat_eq s.restarts 0) a s
  one_heeds a s (k ∷ ks) is = visit_heeds a s true k (one_next a k ks)
      (λ seen g limit fates. elim [
        | reply.Collected rows ↦ (any (λ end. Unit {0}) (λ end. tt) (round_one a (with_tablet_rows k rows seen) ks), one_heeds a (with_tablet_rows k rows seen) ks is)
        | reply.Met at path ↦ (met_comes a.strict at path seen (round_one a (restarted at seen) ks) is, met_heeds a.strict at path seen (round_one a (restarted at seen) ks) (one_heeds a (restarted at seen) ks is))
        | reply.Refused r ↦ (refl, tt)
        | _ ↦ (tt, tt)
      ])
      (λ seen w. tt)

  pub read_heeds : (own_txn : Option ℕ) (kind : ReadKind) (places : List Place) (t g : ℕ) (limits : List TabletLimit) → Heeds OfRead Never (ReadMeans strict) (read_program own_txn kind places t g strict limits)
  read_heeds own_txn kind places t g limits = one_heeds (record { own_txn = own_txn; kind = kind; places = places; g = g; strict = strict }) _ (tablets_of places) refl

module _ (P : Actor → Request → Type 0) (closing : Bool) (Stops : Type 0) where
  abbrev pub Line : Program Told → Type 0
  Line p = Heeds P (Closes closing) (Means closing Stops) p

  -- what a session tells of a read
  told_values : (kind : ReadKind) (ws : List Written) (places : List Place) (end : ReadEnd) (w : ReadWhat) → end.what ≡ w → read_told kind ws places end ≡ read_told kind ws places (record end { what = w })
  told_values kind ws places end w is = rw is refl

  told_refused : (kind : ReadKind) (ws : List Written) (places : List Place) (end : ReadEnd) (w : ToldRefusal) → end.what ≡ what.Refused w → read_told kind ws places end ≡ told.Refused w
  told_refused kind ws places end w is = rw is refl

  told_restart : (kind : ReadKind) (ws : List Written) (places : List Place) (end : ReadEnd) (at : ℕ) (path : Parts) → end.what ≡ what.Restart at path → read_told kind ws places end ≡ told.Refused (told_refusal.Restart at path)
  told_restart kind ws places end at path is = rw is refl

  read_means : (strict : Bool) (kind : ReadKind) (ws : List Written) (places : List Place) → (Stops → strict ≡ true) → (to : Actor) (asked : Request) (r : Reply) (end : ReadEnd) → OfRead to asked → ReadMeans strict to asked r end →
      Means closing Stops to asked r (read_told kind ws places end)
  read_means strict kind ws places stops to (request.ListRead own_txn paths t g limit) (reply.Refused r) end of is = told_refused kind ws places end (refusal_told to r) is
  read_means strict kind ws places stops to (request.ListRead own_txn paths t g limit) r end of is = tt
  read_means strict kind ws places stops to (request.AskFate x t) (reply.Refused r) end of is = told_refused kind ws places end (refusal_told to r) is
  read_means strict kind ws places stops to (request.AskFate x t) r end of is = tt
  read_means strict kind ws places stops to (request.Collect own_txn k paths t window fates) (reply.Refused r) end of is = told_refused kind ws places end (refusal_told to r) is
  read_means strict kind ws places stops to (request.Collect own_txn k paths t (Some window) fates) (reply.Met at path) end of is = λ stop. told_restart kind ws places end at path (is (stops stop))
  read_means strict kind ws places stops to (request.Collect own_txn k paths t window fates) r end of is = tt
  read_means strict kind ws places stops to asked r end of is = absurd of

  pub told_read : (own_txn : Option ℕ) (kind : ReadKind) (places : List Place) (t g : ℕ) (strict : Bool) (ws : List Written) (limits : List TabletLimit) → (Stops → strict ≡ true) → ((to : Actor) (asked : Request) → OfRead to asked → P to asked) →
      Heeds P (Closes closing) (Means closing Stops) (then_do (read_program own_txn kind places t g strict limits) (λ end. Done (read_told kind ws places end)))
  told_read own_txn kind places t g strict ws limits stops kinds =
      then_heeds OfRead P Never (Closes closing) (ReadMeans strict) (Means closing Stops) (read_told kind ws places) kinds (λ to asked none. absurd none) (read_means strict kind ws places stops) (read_program own_txn kind places t g strict limits) (read_heeds strict own_txn kind places t g limits)

  -- ## writes

  refused_comes : (w : ToldRefusal) → ComesTo (λ t. t ≡ told.Refused w) (refused w)
  refused_comes w = refl

  abort_comes : (meta : Meta) (w : ToldRefusal) → ComesTo (λ t. t ≡ told.Refused w) (write_refused meta w)
  abort_comes meta (told_refusal.Conflict other) = λ r. refl
  abort_comes meta (told_refusal.Overlap at) = λ r. refl
  abort_comes meta (told_refusal.LogFault actor) = λ r. refl
  abort_comes meta (told_refusal.Aborted by) = refl
  abort_comes meta (told_refusal.Restart at path) = refl
  abort_comes meta (told_refusal.LeaseHeld a until) = refl
  abort_comes meta (told_refusal.ClockFull a at) = refl
  abort_comes meta (told_refusal.ClockRange a reading) = refl
  abort_comes meta (told_refusal.Down a since) = refl
  abort_comes meta told_refusal.NoTxn = refl
  abort_comes meta told_refusal.TxnOpen = refl
  abort_comes meta told_refusal.InDoubt = refl
  abort_comes meta told_refusal.Memory = refl

  closing_heeds : (meta : Meta) (w : ToldRefusal) → shuts w ≡ true → closing ≡ true → P (Status meta.status) (request.Abort meta.txn) → Heeds P (Closes closing) (Means closing Stops) (abort_after meta w)
  closing_heeds meta w shut closes asks = (asks, elim [ reply.Refused r ↦ (rw closes (w, refl, shut), tt) | _ ↦ (rw closes (w, refl, shut), tt) ], λ v. tt)

  abort_heeds : (meta : Meta) (w : ToldRefusal) → closing ≡ true → P (Status meta.status) (request.Abort meta.txn) → Heeds P (Closes closing) (Means closing Stops) (write_refused meta w)
  abort_heeds meta (told_refusal.Conflict other) closes asks = closing_heeds meta (told_refusal.Conflict other) refl closes asks
  abort_heeds meta (told_refusal.Overlap at) closes asks = closing_heeds meta (told_refusal.Overlap at) refl closes asks
  abort_heeds meta (told_refusal.LogFault actor) closes asks = closing_heeds meta (told_refusal.LogFault actor) refl closes asks
  abort_heeds meta (told_refusal.Aborted by) closes asks = tt
  abort_heeds meta (told_refusal.Restart at path) closes asks = tt
  abort_heeds meta (told_refusal.LeaseHeld a until) closes asks = tt
  abort_heeds meta (told_refusal.ClockFull a at) closes asks = tt
  abort_heeds meta (told_refusal.ClockRange a reading) closes asks = tt
  abort_heeds meta (told_refusal.Down a since) closes asks = tt
  abort_heeds meta told_refusal.NoTxn closes asks = tt
  abort_heeds meta told_refusal.TxnOpen closes asks = tt
  abort_heeds meta told_refusal.InDoubt closes asks = tt
  abort_heeds meta told_refusal.Memory closes asks = tt

  abort_asks : (meta : Meta) (w : ToldRefusal) → closing ≡ true → Asking (Closes closing) (write_refused meta w)
  abort_asks meta (told_refusal.Conflict other) closes = (closes, λ r. tt)
  abort_asks meta (told_refusal.Overlap at) closes = (closes, λ r. tt)
  abort_asks meta (told_refusal.LogFault actor) closes = (closes, λ r. tt)
  abort_asks meta w closes = tt

  -- what ends a write, for a refusal
  abbrev Stopping : (ToldRefusal → Program Told) → Type 0
  Stopping stop = (w : ToldRefusal) → ComesTo (λ t. t ≡ told.Refused w) (stop w) × Heeds P (Closes closing) (Means closing Stops) (stop w) × Asking (Closes closing) (stop w)

  -- by a refusal that was heard
  abbrev Halted : Program Told → ToldRefusal → Type 0
  Halted p w = ComesTo (λ t. t ≡ told.Refused w) p × Heeds P (Closes closing) (Means closing Stops) p

  halted : (stop : ToldRefusal → Program Told) → Stopping stop → (w : ToldRefusal) → Halted (stop w) w
  halted stop stops w = ((stops w).0, (stops w).1)

  resolve_heeds : (meta : Meta) (fs : List Found) (fates : List FateOf) (stop : ToldRefusal → Program Told) (next : List FateOf → Program Told) → ((j x : ℕ) → P (Status j) (request.Resolve x meta.txn meta.priority)) → Stopping stop →
      ((given : List FateOf) → Heeds P (Closes closing) (Means closing Stops) (next given)) → Heeds P (Closes closing) (Means closing Stops) (resolve_all meta fs fates stop next)
  unfolding resolve_all
  resolve_heeds meta [] fates stop next asks stops goes = goes fates
  resolve_heeds meta (f ∷ fs) fates stop next asks stops goes =
      let rest : Fate → Program Told = λ given. resolve_all meta fs (fates ++ (record { txn = f.txn; fate = given }) ∷ []) stop next in
      let more : (given : Fate) → ComesTo (λ t. Unit {0}) (rest given) × Heeds P (Closes closing) (Means closing Stops) (rest given) = λ given. (any (λ t. Unit {0}) (λ t. tt) (rest given), resolve_heeds meta fs (fates ++ (record { txn = f.txn; fate = given }) ∷ []) stop next asks stops goes) in (
        asks f.status f.txn,
        elim [
          | reply.FateIs fate.Pending ↦ halted stop stops (told_refusal.Conflict f.txn)
          | reply.FateIs (fate.Committed at) ↦ more (fate.Committed at)
          | reply.FateIs fate.Aborted ↦ more fate.Aborted
          | reply.FateIs fate.Absent ↦ more fate.Absent
          | reply.Refused r ↦ halted stop stops (refusal_told (Status f.status) r)
          | _ ↦ (tt, tt)
        ],
        λ w. (stops (refusal_told (Status f.status) w)).2,
      )

  others_heed : (meta : Meta) (place : Place) (stop : ToldRefusal → Program Told) (next : List FateOf → Program Told) → P (Tablet place.tablet) (request.ListWrite meta.txn place.path) → ((j x : ℕ) → P (Status j) (request.Resolve x meta.txn meta.priority)) → Stopping stop →
      ((given : List FateOf) → Heeds P (Closes closing) (Means closing Stops) (next given)) → Heeds P (Closes closing) (Means closing Stops) (find_others meta place stop next)
  others_heed meta place stop next lists asks stops goes = (
    lists,
    elim [
      | reply.Others found ↦ (any (λ t. Unit {0}) (λ t. tt) (resolve_all meta found [] stop next), resolve_heeds meta found [] stop next asks stops goes)
      | reply.Refused r ↦ halted stop stops (refusal_told (Tablet place.tablet) r)
      | _ ↦ (tt, tt)
    ],
    λ w. (stops (refusal_told (Tablet place.tablet) w)).2,
  )

  pub begin_heeds : (meta : Meta) (r : ℕ) → P (Status meta.status) (request.Begin meta.txn meta.isolation meta.priority) → Heeds P (Closes closing) (Means closing Stops) (txn_program (step.Begin meta r))
  begin_heeds meta r asks = (asks, elim [ reply.Begun ↦ (λ w is. cc, tt) | reply.Refused why ↦ (refl, tt) | _ ↦ (tt, tt) ], λ w. tt)

  pub write_heeds : (meta : Meta) (number : ℕ) (place : Place) (op : Op) (read seen : ℕ) → closing ≡ true → P (Tablet place.tablet) (request.ListWrite meta.txn place.path) → ((j x : ℕ) → P (Status j) (request.Resolve x meta.txn meta.priority)) →
      ((fates : List FateOf) → P (Tablet place.tablet) (request.Write meta number place.path op read seen fates)) → P (Status meta.status) (request.Abort meta.txn) → Heeds P (Closes closing) (Means closing Stops) (txn_program (step.Write meta number place op read seen))
  write_heeds meta number place op read seen closes lists asks writes aborts =
      let stops : Stopping (write_refused meta) = λ w. (abort_comes meta w, abort_heeds meta w closes aborts, abort_asks meta w closes) in
      others_heed meta place (write_refused meta) _ lists asks stops (λ fates. (
        writes fates,
        elim [
          | reply.Written at ↦ (λ w is. cc, tt)
          | reply.Refused r ↦ halted (write_refused meta) stops (refusal_told (Tablet place.tablet) r)
          | _ ↦ (tt, tt)
        ],
        λ w. (stops (refusal_told (Tablet place.tablet) w)).2,
      ))

  pub single_heeds : (meta : Meta) (place : Place) (op : Op) (seen : ℕ) → P (Tablet place.tablet) (request.ListWrite meta.txn place.path) → ((j x : ℕ) → P (Status j) (request.Resolve x meta.txn meta.priority)) →
      ((fates : List FateOf) → P (Tablet place.tablet) (request.Single meta.txn place.path op seen fates)) → Heeds P (Closes closing) (Means closing Stops) (txn_program (step.Single meta place op seen))
  single_heeds meta place op seen lists asks writes = others_heed meta place refused _ lists asks (λ w. (refl, tt, tt)) (λ fates. (
    writes fates,
    elim [ reply.SingleDone at ↦ (λ w is. cc, tt) | reply.Refused r ↦ (refl, tt) | _ ↦ (refl, tt) ],
    λ w. tt,
  ))

  pub commit_heeds : (meta : Meta) (floor : ℕ) (tablets : List ℕ) → P (Status meta.status) (request.Commit meta.txn floor tablets) → Heeds P (Closes closing) (Means closing Stops) (txn_program (step.Commit meta floor tablets))
  commit_heeds meta floor tablets asks = (
    asks,
    elim [
      | reply.Committed at ↦ (λ w is. cc, tt)
      | reply.AbortedBy by ↦ (refl, tt)
      | reply.Gone ↦ (tt, tt)
      | reply.Refused r ↦ (refl, tt)
      | _ ↦ (tt, tt)
    ],
    λ w. tt,
  )

  pub end_heeds : (meta : Meta) → closing ≡ false → P (Status meta.status) (request.Abort meta.txn) → Heeds P (Closes closing) (Means closing Stops) (txn_program (step.Abort meta))
  end_heeds meta open_end asks = (
    asks,
    elim [
      | reply.Ended ↦ (rw open_end (λ w is. cc), tt)
      | reply.Committed at ↦ (rw open_end (λ w is. cc), tt)
      | reply.Refused r ↦ (rw open_end refl, tt)
      | _ ↦ (rw open_end tt, tt)
    ],
    λ w. tt,
  )

  pub restart_heeds : (a : Actor) → P a request.Restart → Heeds P (Closes closing) (Means closing Stops) (restart_program a)
  restart_heeds a asks = (asks, elim [ reply.Restarted kept ↦ (λ w is. cc, tt) | reply.Refused r ↦ (refl, tt) | _ ↦ (tt, tt) ], λ w. tt)

  -- ## passes

  -- what a pass asks
  pub record OfPass (k : ℕ) : Type 0 where
    pub lists : P (Tablet k) request.ListIntents
    pub asks : (j x : ℕ) → P (Status j) (request.AskFate x 0)
    pub applies : (x at : ℕ) → P (Tablet k) (request.Apply x at)
    pub cleans : (x : ℕ) → P (Tablet k) (request.Clean x)
    pub notes : (j x : ℕ) → P (Status j) (request.Applied x k)

  abbrev noted_then : ℕ → Found → Program Told → Program Told
  noted_then k f next = Asks (Status f.status) (request.Applied f.txn k) (λ answer. elim answer [
    | reply.Noted ↦ next
    | reply.Refused why ↦ refused (refusal_told (Status f.status) why)
    | _ ↦ lost
  ])

  apply_heeds : (k : ℕ) → OfPass k → (f : Found) (c : ℕ) (next : Program Told) → Heeds P (Closes closing) (Means closing Stops) next → Heeds P (Closes closing) (Means closing Stops) (apply_then k f c next)
  apply_heeds k of f c next goes = (
    of.applies f.txn c,
    elim [
      | reply.AppliedHere ↦ (
        any (λ t. Unit {0}) (λ t. tt) (noted_then k f next),
        (
          of.notes f.status f.txn,
          elim [
            | reply.Noted ↦ (any (λ t. Unit {0}) (λ t. tt) next, goes)
            | reply.Refused r ↦ (refl, tt)
            | _ ↦ (tt, tt)
          ],
          λ w. tt,
        ),
      )
      | reply.Refused r ↦ (refl, tt)
      | _ ↦ (tt, tt)
    ],
    λ w. tt,
  )

  clean_heeds : (k : ℕ) → OfPass k → (f : Found) (next : Program Told) → Heeds P (Closes closing) (Means closing Stops) next → Heeds P (Closes closing) (Means closing Stops) (clean_then k f next)
  clean_heeds k of f next goes = (
    of.cleans f.txn,
    elim [
      | reply.Cleaned ↦ (any (λ t. Unit {0}) (λ t. tt) next, goes)
      | reply.Refused r ↦ (refl, tt)
      | _ ↦ (tt, tt)
    ],
    λ w. tt,
  )

  over_heeds : (k : ℕ) → OfPass k → (n : Counts) (fs : List Found) → Heeds P (Closes closing) (Means closing Stops) (pass_over k n fs)
  unfolding pass_over
  over_heeds k of n [] = tt
  over_heeds k of n (f ∷ fs) =
      let left : Heeds P (Closes closing) (Means closing Stops) (pass_over k (record n { left = n.left + 1 }) fs) = over_heeds k of (record n { left = n.left + 1 }) fs in
      let applied : Heeds P (Closes closing) (Means closing Stops) (pass_over k (record n { applied = n.applied + 1 }) fs) = over_heeds k of (record n { applied = n.applied + 1 }) fs in
      let cleaned : Heeds P (Closes closing) (Means closing Stops) (pass_over k (record n { cleaned = n.cleaned + 1 }) fs) = over_heeds k of (record n { cleaned = n.cleaned + 1 }) fs in (
        of.asks f.status f.txn,
        elim [
          | reply.FateIs fate.Pending ↦ (any (λ t. Unit {0}) (λ t. tt) (pass_over k (record n { left = n.left + 1 }) fs), left)
          | reply.FateIs (fate.Committed c) ↦ (
            any (λ t. Unit {0}) (λ t. tt) (apply_then k f c (pass_over k (record n { applied = n.applied + 1 }) fs)),
            apply_heeds k of f c (pass_over k (record n { applied = n.applied + 1 }) fs) applied,
          )
          | reply.FateIs fate.Aborted ↦ (
            any (λ t. Unit {0}) (λ t. tt) (clean_then k f (pass_over k (record n { cleaned = n.cleaned + 1 }) fs)),
            clean_heeds k of f (pass_over k (record n { cleaned = n.cleaned + 1 }) fs) cleaned,
          )
          | reply.FateIs fate.Absent ↦ (
            any (λ t. Unit {0}) (λ t. tt) (clean_then k f (pass_over k (record n { cleaned = n.cleaned + 1 }) fs)),
            clean_heeds k of f (pass_over k (record n { cleaned = n.cleaned + 1 }) fs) cleaned,
          )
          | reply.Refused r ↦ (refl, tt)
          | _ ↦ (tt, tt)
        ],
        λ w. tt,
      )

  pub pass_heeds : (k : ℕ) → OfPass k → Heeds P (Closes closing) (Means closing Stops) (pass_program k)
  pass_heeds k of = (
    of.lists,
    elim [
      | reply.Intents found ↦ (any (λ t. Unit {0}) (λ t. tt) (pass_over k (record { applied = 0; cleaned = 0; left = 0 }) found), over_heeds k of (record { applied = 0; cleaned = 0; left = 0 }) found)
      | reply.Refused r ↦ (refl, tt)
      | _ ↦ (tt, tt)
    ],
    λ w. tt,
  )
