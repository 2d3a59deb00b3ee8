-- Each program tells a refusal only for a reason.
use Rattle.std.proofs.Common.{◌≡◌, ℕ, ◌+◌, Bool, true, false, List, [], ◌∷◌, ◌++◌, Option, nat_eq, refl, sym, ◌∙◌, ap, subst, if◌then◌else◌}
use Rattle.std.proofs.lemmas.List.{append-nil}
use Rattle.doc_path.specs.Path.{Parts}
use Rattle.txn_data.specs.declared.actor.Actor.{Actor}
use Rattle.txn_data.specs.declared.actor.Actor.TheVariants.{Tablet, Status}
use Rattle.txn_data.specs.declared.fate.Fate.{Fate}
use Rattle.txn_data.specs.declared.fate.Fate.TheVariants as fate
use Rattle.txn_data.specs.declared.fate_of.FateOf.{FateOf}
use Rattle.txn_data.specs.declared.found.Found.{Found}
use Rattle.txn_data.specs.declared.meta.Meta.{Meta}
use Rattle.txn_data.specs.declared.op.Op.{Op}
use Rattle.txn_data.specs.declared.place.Place.{Place}
use Rattle.txn_data.specs.declared.written.Written.{Written}
use Rattle.txn_data.specs.declared.read_kind.ReadKind.{ReadKind}
use Rattle.txn_data.specs.declared.tablet_limit.TabletLimit.{TabletLimit}
use Rattle.txn_data.specs.declared.request.Request.{Request}
use Rattle.txn_data.specs.declared.request.Request.TheVariants as request
use Rattle.txn_data.specs.declared.reply.Reply.{Reply}
use Rattle.txn_data.specs.declared.reply.Reply.TheVariants as reply
use Rattle.txn_data.specs.declared.refusal.Refusal.{Refusal}
use Rattle.txn_data.specs.declared.refusal.Refusal.TheVariants as refusal
use Rattle.txn_data.specs.declared.read_end.ReadEnd.{ReadEnd}
use Rattle.txn_data.specs.declared.read_what.ReadWhat.{ReadWhat}
use Rattle.txn_data.specs.declared.read_what.ReadWhat.TheVariants as what
use Rattle.txn_data.specs.declared.told.Told.{Told}
use Rattle.txn_data.specs.declared.told_refusal.ToldRefusal.{ToldRefusal}
use Rattle.txn_data.specs.declared.told_refusal.ToldRefusal.TheVariants as told_refusal
use Rattle.txn_data.specs.declared.txn_step.TxnStep.TheVariants as step
use Rattle.txn_types.specs.Program.{Program, refusal_told}
use Rattle.txn_types.specs.ReadProgram.{Asked, Progress, read_refused, ask_fates, visit, window_of, fixed, with_limit, with_tablet_rows, read_done, restarted, met_then, round_one, round_two, paths_on, limit_of, tablets_of, read_program}
use Rattle.txn_types.specs.TxnProgram.{refused, write_refused, resolve_all, find_others, txn_program}
use Rattle.txn_types.specs.PassProgram.{Counts, apply_then, clean_then, pass_over, pass_program}
use Rattle.txn_types.specs.Session.{read_told, restart_program}
use Rattle.law_causes.proofs.Goes.{IsPlain, IsMachineName, Settle, Because, ByMachine, ByWrite, ByPending, ByAborted, ByMet, OutOfMemory, ToldIs, WhatIs, EndIs, Goes}

append_one : (before : List Found) (f : Found) (fs : List Found) → before ++ f ∷ fs ≡ (before ++ f ∷ []) ++ fs
append_one [] f fs = refl
append_one (b ∷ before) f fs = ap (λ (l : List Found). b ∷ l) (append_one before f fs)

module _ (H : Actor → Request → Reply → Type 0) where
  -- ## reads

  lost_end : (strict : Bool) (s : Progress) → Goes H (EndIs H strict) (read_refused told_refusal.Memory s)
  lost_end strict s = OutOfMemory refl

  refused_end : (strict : Bool) (a : Actor) (asked : Request) (r : Refusal) (s : Progress) → H a asked (reply.Refused r) → IsPlain asked → IsMachineName a → Goes H (EndIs H strict) (read_refused (refusal_told a r) s)
  refused_end strict a asked r s h plain machine = ByMachine a asked r h plain machine refl

  fates_go : (strict : Bool) (s : Progress) (fs : List Found) (fates : List FateOf) (next : List FateOf → Program ReadEnd) → ((all : List FateOf) → Goes H (EndIs H strict) (next all)) → Goes H (EndIs H strict) (ask_fates s fs fates next)
  unfolding ask_fates
  fates_go strict s [] fates next goes = goes fates
  fates_go strict s (f ∷ fs) fates next goes = (
    elim [
      | reply.FateIs told ↦ λ h. fates_go strict s fs _ next goes
      | reply.Refused why ↦ λ h. refused_end strict (Status f.status) (request.AskFate f.txn s.t) why s h tt tt
      | _ ↦ λ h. OutOfMemory refl
    ],
    λ k is. cc,
    OutOfMemory refl,
  )

  visit_goes : (strict : Bool) (a : Asked) (s : Progress) (windowed : Bool) (k : ℕ) (next : Progress → Reply → Program ReadEnd) →
      ((seen : Progress) (asked : Request) (r : Reply) → IsPlain asked → H (Tablet k) asked r → Goes H (EndIs H strict) (next seen r)) → ((seen : Progress) → Goes H (EndIs H strict) (next seen (reply.Refused refusal.Memory))) →
      Goes H (EndIs H strict) (visit a s windowed k next)
  visit_goes strict a s windowed k next goes none = (
    elim [
      | reply.Listed limit others ↦ λ h.
          fates_go strict (record s { limits = with_limit k limit s.limits }) others [] _ (λ fates. (
            λ r heard. goes _ (request.Collect a.own_txn a.kind (paths_on k a.places) s.t (window_of windowed a.g (fixed k limit s.limits)) fates) r tt heard,
            λ kept is. cc,
            none _,
          ))
      | reply.Refused why ↦ λ h. refused_end strict (Tablet k) (request.ListRead a.own_txn (paths_on k a.places) s.t a.g (limit_of k s.limits)) why s h tt tt
      | _ ↦ λ h. OutOfMemory refl
    ],
    λ kept is. cc,
    OutOfMemory refl,
  )

  abbrev two_next : Asked → ℕ → List ℕ → Progress → Reply → Program ReadEnd
  two_next a k ks = λ seen answer. elim answer [
    | reply.Collected rows ↦ round_two a (with_tablet_rows k rows seen) ks
    | reply.Refused why ↦ read_refused (refusal_told (Tablet k) why) seen
    | _ ↦ read_refused told_refusal.Memory seen
  ]

  two_goes : (strict : Bool) (a : Asked) (s : Progress) (ks : List ℕ) → Goes H (EndIs H strict) (round_two a s ks)
  unfolding round_two
  two_goes strict a s [] = tt
  two_goes strict a s (k ∷ ks) = visit_goes strict a s false k (two_next a k ks)
      (λ seen asked. elim [
        | reply.Collected rows ↦ λ plain h. two_goes strict a (with_tablet_rows k rows seen) ks
        | reply.Refused why ↦ λ plain h. refused_end strict (Tablet k) asked why seen h plain tt
        | _ ↦ λ plain h. lost_end strict seen
      ])
      (λ seen. lost_end strict seen)

  done_goes : (b strict : Bool) (a : Asked) (s : Progress) → Goes H (EndIs H strict) (if b then read_done a s else round_two a (record s { found = [] }) (tablets_of a.places))
  done_goes true strict a s = tt
  done_goes false strict a s = two_goes strict a (record s { found = [] }) (tablets_of a.places)

  met_goes : (b strict : Bool) (k at : ℕ) (path : Parts) (asked : Request) (s : Progress) (next : Program ReadEnd) → strict ≡ b → H (Tablet k) asked (reply.Met at path) → Goes H (EndIs H strict) next → Goes H (EndIs H strict) (met_then b (what.Restart at path) s next)
  met_goes true strict k at path asked s next is h goes = (k, (asked, h), is)
  met_goes false strict k at path asked s next is h goes = goes

  abbrev one_next : Asked → ℕ → List ℕ → Progress → Reply → Program ReadEnd
  one_next a k ks = λ seen answer. elim answer [
    | reply.Collected rows ↦ round_one a (with_tablet_rows k rows seen) ks
    | reply.Met at path ↦ met_then a.strict (what.Restart at path) seen (round_one a (restarted at seen) ks)
    | reply.Refused why ↦ read_refused (refusal_told (Tablet k) why) seen
    | _ ↦ read_refused told_refusal.Memory seen
  ]

  one_goes : (a : Asked) (s : Progress) (ks : List ℕ) → Goes H (EndIs H a.strict) (round_one a s ks)
  unfolding round_one
  one_goes a s [] = done_goes (nat_eq s.restarts 0) a.strict a s
  one_goes a s (k ∷ ks) = visit_goes a.strict a s true k (one_next a k ks)
      (λ seen asked. elim [
        | reply.Collected rows ↦ λ plain h. one_goes a (with_tablet_rows k rows seen) ks
        | reply.Met at path ↦ λ plain h. met_goes a.strict a.strict k at path asked seen (round_one a (restarted at seen) ks) refl h (one_goes a (restarted at seen) ks)
        | reply.Refused why ↦ λ plain h. refused_end a.strict (Tablet k) asked why seen h plain tt
        | _ ↦ λ plain h. lost_end a.strict seen
      ])
      (λ seen. lost_end a.strict seen)

  pub read_goes : (own_txn : Option ℕ) (kind : ReadKind) (places : List Place) (t g : ℕ) (strict : Bool) (limits : List TabletLimit) → Goes H (EndIs H strict) (read_program own_txn kind places t g strict limits)
  read_goes own_txn kind places t g strict limits = one_goes _ _ (tablets_of places)

  -- what a session tells of a read, where it may not restart for this reason
  stricter : (Strict : Type 0) (strict : Bool) (why : ToldRefusal) → (strict ≡ true → Strict) → Because H (strict ≡ true) why → Because H Strict why
  stricter Strict strict why is because = elim because [
    | ByMachine a asked r h plain machine same ↦ ByMachine a asked r h plain machine same
    | ByWrite k asked r h listed same ↦ ByWrite k asked r h listed same
    | ByPending j other by priority h same ↦ ByPending j other by priority h same
    | ByAborted j x floor by tablets h same ↦ ByAborted j x floor by tablets h same
    | ByMet k at path asked h s same ↦ ByMet k at path asked h (is s) same
    | OutOfMemory same ↦ OutOfMemory same
  ]

  pub told_end : (Strict : Type 0) (strict : Bool) (kind : ReadKind) (ws : List Written) (places : List Place) (end : ReadEnd) (w : ReadWhat) → end.what ≡ w → (strict ≡ true → Strict) → WhatIs H strict w → ToldIs H Strict (read_told kind ws places end)
  told_end Strict strict kind ws places end (what.Values rows) is may goes = rw is tt
  told_end Strict strict kind ws places end (what.Restart at path) is may goes = rw is (ByMet goes.0 at path goes.1.0 goes.1.1 (may goes.2) refl)
  told_end Strict strict kind ws places end (what.Refused why) is may goes = rw is (stricter Strict strict why may goes)

  -- ## writes

  module _ (Strict : Type 0) where
    Tells : Program Told → Type 0
    Tells p = Goes H (ToldIs H Strict) p

    stop_tells : (meta : Meta) (why : ToldRefusal) → Because H Strict why → Goes H (ToldIs H Strict) (write_refused meta why)
    stop_tells meta (told_refusal.Conflict other) because = (λ r h. because, λ k is. because, because)
    stop_tells meta (told_refusal.Overlap at) because = (λ r h. because, λ k is. because, because)
    stop_tells meta (told_refusal.LogFault actor) because = (λ r h. because, λ k is. because, because)
    stop_tells meta (told_refusal.Aborted by) because = because
    stop_tells meta (told_refusal.Restart at path) because = because
    stop_tells meta (told_refusal.LeaseHeld a until) because = because
    stop_tells meta (told_refusal.ClockFull a at) because = because
    stop_tells meta (told_refusal.ClockRange a reading) because = because
    stop_tells meta (told_refusal.Down a since) because = because
    stop_tells meta told_refusal.NoTxn because = because
    stop_tells meta told_refusal.TxnOpen because = because
    stop_tells meta told_refusal.InDoubt because = because
    stop_tells meta told_refusal.Memory because = because

    settle_more : (fates : List FateOf) (found : List Found) (f : FateOf) (g : Found) → Settle fates found → f.txn ≡ g.txn → (f.fate ≡ fate.Pending → ⊥) → Settle (fates ++ f ∷ []) (found ++ g ∷ [])
    unfolding Settle
    settle_more [] [] f g settle same not = (same, not, tt)
    settle_more (e ∷ fates) (d ∷ found) f g settle same not = (settle.0, settle.1, settle_more fates found f g settle.2 same not)
    settle_more [] (d ∷ found) f g settle same not = absurd settle
    settle_more (e ∷ fates) [] f g settle same not = absurd settle

    resolve_tells : (meta : Meta) (all before fs : List Found) (fates : List FateOf) (stop : ToldRefusal → Program Told) (next : List FateOf → Program Told) → all ≡ before ++ fs → Settle fates before →
        ((why : ToldRefusal) → Because H Strict why → Goes H (ToldIs H Strict) (stop why)) → ((given : List FateOf) → Settle given all → Goes H (ToldIs H Strict) (next given)) → Goes H (ToldIs H Strict) (resolve_all meta fs fates stop next)
    unfolding resolve_all
    resolve_tells meta all before [] fates stop next is settle stops goes = goes fates (subst (Settle fates) (sym (is ∙ append-nil before)) settle)
    resolve_tells meta all before (f ∷ fs) fates stop next is settle stops goes =
        let more : (given : Fate) → (given ≡ fate.Pending → ⊥) → Goes H (ToldIs H Strict) (resolve_all meta fs (fates ++ (record { txn = f.txn; fate = given }) ∷ []) stop next) = λ given not.
        resolve_tells meta all (before ++ f ∷ []) fs (fates ++ (record { txn = f.txn; fate = given }) ∷ []) stop next (is ∙ append_one before f fs) (settle_more fates before (record { txn = f.txn; fate = given }) f settle refl not) stops goes in (
          elim [
            | reply.FateIs fate.Pending ↦ λ h. stops (told_refusal.Conflict f.txn) (ByPending f.status f.txn meta.txn meta.priority h refl)
            | reply.FateIs (fate.Committed at) ↦ λ h. more (fate.Committed at) (λ e. cc)
            | reply.FateIs fate.Aborted ↦ λ h. more fate.Aborted (λ e. cc)
            | reply.FateIs fate.Absent ↦ λ h. more fate.Absent (λ e. cc)
            | reply.Refused why ↦ λ h. stops (refusal_told (Status f.status) why) (ByMachine (Status f.status) (request.Resolve f.txn meta.txn meta.priority) why h tt tt refl)
            | _ ↦ λ h. OutOfMemory refl
          ],
          λ k e. cc,
          stops told_refusal.Memory (OutOfMemory refl),
        )

    others_tell : (meta : Meta) (place : Place) (stop : ToldRefusal → Program Told) (next : List FateOf → Program Told) →
        ((why : ToldRefusal) → Because H Strict why → Goes H (ToldIs H Strict) (stop why)) →
        ((found : List Found) (fates : List FateOf) → H (Tablet place.tablet) (request.ListWrite meta.txn place.path) (reply.Others found) → Settle fates found → Goes H (ToldIs H Strict) (next fates)) →
        Goes H (ToldIs H Strict) (find_others meta place stop next)
    unfolding Settle
    others_tell meta place stop next stops goes = (
      elim [
        | reply.Others found ↦ λ h. resolve_tells meta found [] found [] stop next refl tt stops (λ given settle. goes found given h settle)
        | reply.Refused why ↦ λ h. stops (refusal_told (Tablet place.tablet) why) (ByMachine (Tablet place.tablet) (request.ListWrite meta.txn place.path) why h tt tt refl)
        | _ ↦ λ h. OutOfMemory refl
      ],
      λ k e. cc,
      stops told_refusal.Memory (OutOfMemory refl),
    )

    pub begin_tells : (meta : Meta) (r : ℕ) → Goes H (ToldIs H Strict) (txn_program (step.Begin meta r))
    begin_tells meta r = (
      elim [
        | reply.Begun ↦ λ h. tt
        | reply.Refused why ↦ λ h. ByMachine (Status meta.status) (request.Begin meta.txn meta.isolation meta.priority) why h tt tt refl
        | _ ↦ λ h. OutOfMemory refl
      ],
      λ k e. cc,
      OutOfMemory refl,
    )

    pub write_tells : (meta : Meta) (number : ℕ) (place : Place) (op : Op) (read seen : ℕ) → Goes H (ToldIs H Strict) (txn_program (step.Write meta number place op read seen))
    write_tells meta number place op read seen = others_tell meta place (write_refused meta) _ (λ why. stop_tells meta why) (λ found fates listing settle. (
      elim [
        | reply.Written at ↦ λ h. tt
        | reply.Refused why ↦ λ h. stop_tells meta (refusal_told (Tablet place.tablet) why)
            (ByWrite place.tablet (request.Write meta number place.path op read seen fates) why h
            (record { txn = meta.txn; path = place.path; found = found; fates = fates; listing = listing; writes = (refl, refl); carries = refl; settle = settle }) refl)
        | _ ↦ λ h. OutOfMemory refl
      ],
      λ k e. cc,
      OutOfMemory refl,
    ))

    pub single_tells : (meta : Meta) (place : Place) (op : Op) (seen : ℕ) → Goes H (ToldIs H Strict) (txn_program (step.Single meta place op seen))
    single_tells meta place op seen = others_tell meta place refused _ (λ why because. because) (λ found fates listing settle. (
      elim [
        | reply.SingleDone at ↦ λ h. tt
        | reply.Refused why ↦ λ h.
            ByWrite place.tablet (request.Single meta.txn place.path op seen fates) why h
            (record { txn = meta.txn; path = place.path; found = found; fates = fates; listing = listing; writes = (refl, refl); carries = refl; settle = settle }) refl
        | _ ↦ λ h. OutOfMemory refl
      ],
      λ k e. cc,
      OutOfMemory refl,
    ))

    pub commit_tells : (meta : Meta) (floor : ℕ) (tablets : List ℕ) → Goes H (ToldIs H Strict) (txn_program (step.Commit meta floor tablets))
    commit_tells meta floor tablets = (
      elim [
        | reply.Committed at ↦ λ h. tt
        | reply.AbortedBy by ↦ λ h. ByAborted meta.status meta.txn floor by tablets h refl
        | reply.Gone ↦ λ h. tt
        | reply.Refused why ↦ λ h. ByMachine (Status meta.status) (request.Commit meta.txn floor tablets) why h tt tt refl
        | _ ↦ λ h. OutOfMemory refl
      ],
      λ k e. cc,
      OutOfMemory refl,
    )

    pub abort_tells : (meta : Meta) → Goes H (ToldIs H Strict) (txn_program (step.Abort meta))
    abort_tells meta = (
      elim [
        | reply.Ended ↦ λ h. tt
        | reply.Committed at ↦ λ h. tt
        | reply.Refused why ↦ λ h. ByMachine (Status meta.status) (request.Abort meta.txn) why h tt tt refl
        | _ ↦ λ h. OutOfMemory refl
      ],
      λ k e. cc,
      OutOfMemory refl,
    )

    pub restart_tells : (a : Actor) → IsMachineName a → Goes H (ToldIs H Strict) (restart_program a)
    restart_tells a machine = (
      elim [
        | reply.Restarted kept ↦ λ h. tt
        | reply.Refused why ↦ λ h. ByMachine a request.Restart why h tt machine refl
        | _ ↦ λ h. OutOfMemory refl
      ],
      λ k e. tt,
      OutOfMemory refl,
    )

    -- ## passes

    apply_tells : (k : ℕ) (f : Found) (c : ℕ) (next : Program Told) → Goes H (ToldIs H Strict) next → Goes H (ToldIs H Strict) (apply_then k f c next)
    apply_tells k f c next goes = (
      elim [
        | reply.AppliedHere ↦ λ h. (
          elim [
            | reply.Noted ↦ λ heard. goes
            | reply.Refused why ↦ λ heard. ByMachine (Status f.status) (request.Applied f.txn k) why heard tt tt refl
            | _ ↦ λ heard. OutOfMemory refl
          ],
          λ kept e. cc,
          OutOfMemory refl,
        )
        | reply.Refused why ↦ λ h. ByMachine (Tablet k) (request.Apply f.txn c) why h tt tt refl
        | _ ↦ λ h. OutOfMemory refl
      ],
      λ kept e. cc,
      OutOfMemory refl,
    )

    clean_tells : (k : ℕ) (f : Found) (next : Program Told) → Goes H (ToldIs H Strict) next → Goes H (ToldIs H Strict) (clean_then k f next)
    clean_tells k f next goes = (
      elim [
        | reply.Cleaned ↦ λ h. goes
        | reply.Refused why ↦ λ h. ByMachine (Tablet k) (request.Clean f.txn) why h tt tt refl
        | _ ↦ λ h. OutOfMemory refl
      ],
      λ kept e. cc,
      OutOfMemory refl,
    )

    over_tells : (k : ℕ) (n : Counts) (fs : List Found) → Goes H (ToldIs H Strict) (pass_over k n fs)
    unfolding pass_over
    over_tells k n [] = tt
    over_tells k n (f ∷ fs) = (
      elim [
        | reply.FateIs fate.Pending ↦ λ h. over_tells k (record n { left = n.left + 1 }) fs
        | reply.FateIs (fate.Committed c) ↦ λ h. apply_tells k f c (pass_over k (record n { applied = n.applied + 1 }) fs) (over_tells k (record n { applied = n.applied + 1 }) fs)
        | reply.FateIs fate.Aborted ↦ λ h. clean_tells k f (pass_over k (record n { cleaned = n.cleaned + 1 }) fs) (over_tells k (record n { cleaned = n.cleaned + 1 }) fs)
        | reply.FateIs fate.Absent ↦ λ h. clean_tells k f (pass_over k (record n { cleaned = n.cleaned + 1 }) fs) (over_tells k (record n { cleaned = n.cleaned + 1 }) fs)
        | reply.Refused why ↦ λ h. ByMachine (Status f.status) (request.AskFate f.txn 0) why h tt tt refl
        | _ ↦ λ h. OutOfMemory refl
      ],
      λ kept e. cc,
      OutOfMemory refl,
    )

    pub pass_tells : (k : ℕ) → Goes H (ToldIs H Strict) (pass_program k)
    pass_tells k = (
      elim [
        | reply.Intents found ↦ λ h. over_tells k (record { applied = 0; cleaned = 0; left = 0 }) found
        | reply.Refused why ↦ λ h. ByMachine (Tablet k) request.ListIntents why h tt tt refl
        | _ ↦ λ h. OutOfMemory refl
      ],
      λ kept e. cc,
      OutOfMemory refl,
    )
