-- A refusal has the cause that the reason for it names.
use Rattle.std.proofs.Common.{◌≡◌, ℕ, Bool, true, false, not, List, [], ◌∷◌, Option, Some, map, filter, nat_eq, refl, sym, ◌∙◌, ap, subst, inl, inr}
use Rattle.doc_path.specs.Path.{Parts}
use Rattle.txn_data.specs.declared.actor.Actor.{Actor}
use Rattle.txn_data.specs.declared.actor.Actor.TheVariants.{Tablet, Status}
use Rattle.txn_data.specs.declared.command.Command.{Command}
use Rattle.txn_data.specs.declared.config.Config.{Config}
use Rattle.txn_data.specs.declared.fate.Fate.{Fate}
use Rattle.txn_data.specs.declared.fate.Fate.TheVariants as fate
use Rattle.txn_data.specs.declared.fate_of.FateOf.{FateOf}
use Rattle.txn_data.specs.declared.found.Found.{Found}
use Rattle.txn_data.specs.declared.request.Request.{Request}
use Rattle.txn_data.specs.declared.request.Request.TheVariants as request
use Rattle.txn_data.specs.declared.reply.Reply.{Reply}
use Rattle.txn_data.specs.declared.reply.Reply.TheVariants as reply
use Rattle.txn_data.specs.declared.refusal.Refusal.{Refusal}
use Rattle.txn_data.specs.declared.refusal.Refusal.TheVariants as refusal
use Rattle.txn_data.specs.declared.told_refusal.ToldRefusal.{ToldRefusal}
use Rattle.txn_data.specs.declared.told_refusal.ToldRefusal.TheVariants as why
use Rattle.txn_data.specs.declared.event.Event.TheVariants.{Serve}
use Rattle.txn_types.specs.Lists.{has_number, rising}
use Rattle.txn_types.specs.History.{History, own}
use Rattle.txn_types.specs.Program.{refusal_told}
use Rattle.txn_types.specs.Tablet.{txn_of, provisional, others_on, conflict, first_of, is_open, first_fate}
use Rattle.txn_types.specs.Run.{Run, mover_at}
use Rattle.txn_types.specs.Cause.{ToldAt, ServedAt, CauseOf, newcomers, found_ids, is_strict}
use Rattle.law_machines.proofs.Basics.{eq_cases}
use Rattle.law_causes.proofs.Goes.{IsPlain, Settle, Listed, Because, ByMachine, ByWrite, ByPending, ByAborted, ByMet, OutOfMemory}
use Rattle.txn_promises.specs.Refuses.{MeetsConflict, MeetsOverlap}
use Rattle.law_refusals.specs.Refusals.{Explains}
use Rattle.law_refusals.proofs.Tables.{served_says, reading_of, pending_at, aborted_at}
use Rattle.law_refusals.proofs.Overlaps.{overlap_commit}
use Rattle.law_refusals.proofs.Aborts.{aborted_resolved}
use Rattle.law_causes.proofs.Lines.{MayNotRestart}
use Rattle.law_causes.proofs.Heard.{Heard}
use Rattle.law_courses.specs.Course.{entry_of}

-- ## who came between

settled_open : (f : Fate) → (f ≡ fate.Pending → ⊥) → is_open (Some f) ≡ false
settled_open fate.Pending no_more = absurd (no_more refl)
settled_open (fate.Committed at) no_more = refl
settled_open fate.Aborted no_more = refl
settled_open fate.Absent no_more = refl

-- one that has no fate was not found
not_found : (fates : List FateOf) (found : List Found) (y : ℕ) → Settle fates found → is_open (first_fate fates y) ≡ not (has_number y (found_ids found))
unfolding Settle first_fate
not_found [] [] y settle = refl
not_found (f ∷ fates) (g ∷ found) y settle = elim (eq_cases f.txn y) [
  | inl same ↦
      let there : nat_eq y g.txn ≡ true = subst (λ (n : ℕ). nat_eq n g.txn ≡ true) same.1 (subst (λ (n : ℕ). nat_eq f.txn n ≡ true) settle.0 (eq_same f.txn)) in
      rw same.0 (rw there (settled_open f.fate settle.1))
  | inr other ↦
      let there : nat_eq y g.txn ≡ false = eq_other y g.txn (λ e. other.1 (settle.0 ∙ sym e)) in
      rw other.0 (rw there (not_found fates found y settle.2))
]
  where
    eq_same : (n : ℕ) → nat_eq n n ≡ true
    eq_same n = elim (eq_cases n n) [ inl same ↦ same.0 | inr other ↦ absurd (other.1 refl) ]

    eq_other : (a b : ℕ) → (a ≡ b → ⊥) → nat_eq a b ≡ false
    eq_other a b differ = elim (eq_cases a b) [ inl same ↦ absurd (differ same.1) | inr other ↦ other.0 ]
not_found [] (g ∷ found) y settle = absurd settle
not_found (f ∷ fates) [] y settle = absurd settle

filter_choice : (p q : ℕ → Bool) (x : ℕ) (xs : List ℕ) (b : Bool) → p x ≡ q x → q x ≡ b → filter p xs ≡ filter q xs → filter p (x ∷ xs) ≡ filter q (x ∷ xs)
filter_choice p q x xs true one two rest = rw two (rw (one ∙ two) (ap (λ (l : List ℕ). x ∷ l) rest))
filter_choice p q x xs false one two rest = rw two (rw (one ∙ two) rest)

same_filter : (p q : ℕ → Bool) (xs : List ℕ) → ((y : ℕ) → p y ≡ q y) → filter p xs ≡ filter q xs
same_filter p q [] same = refl
same_filter p q (x ∷ xs) same = filter_choice p q x xs (q x) (same x) refl (same_filter p q xs same)

came : (x : ℕ) (path : Parts) (fates : List FateOf) (found : List Found) (o : History) (other : ℕ) → Settle fates found → conflict x path fates (provisional o) ≡ Some other → first_of (newcomers x path found o) ≡ Some other
came x path fates found o other settle is =
    ap first_of (sym (same_filter (λ y. is_open (first_fate fates y)) (λ y. not (has_number y (found_ids found))) (rising (map txn_of (others_on x path (provisional o)))) (λ y. not_found fates found y settle))) ∙ is

module _ (config : Config) (t : ToldAt) (run : Run config t.before) where
  abbrev H : Actor → Request → Reply → Type 0
  H = Heard config t.who t.before

  explained : (a : Actor) (asked : Request) (r : Refusal) (h : Heard config t.who t.before a asked (reply.Refused r)) → (r ≡ refusal.Memory → ⊥) → Explains config.lease_us (own a h.before) h.reading asked h.append r
  explained a asked r h real = served_says config.lease_us a (own a h.before) h.reading asked (reply.Refused r) h.time h.append r h.serves refl real

  abbrev served : (a : Actor) (asked : Request) (r : Reply) → Heard config t.who t.before a asked r → ServedAt
  served a asked r h = record { by = a; reading = h.reading; asked = asked; reply = r; append = h.append; before = h.before }

  -- a refusal of a machine that is no conflict and no overlap
  machine_cause : (a : Actor) (asked : Request) (r : Refusal) (h : Heard config t.who t.before a asked (reply.Refused r)) → ((other : ℕ) → r ≡ refusal.Conflict other → CauseOf config t (why.Conflict other)) → ((at : ℕ) → r ≡ refusal.Overlap at → CauseOf config t (why.Overlap at)) →
      CauseOf config t (refusal_told a r)
  machine_cause a asked (refusal.Conflict other) h conflicts overlaps = conflicts other refl
  machine_cause a asked (refusal.Overlap at) h conflicts overlaps = overlaps at refl
  machine_cause a asked (refusal.LeaseHeld until) h conflicts overlaps =
      let e = explained a asked (refusal.LeaseHeld until) h (λ e. cc) in
      record { served = served a asked (reply.Refused (refusal.LeaseHeld until)) h; here = h.here; by = refl; answered = refl; takes = e.0; lease = e.1; none_given = e.2; early = e.3 }
  machine_cause a asked (refusal.ClockFull at) h conflicts overlaps =
      let e = explained a asked (refusal.ClockFull at) h (λ e. cc) in
      record { served = served a asked (reply.Refused (refusal.ClockFull at)) h; here = h.here; by = refl; answered = refl; takes = e.0; floor = e.1.0; asks = e.1.1; greater = e.1.2; ended = e.2; early = e.3 }
  machine_cause a asked (refusal.ClockRange n) h conflicts overlaps =
      let e = explained a asked (refusal.ClockRange n) h (λ e. cc) in
      (e.1, inr (record { served = served a asked (reply.Refused (refusal.ClockRange n)) h; here = h.here; by = refl; answered = refl; takes = e.0; read = reading_of asked (own a h.before) h.reading n h.serves.fits e.0 e.2 }))
  machine_cause a asked refusal.LogFault h conflicts overlaps =
      record { served = served a asked (reply.Refused refusal.LogFault) h; here = h.here; by = refl; faulted = refl; failed = explained a asked refusal.LogFault h (λ e. cc) }
  machine_cause a asked (refusal.Down since) h conflicts overlaps =
      let e = explained a asked (refusal.Down since) h (λ e. cc) in
      record { served = served a asked (reply.Refused (refusal.Down since)) h; here = h.here; by = refl; answered = refl; no_restart = e.0; down = e.1 }
  machine_cause a asked refusal.Memory h conflicts overlaps = tt

  plain_conflict : (asked : Request) (o : History) (other : ℕ) → IsPlain asked → MeetsConflict asked o other → ⊥
  plain_conflict (request.Write meta number path op read seen fates) o other plain is = absurd plain
  plain_conflict (request.Single x path op seen fates) o other plain is = absurd plain
  plain_conflict asked o other plain is = absurd is

  plain_overlap : (asked : Request) (o : History) (at : ℕ) → IsPlain asked → MeetsOverlap asked o at → ⊥
  plain_overlap (request.Write meta number path op read seen fates) o at plain is = absurd plain
  plain_overlap asked o at plain is = absurd is

  plain_cause : (a : Actor) (asked : Request) (r : Refusal) → Heard config t.who t.before a asked (reply.Refused r) → IsPlain asked → CauseOf config t (refusal_told a r)
  plain_cause a asked r h plain = machine_cause a asked r h
      (λ other is. absurd (plain_conflict asked (own a h.before) other plain (subst (Explains config.lease_us (own a h.before) h.reading asked h.append) is (explained a asked r h (λ e. let wrong = sym is ∙ e in cc)))))
      (λ at is. absurd (plain_overlap asked (own a h.before) at plain (subst (Explains config.lease_us (own a h.before) h.reading asked h.append) is (explained a asked r h (λ e. let wrong = sym is ∙ e in cc)))))

  -- ## writes

  conflict_cause : (k : ℕ) (asked : Request) (other : ℕ) → Heard config t.who t.before (Tablet k) asked (reply.Refused (refusal.Conflict other)) → Listed H k asked → CauseOf config t (why.Conflict other)
  conflict_cause k asked other h listed = inr (record {
    served = served (Tablet k) asked (reply.Refused (refusal.Conflict other)) h;
    here = h.here;
    answered = refl;
    listing = served (Tablet k) (request.ListWrite listed.txn listed.path) (reply.Others listed.found) listed.listing;
    listed_here = listed.listing.here;
    txn = listed.txn;
    path = listed.path;
    found = listed.found;
    writes = listed.writes;
    same_tablet = refl;
    listed = refl;
    told = refl;
    least = came listed.txn listed.path listed.fates listed.found (own (Tablet k) h.before) other listed.settle (conflict_of asked (own (Tablet k) h.before) other listed (explained (Tablet k) asked (refusal.Conflict other) h (λ e. cc)));
  })
    where
      conflict_of : (q : Request) (o : History) (y : ℕ) (l : Listed H k q) → MeetsConflict q o y → conflict l.txn l.path l.fates (provisional o) ≡ Some y
      conflict_of (request.Write meta number path op read seen fates) o y l is =
          subst (λ (fs : List FateOf). conflict l.txn l.path fs (provisional o) ≡ Some y) l.carries
          (subst (λ (p : Parts). conflict l.txn p fates (provisional o) ≡ Some y) l.writes.1 (subst (λ (x : ℕ). conflict x path fates (provisional o) ≡ Some y) l.writes.0 is))
      conflict_of (request.Single x path op seen fates) o y l is =
          subst (λ (fs : List FateOf). conflict l.txn l.path fs (provisional o) ≡ Some y) l.carries
          (subst (λ (p : Parts). conflict l.txn p fates (provisional o) ≡ Some y) l.writes.1 (subst (λ (z : ℕ). conflict z path fates (provisional o) ≡ Some y) l.writes.0 is))
      conflict_of q o y l is = absurd is

  overlap_cause : (k : ℕ) (asked : Request) (at : ℕ) → Heard config t.who t.before (Tablet k) asked (reply.Refused (refusal.Overlap at)) → CauseOf config t (why.Overlap at)
  overlap_cause k (request.Write meta number path op read seen fates) at h =
      let e = explained (Tablet k) (request.Write meta number path op read seen fates) (refusal.Overlap at) h (λ e. cc) in
      let c = overlap_commit config t.before h.before k t.who meta number path op read seen fates h.reading (reply.Refused (refusal.Overlap at)) h.time h.append at run h.stands e.1 in
      record { served = served (Tablet k) (request.Write meta number path op read seen fates) (reply.Refused (refusal.Overlap at)) h; here = h.here; answered = refl; commit = c.0; overlaps = (e.0, e.1, c.3); is_committed = c.1; commit_time = c.2 }
  overlap_cause k asked at h = absurd (explained (Tablet k) asked (refusal.Overlap at) h (λ e. cc))

  write_cause : (k : ℕ) (asked : Request) (r : Refusal) → Heard config t.who t.before (Tablet k) asked (reply.Refused r) → Listed H k asked → CauseOf config t (refusal_told (Tablet k) r)
  write_cause k asked r h listed = machine_cause (Tablet k) asked r h
      (λ other is. conflict_cause k asked other (subst (λ (q : Refusal). Heard config t.who t.before (Tablet k) asked (reply.Refused q)) is h) listed)
      (λ at is. overlap_cause k asked at (subst (λ (q : Refusal). Heard config t.who t.before (Tablet k) asked (reply.Refused q)) is h))

  -- ## the rest

  pending_cause : (j other by priority : ℕ) → Heard config t.who t.before (Status j) (request.Resolve other by priority) (reply.FateIs fate.Pending) → CauseOf config t (why.Conflict other)
  pending_cause j other by priority h =
      let p = pending_at config.lease_us j (own (Status j) h.before) h.reading other by priority (reply.FateIs fate.Pending) h.time h.append h.serves refl in
      inl (record { served = served (Status j) (request.Resolve other by priority) (reply.FateIs fate.Pending) h; here = h.here; by = by; priority = priority; own_priority = p.0; asked = refl; answered = refl; pending = p.1; not_lower = p.2 })

  aborted_cause : (j x floor by : ℕ) (tablets : List ℕ) → Heard config t.who t.before (Status j) (request.Commit x floor tablets) (reply.AbortedBy by) → CauseOf config t (why.Aborted by)
  aborted_cause j x floor by tablets h =
      let gone = aborted_at config.lease_us j (own (Status j) h.before) h.reading x floor by tablets (reply.AbortedBy by) h.time h.append h.serves refl in
      record {
        served = served (Status j) (request.Commit x floor tablets) (reply.AbortedBy by) h;
        here = h.here;
        answered = refl;
        txn = x;
        floor = floor;
        tablets = tablets;
        asked = refl;
        aborted = gone;
        resolved = aborted_resolved config t.before h.before j x by (entry_of (Status j) h.reading (Serve t.who (request.Commit x floor tablets) (reply.AbortedBy by) h.time h.append)) run h.stands gone;
      }

  pub because_cause : (line : Command) (w : ToldRefusal) → (mover_at config t.who t.before).line ≡ Some line → Because H (MayNotRestart (mover_at config t.who t.before).keeps line) w → CauseOf config t w
  because_cause line w is because = elim because [
    | ByMachine a asked r h plain machine same ↦ subst (CauseOf config t) same (plain_cause a asked r h plain)
    | ByWrite k asked r h listed same ↦ subst (CauseOf config t) same (write_cause k asked r h listed)
    | ByPending j other by priority h same ↦ subst (CauseOf config t) same (pending_cause j other by priority h)
    | ByAborted j x floor by tablets h same ↦ subst (CauseOf config t) same (aborted_cause j x floor by tablets h)
    | ByMet k at path asked h strict same ↦ subst (CauseOf config t) same (record {
      served = served (Tablet k) asked (reply.Met at path) h;
      here = h.here;
      met = refl;
      stops = elim strict [ inl said ↦ inl (subst (λ (o : Option Command). is_strict o ≡ true) (sym is) said) | inr wrote ↦ inr wrote ];
    })
    | OutOfMemory same ↦ subst (CauseOf config t) same tt
  ]
