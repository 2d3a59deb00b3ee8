-- A transaction that is in doubt had a commit or an abort whose append failed.
use Rattle.std.proofs.Common.{◌≡◌, ℕ, Bool, true, false, ◌||◌, List, [], ◌∷◌, Option, Some, None, nat_eq, refl, sym, ◌∙◌, ap, subst, inl, inr, ◌⊎◌}
use Rattle.std.specs.List.{list_any}
use Rattle.txn_data.specs.declared.actor.Actor.{Actor}
use Rattle.txn_data.specs.declared.actor.Actor.TheVariants.{Tablet, Status, Session, Applier}
use Rattle.txn_data.specs.declared.append.Append.{Append}
use Rattle.txn_data.specs.declared.command.Command.{Command}
use Rattle.txn_data.specs.declared.command.Command.TheVariants as command
use Rattle.txn_data.specs.declared.config.Config.{Config}
use Rattle.txn_data.specs.declared.meta.Meta.{Meta}
use Rattle.txn_data.specs.declared.op.Op.{Op}
use Rattle.txn_data.specs.declared.place.Place.{Place}
use Rattle.txn_data.specs.declared.tablet_limit.TabletLimit.{TabletLimit}
use Rattle.txn_data.specs.declared.request.Request.{Request}
use Rattle.txn_data.specs.declared.request.Request.TheVariants as request
use Rattle.txn_data.specs.declared.reply.Reply.{Reply}
use Rattle.txn_data.specs.declared.reply.Reply.TheVariants as reply
use Rattle.txn_data.specs.declared.refusal.Refusal.{Refusal}
use Rattle.txn_data.specs.declared.refusal.Refusal.TheVariants as refusal
use Rattle.txn_data.specs.declared.told.Told.{Told}
use Rattle.txn_data.specs.declared.told.Told.TheVariants as told
use Rattle.txn_data.specs.declared.told_refusal.ToldRefusal.TheVariants as told_refusal
use Rattle.txn_data.specs.declared.txn_step.TxnStep.TheVariants as step
use Rattle.txn_data.specs.declared.event.Event.{Event}
use Rattle.txn_data.specs.declared.event.Event.TheVariants.{Start, Ask, Serve, Hear, Tell, Restarted}
use Rattle.txn_data.specs.declared.entry.Entry.{Entry}
use Rattle.txn_types.specs.History.{History, own}
use Rattle.txn_types.specs.Program.{refusal_told}
use Rattle.txn_types.specs.TxnProgram.{txn_program}
use Rattle.txn_types.specs.Reads.{before_start}
use Rattle.txn_types.specs.Session.{Keeps, Opened, tablets_used, commit_command, abort_command, opens, after_write, after_end, after_read, opened_after}
use Rattle.txn_types.specs.Run.{Mover, Steps, Run, mover_at, mover_after, kept_after, session_of, program_of}
use Rattle.txn_types.specs.Cause.{Fails, end_failed}
use Rattle.law_machines.specs.Own.{StandsOver}
use Rattle.law_machines.proofs.Basics.{same_cases, eq_refl}
use Rattle.law_courses.specs.Course.{entry_of}
use Rattle.law_courses.specs.Laws.{CouldStart, CameAbout}
use Rattle.law_courses.proofs.Parts.{part_refl}
use Rattle.law_courses.proofs.Courses.{told_came_about}
use Rattle.law_causes.proofs.Goes.{Goes, goes_came}
use Rattle.law_refusals.proofs.Tables.{served_says}
use Rattle.law_causes.proofs.Heard.{Heard, all_heard}

-- ## how a command leaves a transaction in doubt

abbrev Ending : Command → Type 0
Ending command.Commit = Unit {0}
Ending command.Abort = Unit {0}
Ending command.End = Unit {0}
Ending line = ⊥

abbrev Faulted : Told → Type 0
Faulted (told.Refused (told_refusal.LogFault a)) = Unit {0}
Faulted t = ⊥

-- it was in doubt before, or its end is told a fault of the log
record Stayed (o : Option Opened) (x : Opened) : Type 0 where
  pub then_open : Opened
  pub is : o ≡ Some then_open
  pub doubt : then_open.in_doubt ≡ true
  pub same : then_open.meta ≡ x.meta

record Came_by (o : Option Opened) (line : Command) (t : Told) (x : Opened) : Type 0 where
  pub then_open : Opened
  pub is : o ≡ Some then_open
  pub ending : Ending line
  pub faulted : Faulted t
  pub same : then_open.meta ≡ x.meta

some_is : (x y : Opened) → Some x ≡ Some y → x ≡ y
some_is x y is = cc

stayed : (y z x : Opened) → z.meta ≡ y.meta → z.in_doubt ≡ y.in_doubt → Some z ≡ Some x → x.in_doubt ≡ true → Stayed (Some y) x
stayed y z x meta doubt is in_doubt =
    let same = some_is z x is in
    record { then_open = y; is = refl; doubt = sym doubt ∙ ap (λ (o : Opened). o.in_doubt) same ∙ in_doubt; same = sym meta ∙ ap (λ (o : Opened). o.meta) same }

opens_none : (config : Config) (i : ℕ) (s : Keeps) (priority : ℕ) (reading : Option ℕ) (t : Told) (x : Opened) → opens config i s priority reading t ≡ Some x → x.in_doubt ≡ false
opens_none config i s priority (Some n) (told.Began y at) x is = sym (ap (λ (o : Opened). o.in_doubt) (some_is _ x is))
opens_none config i s priority None t x is = cc
opens_none config i s priority (Some n) t x is = cc

write_stays : (y x : Opened) (place : Place) (o : Op) (t : Told) → after_write y place o t ≡ Some x → x.in_doubt ≡ true → Stayed (Some y) x
write_stays y x place o (told.Written at) is doubt = stayed y _ x refl refl is doubt
write_stays y x place o (told.Refused (told_refusal.Conflict other)) is doubt = cc
write_stays y x place o (told.Refused (told_refusal.Overlap at)) is doubt = cc
write_stays y x place o (told.Refused (told_refusal.LogFault a)) is doubt = cc
write_stays y x place o t is doubt = stayed y y x refl refl is doubt

read_stays : (y x : Opened) (limits : List TabletLimit) (t : Told) → after_read y limits t ≡ Some x → x.in_doubt ≡ true → Stayed (Some y) x
read_stays y x limits (told.Values at restarts rows) is doubt = stayed y _ x refl refl is doubt
read_stays y x limits t is doubt = stayed y (record y { limits = limits }) x refl refl is doubt

end_comes : (y x : Opened) (line : Command) (t : Told) → Ending line → after_end y t ≡ Some x → x.in_doubt ≡ true → Stayed (Some y) x ⊎ Came_by (Some y) line t x
end_comes y x line (told.Committed z at) ending is doubt = cc
end_comes y x line (told.Ended z) ending is doubt = cc
end_comes y x line (told.Refused (told_refusal.Aborted by)) ending is doubt = cc
end_comes y x line (told.Refused (told_refusal.LogFault a)) ending is doubt = inr (record { then_open = y; is = refl; ending = ending; faulted = tt; same = ap (λ (o : Opened). o.meta) (some_is _ x is) })
end_comes y x line t ending is doubt = inl (stayed y y x refl refl is doubt)

comes : (config : Config) (i : ℕ) (s : Keeps) (line : Command) (reading : Option ℕ) (limits : List TabletLimit) (t : Told) (o : Option Opened) (x : Opened) → opened_after config i s line reading limits t o ≡ Some x → x.in_doubt ≡ true →
    Stayed o x ⊎ Came_by o line t x
comes config i s (command.Begin priority) reading limits t None x is doubt = let wrong : x.in_doubt ≡ false = opens_none config i s priority reading t x is in cc
comes config i s line reading limits t None x is doubt = cc
comes config i s (command.Put place v) reading limits t (Some y) x is doubt = inl (write_stays y x place _ t is doubt)
comes config i s (command.Del place) reading limits t (Some y) x is doubt = inl (write_stays y x place _ t is doubt)
comes config i s command.Commit reading limits t (Some y) x is doubt = end_comes y x command.Commit t tt is doubt
comes config i s command.Abort reading limits t (Some y) x is doubt = end_comes y x command.Abort t tt is doubt
comes config i s command.End reading limits t (Some y) x is doubt = end_comes y x command.End t tt is doubt
comes config i s (command.Read strict places) reading limits t (Some y) x is doubt = inl (read_stays y x limits t is doubt)
comes config i s (command.Scan strict place) reading limits t (Some y) x is doubt = inl (read_stays y x limits t is doubt)
comes config i s line reading limits t (Some y) x is doubt = inl (stayed y y x refl refl is doubt)

-- ## a fault of the log that an end is told

abbrev IsEndOf : ℕ → Request → Type 0
IsEndOf x (request.Commit y floor tablets) = y ≡ x
IsEndOf x (request.Abort y) = y ≡ x
IsEndOf x asked = ⊥

abbrev Faults : (Actor → Request → Reply → Type 0) → ℕ → Told → Type 0
Faults H x (told.Refused (told_refusal.LogFault a)) = (j : ℕ) × (asked : Request) × H (Status j) asked (reply.Refused refusal.LogFault) × IsEndOf x asked
Faults H x t = Unit {0}

refused_fault : (H : Actor → Request → Reply → Type 0) (x j : ℕ) (asked : Request) (r : Refusal) → IsEndOf x asked → H (Status j) asked (reply.Refused r) → Faults H x (told.Refused (refusal_told (Status j) r))
refused_fault H x j asked refusal.LogFault is h = (j, asked, h, is)
refused_fault H x j asked (refusal.Conflict other) is h = tt
refused_fault H x j asked (refusal.Overlap at) is h = tt
refused_fault H x j asked (refusal.LeaseHeld until) is h = tt
refused_fault H x j asked (refusal.ClockFull at) is h = tt
refused_fault H x j asked (refusal.ClockRange n) is h = tt
refused_fault H x j asked (refusal.Down since) is h = tt
refused_fault H x j asked refusal.Memory is h = tt

commit_faults : (H : Actor → Request → Reply → Type 0) (meta : Meta) (floor : ℕ) (tablets : List ℕ) → Goes H (Faults H meta.txn) (txn_program (step.Commit meta floor tablets))
commit_faults H meta floor tablets = (
  elim [
    | reply.Committed at ↦ λ h. tt
    | reply.AbortedBy by ↦ λ h. tt
    | reply.Gone ↦ λ h. tt
    | reply.Refused r ↦ λ h. refused_fault H meta.txn meta.status (request.Commit meta.txn floor tablets) r refl h
    | _ ↦ λ h. tt
  ],
  λ k e. tt,
  tt,
)

abort_faults : (H : Actor → Request → Reply → Type 0) (meta : Meta) → Goes H (Faults H meta.txn) (txn_program (step.Abort meta))
abort_faults H meta = (
  elim [
    | reply.Ended ↦ λ h. tt
    | reply.Committed at ↦ λ h. tt
    | reply.Refused r ↦ λ h. refused_fault H meta.txn meta.status (request.Abort meta.txn) r refl h
    | _ ↦ λ h. tt
  ],
  λ k e. tt,
  tt,
)

abbrev pub EndFailed : ℕ → History → Type 0
EndFailed x h = list_any (λ (e : Entry). end_failed x e.event) h ≡ true

or_left : (a b : Bool) → a ≡ true → (a || b) ≡ true
or_left a b is = rw is refl

or_right : (a b : Bool) → b ≡ true → (a || b) ≡ true
or_right true b is = refl
or_right false b is = is

pub failed_more : (x : ℕ) (e : Entry) (h : History) → EndFailed x h → EndFailed x (e ∷ h)
failed_more x e h is = or_right (end_failed x e.event) (list_any (λ (f : Entry). end_failed x f.event) h) is

failed_stands : (x : ℕ) (e : Entry) (before h : History) → end_failed x e.event ≡ true → StandsOver e before h → EndFailed x h
failed_stands x e before [] is stands = absurd stands
failed_stands x e before (f ∷ h) is stands = elim stands [
  | inl here ↦ or_left (end_failed x f.event) (list_any (λ (g : Entry). end_failed x g.event) h) (subst (λ (g : Entry). end_failed x g.event ≡ true) (sym here.0) is)
  | inr deeper ↦ failed_more x f h (failed_stands x e before h is deeper)
]

failed_event : (x : ℕ) (from : Actor) (asked : Request) (r : Reply) (time : Option ℕ) (append : Append) → IsEndOf x asked → Fails asked append → end_failed x (Serve from asked r time append) ≡ true
failed_event x from (request.Commit y floor tablets) r time append is fails =
    subst (λ (a : Append). end_failed x (Serve from (request.Commit y floor tablets) r time a) ≡ true) (sym fails) (subst (λ (z : ℕ). nat_eq y z ≡ true) is (eq_refl y))
failed_event x from (request.Abort y) r time append is fails =
    subst (λ (a : Append). end_failed x (Serve from (request.Abort y) r time a) ≡ true) (sym fails) (subst (λ (z : ℕ). nat_eq y z ≡ true) is (eq_refl y))
failed_event x from asked r time append is fails = absurd is

heard_failed : (config : Config) (m : Actor) (h : History) (x : ℕ) (t : Told) → Faulted t → Faults (Heard config m h) x t → EndFailed x h
heard_failed config m h x (told.Refused (told_refusal.LogFault a)) faulted is =
    let heard = is.2 in
    failed_stands x (entry_of (Status is.0) heard.reading (Serve m is.1 (reply.Refused refusal.LogFault) heard.time heard.append)) heard.before h
    (failed_event x m is.1 (reply.Refused refusal.LogFault) heard.time heard.append is.3
    (served_says config.lease_us (Status is.0) (own (Status is.0) heard.before) heard.reading is.1 (reply.Refused refusal.LogFault) heard.time heard.append refusal.LogFault heard.serves refl (λ e. cc)))
    heard.stands
heard_failed config m h x t faulted is = absurd faulted

-- what an end of an open transaction came to
end_goes : (config : Config) (m : Actor) (s : Keeps) (line : Command) (y : Opened) (H : Actor → Request → Reply → Type 0) → s.opened ≡ Some y → Ending line → CouldStart config m s line → Goes H (Faults H y.meta.txn) (program_of config m s line)
end_goes config (Session i) s command.Commit y H is ending could = subst (λ (o : Option Opened). Goes H (Faults H y.meta.txn) (commit_command s o)) (sym is) (commit_faults H y.meta s.last (tablets_used [] y.writes))
end_goes config (Session i) s command.Abort y H is ending could = subst (λ (o : Option Opened). Goes H (Faults H y.meta.txn) (abort_command o)) (sym is) (abort_faults H y.meta)
end_goes config (Session i) s command.End y H is ending could = subst (λ (o : Option Opened). Goes H (Faults H y.meta.txn) (abort_command o)) (sym is) (abort_faults H y.meta)
end_goes config (Session i) s line y H is ending could = absurd ending
end_goes config (Applier k) s line y H is ending could = absurd (subst Ending could.2.1 ending)
end_goes config (Tablet k) s line y H is ending could = absurd could.2
end_goes config (Status j) s line y H is ending could = absurd could.2

faulted_not : (t : Told) → Faulted t → t ≡ told.Refused told_refusal.Memory → ⊥
faulted_not t faulted is = subst Faulted is faulted

told_failed : (config : Config) (m : Actor) (reading : Option ℕ) (number : ℕ) (t : Told) (h : History) (s : Mover) (line : Command) (y : Opened) → Steps config h → s.keeps.opened ≡ Some y → Ending line → Faulted t →
    CameAbout config m (entry_of m reading (Tell number t) ∷ h) (before_start m h) s.keeps s.reading (Some line) t → EndFailed y.meta.txn h
told_failed config m reading number t h s line y steps is ending faulted came = elim came.1 [
  | inl way ↦ heard_failed config m h y.meta.txn t faulted
      (goes_came (Heard config m h) (Faults (Heard config m h) y.meta.txn) m (entry_of m reading (Tell number t) ∷ h) (before_start m h) s.reading (before_start m h) None (program_of config m s.keeps line) t
      (all_heard config m reading number t h steps) (part_refl (before_start m h)) (end_goes config m s.keeps line y (Heard config m h) is ending came.0) way)
  | inr memory ↦ absurd (faulted_not t faulted memory)
]

-- ## in every run

abbrev Doubts : Option Opened → History → Type 0
Doubts o h = (x : Opened) → o ≡ Some x → x.in_doubt ≡ true → EndFailed x.meta.txn h

kept_doubts : (config : Config) (m : Actor) (reading : Option ℕ) (number : ℕ) (t : Told) (h : History) (s : Mover) (line : Option Command) → Steps config h → s.line ≡ line → Doubts s.keeps.opened h →
    CameAbout config m (entry_of m reading (Tell number t) ∷ h) (before_start m h) s.keeps s.reading line t → Doubts (kept_after config m s line t).opened (entry_of m reading (Tell number t) ∷ h)
kept_doubts config m reading number t h s None steps same doubts came x is doubt = failed_more x.meta.txn (entry_of m reading (Tell number t)) h (doubts x is doubt)
kept_doubts config m reading number t h s (Some line) steps same doubts came x is doubt = failed_more x.meta.txn (entry_of m reading (Tell number t)) h
    (elim (comes config (session_of m) s.keeps line s.reading s.limits t s.keeps.opened x is doubt) [
      | inl stays ↦ subst (λ (meta : Meta). EndFailed meta.txn h) stays.same (doubts stays.then_open stays.is stays.doubt)
      | inr ends ↦ subst (λ (meta : Meta). EndFailed meta.txn h) ends.same (told_failed config m reading number t h s line ends.then_open steps ends.is ends.ending ends.faulted came)
    ])

more_doubts : (o : Option Opened) (e : Entry) (h : History) → Doubts o h → Doubts o (e ∷ h)
more_doubts o e h doubts x is doubt = failed_more x.meta.txn e h (doubts x is doubt)

own_doubts : (config : Config) (h : History) (m : Actor) (reading : Option ℕ) (event : Event) (s : Mover) → Run config (entry_of m reading event ∷ h) → Steps config h → mover_at config m h ≡ s → Doubts s.keeps.opened h →
    Doubts (mover_after config m s reading event).keeps.opened (entry_of m reading event ∷ h)
own_doubts config h m reading (Start number line) s run steps same doubts = more_doubts s.keeps.opened (entry_of m reading (Start number line)) h doubts
own_doubts config h m reading (Ask to asked) s run steps same doubts = more_doubts s.keeps.opened (entry_of m reading (Ask to asked)) h doubts
own_doubts config h m reading (Hear from r) s run steps same doubts = more_doubts s.keeps.opened (entry_of m reading (Hear from r)) h doubts
own_doubts config h m reading (Serve from asked r time append) s run steps same doubts = more_doubts s.keeps.opened (entry_of m reading (Serve from asked r time append)) h doubts
own_doubts config h m reading (Restarted from kept) s run steps same doubts = more_doubts s.keeps.opened (entry_of m reading (Restarted from kept)) h doubts
own_doubts config h m reading (Tell number t) s run steps same doubts =
    kept_doubts config m reading number t h s s.line steps refl doubts
    (subst (λ (z : Mover). CameAbout config m (entry_of m reading (Tell number t) ∷ h) (before_start m h) z.keeps z.reading z.line t) same
    (told_came_about config (entry_of m reading (Tell number t) ∷ h) h (entry_of m reading (Tell number t)) run (inl (refl, refl))))

at_own : (config : Config) (m : Actor) (e : Entry) (h : History) → e.actor ≡ m → Run config (e ∷ h) → Steps config h → Doubts (mover_at config m h).keeps.opened h → Doubts (mover_after config m (mover_at config m h) e.reading e.event).keeps.opened (e ∷ h)
at_own config m e h is run steps doubts =
    subst (λ (a : Actor). Doubts (mover_after config a (mover_at config a h) e.reading e.event).keeps.opened (e ∷ h)) is
    (own_doubts config h e.actor e.reading e.event (mover_at config e.actor h) run steps refl (subst (λ (a : Actor). Doubts (mover_at config a h).keeps.opened h) (sym is) doubts))

pub doubts_at : (config : Config) (m : Actor) (h : History) → Run config h → Doubts (mover_at config m h).keeps.opened h
unfolding mover_at Steps
doubts_at config m [] run = λ x is doubt. cc
doubts_at config m (e ∷ h) run =
    let before : Doubts (mover_at config m h).keeps.opened h = doubts_at config m h (run.0, run.1.0) in
    elim (same_cases e.actor m) [
      | inl same ↦ rw same.0 (at_own config m e h same.1 run run.1.0 before)
      | inr other ↦ rw other.0 (more_doubts (mover_at config m h).keeps.opened e h before)
    ]
