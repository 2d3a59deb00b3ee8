-- What was served for a command that ends a transaction, and what such a command came to.
use Rattle.std.proofs.Common.{◌≡◌, ℕ, List, [], ◌∷◌, Option, Some, refl, sym, ◌∙◌, ap, subst, inl, inr, ◌⊎◌}
use Rattle.txn_data.specs.declared.actor.Actor.{Actor}
use Rattle.txn_data.specs.declared.actor.Actor.TheVariants.{Status, Session}
use Rattle.txn_data.specs.declared.append.Append.{Append}
use Rattle.txn_data.specs.declared.command.Command.{Command}
use Rattle.txn_data.specs.declared.command.Command.TheVariants as command
use Rattle.txn_data.specs.declared.config.Config.{Config}
use Rattle.txn_data.specs.declared.meta.Meta.{Meta}
use Rattle.txn_data.specs.declared.request.Request.{Request}
use Rattle.txn_data.specs.declared.request.Request.TheVariants as request
use Rattle.txn_data.specs.declared.reply.Reply.{Reply}
use Rattle.txn_data.specs.declared.reply.Reply.TheVariants as reply
use Rattle.txn_data.specs.declared.told.Told.{Told}
use Rattle.txn_data.specs.declared.told.Told.TheVariants as told
use Rattle.txn_data.specs.declared.told_refusal.ToldRefusal.TheVariants as told_refusal
use Rattle.txn_data.specs.declared.event.Event.{Event}
use Rattle.txn_data.specs.declared.event.Event.TheVariants.{Start, Ask, Serve, Hear, Tell, Restarted}
use Rattle.txn_types.specs.Lists.{Member}
use Rattle.txn_types.specs.History.{History, own}
use Rattle.txn_types.specs.Program.{Program, Done, refusal_told}
use Rattle.txn_types.specs.TxnProgram.{refused, lost}
use Rattle.txn_types.specs.Session.{Keeps, Opened, tablets_used, commit_command, abort_command}
use Rattle.txn_types.specs.Run.{Allowed, Steps, Run, Serves, mover_at, program_of}
use Rattle.txn_types.specs.Cause.{ToldAt, tells, tells_by, ServedAt, served_since, own_then}
use Rattle.law_machines.specs.Own.{StandsOver}
use Rattle.law_machines.proofs.Basics.{member_cases}
use Rattle.law_machines.proofs.Owns.{steps_at, run_until, stands_member}
use Rattle.law_courses.specs.Course.{entry_of}
use Rattle.law_messages.proofs.Rules.{told_memory}
use Rattle.law_owners.specs.Owner.{home_of, owner_of, IsHomedAt}
use Rattle.law_owners.proofs.Runs.{requests_homed}
use Rattle.txn_promises.specs.Ends.{AsksEnd}
use Rattle.law_closings.specs.Laws.{Ends}
use Rattle.law_closings.proofs.Rules.{Free}
use Rattle.law_closings.proofs.Keeping.{ends_once}
use Rattle.law_endings.proofs.OneAsk.{Outcome, told_one}
use Rattle.law_endings.proofs.Lives.{since_stands}

-- an abort or an end
abbrev pub IsAbortLine : Command → Type 0
IsAbortLine line = (line ≡ command.Abort) ⊎ (line ≡ command.End)

-- ## where it was told

pub record Place (config : Config) (h : History) (t : ToldAt) : Type 0 where
  pub number : ℕ
  pub stands : StandsOver (entry_of t.who t.reading (Tell number t.told)) t.before h

event_place : (h : History) (a : Actor) (reading : Option ℕ) (event : Event) (t : ToldAt) → Member t (tells_by h (entry_of a reading event)) → (number : ℕ) × (entry_of a reading event ≡ entry_of t.who t.reading (Tell number t.told)) × (h ≡ t.before)
event_place h a reading (Tell number now) t here = elim here [
  | inl is ↦ (number, ap (λ (u : ToldAt). entry_of u.who u.reading (Tell number u.told)) (sym is), ap (λ (u : ToldAt). u.before) (sym is))
  | inr none ↦ absurd none
]
event_place h a reading (Start number line) t here = absurd here
event_place h a reading (Ask to asked) t here = absurd here
event_place h a reading (Serve from asked r time append) t here = absurd here
event_place h a reading (Hear from r) t here = absurd here
event_place h a reading (Restarted from kept) t here = absurd here

pub place_of : (config : Config) (h : History) (t : ToldAt) → Member t (tells h) → Place config h t
unfolding tells
place_of config [] t here = absurd here
place_of config (e ∷ h) t here = elim (member_cases t (tells_by h e) (tells h) here) [
  | inl now ↦ let is = event_place h e.actor e.reading e.event t now in record { number = is.0; stands = inl (is.1, is.2) }
  | inr deeper ↦ let p = place_of config h t deeper in record { number = p.number; stands = inr p.stands }
]

-- ## a commit

abbrev pub commit_next : Meta → Reply → Program Told
commit_next meta answer = elim answer [
  | reply.Committed at ↦ Done (told.Committed meta.txn at)
  | reply.AbortedBy by ↦ refused (told_refusal.Aborted by)
  | reply.Gone ↦ Done (told.Ended meta.txn)
  | reply.Refused why ↦ refused (refusal_told (Status meta.status) why)
  | _ ↦ lost
]

commit_ends : (meta : Meta) (r : Reply) → (t : Told) × (commit_next meta r ≡ Done t)
commit_ends meta (reply.Committed at) = (told.Committed meta.txn at, refl)
commit_ends meta (reply.AbortedBy by) = (told.Refused (told_refusal.Aborted by), refl)
commit_ends meta reply.Gone = (told.Ended meta.txn, refl)
commit_ends meta (reply.Refused why) = (told.Refused (refusal_told (Status meta.status) why), refl)
commit_ends meta r = (told_memory, refl)

pub done_same : (one two : Told) → Done one ≡ Done two → one ≡ two
done_same one two is = cc

ended_same : (x y : ℕ) → told.Ended x ≡ told.Ended y → x ≡ y
ended_same x y is = cc

committed_same : (x y c d : ℕ) → told.Committed x c ≡ told.Committed y d → (x ≡ y) × (c ≡ d)
committed_same x y c d is = (cc, cc)

abbrev IsGone : Meta → ℕ → Reply → Type 0
IsGone meta x r = (r ≡ reply.Gone) × (meta.txn ≡ x)

pub commit_gone : (meta : Meta) (x : ℕ) (r : Reply) → commit_next meta r ≡ Done (told.Ended x) → IsGone meta x r
commit_gone meta x reply.Gone is = (refl, ended_same meta.txn x (done_same _ _ is))
commit_gone meta x (reply.Committed at) is = let wrong = done_same _ _ is in cc
commit_gone meta x (reply.AbortedBy by) is = let wrong = done_same _ _ is in cc
commit_gone meta x (reply.Refused why) is = let wrong = done_same _ _ is in cc
commit_gone meta x r is = let wrong = done_same _ _ is in cc

-- ## an abort

abbrev pub abort_next : Meta → Reply → Program Told
abort_next meta answer = elim answer [
  | reply.Ended ↦ Done (told.Ended meta.txn)
  | reply.Committed at ↦ Done (told.Committed meta.txn at)
  | reply.Refused why ↦ refused (refusal_told (Status meta.status) why)
  | _ ↦ lost
]

abort_ends : (meta : Meta) (r : Reply) → (t : Told) × (abort_next meta r ≡ Done t)
abort_ends meta reply.Ended = (told.Ended meta.txn, refl)
abort_ends meta (reply.Committed at) = (told.Committed meta.txn at, refl)
abort_ends meta (reply.Refused why) = (told.Refused (refusal_told (Status meta.status) why), refl)
abort_ends meta r = (told_memory, refl)

pub abort_ended : (meta : Meta) (x : ℕ) (r : Reply) → abort_next meta r ≡ Done (told.Ended x) → (r ≡ reply.Ended) × (meta.txn ≡ x)
abort_ended meta x reply.Ended is = (refl, ended_same meta.txn x (done_same _ _ is))
abort_ended meta x (reply.Committed at) is = let wrong = done_same _ _ is in cc
abort_ended meta x (reply.Refused why) is = let wrong = done_same _ _ is in cc
abort_ended meta x r is = let wrong = done_same _ _ is in cc

pub abort_committed : (meta : Meta) (x c : ℕ) (r : Reply) → abort_next meta r ≡ Done (told.Committed x c) → (r ≡ reply.Committed c) × (meta.txn ≡ x)
abort_committed meta x c (reply.Committed at) is = let same = committed_same meta.txn x at c (done_same _ _ is) in (ap reply.Committed same.1, same.0)
abort_committed meta x c reply.Ended is = let wrong = done_same _ _ is in cc
abort_committed meta x c (reply.Refused why) is = let wrong = done_same _ _ is in cc
abort_committed meta x c r is = let wrong = done_same _ _ is in cc

-- ## what was served for such a command

ends_of : (line : Command) (x : ℕ) (asked : Request) → AsksEnd line x asked → Ends x asked
ends_of command.Commit x (request.Commit y floor tablets) is = is
ends_of command.Abort x (request.Abort y) is = is
ends_of command.End x (request.Abort y) is = is
ends_of line x asked is = absurd is

end_home : (config : Config) (a m : Actor) (line : Command) (x : ℕ) (asked : Request) (r : Reply) (time : Option ℕ) (append : Append) → IsHomedAt config a (Serve m asked r time append) → AsksEnd line x asked → (m ≡ Session (owner_of x)) × (a ≡ Status (home_of config x))
end_home config a m command.Commit x (request.Commit y floor tablets) r time append homed is = (homed.0.0 ∙ ap (λ (z : ℕ). Session (owner_of z)) is, homed.0.1 ∙ ap (λ (z : ℕ). Status (home_of config z)) is)
end_home config a m command.Abort x (request.Abort y) r time append homed is = (homed.0.0 ∙ ap (λ (z : ℕ). Session (owner_of z)) is, homed.0.1 ∙ ap (λ (z : ℕ). Status (home_of config z)) is)
end_home config a m command.End x (request.Abort y) r time append homed is = (homed.0.0 ∙ ap (λ (z : ℕ). Session (owner_of z)) is, homed.0.1 ∙ ap (λ (z : ℕ). Status (home_of config z)) is)
end_home config a m line x asked r time append homed is = absurd is

-- an answer of this kind, with where it stands
pub record EndAt (config : Config) (h : History) (m : Actor) (line : Command) (x : ℕ) (s : ServedAt) : Type 0 where
  pub time : Option ℕ
  pub stands : StandsOver (entry_of s.by s.reading (Serve m s.asked s.reply time s.append)) s.before h
  pub run : Run config s.before
  pub mine : m ≡ Session (owner_of x)
  pub home : s.by ≡ Status (home_of config x)
  pub serves : Serves config.lease_us (Status (home_of config x)) (own_then s) s.reading s.asked s.reply time s.append
  pub free : Free m x s.before

pub end_at : (config : Config) (h : History) (m : Actor) (line : Command) (x : ℕ) (s : ServedAt) → Run config h → Member s (served_since m h) → AsksEnd line x s.asked → EndAt config h m line x s
unfolding Steps
end_at config h m line x s run here asks =
    let place = since_stands m h s here in
    let e = entry_of s.by s.reading (Serve m s.asked s.reply place.0 s.append) in
    let homed = end_home config s.by m line x s.asked s.reply place.0 s.append (requests_homed config h e run (stands_member e s.before h place.1)) asks in
    let up_to : Steps config (e ∷ s.before) = steps_at config e s.before h run.1 place.1 in
    record {
      time = place.0;
      stands = place.1;
      run = run_until config h s.before e run place.1;
      mine = homed.0;
      home = homed.1;
      serves = subst (λ (a : Actor). Serves config.lease_us a (own_then s) s.reading s.asked s.reply place.0 s.append) homed.1 up_to.1.2;
      free = ends_once config h s.before s.by m s.reading s.asked s.reply place.0 s.append x run place.1 (ends_of line x s.asked asks);
    }

-- the entries that the status tablet had are those of the home
pub then_home : (config : Config) (x : ℕ) (s : ServedAt) → s.by ≡ Status (home_of config x) → own_then s ≡ own (Status (home_of config x)) s.before
then_home config x s is = ap (λ (a : Actor). own a s.before) is

pub one_member : (s u : ServedAt) (served : List ServedAt) → served ≡ s ∷ [] → Member u served → u ≡ s
one_member s u served is here = elim (subst (λ (l : List ServedAt). Member u l) is here) [ inl same ↦ same | inr none ↦ absurd none ]

pub no_member : (u : ServedAt) (served : List ServedAt) → served ≡ [] → Member u served → ⊥
no_member u served is here = subst (λ (l : List ServedAt). Member u l) is here

-- what was served, of which the request and the answer are known
pub served_as : (lease : ℕ) (a : Actor) (o : History) (reading : Option ℕ) (asked given : Request) (r answer : Reply) (time : Option ℕ) (append : Append) → asked ≡ given → r ≡ answer → Serves lease a o reading asked r time append → Serves lease a o reading given answer time append
served_as lease a o reading asked given r answer time append one two served =
    subst (λ (q : Request). Serves lease a o reading q answer time append) one (subst (λ (q : Reply). Serves lease a o reading asked q time append) two served)

-- ## what a told end came to

module _ (config : Config) (i : ℕ) (h : History) (reading : Option ℕ) (number : ℕ) (t : Told) (run : Run config h) (ok : Allowed config h (Session i) reading (Tell number t)) (o : Opened) (is_open : (mover_at config (Session i) h).keeps.opened ≡ Some o) where
  abbrev keeps : Keeps
  keeps = (mover_at config (Session i) h).keeps

  pub commit_came : (mover_at config (Session i) h).line ≡ Some command.Commit → Outcome (request.Commit o.meta.txn keeps.last (tablets_used [] o.writes)) (commit_next o.meta) (served_since (Session i) h) t
  commit_came line = told_one (Status o.meta.status) (request.Commit o.meta.txn keeps.last (tablets_used [] o.writes)) (commit_next o.meta) (commit_ends o.meta) (λ never. cc) i config h reading number t command.Commit run ok line
      (ap (λ (p : Option Opened). commit_command keeps p) is_open) refl

  pub abort_came : (line : Command) → IsAbortLine line → (mover_at config (Session i) h).line ≡ Some line → Outcome (request.Abort o.meta.txn) (abort_next o.meta) (served_since (Session i) h) t
  abort_came line kind under_way = told_one (Status o.meta.status) (request.Abort o.meta.txn) (abort_next o.meta) (abort_ends o.meta) (λ never. cc) i config h reading number t line run ok under_way
      (elim kind [
        | inl is ↦ ap (λ (l : Command). program_of config (Session i) keeps l) is ∙ ap (λ (p : Option Opened). abort_command p) is_open
        | inr is ↦ ap (λ (l : Command). program_of config (Session i) keeps l) is ∙ ap (λ (p : Option Opened). abort_command p) is_open
      ]) refl
