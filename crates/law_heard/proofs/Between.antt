-- A write or a single write carries the fate of each transaction that the command's listing found, and none is Pending.
use Rattle.std.proofs.Common.{◌≡◌, ℕ, Bool, true, false, not, List, [], ◌∷◌, ◌++◌, Option, Some, None, map, filter, length, nat_eq, refl, sym, ◌∙◌, ap, subst, inl, inr, ◌⊎◌, if◌then◌else◌}
use Rattle.std.proofs.lemmas.List.{append-nil}
use Rattle.doc_path.specs.Path.{Parts}
use Rattle.txn_data.specs.declared.actor.Actor.{Actor}
use Rattle.txn_data.specs.declared.actor.Actor.TheVariants.{Tablet, Status, Session, Applier}
use Rattle.txn_data.specs.declared.command.Command.{Command}
use Rattle.txn_data.specs.declared.command.Command.TheVariants as command
use Rattle.txn_data.specs.declared.config.Config.{Config}
use Rattle.txn_data.specs.declared.fate.Fate.{Fate}
use Rattle.txn_data.specs.declared.fate.Fate.TheVariants as fate
use Rattle.txn_data.specs.declared.fate_of.FateOf.{FateOf}
use Rattle.txn_data.specs.declared.found.Found.{Found}
use Rattle.txn_data.specs.declared.meta.Meta.{Meta}
use Rattle.txn_data.specs.declared.op.Op.{Op}
use Rattle.txn_data.specs.declared.op.Op.TheVariants as op
use Rattle.txn_data.specs.declared.place.Place.{Place}
use Rattle.txn_data.specs.declared.request.Request.{Request}
use Rattle.txn_data.specs.declared.request.Request.TheVariants as request
use Rattle.txn_data.specs.declared.reply.Reply.{Reply}
use Rattle.txn_data.specs.declared.reply.Reply.TheVariants as reply
use Rattle.txn_data.specs.declared.refusal.Refusal.TheVariants as refusal
use Rattle.txn_data.specs.declared.told.Told.{Told}
use Rattle.txn_data.specs.declared.told.Told.TheVariants as told
use Rattle.txn_data.specs.declared.told_refusal.ToldRefusal.{ToldRefusal}
use Rattle.txn_data.specs.declared.told_refusal.ToldRefusal.TheVariants as told_refusal
use Rattle.txn_data.specs.declared.txn_step.TxnStep.TheVariants as step
use Rattle.txn_types.specs.Lists.{Member, has_number, rising}
use Rattle.txn_types.specs.History.{History}
use Rattle.txn_types.specs.Program.{Program, Done, Asks, Reads, refusal_told}
use Rattle.txn_types.specs.TxnProgram.{refused, write_refused, resolve_all, find_others, txn_program}
use Rattle.txn_types.specs.Tablet.{txn_of, provisional, others_on, conflict, first_of, is_open, first_fate}
use Rattle.txn_types.specs.Session.{Keeps, Opened, next_meta, write_command, if_closed}
use Rattle.txn_types.specs.Run.{program_of}
use Rattle.txn_types.specs.Cause.{ServedAt, newcomers, found_ids, WritesFor}
use Rattle.txn_promises.specs.Lines.{is_write, is_single}
use Rattle.txn_promises.specs.Refuses.{MeetsConflict}
use Rattle.law_machines.proofs.Basics.{eq_cases}
use Rattle.law_courses.specs.Laws.{CouldStart}
use Rattle.law_served.specs.Ran.{Ran}
use Rattle.law_heard.proofs.Heeds.{Asking, no_member}

-- ## the fates of what was found

-- these fates are those of what was found, one after another, and none is Pending
unfoldable pub Settle : List FateOf → List Found → Type 0
Settle [] [] = Unit {0}
Settle (f ∷ fs) (g ∷ gs) = (f.txn ≡ g.txn) × (f.fate ≡ fate.Pending → ⊥) × Settle fs gs
Settle [] (g ∷ gs) = ⊥
Settle (f ∷ fs) [] = ⊥

settle_more : (fates : List FateOf) (found : List Found) (f : FateOf) (g : Found) → Settle fates found → f.txn ≡ g.txn → (f.fate ≡ fate.Pending → ⊥) → Settle (fates ++ f ∷ []) (found ++ g ∷ [])
unfolding Settle
settle_more [] [] f g settle same not = (same, not, tt)
settle_more (e ∷ fates) (d ∷ found) f g settle same not = (settle.0, settle.1, settle_more fates found f g settle.2 same not)
settle_more [] (d ∷ found) f g settle same not = absurd settle
settle_more (e ∷ fates) [] f g settle same not = absurd settle

settled_open : (f : Fate) → (f ≡ fate.Pending → ⊥) → is_open (Some f) ≡ false
settled_open fate.Pending not = absurd (not refl)
settled_open (fate.Committed at) not = refl
settled_open fate.Aborted not = refl
settled_open fate.Absent not = refl

-- one that has no fate was not found
not_found : (fates : List FateOf) (found : List Found) (y : ℕ) → Settle fates found → is_open (first_fate fates y) ≡ not (has_number y (found_ids found))
unfolding Settle first_fate
not_found [] [] y settle = refl
not_found (f ∷ fates) (g ∷ found) y settle = elim (eq_cases f.txn y) [
  | inl same ↦ rw same.0 (rw (number_is y g.txn (sym same.1 ∙ settle.0)) (settled_open f.fate settle.1))
  | inr other ↦ rw other.0 (rw (number_differs y g.txn (λ e. other.1 (settle.0 ∙ sym e))) (not_found fates found y settle.2))
]
  where
    number_is : (a b : ℕ) → a ≡ b → nat_eq a b ≡ true
    number_is a b same = elim (eq_cases a b) [ inl e ↦ e.0 | inr differ ↦ absurd (differ.1 same) ]

    number_differs : (a b : ℕ) → (a ≡ b → ⊥) → nat_eq a b ≡ false
    number_differs a b differ = elim (eq_cases a b) [ inl e ↦ absurd (differ e.1) | inr e ↦ e.0 ]
not_found [] (g ∷ found) y settle = absurd settle
not_found (f ∷ fates) [] y settle = absurd settle

filter_choice : (p q : ℕ → Bool) (x : ℕ) (xs : List ℕ) (b : Bool) → p x ≡ q x → q x ≡ b → filter p xs ≡ filter q xs → filter p (x ∷ xs) ≡ filter q (x ∷ xs)
filter_choice p q x xs true one two rest = rw two (rw (one ∙ two) (ap (λ (l : List ℕ). x ∷ l) rest))
filter_choice p q x xs false one two rest = rw two (rw (one ∙ two) rest)

same_filter : (p q : ℕ → Bool) (xs : List ℕ) → ((y : ℕ) → p y ≡ q y) → filter p xs ≡ filter q xs
same_filter p q [] same = refl
same_filter p q (x ∷ xs) same = filter_choice p q x xs (q x) (same x) refl (same_filter p q xs same)

newcomer : (x : ℕ) (path : Parts) (fates : List FateOf) (found : List Found) (o : History) → Settle fates found → conflict x path fates (provisional o) ≡ first_of (newcomers x path found o)
newcomer x path fates found o settle =
    ap first_of (same_filter (λ y. is_open (first_fate fates y)) (λ y. not (has_number y (found_ids found))) (rising (map txn_of (others_on x path (provisional o)))) (λ y. not_found fates found y settle))

-- the fates that a write carries are those of what was found
abbrev pub Settled : Request → List Found → Type 0
Settled (request.Write meta number path op read seen fates) found = Settle fates found
Settled (request.Single x path op seen fates) found = Settle fates found
Settled asked found = Unit {0}

pub came_between : (asked : Request) (x : ℕ) (path : Parts) (found : List Found) (o : History) (other : ℕ) → WritesFor asked x path → Settled asked found → first_of (newcomers x path found o) ≡ Some other → MeetsConflict asked o other
came_between (request.Write meta number p op read seen fates) x path found o other writes settled is =
    subst (λ (q : Parts). conflict meta.txn q fates (provisional o) ≡ Some other) (sym writes.1)
    (subst (λ (y : ℕ). conflict y path fates (provisional o) ≡ Some other) (sym writes.0) (newcomer x path fates found o settled ∙ is))
came_between (request.Single y p op seen fates) x path found o other writes settled is =
    subst (λ (q : Parts). conflict y q fates (provisional o) ≡ Some other) (sym writes.1)
    (subst (λ (z : ℕ). conflict z path fates (provisional o) ≡ Some other) (sym writes.0) (newcomer x path fates found o settled ∙ is))
came_between asked x path found o other writes settled is = absurd writes

-- ## what is asked after the listing

-- no listing; and a write carries what was found
abbrev After : List Found → Actor → Request → Type 0
After found to (request.ListWrite x path) = ⊥
After found to (request.Write meta number path op read seen fates) = Settle fates found
After found to (request.Single x path op seen fates) = Settle fates found
After found to asked = Unit {0}

-- no listing and no write
abbrev Bare : Actor → Request → Type 0
Bare to (request.ListWrite x path) = ⊥
Bare to (request.Write meta number path op read seen fates) = ⊥
Bare to (request.Single x path op seen fates) = ⊥
Bare to asked = Unit {0}

-- after this reply to the listing
abbrev Since : Reply → Actor → Request → Type 0
Since (reply.Others found) = After found
Since r = Bare

append_one : (before : List Found) (f : Found) (fs : List Found) → before ++ f ∷ fs ≡ (before ++ f ∷ []) ++ fs
append_one [] f fs = refl
append_one (b ∷ before) f fs = ap (λ (l : List Found). b ∷ l) (append_one before f fs)

resolve_after : (meta : Meta) (all before fs : List Found) (fates : List FateOf) (stop : ToldRefusal → Program Told) (next : List FateOf → Program Told) → all ≡ before ++ fs → Settle fates before → ((w : ToldRefusal) → Asking (After all) (stop w)) →
    ((given : List FateOf) → Settle given all → Asking (After all) (next given)) → Asking (After all) (resolve_all meta fs fates stop next)
unfolding resolve_all
resolve_after meta all before [] fates stop next is settle stops goes = goes fates (subst (Settle fates) (sym (is ∙ append-nil before)) settle)
resolve_after meta all before (f ∷ fs) fates stop next is settle stops goes =
    let more : (given : Fate) → (given ≡ fate.Pending → ⊥) → Asking (After all) (resolve_all meta fs (fates ++ (record { txn = f.txn; fate = given }) ∷ []) stop next) = λ given not.
    resolve_after meta all (before ++ f ∷ []) fs (fates ++ (record { txn = f.txn; fate = given }) ∷ []) stop next (is ∙ append_one before f fs) (settle_more fates before (record { txn = f.txn; fate = given }) f settle refl not) stops goes in (
      tt,
      elim [
        | reply.FateIs fate.Pending ↦ stops (told_refusal.Conflict f.txn)
        | reply.FateIs (fate.Committed at) ↦ more (fate.Committed at) (λ e. cc)
        | reply.FateIs fate.Aborted ↦ more fate.Aborted (λ e. cc)
        | reply.FateIs fate.Absent ↦ more fate.Absent (λ e. cc)
        | reply.Refused r ↦ stops (refusal_told (Status f.status) r)
        | _ ↦ tt
      ],
    )

-- what follows the listing of such a program
abbrev Lists : Program Told → Type 0
Lists (Asks to (request.ListWrite x path) next) = (r : Reply) → Asking (Since r) (next r)
Lists p = ⊥

others_after : (meta : Meta) (place : Place) (stop : ToldRefusal → Program Told) (next : List FateOf → Program Told) → ((found : List Found) (w : ToldRefusal) → Asking (After found) (stop w)) → ((w : ToldRefusal) → Asking Bare (stop w)) →
    ((found : List Found) (given : List FateOf) → Settle given found → Asking (After found) (next given)) → Lists (find_others meta place stop next)
unfolding Settle
others_after meta place stop next stops bare goes = elim [
  | reply.Others found ↦ resolve_after meta found [] found [] stop next refl tt (stops found) (goes found)
  | reply.Refused r ↦ bare (refusal_told (Tablet place.tablet) r)
  | _ ↦ tt
]

closing_after : (P : Actor → Request → Type 0) (meta : Meta) (w : ToldRefusal) → ((to : Actor) (x : ℕ) → P to (request.Abort x)) → Asking P (write_refused meta w)
closing_after P meta (told_refusal.Conflict other) aborts = (aborts (Status meta.status) meta.txn, λ r. tt)
closing_after P meta (told_refusal.Overlap at) aborts = (aborts (Status meta.status) meta.txn, λ r. tt)
closing_after P meta (told_refusal.LogFault actor) aborts = (aborts (Status meta.status) meta.txn, λ r. tt)
closing_after P meta (told_refusal.Aborted by) aborts = tt
closing_after P meta (told_refusal.Restart at path) aborts = tt
closing_after P meta (told_refusal.LeaseHeld a until) aborts = tt
closing_after P meta (told_refusal.ClockFull a at) aborts = tt
closing_after P meta (told_refusal.ClockRange a reading) aborts = tt
closing_after P meta (told_refusal.Down a since) aborts = tt
closing_after P meta told_refusal.NoTxn aborts = tt
closing_after P meta told_refusal.TxnOpen aborts = tt
closing_after P meta told_refusal.InDoubt aborts = tt
closing_after P meta told_refusal.Memory aborts = tt

write_lists : (meta : Meta) (number : ℕ) (place : Place) (o : Op) (read seen : ℕ) → Lists (txn_program (step.Write meta number place o read seen))
write_lists meta number place o read seen = others_after meta place (write_refused meta) _ (λ found w. closing_after (After found) meta w (λ to x. tt)) (λ w. closing_after Bare meta w (λ to x. tt)) (λ found given settle. (
  settle,
  elim [
    | reply.Written at ↦ tt
    | reply.Refused r ↦ closing_after (After found) meta (refusal_told (Tablet place.tablet) r) (λ to x. tt)
    | _ ↦ tt
  ],
))

single_lists : (meta : Meta) (place : Place) (o : Op) (seen : ℕ) → Lists (txn_program (step.Single meta place o seen))
single_lists meta place o seen = others_after meta place refused _ (λ found w. tt) (λ w. tt) (λ found given settle. (settle, elim [ reply.SingleDone at ↦ tt | reply.Refused r ↦ tt | _ ↦ tt ]))

-- ## over all that was served

ran_asking : (P : Actor → Request → Type 0) (m : Actor) (lose : Bool) (ss : List ServedAt) (p : Program Told) (end : Told) (s : ServedAt) → Asking P p → Ran m lose ss p end → Member s ss → P s.by s.asked
unfolding Ran
ran_asking P m lose ss (Done t) end s asks ran here = elim ran [
  | inl is ↦ absurd (no_member s ss is.0 here)
  | inr none ↦ absurd (no_member s ss none.1 here)
]
ran_asking P m lose ss (Asks to asked next) end s asks ran here = elim ran [
  | inl heard ↦
      let there : Member s (heard.0 ∷ heard.1) = subst (λ (l : List ServedAt). Member s l) heard.2 here in
      elim there [
        | inl is ↦ subst (λ (v : ServedAt). P v.by v.asked) (sym is) (subst (λ (q : Request). P heard.0.by q) (sym heard.4) (subst (λ (a : Actor). P a asked) (sym heard.3) asks.0))
        | inr more ↦ ran_asking P m _ heard.1 (next heard.0.reply) end s (asks.1 heard.0.reply) heard.5 more
      ]
  | inr other ↦ elim other [
    | inl restart ↦ ran_asking P m _ ss (next (reply.Restarted restart.1.0)) end s (asks.1 (reply.Restarted restart.1.0)) restart.1.1 here
    | inr more ↦ elim more [
      | inl unheard ↦ ran_asking P m _ ss (next (reply.Refused refusal.Memory)) end s (asks.1 (reply.Refused refusal.Memory)) unheard here
      | inr none ↦ absurd (no_member s ss none.1 here)
    ]
  ]
]
ran_asking P m lose ss (Reads given) end s asks ran here = elim ran [
  | inl read ↦ ran_asking P m lose ss (given read.0) end s (asks read.0) read.1 here
  | inr none ↦ absurd (no_member s ss none.1 here)
]

after_settled : (found : List Found) (to : Actor) (asked : Request) → After found to asked → Settled asked found
after_settled found to (request.Write meta number path op read seen fates) after = after
after_settled found to (request.Single x path op seen fates) after = after
after_settled found to asked after = tt

since_settled : (found : List Found) (r : Reply) (to : Actor) (asked : Request) → r ≡ reply.Others found → Since r to asked → Settled asked found
since_settled found r to asked is since = after_settled found to asked (subst (λ (x : Reply). Since x to asked) is since)

bare_list : (to : Actor) (x : ℕ) (path : Parts) (r : Reply) → Since r to (request.ListWrite x path) → ⊥
bare_list to x path (reply.Others found) since = since
bare_list to x path r since = since

list_settled : (x : ℕ) (path : Parts) (asked : Request) (found : List Found) → asked ≡ request.ListWrite x path → Settled asked found
list_settled x path asked found is = subst (λ (q : Request). Settled q found) (sym is) tt

-- each write that was served carries what the listing that was served found
pub ran_settled : (m : Actor) (lose : Bool) (ss : List ServedAt) (p : Program Told) (end : Told) (s l : ServedAt) (x : ℕ) (path : Parts) (found : List Found) → Lists p → Ran m lose ss p end → Member s ss → Member l ss →
    l.asked ≡ request.ListWrite x path → l.reply ≡ reply.Others found → Settled s.asked found
unfolding Ran
ran_settled m lose ss (Asks to (request.ListWrite y q) next) end s l x path found lists ran here there asks says = elim ran [
  | inl heard ↦
      let u : ServedAt = heard.0 in
      let s_in : Member s (u ∷ heard.1) = subst (λ (k : List ServedAt). Member s k) heard.2 here in
      let l_in : Member l (u ∷ heard.1) = subst (λ (k : List ServedAt). Member l k) heard.2 there in
      elim s_in [
        | inl first ↦ list_settled y q s.asked found (ap (λ (v : ServedAt). v.asked) first ∙ heard.4)
        | inr later ↦
            let since : Since u.reply s.by s.asked = ran_asking (Since u.reply) m _ heard.1 (next u.reply) end s (lists u.reply) heard.5 later in
            elim l_in [
              | inl first ↦ since_settled found u.reply s.by s.asked (ap (λ (v : ServedAt). v.reply) (sym first) ∙ says) since
              | inr after ↦ absurd (bare_list l.by x path u.reply (subst (λ (k : Request). Since u.reply l.by k) asks (ran_asking (Since u.reply) m _ heard.1 (next u.reply) end l (lists u.reply) heard.5 after)))
            ]
      ]
  | inr other ↦ elim other [
    | inl restart ↦ let wrong = restart.0 in cc
    | inr more ↦ elim more [
      | inl unheard ↦ absurd (bare_list l.by x path (reply.Refused refusal.Memory) (subst (λ (k : Request). Since (reply.Refused refusal.Memory) l.by k) asks (ran_asking (Since (reply.Refused refusal.Memory)) m _ ss (next (reply.Refused refusal.Memory)) end l (lists (reply.Refused refusal.Memory)) unheard there)))
      | inr none ↦ absurd (no_member s ss none.1 here)
    ]
  ]
]
ran_settled m lose ss p end s l x path found lists ran here there asks says = absurd lists

-- ## lines

write_opened : (s : Keeps) (place : Place) (o : Op) (opened : Option Opened) → Lists (write_command s place o opened) ⊎ ((w : ToldRefusal) × (write_command s place o opened ≡ refused w))
write_opened s place o None = inr (told_refusal.NoTxn, refl)
write_opened s place o (Some x) = doubt x.in_doubt
  where
    doubt : (b : Bool) → (let p = if b then refused told_refusal.InDoubt else txn_program (step.Write x.meta (length x.writes) place o x.r s.last) in Lists p ⊎ ((w : ToldRefusal) × (p ≡ refused w)))
    doubt true = inr (told_refusal.InDoubt, refl)
    doubt false = inl (write_lists x.meta (length x.writes) place o x.r s.last)

single_opened : (config : Config) (i : ℕ) (s : Keeps) (priority : ℕ) (place : Place) (o : Op) (opened : Option Opened) →
    (let p = if_closed opened (txn_program (step.Single (next_meta config i s priority) place o s.last)) in Lists p ⊎ ((w : ToldRefusal) × (p ≡ refused w)))
single_opened config i s priority place o (Some x) = inr (told_refusal.TxnOpen, refl)
single_opened config i s priority place o None = inl (single_lists (next_meta config i s priority) place o s.last)

abbrev pub Writes : Command → Type 0
Writes line = (is_write (Some line) ≡ true) ⊎ (is_single (Some line) ≡ true)

line_lists : (config : Config) (m : Actor) (s : Keeps) (line : Command) → CouldStart config m s line → Writes line → Lists (program_of config m s line) ⊎ ((w : ToldRefusal) × (program_of config m s line ≡ refused w))
line_lists config (Session i) s (command.Put place v) could writes = write_opened s place (op.Put v) s.opened
line_lists config (Session i) s (command.Del place) could writes = write_opened s place op.Delete s.opened
line_lists config (Session i) s (command.SinglePut place v priority) could writes = single_opened config i s priority place (op.Put v) s.opened
line_lists config (Session i) s (command.SingleDel place priority) could writes = single_opened config i s priority place op.Delete s.opened
line_lists config (Session i) s line could writes = absurd (elim writes [ inl one ↦ cc | inr two ↦ cc ])
line_lists config (Applier k) s line could writes = absurd (elim (subst Writes could.2.1 writes) [ inl one ↦ cc | inr two ↦ cc ])
line_lists config (Tablet k) s line could writes = absurd could.2
line_lists config (Status j) s line could writes = absurd could.2

done_none : (m : Actor) (lose : Bool) (ss : List ServedAt) (t end : Told) (s : ServedAt) → Ran m lose ss (Done t) end → Member s ss → ⊥
unfolding Ran
done_none m lose ss t end s ran here = elim ran [
  | inl is ↦ no_member s ss is.0 here
  | inr none ↦ no_member s ss none.1 here
]

-- of a command that writes, each write carries what its listing found
pub line_settled : (config : Config) (m : Actor) (keeps : Keeps) (line : Command) (ss : List ServedAt) (end : Told) (s l : ServedAt) (x : ℕ) (path : Parts) (found : List Found) → CouldStart config m keeps line → Writes line → Ran m true ss (program_of config m keeps line) end → Member s ss → Member l ss →
    l.asked ≡ request.ListWrite x path → l.reply ≡ reply.Others found → Settled s.asked found
line_settled config m keeps line ss end s l x path found could writes ran here there asks says = elim (line_lists config m keeps line could writes) [
  | inl lists ↦ ran_settled m true ss (program_of config m keeps line) end s l x path found lists ran here there asks says
  | inr at_once ↦ absurd (done_none m true ss (told.Refused at_once.0) end s (subst (λ (p : Program Told). Ran m true ss p end) at_once.1 ran) here)
]
