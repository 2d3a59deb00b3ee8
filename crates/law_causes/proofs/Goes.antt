-- What a refusal is told for, in terms of what its command heard; and programs that tell a refusal only for such a reason.
use Rattle.std.proofs.Common.{◌≡◌, ℕ, Bool, true, List, [], ◌∷◌, Option, Some, subst, inl, inr}
use Rattle.doc_path.specs.Path.{Parts}
use Rattle.txn_data.specs.declared.actor.Actor.{Actor}
use Rattle.txn_data.specs.declared.actor.Actor.TheVariants.{Tablet, Status}
use Rattle.txn_data.specs.declared.fate.Fate.TheVariants as fate
use Rattle.txn_data.specs.declared.fate_of.FateOf.{FateOf}
use Rattle.txn_data.specs.declared.found.Found.{Found}
use Rattle.txn_data.specs.declared.request.Request.{Request}
use Rattle.txn_data.specs.declared.request.Request.TheVariants as request
use Rattle.txn_data.specs.declared.reply.Reply.{Reply}
use Rattle.txn_data.specs.declared.reply.Reply.TheVariants as reply
use Rattle.txn_data.specs.declared.refusal.Refusal.{Refusal}
use Rattle.txn_data.specs.declared.refusal.Refusal.TheVariants as refusal
use Rattle.txn_data.specs.declared.read_end.ReadEnd.{ReadEnd}
use Rattle.txn_data.specs.declared.read_what.ReadWhat.{ReadWhat}
use Rattle.txn_data.specs.declared.read_what.ReadWhat.TheVariants as what
use Rattle.txn_data.specs.declared.told.Told.{Told}
use Rattle.txn_data.specs.declared.told.Told.TheVariants as told
use Rattle.txn_data.specs.declared.told_refusal.ToldRefusal.{ToldRefusal}
use Rattle.txn_data.specs.declared.told_refusal.ToldRefusal.TheVariants as told_refusal
use Rattle.txn_data.specs.declared.event.Event.TheVariants.{Serve}
use Rattle.txn_types.specs.Lists.{or_else}
use Rattle.txn_types.specs.History.{History}
use Rattle.txn_types.specs.Program.{Program, Done, Asks, Reads, then_do, refusal_told}
use Rattle.txn_types.specs.Cause.{WritesFor}
use Rattle.law_courses.specs.Course.{IsPart, Answer, entry_of, answered, Came}
use Rattle.law_courses.proofs.Parts.{part_more, part_trans, answer_lower}

-- it is no write
abbrev pub IsPlain : Request → Type 0
IsPlain (request.Write meta number path op read seen fates) = ⊥
IsPlain (request.Single x path op seen fates) = ⊥
IsPlain asked = Unit {0}

abbrev pub Carries : Request → List FateOf → Type 0
Carries (request.Write meta number path op read seen given) fates = given ≡ fates
Carries (request.Single x path op seen given) fates = given ≡ fates
Carries asked fates = ⊥

-- these fates are those of what was found, one after another, and none is Pending
unfoldable pub Settle : List FateOf → List Found → Type 0
Settle [] [] = Unit {0}
Settle (f ∷ fs) (g ∷ gs) = (f.txn ≡ g.txn) × (f.fate ≡ fate.Pending → ⊥) × Settle fs gs
Settle [] (g ∷ gs) = ⊥
Settle (f ∷ fs) [] = ⊥

-- a write carries the fates of all that its listing found
pub record Listed (H : Actor → Request → Reply → Type 0) (k : ℕ) (asked : Request) : Type 0 where
  pub txn : ℕ
  pub path : Parts
  pub found : List Found
  pub fates : List FateOf
  pub listing : H (Tablet k) (request.ListWrite txn path) (reply.Others found)
  pub writes : WritesFor asked txn path
  pub carries : Carries asked fates
  pub settle : Settle fates found

-- a tablet or a status tablet
abbrev pub IsMachineName : Actor → Type 0
IsMachineName (Tablet k) = Unit {0}
IsMachineName (Status j) = Unit {0}
IsMachineName a = ⊥

-- what a command heard that it tells a refusal for; `Strict` says that it may not restart
pub data Because (H : Actor → Request → Reply → Type 0) (Strict : Type 0) (why : ToldRefusal) : Type 0 where
  ByMachine : (a : Actor) (asked : Request) (r : Refusal) → H a asked (reply.Refused r) → IsPlain asked → IsMachineName a → refusal_told a r ≡ why → Because H Strict why
  ByWrite : (k : ℕ) (asked : Request) (r : Refusal) → H (Tablet k) asked (reply.Refused r) → Listed H k asked → refusal_told (Tablet k) r ≡ why → Because H Strict why
  ByPending : (j other by priority : ℕ) → H (Status j) (request.Resolve other by priority) (reply.FateIs fate.Pending) → told_refusal.Conflict other ≡ why → Because H Strict why
  ByAborted : (j x floor by : ℕ) (tablets : List ℕ) → H (Status j) (request.Commit x floor tablets) (reply.AbortedBy by) → told_refusal.Aborted by ≡ why → Because H Strict why
  ByMet : (k at : ℕ) (path : Parts) (asked : Request) → H (Tablet k) asked (reply.Met at path) → Strict → told_refusal.Restart at path ≡ why → Because H Strict why
  OutOfMemory : told_refusal.Memory ≡ why → Because H Strict why

abbrev pub ToldIs : (Actor → Request → Reply → Type 0) → Type 0 → Told → Type 0
ToldIs H Strict (told.Refused why) = Because H Strict why
ToldIs H Strict t = Unit {0}

-- how a read ends
abbrev pub WhatIs : (Actor → Request → Reply → Type 0) → Bool → ReadWhat → Type 0
WhatIs H strict (what.Values rows) = Unit {0}
WhatIs H strict (what.Restart at path) = (k : ℕ) × ((asked : Request) × H (Tablet k) asked (reply.Met at path)) × (strict ≡ true)
WhatIs H strict (what.Refused why) = Because H (strict ≡ true) why

abbrev pub EndIs : (Actor → Request → Reply → Type 0) → Bool → ReadEnd → Type 0
EndIs H strict end = WhatIs H strict end.what

-- whatever it hears of this, and out of memory in the place of it, it comes to an end of this kind
abbrev pub Goes : {A : Type 0} → (Actor → Request → Reply → Type 0) → (A → Type 0) → Program A → Type 0
Goes H T (Done a) = T a
Goes H T (Asks to asked next) =
    ((r : Reply) → H to asked r → Goes H T (next r)) × ((k : Bool) → asked ≡ request.Restart → Goes H T (next (reply.Restarted k))) × Goes H T (next (reply.Refused refusal.Memory))
Goes H T (Reads given) = (n : ℕ) → Goes H T (given n)

pub then_goes : {A B : Type 0} (H : Actor → Request → Reply → Type 0) (T : A → Type 0) (U : B → Type 0) (p : Program A) (next : A → Program B) → Goes H T p → ((a : A) → T a → Goes H U (next a)) → Goes H U (then_do p next)
unfolding then_do
then_goes H T U (Done a) next goes rest = rest a goes
then_goes H T U (Asks to asked heard) next goes rest = (
  λ r h. then_goes H T U (heard r) next (goes.0 r h) rest,
  λ k is. then_goes H T U (heard (reply.Restarted k)) next (goes.1 k is) rest,
  then_goes H T U (heard (reply.Refused refusal.Memory)) next goes.2 rest,
)
then_goes H T U (Reads given) next goes rest = λ n. then_goes H T U (given n) next (goes n) rest

-- all answers of a mover since this part of the history were heard so
abbrev pub AllHeard : (Actor → Request → Reply → Type 0) → Actor → History → History → Type 0
AllHeard H m h low = (to : Actor) (asked : Request) (a : Answer m to asked h low) → H to asked a.reply

-- what such a program came to
pub goes_came : {A : Type 0} (H : Actor → Request → Reply → Type 0) (T : A → Type 0) (m : Actor) (h z : History) (own : Option ℕ) (low : History) (had : Option ℕ) (p : Program A) (end : A) →
    AllHeard H m h z → IsPart z low → Goes H T p → Came m h own low had p end → T end
unfolding Came
goes_came H T m h z own low had (Done a) end all part goes came = subst T came.0 goes
goes_came H T m h z own low had (Asks to asked next) end all part goes came = elim came [
  | inl heard ↦
      let a = heard.0 in
      goes_came H T m h z own (answered m to asked h low a) had (next a.reply) end all
      (part_more z (entry_of to a.reading (Serve m asked a.reply a.time a.append)) a.before (part_trans z low a.before part a.later))
      (goes.0 a.reply (all to asked (answer_lower m to asked h z low part a))) heard.1
  | inr other ↦ elim other [
    | inl restart ↦ goes_came H T m h z own low had (next (reply.Restarted restart.1.0)) end all part (goes.1 restart.1.0 restart.0) restart.1.1
    | inr none ↦ goes_came H T m h z own low had (next (reply.Refused refusal.Memory)) end all part goes.2 none
  ]
]
goes_came H T m h z own low had (Reads given) end all part goes came = elim came.1 [
  | inl more ↦ goes_came H T m h z own low (or_else had (Some came.0)) (given came.0) end all part (goes came.0) more
  | inr once ↦ subst (λ (p : Program _). Goes H T p) once (goes came.0)
]
