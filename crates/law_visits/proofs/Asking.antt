-- What a read asked about the transactions that a tablet listed.
use Rattle.std.proofs.Common.{◌≡◌, ℕ, List, [], ◌∷◌, ◌++◌, Option, refl, sym, ap, subst, inl, inr}
use Rattle.txn_data.specs.declared.actor.Actor.{Actor}
use Rattle.txn_data.specs.declared.actor.Actor.TheVariants.{Status}
use Rattle.txn_data.specs.declared.entry.Entry.{Entry}
use Rattle.txn_data.specs.declared.event.Event.TheVariants.{Serve}
use Rattle.txn_data.specs.declared.fate_of.FateOf.{FateOf}
use Rattle.txn_data.specs.declared.found.Found.{Found}
use Rattle.txn_data.specs.declared.read_end.ReadEnd.{ReadEnd}
use Rattle.txn_data.specs.declared.read_what.ReadWhat.{ReadWhat}
use Rattle.txn_data.specs.declared.read_what.ReadWhat.TheVariants as what
use Rattle.txn_data.specs.declared.refusal.Refusal.TheVariants as refusal
use Rattle.txn_data.specs.declared.reply.Reply.{Reply}
use Rattle.txn_data.specs.declared.reply.Reply.TheVariants as reply
use Rattle.txn_data.specs.declared.request.Request.{Request}
use Rattle.txn_data.specs.declared.request.Request.TheVariants as request
use Rattle.txn_data.specs.declared.told_refusal.ToldRefusal.{ToldRefusal}
use Rattle.txn_data.specs.declared.told_refusal.ToldRefusal.TheVariants as told_refusal
use Rattle.txn_types.specs.Lists.{Member}
use Rattle.txn_types.specs.History.{History}
use Rattle.txn_types.specs.Program.{Program, Done, Asks, refusal_told}
use Rattle.txn_types.specs.ReadProgram.{Progress, read_refused, ask_fates}
use Rattle.law_machines.proofs.Basics.{member_cases, member_left, member_right}
use Rattle.law_courses.specs.Course.{IsPart, entry_of, Answer, answered, Came}
use Rattle.law_courses.proofs.Parts.{part_refl, part_more, part_trans}
use Rattle.law_visits.specs.Visits.{fate_entry, WasAsked}

-- it ended with values
abbrev pub HasValues : ReadWhat → Type 0
HasValues (what.Values rows) = Unit {0}
HasValues w = ⊥

-- the end of a program, where it came from an answer or from out of memory
pub asks_came : {A : Type 0} (m : Actor) (h : History) (own : Option ℕ) (low : History) (had : Option ℕ) (to : Actor) (asked : Request) (next : Reply → Program A) (end : A) (R : Type 0) → (asked ≡ request.Restart → ⊥) →
    Came m h own low had (Asks to asked next) end →
    ((a : Answer m to asked h low) → Came m h own (answered m to asked h low a) had (next a.reply) end → R) → (Came m h own low had (next (reply.Refused refusal.Memory)) end → R) → R
unfolding Came
asks_came m h own low had to asked next end R never came heard lost_it = elim came [
  | inl answer ↦ heard answer.0 answer.1
  | inr other ↦ elim other [
    | inl restart ↦ absurd (never restart.0)
    | inr none ↦ lost_it none
  ]
]

pub came_done : {A : Type 0} (m : Actor) (h : History) (own : Option ℕ) (low : History) (had : Option ℕ) (a end : A) → Came m h own low had (Done a) end → a ≡ end
unfolding Came
came_done m h own low had a end came = came.0

-- a read that was refused has no values
pub refused_came : (m : Actor) (h : History) (own : Option ℕ) (low : History) (had : Option ℕ) (why : ToldRefusal) (s : Progress) (end : ReadEnd) → Came m h own low had (read_refused why s) end → HasValues end.what → ⊥
refused_came m h own low had why s end came values =
    let is = came_done m h own low had (record { what = what.Refused why; t = s.t; restarts = s.restarts; limits = s.limits }) end came in
    subst (λ (e : ReadEnd). HasValues e.what) (sym is) values

-- ## the fates

abbrev pub AllAsked : Actor → ℕ → History → History → List FateOf → Type 0
AllAsked m t low high fates = (f : FateOf) → Member f fates → WasAsked m t low high f

pub asked_on : (m : Actor) (t : ℕ) (low mid high : History) (fates : List FateOf) → IsPart mid high → AllAsked m t low mid fates → AllAsked m t low high fates
asked_on m t low mid high fates part all f of = let a = all f of in (a.0, part_trans (fate_entry m t f a.0 ∷ a.0.before) mid high a.1 part, a.2)

-- what the asking came to: answers for these, and for those asked before
pub record Asked (m : Actor) (h : History) (own : Option ℕ) (low mid : History) (had : Option ℕ) (t : ℕ) (fs : List Found) (fates : List FateOf) (next : List FateOf → Program ReadEnd) (end : ReadEnd) : Type 0 where
  pub found : List FateOf
  pub high : History
  pub part : IsPart mid high
  pub told : AllAsked m t low high found
  pub each : (o : Found) → Member o fs → (f : FateOf) × Member f found × (f.txn ≡ o.txn)
  pub old : (f : FateOf) → Member f fates → Member f found
  pub came : Came m h own high had (next found) end

abbrev asked_next : Progress → Found → List Found → List FateOf → (List FateOf → Program ReadEnd) → Reply → Program ReadEnd
asked_next s f fs fates next r = elim r [
  | reply.FateIs fate ↦ ask_fates s fs (fates ++ (record { txn = f.txn; fate = fate }) ∷ []) next
  | reply.Refused why ↦ read_refused (refusal_told (Status f.status) why) s
  | _ ↦ read_refused told_refusal.Memory s
]

-- the same of what is left to ask
abbrev Deeper : Actor → History → Option ℕ → History → Option ℕ → Progress → List Found → (List FateOf → Program ReadEnd) → ReadEnd → Type 0
Deeper m h own low had s fs next end = (fates : List FateOf) (high : History) → IsPart low high → AllAsked m s.t low high fates → Came m h own high had (ask_fates s fs fates next) end → Asked m h own low high had s.t fs fates next end

-- with one answer more
one_more : (m : Actor) (t : ℕ) (low mid : History) (fates : List FateOf) (f : FateOf) → AllAsked m t low mid fates → WasAsked m t low mid f → AllAsked m t low mid (fates ++ f ∷ [])
one_more m t low mid fates f all new g of = elim (member_cases g fates (f ∷ []) of) [
  | inl old ↦ all g old
  | inr here ↦ elim here [
    | inl is ↦ subst (λ (k : FateOf). WasAsked m t low mid k) (sym is) new
    | inr none ↦ absurd none
  ]
]

pub fates_came : (m : Actor) (h : History) (own : Option ℕ) (low mid : History) (had : Option ℕ) (s : Progress) (fs : List Found) (fates : List FateOf) (next : List FateOf → Program ReadEnd) (end : ReadEnd) → IsPart low mid → AllAsked m s.t low mid fates → HasValues end.what →
    Came m h own mid had (ask_fates s fs fates next) end → Asked m h own low mid had s.t fs fates next end
unfolding ask_fates
fates_came m h own low mid had s [] fates next end part all values came = record {
  found = fates;
  high = mid;
  part = part_refl mid;
  told = all;
  each = λ o none. absurd none;
  old = λ f of. of;
  came = came;
}
fates_came m h own low mid had s (f ∷ fs) fates next end part all values came =
    let asked = request.AskFate f.txn s.t in
    let on : Deeper m h own low had s fs next end = λ more high below told came. fates_came m h own low high had s fs more next end below told values came in
    asks_came m h own mid had (Status f.status) asked (asked_next s f fs fates next) end (Asked m h own low mid had s.t (f ∷ fs) fates next end) (λ never. cc) came
    (λ a more. fate_came on a a.reply refl more)
    (λ more. absurd (refused_came m h own mid had (refusal_told (Status f.status) refusal.Memory) s end more values))
  where
    fate_came : Deeper m h own low had s fs next end → (a : Answer m (Status f.status) (request.AskFate f.txn s.t) h mid) (r : Reply) → a.reply ≡ r → Came m h own (answered m (Status f.status) (request.AskFate f.txn s.t) h mid a) had (asked_next s f fs fates next r) end →
        Asked m h own low mid had s.t (f ∷ fs) fates next end
    fate_came on a (reply.FateIs fate) is came =
        let e = entry_of (Status f.status) a.reading (Serve m (request.AskFate f.txn s.t) a.reply a.time a.append) in
        let k = entry_of (Status f.status) a.reading (Serve m (request.AskFate f.txn s.t) (reply.FateIs fate) a.time a.append) in
        let same : e ≡ k = ap (λ (r : Reply). entry_of (Status f.status) a.reading (Serve m (request.AskFate f.txn s.t) r a.time a.append)) is in
        let high = e ∷ a.before in
        let up : IsPart mid high = part_more mid e a.before a.later in
        let new : WasAsked m s.t low high (record { txn = f.txn; fate = fate }) = (
          record { status = f.status; reading = a.reading; time = a.time; append = a.append; before = a.before },
          subst (λ (g : Entry). IsPart (g ∷ a.before) high) same (part_refl high),
          part_trans low mid a.before part a.later,
        ) in
        let more = fates ++ (record { txn = f.txn; fate = fate }) ∷ [] in
        let r = on more high (part_trans low mid high part up) (one_more m s.t low high fates (record { txn = f.txn; fate = fate }) (asked_on m s.t low mid high fates up all) new) came in
        record {
          found = r.found;
          high = r.high;
          part = part_trans mid high r.high up r.part;
          told = r.told;
          each = λ o of. elim of [
            | inl here ↦ (record { txn = f.txn; fate = fate }, r.old (record { txn = f.txn; fate = fate }) (member_right (record { txn = f.txn; fate = fate }) fates ((record { txn = f.txn; fate = fate }) ∷ []) (inl refl)), ap (λ (p : Found). p.txn) (sym here))
            | inr there ↦ r.each o there
          ];
          old = λ g of. r.old g (member_left g fates ((record { txn = f.txn; fate = fate }) ∷ []) of);
          came = r.came;
        }
    fate_came on a (reply.Refused why) is came = absurd (refused_came m h own (answered m (Status f.status) (request.AskFate f.txn s.t) h mid a) had (refusal_told (Status f.status) why) s end came values)
    fate_came on a r is came = absurd (refused_came m h own (answered m (Status f.status) (request.AskFate f.txn s.t) h mid a) had told_refusal.Memory s end came values)
