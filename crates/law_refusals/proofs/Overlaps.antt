-- What an Overlap names: the commit time of a committed transaction that has a write on a related path.
use Rattle.std.proofs.Common.{◌≡◌, ℕ, Bool, true, false, ◌&&◌, ◌||◌, not, List, [], ◌∷◌, Option, Some, None, max, map, filter, filter_map, nat_lt, refl, sym, ◌∙◌, ap, subst, inl, inr, ◌⊎◌, if◌then◌else◌, arith}
use Rattle.std.proofs.lemmas.Bool.{and_parts}
use Rattle.std.specs.List.{list_any, cons_option}
use Rattle.doc_path.specs.Path.{Parts, related}
use Rattle.txn_data.specs.declared.actor.Actor.{Actor}
use Rattle.txn_data.specs.declared.actor.Actor.TheVariants.{Tablet}
use Rattle.txn_data.specs.declared.append.Append.{Append}
use Rattle.txn_data.specs.declared.committed_txn.CommittedTxn.{CommittedTxn}
use Rattle.txn_data.specs.declared.config.Config.{Config}
use Rattle.txn_data.specs.declared.fate.Fate.{Fate}
use Rattle.txn_data.specs.declared.fate.Fate.TheVariants as fate
use Rattle.txn_data.specs.declared.fate_of.FateOf.{FateOf}
use Rattle.txn_data.specs.declared.meta.Meta.{Meta}
use Rattle.txn_data.specs.declared.op.Op.{Op}
use Rattle.txn_data.specs.declared.version.Version.{Version}
use Rattle.txn_data.specs.declared.written.Written.{Written}
use Rattle.txn_data.specs.declared.request.Request.TheVariants as request
use Rattle.txn_data.specs.declared.reply.Reply.{Reply}
use Rattle.txn_data.specs.declared.event.Event.TheVariants.{Serve}
use Rattle.txn_data.specs.declared.entry.Entry.{Entry}
use Rattle.txn_types.specs.Lists.{Member, or_zero}
use Rattle.txn_types.specs.History.{History, own}
use Rattle.txn_types.specs.Tablet.{Intent, is_of, txn_of, version_at, provisional, versions, first_fate, commit_time, others_on, greatest_above, related_commits}
use Rattle.txn_types.specs.Committed.{committed}
use Rattle.txn_types.specs.Reads.{touches}
use Rattle.txn_types.specs.Run.{Run}
use Rattle.law_machines.specs.Own.{StandsOver}
use Rattle.law_machines.proofs.Basics.{member_cases, member_map, map_member, filter_member}
use Rattle.law_machines.proofs.Owns.{stands_member, member_stands, stands_trans}
use Rattle.law_fates.specs.Laws.{Tells, CommittedAt}
use Rattle.law_fates.proofs.Runs.{told_committed}
use Rattle.law_carried_fates.specs.Laws.{Carries}
use Rattle.law_carried_fates.proofs.Runs.{fates_told}
use Rattle.law_write_order.proofs.Found.{first_member}
use Rattle.law_values.specs.Laws.{Ranked, rank}
use Rattle.law_versions.specs.Laws.{IsMadeIn, IsFront}
use Rattle.law_versions.proofs.Runs.{are_commits, are_writes}
use Rattle.law_folds.proofs.Ranks.{ranks}
use Rattle.law_folds.proofs.Made.{its, version_rank}

-- ## the greatest time above another is one of those that are given

greater_is : (c d : ℕ) → (max c d ≡ c) ⊎ (max c d ≡ d)
greater_is c d = grind (arith)

above_choice : (b : Bool) (c at : ℕ) (rest : Option ℕ) (cs : List ℕ) → (if b then Some (max c (or_zero rest)) else rest) ≡ Some at → ((d : ℕ) → rest ≡ Some d → Member d cs) → (at ≡ c) ⊎ Member at cs
above_choice true c at None cs is more = let same : max c 0 ≡ at = cc in let here : at ≡ c = omega (arith, same) in inl here
above_choice true c at (Some d) cs is more =
    let same : max c d ≡ at = cc in
    elim (greater_is c d) [
      | inl first ↦ inl (sym same ∙ first)
      | inr later ↦ inr (more at (ap Some (sym later ∙ same)))
    ]
above_choice false c at rest cs is more = inr (more at is)

above_member : (read at : ℕ) (cs : List ℕ) → greatest_above read cs ≡ Some at → Member at cs
unfolding greatest_above
above_member read at [] is = cc
above_member read at (c ∷ cs) is = above_choice (nat_lt read c) c at (greatest_above read cs) cs is (λ d same. above_member read d cs same)

-- ## what makes a time one that a write has to be above

-- an entry of the tablet made a version at this time, on a path that is related to this one
record IsMet (h b : History) (k : ℕ) (path : Parts) (at : ℕ) : Type 0 where
  version : Version
  made : IsMadeIn h b k version
  on : related version.path path ≡ true
  commits : version.at ≡ at

-- a version does
met_version : (config : Config) (h b : History) (k : ℕ) (path : Parts) (at : ℕ) → Run config h → IsFront b h →
    Member at (map (λ (v : Version). v.at) (filter (λ (v : Version). related v.path path) (versions (own (Tablet k) b)))) → IsMet h b k path at
met_version config h b k path at run front m =
    let vs = versions (own (Tablet k) b) in
    let v = map_member (λ (u : Version). u.at) at (filter (λ (u : Version). related u.path path) vs) m in
    let f = filter_member (λ (u : Version). related u.path path) v.0 vs v.1 in
    record { version = v.0; made = are_commits config h b k v.0 run front f.0; on = f.1; commits = sym v.2 }

option_cases : {B : Type 0} (o : Option B) (y : B) (ys : List B) → Member y (cons_option o ys) → (o ≡ Some y) ⊎ Member y ys
option_cases (Some w) y ys m = elim m [ inl is ↦ inl (ap Some (sym is)) | inr more ↦ inr more ]
option_cases None y ys m = inr m

mapped_member : {A B : Type 0} (g : A → Option B) (y : B) (xs : List A) → Member y (filter_map g xs) → (x : A) × Member x xs × (g x ≡ Some y)
mapped_member g y [] m = absurd m
mapped_member g y (x ∷ xs) m = elim (option_cases (g x) y (filter_map g xs) m) [
  | inl here ↦ (x, inl refl, here)
  | inr more ↦ let r = mapped_member g y xs more in (r.0, inr r.1, r.2)
]

fate_is : (f : Option Fate) (at : ℕ) → commit_time f ≡ Some at → f ≡ Some (fate.Committed at)
fate_is None at is = cc
fate_is (Some fate.Pending) at is = cc
fate_is (Some (fate.Committed c)) at is = let same : c ≡ at = cc in ap (λ (n : ℕ). Some (fate.Committed n)) same
fate_is (Some fate.Aborted) at is = cc
fate_is (Some fate.Absent) at is = cc

member_later : (b h : History) (e f : Entry) → StandsOver e b h → Member f b → Member f h
member_later b h e f stands m = let first = member_stands f b m in stands_member f first.0 h (stands_trans f e first.0 b h first.1 stands)

-- a first fate that a request carries was told before, so that the transaction is committed then
fate_committed : (config : Config) (h b : History) (e : Entry) (fates : List FateOf) (x at : ℕ) → Run config h → StandsOver e b h → Carries e.event fates → commit_time (first_fate fates x) ≡ Some at → CommittedAt h x at
fate_committed config h b e fates x at run stands carries is =
    let f = first_member fates x (fate.Committed at) (fate_is (first_fate fates x) at is) in
    let told = (fates_told config h b e fates f.0 run stands carries f.1).1 in
    subst (λ (y : ℕ). CommittedAt h y at) f.2
    (told_committed config h told.0 f.0.txn at run (member_later b h e told.0 stands told.1) (subst (λ (g : Fate). Tells f.0.txn told.0.event g) f.3 told.2))

-- a provisional write of another transaction, whose fate is Committed, does
met_fate : (config : Config) (h b : History) (k : ℕ) (e : Entry) (fates : List FateOf) (x : ℕ) (path : Parts) (at : ℕ) → Run config h → StandsOver e b h → Carries e.event fates →
    Member at (filter_map (λ (p : Intent). commit_time (first_fate fates (txn_of p))) (others_on x path (provisional (own (Tablet k) b)))) → IsMet h b k path at
met_fate config h b k e fates x path at run stands carries m =
    let ps = provisional (own (Tablet k) b) in
    let p = mapped_member (λ (q : Intent). commit_time (first_fate fates (txn_of q))) at (others_on x path ps) m in
    let f = filter_member (λ (q : Intent). not (is_of x q) && related q.path path) p.0 ps p.1 in
    let done = fate_committed config h b e fates (txn_of p.0) at run stands carries p.2 in
    record {
      version = version_at at p.0;
      made = are_writes config h b k at p.0 run (inr (e, stands)) f.0 done;
      on = (and_parts (not (is_of x p.0)) (related p.0.path path) f.1).1;
      commits = refl;
    }

-- ## such a version is a write of what is committed

any_choice : (b c : Bool) → (b ≡ true) ⊎ (c ≡ true) → (b || c) ≡ true
any_choice true c is = refl
any_choice false c is = elim is [ inl here ↦ cc | inr later ↦ later ]

any_of : {A : Type 0} (test : A → Bool) (xs : List A) (x : A) → Member x xs → test x ≡ true → list_any test xs ≡ true
any_of test [] x m is = absurd m
any_of test (y ∷ ys) x m is = any_choice (test y) (list_any test ys) (elim m [
  | inl here ↦ inl (ap test (sym here) ∙ is)
  | inr more ↦ inr (any_of test ys x more is)
])

-- what is committed at this time and has a write on a related path
abbrev IsRelated : History → Parts → ℕ → Type 0
IsRelated h path at = (commit : CommittedTxn) × Member commit (committed h) × (commit.at ≡ at) × (touches (path ∷ []) commit ≡ true)

met_related : (config : Config) (h b : History) (k : ℕ) (e : Entry) (path : Parts) (at : ℕ) → Run config h → StandsOver e b h → IsMet h b k path at → IsRelated h path at
met_related config h b k e path at run stands met =
    let v = met.version in
    let made = met.made in
    let x = version_rank config h k v run (made.0, member_later b h e made.0 stands made.1, made.2, made.3) in
    let w : Written = record { path = v.path; op = v.op } in
    let of : Member w x.0.writes = subst (λ (ws : List Written). Member w ws) (sym (its config h x.0 run x.1).writes) (member_map (λ (r : Ranked). r.write) (rank v) (ranks h x.0) x.3) in
    (x.0, x.1, x.2 ∙ met.commits, any_of (λ (u : Written). list_any (related u.path) (path ∷ [])) x.0.writes w of (any_of (related v.path) (path ∷ []) path (inl refl) met.on))

-- a related write of what is committed, at the time that an Overlap names
pub overlap_commit : (config : Config) (h b : History) (k : ℕ) (m : Actor) (meta : Meta) (number : ℕ) (path : Parts) (op : Op) (read seen : ℕ) (fates : List FateOf) (reading : Option ℕ) (r : Reply) (time : Option ℕ) (append : Append) (at : ℕ) →
    Run config h → StandsOver (record { actor = Tablet k; reading = reading; event = Serve m (request.Write meta number path op read seen fates) r time append }) b h →
    greatest_above read (related_commits meta.txn path fates (provisional (own (Tablet k) b)) (versions (own (Tablet k) b))) ≡ Some at →
    (commit : CommittedTxn) × Member commit (committed h) × (commit.at ≡ at) × (touches (path ∷ []) commit ≡ true)
overlap_commit config h b k m meta number path op read seen fates reading r time append at run stands is =
    let e : Entry = record { actor = Tablet k; reading = reading; event = Serve m (request.Write meta number path op read seen fates) r time append } in
    let ps = provisional (own (Tablet k) b) in
    let vs = versions (own (Tablet k) b) in
    let above = above_member read at (related_commits meta.txn path fates ps vs) is in
    met_related config h b k e path at run stands
    (elim (member_cases at (map (λ (v : Version). v.at) (filter (λ (v : Version). related v.path path) vs)) (filter_map (λ (p : Intent). commit_time (first_fate fates (txn_of p))) (others_on meta.txn path ps)) above) [
      | inl old ↦ met_version config h b k path at run (inr (e, stands)) old
      | inr new ↦ met_fate config h b k e fates meta.txn path at run stands refl new
    ])
