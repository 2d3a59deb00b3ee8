-- What a tablet tells of all its provisional writes was begun.
use Rattle.std.proofs.Common.{◌≡◌, ℕ, List, [], ◌∷◌, Option, Some, None, map, refl, sym, ◌∙◌, ap, subst, inl, inr, ◌⊎◌}
use Rattle.txn_data.specs.declared.actor.Actor.TheVariants.{Tablet}
use Rattle.txn_data.specs.declared.append.Append.{Append}
use Rattle.txn_data.specs.declared.config.Config.{Config}
use Rattle.txn_data.specs.declared.found.Found.{Found}
use Rattle.txn_data.specs.declared.request.Request.TheVariants as request
use Rattle.txn_data.specs.declared.reply.Reply.TheVariants as reply
use Rattle.txn_data.specs.declared.event.Event.{Event}
use Rattle.txn_data.specs.declared.event.Event.TheVariants.{Serve}
use Rattle.txn_data.specs.declared.entry.Entry.{Entry}
use Rattle.txn_types.specs.Lists.{Member, rising}
use Rattle.txn_types.specs.History.{History, own, standing}
use Rattle.txn_types.specs.Clock.{told_only, down_since}
use Rattle.txn_types.specs.Tablet.{Intent, txn_of, provisional, provisional_over, provisional_after, founds, home_in, tablet_standing}
use Rattle.txn_types.specs.Run.{Run, Serves}
use Rattle.law_machines.proofs.Basics.{member_cases, map_member, filter_member}
use Rattle.law_machines.proofs.Owns.{own_member, member_stands}
use Rattle.law_clocks.proofs.Runs.{member_before}
use Rattle.law_owners.proofs.Founds.{rising_member, standing_part}
use Rattle.law_open_txns.specs.Transaction.{Begun, IsWriteOf}
use Rattle.law_session_order.proofs.Runs.{writes_begun}

pub founds_member : (f : Found) (ps some : List Intent) → Member f (founds ps some) → (p : Intent) × Member p some × (p.meta.txn ≡ f.txn)
founds_member f ps some m =
    let r = map_member (λ (x : ℕ). record { txn = x; status = home_in x ps }) f (rising (map txn_of some)) m in
    let p = map_member txn_of r.0 some (rising_member r.0 (map txn_of some) r.1) in
    (p.0, p.1, sym p.2 ∙ sym (ap (λ (g : Found). g.txn) r.2))

intent_event : (ps : List Intent) (event : Event) (p : Intent) → Member p (provisional_after ps event) → Member p ps ⊎ IsWriteOf p.meta.txn event
intent_event ps (Serve from (request.Write meta number path op read seen fates) r (Some w) append) p m =
    elim (member_cases p ps ((record { meta = meta; number = number; path = path; op = op; wrote = w }) ∷ []) m) [
      | inl old ↦ inl old
      | inr new ↦ elim new [
        | inl is ↦ inr (sym (ap (λ (q : Intent). q.meta.txn) is))
        | inr none ↦ absurd none
      ]
    ]
intent_event ps (Serve from (request.Apply x at) r time append) p m = inl (filter_member _ p ps m).0
intent_event ps (Serve from (request.Clean x) r time append) p m = inl (filter_member _ p ps m).0
intent_event ps event p m = inl m

-- a provisional write stems from a write
pub intent_written : (l : History) (p : Intent) → Member p (provisional_over l) → (e : Entry) × Member e l × IsWriteOf p.meta.txn e.event
unfolding provisional_over
intent_written [] p m = absurd m
intent_written (e ∷ l) p m = elim (intent_event (provisional_over l) e.event p m) [
  | inl old ↦ let r = intent_written l p old in (r.0, inr r.1, r.2)
  | inr new ↦ (e, inl refl, new)
]

-- a transaction with a provisional write was begun
pub intent_begun : (config : Config) (k : ℕ) (g : History) (p : Intent) → Run config g → Member p (provisional (own (Tablet k) g)) → Begun g p.meta.txn
intent_begun config k g p run m =
    let w = intent_written (standing (own (Tablet k) g)) p m in
    let here : Member w.0 g = own_member w.0 (Tablet k) g (standing_part w.0 (own (Tablet k) g) w.1) in
    let place = member_stands w.0 g here in
    let b = writes_begun config g place.0 w.0 p.meta.txn run place.1 w.2 in
    (b.0, member_before b.0 w.0 place.0 g b.1 place.1, b.2)

abbrev pub AllBegun : History → List Found → Type 0
AllBegun h fs = (f : Found) → Member f fs → Begun h f.txn

same_intents : (fs gs : List Found) → reply.Intents fs ≡ reply.Intents gs → fs ≡ gs
same_intents fs gs is = cc

listed_standing : (d : Option ℕ) (fs gs : List Found) → reply.Intents fs ≡ (tablet_standing d (told_only (reply.Intents gs))).reply → fs ≡ gs
listed_standing (Some n) fs gs is = cc
listed_standing None fs gs is = same_intents fs gs is

pub intents_begun : (config : Config) (lease k : ℕ) (g : History) (reading : Option ℕ) (fs : List Found) (time : Option ℕ) (append : Append) → Run config g →
    Serves lease (Tablet k) (own (Tablet k) g) reading request.ListIntents (reply.Intents fs) time append → AllBegun g fs
intents_begun config lease k g reading fs time append run served f m =
    let ps = provisional (own (Tablet k) g) in
    let is : fs ≡ founds ps ps = listed_standing (down_since (own (Tablet k) g)) fs (founds ps ps) served.replied in
    let p = founds_member f ps ps (subst (λ (l : List Found). Member f l) is m) in
    subst (λ (x : ℕ). Begun g x) p.2 (intent_begun config k g p.0 run p.1)
