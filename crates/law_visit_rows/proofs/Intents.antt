-- The transaction of a provisional write that becomes a version is that of the version.
use Rattle.std.proofs.Common.{◌≡◌, ℕ, true, Some, refl, sym, ◌∙◌, ap, subst, inl, inr, arith}
use Rattle.doc_path.specs.Path.{Parts, related}
use Rattle.txn_data.specs.declared.actor.Actor.{Actor}
use Rattle.txn_data.specs.declared.actor.Actor.TheVariants.{Tablet}
use Rattle.txn_data.specs.declared.append.Append.TheVariants.{Failed}
use Rattle.txn_data.specs.declared.config.Config.{Config}
use Rattle.txn_data.specs.declared.entry.Entry.{Entry}
use Rattle.txn_data.specs.declared.event.Event.{Event}
use Rattle.txn_data.specs.declared.event.Event.TheVariants.{Serve}
use Rattle.txn_data.specs.declared.reply.Reply.{Reply}
use Rattle.txn_data.specs.declared.reply.Reply.TheVariants as reply
use Rattle.txn_data.specs.declared.request.Request.TheVariants as request
use Rattle.txn_types.specs.Lists.{Member}
use Rattle.txn_types.specs.History.{History, own, same_actor, standing}
use Rattle.txn_types.specs.Tablet.{Intent, provisional}
use Rattle.txn_types.specs.Run.{Run}
use Rattle.law_machines.specs.Own.{StandsOver, ServesNext}
use Rattle.law_machines.proofs.Basics.{eq_cases, same_true, filter_member}
use Rattle.law_machines.proofs.Owns.{serves_at, member_stands, own_member, in_order, Before, After, One}
use Rattle.law_clocks.proofs.Runs.{member_before}
use Rattle.law_owners.proofs.Founds.{standing_part}
use Rattle.law_fates.specs.Laws.{CommittedAt}
use Rattle.law_session_order.proofs.Runs.{commits_above}
use Rattle.law_committed_writes.proofs.Kept.{intent_made}
use Rattle.law_committed_writes.proofs.Landing.{Makes}
use Rattle.law_write_order.specs.Laws.{IsCommittedWrite}
use Rattle.law_write_order.proofs.Order.{in_commit_order, write_txn}
use Rattle.law_versions.specs.Laws.{IsFront}
use Rattle.law_versions.proofs.Answered.{write_told}
use Rattle.law_values.proofs.Paths.{self_related}

-- the entry that wrote it
pub record WroteIt (h : History) (k c : ℕ) (p : Intent) : Type 0 where
  pub entry : Entry
  pub member : Member entry h
  pub actor : entry.actor ≡ Tablet k
  pub write : IsCommittedWrite h p.meta.txn c p.path entry entry.event

made_write : (config : Config) (h first : History) (k c : ℕ) (e : Entry) (p : Intent) (event : Event) → Run config h → Member e h → StandsOver e first h → e.actor ≡ Tablet k → e.event ≡ event → ServesNext config.lease_us (Tablet k) (own (Tablet k) first) e.reading event →
    CommittedAt h p.meta.txn c → Makes p.meta.txn p event → IsCommittedWrite h p.meta.txn c p.path e event
made_write config h first k c e p (Serve from (request.Write meta number path op read seen fates) r (Some w) append) run m stands actor is served committed makes =
    let mine : CommittedAt h meta.txn c = subst (λ (x : ℕ). CommittedAt h x c) (sym makes.0) committed in
    let never : append ≡ Failed → ⊥ = (commits_above config h e c number read seen from meta path op fates r (Some w) append run m is mine).0 in
    let told : r ≡ reply.Written w = write_told config.lease_us k (own (Tablet k) first) e.reading meta number path op read seen fates r w append served never in
    subst (λ (a : Reply). IsCommittedWrite h p.meta.txn c p.path e (Serve from (request.Write meta number path op read seen fates) a (Some w) append)) (sym told) (makes.0, sym (ap (λ (q : Intent). q.path) makes.1), committed)
made_write config h first k c e p event run m stands actor is served committed makes = absurd makes

front_member : (h before : History) (e : Entry) → IsFront before h → Member e before → Member e h
front_member h before e front m = elim front [
  | inl same ↦ subst (λ (g : History). Member e g) same m
  | inr at ↦ member_before e at.0 before h m at.1
]

pub wrote_it : (config : Config) (h before : History) (k c : ℕ) (p : Intent) → Run config h → IsFront before h → Member p (provisional (own (Tablet k) before)) → CommittedAt h p.meta.txn c → WroteIt h k c p
wrote_it config h before k c p run front m committed =
    let a = Tablet k in
    let made = intent_made (standing (own a before)) p m in
    let e = made.0 in
    let in_own = standing_part e (own a before) made.1 in
    let here : Member e h = front_member h before e front (own_member e a before in_own) in
    let actor : e.actor ≡ a = same_true e.actor a (filter_member (λ (f : Entry). same_actor f.actor a) e before in_own).1 in
    let place = member_stands e h here in
    let served : ServesNext config.lease_us a (own a place.0) e.reading e.event = subst (λ (d : Actor). ServesNext config.lease_us d (own d place.0) e.reading e.event) actor (serves_at config e place.0 h run.1 place.1) in
    record { entry = e; member = here; actor = actor; write = made_write config h place.0 k c e p e.event run here place.1 actor refl served committed made.2 }

-- two that wrote at one path of a tablet and are committed at one time are of one transaction
pub same_txn : (config : Config) (h : History) (k c : ℕ) (p q : Intent) → Run config h → WroteIt h k c p → WroteIt h k c q → p.path ≡ q.path → p.meta.txn ≡ q.meta.txn
same_txn config h k c p q run a b path = elim (eq_cases p.meta.txn q.meta.txn) [
  | inl same ↦ same.1
  | inr differ ↦
      let rel : related p.path q.path ≡ true = subst (λ (r : Parts). related p.path r ≡ true) path (self_related p.path) in
      let back : related q.path p.path ≡ true = subst (λ (r : Parts). related r p.path ≡ true) path (self_related p.path) in
      elim (in_order a.entry b.entry h a.member b.member) [
        | Before before stands first ↦ let le = (in_commit_order config h before a.entry b.entry p.meta.txn q.meta.txn c c p.path q.path run stands first (a.actor ∙ sym b.actor) a.write b.write differ.1 rel).0 in absurd (omega (arith, le))
        | After before stands first ↦ let le = (in_commit_order config h before b.entry a.entry q.meta.txn p.meta.txn c c q.path p.path run stands first (b.actor ∙ sym a.actor) b.write a.write (λ is. differ.1 (sym is)) back).0 in absurd (omega (arith, le))
        | One is ↦ write_txn h p.meta.txn q.meta.txn c c p.path q.path b.entry b.entry.event (subst (λ (e : Entry). IsCommittedWrite h p.meta.txn c p.path e e.event) is a.write) b.write
      ]
]
