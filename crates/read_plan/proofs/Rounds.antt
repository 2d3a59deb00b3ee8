-- What a round asks, how it ends, and what follows when a tablet has listed.
use Rattle.std.proofs.Common.{◌≡◌, ℕ, Bool, true, false, List, [], ◌∷◌, refl}
use Rattle.txn_data.specs.declared.actor.Actor.TheVariants.{Tablet, Status}
use Rattle.txn_data.specs.declared.fate_of.FateOf.{FateOf}
use Rattle.txn_data.specs.declared.found.Found.{Found}
use Rattle.txn_data.specs.declared.read_end.ReadEnd.{ReadEnd}
use Rattle.txn_data.specs.declared.request.Request.TheVariants as request
use Rattle.txn_data.specs.declared.reply.Reply.TheVariants as reply
use Rattle.txn_types.specs.Program.{Program, Ask, turn, heard}
use Rattle.txn_types.specs.ReadProgram.{Asked, Progress, paths_on, limit_of, fixed, ask_fates, read_done, round_one, round_two}
use Rattle.read_plan.specs.Stage.{round, limited, collecting}

pub round_asks : (first : Bool) (a : Asked) (s : Progress) (k : ℕ) (ks : List ℕ) →
    turn (round first a s (k ∷ ks)) ≡ Ask (Tablet k) (request.ListRead a.own_txn (paths_on k a.places) s.t a.g (limit_of k s.limits))
unfolding round_one round_two
round_asks true a s k ks = refl
round_asks false a s k ks = refl

pub round_listed : (first : Bool) (a : Asked) (s : Progress) (k : ℕ) (ks : List ℕ) (limit : ℕ) (others : List Found) →
    heard (round first a s (k ∷ ks)) (reply.Listed limit others)
    ≡ ask_fates (limited s k limit) others [] (collecting first a (limited s k limit) k (fixed k limit s.limits) ks)
unfolding round_one round_two
round_listed true a s k ks limit others = refl
round_listed false a s k ks limit others = refl

pub round_ends : (first : Bool) (a : Asked) (s : Progress) → (first ≡ true → s.restarts ≡ 0) → round first a s [] ≡ read_done a s
unfolding round_one round_two
round_ends true a s none = rw (none refl) refl
round_ends false a s none = refl

pub fates_end : (s : Progress) (fates : List FateOf) (next : List FateOf → Program ReadEnd) → ask_fates s [] fates next ≡ next fates
unfolding ask_fates
fates_end s fates next = refl

pub fates_asks : (s : Progress) (f : Found) (fs : List Found) (fates : List FateOf) (next : List FateOf → Program ReadEnd) →
    turn (ask_fates s (f ∷ fs) fates next) ≡ Ask (Status f.status) (request.AskFate f.txn s.t)
unfolding ask_fates
fates_asks s f fs fates next = refl
