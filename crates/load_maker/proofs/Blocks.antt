-- Each command of a made script can be said, so that its plan can be said and be run.
use Rattle.std.proofs.Common.{◌≡◌, ℕ, zero, suc, ◌+◌, ◌*◌, ◌%◌, ◌<◌, ◌≤◌, List, [], ◌∷◌, length, pos, refl, arith, false, lit<}
use Rattle.std.specs.Prelude.{All}
use Rattle.std.specs.Int.{w64}
use Rattle.std.specs.Int.RustNames.{FitsSigned}
use Rattle.std.proofs.lemmas.Int.{ints}
use Rattle.std.proofs.lemmas.List.{length_push}
use Rattle.std.proofs.lemmas.List.Elements.{All-cons, All-head, All-nil, All-tail, All-weaker}
use Rattle.txn_data.specs.declared.command.Command.TheVariants as command
use Rattle.txn_data.specs.declared.commands.Commands.{Commands}
use Rattle.txn_data.specs.declared.mover.Mover.{Mover}
use Rattle.txn_data.specs.declared.mover.Mover.TheVariants.{Session, Applier}
use Rattle.txn_types.specs.Plan.{IsSession}
use Rattle.txn_types.specs.Script.{IsRunnable}
use Rattle.cluster_config.specs.Head.{IsSpelled, largest}
use Rattle.script_text.specs.declared.line.Line.{Line}
use Rattle.script_text.specs.declared.line.Line.TheVariants.{Passed, Told, Goes}
use Rattle.script_text.specs.Saying.{IsColumn, IsMove, IsMover, IsPlaced, IsSaid, IsSpoken}
use Rattle.script_text.specs.Script.{nothing_said, said_after}
use Rattle.script_text.proofs.Heard.{IsFlag, IsFlagged, IsHeard, nothing_heard, rising_of_above, told_heard}
use Rattle.script_text.proofs.Runs.{runnable}
use Rattle.load_maker.specs.declared.draws.Draws.{Draws}
use Rattle.load_maker.specs.Made.{blocks_from, clock, cluster, document, draws_from, made, number_of, others, place, said_over, session, state, transaction, value, with_block}

fits : (draw : ℕ) → FitsSigned w64 (pos (draw % 1000))
fits draw = omega (arith, ints)

placed : (draw : ℕ) → IsPlaced cluster (place draw)
placed draw = record {
  key = (document draw).key;
  subkeys = (document draw).subkeys;
  key_in_range = record { hashed = (fits draw, tt); range = tt };
  subkeys_in_range = (lit< tt, tt);
  has = refl;
  is = refl;
}

column : (draw : ℕ) → IsColumn (value draw)
column draw = record { value = number_of draw; in_range = fits draw; column = refl; is = refl }

is_session : (draw : ℕ) → IsSession (session draw)
is_session draw = (omega arith, omega arith)

-- a line that tells a session of the cluster something that can be said
abbrev IsGood : Line → Type 0
IsGood Passed = ⊥
IsGood (Told s told) = IsSession s × IsSpoken cluster told
IsGood (Goes g) = ⊥

abbrev Heard : Commands → Type 0
Heard said = IsHeard cluster [] said

-- so many commands more
abbrev IsMore : ℕ → Commands → Commands → Type 0
IsMore n said next = length next.order ≡ length said.order + n

put : (said : Commands) (line : Line) → Heard said → IsGood line → length said.order < 100000
    → Heard (said_after said line) × IsMore 1 said (said_after said line)
put said Passed h good room = absurd good
put said (Told s told) h good room = (told_heard cluster [] said s told h good.0 good.1 room, length_push said.order s)
put said (Goes g) h good room = absurd good

over : (lines : List Line) (said : Commands) → Heard said → All IsGood lines → length said.order + length lines ≤ 100000
    → Heard (said_over said lines) × IsMore (length lines) said (said_over said lines)
over [] said h good room = (h, omega arith)
over (line ∷ lines) said h good room =
    let one = put said line h (All-head IsGood line lines good) (omega arith) in
    let more = over lines (said_after said line) one.0 (All-tail IsGood line lines good) (omega (arith, one.1)) in
    (more.0, omega (arith, more.1, one.1))

-- ---- a block

clock_good : (block ahead : ℕ) → block < 10000 → ahead ≤ 30 → IsGood (clock block ahead)
clock_good block ahead few near = ((omega arith, omega arith), (omega arith, omega arith))

all_five : (a b c d e : Line) → IsGood a → IsGood b → IsGood c → IsGood d → IsGood e → All IsGood (a ∷ b ∷ c ∷ d ∷ e ∷ [])
all_five a b c d e p q r s t =
    All-cons IsGood a (b ∷ c ∷ d ∷ e ∷ []) p (All-cons IsGood b (c ∷ d ∷ e ∷ []) q (All-cons IsGood c (d ∷ e ∷ []) r
    (All-cons IsGood d (e ∷ []) s (All-cons IsGood e [] t (All-nil IsGood)))))

transaction_good : (block : ℕ) (d : Draws) → block < 10000 → All IsGood (transaction block d)
transaction_good block d few =
    let s = session d.session in
    all_five (clock block 10) (Told s (command.Begin 0)) (Told s (command.Put (place d.key) (value d.value)))
    (Told s (command.Put (place d.other_key) (value d.other_value))) (Told s command.Commit)
    (clock_good block 10 few (omega arith)) (is_session d.session, omega arith) (is_session d.session, (placed d.key, column d.value))
    (is_session d.session, (placed d.other_key, column d.other_value)) (is_session d.session, tt)

others_good : (block : ℕ) (d : Draws) → block < 10000 → All IsGood (others block d)
others_good block d few =
    let s = session d.single_session in
    let read : All (IsPlaced cluster) (place d.read_key ∷ []) = All-cons (IsPlaced cluster) (place d.read_key) [] (placed d.read_key) (All-nil (IsPlaced cluster)) in
    all_five (clock block 20) (Told s (command.SinglePut (place d.single_key) (value d.single_value) 0)) (clock block 30)
    (Told s (command.Read false (place d.read_key ∷ []))) (Told s (command.Apply (block % 8)))
    (clock_good block 20 few (omega arith)) (is_session d.single_session, (placed d.single_key, column d.single_value, omega arith))
    (clock_good block 30 few (omega arith)) (is_session d.single_session, (omega arith, omega arith, read)) (is_session d.single_session, omega arith)

block_heard : (block : ℕ) (d : Draws) (said : Commands) → Heard said → block < 10000 → length said.order ≡ 10 * block
    → Heard (with_block block d said) × (length (with_block block d said).order ≡ 10 * (block + 1))
block_heard block d said h few long =
    let one = over (transaction block d) said h (transaction_good block d few) (omega arith) in
    let two = over (others block d) (said_over said (transaction block d)) one.0 (others_good block d few) (omega (arith, one.1)) in
    (two.0, omega (arith, one.1, two.1))

-- ---- all blocks

blocks_heard : (left block x : ℕ) (said : Commands) → Heard said → left + block ≤ 10000 → length said.order ≡ 10 * block
    → Heard (blocks_from left block x said)
unfolding blocks_from
blocks_heard zero block x said h few long = h
blocks_heard (suc left) block x said h few long =
    let next = block_heard block (draws_from x) said h (omega arith) long in
    blocks_heard left (block + 1) (state 9 x) (with_block block (draws_from x) said) next.0 (omega arith) next.1

pub cluster_spelled : IsSpelled cluster
cluster_spelled = record {
  cluster = record {
    nodes = (omega arith, omega arith);
    tablets = (omega arith, omega arith);
    status = (omega arith, omega arith);
    passes = omega arith;
    skew = omega arith;
    lease = (omega arith, omega arith);
  };
  number = omega arith;
  readings = All-cons (λ n. n ≤ largest) 1000000 [] (omega arith) (All-nil (λ n. n ≤ largest));
  as_many = refl;
}

made_heard : (blocks number : ℕ) → blocks ≤ 10000 → Heard (made blocks number)
made_heard blocks number few = blocks_heard blocks 0 number nothing_said (nothing_heard cluster []) (omega arith) (omega arith)

-- where no line begins with a session, none of the moves is that of one
no_session_moves : (plan : Commands) (m : Mover) → IsFlag cluster [] m → IsMover cluster plan m
no_session_moves plan (Session i) flag = absurd cc
no_session_moves plan (Applier k) there = there

-- a script can say a made plan
pub made_said : (blocks number : ℕ) → blocks ≤ 10000 → IsSaid cluster (made blocks number)
made_said blocks number few =
    let plan = made blocks number in
    let h = made_heard blocks number few in
    record {
      rising = rising_of_above 0 plan.sessions h.rising;
      sessions = h.sessions;
      order = h.order;
      few_commands = h.few_commands;
      moves = All-weaker (IsFlagged cluster []) (IsMove cluster plan) (λ g p. (no_session_moves plan g.who p.0, p.1, p.2)) plan.go h.moves;
      few_moves = h.few_moves;
      schedule = h.schedule;
    }

-- a made plan can be run
pub made_runs : (blocks number : ℕ) → blocks ≤ 10000 → IsRunnable cluster (made blocks number)
made_runs blocks number few = runnable cluster [] (made blocks number) cluster_spelled (made_heard blocks number few)
