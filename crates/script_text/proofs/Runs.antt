-- A plan that a script says can be run.
use Rattle.std.proofs.Common.{◌≡◌, ℕ, zero, suc, ◌+◌, ◌*◌, ◌^◌, ◌<◌, ◌≤◌, Bool, true, false, cond, List, [], ◌∷◌, ◌++◌, length, map, Some, Ok, nat_eq, inl, inr, refl, sym, ap, subst, ◌∙◌, arith}
use Rattle.std.specs.Prelude.{All, flat_map}
use Rattle.std.specs.List.{list_all}
use Rattle.std.proofs.lemmas.Bool.{and_parts, eqb-true, leb-true, eq-eqb}
use Rattle.std.proofs.lemmas.List.{append-nil, length-append, length-map}
use Rattle.std.proofs.lemmas.List.Elements.{All-append, All-cons, All-head, All-nil, All-tail, All-weaker}
use Rattle.std.proofs.lemmas.Result.{IfOk-at_ok}
use Rattle.std.proofs.Math.Nat.{mul-le-mul_right}
use Rattle.doc_key.specs.declared.doc_key.DocKey.{DocKey}
use Rattle.doc_key.specs.Hash.{hash_of}
use Rattle.doc_key.specs.Spelling as of_key
use Rattle.doc_key.proofs.Keys.{hash_of-lt, no_spelling_begins}
use Rattle.doc_value.specs.declared.primitive.Primitive.{Primitive}
use Rattle.doc_value.specs.declared.primitive.Primitive.TheVariants.{Int, Text as TextCase, False, True, Column}
use Rattle.doc_value.specs.Spelling as of_value
use Rattle.partition_map.specs.Partition.{owner}
use Rattle.txn_data.specs.declared.command.Command.{Command}
use Rattle.txn_data.specs.declared.command.Command.TheVariants as command
use Rattle.txn_data.specs.declared.commands.Commands.{Commands}
use Rattle.txn_data.specs.declared.config.Config.{Config}
use Rattle.txn_data.specs.declared.place.Place.{Place}
use Rattle.txn_data.specs.declared.session_plan.SessionPlan.{SessionPlan}
use Rattle.txn_types.specs.Lists.{Member}
use Rattle.txn_types.specs.Plan.{IsCluster, IsLine, IsPlace, IsSessionPlan, IsShort, OneTablet, first_part, plan_places, places_of}
use Rattle.txn_types.specs.Script.{IsRunnable, commands_of}
use Rattle.cluster_config.specs.Head.{IsSpelled}
use Rattle.script_text.specs.declared.document.Document.{Document}
use Rattle.script_text.specs.Saying.{IsColumn, IsPlaced, IsSpeaker, IsSpoken}
use Rattle.script_text.specs.Terms.{is_document, place_for, tablet_for}
use Rattle.script_text.specs.Commands.{flags_over, no_flags}
use Rattle.script_text.specs.Lines.{Text}
use Rattle.script_text.specs.Script.{body_of, nothing_said}
use Rattle.script_text.proofs.Bodies.{body_heard}
use Rattle.script_text.proofs.Heard.{IsHeard, RiseAbove, count-le, none_above, nothing_heard, rising_of_above}

-- ---- how long spellings are

escaped-le : (bytes : List ℕ) → length (of_value.escaped bytes) ≤ 2 * length bytes
escaped-le [] = omega arith
escaped-le (zero ∷ bytes) = omega (arith, escaped-le bytes)
escaped-le (suc b ∷ bytes) = omega (arith, escaped-le bytes)

abbrev IsFew : List ℕ → Type 0
IsFew bytes = (1 ≤ length bytes) × (length bytes ≤ 515)

value_few : (v : Primitive) → of_value.has_spelling v ≡ true → IsFew (of_value.spelling v)
value_few False e = (omega arith, omega arith)
value_few (Int z) e = (omega arith, omega arith)
value_few (Column n) e = (omega arith, omega arith)
value_few (TextCase bytes) e =
    let short = leb-true (length bytes) 256 e in
    let long = length-append (of_value.escaped bytes) (0 ∷ 0 ∷ []) in
    (omega arith, omega (arith, escaped-le bytes, short, long))
value_few True e = (omega arith, omega arith)

column_spelled : (v : Primitive) → of_key.is_column v ≡ true → of_value.has_spelling v ≡ true
column_spelled False e = refl
column_spelled (Int z) e = refl
column_spelled (Column n) e = refl
column_spelled (TextCase bytes) e = e
column_spelled True e = refl

columns-le : (group : List Primitive) → list_all of_key.is_column group ≡ true → length (of_key.columns group) ≤ 515 * length group
columns-le [] e = omega arith
columns-le (v ∷ group) e =
    let parts : (of_key.is_column v ≡ true) × (list_all of_key.is_column group ≡ true) = and_parts _ _ e in
    omega (arith, (value_few v (column_spelled v parts.0)).1, columns-le group parts.1, length-append (of_value.spelling v) (of_key.columns group))

hashed_len : (group : List Primitive) → list_all of_key.is_column group ≡ true → length (of_key.hashed_group group) ≤ 515 * length group + 4
hashed_len [] e = omega arith
hashed_len (v ∷ group) e =
    let all = of_key.columns (v ∷ group) in
    omega (arith, columns-le (v ∷ group) e, length-append all (0x21 ∷ []))

key_short : (key : DocKey) → of_key.has_spelling key ≡ true → IsShort (of_key.spelling key)
key_short key e =
    let one = and_parts _ _ e in
    let two = and_parts _ _ one.0 in
    let three : (list_all of_key.is_column key.hashed ≡ true) × (list_all of_key.is_column key.range ≡ true) = and_parts _ _ two.0 in
    let few : length key.hashed + length key.range ≤ 8 = leb-true _ _ one.1 in
    let range = of_key.columns key.range in
    let whole = length-append (of_key.hashed_group key.hashed) (range ++ 0x21 ∷ []) in
    let behind = length-append range (0x21 ∷ []) in
    (omega (arith, whole, behind), omega (arith, whole, behind, few, hashed_len key.hashed three.0, columns-le key.range three.1))

few_short : (bytes : List ℕ) → IsFew bytes → IsShort bytes
few_short bytes few = (few.0, omega (arith, few.1))

subkeys_short : (subkeys : List Primitive) → list_all of_value.has_spelling subkeys ≡ true → All IsShort (map of_value.spelling subkeys)
subkeys_short [] e = All-nil IsShort
subkeys_short (v ∷ subkeys) e =
    let parts = and_parts _ _ e in
    All-cons IsShort (of_value.spelling v) (map of_value.spelling subkeys) (few_short (of_value.spelling v) (value_few v parts.0)) (subkeys_short subkeys parts.1)

-- ---- places

owner-lt : (hash n : ℕ) → hash < 2 ^ 16 → 1 ≤ n → owner hash n < n
owner-lt hash n small some =
    let le : hash ≤ 65535 = omega (arith, small) in
    omega (arith, mul-le-mul_right n le, some)

tablet_there : (tablets : ℕ) (hashed : List Primitive) → 1 ≤ tablets → tablet_for tablets (of_key.hash_of_columns hashed) < tablets
tablet_there tablets [] some = some
tablet_there tablets (v ∷ hashed) some = owner-lt (hash_of (of_key.columns (v ∷ hashed))) tablets (hash_of-lt (of_key.columns (v ∷ hashed))) some

document_place : (config : Config) (d : Document) → IsCluster config → is_document d ≡ true → IsPlace config (place_for config.tablets d)
document_place config d is e =
    let one = and_parts _ _ e in
    let two = and_parts _ _ one.1 in
    let few : length d.subkeys ≤ 4 = leb-true _ _ two.1 in
    let long = length-map d.subkeys of_value.spelling in (
      tablet_there config.tablets d.key.hashed is.tablets.0,
      (
        omega arith,
        omega (arith, long, few),
        All-cons IsShort (of_key.spelling d.key) (map of_value.spelling d.subkeys) (key_short d.key one.0) (subkeys_short d.subkeys two.0),
      ),
    )

placed_place : (config : Config) (p : Place) → IsCluster config → IsPlaced config p → IsPlace config p
placed_place config p is placed =
    subst (IsPlace config) (sym placed.is) (document_place config (record { key = placed.key; subkeys = placed.subkeys }) is placed.has)

column_short : (bytes : List ℕ) → IsColumn bytes → IsShort bytes
column_short bytes c = subst IsShort (sym c.is) (few_short (of_value.spelling c.value) (value_few c.value (column_spelled c.value c.column)))

line_of_spoken : (config : Config) (c : Command) → IsCluster config → IsSpoken config c → IsLine config c
line_of_spoken config (command.Begin priority) is p = tt
line_of_spoken config (command.Put place v) is p = (placed_place config place is p.0, column_short v p.1)
line_of_spoken config (command.Del place) is p = placed_place config place is p
line_of_spoken config command.Commit is p = tt
line_of_spoken config command.Abort is p = tt
line_of_spoken config (command.Read strict places) is p =
    (p.0, p.1, All-weaker (IsPlaced config) (IsPlace config) (λ q. placed_place config q is) places p.2)
line_of_spoken config (command.Scan strict place) is p = placed_place config place is p
line_of_spoken config (command.SinglePut place v priority) is p = (placed_place config place is p.0, column_short v p.1)
line_of_spoken config (command.SingleDel place priority) is p = placed_place config place is p.0
line_of_spoken config (command.Restart actor) is p = p
line_of_spoken config (command.Apply tablet) is p = p
line_of_spoken config (command.Clock node micros) is p = p.0
line_of_spoken config command.End is p = absurd p

-- ---- each document on one tablet

command_places : (config : Config) (c : Command) → IsSpoken config c → All (IsPlaced config) (places_of c)
command_places config (command.Begin priority) p = All-nil (IsPlaced config)
command_places config (command.Put place v) p = All-cons (IsPlaced config) place [] p.0 (All-nil (IsPlaced config))
command_places config (command.Del place) p = All-cons (IsPlaced config) place [] p (All-nil (IsPlaced config))
command_places config command.Commit p = All-nil (IsPlaced config)
command_places config command.Abort p = All-nil (IsPlaced config)
command_places config (command.Read strict places) p = p.2
command_places config (command.Scan strict place) p = All-cons (IsPlaced config) place [] p (All-nil (IsPlaced config))
command_places config (command.SinglePut place v priority) p = All-cons (IsPlaced config) place [] p.0 (All-nil (IsPlaced config))
command_places config (command.SingleDel place priority) p = All-cons (IsPlaced config) place [] p.0 (All-nil (IsPlaced config))
command_places config (command.Restart actor) p = All-nil (IsPlaced config)
command_places config (command.Apply tablet) p = All-nil (IsPlaced config)
command_places config (command.Clock node micros) p = All-nil (IsPlaced config)
command_places config command.End p = absurd p

-- what holds of the items that each of a list gives
all_flat : {A B : Type 0} (f : A → List B) (P : A → Type 0) (Q : B → Type 0) (xs : List A) → ((x : A) → P x → All Q (f x)) → All P xs → All Q (flat_map f xs)
all_flat f P Q [] each all = All-nil Q
all_flat f P Q (x ∷ xs) each all =
    All-append Q (f x) (flat_map f xs) (each x (All-head P x xs all)) (all_flat f P Q xs each (All-tail P x xs all))

session_places : (config : Config) (p : SessionPlan) → IsSpeaker config p → All (IsPlaced config) (plan_places p)
session_places config p s = all_flat places_of (IsSpoken config) (IsPlaced config) p.commands (command_places config) s.2

member : {A : Type 0} (P : A → Type 0) (x : A) (xs : List A) → All P xs → Member x xs → P x
member {A = A} P x [] all m = absurd m
member {A = A} P x (y ∷ xs) all (inl e) = subst P (sym e) (All-head P y xs all)
member {A = A} P x (y ∷ xs) all (inr m) = member P x xs (All-tail P y xs all) m

some_is : {A : Type 0} (x y : A) → Some x ≡ Some y → x ≡ y
some_is {A = A} x y e = cc

one_tablet : (config : Config) (places : List Place) → All (IsPlaced config) places → OneTablet places
one_tablet config places all p q mp mq first =
    let a = member (IsPlaced config) p places all mp in
    let b = member (IsPlaced config) q places all mq in
    let spelled : of_key.spelling a.key ++ [] ≡ of_key.spelling b.key ++ [] =
    append-nil (of_key.spelling a.key) ∙ (some_is _ _ (sym (ap (λ (x : Place). first_part x.path) a.is) ∙ (first ∙ ap (λ (x : Place). first_part x.path) b.is)) ∙ sym (append-nil (of_key.spelling b.key))) in
    let keys = no_spelling_begins a.key b.key [] [] a.key_in_range b.key_in_range (and_parts _ _ a.has).0 (and_parts _ _ b.has).0 spelled in
    ap (λ (x : Place). x.tablet) a.is
    ∙ (ap (λ (k : DocKey). tablet_for config.tablets (of_key.hash_of_columns k.hashed)) keys.0
    ∙ sym (ap (λ (x : Place). x.tablet) b.is))

-- ---- the plan

few_each : (n most : ℕ) (plans : List SessionPlan) → RiseAbove n plans → ((i : ℕ) → length (commands_of i plans) ≤ most)
    → All (λ (p : SessionPlan). length p.commands ≤ most) plans
unfolding commands_of
few_each n most [] r few = All-nil (λ (p : SessionPlan). length p.commands ≤ most)
few_each n most (p ∷ plans) r few =
    let own : nat_eq p.session p.session ≡ true = eq-eqb p.session p.session refl in
    All-cons (λ (q : SessionPlan). length q.commands ≤ most) p plans (rw own at (few p.session))
    (few_each p.session most plans r.1 (λ i. go i (nat_eq p.session i) refl (few i)))
  where
    go : (i : ℕ) (b : Bool) → nat_eq p.session i ≡ b → length (cond b p.commands (commands_of i plans)) ≤ most → length (commands_of i plans) ≤ most
    go i true e le = rw (none_above p.session i plans r.1 (omega (arith, eqb-true _ _ e))) (omega arith)
    go i false e le = le

session_plan : (config : Config) (p : SessionPlan) → IsCluster config → IsSpeaker config p → length p.commands ≤ 100000 → IsSessionPlan config p
session_plan config p is s few =
    (s.0, omega (arith, few), All-weaker (IsSpoken config) (IsLine config) (λ c. line_of_spoken config c is) p.commands s.2)

session_plans : (config : Config) (plans : List SessionPlan) → IsCluster config → All (IsSpeaker config) plans
    → All (λ (p : SessionPlan). length p.commands ≤ 100000) plans → All (IsSessionPlan config) plans
session_plans config [] is all few = All-nil (IsSessionPlan config)
session_plans config (p ∷ plans) is all few =
    All-cons (IsSessionPlan config) p plans
    (session_plan config p is (All-head (IsSpeaker config) p plans all) (All-head (λ (q : SessionPlan). length q.commands ≤ 100000) p plans few))
    (session_plans config plans is (All-tail (IsSpeaker config) p plans all) (All-tail (λ (q : SessionPlan). length q.commands ≤ 100000) p plans few))

-- what was heard is a plan that can be run
pub runnable : (config : Config) (flags : List Bool) (plan : Commands) → IsSpelled config → IsHeard config flags plan → IsRunnable config plan
runnable config flags plan spelled h =
    let few : (i : ℕ) → length (commands_of i plan.sessions) ≤ 100000 = λ i. omega (arith, h.order i, count-le i plan.order, h.few_commands) in
    record {
      cluster = spelled.cluster;
      lines = record {
        rising = rising_of_above 0 plan.sessions h.rising;
        sessions = session_plans config plan.sessions spelled.cluster h.sessions (few_each 0 100000 plan.sessions h.rising few);
        one_tablet = one_tablet config (flat_map plan_places plan.sessions) (all_flat plan_places (IsSpeaker config) (IsPlaced config) plan.sessions (session_places config) h.sessions);
      };
      readings = spelled.as_many;
      order = h.order;
    }

-- a body that is read
pub body_runs : (config : Config) (first : ℕ) (lines : List Text) (plan : Commands) → IsSpelled config → body_of config first lines ≡ Ok plan → IsRunnable config plan
body_runs config first lines plan spelled is =
    let flags = flags_over no_flags lines in
    runnable config flags plan spelled
    (IfOk-at_ok (IsHeard config flags) is (body_heard config spelled.cluster flags lines nothing_said first (nothing_heard config flags)))
