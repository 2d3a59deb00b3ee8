-- How the values of a group are read from the left.
use Rattle.std.proofs.Common.{◌≡◌, ◌≢◌, ℕ, ◌<◌, List, [], ◌∷◌, ◌++◌, Option, Some, None, refl, sym, ap, ◌∙◌, arith, eq-eqb}
use Rattle.std.proofs.lemmas.List.{append_assoc}
use Rattle.std.proofs.lemmas.Bool.{ne_eqb}
use Rattle.doc_value.specs.declared.primitive.Primitive.{Primitive}
use Rattle.script_text.specs.declared.part_kind.PartKind.{PartKind}
use Rattle.script_text.specs.declared.marks.Marks.TheVariants.{OfPath}
use Rattle.script_text.specs.declared.no_term.NoTerm.{NoTerm}
use Rattle.script_text.specs.declared.no_term.NoTerm.TheVariants.{Other, Memory}
use Rattle.script_text.specs.Lines.{Text}
use Rattle.script_text.specs.Outcomes.{IsNone}
use Rattle.script_text.specs.Terms.{Group, group_step, group_to, onto_group, part_of}
use Rattle.script_text.specs.Words.{Piece, pieces_behind, pieces_of}
use Rattle.script_text.proofs.Parting.{pieces_behind_mark}

abbrev piece : Text → ℕ → Piece
piece text mark = record { text = text; mark = mark }

onto_group-onto_group : (a b : List Primitive) (rest : Option Group) → onto_group a (onto_group b rest) ≡ onto_group (a ++ b) rest
onto_group-onto_group a b None = refl
onto_group-onto_group a b (Some g) = ap (λ (vs : List Primitive). Some (record g { values = vs })) (sym (append_assoc a b g.values))

-- A group is read up to these pieces, of which the first has this text, and the group of all is this.
pub record Reading (front : List Primitive) (kind : PartKind) (between ends : ℕ) (text : Text) (mark : ℕ) (rest : Text) (all : Option Group) : Type 0 where
  pub pieces : List Piece
  pub said : onto_group front (group_to kind between ends pieces) ≡ all
  pub first : pieces ≡ piece text mark ∷ pieces_behind OfPath mark rest

-- the first text is read
step : (front : List Primitive) (kind : PartKind) (between ends : ℕ) (text : Text) (mark : ℕ) (rest : Text) (all : Option Group) (read : Option Primitive)
    → Reading front kind between ends text mark rest all → part_of kind text ≡ read
    → all ≡ onto_group front (group_step between ends mark (pieces_behind OfPath mark rest) (group_to kind between ends (pieces_behind OfPath mark rest)) read)
unfolding group_to
step front kind between ends text mark rest all read r reads =
    let more = pieces_behind OfPath mark rest in
    sym r.said ∙ (ap (λ (ps : List Piece). onto_group front (group_to kind between ends ps)) r.first
    ∙ ap (λ (o : Option Primitive). onto_group front (group_step between ends mark more (group_to kind between ends more) o)) reads)

-- a value that the second mark ends is the last
pub group_ends : (front : List Primitive) (kind : PartKind) (between ends : ℕ) (text : Text) (mark : ℕ) (rest : Text) (all : Option Group) (value : Primitive)
    → Reading front kind between ends text mark rest all → part_of kind text ≡ Some value → mark ≡ ends
    → all ≡ Some (record { values = front ++ value ∷ []; rest = pieces_behind OfPath ends rest })
group_ends front kind between ends text mark rest all value r reads is =
    let last = eq-eqb _ _ is in
    step front kind between ends text mark rest all (Some value) r reads
    ∙ rw last (ap (λ (m : ℕ). Some (record { values = front ++ value ∷ []; rest = pieces_behind OfPath m rest })) is)

-- one that the first mark ends is followed by others
pub group_more : (front : List Primitive) (kind : PartKind) (between ends : ℕ) (text : Text) (mark : ℕ) (rest : Text) (all : Option Group) (value : Primitive)
    → Reading front kind between ends text mark rest all → part_of kind text ≡ Some value → mark ≢ ends → mark ≡ between → 0 < between
    → onto_group (front ++ value ∷ []) (group_to kind between ends (pieces_of OfPath rest)) ≡ all
group_more front kind between ends text mark rest all value r reads other is some =
    let not_last = ne_eqb _ _ other in
    let goes_on = eq-eqb _ _ is in
    let behind = pieces_behind_mark OfPath mark rest (omega arith) in
    let more = pieces_behind OfPath mark rest in
    sym (step front kind between ends text mark rest all (Some value) r reads
    ∙ rw (not_last, goes_on) (onto_group-onto_group front (value ∷ []) (group_to kind between ends more)
    ∙ ap (λ (ps : List Piece). onto_group (front ++ value ∷ []) (group_to kind between ends ps)) behind))

pub group_breaks : (front : List Primitive) (kind : PartKind) (between ends : ℕ) (text : Text) (mark : ℕ) (rest : Text) (all : Option Group) (value : Primitive)
    → Reading front kind between ends text mark rest all → part_of kind text ≡ Some value → mark ≢ ends → mark ≢ between → all ≡ None
group_breaks front kind between ends text mark rest all value r reads other another =
    let not_last = ne_eqb _ _ other in
    let stops = ne_eqb _ _ another in
    step front kind between ends text mark rest all (Some value) r reads ∙ rw (not_last, stops) refl

pub group_fails : (e : NoTerm) (front : List Primitive) (kind : PartKind) (between ends : ℕ) (text : Text) (mark : ℕ) (rest : Text) (all : Option Group)
    → Reading front kind between ends text mark rest all → IsNone e (part_of kind text) → IsNone e all
group_fails Other front kind between ends text mark rest all r reads = step front kind between ends text mark rest all None r reads
group_fails Memory front kind between ends text mark rest all r reads = tt
