use Rattle.std.proofs.Common.{◌≡◌, ◌∷◌, [], ◌++◌, ap, ap₂, false, refl, ◌∙◌, List}
use Rattle.txn_data.specs.declared.command.Command.TheVariants as command
use Rattle.txn_data.specs.declared.place.Place.{Place}
use Rattle.script_text.specs.declared.line.Line.TheVariants.{Told}
use Rattle.script_text.specs.Said.{said_of}
use Rattle.script_text.specs.Script.{said_after}
use Rattle.load_maker.specs.Made.{clock, place, session, value}
use Rattle.load_maker.proofs.Steps.{told_next}
use Rattle.load_maker.proofs.plan.others.Goals as goal

pub returns : goal.returns
returns c =
    let d = c.args.draws.now in
    let s = session d.single_session in
    let put = command.SinglePut (place d.single_key) (value d.single_value) 0 in
    let read = command.Read false (place d.read_key ∷ []) in
    let one = said_after (said_of c.args.said.now) (clock c.args.block 20) in
    let two = said_after one (Told s put) in
    let three = said_after two (clock c.args.block 30) in
    let four = said_after three (Told s read) in
    let is = c.session-session.ensures in
    let written : said_of c.tell.new.said ≡ two =
    told_next _ _ one c.session-session.result s (command.SinglePut c.in_ok-written.written c.in_ok-single_value.single_value 0) put c.in_ok-tell.ensures c.in_ok-set_clock.ensures is
    (ap₂ (λ p v. command.SinglePut p v 0) c.in_ok-written.ensures c.in_ok-single_value.ensures) in
    let set : said_of c.set_clock-2.new.said ≡ three = c.in_ok-set_clock-2.ensures ∙ ap (λ said. said_after said (clock c.args.block 30)) written in
    let places : c.push.new.self ≡ place d.read_key ∷ [] =
    c.in_ok-push.ensures.ok ∙ ap₂ (λ (ps : List Place) (p : Place). ps ++ p ∷ []) c.new-places.ensures c.in_ok-place.ensures in
    let asked : said_of c.tell-2.new.said ≡ four =
    told_next _ _ three c.session-session.result s (command.Read false c.push.new.self) read c.in_ok-tell-2.ensures set is
    (ap (λ ps. command.Read false ps) places) in
    told_next _ _ four c.session-session.result s (command.Apply _) (command.Apply _) c.in_ok-tell-3.ensures asked is refl
