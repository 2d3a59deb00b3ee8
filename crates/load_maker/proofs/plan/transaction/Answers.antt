use Rattle.std.proofs.Common.{◌≡◌, ap₂, refl}
use Rattle.txn_data.specs.declared.command.Command.TheVariants as command
use Rattle.script_text.specs.declared.line.Line.TheVariants.{Told}
use Rattle.script_text.specs.Said.{said_of}
use Rattle.script_text.specs.Script.{said_after}
use Rattle.load_maker.specs.Made.{clock, place, session, value}
use Rattle.load_maker.proofs.Steps.{told_next}
use Rattle.load_maker.proofs.plan.transaction.Goals as goal

pub returns : goal.returns
returns c =
    let d = c.args.draws.now in
    let s = session d.session in
    let put = command.Put (place d.key) (value d.value) in
    let other = command.Put (place d.other_key) (value d.other_value) in
    let one = said_after (said_of c.args.said.now) (clock c.args.block 10) in
    let two = said_after one (Told s (command.Begin 0)) in
    let three = said_after two (Told s put) in
    let four = said_after three (Told s other) in
    let is = c.session-session.ensures in
    let begun : said_of c.tell.new.said ≡ two = told_next _ _ one c.session-session.result s (command.Begin 0) (command.Begin 0) c.in_ok-tell.ensures c.in_ok-set_clock.ensures is refl in
    let first : said_of c.tell-2.new.said ≡ three =
    told_next _ _ two c.session-session.result s (command.Put c.in_ok-first.first c.in_ok-value_there.value_there) put c.in_ok-tell-2.ensures begun is
    (ap₂ (λ p v. command.Put p v) c.in_ok-first.ensures c.in_ok-value_there.ensures) in
    let second : said_of c.tell-3.new.said ≡ four =
    told_next _ _ three c.session-session.result s (command.Put c.in_ok-second.second c.in_ok-other_value.other_value) other c.in_ok-tell-3.ensures first is
    (ap₂ (λ p v. command.Put p v) c.in_ok-second.ensures c.in_ok-other_value.ensures) in
    told_next _ _ four c.session-session.result s command.Commit command.Commit c.in_ok-tell-4.ensures second is refl
