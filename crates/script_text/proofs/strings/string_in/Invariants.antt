use Rattle.std.proofs.Common.{◌≡◌, drop}
use Rattle.script_text.specs.declared.in_string.InString.TheVariants.{Plain}
use Rattle.script_text.specs.Terms.{onto, string_in}
use Rattle.script_text.proofs.strings.string_in.Given as goal

abbrev pub invariant-bytes : goal.invariant-bytes
invariant-bytes l = onto l.bytes.items (string_in (drop l.i l.text) l.at) ≡ string_in l.text Plain
