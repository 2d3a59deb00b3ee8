use Rattle.std.proofs.Common.{◌≡◌, take, min}
use Rattle.script_text.specs.Terms.{decimal_value}
use Rattle.script_text.proofs.numbers.decimal_value.Given as goal

abbrev pub invariant-digits : goal.invariant-digits
invariant-digits l = l.number ≡ min (decimal_value (take l.byte-index l.text)) 0xFFFF_FFFF_FFFF_FFFF
