-- At each turn the digits of what is left, and then the text from the place on, are the whole text.
use Rattle.std.proofs.Common.{◌≡◌, ◌++◌, length, drop}
use Rattle.lines.specs.Output.{hex_text}
use Rattle.lines.proofs.output.hex_text.Given as goal

abbrev pub invariant-loop-i : goal.invariant-loop-i
invariant-loop-i l = (length l.text ≡ 16) × (hex_text l.i l.rest ++ drop l.i l.text ≡ hex_text 16 l.bits)
