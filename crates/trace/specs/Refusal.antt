-- Why a call is refused, in the numbers of the table "What comes back". Definitions only.
use Rattle.std.specs.Prelude.{ℕ}
use Rattle.recipe.specs.Fault.{fault_number}
use Rattle.trace.specs.declared.refusal.Why.{Why}
use Rattle.trace.specs.declared.refusal.Why.TheVariants.{Fault, BufferTooShort, StateDoesNotFit}

abbrev pub why_number : Why → ℕ
why_number (Fault f) = fault_number f
why_number BufferTooShort = 11
why_number StateDoesNotFit = 12
