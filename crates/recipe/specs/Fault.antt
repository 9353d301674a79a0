-- What is wrong with a record, in the numbers of the table "What comes back". Definitions only.
use Rattle.std.specs.Prelude.{ℕ}
use Rattle.recipe.specs.declared.fault.Fault.{Fault}
use Rattle.recipe.specs.declared.fault.Fault.TheVariants.{BadParameter, NegativeSemiDiameter, Singular, Malformed}

abbrev pub fault_number : Fault → ℕ
fault_number BadParameter = 2
fault_number NegativeSemiDiameter = 3
fault_number Singular = 4
fault_number Malformed = 10
