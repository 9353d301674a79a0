-- An answer is known by what it tells: of two answers that a promise allows, each is the other. Definitions only.
use Rattle.surfaces.specs.Refusal.{OneToOne}
use Rattle.recipe.specs.Fault.{fault_number}
use Rattle.recipe.specs.Record.{told_record}
use Rattle.recipe.specs.Scan.{told_check}
use Rattle.recipe.specs.Source.{told_source}

pub record ToldOneToOne : Type 0 where
  pub fault : OneToOne fault_number
  pub check : OneToOne told_check
  pub reader : OneToOne told_record
  pub source : OneToOne told_source
