use Rattle.surfaces.specs.Types.{coefficients_good}
use Rattle.surfaces.proofs.Terms.{every_finite_lem}
use Rattle.surfaces.proofs.types.Coefficients.is_good.Goals as goal

pub returns : goal.returns
unfolding coefficients_good
returns c = rw (every_finite_lem _ _ c.row_finite.ensures, c.terms.ensures.terms)
