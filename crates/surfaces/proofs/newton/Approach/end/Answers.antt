-- As many passes as the kind may take are Newton's method, which has an end. Assumes nothing.
use mathlib.Core.Path.{◌≡◌, sym, ap, ◌∙◌}
use mathlib.Core.Bool.{false≢true}
use native.Mathlib.Omega.{arith}
use Rattle.numbers.specs.Arithmetic.{0f}
use Rattle.surfaces.specs.Types.{no_polynomial}
use Rattle.surfaces.specs.Refusal.{Ended, told_passed}
use Rattle.surfaces.specs.Newton.{going, newton_end}
use Rattle.surfaces.specs.Parts.{shape_met}
use Rattle.surfaces.specs.declared.newton.Passed.{Passed}
use Rattle.surfaces.proofs.Shared.{kind_alone}
use Rattle.surfaces.proofs.Ways.{profile_bounds}
use Rattle.surfaces.proofs.Chains.{newton_chain, end_bounded}
use Rattle.surfaces.proofs.newton.Approach.end.Goals as goal
use Rattle.surfaces.proofs.newton.Approach.end.Goals.{After-chain}

-- what the passes came to
came : (c : After-chain) (x : Passed) → c.chain.result.passed ≡ x →
    let w = c.args.self.now in
    told_passed x ≡ (newton_end (shape_met w) w.vertex w.ray).answer
came c x e =
    let w = c.args.self.now in
    let l = c.limit.ensures ∙ sym (kind_alone w.profile w.polynomial no_polynomial w.semi 0f).1 in
    ap told_passed (sym e)
    ∙ ap (λ (r : Ended). r.answer)
    (rw l at c.chain.ensures
    ∙ newton_chain (shape_met w) w.vertex w.ray (profile_bounds w.profile w.polynomial w.semi).0 _)

pub chain-requires : goal.chain-requires
chain-requires c = omega (arith, (profile_bounds c.args.self.now.profile no_polynomial 0f).0, c.limit.ensures)

pub returns-in-Ended : goal.returns-in-Ended
returns-in-Ended c = came (goal.at.returns-in-Ended c).After-chain _ c.in-Ended.is

pub returns-in-Again : goal.returns-in-Again
returns-in-Again c =
    let p = (goal.at.returns-in-Again c).After-chain in
    let a = p.args in
    let over = (end_bounded (shape_met a.self.now) a.self.now.vertex a.self.now.ray
    (profile_bounds a.self.now.profile a.self.now.polynomial a.self.now.semi).0).0 in
    absurd (false≢true (sym over ∙ ap going (sym (came p _ c.in-Again.is))))
