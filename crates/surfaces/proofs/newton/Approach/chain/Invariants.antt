use Prim.Native.Nat.{◌+◌, ◌-◌, ◌<◌}
use mathlib.Core.Path.{◌≡◌}
use Rattle.surfaces.specs.Surface.{passes, chain_by}
use Rattle.surfaces.specs.Parts.{shape_met}
use Rattle.surfaces.proofs.newton.Approach.chain.Given as goal

abbrev pub invariant-loop-v : goal.invariant-loop-v
invariant-loop-v l =
    let chain = chain_by (passes (shape_met l.self)) l.self.vertex l.self.ray in
    (l.taken < l.left) × (l.at ≡ l.made + l.taken) × (chain (l.left - l.taken) l.at l.u ≡ chain l.left l.made l.t)

abbrev pub decreases-loop-v : goal.decreases-loop-v
decreases-loop-v l = l.left - l.taken
