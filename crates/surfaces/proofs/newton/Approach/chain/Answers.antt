-- The passes to come from here are those to come from the start. Assumes nothing.
use Rattle.std.specs.Prelude.{Result, Ok, Err}
use Prim.Native.Nat.{ℕ, suc, ◌+◌, ◌-◌}
use mathlib.Core.Path.{◌≡◌, refl, sym, ap, ◌∙◌}
use mathlib.Core.Bool.{true, false}
use native.Mathlib.Omega.{arith}
use native.Mathlib.Numerals.{add-one}
use Rattle.surfaces.specs.Refusal.{Ended, ended, told_crossing, told_passed}
use Rattle.surfaces.specs.Newton.{going, limited_pass}
use Rattle.surfaces.specs.Surface.{passes, chain_by}
use Rattle.surfaces.specs.Parts.{shape_met}
use Rattle.surfaces.specs.declared.types.Landing.{Landing}
use Rattle.surfaces.specs.declared.refusal.Refusal.{Refusal}
use Rattle.surfaces.specs.declared.newton.Passed.{Passed}
use Rattle.surfaces.proofs.Ways.{profile_bounds}
use Rattle.surfaces.proofs.Passes.{more}
use Rattle.surfaces.proofs.Chains.{chain_on, chain_off}
use Rattle.surfaces.proofs.Refusals.{never_going}
use Rattle.surfaces.proofs.newton.Approach.chain.Goals as goal
use Rattle.surfaces.proofs.newton.Approach.chain.Goals.{After-limited_pass-x}

-- behind a pass
abbrev Pass : Type 0
Pass = After-limited_pass-x

-- the passes that were asked for
abbrev asked : Pass → Ended
asked p =
    let a = p.args in
    chain_by (passes (shape_met a.self.now)) a.self.now.vertex a.self.now.ray a.left a.made a.t

-- after a pass that came to x
module _ (p : Pass) (x : Passed) (e : p.limited_pass-x.result ≡ x) where
  told : let a = p.args in
      told_passed x
      ≡ limited_pass (shape_met a.self.now) a.self.now.vertex a.self.now.ray p.loop-v.at p.loop-v.u
  told = ap told_passed (sym e) ∙ p.limited_pass-x.ensures

  abbrev rest : ℕ
  rest = p.args.left - suc p.loop-v.taken

  less : p.args.left - p.loop-v.taken ≡ suc rest
  less = omega (arith, p.loop-v.invariant.0)

  on : going (told_passed x) ≡ true → let a = p.args in
      chain_by (passes (shape_met a.self.now)) a.self.now.vertex a.self.now.ray rest (suc p.loop-v.at)
      (told_passed x).value.t
      ≡ asked p
  on g =
      let a = p.args in
      let l = p.loop-v in
      let s = shape_met a.self.now in
      sym (chain_on s a.self.now.vertex a.self.now.ray rest l.at l.u (told_passed x) told g)
      ∙ ap (λ (n : ℕ). chain_by (passes s) a.self.now.vertex a.self.now.ray n l.at l.u) (sym less) ∙ l.invariant.2

  off : going (told_passed x) ≡ false
      → ended (told_passed p.limited_pass-x.result) (p.args.made + (p.loop-v.taken + 1))
      ≡ asked p
  off g =
      let a = p.args in
      let l = p.loop-v in
      let s = shape_met a.self.now in
      let n : a.made + (l.taken + 1) ≡ suc l.at = omega (arith, l.invariant.1) in
      ap (λ (y : Passed). ended (told_passed y) (a.made + (l.taken + 1))) e
      ∙ ap (λ (k : ℕ). ended (told_passed x) k) n
      ∙ sym (chain_off s a.self.now.vertex a.self.now.ray rest l.at l.u (told_passed x) told g)
      ∙ ap (λ (k : ℕ). chain_by (passes s) a.self.now.vertex a.self.now.ray k l.at l.u) (sym less) ∙ l.invariant.2

pub loop-v-init : goal.loop-v-init
loop-v-init c = let z : c.args.left - 0 ≡ c.args.left = omega arith in (c.requires, omega arith, rw z)

pub overflow_add-taken : goal.overflow_add-taken
overflow_add-taken c = omega (arith, c.loop-v.invariant.0, c.ranges.left)

-- another pass is to come only before the limit
pub overflow_add-at : goal.overflow_add-at
overflow_add-at c =
    let p = (goal.at.overflow_add-at c).After-limited_pass-x in
    let a = p.args in
    let l = p.loop-v in
    let s = shape_met a.self.now in
    let m = more s a.self.now.vertex a.self.now.ray l.at l.u (ap going (sym (told p _ c.in-Again.is))) in
    omega (arith, m, (profile_bounds a.self.now.profile a.self.now.polynomial a.self.now.semi).1)

pub loop-v-smaller : goal.loop-v-smaller
loop-v-smaller c = omega (arith, c.loop-v.invariant.0)

pub loop-v-preserved : goal.loop-v-preserved
loop-v-preserved c =
    let p = (goal.at.loop-v-preserved c).After-limited_pass-x in
    let l = p.loop-v in (
      omega (arith, l.invariant.0, c.if-taken-left.false),
      omega (arith, l.invariant.1),
      rw (add-one l.taken, add-one l.at) (on p _ c.in-Again.is refl),
    )

pub returns-then-taken-left : goal.returns-then-taken-left
unfolding chain_by
returns-then-taken-left c =
    let p = (goal.at.returns-then-taken-left c).After-limited_pass-x in
    let a = p.args in
    let l = p.loop-v in
    let e = c.in-Again.is in
    let n : a.made + (l.taken + 1) ≡ suc l.at = omega (arith, l.invariant.1) in
    let z : a.left - suc l.taken ≡ 0 = omega (arith, c.if-taken-left.true) in
    rw n (rw z at (on p _ e refl))

stopped : (x : Result Landing Refusal) → going (told_crossing x) ≡ false
stopped (Ok l) = refl
stopped (Err e) = never_going e

pub returns-in-Ended : goal.returns-in-Ended
returns-in-Ended c =
    off (goal.at.returns-in-Ended c).After-limited_pass-x _ c.in-Ended.is (stopped c.in-Ended.field-0)
