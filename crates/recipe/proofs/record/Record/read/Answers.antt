-- The tests of the rule, in its order. Assumes nothing.
use Prim.Native.Nat.{◌+◌, ◌/◌}
use native.Mathlib.Omega.{arith}
use mathlib.Core.Path.{◌≡◌, refl, ◌∙◌}
use mathlib.Core.Bool.{◌&&◌}
use lib.ListN.{length}
use lib.Dec.{leb}
use borrow.Author.Tests.{le-leb, lt-leb}
use Rattle.recipe.specs.Record.{longest, formed_at, shaped_at}
use Rattle.recipe.proofs.Shapes.{shape}
use Rattle.recipe.proofs.record.Record.read.Goals as goal
use Rattle.recipe.proofs.record.Record.read.Goals.{After-length_fits}

pub returns-then-saturating_sub-lt-HEAD_BYTES : goal.returns-then-saturating_sub-lt-HEAD_BYTES
unfolding shaped_at formed_at
returns-then-saturating_sub-lt-HEAD_BYTES c =
    let a = c.args in (refl, rw (lt-leb (a.at + 4) (length a.bytes.now) (omega arith)))

-- the rule's test, as the code makes it
told : (c : After-length_fits) → let a = c.args in
    let end = a.at + 2 + c.u16_at-len.result in
    shaped_at a.bytes.now a.at
    ≡ (leb end (length a.bytes.now) && leb (c.u16_at-whole.result / 256) 1 && c.length_fits.result && leb end longest)
unfolding shaped_at formed_at
told c =
    let a = c.args in
    rw (
      le-leb (a.at + 4) (length a.bytes.now) (omega arith),
      ← c.u16_at-len.ensures.0,
      ← c.u16_at-whole.ensures.0,
      ← c.length_fits.ensures,
    )

pub returns-then-not-formed-end : goal.returns-then-not-formed-end
returns-then-not-formed-end c =
    (refl, told (goal.at.returns-then-not-formed-end c).After-length_fits ∙ c.if-not-formed-end.true)

pub invariant_of-result : goal.invariant_of-result
invariant_of-result c =
    let shaped = told (goal.at.invariant_of-result c).After-length_fits ∙ c.if-not-formed-end.false in
    record {
      shaped = shaped;
      length_is = c.u16_at-len.ensures.0;
      kind_is = rw (← c.u16_at-whole.ensures.0);
      mirror_is = rw (← c.u16_at-whole.ensures.0);
      places = shape _ _ shaped c.u16_at-len.ensures.0 c.u16_at-whole.ensures.0;
    }
