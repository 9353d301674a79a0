-- A record before those that are kept is not written, and any other is. Assumes nothing.
use Prim.Native.Nat.{◌-◌, ◌*◌}
use mathlib.Core.Path.{◌≡◌, ◌∙◌}
use native.Mathlib.Omega.{arith}
use lib.ListN.{length}
use borrow.Author.Rules.{rules}
use Rattle.trace.specs.Leg.{width}
use Rattle.trace.proofs.Lists.{put_sets}
use Rattle.trace.proofs.Kept.{row_kept, row_dropped}
use Rattle.trace.proofs.run.write_row.Goals as goal

pub returns-then-number-first : goal.returns-then-number-first
returns-then-number-first c z kept =
    let a = c.args in
    row_dropped a.first z _ kept a.number a.values c.if-number-first.true (search rules)

pub returns : goal.returns
returns c z kept =
    let a = c.args in
    let wide : length a.values ≡ width = search rules in
    put_sets a.buf.now _ a.values (width * (a.number - a.first)) _ c.copy_from_slice.ensures.after (omega arith)
    (omega arith)
    ∙ row_kept a.first z _ kept a.number a.values c.if-number-first.false
