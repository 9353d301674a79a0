-- The words one after the other, and their line feed. Assumes nothing.
use Rattle.std.proofs.Common.{◌∙◌, arith}
use Rattle.tracelist.specs.Listing.{record_line}
use Rattle.tracelist.proofs.Buffers.{one_put, floats_put, line_put}
use Rattle.tracelist.proofs.Widths.{record_short}
use Rattle.tracelist.proofs.listing.put_record.Goals as goal

pub returns : goal.returns
unfolding record_line
returns c =
    let x = c.args in
    rw c.end_line.ensures
    (line_put _ _ _ _ _ (omega (arith, c.requires.1, record_short x.number x.row.now c.requires.0))
    (one_put _ _ _ _ _ c.put_count-end.ensures
    (one_put _ _ _ _ _ (rw c.count.ensures at c.put_count-end-2.ensures)
    (one_put _ _ _ _ _ (rw c.count-2.ensures at c.put_count-end-3.ensures)
    (c.put_floats-end.ensures ∙ floats_put _ _)))))
