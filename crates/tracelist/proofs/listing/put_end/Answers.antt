-- The words one after the other, and their line feed. Assumes nothing.
use Rattle.std.proofs.Common.{arith}
use Rattle.tracelist.specs.Listing.{ascii, end_line}
use Rattle.tracelist.proofs.Buffers.{one_put, none_put, line_put}
use Rattle.tracelist.proofs.Widths.{end_short}
use Rattle.tracelist.proofs.listing.put_end.Goals as goal

pub returns : goal.returns
unfolding end_line ascii
returns c =
    let x = c.args in
    rw (c.end_line.ensures, ← c.from.ensures)
    (line_put _ _ _ _ _ (omega (arith, c.requires, end_short c.from.result x.steps x.path))
    (one_put _ _ _ _ _ c.put_word-end.ensures
    (one_put _ _ _ _ _ c.put_count-end.ensures
    (one_put _ _ _ _ _ c.put_count-end-2.ensures
    (one_put _ _ _ _ _ c.put_float-end.ensures (none_put _))))))
