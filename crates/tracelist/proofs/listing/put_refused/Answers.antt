-- The words one after the other, and their line feed. Assumes nothing.
use Rattle.std.proofs.Common.{◌∙◌, arith}
use Rattle.tracelist.specs.Listing.{ascii, refused_line}
use Rattle.tracelist.proofs.Buffers.{one_put, none_put, line_put, written_filled}
use Rattle.tracelist.proofs.Widths.{refused_short}
use Rattle.tracelist.proofs.listing.put_refused.Goals as goal

pub returns : goal.returns
unfolding refused_line ascii
returns c =
    let short = refused_short c.from.result c.args.e.place in
    rw (c.end_line.ensures, ← c.number.ensures, ← c.from.ensures)
    (line_put _ 0 _ _ _ (omega (arith, c.requires))
    (one_put _ _ _ _ _ c.put_word-end.ensures
    (one_put _ _ _ _ _ c.put_count-end.ensures
    (one_put _ _ _ _ _ c.put_count-end-2.ensures (none_put _))))
    ∙ written_filled _ _ (omega (arith, c.requires)))
