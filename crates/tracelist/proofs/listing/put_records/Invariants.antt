use Rattle.std.proofs.Common.{◌≡◌, ◌+◌, ◌*◌, ◌≤◌, length}
use Rattle.trace.specs.Leg.{width}
use Rattle.tracelist.specs.Parts.{written, record_bytes, row_lines}
use Rattle.tracelist.proofs.listing.put_records.Given as goal

abbrev pub invariant-loop-number : goal.invariant-loop-number
invariant-loop-number l =
    let i = l.number-iterator in
    let rows = i.iter.iter in
    (rows.size ≡ width) × (width * i.iter.n ≤ length rows.rest.now)
    × (l.end + record_bytes * i.iter.n ≤ length l.initial.out)
    × (written l.out l.end (row_lines i.count i.iter.n rows.rest.now)
    ≡ written l.initial.out 0 (row_lines 0 l.fn.count l.fn.results))
