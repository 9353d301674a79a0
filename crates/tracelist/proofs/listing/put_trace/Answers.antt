-- The records' lines, and the last behind them. Assumes nothing.
use Rattle.std.proofs.Common.{◌≡◌, ℕ, ◌+◌, ◌*◌, ◌≤◌, List, length, ap, ◌∙◌, arith, rules}
use lib.Ieee.{Float}
use Rattle.trace.specs.Leg.{width}
use Rattle.tracelist.specs.Parts.{written, record_bytes, row_lines, state_lines}
use Rattle.tracelist.proofs.Buffers.{both_written, written_filled}
use Rattle.tracelist.proofs.Widths.{rows_short, state_short}
use Rattle.tracelist.proofs.listing.put_trace.Goals as goal

rows_within : (out : List ℕ) (n : ℕ) (z : List Float) (p : ℕ × List ℕ) → width * n ≤ length z
    → p ≡ written out 0 (row_lines 0 n z) → p.0 ≤ record_bytes * n
unfolding written
rows_within out n z p h e =
    let q : p.0 ≡ 0 + length (row_lines 0 n z) = ap (λ (w : ℕ × List ℕ). w.0) e in
    omega (arith, rows_short 0 n z h)

pub put_end-requires : goal.put_end-requires
unfolding state_lines
put_end-requires c = omega (arith, rows_within _ _ _ _ (omega arith) c.put_records-end.ensures)

pub returns : goal.returns
unfolding state_lines
returns c =
    let short = state_short c.args.results.now c.args.s c.requires (search rules) in
    both_written _ _ _ _ _ _ (rw c.records_of.ensures at c.put_records-end.ensures) c.put_end.ensures
    ∙ written_filled _ _ (omega arith)
