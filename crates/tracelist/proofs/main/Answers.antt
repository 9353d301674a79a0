-- What is printed lies within its buffer. Assumes nothing.
use Rattle.std.proofs.Common.{◌≡◌, ℕ, ◌≤◌, List, length, drop, sym, arith, length-append, length-take-le}
use Rattle.tracelist.specs.Listing.{filled}
use Rattle.tracelist.proofs.main.Goals as goal

within : (out text : List ℕ) (p : ℕ × List ℕ) → p ≡ filled out text → p.0 ≤ length p.1
unfolding filled
within out text p e = rw e (omega (arith, length-append text (drop (length text) out)))

pub slice_bounds-out-end : goal.slice_bounds-out-end
slice_bounds-out-end c = within _ _ _ c.list-n.ensures

pub slice_bounds-write_all-end-2 : goal.slice_bounds-write_all-end-2
slice_bounds-write_all-end-2 c = sym (length-take-le _ _ (within _ _ _ c.list-n.ensures))
