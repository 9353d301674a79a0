-- What the parts of the code that put a listing together say to each other. Definitions only.
use Rattle.std.specs.Prelude.{ℕ, zero, suc, ◌+◌, ◌*◌, List, [], ◌++◌, length, take, drop, ◌==◌, Float, if◌then◌else◌}
use Rattle.std.proofs.lemmas.List.Edits.{sets}
use Rattle.trace.specs.Leg.{width}
use Rattle.trace.specs.declared.state.State.{State}
use Rattle.tracelist.specs.Listing.{record_line, end_line}

-- the place behind a text, and the buffer that has it from a place on
unfoldable pub written : List ℕ → ℕ → List ℕ → ℕ × List ℕ
written out at text = (at + length text, sets out at text)

-- the most bytes of a record's line: three counts of 20 digits, 11 numbers of 16, and what follows each
abbrev pub record_bytes : ℕ
record_bytes = 3 * 21 + 11 * 17

-- and of another: a word, two counts and a number
abbrev pub last_bytes : ℕ
last_bytes = 4 + 2 * 21 + 17

-- the lines of so many records as a buffer begins with, numbered from one on
unfoldable pub row_lines : ℕ → ℕ → List Float → List ℕ
row_lines number zero z = []
row_lines number (suc n) z = record_line number (take width z) ++ row_lines (suc number) n (drop width z)

-- how many records a trace has at its end: one for each hit, and one for a refusal
unfoldable pub records_of : ℕ → ℕ → ℕ
records_of outcome hits = if outcome == 1 then hits else hits + 1

-- a trace by its state at the end, and by the buffer
unfoldable pub state_lines : List Float → State → List ℕ
state_lines z s = row_lines 0 (records_of s.outcome s.number) z ++ end_line s.outcome s.steps s.beam.path
