-- What `tracelist` prints of a file: a line for each record of the unbroken trace and then its end, or one line for a
-- refused start. Definitions only.
use Rattle.std.specs.Prelude.{ℕ, suc, ◌*◌, List, [], ◌∷◌, ◌++◌, map, length, take, drop, replicate, ◌==◌}
use Rattle.std.specs.Prelude.{slice_index_or, to_bits, Float, if◌then◌else◌}
use Prim.Native.Char.{code}
use Prim.Native.String.{String, [] as no_text, ◌∷◌ as ◌then◌}
use Rattle.std.specs.Float.{nan, binary64}
use Rattle.std.specs.Float.Ieee.{to_unsigned}
use Rattle.numbers.specs.Arithmetic.{0f}
use Rattle.lines.specs.Output.{hex_text, decimal_text}
use Rattle.recipe.specs.Source.{source_of}
use Rattle.trace.specs.Leg.{width}
use Rattle.trace.specs.Unbroken.{Mark, Trace, total}
use Rattle.trace.specs.Run.{most_records}
use Rattle.trace.specs.Demand3.{trace_of}
use Rattle.trace.specs.File.{start_file_of, behind_ray}

-- the bytes of a text in ASCII
unfoldable pub ascii : String → List ℕ
ascii no_text = []
ascii (c then s) = code c ∷ ascii s

-- a line: its first word, a space before each other word, and a line feed
unfoldable pub line : List ℕ → List (List ℕ) → List ℕ
line word [] = word ++ ascii "\n"
line word (next ∷ rest) = word ++ ascii " " ++ line next rest

-- a count in decimal digits, and a number's bits in 16 hexadecimal ones
abbrev pub digits : ℕ → List ℕ
digits n = decimal_text 20 n

abbrev pub bits : Float → List ℕ
bits x = hex_text 16 (to_bits binary64 x)

-- the count that a slot of a record holds
abbrev pub count_in : List Float → ℕ → ℕ
count_in row slot = to_unsigned 64 (slice_index_or row slot nan)

-- a record's line: its number, its status (slot 0), its steps (slot 12), and slots 1 to 11 as bits
unfoldable pub record_line : ℕ → List Float → List ℕ
record_line number row =
    line (digits number) (digits (count_in row 0) ∷ digits (count_in row 12) ∷ map bits (take 11 (drop 1 row)))

-- the lines of records, numbered from one on
unfoldable pub record_lines : ℕ → List Mark → List ℕ
record_lines number [] = []
record_lines number (m ∷ rest) = record_line number m.row ++ record_lines (suc number) rest

-- the last line: outcome, all steps, path
unfoldable pub end_line : ℕ → ℕ → Float → List ℕ
end_line outcome steps path = line (ascii "end") (digits outcome ∷ digits steps ∷ bits path ∷ [])

-- a trace, from its first record to its end
unfoldable pub trace_lines : Trace → List ℕ
trace_lines u = record_lines 0 u.marks ++ end_line u.outcome (total u.marks) u.beam.path

-- a start that is refused: number, and place from the file's start
unfoldable pub refused_line : ℕ → ℕ → List ℕ
refused_line number place = line (ascii "refused") (digits number ∷ digits place ∷ [])

-- a result buffer with room for the most records
abbrev pub room : List Float
room = replicate (width * most_records) 0f

-- a file: the unbroken trace of the bytes behind its ray, unless its start is refused
unfoldable pub listing : List ℕ → List ℕ
listing f =
    let a = (start_file_of f room).answer in
    let s = source_of f in
    if a.number == 1 then trace_lines (trace_of (behind_ray f) s.ray s.index) else
    refused_line a.number a.place

-- how long a text is, and a buffer that begins with it and is behind it as it was
unfoldable pub filled : List ℕ → List ℕ → ℕ × List ℕ
filled out text = (length text, text ++ drop (length text) out)
