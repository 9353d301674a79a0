-- How long the lines are at most. Assumes nothing.
use Rattle.std.proofs.Common.{◌≡◌, ℕ, zero, suc, ◌+◌, ◌*◌, ◌/◌, ◌%◌, ◌≤◌, Bool, true, false, ltb, List, [], ◌∷◌, ◌++◌}
use Rattle.std.proofs.Common.{map, length, take, drop, refl, zero-le, arith, length-append, length-drop, length-take}
use Rattle.std.proofs.Common.{length-take-le, if◌then◌else◌}
use lib.Ieee.{Float, binary64, to_bits}
use Rattle.lines.specs.Output.{glyph, hex_text, decimal_text}
use Rattle.trace.specs.declared.state.State.{State}
use Rattle.trace.specs.Leg.{width}
use Rattle.trace.specs.Run.{most_records}
use Rattle.tracelist.specs.Listing.{ascii, line, digits, bits, record_line, end_line, refused_line}
use Rattle.tracelist.specs.Parts.{record_bytes, last_bytes, row_lines, records_of, state_lines}
use Rattle.tracelist.proofs.Buffers.{last_word, next_word}

-- the digits that a word has
hex_width : (k n : ℕ) → length (hex_text k n) ≡ k
unfolding hex_text
hex_width zero n = refl
hex_width (suc k) n =
    let e = length-append (hex_text k (n / 16)) (glyph (n % 16) ∷ []) in
    omega (arith, hex_width k (n / 16))

digits_few : (k n : ℕ) → length (decimal_text k n) ≤ k
unfolding decimal_text
digits_few zero n = zero-le
digits_few (suc k) n = by (ltb n 10) (decimal_text k (n / 10)) (digits_few k (n / 10))
  where
    by : (t : Bool) (front : List ℕ) → length front ≤ k
        → length (if t then (48 + n) ∷ [] else front ++ ((48 + n % 10) ∷ [])) ≤ suc k
    by true front h = omega arith
    by false front h = let e = length-append front ((48 + n % 10) ∷ []) in omega arith

-- words, with the space or the line feed behind each
abbrev size : List (List ℕ) → ℕ
size [] = 0
size (w ∷ words) = length w + 1 + size words

line_size : (w : List ℕ) (words : List (List ℕ)) → length (line w words) ≡ size (w ∷ words)
line_size w [] = omega (arith, last_word w)
line_size w (v ∷ words) = omega (arith, next_word w v words, line_size v words)

bits_size : (values : List Float) → size (map bits values) ≡ 17 * length values
bits_size [] = refl
bits_size (x ∷ values) = omega (arith, hex_width 16 (to_bits binary64 x), bits_size values)

-- the lines by their words
three_counts : (a b c : ℕ) (slots : List Float) → length slots ≤ 11
    → length (line (digits a) (digits b ∷ digits c ∷ map bits slots)) ≤ record_bytes
three_counts a b c slots few =
    omega (
      arith,
      line_size (digits a) (digits b ∷ digits c ∷ map bits slots),
      digits_few 20 a,
      digits_few 20 b,
      digits_few 20 c,
      bits_size slots,
    )

pub record_short : (number : ℕ) (row : List Float) → length row ≡ width → length (record_line number row) ≤ record_bytes
unfolding record_line
record_short number row h =
    let few : length (take 11 (drop 1 row)) ≤ 11 = simp (length-take, length-drop) (omega arith) in
    three_counts _ _ _ (take 11 (drop 1 row)) few

pub rows_short : (number n : ℕ) (z : List Float) → width * n ≤ length z →
    length (row_lines number n z) ≤ record_bytes * n
unfolding row_lines
rows_short number zero z h = zero-le
rows_short number (suc n) z h =
    let rest : width * n ≤ length (drop width z) = simp length-drop (omega arith) in
    omega (
      arith,
      length-append (record_line number (take width z)) (row_lines (suc number) n (drop width z)),
      record_short number (take width z) (length-take-le width z (omega arith)),
      rows_short (suc number) n (drop width z) rest,
    )

two_counts : (word : List ℕ) (a b : ℕ) (values : List Float)
    → length word + 1 + 2 * 21 + 17 * length values ≤ last_bytes
    → length (line word (digits a ∷ digits b ∷ map bits values)) ≤ last_bytes
two_counts word a b values h =
    omega (
      arith,
      line_size word (digits a ∷ digits b ∷ map bits values),
      digits_few 20 a,
      digits_few 20 b,
      bits_size values,
    )

pub end_short : (outcome steps : ℕ) (path : Float) → length (end_line outcome steps path) ≤ last_bytes
unfolding end_line ascii
end_short outcome steps path = two_counts (ascii "end") _ _ (path ∷ []) (omega arith)

pub refused_short : (number place : ℕ) → length (refused_line number place) ≤ last_bytes
unfolding refused_line ascii
refused_short number place = two_counts (ascii "refused") _ _ [] (omega arith)

-- and a whole listing
pub state_short : (z : List Float) (s : State) → records_of s.outcome s.number ≤ most_records
    → width * most_records ≤ length z → length (state_lines z s) ≤ record_bytes * most_records + last_bytes
unfolding state_lines
state_short z s few wide =
    let n = records_of s.outcome s.number in
    omega (
      arith,
      length-append (row_lines 0 n z) (end_line s.outcome s.steps s.beam.path),
      rows_short 0 n z (omega arith),
      end_short s.outcome s.steps s.beam.path,
    )
