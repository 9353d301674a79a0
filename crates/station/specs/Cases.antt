-- Worked cases of the state in its arrays and of what calls leave there: one list, which one theorem covers. A row has
-- a rule's answer and what it should be, as numbers and bit patterns. Assumes nothing.
use Rattle.std.specs.Prelude.{ℕ, List, [], ◌∷◌, ◌++◌, replicate, Float}
use Rattle.std.specs.Float.Ieee.{neg}
use Rattle.numbers.specs.Arithmetic.{0f, 1f, 2f}
use Rattle.surfaces.specs.Types.{ray_of}
use Rattle.surfaces.specs.Edges.{whole, bits, Case, ◌⇒◌}
use Rattle.surfaces.specs.declared.types.Ray.{Ray}
use Rattle.trace.specs.declared.state.State.{State}
use Rattle.trace.specs.Run.{start_of}
use Rattle.trace.specs.Wanted.{reach_of}
use Rattle.trace.specs.Example.{plane_record}
use Rattle.station.specs.Lent.{state_in, counts_of, numbers_of, Left, told, continued}
use Rattle.station.specs.Lent.{LeftRow, told_row}

-- what a call leaves, as numbers: the verdict, the counts, the state's numbers and the result buffer
abbrev pub shown : Left → List ℕ
shown w = w.verdict.number ∷ w.verdict.place ∷ w.counts ++ bits (w.numbers ++ w.buffer)

abbrev pub shown_row : LeftRow → List ℕ
shown_row w = w.verdict.number ∷ w.verdict.place ∷ bits w.row

-- a state as its arrays hold it, each number another
abbrev pub counts : List ℕ
counts = 11 ∷ 12 ∷ 13 ∷ 14 ∷ 15 ∷ []

abbrev pub numbers : List Float
numbers = whole 1 ∷ whole 2 ∷ whole 3 ∷ whole 4 ∷ whole 5 ∷ whole 6 ∷ whole 7 ∷ whole 8 ∷ whole 9 ∷ []

abbrev pub some : State
some = record {
  number = 11;
  place = 12;
  passes = 13;
  t = whole 1;
  beam = record {
    ray = ray_of (whole 2) (whole 3) (whole 4) (whole 5) (whole 6) (whole 7);
    index = whole 8;
    path = whole 9;
  };
  steps = 14;
  outcome = 15;
}

-- the bit patterns of 1 to 9
abbrev pub one_to_nine : List ℕ
one_to_nine =
    0x3ff0000000000000 ∷ 0x4000000000000000 ∷ 0x4008000000000000 ∷ 0x4010000000000000 ∷ 0x4014000000000000
    ∷ 0x4018000000000000 ∷ 0x401c000000000000 ∷ 0x4020000000000000 ∷ 0x4022000000000000 ∷ []

-- the example of SCOPE L4: a ray from (0, 0, -5) along z in index 1, and a plane at 0 into index 2
abbrev pub ray : Ray
ray = ray_of 0f 0f (neg (whole 5)) 0f 0f 1f

abbrev pub begun : List Float
begun = 0f ∷ 0f ∷ 0f ∷ neg (whole 5) ∷ 0f ∷ 0f ∷ 1f ∷ 1f ∷ 0f ∷ []

abbrev pub ended : List Float
ended = 0f ∷ 0f ∷ 0f ∷ 0f ∷ 0f ∷ 0f ∷ 1f ∷ 2f ∷ whole 5 ∷ []

abbrev pub hit_record : List Float
hit_record = 1f ∷ whole 5 ∷ 0f ∷ 0f ∷ 0f ∷ 0f ∷ 0f ∷ neg 1f ∷ 0f ∷ 0f ∷ 1f ∷ 1f ∷ 1f ∷ []

unfoldable pub cases : List Case
cases =
    -- a state's counts and numbers stand in the header's order, and come back as they went in
    (counts_of some ++ bits (numbers_of some) ⇒ counts ++ one_to_nine) ∷
    (counts_of (state_in counts numbers) ++ bits (numbers_of (state_in counts numbers)) ⇒ counts ++ one_to_nine) ∷
    -- passes and an outcome beyond the state's types are the types' largest
    (counts_of (state_in (0 ∷ 0 ∷ 65535 ∷ 0 ∷ 255 ∷ []) numbers) ⇒ 0 ∷ 0 ∷ 65535 ∷ 0 ∷ 255 ∷ []) ∷
    (counts_of (state_in (0 ∷ 0 ∷ 65536 ∷ 0 ∷ 256 ∷ []) numbers) ⇒ 0 ∷ 0 ∷ 65535 ∷ 0 ∷ 255 ∷ []) ∷
    -- a start writes the state before the first surface and blanks, a step the surface's record; a refused start the
    -- refusal alone
    (shown (told (start_of plane_record ray 1f (replicate 13 2f))) ⇒
    1 ∷ 0 ∷ 0 ∷ 0 ∷ 0 ∷ 0 ∷ 0 ∷ bits (begun ++ replicate 13 0f)) ∷
    (shown (continued plane_record (0 ∷ 0 ∷ 0 ∷ 0 ∷ 0 ∷ []) begun (replicate 13 0f) 1) ⇒
    1 ∷ 0 ∷ 1 ∷ 44 ∷ 0 ∷ 1 ∷ 1 ∷ bits (ended ++ hit_record)) ∷
    (shown (told (start_of plane_record ray 1f (replicate 12 2f))) ⇒
    11 ∷ 0 ∷ 0 ∷ 0 ∷ 0 ∷ 0 ∷ 11 ∷ bits (replicate 21 0f)) ∷
    -- a refused continuation writes nothing, not even a count that it reads as the type's largest
    (shown (continued plane_record (0 ∷ 0 ∷ 65536 ∷ 0 ∷ 0 ∷ []) begun (replicate 13 2f) 1) ⇒
    12 ∷ 0 ∷ 0 ∷ 0 ∷ 65536 ∷ 0 ∷ 0 ∷ bits (begun ++ replicate 13 2f)) ∷
    -- one surface: its record, and blanks where it is refused
    (shown_row (told_row (reach_of plane_record ray 1f 0)) ⇒ 1 ∷ 0 ∷ bits hit_record) ∷
    (shown_row (told_row (reach_of (plane_record ++ 0 ∷ []) ray 1f 1)) ⇒ 10 ∷ 44 ∷ bits (replicate 13 0f)) ∷ []
