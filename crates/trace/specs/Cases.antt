-- Worked cases of start, continue, whole and reach, the example of SCOPE L4 among them: one list, which one theorem
-- covers. A row has a rule's answer and the right one, each as numbers: the answer's number and place, the state's
-- counts, and the bit patterns of the state's numbers and of the whole result buffer; of a reach those of its record.
-- Assumes nothing.
use Rattle.std.specs.Prelude.{ℕ, ◌+◌, ◌*◌, ◌^◌, true, false, List, [], ◌∷◌, ◌++◌, map, length, replicate, take, Float}
use Rattle.std.specs.Float.{nan, inf, binary64}
use Rattle.std.specs.Float.Ieee.{of_bits, neg}
use Rattle.numbers.specs.Arithmetic.{0f, 1f, 2f, 4f}
use Rattle.surfaces.specs.Types.{vec, zeros}
use Rattle.surfaces.specs.Edges.{◌over◌, whole, bits, coordinates, Case, ◌⇒◌, ray}
use Rattle.surfaces.specs.declared.types.Vec3.{Vec3}
use Rattle.surfaces.specs.declared.types.Ray.{Ray}
use Rattle.trace.specs.declared.leg.Beam.{Beam}
use Rattle.trace.specs.declared.state.State.{State}
use Rattle.trace.specs.Wanted.{Reached}
use Rattle.trace.specs.Run.{recipe_of, Reply, start_of}
use Rattle.trace.specs.Run.{continue_on, continue_of, whole_of}
use Rattle.trace.specs.Wanted.{reach_of}
use Rattle.trace.specs.File.{start_file_of}
use Rattle.trace.specs.Example.{bytes, patterns, beam_record, plane_record}

-- an answer's number and place, a state and a buffer, as numbers
abbrev pub shown : ℕ → ℕ → State → List Float → List ℕ
shown number place s z =
    let b = s.beam in
    number ∷ place ∷ s.number ∷ s.place ∷ s.passes ∷ s.steps ∷ s.outcome
    ∷ bits (s.t ∷ coordinates b.ray.origin ++ coordinates b.ray.direction ++ b.index ∷ b.path ∷ z)

-- what a call on a recipe leaves; bytes and reply are bound by a `let`, so that each is computed once
unfoldable pub on : List ℕ → (List ℕ → Reply) → List ℕ
on recipe call =
    let b = recipe in
    let r = call b in
    shown r.answer.number r.answer.place r.answer.state r.buffer

-- what is told of one surface of a recipe
unfoldable pub asked : List ℕ → (List ℕ → Reached) → List ℕ
asked recipe question =
    let b = recipe in
    let r = question b in
    r.number ∷ r.place ∷ bits r.row

-- a buffer that holds the last lens's numbers
abbrev pub stale : ℕ → List Float
stale n = replicate n 1f

-- how the whole trace of a ray in an index ends, and the bit pattern of its path
unfoldable pub ending : List ℕ → Ray → Float → List ℕ
ending recipe ray index =
    let b = recipe in
    let s = (whole_of b ray index (stale 39)).answer.state in
    s.outcome ∷ bits (s.beam.path ∷ [])

-- the numbers that continuations of these states are answered with, where there is room for two records
unfoldable pub answered : List ℕ → List State → List ℕ
answered recipe l =
    let b = recipe in
    let r = recipe_of b in
    map (λ s. (continue_on r (length b) s (replicate 26 0f) 0).answer.number) l

abbrev pub state : ℕ → ℕ → ℕ → Float → Beam → ℕ → ℕ → State
state number place passes t b steps outcome =
    record { number = number; place = place; passes = passes; t = t; beam = b; steps = steps; outcome = outcome }

abbrev pub beam : Vec3 → Vec3 → Float → Float → Beam
beam origin direction index path = record { ray = ray origin direction; index = index; path = path }

-- the state of a refused start
abbrev pub refused : ℕ → State
refused n = state 0 0 0 0f (beam zeros zeros 0f 0f) 0 n

abbrev pub z : Vec3
z = vec 0f 0f 1f

abbrev pub -z : Vec3
-z = vec 0f 0f (neg 1f)

-- a hit's record, by t, point, normal, new direction, front face and steps
abbrev pub hit : Float → Vec3 → Vec3 → Vec3 → Float → Float → List Float
hit t p n d front steps = 1f ∷ t ∷ coordinates p ++ coordinates n ++ coordinates d ++ front ∷ steps ∷ []

abbrev pub blanks : ℕ → List Float
blanks n = replicate n 0f

-- a refusal's record, by status, r, limit and steps
abbrev pub refusal : Float → Float → Float → Float → List Float
refusal status r limit steps = status ∷ r ∷ limit ∷ blanks 9 ++ steps ∷ []

-- a surface's record, by its kind and its numbers
abbrev pub surface : ℕ → List Float → List ℕ
surface kind l = bytes 2 (2 + 8 * length l) ++ bytes 2 kind ++ patterns (bits l)

-- planes, by vertex z, index and semi-diameter
abbrev pub plane : Float → Float → Float → List ℕ
plane v index semi = surface 1 (v ∷ index ∷ 0f ∷ 0f ∷ semi ∷ [])

abbrev pub mirror : Float → Float → Float → List ℕ
mirror v index semi = surface 257 (v ∷ index ∷ 0f ∷ 0f ∷ semi ∷ [])

-- the even asphere of SCOPE E5, z = r² / 8 into index 1, by its semi-diameter
abbrev pub bowl : Float → List ℕ
bowl semi = surface 2 (0f ∷ 1f ∷ 0f ∷ 0f ∷ semi ∷ 1 over 8 ∷ [])

-- an odd asphere at 0, c 0, into index 1, by its semi-diameter and its first coefficients of odd powers
abbrev pub odd : Float → List Float → List ℕ
odd semi l = surface 5 (0f ∷ 1f ∷ 0f ∷ 0f ∷ semi ∷ replicate 8 0f ++ take 8 (l ++ replicate 8 0f))

-- The lens: a plane at 0 into index 2, then an even asphere of vertex z 4 into index 1, whose sag r² / 4 - r⁴ / 128
-- at r 4 is 2 and level. A ray along z at x 4 meets the plane in 1 step and the asphere in 2, and keeps its direction.
unfoldable pub lens : List ℕ
lens = plane 0f 2f (whole 10) ++ surface 2 (4f ∷ 1f ∷ 0f ∷ 0f ∷ whole 5 ∷ 1 over 4 ∷ neg (1 over 128) ∷ [])

-- the beam before the lens, in it, and behind it
abbrev pub before : Beam
before = beam (vec 4f 0f (neg 1f)) z 1f 0f

abbrev pub inside : Beam
inside = beam (vec 4f 0f 0f) z 2f 1f

abbrev pub behind : Beam
behind = beam (vec 4f 0f (whole 6)) z 1f (whole 13)

-- a beam along z far from the axis
abbrev pub far : Beam
far = beam (vec (whole (2 ^ 500)) 0f (neg 1f)) z 1f 0f

-- the state after no step, 1, 2 and 3
abbrev pub started : State
started = state 0 0 0 0f before 0 0

abbrev pub entered : State
entered = state 1 44 0 0f inside 1 0

abbrev pub paused : State
paused = state 1 44 1 (whole 6) inside 2 0

abbrev pub ended : State
ended = state 2 104 0 0f behind 3 1

-- the two records
abbrev pub first : List Float
first = hit 1f (vec 4f 0f 0f) -z z 1f 1f

abbrev pub second : List Float
second = hit (whole 6) (vec 4f 0f (whole 6)) -z z 1f 2f

-- a state that does not fit the lens
abbrev pub unfit : State
unfit = state 0 44 7 nan inside 5 3

-- a plane at 0 into index 2, a mirror at 4 whose record says 3, a plane at 2 into index 1
unfoldable pub folded : List ℕ
folded = plane 0f 2f (whole 10) ++ mirror 4f (whole 3) (whole 10) ++ plane 2f 1f (whole 10)

-- the same with the mirror at 3, index 7, and the last plane at 1; a beam of direction (0, 0, 3) before it; the first
-- two records
unfoldable pub pointed : List ℕ
pointed = plane 0f 2f (whole 10) ++ mirror (whole 3) (whole 7) (whole 10) ++ plane 1f 1f (whole 10)

abbrev pub 3z : Vec3
3z = vec 0f 0f (whole 3)

abbrev pub pointer : Float → Beam
pointer path = beam (vec 0f 0f (neg (whole 5))) 3z (13 over 10) path

abbrev pub pointed_first : List Float
pointed_first = hit (5 over 3) zeros -z z 1f 1f

abbrev pub pointed_second : Float → List Float
pointed_second t = hit t 3z -z -z 1f 1f

-- three planes, of which the second is too small for a ray at x 2
unfoldable pub narrow : List ℕ
narrow = plane 0f 1f (whole 10) ++ plane 1f 1f 1f ++ plane 2f 1f (whole 10)

-- the beam between its first and second
abbrev pub between : Beam
between = beam (vec 2f 0f 0f) z 1f 1f

-- 1 / √2, both rounded
abbrev pub √½ : Float
√½ = of_bits binary64 0x3fe6_a09e_667f_3bcc

unfoldable pub cases : List Case
cases =
    -- SCOPE L4: the start of its file takes no step and blanks the whole buffer; its trace is as printed
    (on (beam_record ++ plane_record) (λ b. start_file_of b (stale 14)) ⇒
    shown 1 0 (state 0 0 0 0f (beam (vec 0f 0f (neg (whole 5))) z 1f 0f) 0 0) (blanks 14)) ∷
    (on plane_record (λ b. whole_of b (ray (vec 0f 0f (neg (whole 5))) z) 1f (stale 14)) ⇒
    shown 1 0 (state 1 44 0 0f (beam zeros z 2f (whole 5)) 1 1) (hit (whole 5) zeros -z z 1f 1f ++ blanks 1)) ∷
    -- the lens in calls: the start; no step; one, which ends the plane; two, which stop in the middle of the asphere;
    -- from there to the end, and none once ended
    (on lens (λ b. start_of b before.ray 1f (stale 27)) ⇒ shown 1 0 started (blanks 27)) ∷
    (on lens (λ b. continue_of b started (blanks 27) 0) ⇒ shown 1 0 started (blanks 27)) ∷
    (on lens (λ b. continue_of b started (blanks 27) 1) ⇒ shown 1 0 entered (first ++ blanks 14)) ∷
    (on lens (λ b. continue_of b started (blanks 27) 2) ⇒ shown 1 0 paused (first ++ blanks 14)) ∷
    (on lens (λ b. continue_of b paused (first ++ blanks 14) 9) ⇒ shown 1 0 ended (first ++ second ++ blanks 1)) ∷
    -- the same in one
    (on lens (λ b. whole_of b before.ray 1f (stale 27)) ⇒ shown 1 0 ended (first ++ second ++ blanks 1)) ∷
    -- t so far may be any number and is unused at pass count 0
    (on lens (λ b. continue_of b (state 1 44 0 nan inside 1 0) (first ++ blanks 14) 1) ⇒
    shown 1 0 paused (first ++ blanks 14)) ∷
    -- a 25th pass that ends in nothing else is a miss after 25 steps
    (on lens (λ b. continue_of b (state 1 44 24 0f inside 25 0) (first ++ blanks 14) 1) ⇒
    shown 1 0 (state 1 44 0 0f inside 26 6) (first ++ refusal (whole 6) 0f 0f (whole 25) ++ blanks 1)) ∷
    -- no records: done at once
    (on [] (λ b. start_of b before.ray 1f (stale 1)) ⇒ shown 1 0 (state 0 0 0 0f before 0 1) (blanks 1)) ∷
    -- a mirror between media: its index 3 is not used, and the beam stays in index 2
    (on folded (λ b. whole_of b (ray (vec 0f 0f (neg 1f)) z) 1f (stale 39)) ⇒
    shown 1 0 (state 3 132 0 0f (beam (vec 0f 0f 2f) -z 1f (whole 13)) 3 1)
    (hit 1f zeros -z z 1f 1f ++ hit 4f (vec 0f 0f 4f) -z -z 1f 1f ++ hit 2f (vec 0f 0f 2f) -z -z 0f 1f)) ∷
    (on folded (λ b. continue_of b (state 1 44 0 0f (beam zeros z 2f 1f) 1 0) (blanks 39) 1) ⇒
    shown 1 0 (state 2 88 0 0f (beam (vec 0f 0f 4f) -z 2f (whole 9)) 2 0)
    (blanks 13 ++ hit 4f (vec 0f 0f 4f) -z -z 1f 1f ++ blanks 13)) ∷
    -- so from index 2 it is totally reflected at the bowl behind a mirror of index 1, out of which it would pass
    (on (mirror 4f 1f (whole 10) ++ bowl (whole 5)) (λ b. whole_of b before.ray 2f (stale 26)) ⇒
    shown 1 0 (state 1 44 0 0f (beam (vec 4f 0f 4f) -z 2f (whole 10)) 3 8)
    (hit (whole 5) (vec 4f 0f 4f) -z -z 1f 1f ++ refusal (whole 8) 0f 0f 2f)) ∷
    -- a refusal in the middle, 7 with r and limit: blanks behind its record, the beam of the hit before it
    (on narrow (λ b. whole_of b (ray (vec 2f 0f (neg 1f)) z) 1f (stale 40)) ⇒
    shown 1 0 (state 1 44 0 0f between 2 7)
    (hit 1f (vec 2f 0f 0f) -z z 1f 1f ++ refusal (whole 7) 2f 1f 1f ++ blanks 14)) ∷
    (on narrow (λ b. continue_of b (state 1 44 0 0f between 1 0) (blanks 40) 9) ⇒
    shown 1 0 (state 1 44 0 0f between 2 7) (blanks 13 ++ refusal (whole 7) 2f 1f 1f ++ blanks 14)) ∷
    -- 9: t is infinite
    (on (plane (whole (10 ^ 308)) 1f (whole 10))
    (λ b. whole_of b (ray (vec 0f 0f (neg (whole (10 ^ 308)))) z) 1f (stale 13)) ⇒
    shown 1 0 (state 0 0 0 0f (beam (vec 0f 0f (neg (whole (10 ^ 308)))) z 1f 0f) 1 9) (refusal (whole 9) 0f 0f 1f)) ∷
    -- the optical path: 5/3 · 3 · 1.3, then 3 · 2 and 2 · 2, in the index that the beam is in; t stays in lengths of
    -- the direction
    (on pointed (λ b. whole_of b (pointer 0f).ray (13 over 10) (stale 39)) ⇒
    shown 1 0 (state 3 132 0 0f (beam (vec 0f 0f 1f) -z 1f (33 over 2)) 3 1)
    (pointed_first ++ pointed_second (whole 3) ++ hit 2f (vec 0f 0f 1f) -z -z 0f 1f)) ∷
    -- t · length comes first: in the order t, index, length the first share is another number
    (on pointed (λ b. continue_of b (state 0 0 0 0f (pointer 0f) 0 0) (blanks 39) 1) ⇒
    shown 1 0 (state 1 44 0 0f (beam zeros z 2f (13 over 2)) 1 0) (pointed_first ++ blanks 26)) ∷
    -- a forged state at surface 0 has the length too, one at surface 1 has not
    (on pointed (λ b. continue_of b (state 0 0 0 0f (pointer 1f) 2 0) (blanks 39) 1) ⇒
    shown 1 0 (state 1 44 0 0f (beam zeros z 2f (15 over 2)) 3 0) (pointed_first ++ blanks 26)) ∷
    (on pointed (λ b. continue_of b (state 1 44 0 0f (beam zeros 3z 2f 1f) 1 0) (blanks 39) 1) ⇒
    shown 1 0 (state 2 88 0 0f (beam 3z -z 2f (whole 3)) 2 0) (blanks 13 ++ pointed_second 1f ++ blanks 13)) ∷
    -- behind a surface the direction's computed length, here not quite 1, takes no part
    (ending (plane 0f (3 over 2) (whole 10) ++ plane 1f 1f (whole 10)) (ray (vec 0f 0f (neg 1f)) (vec 0f 1f 1f)) 1f ⇒
    1 ∷ 0x4008_eba1_44fe_1959 ∷ []) ∷
    -- 9: the path is not finite, by the direction's length, with which a t of 0 is no number, or by a large index
    (ending (plane 0f 1f (whole 10)) (ray (vec 0f 0f (neg 1f)) (vec 0f 0f (whole (10 ^ 200)))) 1f ⇒ 9 ∷ 0 ∷ []) ∷
    (ending (plane 0f 1f (whole 10)) (ray zeros (vec 0f 0f (whole (10 ^ 200)))) 1f ⇒ 9 ∷ 0 ∷ []) ∷
    (ending (plane 0f (whole (10 ^ 308)) (whole 10)) (ray (vec 0f 0f (neg 4f)) z) (whole (10 ^ 308)) ⇒ 9 ∷ 0 ∷ []) ∷
    -- SCOPE E5: a hit after 2 steps, 7 after 2, 6 after 1
    (on (bowl (whole 5)) (λ b. whole_of b before.ray 1f (stale 13)) ⇒
    shown 1 0 (state 1 52 0 0f (beam (vec 4f 0f 2f) z 1f (whole 3)) 2 1)
    (hit (whole 3) (vec 4f 0f 2f) (vec √½ 0f (neg √½)) z 1f 2f)) ∷
    (on (bowl (whole 3)) (λ b. whole_of b before.ray 1f (stale 13)) ⇒
    shown 1 0 (state 0 0 0 0f before 2 7) (refusal (whole 7) 4f (whole 3) 2f)) ∷
    (on (bowl 2f) (λ b. whole_of b before.ray 1f (stale 13)) ⇒
    shown 1 0 (state 0 0 0 0f before 1 6) (refusal (whole 6) 0f 0f 1f)) ∷
    -- an odd asphere that rises with r, met after 2 steps; all its coefficients take part, so that far out 0 times an
    -- overflowed power is no number, where an even asphere without any is met
    (on (odd (whole 5) (1f ∷ [])) (λ b. whole_of b before.ray 1f (stale 13)) ⇒
    shown 1 0 (state 1 172 0 0f (beam (vec 4f 0f 4f) z 1f (whole 5)) 2 1)
    (hit (whole 5) (vec 4f 0f 4f) (vec √½ 0f (neg √½)) z 1f 2f)) ∷
    (on (odd (whole (2 ^ 600)) []) (λ b. whole_of b far.ray 1f (stale 13)) ⇒
    shown 1 0 (state 0 0 0 0f far 2 6) (refusal (whole 6) 0f 0f 2f)) ∷
    (on (surface 2 (0f ∷ 1f ∷ 0f ∷ 0f ∷ whole (2 ^ 600) ∷ [])) (λ b. whole_of b far.ray 1f (stale 13)) ⇒
    shown 1 0 (state 1 44 0 0f (beam (vec (whole (2 ^ 500)) 0f 0f) z 1f 1f) 1 1)
    (hit 1f (vec (whole (2 ^ 500)) 0f 0f) -z z 1f 1f)) ∷
    -- refused starts leave blanks and no state: a record's refusal, with its place, before the ray's; in a file the
    -- place counts from the file's start, and without a ray's record it is 10 at 0
    (on (plane 0f 1f 1f ++ plane 0f 0f 1f) (λ b. start_of b (ray (vec nan 0f 0f) z) 1f (stale 27)) ⇒
    shown 4 44 (refused 4) (blanks 27)) ∷
    (on (beam_record ++ plane 0f 1f (neg 1f)) (λ b. start_file_of b (stale 14)) ⇒ shown 3 60 (refused 3) (blanks 14)) ∷
    (on plane_record (λ b. start_file_of b (stale 14)) ⇒ shown 10 0 (refused 10) (blanks 14)) ∷
    -- then the ray's 2, the index's 4, and 11
    (on lens (λ b. start_of b (ray (vec nan 0f 0f) z) 0f (stale 25)) ⇒ shown 2 0 (refused 2) (blanks 25)) ∷
    (on lens (λ b. whole_of b before.ray 0f (stale 25)) ⇒ shown 4 0 (refused 4) (blanks 25)) ∷
    (on lens (λ b. start_of b before.ray 1f (stale 25)) ⇒ shown 11 0 (refused 11) (blanks 25)) ∷
    -- refused continuations leave state and buffer as given: the recipe's refusal, then 11, then 12
    (on (lens ++ 0 ∷ []) (λ b. continue_of b unfit (stale 25) 9) ⇒ shown 10 104 unfit (stale 25)) ∷
    (on lens (λ b. continue_of b unfit (stale 25) 9) ⇒ shown 11 0 unfit (stale 25)) ∷
    (on lens (λ b. continue_of b unfit (stale 26) 9) ⇒ shown 12 0 unfit (stale 26)) ∷
    -- one surface: that record alone, from the records up to it; where the beam was lost before, at and behind it
    (asked lens (λ b. reach_of b before.ray 1f 1) ⇒ 1 ∷ 0 ∷ bits second) ∷
    (asked narrow (λ b. reach_of b (ray (vec 2f 0f (neg 1f)) z) 1f 2) ⇒ 1 ∷ 0 ∷ bits (blanks 13)) ∷
    (asked narrow (λ b. reach_of b (ray (vec 2f 0f (neg 1f)) z) 1f 1) ⇒
    1 ∷ 0 ∷ bits (refusal (whole 7) 2f 1f 1f)) ∷
    (asked narrow (λ b. reach_of b (ray (vec 2f 0f (neg 1f)) z) 1f 0) ⇒
    1 ∷ 0 ∷ bits (hit 1f (vec 2f 0f 0f) -z z 1f 1f)) ∷
    -- a plane and a byte, numbers 0 and 1; a record that is refused, behind the surface and at it
    (asked (plane 0f 2f (whole 10) ++ 0 ∷ []) (λ b. reach_of b before.ray 1f 0) ⇒ 1 ∷ 0 ∷ bits first) ∷
    (asked (plane 0f 2f (whole 10) ++ 0 ∷ []) (λ b. reach_of b before.ray 1f 1) ⇒ 10 ∷ 44 ∷ bits (blanks 13)) ∷
    (asked (lens ++ plane 0f 0f 1f) (λ b. reach_of b before.ray 1f 1) ⇒ 1 ∷ 0 ∷ bits second) ∷
    (asked (lens ++ plane 0f 0f 1f) (λ b. reach_of b before.ray 1f 2) ⇒ 4 ∷ 104 ∷ bits (blanks 13)) ∷
    -- a number that no record can have, before the records' refusals; the last that one can have
    (asked (0 ∷ []) (λ b. reach_of b before.ray 1f 512) ⇒ 2 ∷ 0 ∷ bits (blanks 13)) ∷
    (asked (0 ∷ []) (λ b. reach_of b before.ray 1f 511) ⇒ 10 ∷ 0 ∷ bits (blanks 13)) ∷
    -- a number past the end, with a ray that is none, and before the index's 4; then these
    (asked lens (λ b. reach_of b (ray (vec nan 0f 0f) z) 1f 2) ⇒ 2 ∷ 0 ∷ bits (blanks 13)) ∷
    (asked lens (λ b. reach_of b before.ray 0f 2) ⇒ 2 ∷ 0 ∷ bits (blanks 13)) ∷
    (asked lens (λ b. reach_of b (ray (vec nan 0f 0f) z) 0f 1) ⇒ 2 ∷ 0 ∷ bits (blanks 13)) ∷
    (asked lens (λ b. reach_of b before.ray 0f 1) ⇒ 4 ∷ 0 ∷ bits (blanks 13)) ∷
    -- 12, a row for each condition, with states beside it that are accepted. The outcome, here 0 to 10 at the asphere
    (answered lens (map (λ o. state 1 44 0 0f inside 1 o) (0 ∷ 1 ∷ 2 ∷ 3 ∷ 4 ∷ 5 ∷ 6 ∷ 7 ∷ 8 ∷ 9 ∷ 10 ∷ [])) ⇒
    1 ∷ 12 ∷ 1 ∷ 12 ∷ 1 ∷ 1 ∷ 1 ∷ 1 ∷ 1 ∷ 1 ∷ 12 ∷ []) ∷
    -- under outcome 1 the number, which is the count of records, and the place, which is the recipe's end
    (answered lens (ended ∷ state 1 104 0 0f behind 3 1 ∷ state 2 44 0 0f behind 3 1 ∷ []) ⇒ 1 ∷ 12 ∷ 12 ∷ []) ∷
    -- under another the place, which is the start of the record with that number; at the count there is no record
    (answered lens
    (started ∷ state 0 44 0 0f before 0 0 ∷ state 1 0 0 0f inside 1 0 ∷ state 2 104 0 0f behind 3 0 ∷ []) ⇒
    1 ∷ 12 ∷ 12 ∷ 12 ∷ []) ∷
    -- the pass count, which is below the limit: 1 for a conic, 25 for an asphere, 35 for a biconic or toroid
    (answered lens (state 0 0 1 0f before 1 0 ∷ state 1 44 24 0f inside 25 0 ∷ state 1 44 25 0f inside 25 0 ∷ []) ⇒
    12 ∷ 1 ∷ 12 ∷ []) ∷
    (answered (odd 1f []) (state 0 0 24 0f before 24 0 ∷ state 0 0 25 0f before 25 0 ∷ []) ⇒ 1 ∷ 12 ∷ []) ∷
    (answered
    (surface 3 (0f ∷ 1f ∷ 0f ∷ 0f ∷ 0f ∷ 0f ∷ 1f ∷ []) ++ surface 4 (0f ∷ 1f ∷ 1f ∷ 0f ∷ 0f ∷ 1f ∷ []))
    (state 0 0 34 0f before 34 0 ∷ state 0 0 35 0f before 35 0
    ∷ state 1 60 34 0f inside 35 0 ∷ state 1 60 35 0f inside 36 0 ∷ []) ⇒
    1 ∷ 12 ∷ 1 ∷ 12 ∷ []) ∷
    -- and once ended is 0
    (answered lens (paused ∷ state 1 44 1 0f inside 2 6 ∷ state 2 104 1 0f behind 3 1 ∷ []) ⇒ 1 ∷ 12 ∷ 12 ∷ []) ∷
    -- all steps, which are at most the sum of all limits, 26
    (answered lens (state 1 44 0 0f inside 26 0 ∷ state 1 44 0 0f inside 27 0 ∷ []) ⇒ 1 ∷ 12 ∷ []) ∷
    -- ray and path, which are finite
    (answered lens (map (λ b. state 1 44 0 0f b 1 0)
    (inside ∷ beam (vec nan 0f 0f) z 2f 1f
    ∷ beam zeros (vec 0f 0f (inf false)) 2f 1f ∷ beam zeros z 2f (inf true) ∷ [])) ⇒
    1 ∷ 12 ∷ 12 ∷ 12 ∷ []) ∷
    -- the index, which is finite and positive
    (answered lens (map (λ n. state 1 44 0 0f (beam zeros z n 1f) 1 0) (1f ∷ inf false ∷ nan ∷ 0f ∷ neg 1f ∷ [])) ⇒
    1 ∷ 12 ∷ 12 ∷ 12 ∷ 12 ∷ []) ∷ []
