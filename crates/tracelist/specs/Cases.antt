-- Files, and what is printed of them, the example of SCOPE L4 first: one list, one theorem. Assumes nothing.
use Rattle.std.specs.Prelude.{ℕ, ◌+◌, ◌*◌, List, [], ◌∷◌, ◌++◌, length}
use Prim.Native.String.{String, [] as no_text, ◌∷◌ as ◌then◌}
use Rattle.surfaces.specs.Edges.{Case, ◌⇒◌}
use Rattle.trace.specs.Example.{bytes, patterns, beam_record, plane_record}
use Rattle.tracelist.specs.Listing.{ascii}
use Rattle.tracelist.specs.Listing.{listing}

-- a record by its kind and its numbers' patterns
unfoldable pub record_of : ℕ → List ℕ → List ℕ
record_of kind numbers = bytes 2 (2 + 8 * length numbers) ++ bytes 2 kind ++ patterns numbers

-- origin (4, 0, -2), direction z, index 1
unfoldable pub off_axis : List ℕ
off_axis =
    record_of 0 (0x4010000000000000 ∷ 0 ∷ 0xc000000000000000 ∷ 0 ∷ 0 ∷ 0x3ff0000000000000 ∷ 0x3ff0000000000000 ∷ [])

-- origin (0, 0, -5), direction (0, 0, 2), index 1.5
unfoldable pub pointer : List ℕ
pointer = record_of 0 (0 ∷ 0 ∷ 0xc014000000000000 ∷ 0 ∷ 0 ∷ 0x4000000000000000 ∷ 0x3ff8000000000000 ∷ [])

-- a plane at -1, index 1, semi-diameter 10
unfoldable pub pane : List ℕ
pane = record_of 1 (0xbff0000000000000 ∷ 0x3ff0000000000000 ∷ 0 ∷ 0 ∷ 0x4024000000000000 ∷ [])

-- an even asphere of c 0 and the coefficient 1/8, index 1, by its vertex z and semi-diameter
unfoldable pub bowl : ℕ → ℕ → List ℕ
bowl vertex semi = record_of 2 (vertex ∷ 0x3ff0000000000000 ∷ 0 ∷ 0 ∷ semi ∷ 0x3fc0000000000000 ∷ [])

-- a plane of semi-diameter -10
unfoldable pub inverted : List ℕ
inverted = record_of 1 (0 ∷ 0x4000000000000000 ∷ 0 ∷ 0 ∷ 0xc024000000000000 ∷ [])

-- origin (0, 0, -5), direction z, index 0
unfoldable pub no_index : List ℕ
no_index = record_of 0 (0 ∷ 0 ∷ 0xc014000000000000 ∷ 0 ∷ 0 ∷ 0x3ff0000000000000 ∷ 0 ∷ [])

-- a text, and another behind it
infixr 80 ◌&◌
unfoldable pub ◌&◌ : String → String → String
no_text & t = t
(c then s) & t = c then (s & t)

-- the bytes of lines of text, each with its line feed
unfoldable pub lined : List String → List ℕ
lined [] = []
lined (s ∷ rest) = ascii s ++ ascii "\n" ++ lined rest

-- a file, and what is printed of it
infix 4 ◌prints◌
abbrev pub ◌prints◌ : List ℕ → List String → Case
f prints lines = listing f ⇒ lined lines

unfoldable pub cases : List Case
cases =
    -- the example of SCOPE L4
    (beam_record ++ plane_record prints
    "0 1 1 4014000000000000 0000000000000000 0000000000000000 0000000000000000 " &
    "0000000000000000 0000000000000000 BFF0000000000000 " &
    "0000000000000000 0000000000000000 3FF0000000000000 3FF0000000000000" ∷
    "end 1 1 4014000000000000" ∷ []) ∷
    -- t is told in lengths of the direction, 2.5, and the path is the optical one, 7.5
    (pointer ++ plane_record prints
    "0 1 1 4004000000000000 0000000000000000 0000000000000000 0000000000000000 " &
    "0000000000000000 0000000000000000 BFF0000000000000 " &
    "0000000000000000 0000000000000000 3FF0000000000000 3FF0000000000000" ∷
    "end 1 1 401E000000000000" ∷ []) ∷
    -- an even asphere is hit after 2 steps, a second one vignettes (7) after 2 with r 4 and its semi-diameter 3, and
    -- the plane behind it has no line
    (off_axis ++ pane ++ bowl 0 0x4014000000000000 ++ bowl 0x4008000000000000 0x4008000000000000 ++ plane_record prints
    "0 1 1 3FF0000000000000 4010000000000000 0000000000000000 BFF0000000000000 " &
    "0000000000000000 0000000000000000 BFF0000000000000 " &
    "0000000000000000 0000000000000000 3FF0000000000000 3FF0000000000000" ∷
    "1 1 2 4008000000000000 4010000000000000 0000000000000000 4000000000000000 " &
    "3FE6A09E667F3BCC 0000000000000000 BFE6A09E667F3BCC " &
    "0000000000000000 0000000000000000 3FF0000000000000 3FF0000000000000" ∷
    "2 7 2 4010000000000000 4008000000000000 0000000000000000 0000000000000000 " &
    "0000000000000000 0000000000000000 0000000000000000 " &
    "0000000000000000 0000000000000000 0000000000000000 0000000000000000" ∷
    "end 7 5 4010000000000000" ∷ []) ∷
    -- no records: done at once
    (beam_record prints "end 1 0 0000000000000000" ∷ []) ∷
    -- without kind 0, 10 at 0; a record's refusal at its place from the file's start; the ray's at 0
    (plane_record prints "refused 10 0" ∷ []) ∷
    (beam_record ++ plane_record ++ inverted prints "refused 3 104" ∷ []) ∷
    (no_index ++ plane_record prints "refused 4 0" ∷ []) ∷ []
