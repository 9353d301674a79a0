-- The record at a place of a recipe: its shape, its surface, and why it is refused. Definitions only.
use Rattle.std.specs.Prelude.{ℕ, ◌+◌, ◌-◌, ◌*◌, ◌/◌, ◌%◌, List, ◌++◌, Bool, not, false, ◌&&◌, ◌||◌, length, replicate}
use Rattle.std.specs.Prelude.{eqb, leb, Float, if◌then◌else◌, Option, Some, None}
use Rattle.numbers.specs.Arithmetic.{◌<₆₄◌, ◌≤₆₄◌, 0f}
use Rattle.surfaces.specs.Types.{polynomial, no_polynomial, every_finite}
use Rattle.surfaces.specs.declared.types.Coefficients.{Coefficients}
use Rattle.surfaces.specs.declared.surface.Kind.{Kind}
use Rattle.surfaces.specs.declared.surface.Kind.TheVariants.{Conic, Asphere, Biconic, Toroid}
use Rattle.recipe.specs.declared.record.Optic.{Optic}
use Rattle.recipe.specs.declared.record.ReadRecord.{ReadRecord}
use Rattle.recipe.specs.Endian.{u16_at, number_at, numbers_at}

-- how many bytes follow a record's length, and its kind
abbrev pub length_at : List ℕ → ℕ → ℕ
length_at b at = u16_at b at

abbrev pub kind_at : List ℕ → ℕ → ℕ
kind_at b at = u16_at b (at + 2)

-- where the record ends
abbrev pub end_at : List ℕ → ℕ → ℕ
end_at b at = at + 2 + length_at b at

-- the number of a slot behind them
unfoldable pub slot_at : List ℕ → ℕ → ℕ → Float
slot_at b at i = number_at b (at + 4 + 8 * i)

-- the lengths of conic, even asphere, biconic, toroid and odd asphere
unfoldable pub length_fits : ℕ → ℕ → Bool
length_fits kind len =
    if eqb kind 1 then eqb len 42 else
    if eqb kind 2 then leb 42 len && leb len 106 && eqb (len % 8) 2 else
    if eqb kind 3 then eqb len 58 else
    (eqb kind 4 && eqb len 50) || (eqb kind 5 && eqb len 170)

-- its own shape: not cut, and a kind, or the kind + 256 of its mirror, of a length that it has
unfoldable pub formed_at : List ℕ → ℕ → Bool
formed_at b at =
    leb (at + 4) (length b)
    && leb (end_at b at) (length b)
    && leb (kind_at b at / 256) 1
    && length_fits (kind_at b at % 256) (length_at b at)

-- the most bytes of a recipe
abbrev pub longest : ℕ
longest = 65536

-- and it ends within them
unfoldable pub shaped_at : List ℕ → ℕ → Bool
shaped_at b at = formed_at b at && leb (end_at b at) longest

-- the slot of the semi-diameter
unfoldable pub semi_slot : ℕ → ℕ
semi_slot kind =
    if eqb kind 3 then 6 else
    if eqb kind 4 then 5 else 4

unfoldable pub kind_of : ℕ → (ℕ → Float) → Kind
kind_of kind slot =
    if eqb kind 1 then Conic (slot 2) (slot 3) else
    if eqb kind 2 || eqb kind 5 then Asphere (slot 2) (slot 3) (eqb kind 5) else
    if eqb kind 3 then Biconic (slot 2) (slot 3) (slot 4) (slot 5) else
    Toroid (slot 2) (slot 3) (slot 4)

-- behind the first five numbers an even asphere has as many coefficients as there are, an odd one eight and eight
unfoldable pub odd_count : ℕ → ℕ
odd_count kind = if eqb kind 5 then 8 else 0

unfoldable pub even_count : ℕ → ℕ → ℕ
even_count kind len = if eqb kind 2 then len / 8 - 5 else odd_count kind

unfoldable pub coefficients_at : List ℕ → ℕ → ℕ → Coefficients
coefficients_at b at n = record { count = n; values = numbers_at b at n ++ replicate (8 - n) 0f }

-- a surface, and what lies behind it
unfoldable pub optic_at : List ℕ → ℕ → Optic
optic_at b at =
    let kind = kind_at b at % 256 in
    let even = even_count kind (length_at b at) in
    record {
      surface = record {
        vertex = slot_at b at 0;
        semi = slot_at b at (semi_slot kind);
        kind = kind_of kind (slot_at b at);
        polynomial =
            polynomial (coefficients_at b (at + 44) even) (coefficients_at b (at + 44 + 8 * even) (odd_count kind));
      };
      mirror = eqb (kind_at b at / 256) 1;
      index = slot_at b at 1;
    }

-- a negative semi-diameter is 3 for a conic and 2 for the others
unfoldable pub negative_semi : ℕ → ℕ
negative_semi kind = if eqb kind 1 then 3 else 2

-- a record that is read: refused with its number, or its surface and the next record's place
pub data Read : Type 0 where
  bad : ℕ → Read
  good : Optic → ℕ → Read

-- shape, finite, semi-diameter negative, index after not above 0
unfoldable pub record_at : List ℕ → ℕ → Read
record_at b at =
    let kind = kind_at b at % 256 in
    if not (shaped_at b at) then bad 10 else
    if not (every_finite (numbers_at b (at + 4) (length_at b at / 8))) then bad 2 else
    if slot_at b at (semi_slot kind) <₆₄ 0f then bad (negative_semi kind) else
    if slot_at b at 1 ≤₆₄ 0f then bad 4 else
    good (optic_at b at) (end_at b at)

-- what a reader hands out where there is no shape
abbrev pub no_optic : Optic
no_optic = record {
  surface = record { vertex = 0f; semi = 0f; kind = Conic 0f 0f; polynomial = no_polynomial };
  mirror = false;
  index = 0f;
}

-- what a reader says: 1, the next record's place and the surface, or 10
pub record ReadRow : Type 0 where
  pub number : ℕ
  pub next : ℕ
  pub optic : Optic

abbrev pub no_row : ReadRow
no_row = record { number = 10; next = 0; optic = no_optic }

unfoldable pub read_at : List ℕ → ℕ → ReadRow
read_at b at =
    if shaped_at b at then record { number = 1; next = end_at b at; optic = optic_at b at } else
    no_row

-- what is read of a record, as such a row
abbrev pub told_record : Option ReadRecord → ReadRow
told_record (Some r) = record { number = 1; next = r.next; optic = r.optic }
told_record None = no_row
