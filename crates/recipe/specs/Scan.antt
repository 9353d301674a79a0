-- A recipe's surfaces, all or the first ones, or its first refusal and where; what a check says of them. Definitions
-- only.
use Rattle.std.specs.Prelude.{ℕ, zero, suc, ◌+◌, Bool, ◌&&◌, List, [], ◌∷◌, length, get_or, eqb, ltb, if◌then◌else◌}
use Rattle.std.specs.Prelude.{Result, Ok, Err}
use Rattle.surfaces.specs.Surface.{limit_of}
use Rattle.recipe.specs.declared.record.Optic.{Optic}
use Rattle.recipe.specs.declared.scan.Checked.{Checked}
use Rattle.recipe.specs.declared.scan.Refused.{Refused}
use Rattle.recipe.specs.Fault.{fault_number}
use Rattle.recipe.specs.Record.{Read, bad, good, record_at, no_optic}

-- a surface, the place of its first byte, and the next one's
pub record Item : Type 0 where
  pub at : ℕ
  pub next : ℕ
  pub optic : Optic

pub data Scan : Type 0 where
  refused : ℕ → ℕ → Scan
  items : List Item → Scan

abbrev pub before : Item → Scan → Scan
before i (refused n p) = refused n p
before i (items l) = items (i ∷ l)

-- a refusal has its record's place
abbrev pub on_read : Read → ℕ → (ℕ → Scan) → Scan
on_read (bad n) at rest = refused n at
on_read (good o next) at rest = before (record { at = at; next = next; optic = o }) (rest next)

-- the records from a place on, so many at most: where all are asked for, more are refused, and else not looked at
unfoldable pub scan : Bool → List ℕ → ℕ → ℕ → Scan
scan all b zero at = if all && ltb at (length b) then refused 10 at else items []
scan all b (suc left) at = if ltb at (length b) then on_read (record_at b at) at (scan all b left) else items []

abbrev pub items_in : Scan → List Item
items_in (refused n p) = []
items_in (items l) = l

-- the surface of a number, and none past the last
abbrev pub no_item : Item
no_item = record { at = 0; next = 0; optic = no_optic }

abbrev pub item_at : List Item → ℕ → Item
item_at l k = get_or l k no_item

-- its place, and the recipe's end past the last
unfoldable pub place_of : List Item → ℕ → ℕ → ℕ
place_of [] end k = end
place_of (i ∷ l) end zero = i.at
place_of (i ∷ l) end (suc k) = place_of l end k

unfoldable pub sum_limits : List Item → ℕ
sum_limits [] = 0
sum_limits (i ∷ l) = limit_of i.optic.surface.kind + sum_limits l

-- what a check says: 1, or the refusal and its record's place; how many surfaces, the sum of their limits, of the
-- wanted one its place and its limit, and where the last one ends
pub record Verdict : Type 0 where
  pub number : ℕ
  pub place : ℕ
  pub count : ℕ
  pub limits : ℕ
  pub found : ℕ
  pub limit : ℕ
  pub end : ℕ

abbrev pub failed : ℕ → ℕ → Verdict
failed n p = record { number = n; place = p; count = 0; limits = 0; found = 0; limit = 0; end = 0 }

abbrev pub note : ℕ → Verdict → Item → Verdict
note w c i =
    let limit = limit_of i.optic.surface.kind in
    record {
      number = c.number;
      place = c.place;
      count = c.count + 1;
      limits = c.limits + limit;
      found = if eqb c.count w then i.at else c.found;
      limit = if eqb c.count w then limit else c.limit;
      end = i.next;
    }

unfoldable pub notes : ℕ → Verdict → List Item → Verdict
notes w c [] = c
notes w c (i ∷ l) = notes w (note w c i) l

abbrev pub nothing : Verdict
nothing = record { number = 1; place = 0; count = 0; limits = 0; found = 0; limit = 0; end = 0 }

abbrev pub says : ℕ → Verdict → Scan → Verdict
says w c (refused n p) = failed n p
says w c (items l) = notes w c l

unfoldable pub check_of : List ℕ → ℕ → Bool → ℕ → Verdict
check_of b most all w = says w nothing (scan all b most 0)

-- what the code's check tells, as such a verdict
abbrev pub passed : Checked → Verdict
passed c = record {
  number = 1;
  place = 0;
  count = c.count;
  limits = c.limits;
  found = c.found;
  limit = c.limit;
  end = c.end;
}

abbrev pub told_check : Result Checked Refused → Verdict
told_check (Ok c) = passed c
told_check (Err e) = failed (fault_number e.fault) e.place
