-- The records of an unbroken trace: what each holds, how many there are, and their lines. Assumes nothing.
use Rattle.std.proofs.Common.{◌≡◌, ℕ, suc, ◌+◌, ◌^◌, ◌≤◌, Bool, true, false, ◌&&◌, ◌||◌, eqb, leb, ◌≢◌, List, [], ◌∷◌}
use Rattle.std.proofs.Common.{◌++◌, length, refl, ap, ◌∙◌, append_assoc, zero-le, arith, le→leb, take_at, drop_at}
use Rattle.std.proofs.Common.{ne_eqb, eqb-true, leb-true, if◌then◌else◌}
use lib.Ieee.{Float, binary64, round, to_unsigned, in_float}
use lib.Ieee.Back.{unsigned_back}
use borrow.Author.Tests.{eqb-false}
use Rattle.numbers.specs.Arithmetic.{decimal, 0f}
use Rattle.numbers.proofs.Choice.{by_test}
use Rattle.surfaces.specs.Refusal.{Ended, done, stops}
use Rattle.surfaces.specs.Surface.{surface_end}
use Rattle.surfaces.proofs.Chains.{limit_bounds, chain_ends}
use Rattle.numbers.proofs.Choice.{either, both}
use Rattle.recipe.specs.declared.record.Optic.{Optic}
use Rattle.trace.specs.declared.leg.Beam.{Beam}
use Rattle.trace.specs.Leg.{width, float, leg_of, beam_after, hit_row, refusal_row, row_of}
use Rattle.trace.specs.Unbroken.{Mark, Trace, unbroken, rows}
use Rattle.trace.proofs.Endings.{leg_stops}
use Rattle.trace.proofs.Passes.{passes, passes_stop}
use Rattle.tracelist.specs.Listing.{count_in, record_line, record_lines}
use Rattle.tracelist.specs.Parts.{row_lines, records_of}

-- a mark's record is as wide as all, and has its status and its steps in their slots
pub record Marked (m : Mark) (status : ℕ) : Type 0 where
  pub wide : length m.row ≡ width
  pub status_is : count_in m.row 0 ≡ status
  pub steps_are : count_in m.row 12 ≡ m.steps

-- a trace as the rule makes it: hits, and then the recipe's end or a refusal
pub data Shaped : Trace → Type 0 where
  over : {b : Beam} → Shaped (record { marks = []; outcome = 1; beam = b; hits = 0 })
  off : {m : Mark} {n : ℕ} {b : Beam} → Marked m n → n ≢ 1
      → Shaped (record { marks = m ∷ []; outcome = n; beam = b; hits = 0 })
  hit : {m : Mark} {u : Trace} → Marked m 1 → Shaped u
      → Shaped (record { marks = m ∷ u.marks; outcome = u.outcome; beam = u.beam; hits = suc u.hits })

-- a count up to 35 comes back from its slot
count_back : (n : ℕ) → n ≤ 35 → to_unsigned 64 (float n) ≡ n
unfolding in_float
count_back n h = (unsigned_back binary64 64 n (le→leb n (2 ^ 53) (omega arith)) (omega arith)).1

stops_small : (n : ℕ) → stops n ≡ true → n ≤ 35
unfolding stops
stops_small n h = by (eqb n 2) refl h
  where
    by : (t : Bool) → eqb n 2 ≡ t → (t || (leb 4 n && leb n 9)) ≡ true → n ≤ 35
    by true e k = omega (arith, eqb-true n 2 e)
    by false e k = omega (arith, leb-true n 9 (both (leb 4 n) (leb n 9) k).1)

-- one surface of a trace
module _ (k : ℕ) (o : Optic) (b : Beam) where
  abbrev e : Ended
  e = surface_end o.surface b.ray

  abbrev n : ℕ
  n = (leg_of k o b e.answer).line.number

  abbrev m : Mark
  m = record { row = row_of (leg_of k o b e.answer) e.passes; steps = e.passes }

  few_passes : e.passes ≤ 35
  few_passes = omega (arith, (chain_ends o.surface b.ray 0f).within, (limit_bounds o.surface.kind).1)

  hit_marked : eqb n 1 ≡ true → Marked m 1
  unfolding row_of hit_row decimal round to_unsigned
  hit_marked d = rw d (record { wide = refl; status_is = refl; steps_are = count_back e.passes few_passes })

  off_marked : eqb n 1 ≡ false → Marked m n
  unfolding row_of refusal_row
  off_marked d =
      let stopped = leg_stops k o b e.answer (passes_stop (passes o.surface b.ray 0f)) d in
      rw d
      (record {
        wide = refl;
        status_is = count_back n (stops_small n stopped);
        steps_are = count_back e.passes few_passes;
      })

-- every unbroken trace is of that shape
pub shaped : (k : ℕ) (l : List Optic) (b : Beam) → Shaped (unbroken k l b)
unfolding unbroken
shaped k [] b = over
shaped k (o ∷ l) b =
    let next = beam_after o b (leg_of k o b (e k o b).answer).value in
    by_test Shaped (done (leg_of k o b (e k o b).answer)) _ _
    (λ d. hit (hit_marked k o b d) (shaped (k + 1) l next))
    (λ d. off (off_marked k o b d) (eqb-false _ _ d))

-- the lines of a buffer that begins with a trace's records
first_line : {m : Mark} {n : ℕ} → Marked m n → (number k : ℕ) (more rest : List Float)
    → row_lines number (suc k) ((m.row ++ more) ++ rest)
    ≡ record_line number m.row ++ row_lines (suc number) k (more ++ rest)
unfolding row_lines
first_line {m} w number k more rest =
    rw (
      append_assoc m.row more rest,
      take_at m.row (more ++ rest) width w.wide,
      drop_at m.row (more ++ rest) width w.wide,
    )

pub rows_lines : {u : Trace} → Shaped u → (number : ℕ) (rest : List Float)
    → row_lines number (length u.marks) (rows u.marks ++ rest) ≡ record_lines number u.marks
unfolding rows row_lines record_lines
rows_lines over number rest = refl
rows_lines (off k d) number rest = first_line k number 0 [] rest
rows_lines (hit {m} {u} k s) number rest =
    first_line k number (length u.marks) (rows u.marks) rest
    ∙ ap (λ (text : List ℕ). record_line number m.row ++ text) (rows_lines s (suc number) rest)

-- a record for each hit, and one for a refusal
hit_counted : (outcome hits : ℕ) → suc (records_of outcome hits) ≡ records_of outcome (suc hits)
unfolding records_of
hit_counted outcome hits = by (eqb outcome 1)
  where
    by : (t : Bool) → suc (if t then hits else hits + 1) ≡ (if t then suc hits else suc hits + 1)
    by true = refl
    by false = omega arith

pub marks_counted : {u : Trace} → Shaped u → length u.marks ≡ records_of u.outcome u.hits
unfolding records_of
marks_counted over = refl
marks_counted (off {n = n} k d) = rw (ne_eqb n 1 d)
marks_counted (hit {u = u} k s) = ap suc (marks_counted s) ∙ hit_counted u.outcome u.hits

-- no more records than surfaces
pub marks_few : (k : ℕ) (l : List Optic) (b : Beam) → length (unbroken k l b).marks ≤ length l
unfolding unbroken
marks_few k [] b = zero-le
marks_few k (o ∷ l) b =
    let x = leg_of k o b (surface_end o.surface b.ray).answer in
    let h = marks_few (k + 1) l (beam_after o b x.value) in
    either (λ (u : Trace). length u.marks ≤ suc (length l)) (done x) _ _ (omega arith) (omega arith)
