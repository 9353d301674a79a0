-- The rules leave in the arrays what was worked out by hand, in every case. Assumes nothing.
use Rattle.numbers.specs.Arithmetic.{decimal}
use Rattle.numbers.specs.Basic.{clamped, infinite, larger, magnitude, negative}
use Rattle.numbers.specs.Root.{root}
use Rattle.recipe.specs.Endian.{number_at, numbers_at, u16_at, u32_at, u64_at}
use Rattle.recipe.specs.Record.{coefficients_at, even_count, formed_at, kind_of, length_fits, odd_count, optic_at}
use Rattle.recipe.specs.Record.{record_at, semi_slot, shaped_at, slot_at}
use Rattle.recipe.specs.Scan.{notes, scan}
use Rattle.station.specs.Cases.{cases}
use Rattle.station.specs.Lent.{continued, counts_of, numbers_of, outcome_in, passes_in, state_in}
use Rattle.std.specs.Float.Ieee.{add, div, eq, is_nan, le, lt, mul, neg, of_bits, of_int, round, sub, to_bits}
use Rattle.std.specs.Prelude.{refl, true, ◌≡◌}
use Rattle.surfaces.specs.Conic.{conic_crossing, conic_normal, gradient_normal, landed_within, normal_at}
use Rattle.surfaces.specs.Conic.{plane_crossing}
use Rattle.surfaces.specs.Edges.{agree, bits, ◌over◌}
use Rattle.surfaces.specs.Snell.{bent, negated_if, refracted, turned_if}
use Rattle.surfaces.specs.Surface.{limit_of, onward_from, pass_answer, surface_end, surface_normal, turn_answer}
use Rattle.surfaces.specs.Types.{all_finite, dot_of, every_finite, over_of, point_at, ray_finite, ray_of}
use Rattle.surfaces.specs.Types.{vector_length}
use Rattle.trace.specs.Example.{bytes, patterns, plane_record}
use Rattle.trace.specs.Leg.{beam_after, boundary_of, hit_row, leg_finite, leg_of, row_of, share}
use Rattle.trace.specs.Run.{admission, continue_of, ray_admission, refused_answer, start_at, start_of}
use Rattle.trace.specs.State.{advance, beam_good, fits_of, move, outcome_known, passes_fit, place_fits, state_after}
use Rattle.trace.specs.State.{step_on, surface_left}
use Rattle.trace.specs.Unbroken.{unbroken}
use Rattle.trace.specs.Wanted.{reach_of}

pub each_case : agree cases ≡ true
unfolding cases bits ◌over◌ ray_of passes_in outcome_in state_in counts_of numbers_of continued bytes patterns
    plane_record decimal magnitude negative larger clamped infinite root neg round add sub mul div lt le eq is_nan
    of_bits to_bits of_int dot_of vector_length over_of point_at all_finite ray_finite every_finite turned_if
    negated_if bent refracted landed_within plane_crossing conic_crossing conic_normal gradient_normal normal_at
    pass_answer limit_of surface_normal onward_from turn_answer u16_at u32_at u64_at number_at numbers_at slot_at
    length_fits formed_at shaped_at semi_slot kind_of odd_count even_count coefficients_at optic_at record_at scan notes
    boundary_of share leg_finite leg_of beam_after hit_row row_of state_after surface_left step_on move advance
    outcome_known place_fits passes_fit beam_good fits_of refused_answer ray_admission admission start_at start_of
    continue_of surface_end unbroken reach_of
each_case = refl
