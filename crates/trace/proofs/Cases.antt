-- The rules answer as worked out by hand, in every case. Assumes nothing.
use Rattle.numbers.specs.Arithmetic.{decimal}
use Rattle.numbers.specs.Basic.{clamped, infinite, larger, magnitude, negative}
use Rattle.numbers.specs.Root.{root}
use Rattle.recipe.specs.Endian.{number_at, numbers_at, u16_at, u32_at, u64_at}
use Rattle.recipe.specs.Record.{coefficients_at, even_count, formed_at, kind_of, length_fits, negative_semi, odd_count}
use Rattle.recipe.specs.Record.{optic_at, record_at, semi_slot, shaped_at, slot_at}
use Rattle.recipe.specs.Scan.{notes, place_of, scan}
use Rattle.recipe.specs.Source.{is_source, source_of, vector_at}
use Rattle.std.specs.Float.Ieee.{add, div, eq, is_nan, le, lt, mul, neg, of_bits, of_int, round, sub, to_bits}
use Rattle.std.specs.Prelude.{refl, true, ◌≡◌}
use Rattle.surfaces.specs.Asphere.{base_sag, base_slope, even_facing, even_normal, even_sag, even_slope, even_slopes}
use Rattle.surfaces.specs.Asphere.{facing_of, length_of, normal_of, odd_base_slope, odd_normal, odd_on_axis, odd_sag}
use Rattle.surfaces.specs.Asphere.{odd_slope, odd_slopes, odd_slopes_at, power_sum_from, radial_slopes, slope_sum_from}
use Rattle.surfaces.specs.Conic.{conic_crossing, landed_within, normal_at, plane_crossing}
use Rattle.surfaces.specs.Edges.{agree, bits, ◌over◌}
use Rattle.surfaces.specs.Newton.{arrived_at, limited_pass, moved_by, newton_end, next_pass, pass_at, pass_start}
use Rattle.surfaces.specs.Newton.{passes_from, vertex_plane}
use Rattle.surfaces.specs.Snell.{bent, mirrored, negated_if, reflected, refracted, turned_if}
use Rattle.surfaces.specs.Surface.{limit_of, onward_from, pass_answer, surface_end, surface_normal, turn_answer}
use Rattle.surfaces.specs.Types.{all_finite, dot_of, every_finite, over_of, point_at, ray_finite}
use Rattle.surfaces.specs.Types.{vector_length}
use Rattle.trace.specs.Cases.{answered, asked, cases, ending, folded, lens, narrow, on, pointed}
use Rattle.trace.specs.Example.{beam_record, bytes, patterns, plane_record}
use Rattle.trace.specs.File.{start_file_of}
use Rattle.trace.specs.Leg.{beam_after, boundary_of, hit_row, leg_finite, leg_of, refusal_row, row_of, share}
use Rattle.trace.specs.Run.{admission, continue_of, ray_admission, refused_answer, start_at, start_of, whole_of}
use Rattle.trace.specs.State.{advance, beam_good, fits_of, move, outcome_known, passes_fit, paused_at, place_fits}
use Rattle.trace.specs.State.{state_after, step_on, surface_left}
use Rattle.trace.specs.Unbroken.{padded, rows, total, unbroken}
use Rattle.trace.specs.Wanted.{reach_of}

pub each_case : agree cases ≡ true
unfolding cases lens folded pointed narrow on asked ending answered bits ◌over◌ bytes patterns beam_record plane_record
    decimal magnitude negative larger clamped infinite root neg round add sub mul div lt le eq is_nan of_bits to_bits
    of_int dot_of vector_length over_of point_at all_finite ray_finite every_finite turned_if negated_if
    mirrored reflected bent refracted landed_within plane_crossing conic_crossing normal_at arrived_at moved_by pass_at
    vertex_plane passes_from newton_end pass_start next_pass limited_pass power_sum_from slope_sum_from base_sag
    base_slope even_sag even_slope radial_slopes even_slopes length_of facing_of normal_of even_facing even_normal
    odd_sag odd_base_slope odd_slope odd_on_axis odd_slopes_at odd_normal odd_slopes pass_answer surface_end limit_of
    surface_normal onward_from turn_answer u16_at u32_at u64_at number_at numbers_at slot_at length_fits formed_at
    shaped_at semi_slot kind_of odd_count even_count coefficients_at optic_at negative_semi record_at scan place_of
    notes is_source vector_at source_of boundary_of share leg_finite leg_of beam_after hit_row refusal_row row_of
    unbroken total rows padded paused_at state_after surface_left step_on move advance outcome_known place_fits
    passes_fit beam_good fits_of refused_answer ray_admission admission start_at start_of start_file_of continue_of
    whole_of reach_of
each_case = refl
