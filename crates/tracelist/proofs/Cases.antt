-- The rules print of the worked files what was worked out by hand. Assumes nothing.
use Rattle.lines.specs.Output.{decimal_text, glyph, hex_text}
use Rattle.numbers.specs.Arithmetic.{decimal}
use Rattle.numbers.specs.Basic.{clamped, infinite, larger, magnitude, negative}
use Rattle.numbers.specs.Root.{root}
use Rattle.recipe.specs.Endian.{number_at, numbers_at, u16_at, u32_at, u64_at}
use Rattle.recipe.specs.Record.{coefficients_at, even_count, formed_at, kind_of, length_fits, negative_semi, odd_count}
use Rattle.recipe.specs.Record.{optic_at, record_at, semi_slot, shaped_at, slot_at}
use Rattle.recipe.specs.Scan.{scan}
use Rattle.recipe.specs.Source.{is_source, source_of, vector_at}
use Rattle.std.specs.Float.Ieee.{is_nan, add, div, eq, le, lt, mul, neg, of_bits, of_int, round, sub, to_bits}
use Rattle.std.specs.Float.Ieee.{to_unsigned}
use Rattle.std.specs.Prelude.{refl, true, ◌≡◌}
use Rattle.surfaces.specs.Asphere.{base_sag, base_slope, even_facing, even_normal, even_sag, even_slope, even_slopes}
use Rattle.surfaces.specs.Asphere.{facing_of, length_of, power_sum_from, radial_slopes, slope_sum_from}
use Rattle.surfaces.specs.Conic.{conic_crossing, conic_normal, gradient_normal, landed_within, normal_at}
use Rattle.surfaces.specs.Conic.{plane_crossing}
use Rattle.surfaces.specs.Edges.{agree}
use Rattle.surfaces.specs.Newton.{arrived_at, moved_by, newton_end, pass_at, passes_from, vertex_plane}
use Rattle.surfaces.specs.Sags.{edge_root}
use Rattle.surfaces.specs.Snell.{bent, negated_if, refracted, turned_if}
use Rattle.surfaces.specs.Surface.{onward_from, surface_end, surface_normal, turn_answer}
use Rattle.surfaces.specs.Types.{all_finite, dot_of, every_finite, over_of, point_at, ray_finite}
use Rattle.surfaces.specs.Types.{vector_length}
use Rattle.trace.specs.Demand3.{trace_of}
use Rattle.trace.specs.Example.{beam_record, bytes, patterns, plane_record}
use Rattle.trace.specs.File.{start_file_of}
use Rattle.trace.specs.Leg.{beam_after, boundary_of, hit_row, leg_finite, leg_of, refusal_row, row_of, share}
use Rattle.trace.specs.Run.{admission, ray_admission, refused_answer, start_at}
use Rattle.trace.specs.Unbroken.{total, unbroken}
use Rattle.tracelist.specs.Cases.{bowl, cases, inverted, lined, no_index, off_axis, pane, pointer, record_of, ◌&◌}
use Rattle.tracelist.specs.Listing.{ascii, end_line, line, listing, record_line, record_lines, refused_line}
use Rattle.tracelist.specs.Listing.{trace_lines}

pub each_case : agree cases ≡ true
unfolding cases record_of off_axis pointer pane bowl inverted no_index ◌&◌ lined of_bits to_bits of_int to_unsigned neg
    round add sub mul div lt le eq is_nan decimal magnitude negative larger clamped infinite root dot_of vector_length
    over_of point_at all_finite ray_finite every_finite turned_if negated_if bent refracted landed_within
    plane_crossing conic_crossing conic_normal gradient_normal normal_at arrived_at moved_by pass_at vertex_plane
    passes_from newton_end power_sum_from slope_sum_from edge_root base_sag base_slope even_sag even_slope radial_slopes
    even_slopes length_of facing_of even_facing even_normal surface_end surface_normal onward_from turn_answer u16_at
    u32_at u64_at number_at numbers_at slot_at length_fits formed_at shaped_at semi_slot kind_of odd_count even_count
    coefficients_at optic_at negative_semi record_at scan is_source vector_at source_of glyph hex_text decimal_text
    boundary_of share leg_finite leg_of beam_after hit_row refusal_row row_of unbroken total refused_answer
    ray_admission admission start_at start_file_of trace_of bytes patterns beam_record plane_record ascii line
    record_line record_lines end_line refused_line trace_lines listing
each_case = refl
