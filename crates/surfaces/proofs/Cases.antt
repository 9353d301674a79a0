-- The rules answer as worked out by hand, in every case. Assumes nothing.
use Rattle.numbers.specs.Arithmetic.{decimal}
use Rattle.numbers.specs.Basic.{clamped, infinite, larger, magnitude, negative}
use Rattle.numbers.specs.Root.{root}
use Rattle.std.specs.Float.Ieee.{add, div, eq, is_nan, le, lt, mul, neg, of_bits, of_int, sub}
use Rattle.std.specs.Prelude.{refl, true, ◌≡◌}
use Rattle.surfaces.specs.Asphere.{base_sag, base_slope, even_crossing_answer, even_facing, even_good, even_normal}
use Rattle.surfaces.specs.Asphere.{even_paraxial_answer, even_sag, even_sag_answer, even_slope, even_slope_answer}
use Rattle.surfaces.specs.Asphere.{even_slopes, facing_of, length_of, normal_of, odd_base_slope, odd_crossing_answer}
use Rattle.surfaces.specs.Asphere.{odd_good, odd_normal, odd_normal_answer, odd_on_axis, odd_sag, odd_sag_answer}
use Rattle.surfaces.specs.Asphere.{odd_slope, odd_slopes, odd_slopes_at, power_sum_from, radial_slopes, slope_sum_from}
use Rattle.surfaces.specs.Biconic.{base_curve_radicand, base_curve_sag, base_curve_slope, biconic_crossing_answer}
use Rattle.surfaces.specs.Biconic.{biconic_good, biconic_normal, biconic_normal_answer, biconic_radicand, biconic_sag}
use Rattle.surfaces.specs.Biconic.{biconic_sag_answer, biconic_slopes, biconic_slopes_answer, biconic_slopes_at}
use Rattle.surfaces.specs.Biconic.{circle_sag, circle_slopes, circle_slopes_at, meridian_slope, numerator_of, on_axis}
use Rattle.surfaces.specs.Biconic.{slope_radicand, toroid_crossing_answer, toroid_good, toroid_normal, toroid_sag}
use Rattle.surfaces.specs.Biconic.{toroid_sag_answer, toroid_slopes, toroid_slopes_answer}
use Rattle.surfaces.specs.Conic.{ascending, conic_crossing, conic_finite, conic_meet, conic_meet_answer, conic_normal}
use Rattle.surfaces.specs.Conic.{conic_normal_answer, conic_sag, conic_sag_answer, curvature_of, curved_crossing}
use Rattle.surfaces.specs.Conic.{first_on, first_root, from_curvature_answer, from_radius_answer, gradient_normal}
use Rattle.surfaces.specs.Conic.{hit_at, kept, landed_within, near_sag, normal_at, plane_crossing, quadratic_of}
use Rattle.surfaces.specs.Conic.{second_root, sign_of}
use Rattle.surfaces.specs.Edges.{agree, bits, cases, ◌over◌}
use Rattle.surfaces.specs.Newton.{arrived_at, limited_pass, moved_by, newton_end, next_pass, pass_at, pass_start}
use Rattle.surfaces.specs.Newton.{passes_from, vertex_plane}
use Rattle.surfaces.specs.Sags.{edge_root}
use Rattle.surfaces.specs.Snell.{bent, mirrored, negated_if, reflect_answer, reflected, refract_answer, refracted}
use Rattle.surfaces.specs.Snell.{turned_if}
use Rattle.surfaces.specs.Surface.{onward_from, pass_answer, surface_end, surface_normal, turn_answer}
use Rattle.surfaces.specs.Types.{all_finite, both_finite, coefficients_good, dot_of, every_finite, hit_finite}
use Rattle.surfaces.specs.Types.{landing_finite, over_of, point_at, ray_finite}

pub each_case : agree cases ≡ true
unfolding cases bits ◌over◌ decimal magnitude negative larger clamped infinite root neg add sub mul div lt le eq is_nan
    of_bits of_int dot_of over_of point_at all_finite ray_finite both_finite landing_finite hit_finite
    every_finite coefficients_good turned_if negated_if mirrored reflected reflect_answer bent refracted refract_answer
    curvature_of from_radius_answer from_curvature_answer conic_sag conic_sag_answer gradient_normal conic_normal
    conic_normal_answer conic_finite landed_within plane_crossing near_sag first_on kept first_root second_root
    ascending quadratic_of sign_of curved_crossing conic_crossing normal_at hit_at conic_meet conic_meet_answer
    arrived_at moved_by pass_at vertex_plane passes_from newton_end pass_start next_pass limited_pass power_sum_from
    slope_sum_from edge_root base_sag base_slope even_sag even_slope radial_slopes even_slopes length_of facing_of
    normal_of even_facing even_normal even_good even_sag_answer even_slope_answer even_paraxial_answer
    even_crossing_answer odd_sag odd_base_slope odd_slope odd_on_axis odd_slopes_at odd_normal odd_slopes odd_good
    odd_sag_answer odd_normal_answer odd_crossing_answer numerator_of biconic_radicand biconic_sag on_axis
    meridian_slope biconic_slopes_at biconic_slopes biconic_normal biconic_good biconic_sag_answer biconic_slopes_answer
    biconic_normal_answer biconic_crossing_answer base_curve_radicand base_curve_sag circle_sag toroid_sag
    slope_radicand base_curve_slope circle_slopes_at circle_slopes toroid_slopes toroid_normal toroid_good
    toroid_sag_answer toroid_slopes_answer toroid_crossing_answer pass_answer surface_end surface_normal onward_from
    turn_answer
each_case = refl
