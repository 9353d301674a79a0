-- What an answer tells is enough to find the answer again. Assumes nothing.
use Rattle.std.specs.Prelude.{Result, Ok, Err, if◌then◌else◌}
use Prim.Native.Nat.{◌+◌, ◌-◌}
use mathlib.Core.Path.{◌≡◌, refl, sym, ap, ◌∙◌}
use native.Mathlib.Omega.{arith}
use lib.Dec.{eqb}
use Rattle.surfaces.specs.Types.{no_landing}
use Rattle.surfaces.specs.Refusal.{Told, done, line_of, told, told_passed, told_progress, OneToOne, ToldOneToOne}
use Rattle.surfaces.specs.Newton.{going}
use Rattle.surfaces.specs.declared.types.Landing.{Landing}
use Rattle.surfaces.specs.declared.refusal.Refusal.{Refusal}
use Rattle.surfaces.specs.declared.refusal.Refusal.TheVariants.{InvalidParameter, InvalidSurface}
use Rattle.surfaces.specs.declared.refusal.Refusal.TheVariants.{NumericalSingularity, GeometryOutsideAperture}
use Rattle.surfaces.specs.declared.refusal.Refusal.TheVariants.{RayMissedSurface, RayVignetted}
use Rattle.surfaces.specs.declared.refusal.Refusal.TheVariants.{TotalInternalReflection, NotFinite}
use Rattle.surfaces.specs.declared.refusal.Line.{Line}
use Rattle.surfaces.specs.declared.newton.Passed.{Passed}
use Rattle.surfaces.specs.declared.newton.Passed.TheVariants.{Again, Ended}
use Rattle.surfaces.proofs.Refusals.{never_done, never_going}

-- a function with a way back is one to one
pub back_again : {E T : Type 0} (told : E → T) (back : T → E) → ((x : E) → back (told x) ≡ x) → OneToOne told
back_again told back e x y h = sym (e x) ∙ ap back h ∙ e y

refusal_of : Line → Refusal
refusal_of l =
    if eqb l.number 2 then InvalidParameter else
    if eqb l.number 3 then InvalidSurface else
    if eqb l.number 4 then NumericalSingularity else
    if eqb l.number 5 then GeometryOutsideAperture else
    if eqb l.number 6 then RayMissedSurface else
    if eqb l.number 7 then RayVignetted l.r l.limit else
    if eqb l.number 8 then TotalInternalReflection else NotFinite

same : (e : Refusal) → refusal_of (line_of e) ≡ e
unfolding refusal_of
same InvalidParameter = refl
same InvalidSurface = refl
same NumericalSingularity = refl
same GeometryOutsideAperture = refl
same RayMissedSurface = refl
same (RayVignetted r l) = refl
same TotalInternalReflection = refl
same NotFinite = refl

-- the answer of what is told
answer_of : {A : Type 0} → Told A → Result A Refusal
answer_of t = if done t then Ok t.value else Err (refusal_of t.line)

same_answer : {A : Type 0} (blank : A) (x : Result A Refusal) → answer_of (told blank x) ≡ x
unfolding answer_of
same_answer blank (Ok a) = refl
same_answer blank (Err e) = rw (never_done, same)

passed_of : Told Landing → Passed
passed_of t = if going t then Again t.value.t else Ended (answer_of t)

same_passed : (x : Passed) → passed_of (told_passed x) ≡ x
unfolding passed_of
same_passed (Again t) = refl
same_passed (Ended (Ok l)) = ap Ended (same_answer no_landing (Ok l))
same_passed (Ended (Err e)) = rw never_going (ap Ended (same_answer no_landing (Err e)))

pub told_one_to_one : ToldOneToOne
told_one_to_one = record {
  answer = λ {A} blank. back_again (told blank) answer_of (same_answer blank);
  progress = λ made. back_again (told_progress made)
      (λ e. record { passed = passed_of e.answer; taken = e.passes - made })
      (λ e. let n : made + e.taken - made ≡ e.taken = omega arith in rw (same_passed e.passed, n));
}
