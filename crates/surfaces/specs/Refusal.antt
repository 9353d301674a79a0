-- What comes back, in SCOPE's terms (T1, T2): a line of its table and the answer's values. The rules speak in these
-- terms, and what each answer of the code tells stands below. Definitions only.
use Rattle.std.specs.Prelude.{ℕ, ◌+◌, Bool, false, not, ◌&&◌, ◌||◌, ◌≡◌, eqb, leb, Float, if◌then◌else◌}
use Rattle.std.specs.Prelude.{Result, Ok, Err}
use Rattle.numbers.specs.Arithmetic.{◌<₆₄◌, 0f}
use Rattle.surfaces.specs.Types.{zeros, no_meridians, landing, no_landing, no_hit, no_coefficients}
use Rattle.surfaces.specs.declared.types.Vec3.{Vec3}
use Rattle.surfaces.specs.declared.types.Landing.{Landing}
use Rattle.surfaces.specs.declared.types.HitRecord.{HitRecord}
use Rattle.surfaces.specs.declared.types.Meridians.{Meridians}
use Rattle.surfaces.specs.declared.refusal.Refusal.{Refusal}
use Rattle.surfaces.specs.declared.refusal.Refusal.TheVariants.{InvalidParameter, InvalidSurface}
use Rattle.surfaces.specs.declared.refusal.Refusal.TheVariants.{NumericalSingularity, GeometryOutsideAperture}
use Rattle.surfaces.specs.declared.refusal.Refusal.TheVariants.{RayMissedSurface, RayVignetted}
use Rattle.surfaces.specs.declared.refusal.Refusal.TheVariants.{TotalInternalReflection, NotFinite}
use Rattle.surfaces.specs.declared.refusal.Line.{Line}
use Rattle.surfaces.specs.declared.conic.ConicSurface.{ConicSurface}
use Rattle.surfaces.specs.declared.asphere.EvenAsphere.{EvenAsphere}
use Rattle.surfaces.specs.declared.asphere.OddAsphere.{OddAsphere}
use Rattle.surfaces.specs.declared.biconic.BiconicSurface.{BiconicSurface}
use Rattle.surfaces.specs.declared.biconic.ToroidalSurface.{ToroidalSurface}
use Rattle.surfaces.specs.declared.newton.Passed.{Passed}
use Rattle.surfaces.specs.declared.newton.Passed.TheVariants as passed
use Rattle.surfaces.specs.declared.newton.Progress.{Progress}
use Rattle.surfaces.specs.declared.surface.Leaving.{Leaving}

-- what is told: a line of the table "What comes back", and the answer's own values
pub record Told (A : Type 0) : Type 0 where
  pub line : Line
  pub value : A

abbrev pub plain : ℕ → Line
plain n = record { number = n; r = 0f; limit = 0f }

abbrev pub vignetted : Float → Float → Line
vignetted r limit = record { number = 7; r = r; limit = limit }

-- 1, with the answer's values
abbrev pub gives : {A : Type 0} → A → Told A
gives a = record { line = plain 1; value = a }

-- a refusal's line, with `blank` for the answer's values: +0.0 in every number
abbrev pub refused : {A : Type 0} → A → Line → Told A
refused blank l = record { line = l; value = blank }

abbrev pub done : {A : Type 0} → Told A → Bool
done t = eqb t.line.number 1

-- the numbers that stop a trace at a surface: 2, and 4 to 9
unfoldable pub stops : ℕ → Bool
stops n = eqb n 2 || (leb 4 n && leb n 9)

-- what follows from an answer, or its refusal passed on
abbrev pub after : {A B : Type 0} → B → Told A → (A → Told B) → Told B
after blank t next = if done t then next t.value else refused blank t.line

-- 9 comes last: an answer with a number that is not finite
abbrev pub checked9 : {A : Type 0} → A → (A → Bool) → Told A → Told A
checked9 blank fine t = if done t && not (fine t.value) then refused blank (plain 9) else t

-- what a public function hands out: its refusal n of arguments that are not good, else the raw answer with 9 behind it
abbrev pub handed_out : {A : Type 0} → ℕ → A → (A → Bool) → Bool → Told A → Told A
handed_out n blank fine good t = if not good then refused blank (plain n) else checked9 blank fine t

-- a surface that a constructor accepts unless one of its numbers is bad or its semi-diameter negative
abbrev pub accepted : {A : Type 0} → A → Bool → Float → A → Told A
accepted blank good semi s = if not good || (semi <₆₄ 0f) then refused blank (plain 2) else gives s

-- a refusal by number alone, in place of each kind of answer
abbrev pub no_number : ℕ → Told Float
no_number n = refused 0f (plain n)

abbrev pub no_pair : ℕ → Told Meridians
no_pair n = refused no_meridians (plain n)

abbrev pub no_direction : ℕ → Told Vec3
no_direction n = refused zeros (plain n)

abbrev pub no_crossing : ℕ → Told Landing
no_crossing n = refused no_landing (plain n)

abbrev pub line_of : Refusal → Line
line_of InvalidParameter = plain 2
line_of InvalidSurface = plain 3
line_of NumericalSingularity = plain 4
line_of GeometryOutsideAperture = plain 5
line_of RayMissedSurface = plain 6
line_of (RayVignetted r limit) = vignetted r limit
line_of TotalInternalReflection = plain 8
line_of NotFinite = plain 9

-- what an answer of the code tells, where `blank` stands for no value
abbrev pub told : {A : Type 0} → A → Result A Refusal → Told A
told blank (Ok a) = gives a
told blank (Err e) = refused blank (line_of e)

abbrev pub told_number : Result Float Refusal → Told Float
told_number = told 0f

abbrev pub told_pair : Result Meridians Refusal → Told Meridians
told_pair = told no_meridians

abbrev pub told_direction : Result Vec3 Refusal → Told Vec3
told_direction = told zeros

abbrev pub told_crossing : Result Landing Refusal → Told Landing
told_crossing = told no_landing

abbrev pub told_meet : Result HitRecord Refusal → Told HitRecord
told_meet = told no_hit

-- constructors: a refused surface is blank, its coefficients among it
abbrev pub no_conic : ConicSurface
no_conic = record { vertex = 0f; curvature = 0f; conic = 0f; semi = 0f }

abbrev pub no_even : EvenAsphere
no_even = record { curvature = 0f; conic = 0f; semi = 0f; coefficients = no_coefficients }

abbrev pub no_odd : OddAsphere
no_odd = record { curvature = 0f; conic = 0f; semi = 0f; even = no_coefficients; odd = no_coefficients }

abbrev pub no_biconic : BiconicSurface
no_biconic = record { cx = 0f; kx = 0f; cy = 0f; ky = 0f; semi = 0f }

abbrev pub no_toroid : ToroidalSurface
no_toroid = record { rx = 0f; cy = 0f; ky = 0f; semi = 0f }

abbrev pub told_conic : Result ConicSurface Refusal → Told ConicSurface
told_conic = told no_conic

abbrev pub told_even : Result EvenAsphere Refusal → Told EvenAsphere
told_even = told no_even

abbrev pub told_odd : Result OddAsphere Refusal → Told OddAsphere
told_odd = told no_odd

abbrev pub told_biconic : Result BiconicSurface Refusal → Told BiconicSurface
told_biconic = told no_biconic

abbrev pub told_toroid : Result ToroidalSurface Refusal → Told ToroidalSurface
told_toroid = told no_toroid

-- a pass that has not ended tells 0, and the t of the next one
abbrev pub again : Float → Told Landing
again t = record { line = plain 0; value = landing t zeros }

abbrev pub told_passed : Passed → Told Landing
told_passed (passed.Again t) = again t
told_passed (passed.Ended x) = told_crossing x

-- an end, and the passes that it took
pub record Ended : Type 0 where
  pub answer : Told Landing
  pub passes : ℕ

abbrev pub ended : Told Landing → ℕ → Ended
ended x n = record { answer = x; passes = n }

-- how far passes came, after `made` of them
abbrev pub told_progress : ℕ → Progress → Ended
told_progress made e = ended (told_passed e.passed) (made + e.taken)

abbrev pub no_leaving : Leaving
no_leaving = record { normal = zeros; direction = zeros; front = false }

abbrev pub told_turned : Result Leaving Refusal → Told Leaving
told_turned = told no_leaving

-- An answer is known by what it tells: of two answers that a promise allows, each is the other.
abbrev pub OneToOne : {E T : Type 0} → (E → T) → Type 0
OneToOne {E} told = (x y : E) → told x ≡ told y → x ≡ y

pub record ToldOneToOne : Type 1 where
  pub answer : {A : Type 0} (blank : A) → OneToOne (told blank)
  pub progress : (made : ℕ) → OneToOne (told_progress made)
