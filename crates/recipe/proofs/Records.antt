-- What a record that is read says of its bytes: a good one its shape, its numbers and its end, a bad one its number.
-- Assumes nothing.
use Rattle.std.specs.Prelude.{if◌then◌else◌}
use Prim.Native.Nat.{ℕ, ◌+◌, ◌/◌, ◌%◌, ◌≤◌}
use native.Mathlib.Omega.{arith}
use mathlib.Core.Path.{◌≡◌, refl}
use mathlib.Core.Logic.{◌≢◌}
use mathlib.Core.Bool.{Bool, true, false, not, false≢true}
use mathlib.Core.List.{List, [], ◌∷◌}
use lib.ListN.{length}
use lib.Dec.{eqb}
use lib.Ieee.Scale.{finite}
use Rattle.numbers.specs.Arithmetic.{◌<₆₄◌, ◌≤₆₄◌, 0f}
use Rattle.surfaces.specs.Types.{every_finite}
use Rattle.numbers.specs.Arithmetic.{one_of}
use Rattle.numbers.proofs.Choice.{either}
use Rattle.numbers.proofs.Literals.{literals}
use Rattle.recipe.specs.declared.record.Optic.{Optic}
use Rattle.recipe.specs.Endian.{numbers_at}
use Rattle.recipe.specs.Record.{Read, bad, good, length_at, kind_at, end_at, slot_at, longest, shaped_at}
use Rattle.recipe.specs.Record.{semi_slot, kind_of, optic_at, negative_semi, record_at, read_at}
use Rattle.recipe.proofs.Numbers.{finite_at}
use Rattle.recipe.proofs.Shapes.{shape}

record Accepted (b : List ℕ) (at : ℕ) (o : Optic) (next : ℕ) : Type 0 where
  pub shaped : shaped_at b at ≡ true
  pub numbers : every_finite (numbers_at b (at + 4) (length_at b at / 8)) ≡ true
  pub index : (slot_at b at 1 ≤₆₄ 0f) ≡ false
  pub optic : o ≡ optic_at b at
  pub end : next ≡ end_at b at

not_good : {n : ℕ} {o : Optic} {next : ℕ} → bad n ≡ good o next → ⊥
not_good e = let z : ◌≡◌ {A = ℕ} 0 1 = cc in omega arith

-- the numbers of a record's refusals, among which 1 is not
abbrev pub Refuses : ℕ → Type 0
Refuses n = one_of (2 ∷ 3 ∷ 4 ∷ 10 ∷ []) n ≡ true

pub not_1 : {n : ℕ} → Refuses n → n ≢ 1
unfolding one_of
not_1 h e = false≢true (rw e at h)

abbrev Numbered : Read → Type 0
Numbered (bad n) = Refuses n
Numbered (good o next) = Unit {0}

pub kind_there : (b : List ℕ) (at : ℕ) → (optic_at b at).surface.kind ≡ kind_of (kind_at b at % 256) (slot_at b at)
unfolding optic_at
kind_there b at = refl

pub ruleset looking = (literals, kind_there)

module _ (b : List ℕ) (at : ℕ) where
  abbrev judged : Bool → Bool → Bool → Bool → Read
  judged shaped numbers semi index =
      if not shaped then bad 10 else
      if not numbers then bad 2 else
      if semi then bad (negative_semi (kind_at b at % 256)) else
      if index then bad 4 else good (optic_at b at) (end_at b at)

  accepted : {o : Optic} {next : ℕ} → record_at b at ≡ good o next → Accepted b at o next
  unfolding record_at
  accepted {o} {next} h =
      by (shaped_at b at) refl (every_finite (numbers_at b (at + 4) (length_at b at / 8))) refl
      (slot_at b at (semi_slot (kind_at b at % 256)) <₆₄ 0f) (slot_at b at 1 ≤₆₄ 0f) refl h
    where
      by : (t : Bool) → shaped_at b at ≡ t → (u : Bool) → every_finite (numbers_at b (at + 4) (length_at b at / 8)) ≡ u
          → (v w : Bool) → (slot_at b at 1 ≤₆₄ 0f) ≡ w → judged t u v w ≡ good o next → Accepted b at o next
      by false t u _ v w _ e = absurd (not_good e)
      by true t false _ v w _ e = absurd (not_good e)
      by true t true u true w _ e = absurd (not_good e)
      by true t true u false true _ e = absurd (not_good e)
      by true t true u false false w e = record { shaped = t; numbers = u; index = w; optic = cc; end = cc }

  module _ {o : Optic} {next : ℕ} (h : record_at b at ≡ good o next) where
    pub good_shape : (shaped_at b at ≡ true) × (next ≡ end_at b at)
    good_shape = let a = accepted h in (a.shaped, a.end)

    pub good_inside : (at + 44 ≤ next) × (next ≤ length b) × (next ≤ longest)
    good_inside =
        let a = accepted h in
        let f = shape b at a.shaped refl refl in
        (omega arith, omega arith, omega arith)

    pub good_read : read_at b at ≡ record { number = 1; next = next; optic = o }
    unfolding read_at
    good_read = let a = accepted h in rw (a.shaped, a.optic, a.end)

    pub good_index : (finite o.index ≡ true) × ((o.index ≤₆₄ 0f) ≡ false)
    unfolding optic_at slot_at
    good_index =
        let a = accepted h in
        let f = shape b at a.shaped refl refl in
        rw a.optic (finite_at b (at + 4) (length_at b at / 8) 1 (omega arith) a.numbers, a.index)

  judged_number : Numbered (record_at b at)
  unfolding record_at negative_semi one_of
  judged_number =
      either Numbered (not (shaped_at b at)) _ _ refl
      (either Numbered (not (every_finite (numbers_at b (at + 4) (length_at b at / 8)))) _ _ refl
      (either Numbered (slot_at b at (semi_slot (kind_at b at % 256)) <₆₄ 0f) _ _
      (either Refuses (eqb (kind_at b at % 256) 1) _ _ refl refl)
      (either Numbered (slot_at b at 1 ≤₆₄ 0f) _ _ refl tt)))

  pub bad_number : {n : ℕ} → record_at b at ≡ bad n → Refuses n
  bad_number h = rw h at judged_number
