-- Tests: what holds of both answers of one holds of its answer, and what `and` and `or` say of theirs. Assumes nothing.
use Rattle.std.proofs.Common.{◌≡◌, Bool, true, false, not, ◌&&◌, ◌||◌, ◌⊎◌, refl, inl, inr, true≢false, if◌then◌else◌}
use mathlib.Core.Bool.{false≢true}

pub either : {A : Type 0} (P : A → Type 0) (b : Bool) (x y : A) → P x → P y → P (if b then x else y)
either P true x y p q = p
either P false x y p q = q

-- the same where each answer may count on the test
pub by_test : {A : Type 0} (P : A → Type 0) (b : Bool) (x y : A) → (b ≡ true → P x) → (b ≡ false → P y) →
    P (if b then x else y)
by_test P true x y p q = p refl
by_test P false x y p q = q refl

-- what is made of a test's answer is made of each
pub through : {A B : Type 0} (f : A → B) (b : Bool) (x y : A) → f (if b then x else y) ≡ (if b then f x else f y)
through f true x y = refl
through f false x y = refl

pub both : (a b : Bool) → (a && b) ≡ true → (a ≡ true) × (b ≡ true)
both true b h = (refl, h)
both false b h = absurd (false≢true h)

pub one_false : (a b : Bool) → (a && b) ≡ false → (a ≡ false) ⊎ (b ≡ false)
one_false true b h = inr h
one_false false b h = inl refl

pub nor : (a b : Bool) → (not a || b) ≡ false → (a ≡ true) × (b ≡ false)
nor true false h = (refl, refl)
nor true true h = absurd (true≢false h)
nor false b h = absurd (true≢false h)

pub or_else : (a b : Bool) → b ≡ true → (a || b) ≡ true
or_else true b h = refl
or_else false b h = h

-- a row of tests goes on past one that holds, and ends at one that does not
pub goes_on : (a rest : Bool) → not a ≡ false → (a && rest) ≡ rest
goes_on true rest e = refl
goes_on false rest e = absurd (true≢false e)

pub ends_there : (a rest : Bool) → not a ≡ true → (a && rest) ≡ false
ends_there true rest e = absurd (false≢true e)
ends_there false rest e = refl
