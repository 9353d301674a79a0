-- What a check has noted of a list of surfaces. Assumes nothing.
use Prim.Native.Nat.{ℕ, zero, suc, ◌+◌, ◌<◌}
use native.Mathlib.Omega.{arith}
use native.Mathlib.Nat.{not-suc-le-zero, add-zero}
use mathlib.Core.Path.{◌≡◌, refl, sym, ◌∙◌}
use mathlib.Core.Bool.{true, false}
use mathlib.Core.List.{List, [], ◌∷◌}
use lib.ListN.{length}
use lib.Dec.{eqb}
use borrow.Author.Tests.{eq-eqb, ne_eqb}
use Rattle.surfaces.specs.Surface.{limit_of}
use Rattle.recipe.specs.Scan.{Item, Verdict, note, notes, item_at, sum_limits}
use Rattle.recipe.proofs.Cuts.{end_from}

-- number and place stay what they were
pub notes_answer : (w : ℕ) (c : Verdict) (l : List Item)
    → ((notes w c l).number ≡ c.number) × ((notes w c l).place ≡ c.place)
unfolding notes
notes_answer w c [] = (refl, refl)
notes_answer w c (i ∷ l) = notes_answer w (note w c i) l

pub notes_count : (w : ℕ) (c : Verdict) (l : List Item) → (notes w c l).count ≡ c.count + length l
unfolding notes
notes_count w c [] = sym (add-zero c.count)
notes_count w c (i ∷ l) = omega (arith, notes_count w (note w c i) l)

pub notes_limits : (w : ℕ) (c : Verdict) (l : List Item) → (notes w c l).limits ≡ c.limits + sum_limits l
unfolding notes sum_limits
notes_limits w c [] = sym (add-zero c.limits)
notes_limits w c (i ∷ l) = omega (arith, notes_limits w (note w c i) l)

notes_kept : (w : ℕ) (c : Verdict) (l : List Item) → w < c.count
    → ((notes w c l).found ≡ c.found) × ((notes w c l).limit ≡ c.limit)
unfolding notes
notes_kept w c [] h = (refl, refl)
notes_kept w c (i ∷ l) h =
    let other : eqb c.count w ≡ false = ne_eqb c.count w (λ e. omega arith) in
    let later = notes_kept w (note w c i) l (omega arith) in
    (later.0 ∙ rw other, later.1 ∙ rw other)

pub notes_found : (w : ℕ) (c : Verdict) (l : List Item) (k : ℕ) → w ≡ c.count + k → k < length l
    → ((notes w c l).found ≡ (item_at l k).at) × ((notes w c l).limit ≡ limit_of (item_at l k).optic.surface.kind)
unfolding notes
notes_found w c [] k e h = absurd (not-suc-le-zero h)
notes_found w c (i ∷ l) zero e h =
    let here : eqb c.count w ≡ true = eq-eqb c.count w (omega arith) in
    let later = notes_kept w (note w c i) l (omega arith) in
    (later.0 ∙ rw here, later.1 ∙ rw here)
notes_found w c (i ∷ l) (suc k) e h = notes_found w (note w c i) l k (omega arith) (omega arith)

-- where the last of them ends
pub notes_end : (w : ℕ) (c : Verdict) (l : List Item) → (notes w c l).end ≡ end_from c.end l
unfolding notes end_from
notes_end w c [] = refl
notes_end w c (i ∷ l) = notes_end w (note w c i) l
