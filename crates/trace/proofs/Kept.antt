-- What a walk keeps: of a whole result buffer, the records from a surface on. Assumes nothing.
use Prim.Native.Nat.{ℕ, ◌+◌, ◌-◌, ◌*◌, ◌≤◌, ◌<◌}
use mathlib.Core.Path.{◌≡◌, refl, sym, ◌∙◌, ap}
use mathlib.Core.List.{List, ◌++◌}
use native.Mathlib.Omega.{arith}
use lib.ListN.{length, length-append, length-replicate, length-drop}
use lib.Seq.{sets, drop_at}
use lib.Ieee.{Float}
use Rattle.numbers.specs.Arithmetic.{0f}
use Rattle.trace.specs.declared.state.State.{State}
use Rattle.trace.specs.Leg.{width}
use Rattle.trace.specs.State.{Held, held}
use Rattle.trace.specs.Parts.{Ready, kept_from, blanks, lent_from}
use Rattle.trace.proofs.Lists.{drop_sets, drop_sets_before}
use Rattle.trace.proofs.Walks.{Runs}

-- a record is written into what is kept of the buffer z, or stands before that
module _ (first : ℕ) (z y : List Float) (kept : y ≡ kept_from first z) (number : ℕ) (v : List Float) where
  pub row_kept : first ≤ number → sets y (width * (number - first)) v ≡ kept_from first (sets z (width * number) v)
  row_kept h =
      let at : width * number ≡ width * first + width * (number - first) = omega arith in
      rw (kept, at, drop_sets v z (width * first) (width * (number - first)))

  pub row_dropped : number < first → length v ≡ width → y ≡ kept_from first (sets z (width * number) v)
  row_dropped h wide = kept ∙ sym (drop_sets_before v z (width * number) (width * first) (omega arith))

-- A walk's invariant with a part of the buffer: it is kept of one with which the walk runs.
pub record Keeps (b : List ℕ) (count first allowed : ℕ) (h₀ : Held) (s : State) (y : List Float) (left : ℕ)
    : Type 0 where
  pub full : List Float
  pub kept : y ≡ kept_from first full
  pub runs : Runs b count allowed h₀ (held s full) left

module _ (b : List ℕ) (count first allowed : ℕ) (s₀ : State) (y₀ : List Float) where
  abbrev h₀ : Held
  h₀ = held s₀ (blanks first ++ y₀)

  long : length (blanks first ++ y₀) ≡ width * first + length y₀
  long = length-append (blanks first) y₀ ∙ rw (length-replicate (width * first) 0f)

  pub keeps_first : Ready b (width * first + length y₀) count s₀ → Keeps b count first allowed h₀ s₀ y₀ allowed
  keeps_first r =
      record {
        full = blanks first ++ y₀;
        kept = sym (drop_at (blanks first) y₀ (width * first) (length-replicate (width * first) 0f));
        runs = record { same = refl; ready = rw long r; long = refl; steps = refl };
      }

  module _ {s : State} {y : List Float} {left : ℕ} (k : Keeps b count first allowed h₀ s y left) where
    -- as many numbers as at first
    full_long : length k.full ≡ width * first + length y₀
    full_long = k.runs.long ∙ long

    pub keeps_long : length y ≡ length y₀
    keeps_long = let d = ap length k.kept ∙ length-drop (width * first) k.full in omega (arith, full_long)

    pub keeps_room : {n : ℕ} → n ≤ length k.full → n ≤ width * first + length y
    keeps_room h = omega (arith, full_long, keeps_long)

    -- what holds of the whole is kept of it
    pub keeps_is : (r : State) (h : Held) → held r k.full ≡ h → held r y ≡ lent_from first h
    keeps_is r h e = ap (λ (w : List Float). held r w) k.kept ∙ ap (lent_from first) e

  pub keeps_next : (h : Held) {left : ℕ} → Runs b count allowed h₀ h left → (s : State) (y : List Float)
      → held s y ≡ lent_from first h → Keeps b count first allowed h₀ s y left
  keeps_next h r s y e =
      let state = ap (λ (g : Held). g.state) e in
      record {
        full = h.buffer;
        kept = ap (λ (g : Held). g.buffer) e;
        runs = rw state r;
      }
