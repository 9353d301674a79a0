-- What the shape of a record tells of its places: all that is read of it lies within it, and it within the recipe.
-- Assumes nothing.
use Rattle.std.specs.Prelude.{if◌then◌else◌}
use Prim.Native.Nat.{ℕ, ◌+◌, ◌*◌, ◌/◌, ◌%◌, ◌≤◌}
use mathlib.Core.Path.{◌≡◌, refl}
use mathlib.Core.Logic.{◌⊎◌, inl, inr, ⊎_elim}
use mathlib.Core.Bool.{Bool, true, false, ◌&&◌, ◌||◌}
use mathlib.Core.List.{List}
use native.Mathlib.Omega.{arith}
use lib.ListN.{length}
use lib.Dec.{eqb, leb, lit≤}
use borrow.Author.Tests.{leb-true, eqb-true}
use Rattle.numbers.proofs.Choice.{either, both}
use Rattle.recipe.specs.Shape.{Fitting, Formed, Shape}
use Rattle.recipe.specs.Source.{source_bytes, is_source}
use Rattle.recipe.specs.Record.{length_at, kind_at, end_at, length_fits, formed_at, longest, shaped_at, semi_slot}
use Rattle.recipe.specs.Record.{odd_count, even_count}

-- every kind has four numbers before its semi-diameter, and a biconic has six
pub semi_least : (kind : ℕ) → 4 ≤ semi_slot kind
unfolding semi_slot
semi_least kind =
    either (λ n. 4 ≤ n) (eqb kind 3) _ _ (lit≤ tt) (either (λ n. 4 ≤ n) (eqb kind 4) _ _ (lit≤ tt) (lit≤ tt))

pub semi_biconic : (kind : ℕ) → kind ≡ 3 → semi_slot kind ≡ 6
unfolding semi_slot
semi_biconic kind e = rw e

-- a length of whole numbers that has room for a kind's
fitting : (kind len : ℕ) → 42 ≤ len → len % 8 ≡ 2 → 10 + 8 * semi_slot kind ≤ len
    → (even_count kind len ≤ 8) × (odd_count kind ≤ 8) × (42 + 8 * even_count kind len + 8 * odd_count kind ≤ len)
    → Fitting kind len
fitting kind len l e s n =
    record { least = l; numbers = omega arith; semi = s; even = n.0; odd = n.1; terms = n.2 }

-- one of two, each a kind and its length
last_two : (kind len i m j n : ℕ) → ((eqb kind i && eqb len m) || (eqb kind j && eqb len n)) ≡ true
    → ((kind ≡ i) × (len ≡ m)) ⊎ ((kind ≡ j) × (len ≡ n))
last_two kind len i m j n h = by (eqb kind i && eqb len m) refl h
  where
    told : (i m : ℕ) → (eqb kind i && eqb len m) ≡ true → (kind ≡ i) × (len ≡ m)
    told i m e = let p = both (eqb kind i) _ e in (eqb-true kind i p.0, eqb-true len m p.1)

    by : (t : Bool) → (eqb kind i && eqb len m) ≡ t → (t || (eqb kind j && eqb len n)) ≡ true
        → ((kind ≡ i) × (len ≡ m)) ⊎ ((kind ≡ j) × (len ≡ n))
    by true e h = inl (told i m e)
    by false e h = inr (told j n h)

pub fits : (kind len : ℕ) → length_fits kind len ≡ true → Fitting kind len
unfolding length_fits semi_slot even_count odd_count
fits kind len = by (eqb kind 1) refl (eqb kind 2) refl (eqb kind 3) refl
  where
    by : (t : Bool) → eqb kind 1 ≡ t → (u : Bool) → eqb kind 2 ≡ u → (v : Bool) → eqb kind 3 ≡ v
        → (if t then eqb len 42 else
        if u then leb 42 len && leb len 106 && eqb (len % 8) 2 else
        if v then eqb len 58 else (eqb kind 4 && eqb len 50) || (eqb kind 5 && eqb len 170)) ≡ true
        → Fitting kind len
    by true t u _ v _ h =
        rw (eqb-true kind 1 t, eqb-true len 42 h)
        (fitting 1 42 (lit≤ tt) refl (lit≤ tt) (lit≤ tt, lit≤ tt, lit≤ tt))
    by false _ true u v _ h =
        let p = both (leb 42 len && leb len 106) _ h in
        let q = both (leb 42 len) _ p.0 in
        let l = leb-true 42 len q.0 in
        let m = leb-true len 106 q.1 in
        let e = eqb-true (len % 8) 2 p.1 in
        rw (eqb-true kind 2 u) (fitting 2 len l e l (omega arith, omega arith, omega arith))
    by false _ false _ true v h =
        rw (eqb-true kind 3 v, eqb-true len 58 h)
        (fitting 3 58 (lit≤ tt) refl (lit≤ tt) (lit≤ tt, lit≤ tt, lit≤ tt))
    by false _ false _ false _ h =
        ⊎_elim
        (λ p. rw (p.0, p.1) (fitting 4 50 (lit≤ tt) refl (lit≤ tt) (lit≤ tt, lit≤ tt, lit≤ tt)))
        (λ p. rw (p.0, p.1) (fitting 5 170 (lit≤ tt) refl (lit≤ tt) (lit≤ tt, lit≤ tt, lit≤ tt)))
        (last_two kind len 4 50 5 170 h)

pub formed : (b : List ℕ) (at : ℕ) {len kind : ℕ} → formed_at b at ≡ true → len ≡ length_at b at → kind ≡ kind_at b at
    → Formed (length b) at (kind % 256) len
unfolding formed_at
formed b at h l k =
    let p = both _ (length_fits (kind_at b at % 256) (length_at b at)) h in
    let q = both _ (leb (kind_at b at / 256) 1) p.0 in
    let r = both (leb (at + 4) (length b)) _ q.0 in
    rw (l, k)
    (record {
      inside = leb-true (end_at b at) (length b) r.1;
      fitting = fits (kind_at b at % 256) (length_at b at) p.1;
    })

pub shape : (b : List ℕ) (at : ℕ) {len kind : ℕ} → shaped_at b at ≡ true → len ≡ length_at b at → kind ≡ kind_at b at
    → Shape (length b) at (kind % 256) len
unfolding shaped_at
shape b at h l k =
    let p = both (formed_at b at) _ h in
    record { own = formed b at p.0 l k; end = rw l (leb-true (end_at b at) longest p.1) }

pub source_room : (b : List ℕ) → is_source b ≡ true → source_bytes ≤ length b
unfolding is_source
source_room b h =
    let p = both _ (eqb (kind_at b 0) 0) h in
    leb-true source_bytes (length b) (both (leb source_bytes (length b)) _ p.0).0
