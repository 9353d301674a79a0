-- Lists that are filled from the front, at any type of element. Assumes nothing.
use mathlib.Core.Path.{◌≡◌, refl, sym, ◌∙◌, ap}
use mathlib.Core.List.{List, [], ◌∷◌, ◌++◌}
use Prim.Native.Nat.{ℕ, zero, suc, ◌+◌, ◌-◌, ◌≤◌}
use native.Mathlib.Nat.{not-suc-le-zero, le_of_suc-le-suc, sub-zero}
use native.Mathlib.Omega.{arith}
use lib.ListN.{length, set, take, drop, replicate, length-append, length-replicate}
use lib.Seq.{sets, drop-set-lt, drop-set-add, sets-eq, take_at, drop-append-add}
use Rattle.std.proofs.Common.{append_assoc}
use Rattle.std.proofs.lemmas.List.Edits.{paste_all}
use Rattle.std.proofs.lemmas.Slice.{put_mid-paste}
use borrow.Rule.Slice.PartMut.{put_mid}

module _ {A : Type 0} where
  pub drop_replicate : (n m : ℕ) (v : A) → drop n (replicate m v) ≡ replicate (m - n) v
  drop_replicate zero m v = rw (sub-zero m)
  drop_replicate (suc n) zero v = let e : 0 - suc n ≡ 0 = omega arith in rw e
  drop_replicate (suc n) (suc m) v = let e : suc m - suc n ≡ m - n = omega arith in rw e (drop_replicate n m v)

  -- a record is written behind what has been written, over blanks
  pub sets_blank : (w vs : List A) (m i : ℕ) (v : A) → length w ≡ i → length vs ≤ m
      → sets (w ++ replicate m v) i vs ≡ (w ++ vs) ++ replicate (m - length vs) v
  sets_blank w vs m i v e h =
      sets-eq vs (w ++ replicate m v) i (rw (length-append w (replicate m v), length-replicate m v) (omega arith))
      ∙ ap (λ (a : List A). (a ++ vs) ++ drop (i + length vs) (w ++ replicate m v)) (take_at w (replicate m v) i e)
      ∙ ap (λ (k : ℕ). (w ++ vs) ++ drop (k + length vs) (w ++ replicate m v)) (sym e)
      ∙ ap (λ (a : List A). (w ++ vs) ++ a) (drop-append-add w (replicate m v) (length vs))
      ∙ ap (λ (a : List A). (w ++ vs) ++ a) (drop_replicate (length vs) m v)

  -- a part of a list is copied over
  pub put_sets : (l ys vs : List A) (at k : ℕ) → ys ≡ vs → k ≡ length vs → at + length vs ≤ length l
      → put_mid at k l ys ≡ sets l at vs
  put_sets l ys vs at k e n h =
      put_mid-paste at k l ys vs k e refl n ∙ paste_all l at vs k n
      ∙ rw (n, sets-eq vs l at h) (sym (append_assoc (take at l) vs (drop (at + length vs) l)))

  -- what is written before a place, and from it on, as the rest from there sees it
  pub drop_sets_before : (vs l : List A) (i d : ℕ) → i + length vs ≤ d → drop d (sets l i vs) ≡ drop d l
  drop_sets_before [] l i d h = refl
  drop_sets_before (v ∷ vs) l i d h =
      drop_sets_before vs (set l i v) (suc i) d (omega arith) ∙ drop-set-lt d l i v (omega arith)

  pub drop_sets : (vs l : List A) (d i : ℕ) → drop d (sets l (d + i) vs) ≡ sets (drop d l) i vs
  drop_sets [] l d i = refl
  drop_sets (v ∷ vs) l d i =
      let e : suc (d + i) ≡ d + suc i = omega arith in
      rw e (drop_sets vs (set l (d + i) v) d (suc i) ∙ ap (λ (a : List A). sets a (suc i) vs) (drop-set-add d l i v))

  pub take_replicate : (n m : ℕ) (v : A) → n ≤ m → take n (replicate m v) ≡ replicate n v
  take_replicate zero m v h = refl
  take_replicate (suc n) zero v h = absurd (not-suc-le-zero h)
  take_replicate (suc n) (suc m) v h = ap (λ (l : List A). v ∷ l) (take_replicate n m v (le_of_suc-le-suc h))
