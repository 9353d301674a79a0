-- How the loop of a check goes on past a record, and its ways out. Assumes nothing.
use Rattle.std.specs.Prelude.{Ok, Err}
use Prim.Native.Nat.{ℕ, suc, ◌+◌, ◌-◌, ◌≤◌, ◌<◌}
use native.Mathlib.Omega.{arith}
use mathlib.Core.Path.{◌≡◌, refl, sym, ◌∙◌, ap}
use mathlib.Core.Logic.{◌≢◌, ◌⊎◌, ⊎_elim}
use mathlib.Core.Bool.{Bool, true, false, ◌&&◌}
use mathlib.Core.List.{List}
use lib.ListN.{length}
use lib.Dec.{ltb}
use borrow.Author.Tests.{eq-eqb, ne_eqb}
use Rattle.surfaces.specs.Surface.{limit_of}
use Rattle.surfaces.proofs.Chains.{limit_bounds}
use Rattle.recipe.specs.declared.record.Optic.{Optic}
use Rattle.recipe.specs.declared.scan.Seen.{Seen}
use Rattle.recipe.specs.Record.{Read, bad, good, record_at}
use Rattle.recipe.specs.Scan.{Item, Scan, Verdict, refused, items, before, scan, failed, note, notes, says}
use Rattle.recipe.specs.Parts.{placed, seen_of}
use Rattle.recipe.proofs.Records.{good_inside}
use Rattle.recipe.proofs.Scans.{scan_end, scan_record}

-- a record that a look passes
pub record Passed (b : List ℕ) (at next limit : ℕ) : Type 0 where
  pub optic : Optic
  pub reads : record_at b at ≡ good optic next
  pub limit_is : limit ≡ limit_of optic.surface.kind
  pub far : at + 44 ≤ next
  pub inside : next ≤ length b
  pub few : limit ≤ 35

module _ (b : List ℕ) (at : ℕ) where
  pub seen_passed : (s : Seen) → Ok s ≡ placed at (seen_of (record_at b at)) → Passed b at s.next s.limit
  seen_passed s e = by (record_at b at) refl
    where
      by : (r : Read) → record_at b at ≡ r → Passed b at s.next s.limit
      by (bad n) q = let z = rw q at e in absurd cc
      by (good o next) q =
          let p : s ≡ record { next = next; limit = limit_of o.surface.kind } = let z = rw q at e in cc in
          let i = good_inside b at q in
          rw p
          (record {
            optic = o;
            reads = q;
            limit_is = refl;
            far = i.0;
            inside = i.1;
            few = (limit_bounds o.surface.kind).1;
          })

  seen_bad : (n p : ℕ) → Err (n, p) ≡ placed at (seen_of (record_at b at)) → (record_at b at ≡ bad n) × (at ≡ p)
  seen_bad n p e = by (record_at b at) refl
    where
      by : (r : Read) → record_at b at ≡ r → (record_at b at ≡ bad n) × (at ≡ p)
      by (bad m) q =
          let w : (n, p) ≡ (m, at) = let z = rw q at e in cc in
          let f : n ≡ m = ap (λ (x : ℕ × ℕ). x.0) w in
          let g : p ≡ at = ap (λ (x : ℕ × ℕ). x.1) w in
          (rw f q, sym g)
      by (good o next) q = let z = rw q at e in absurd cc

says_before : (w : ℕ) (c : Verdict) (i : Item) (r : Scan) → says w c (before i r) ≡ says w (note w c i) r
unfolding notes
says_before w c i (refused n p) = refl
says_before w c i (items l) = refl

more : (most n : ℕ) → n < most → most - n ≡ suc (most - (n + 1))
more most n h = omega arith

abbrev pub noted : ℕ → ℕ → ℕ → ℕ → ℕ → Verdict
noted count limits found limit end =
    record { number = 1; place = 0; count = count; limits = limits; found = found; limit = limit; end = end }

module _ (w n limits found limit here found' limit' : ℕ) (i : Item) (e : here ≡ limit_of i.optic.surface.kind) where
  note_wanted : (n ≡ w) × (found' ≡ i.at) × (limit' ≡ here)
      → note w (noted n limits found limit i.at) i ≡ noted (n + 1) (limits + here) found' limit' i.next
  note_wanted t = rw (eq-eqb n w t.0, t.1, t.2, e)

  note_other : (n ≢ w) × (found' ≡ found) × (limit' ≡ limit)
      → note w (noted n limits found limit i.at) i ≡ noted (n + 1) (limits + here) found' limit' i.next
  note_other t = rw (ne_eqb n w t.0, t.1, t.2, e)

-- a turn of the loop: n records are behind it
pub turn : (all : Bool) (b : List ℕ) (w most n at limits found limit here found' limit' next : ℕ) (o : Verdict)
    → n < most → at < length b → Passed b at next here
    → ((n ≡ w) × (found' ≡ at) × (limit' ≡ here)) ⊎ ((n ≢ w) × (found' ≡ found) × (limit' ≡ limit))
    → o ≡ says w (noted n limits found limit at) (scan all b (most - n) at)
    → o ≡ says w (noted (n + 1) (limits + here) found' limit' next) (scan all b (most - (n + 1)) next)
turn all b w most n at limits found limit here found' limit' next o h k p came inv =
    let i : Item = record { at = at; next = next; optic = p.optic } in
    let wanted = note_wanted w n limits found limit here found' limit' i p.limit_is in
    let other = note_other w n limits found limit here found' limit' i p.limit_is in
    let rest = scan all b (most - (n + 1)) next in
    inv
    ∙ rw (more most n h, scan_record all b (most - (n + 1)) at k, p.reads, ← ⊎_elim wanted other came)
    (says_before w (noted n limits found limit at) i rest)

-- its ways out
module _ (all : Bool) (b : List ℕ) (w most n at : ℕ) (c o : Verdict)
    (inv : o ≡ says w c (scan all b (most - n) at)) where
  pub out_full : most ≤ n → (all && ltb at (length b)) ≡ true → failed 10 at ≡ o
  unfolding scan
  out_full h e = let z : most - n ≡ 0 = omega arith in rw (inv, z, e)

  pub out_enough : most ≤ n → (all && ltb at (length b)) ≡ false → c ≡ o
  unfolding scan notes
  out_enough h e = let z : most - n ≡ 0 = omega arith in rw (inv, z, e)

  pub out_bad : (k p : ℕ) → n < most → at < length b → Err (k, p) ≡ placed at (seen_of (record_at b at))
      → failed k p ≡ o
  out_bad k p h i e =
      let r = seen_bad b at k p e in
      rw (inv, more most n h, scan_record all b (most - (n + 1)) at i, r.0, r.1)

  pub out_end : length b ≤ at → c ≡ o
  unfolding notes
  out_end h = rw (inv, scan_end all b (most - n) at h)
