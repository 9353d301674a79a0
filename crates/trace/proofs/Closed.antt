-- After n steps the finished surfaces' records are those of the unbroken trace, all else is blank, and the state is
-- the one of n steps. Assumes nothing.
use Rattle.std.specs.Prelude.{if◌then◌else◌}
use Prim.Native.Nat.{ℕ, suc, ◌+◌, ◌-◌, ◌*◌, ◌≤◌, ◌<◌}
use mathlib.Core.Path.{◌≡◌, refl, sym, ◌∙◌, ap, subst}
use mathlib.Core.List.{List, [], ◌∷◌, ◌++◌, append_assoc, append-nil}
use mathlib.Core.Bool.{Bool, true, false, false≢true}
use native.Mathlib.Omega.{arith}
use native.Mathlib.Nat.{zero-add, sub-zero}
use native.Mathlib.Numerals.{add-one}
use lib.ListN.{length, replicate, drop, length-append, length-drop}
use lib.Seq.{sets, drop-cons}
use lib.Dec.{eqb, leb}
use lib.Ieee.{Float}
use borrow.Author.Tests.{le-leb, lt-leb, leb-true, leb-false, eq-eqb, ne_eqb}
use Rattle.numbers.specs.Arithmetic.{0f}
use Rattle.surfaces.specs.Refusal.{Told, Ended, done, stops}
use Rattle.surfaces.specs.Surface.{surface_end, chain}
use Rattle.numbers.proofs.Choice.{either}
use Rattle.recipe.specs.declared.record.Optic.{Optic}
use Rattle.recipe.specs.Scan.{Item, item_at, no_item}
use Rattle.recipe.proofs.Chain.{Chain, stop, link}
use Rattle.trace.specs.declared.leg.Beam.{Beam}
use Rattle.trace.specs.declared.leg.Leg.{Leg}
use Rattle.trace.specs.declared.state.State.{State}
use Rattle.trace.specs.Leg.{leg_of, beam_after, row_of, hit_row, refusal_row, width}
use Rattle.trace.specs.Unbroken.{Mark, Trace, unbroken, finished, rows, padded}
use Rattle.trace.specs.State.{Held, held, state_after, advance}
use Rattle.trace.specs.Run.{optics_of}
use Rattle.trace.specs.State.{standing}
use Rattle.trace.specs.Demand3.{state_at}
use Rattle.trace.proofs.Lists.{sets_blank}
use Rattle.trace.proofs.Passes.{passes, passes_stop}
use Rattle.trace.proofs.Endings.{leg_stops}
use Rattle.trace.proofs.Steps.{advance_ended, advance_add, midway, left, lands, waits}

pub row_width : (x : Told Leg) (n : ℕ) → length (row_of x n) ≡ width
unfolding row_of hit_row refusal_row
row_width x n = either (λ (r : List Float). length r ≡ width) (done x) _ _ refl refl

-- a record in front of what is shown of the rest
pub padded_more : (v r : List Float) (m : ℕ) → length v ≡ width → v ++ padded (m - width) r ≡ padded m (v ++ r)
unfolding padded
padded_more v r m len =
    let e : m - width - length r ≡ m - length (v ++ r) = let q = length-append v r in omega arith in
    sym (append_assoc v r (replicate (m - width - length r) 0f)) ∙ ap (λ (n : ℕ). (v ++ r) ++ replicate n 0f) e

-- one surface of the unbroken trace, and the state on it
module _ (k : ℕ) (i : Item) (l : List Item) (b : Beam) where
  abbrev o : Optic
  o = i.optic

  abbrev e : Ended
  e = surface_end o.surface b.ray

  abbrev x : Told Leg
  x = leg_of k o b e.answer

  abbrev m : Mark
  m = record { row = row_of x e.passes; steps = e.passes }

  abbrev rest : Trace
  rest = unbroken (k + 1) (optics_of l) (beam_after o b x.value)

  pub unbroken_hit : done x ≡ true
      → unbroken k (optics_of (i ∷ l)) b
      ≡ record { marks = m ∷ rest.marks; outcome = rest.outcome; beam = rest.beam; hits = suc rest.hits }
  unfolding unbroken
  unbroken_hit d = rw d

  pub unbroken_off : done x ≡ false
      → unbroken k (optics_of (i ∷ l)) b ≡ record { marks = m ∷ []; outcome = x.line.number; beam = b; hits = 0 }
  unfolding unbroken
  unbroken_off d = rw d

  module _ (end q n : ℕ) where
    pub state_mid : n < e.passes
        → state_at (i ∷ l) end k b q n
        ≡ midway k i.at b n (chain o.surface b.ray n 0 0f).answer.value.t (q + n)
    unfolding state_at
    state_mid h = rw (lt-leb e.passes n h)

    pub state_hit : e.passes ≤ n → done x ≡ true
        → state_at (i ∷ l) end k b q n ≡ state_at l end (k + 1) (beam_after o b x.value) (q + e.passes) (n - e.passes)
    unfolding state_at
    state_hit h d = rw (le-leb e.passes n h, d)

    pub state_off : e.passes ≤ n → done x ≡ false
        → state_at (i ∷ l) end k b q n ≡ standing k i.at b (q + e.passes) x.line.number
    unfolding state_at
    state_off h d = rw (le-leb e.passes n h, d)

-- the marks that n steps finish, by the first
module _ (a : Mark) (l : List Mark) (n : ℕ) where
  none_finished : n < a.steps → rows (finished n (a ∷ l)) ≡ []
  unfolding finished rows
  none_finished h = rw (lt-leb a.steps n h)

  more_finished : a.steps ≤ n → rows (finished n (a ∷ l)) ≡ a.row ++ rows (finished (n - a.steps) l)
  unfolding finished rows
  more_finished h = rw (le-leb a.steps n h)

-- What is shown, in a buffer that began with w and m blanks, of a trace u after n steps, by which the state is s.
pub record Shows (w : List Float) (m n : ℕ) (u : Trace) (s : State) (h : Held) : Type 0 where
  pub buffer : h.buffer ≡ w ++ padded m (rows (finished n u.marks))
  pub state : h.state ≡ s

-- before the surfaces that are left: done if there are none
abbrev start_outcome : List Item → ℕ
start_outcome [] = 1
start_outcome (i ∷ l) = 0

pub outcome_before : (l r : List Item) (k : ℕ) → drop k l ≡ r → k ≤ length l
    → (if eqb k (length l) then 1 else 0) ≡ start_outcome r
outcome_before l [] k e h =
    let q = sym (length-drop k l) ∙ ap length e in
    rw (eq-eqb k (length l) (omega arith))
outcome_before l (i ∷ r) k e h =
    let q = sym (length-drop k l) ∙ ap length e in
    rw (ne_eqb k (length l) (λ z. omega arith))

cons_head : {A : Type 0} {a b : A} {l m : List A} → a ∷ l ≡ b ∷ m → a ≡ b
cons_head e = cc

cons_tail : {A : Type 0} {a b : A} {l m : List A} → a ∷ l ≡ b ∷ m → l ≡ m
cons_tail e = cc

-- the surface of number k, where the rest from k on is known
module _ (l : List Item) (k : ℕ) (i : Item) (r : List Item) (e : drop k l ≡ i ∷ r) where
  low : k < length l
  low = let q = sym (length-drop k l) ∙ ap length e in omega arith

  split : item_at l k ∷ drop (suc k) l ≡ i ∷ r
  split = sym (drop-cons l k no_item low) ∙ e

  here : item_at l k ≡ i
  here = cons_head split

  beyond : drop (k + 1) l ≡ r
  beyond = ap (λ (n : ℕ). drop n l) (add-one k) ∙ cons_tail split

-- what n steps from the start of surface k show, where r are the surfaces from k on
abbrev Shown : (end : ℕ) (l r : List Item) (k at q m n outcome : ℕ) → Beam → List Float → Type 0
Shown end l r k at q m n outcome b w =
    Shows w m n (unbroken k (optics_of r) b) (state_at r end k b q n)
    (advance l n (held (standing k at b q outcome) (w ++ replicate m 0f)))

-- the record of surface k
abbrev optic_row : ℕ → Optic → Beam → List Float
optic_row k o b =
    let e = surface_end o.surface b.ray in
    row_of (leg_of k o b e.answer) e.passes

-- n steps from the start of surface k, whose item is the list's
module _ (l r : List Item) (end k at q m n : ℕ) (b : Beam) (w : List Float)
    (lw : length w ≡ width * k) (lm : width ≤ m) (first : (item_at l k).at ≡ at) where
  abbrev z : List Float
  z = w ++ replicate m 0f

  abbrev j : Item
  j = item_at l k

  abbrev end_of : Ended
  end_of = surface_end j.optic.surface b.ray

  abbrev leg : Told Leg
  leg = leg_of k j.optic b end_of.answer

  -- the beam behind a hit
  abbrev onward : Beam
  onward = beam_after j.optic b leg.value

  abbrev v : List Float
  v = optic_row k j.optic b

  -- the buffer once the record stands behind w
  abbrev z' : List Float
  z' = (w ++ v) ++ replicate (m - width) 0f

  abbrev begins : Held
  begins = held (midway k at b 0 0f q) z

  abbrev Goal : Held → Type 0
  Goal h = Shows w m n (unbroken k (optics_of (j ∷ r)) b) (state_at (j ∷ r) end k b q n) h

  -- what the rest shows, from any beam
  abbrev outcome_on : ℕ
  outcome_on = if eqb (k + 1) (length l) then 1 else 0

  abbrev Rest : Type 0
  Rest = (c : Beam) (q' n' : ℕ) → Shown end l r (k + 1) j.next q' (m - width) n' outcome_on c (w ++ v)

  written : sets z (width * k) v ≡ z'
  written =
      let h = row_width leg end_of.passes in
      sets_blank w v m (width * k) 0f lw (omega (arith, h)) ∙ ap (λ (i : ℕ). (w ++ v) ++ replicate (m - i) 0f) h

  blank_still : (a : Mark) (t : List Mark) → n < a.steps → z ≡ w ++ padded m (rows (finished n (a ∷ t)))
  unfolding padded
  blank_still a t h = rw (none_finished a t n h, sub-zero m)

  in_the_middle : n < end_of.passes → Goal (advance l n begins)
  unfolding unbroken
  in_the_middle h =
      let Blank : Trace → Type 0 = λ u. z ≡ w ++ padded m (rows (finished n u.marks)) in
      subst Goal (sym (waits l k at b z (passes j.optic.surface b.ray 0f) q n h))
      (record {
        buffer = either Blank (done leg) _ _ (blank_still _ _ h) (blank_still _ _ h);
        state = rw (state_mid k j r b end q n h, first, zero-add n);
      })

  -- n steps, of which the first ones end the surface
  abbrev landed : Held
  landed = left l k at b z end_of.answer end_of.passes (q + end_of.passes)

  over : end_of.passes ≤ n → advance l n begins ≡ advance l (n - end_of.passes) landed
  over h =
      let p : ℕ = end_of.passes in
      let c : n ≡ p + (n - p) = omega arith in
      let ends = lands l k at b z (passes j.optic.surface b.ray 0f) q in
      ap (λ (i : ℕ). advance l i begins) c
      ∙ advance_add l p (n - p) begins
      ∙ ap (λ (g : Held). advance l (n - p) g) ends
      ∙ ap (λ (i : ℕ). advance l (n - p) (left l k at b z end_of.answer i (q + p))) (zero-add p)

  hit_lands : done leg ≡ true → landed ≡ held (standing (k + 1) j.next onward (q + end_of.passes) outcome_on) z'
  unfolding left state_after
  hit_lands d = rw (d, written)

  after_hit : end_of.passes ≤ n → done leg ≡ true → Rest → Goal (advance l n begins)
  after_hit h d rest =
      let p : ℕ = end_of.passes in
      let s = rest onward (q + p) (n - p) in
      let more = more_finished (record { row = v; steps = p }) (unbroken (k + 1) (optics_of r) onward).marks n h in
      let behind = padded_more v _ m (row_width leg p) in
      subst Goal (sym (over h ∙ ap (λ (g : Held). advance l (n - p) g) (hit_lands d)))
      (record {
        buffer =
            rw (unbroken_hit k j r b d, more)
            (s.buffer ∙ append_assoc w v _ ∙ ap (λ (u : List Float). w ++ u) behind);
        state = s.state ∙ sym (state_hit k j r b end q n h d);
      })

  abbrev refused : Held
  refused = held (standing k at b (q + end_of.passes) leg.line.number) z'

  refusal_lands : done leg ≡ false → landed ≡ refused
  unfolding left state_after
  refusal_lands d = rw (d, written)

  after_refusal : end_of.passes ≤ n → done leg ≡ false → (leg.line.number ≡ 0 → ⊥) → Goal (advance l n begins)
  unfolding finished rows padded
  after_refusal h d alive =
      let p : ℕ = end_of.passes in
      let stays = advance_ended l (n - p) refused alive in
      subst Goal (sym (over h ∙ ap (λ (g : Held). advance l (n - p) g) (refusal_lands d) ∙ stays))
      (record {
        buffer =
            rw (unbroken_off k j r b d)
            (rw (le-leb p n h, append-nil v, row_width leg p) (append_assoc w v (replicate (m - width) 0f)));
        state = rw (state_off k j r b end q n h d, first);
      })

  on_surface : (t : Bool) → leb end_of.passes n ≡ t → (d : Bool) → done leg ≡ d → (leg.line.number ≡ 0 → ⊥)
      → Rest → Goal (advance l n begins)
  on_surface false e d f alive rest = in_the_middle (leb-false end_of.passes n e)
  on_surface true e true f alive rest = after_hit (leb-true end_of.passes n e) f rest
  on_surface true e false f alive rest = after_refusal (leb-true end_of.passes n e) f alive

-- a surface's end has a number that is not 0
pub never_going_on : (k : ℕ) (o : Optic) (b : Beam)
    → (leg_of k o b (surface_end o.surface b.ray).answer).line.number ≡ 0 → ⊥
unfolding stops
never_going_on k o b z =
    let ends = passes_stop (passes o.surface b.ray 0f) in
    let h = leg_stops k o b (surface_end o.surface b.ray).answer ends (ap (λ (n : ℕ). eqb n 1) z) in
    false≢true (ap stops (sym z) ∙ h)

pub closed : (y : List ℕ) (l r : List Item) {at : ℕ} → Chain y at r → (k q m n : ℕ) (b : Beam) (w : List Float)
    → drop k l ≡ r → length w ≡ width * k → width * length r ≤ m
    → Shown (length y) l r k at q m n (start_outcome r) b w
unfolding unbroken finished rows padded state_at
closed y l [] {at} (stop h) k q m n b w e lw lm =
    subst (λ (g : Held). Shows w m n (unbroken k [] b) (state_at [] (length y) k b q n) g)
    (sym (advance_ended l n (held (standing k at b q 1) (w ++ replicate m 0f)) (λ z. omega arith)))
    (record { buffer = rw (sub-zero m); state = rw h })
closed y l (i ∷ r) {at} (link g c) k q m n b w e lw lm =
    let first = ap (λ (j : Item). j.at) (here l k i r e) in
    subst (λ (j : Item). Shown (length y) l (j ∷ r) k at q m n 0 b w) (here l k i r e)
    (on_surface l r (length y) k at q m n b w lw (omega arith) first _ refl _ refl
    (never_going_on k (item_at l k).optic b)
    (λ b' q' n'.
    let o = (item_at l k).optic in
    let v : List Float = optic_row k o b in
    let wide : length v ≡ width = row_width _ _ in
    let long : length (w ++ v) ≡ width * (k + 1) = omega (arith, length-append w v, wide) in
    let outcome = outcome_before l r (k + 1) (beyond l k i r e) (let h = low l k i r e in omega arith) in
    subst (λ (s : ℕ). Shown (length y) l r (k + 1) (item_at l k).next q' (m - width) n' s b' (w ++ v)) (sym outcome)
    (subst (λ (p : ℕ). Shown (length y) l r (k + 1) p q' (m - width) n' (start_outcome r) b' (w ++ v))
    (sym (ap (λ (j : Item). j.next) (here l k i r e)))
    (closed y l r c (k + 1) q' (m - width) n' b' (w ++ v) (beyond l k i r e) long (omega arith)))))
