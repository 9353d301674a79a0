-- Demand 1 through the lent arrays: what the trace's calls answer, told of what a call leaves. Assumes nothing.
use Prim.Native.Nat.{ℕ}
use mathlib.Core.Path.{◌≡◌, refl, sym, ◌∙◌, ap}
use mathlib.Core.Logic.{◌≢◌, ◌↔◌}
use mathlib.Core.List.{List}
use mathlib.Core.Bool.{Bool, true, false}
use lib.Dec.{eqb}
use lib.Ieee.{Float}
use borrow.Author.Tests.{eqb-true}
use Rattle.numbers.proofs.Choice.{either}
use Rattle.trace.specs.Run.{Reply, continue_of}
use Rattle.trace.specs.Demand1 as trace
use Rattle.trace.proofs.Demand1.{demand_1}
use Rattle.station.specs.declared.Verdict.{Verdict}
use Rattle.station.specs.Lent.{Left, state_in, counts_of, numbers_of, verdict_of, told, told_if_accepted, continued}
use Rattle.station.specs.Demand1.{Answers, Blanked, Unchanged, Demand1}

answered : {l b : List ℕ} (w : Left) (r : Reply) → w.verdict ≡ verdict_of r.answer → trace.Answers l b r
    → Answers l b w
answered w r e a = record { number = rw e a.number; place = rw e a.place }

blanked : (z : List Float) (r : Reply) → trace.Blanked z r → Blanked z (told r)
unfolding counts_of numbers_of
blanked z r h = record { buffer = h.buffer; counts = rw h.state; numbers = rw h.state }

module _ (b c : List ℕ) (x z : List Float) (allowed : ℕ) where
  abbrev r : Reply
  r = continue_of b (state_in c x) z allowed

  verdict : (continued b c x z allowed).verdict ≡ verdict_of r.answer
  unfolding continued
  verdict = either (λ (w : Left). w.verdict ≡ verdict_of r.answer) (eqb r.answer.number 1) _ _ refl refl

  number : (continued b c x z allowed).verdict.number ≡ r.answer.number
  number = ap (λ (v : Verdict). v.number) verdict

  unchanged : r.answer.number ≢ 1 → Unchanged c x z (continued b c x z allowed)
  unfolding continued
  unchanged h = by (eqb r.answer.number 1) refl
    where
      by : (t : Bool) → eqb r.answer.number 1 ≡ t → Unchanged c x z (told_if_accepted c x r)
      by true e = absurd (h (eqb-true _ _ e))
      by false e =
          let kept = demand_1.refused_resume b (state_in c x) z allowed h in
          rw e (record { counts = refl; numbers = refl; buffer = kept.buffer })

  twelve : ((continued b c x z allowed).verdict.number ≡ 12) ↔ trace.Refused12 b (state_in c x) z
  twelve = let t = demand_1.twelve b (state_in c x) z allowed in (λ e. t.0 (sym number ∙ e), λ u. number ∙ t.1 u)

pub demand_1_lent : Demand1
demand_1_lent = record {
  start = λ b ray index z. answered _ _ refl (demand_1.start b ray index z);
  whole = λ b ray index z. answered _ _ refl (demand_1.whole b ray index z);
  resume = λ b c x z n. answered _ _ (verdict b c x z n) (demand_1.resume b (state_in c x) z n);
  reach = λ b ray index k.
      let a = demand_1.reach b ray index k in
      record { number = a.number; place = a.place; refused = a.refused };
  refused_start = λ b ray index z h. blanked z _ (demand_1.refused_start b ray index z h);
  refused_whole = λ b ray index z h. blanked z _ (demand_1.refused_whole b ray index z h);
  refused_resume = λ b c x z n h. unchanged b c x z n (λ e. h (number b c x z n ∙ e));
  twelve = twelve;
}
