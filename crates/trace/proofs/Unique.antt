-- What a result tells is enough to find the result again. Assumes nothing.
use Rattle.std.specs.Prelude.{ℕ, List, Float, Result, Ok, Err, if◌then◌else◌}
use mathlib.Core.Path.{◌≡◌, refl}
use lib.Dec.{eqb}
use Rattle.recipe.specs.declared.fault.Fault.TheVariants.{BadParameter, NegativeSemiDiameter, Singular, Malformed}
use Rattle.trace.specs.declared.refusal.Refused.{Refused}
use Rattle.trace.specs.declared.refusal.Why.{Why}
use Rattle.trace.specs.declared.refusal.Why.TheVariants as why
use Rattle.trace.specs.declared.state.State.{State}
use Rattle.trace.specs.Refusal.{why_number}
use Rattle.trace.specs.Run.{Answer, told_start, told_continue, refused_answer}
use Rattle.trace.specs.Wanted.{Reached, told_reach}
use Rattle.trace.specs.Told.{ToldOneToOne}
use Rattle.surfaces.proofs.Unique.{back_again}

why_of : ℕ → Why
why_of n =
    if eqb n 2 then why.Fault BadParameter else
    if eqb n 3 then why.Fault NegativeSemiDiameter else
    if eqb n 4 then why.Fault Singular else
    if eqb n 10 then why.Fault Malformed else
    if eqb n 11 then why.BufferTooShort else why.StateDoesNotFit

same_why : (w : Why) → why_of (why_number w) ≡ w
unfolding why_of
same_why (why.Fault BadParameter) = refl
same_why (why.Fault NegativeSemiDiameter) = refl
same_why (why.Fault Singular) = refl
same_why (why.Fault Malformed) = refl
same_why why.BufferTooShort = refl
same_why why.StateDoesNotFit = refl

-- a value where the number is 1, and else the refusal
result_of : {A : Type 0} → ℕ → ℕ → A → Result A Refused
result_of n p a = if eqb n 1 then Ok a else Err (record { why = why_of n; place = p })

same_refused : {A : Type 0} (w : Why) (p : ℕ) (a : A)
    → result_of (why_number w) p a ≡ Err (record { why = w; place = p })
unfolding result_of why_of
same_refused (why.Fault BadParameter) p a = refl
same_refused (why.Fault NegativeSemiDiameter) p a = refl
same_refused (why.Fault Singular) p a = refl
same_refused (why.Fault Malformed) p a = refl
same_refused why.BufferTooShort p a = refl
same_refused why.StateDoesNotFit p a = refl

answer_back : Answer → Result State Refused
answer_back a = result_of a.number a.place a.state

same_start : (r : Result State Refused) → answer_back (told_start r) ≡ r
unfolding answer_back result_of refused_answer
same_start (Ok s) = refl
same_start (Err e) = same_refused e.why e.place _

same_continue : (from : State) (r : Result State Refused) → answer_back (told_continue from r) ≡ r
unfolding answer_back result_of
same_continue from (Ok s) = refl
same_continue from (Err e) = same_refused e.why e.place _

reached_back : Reached → Result (List Float) Refused
reached_back r = result_of r.number r.place r.row

same_reach : (r : Result (List Float) Refused) → reached_back (told_reach r) ≡ r
unfolding reached_back result_of
same_reach (Ok z) = refl
same_reach (Err e) = same_refused e.why e.place _

pub told_one_to_one : ToldOneToOne
told_one_to_one = record {
  why = back_again why_number why_of same_why;
  start = back_again told_start answer_back same_start;
  resume = λ from. back_again (told_continue from) answer_back (same_continue from);
  reach = back_again told_reach reached_back same_reach;
}
