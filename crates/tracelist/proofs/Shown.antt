-- The two counts in a record's line, and what of a long file may stay unread. Assumes nothing.
use Rattle.std.proofs.Common.{◌≡◌, ℕ, zero, suc, ◌+◌, ◌<◌, ◌≢◌, List, length, take, sym, refl, ap, ◌∙◌, arith}
use Rattle.trace.specs.Unbroken.{Trace}
use Rattle.trace.specs.Run.{Reply}
use Rattle.trace.specs.Long.{longest_file}
use Rattle.trace.proofs.Long as trace
use Rattle.tracelist.specs.Listing.{count_in, refused_line, room, listing}
use Rattle.tracelist.specs.Shown.{mark_at, Shown}
use Rattle.tracelist.proofs.Marks.{Shaped, over, off, hit, shaped}
use Rattle.tracelist.proofs.Traces.{refused_listing}

hit_status : {u : Trace} → Shaped u → (k : ℕ) → k < u.hits → count_in (mark_at u k).row 0 ≡ 1
hit_status over k h = absurd (omega arith)
hit_status (off m n) k h = absurd (omega arith)
hit_status (hit m s) zero h = m.status_is
hit_status (hit m s) (suc k) h = hit_status s k (omega arith)

refusal_status : {u : Trace} → Shaped u → u.outcome ≢ 1 → count_in (mark_at u u.hits).row 0 ≡ u.outcome
refusal_status over h = absurd (h refl)
refusal_status (off m n) h = m.status_is
refusal_status (hit m s) h = refusal_status s h

steps_shown : {u : Trace} → Shaped u → (k : ℕ) → k < length u.marks
    → count_in (mark_at u k).row 12 ≡ (mark_at u k).steps
steps_shown over k h = absurd (omega arith)
steps_shown (off m n) zero h = m.steps_are
steps_shown (off m n) (suc k) h = absurd (omega arith)
steps_shown (hit m s) zero h = m.steps_are
steps_shown (hit m s) (suc k) h = steps_shown s k (omega arith)

long_alike : (f : List ℕ) → longest_file < length f → listing f ≡ listing (take (longest_file + 1) f)
long_alike f h =
    let l = (trace.long).file f room h in
    refused_listing f l.1
    ∙ ap (λ (r : Reply). refused_line r.answer.number r.answer.place) l.0
    ∙ sym (refused_listing (take (longest_file + 1) f) (λ e. l.1 (ap (λ (r : Reply). r.answer.number) l.0 ∙ e)))

pub shown : Shown
shown =
    record {
      hit = λ first l b. hit_status (shaped first l b);
      refusal = λ first l b. refusal_status (shaped first l b);
      steps = λ first l b. steps_shown (shaped first l b);
      long = long_alike;
    }
