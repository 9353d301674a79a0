-- What was held and what was read behind it have no line feed. Assumes nothing.
use Rattle.std.proofs.Common.{◌≡◌, ◌≢◌, ℕ, ◌+◌, ◌-◌, ◌<◌, Bool, true, false, List, ltb, get_or, sym, subst, refl, ◌∙◌}
use Rattle.std.proofs.Common.{length, slice_range, arith, rules, ltb-true, ltb-false}
use Rattle.std.proofs.lemmas.Grind.{common_steps}
use Rattle.lines.specs.Input.{IsLine}
use Rattle.lines.proofs.input.read_line.Goals as goal

module _ (old new : List ℕ) (held n : ℕ) (clean : (k : ℕ) → k < held → get_or old k 0 ≢ 10)
    (kept : (k : ℕ) → k < held → get_or new k 0 ≡ get_or old k 0)
    (behind : (k : ℕ) → k < n → get_or new (held + k) 0 ≢ 10) where
  no_feed : (k : ℕ) → k < held + n → get_or new k 0 ≢ 10
  no_feed k h = by (ltb k held) refl
    where
      by : (t : Bool) → ltb k held ≡ t → get_or new k 0 ≢ 10
      by true e = let l = ltb-true k held e in λ f. clean k l (sym (kept k l) ∙ f)
      by false e =
          let l = ltb-false k held e in
          let there : held + (k - held) ≡ k = omega arith in
          subst (λ (i : ℕ). get_or new i 0 ≢ 10) there (behind (k - held) (omega arith))

line_is : (buffer : List ℕ) (end : ℕ) → end < length buffer → ((k : ℕ) → k < end → get_or buffer k 0 ≢ 10) →
    IsLine (length buffer) (slice_range buffer 0 end)
line_is buffer end room clean = grind (arith, common_steps)

pub returns-in-Some : goal.returns-in-Some
returns-in-Some g c =
    let loop = c.loop-to in
    let read = c.read_behind-more in
    let feed = c.in-Some in
    let clean =
    no_feed loop.buffer read.new.buffer loop.to feed.n loop.invariant.no_feed read.ensures.kept
    feed.ensures.none_before in
    let before : loop.to + feed.n < loop.to + read.result = feed.ensures.within in
    let room = read.ensures.within in (
      (omega arith, omega arith),
      (
        omega arith,
        line_is read.new.buffer (loop.to + feed.n) (omega arith) clean,
        (omega arith, omega arith, λ _. feed.ensures.there, λ e. absurd (omega arith)),
      ),
    )

pub loop-to-preserved : goal.loop-to-preserved
loop-to-preserved g c =
    let loop = c.loop-to in
    let read = c.read_behind-more in
    let none = c.in_default.ensures.none_before in
    record {
      in_buffer = omega arith;
      same_length = search rules;
      no_feed = no_feed loop.buffer _ loop.to read.result loop.invariant.no_feed read.ensures.kept
          (λ i l. none i (omega arith));
    }
