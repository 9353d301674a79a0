-- The word that was copied, and the space behind it, are what `put` puts.
use Rattle.std.proofs.Common.{◌≡◌, ℕ, ◌+◌, ◌-◌, ◌<◌, List, ◌++◌, length, take, set, refl, arith, add-one, drop-cons, lt-ltb}
use Rattle.std.proofs.Common.{length-append, length-take-le}
use Rattle.std.proofs.Math.Seq.{paste, take-length, set_at}
use Rattle.std.proofs.lemmas.Slice.{put_mid-paste}
use Rattle.lines.specs.Output.{put}
use Rattle.lines.proofs.output.put_word.Goals as goal

spaced : (out word : List ℕ) (at : ℕ) → at + length word < length out →
    (at + length word + 1, set (paste out at word (length word)) (at + length word) 32) ≡ put out at word
unfolding put
spaced out word at room =
    let p : length (take at out ++ word) ≡ at + length word =
    rw (length-append, length-take-le at out (omega arith)) in
    rw (
      lt-ltb _ _ room,
      take-length word,
      drop-cons out (at + length word) 0 room,
      add-one (at + length word),
      set_at (take at out ++ word) _ _ 32 _ p,
    )

pub returns : goal.returns
returns c =
    let x = c.args in
    let n = length x.word.now in
    let room : x.at + n < length x.out.now = omega arith in
    let k : n ≡ x.at + n - x.at = omega arith in
    rw (put_mid-paste x.at _ x.out.now _ _ n c.copy_from_slice.ensures.after k refl) (spaced x.out.now x.word.now x.at room)
