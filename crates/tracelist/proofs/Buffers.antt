-- Texts that are put into a buffer one behind the other, and the words of a line. Assumes nothing.
use Rattle.std.proofs.Common.{◌≡◌, ℕ, suc, ◌+◌, ◌-◌, ◌<◌, ◌≤◌, List, [], ◌∷◌, ◌++◌, map, length, take, drop, set, sym}
use Rattle.std.proofs.Common.{refl, ap, ◌∙◌, append_assoc, add-zero, arith, length-append, set-set, le-ltb, lt-ltb}
use Rattle.std.proofs.Common.{ne_eqb}
use lib.Ieee.{Float}
use lib.Seq.{sets, length-sets, sets-eq, append_snoc}
use Rattle.lines.specs.Output.{put, put_floats, ended}
use Rattle.tracelist.specs.Listing.{ascii, line, bits, filled}
use Rattle.tracelist.specs.Parts.{written}

-- what is stored behind a text, and the two at once
sets_append : (out : List ℕ) (at : ℕ) (a b : List ℕ) → sets (sets out at a) (at + length a) b ≡ sets out at (a ++ b)
sets_append out at [] b = rw (add-zero at)
sets_append out at (x ∷ a) b =
    let e : at + suc (length a) ≡ suc at + length a = omega arith in
    rw e (sets_append (set out at x) (suc at) a b)

written_more : (out : List ℕ) (at : ℕ) (a b : List ℕ)
    → written (sets out at a) (at + length a) b ≡ written out at (a ++ b)
unfolding written
written_more out at a b =
    let e : at + length a + length b ≡ at + length (a ++ b) = let q = length-append a b in omega arith in
    rw (e, sets_append out at a b)

-- a text behind another
pub both_written : (out : List ℕ) (at : ℕ) (a b : List ℕ) (p q : ℕ × List ℕ) → p ≡ written out at a
    → q ≡ written p.1 p.0 b → q ≡ written out at (a ++ b)
unfolding written
both_written out at a b p q e f = f ∙ ap (λ (x : ℕ × List ℕ). written x.1 x.0 b) e ∙ written_more out at a b

-- a text that fits the buffer begins it
pub written_filled : (out text : List ℕ) → length text ≤ length out → written out 0 text ≡ filled out text
unfolding written filled
written_filled out text h =
    let e : 0 + length text ≡ length text = omega arith in
    rw (sets-eq text out 0 (omega arith), e)

-- the words that are put one after the other
unfoldable pub put_all : ℕ × List ℕ → List (List ℕ) → ℕ × List ℕ
put_all p [] = p
put_all p (w ∷ words) = put_all (put p.1 p.0 w) words

-- one word more in front, and none
pub one_put : (p q r : ℕ × List ℕ) (w : List ℕ) (words : List (List ℕ)) → q ≡ put p.1 p.0 w
    → r ≡ put_all q words → r ≡ put_all p (w ∷ words)
unfolding put_all
one_put p q r w words e f = f ∙ ap (λ (x : ℕ × List ℕ). put_all x words) e

pub none_put : (p : ℕ × List ℕ) → p ≡ put_all p []
unfolding put_all
none_put p = refl

pub floats_put : (p : ℕ × List ℕ) (values : List Float) → put_floats p values ≡ put_all p (map bits values)
unfolding put_all put_floats
floats_put p [] = refl
floats_put p (x ∷ values) = floats_put (put p.1 p.0 (bits x)) values

-- the words of a line with a space between them
unfoldable joined : List ℕ → List (List ℕ) → List ℕ
joined w [] = w
joined w (v ∷ words) = w ++ (32 ∷ joined v words)

line_is : (w : List ℕ) (words : List (List ℕ)) → line w words ≡ joined w words ++ (10 ∷ [])
unfolding line joined ascii
line_is w [] = refl
line_is w (v ∷ words) =
    rw (line_is v words, append_snoc w 32 (joined v words ++ (10 ∷ [])), append_assoc w (32 ∷ joined v words) (10 ∷ []))

-- a line's length, word by word
pub last_word : (w : List ℕ) → length (line w []) ≡ length w + 1
unfolding line ascii
last_word w = length-append w (10 ∷ [])

pub next_word : (w v : List ℕ) (words : List (List ℕ))
    → length (line w (v ∷ words)) ≡ length w + 1 + length (line v words)
unfolding line ascii
next_word w v words = rw (length-append (w ++ (32 ∷ [])) (line v words), length-append w (32 ∷ []))

-- a word that fits, with its space
put_fits : (out : List ℕ) (at : ℕ) (w : List ℕ) → at + length w < length out
    → put out at w ≡ written out at (w ++ (32 ∷ []))
unfolding written put
put_fits out at w h =
    let e : at + length (w ++ (32 ∷ [])) ≡ at + length w + 1 = let q = length-append w (32 ∷ []) in omega arith in
    rw (
      lt-ltb (at + length w) (length out) h,
      sets-eq (w ++ (32 ∷ [])) out at (omega arith),
      e,
      ← append_assoc (take at out) w (32 ∷ []),
      append_snoc (take at out ++ w) 32 (drop (at + length w + 1) out),
    )

-- what the words of a line come to before its end
all_put : (out : List ℕ) (at : ℕ) (w : List ℕ) (words : List (List ℕ)) → at + length (line w words) ≤ length out
    → put_all (at, out) (w ∷ words) ≡ written out at (joined w words ++ (32 ∷ []))
unfolding written put_all joined
all_put out at w [] h = put_fits out at w (omega (arith, last_word w))
all_put out at w (v ∷ words) h =
    let u : List ℕ = w ++ (32 ∷ []) in
    let q = next_word w v words in
    let r : at + length u + length (line v words) ≤ length (sets out at u) =
    rw (length-sets out at u, length-append w (32 ∷ [])) (omega arith) in
    let behind : List ℕ = joined v words ++ (32 ∷ []) in
    ap (λ (p : ℕ × List ℕ). put_all p (v ∷ words)) (put_fits out at w (omega arith))
    ∙ all_put (sets out at u) (at + length u) v words r
    ∙ written_more out at u behind
    ∙ ap (written out at) (append_snoc w 32 behind ∙ sym (append_assoc w (32 ∷ joined v words) (32 ∷ [])))

-- the line feed in the place of the last space
fed : (out : List ℕ) (at : ℕ) (a : List ℕ) → at + length a < length out →
    let spaced = a ++ (32 ∷ []) in
    (at + length spaced, ended (sets out at spaced) (at + length spaced)) ≡ written out at (a ++ (10 ∷ []))
unfolding written ended
fed out at a h =
    let e : at + length (a ++ (32 ∷ [])) ≡ suc (at + length a) = let q = length-append a (32 ∷ []) in omega arith in
    let f : at + length (a ++ (10 ∷ [])) ≡ suc (at + length a) = let q = length-append a (10 ∷ []) in omega arith in
    let g : suc (at + length a) - 1 ≡ at + length a = omega arith in
    let k : suc (at + length a) ≤ length (sets out at (a ++ (32 ∷ []))) =
    rw (length-sets out at (a ++ (32 ∷ []))) (omega arith) in
    rw (
      e,
      f,
      ne_eqb (suc (at + length a)) 0 (λ z. omega arith),
      le-ltb (length (sets out at (a ++ (32 ∷ [])))) (suc (at + length a)) k,
      g,
      ← sets_append out at a (32 ∷ []),
      ← sets_append out at a (10 ∷ []),
      set-set (sets out at a) (at + length a) 32 10,
    )

-- words that are put one after the other and ended are their line
pub line_put : (out : List ℕ) (at : ℕ) (w : List ℕ) (words : List (List ℕ)) (p : ℕ × List ℕ)
    → at + length (line w words) ≤ length out → p ≡ put_all (at, out) (w ∷ words)
    → (p.0, ended p.1 p.0) ≡ written out at (line w words)
unfolding written
line_put out at w words p h e =
    let n = ap length (line_is w words) ∙ length-append (joined w words) (10 ∷ []) in
    ap (λ (q : ℕ × List ℕ). (q.0, ended q.1 q.0)) (e ∙ all_put out at w words h)
    ∙ fed out at (joined w words) (omega arith)
    ∙ ap (written out at) (sym (line_is w words))
