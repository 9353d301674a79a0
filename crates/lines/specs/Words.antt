-- The words of a line. Definitions only.
use Rattle.std.specs.Prelude.{ℕ, List, not, ◌==◌, length, take, drop, position, Option, Some, None, unwrap_or}

-- the word that begins the text from a place on, and what is behind it
unfoldable pub split_at : List ℕ → Option ℕ → Option (List ℕ) × List ℕ
split_at line None = (None, line)
split_at line (Some start) =
    let text = drop start line in
    let end = unwrap_or (position (λ b. b == 32) text) (length text) in
    (Some (take end text), drop end text)

-- The first word of a line, if it has one, and what is behind it. Spaces part words.
unfoldable pub next_word : List ℕ → Option (List ℕ) × List ℕ
next_word line = split_at line (position (λ b. not (b == 32)) line)
