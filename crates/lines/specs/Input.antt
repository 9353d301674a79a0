-- What is known of the lines that are read. Definitions only.
use Rattle.std.specs.Prelude.{ℕ, ◌+◌, ◌<◌, ◌≤◌, ◌≡◌, ◌≢◌, List, length, slice_index, slice_range, EachIndex}
use Rattle.lines.specs.declared.input.Next.{Next}
use Rattle.lines.specs.declared.input.ReadLine.{ReadLine}
use Rattle.lines.specs.declared.input.ReadLine.TheVariants.{Given, TooLong, End}
use Rattle.lines.specs.declared.input.Unread.{Unread}

-- a line of fewer bytes than a buffer has, without a line feed
abbrev pub IsLine : ℕ → List ℕ → Type 0
IsLine most line = (length line < most) × EachIndex line (λ k. slice_index line k ≢ 10)

-- what is not handed out stands in the buffer
abbrev pub IsUnread : List ℕ → Unread → Type 0
IsUnread buffer unread = (unread.from ≤ unread.to) × (unread.to ≤ length buffer)

-- A line's feed stands behind it, and then what is unread. Behind the last line, which may lack a feed, nothing is.
abbrev pub IsEnded : List ℕ → ℕ → Unread → Type 0
IsEnded buffer end unread =
    (end ≤ unread.from) × (unread.from ≤ end + 1) ×
    (unread.from ≢ end → slice_index buffer end ≡ 10) × (unread.from ≡ end → unread.to ≡ end)

-- a line that is given stands in the buffer
abbrev pub IsRead : List ℕ → ReadLine → Unread → Type 0
IsRead buffer (Given start end) unread =
    (start ≤ end) × IsLine (length buffer) (slice_range buffer start end) × IsEnded buffer end unread
IsRead buffer TooLong unread = Unit {0}
IsRead buffer End unread = Unit {0}

-- a line that is given, and what is unread behind it
abbrev pub IsNext : List ℕ → Next → Type 0
IsNext buffer next = IsUnread buffer next.unread × IsRead buffer next.line next.unread
