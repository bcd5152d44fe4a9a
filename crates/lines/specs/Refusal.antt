-- Refusals 21 to 24 of a line.
-- Assumes nothing.
use Rattle.std.specs.Prelude.{ℕ, Bool, true, false, not, [], ◌∷◌, eqb, length}
use Rattle.laws.specs.Tests.{every}
use Rattle.laws.specs.Lists.{nth}
use Rattle.tasks.specs.Refusal.{unless}
use Rattle.lines.specs.Frame.{Sort, Known, Misplaced, Unknown, length_of_kind, sort_of}
use Rattle.lines.specs.Lines.{Line, pairs, bytes_of}

-- there is such a kind
abbrev pub is_kind : Sort → Bool
is_kind Known = true
is_kind Misplaced = true
is_kind Unknown = false

-- it stands in a problem
abbrev pub in_problem : Sort → Bool
in_problem Known = true
in_problem Misplaced = false
in_problem Unknown = false

-- 8.9: 23 wrong length
unfoldable pub length_refusal : ℕ → ℕ → ℕ → ℕ
length_refusal kind count after = unless (eqb count (length_of_kind kind)) 23 after

-- 8.8, 8.10: 22 unknown kind; 23; 24 out of place, as a kind of an answer always is
unfoldable pub frame_refusal : ℕ → ℕ → ℕ
frame_refusal kind count =
    unless (is_kind (sort_of kind)) 22 (length_refusal kind count (unless (in_problem (sort_of kind)) 24 0))

-- 8.6, 8.7: 21 no line feed, not pairs of 0-9A-F, or empty; then its frame
unfoldable pub line_refusal : Line → ℕ
line_refusal l =
    unless (every (l.ended ∷ pairs l.text ∷ not (eqb (length l.text) 0) ∷ [])) 21
    (frame_refusal (nth (bytes_of l.text) 0) (length (bytes_of l.text)))
