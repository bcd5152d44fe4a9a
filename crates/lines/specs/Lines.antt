-- Lines of upper-case hexadecimal, as they are read and written.
-- Assumes nothing.
use Rattle.std.specs.Prelude.{ℕ, ◌+◌, ◌*◌, ◌-◌, ◌/◌, ◌%◌, ◌≤◌, ◌<◌, ◌≡◌, ◌≢◌, Bool, true, false, cond, ◌&&◌, ◌||◌, List, [], ◌∷◌, ◌++◌, ltb, eqb, length, take, pred}
use Rattle.laws.specs.Lists.{nth}
use Rattle.tasks.specs.Refusal.{within}

-- 8.1: 0-9 and A-F
unfoldable pub is_digit : ℕ → Bool
is_digit c = within 48 57 c || within 65 70 c

-- 8.1: what a digit stands for, and 0 for any other byte
unfoldable pub digit_of : ℕ → ℕ
digit_of c = cond (within 48 57 c) (c - 48) (cond (within 65 70 c) (c - 55) 0)

-- 8.1: pairs of 0-9A-F
unfoldable pub pairs : List ℕ → Bool
pairs [] = true
pairs (a ∷ []) = false
pairs (a ∷ b ∷ s) = is_digit a && (is_digit b && pairs s)

-- 8.1: the bytes that pairs of digits stand for
unfoldable pub bytes_of : List ℕ → List ℕ
bytes_of [] = []
bytes_of (a ∷ []) = []
bytes_of (a ∷ b ∷ s) = (digit_of a * 16 + digit_of b) ∷ bytes_of s

-- a line: what stands before its line feed, and whether it has one
pub record Line : Type 0 where
  pub text : List ℕ
  pub ended : Bool

-- b put before the first line
unfoldable pub before : ℕ → List Line → List Line
before b [] = record { text = b ∷ []; ended = false } ∷ []
before b (l ∷ ls) = record { text = b ∷ l.text; ended = l.ended } ∷ ls

-- 8.1: a text cut at line feeds
unfoldable pub lines : List ℕ → List Line
lines [] = []
lines (b ∷ s) = cond (eqb b 10) (record { text = []; ended = true } ∷ lines s) (before b (lines s))

-- bytes end in a line feed
abbrev pub ends_in_feed : List ℕ → Bool
ends_in_feed s = eqb (nth s (pred (length s))) 10

-- the line that bytes are: all before their line feed, or all where they end in none
unfoldable pub line_in : List ℕ → Line
line_in s = record { text = cond (ends_in_feed s) (take (pred (length s)) s) s; ended = ends_in_feed s }

-- the line that begins at a place ends here: at the next line feed, or at the text's end
pub record LineEnd (text : List ℕ) (from to : ℕ) : Type 0 where
  pub behind : from ≤ to
  pub within : to ≤ length text
  pub none_before : (k : ℕ) → from ≤ k → k < to → nth text k ≢ 10
  pub feed : to < length text → nth text to ≡ 10

-- ---- as they are written
-- 8.1: 0-9 and A-F
unfoldable pub hex_of : ℕ → ℕ
hex_of x = cond (ltb x 10) (48 + x) (55 + x)

-- 8.1: the digits of a frame's bytes
unfoldable pub digits : List ℕ → List ℕ
digits [] = []
digits (b ∷ f) = hex_of (b / 16) ∷ hex_of (b % 16) ∷ digits f

-- 8.1: a frame's line, ended by a line feed
unfoldable pub line_of : List ℕ → List ℕ
line_of f = digits f ++ (10 ∷ [])
