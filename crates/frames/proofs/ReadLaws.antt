-- A text as it is read, line by line: what holds of refusals 20 to 24 and of the problem at the end holds of the reading.
-- Assumes nothing.
use Prim.Native.Nat.{ℕ, zero, suc, ◌≤◌}
use native.Mathlib.Omega.{arith}
use mathlib.Core.Logic.{◌⊎◌, inl, inr, ⊎_elim}
use mathlib.Core.Path.{◌≡◌, refl}
use mathlib.Core.Bool.{Bool, true, false}
use mathlib.Core.List.{List, [], ◌∷◌}
use lib.Dec.{leb, eqb}
use lib.ListN.{length}
use Rattle.laws.specs.Lists.{nth}
use Rattle.tasks.specs.Refusal.{unless}
use Rattle.lines.specs.Lines.{Line, bytes_of, lines}
use Rattle.lines.specs.Refusal.{length_refusal, frame_refusal, line_refusal}
use Rattle.lines.proofs.RefusalLaws.{unless_none}
use Rattle.frames.specs.Read.{Read, refused, Reading, said, start, in_place, taken_frame, place_refusal, or_read, read_lines, read_within, read_problem}

-- no refusal, or one of a file: 20 to 24
abbrev OfFile : ℕ → Type 0
OfFile k = (k ≡ 0) ⊎ ((20 ≤ k) × (k ≤ 24))

of_file : (b : Bool) (k next : ℕ) → 20 ≤ k → k ≤ 24 → OfFile next → OfFile (unless b k next)
unfolding unless
of_file true k next l h n = n
of_file false k next l h n = inr (l, h)

line_of_file : (l : Line) → OfFile (line_refusal l)
unfolding line_refusal frame_refusal length_refusal
line_of_file l = of_file _ 21 _ (omega arith) (omega arith) (of_file _ 22 _ (omega arith) (omega arith) (of_file _ 23 _ (omega arith) (omega arith) (of_file _ 24 0 (omega arith) (omega arith) (inl refl))))

module _ (P : Read → Type 0) (refuses : (k : ℕ) → 20 ≤ k → k ≤ 24 → P (refused k)) where
  or_read_lem : (k : ℕ) (r : Read) → OfFile k → (k ≡ 0 → P r) → P (or_read k r)
  or_read_lem zero r n h = h refl
  or_read_lem (suc k) r n h = ⊎_elim (λ z. absurd (omega arith)) (λ q. refuses (suc k) q.0 q.1) n

  unless_read : (b : Bool) (k : ℕ) (r : Read) → 20 ≤ k → k ≤ 24 → (b ≡ true → P r) → P (or_read (unless b k 0) r)
  unless_read b k r low high h = or_read_lem (unless b k 0) r (of_file b k 0 low high (inl refl)) (λ e. h (unless_none b k 0 (omega arith) e).0)

  -- behind the last line
  pub end_read : (s : Reading) → P (said s) → P (read_lines s [])
  unfolding read_lines
  end_read s h = unless_read (eqb (nth s.last 0) 7) 24 (said s) (omega arith) (omega arith) (λ e. h)

  -- at a line, which stands in its place if it is not refused
  pub line_read : (l : Line) (ls : List Line) (s : Reading)
      → (in_place (nth s.last 0) (length s.tasks) (bytes_of l.text) ≡ true → P (read_lines (taken_frame s (bytes_of l.text)) ls))
      → P (read_lines s (l ∷ ls))
  unfolding read_lines place_refusal
  line_read l ls s h =
      or_read_lem (line_refusal l) (or_read (place_refusal s (bytes_of l.text)) (read_lines (taken_frame s (bytes_of l.text)) ls)) (line_of_file l) (λ e.
      unless_read (in_place (nth s.last 0) (length s.tasks) (bytes_of l.text)) 24 (read_lines (taken_frame s (bytes_of l.text)) ls) (omega arith) (omega arith) h)

  -- the whole text
  pub text_read : (text : List ℕ) → P (read_lines start (lines text)) → P (read_problem text)
  unfolding read_within
  text_read text h = unless_read (leb (length text) 1024) 20 (read_lines start (lines text)) (omega arith) (omega arith) (λ e. h)
