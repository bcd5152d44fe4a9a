-- The worked example of RULES 9 and a refusal, as they are written.
-- Assumes nothing.
use Prim.Native.Nat.{ℕ}
use mathlib.Core.Path.{◌≡◌, refl}
use mathlib.Core.List.{List, [], ◌∷◌}
use Rattle.laws.specs.Sum.{gate}
use Rattle.laws.specs.Lists.{tab_from}
use Rattle.lines.specs.Lines.{hex_of, digits, line_of}
use Rattle.answer.specs.Write.{verdict_frame, cell_at, slot_frame, slot_lines, write_answer}
use Rattle.lines.proofs.Text.{bytes}

-- what is written: verdict, tries, slots, cores and table
writing : ℕ → ℕ → ℕ → ℕ → List ℕ → List ℕ
unfolding gate tab_from bytes hex_of digits line_of verdict_frame cell_at slot_frame slot_lines write_answer
writing verdict tries H m table = write_answer verdict tries H m table

-- the table of the example, and a refusal
example_written : writing 0 12 3 2 (1 ∷ 3 ∷ 2 ∷ 3 ∷ 2 ∷ 3 ∷ []) ≡ bytes "05000000000C\n06000001030000\n06000102030000\n06000202030000\n07\n"
unfolding writing bytes
example_written = refl

refusal_written : writing 24 0 0 0 [] ≡ bytes "051800000000\n07\n"
unfolding writing bytes
refusal_written = refl
