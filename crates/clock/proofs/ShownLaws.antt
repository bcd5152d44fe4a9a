-- A cell as it is shown: when as it stands, and when as 0.
-- Assumes nothing.
use Rattle.std.proofs.Common.{◌≡◌, ℕ, ◌<◌, ◌≤◌, min, Bool, true, false, T, ltb, leb, ◌≢◌, List, [], ◌∷◌, sym, ⊎_elim, arith, le→leb, ltb→lt, lt→ltb, leb→le, le-leb}
use borrow.Author.Tests.{lt-leb}
use Rattle.laws.specs.Sum.{gate}
use Rattle.laws.specs.Tests.{every}
use Rattle.laws.proofs.SumLaws.{lt_or_ge, gate_yes, gate_no, gate_zero}
use Rattle.laws.proofs.TestLaws.{every_holds, holds_every}
use Rattle.clock.specs.Clock.{shown_cell}

-- a gate that lets i through, which is not 0
through : (b : Bool) (v i : ℕ) → i ≢ 0 → gate b v ≡ i → T b × (v ≡ i)
unfolding gate
through true v i x e = (tt, e)
through false v i x e = absurd (x (sym e))

module _ (m n age offset j v : ℕ) where
  -- the tests of a cell
  abbrev tests : List Bool
  tests = leb v n ∷ leb offset age ∷ ltb j m ∷ []

  -- what they tell
  passed : T (every tests) → (v ≤ n) × (offset ≤ age) × (j < m)
  passed t = let b = every_holds tests t in (leb→le v n b.0, leb→le offset age b.1.0, ltb→lt j m b.1.1.0)

  -- a cell that passes them is shown as it stands
  pub shown_own : v ≤ n → offset ≤ age → j < m → shown_cell m n age offset j v ≡ v
  shown_own a b c = gate_yes _ v (holds_every tests (le→leb v n a, (le→leb offset age b, (lt→ltb j m c, tt))))

  -- a cell that is shown as i, which is not idle, is i, and passed them
  pub shown_is : (i : ℕ) → i ≢ 0 → shown_cell m n age offset j v ≡ i → (v ≡ i) × (v ≤ n) × (offset ≤ age) × (j < m)
  shown_is i x e = let h = through _ v i x e in let b = passed h.0 in (h.1, b.0, b.1, b.2)

  -- a cell above the task count is shown as 0
  pub shown_above : n < v → shown_cell m n age offset j v ≡ 0
  shown_above l = gate_no _ v (λ t. omega (arith, (passed t).0))

  -- so is one whose task's offset exceeds age
  pub shown_early : age < offset → shown_cell m n age offset j v ≡ 0
  shown_early l = gate_no _ v (λ t. omega (arith, (passed t).1))

  -- and one on a core that the board lacks
  pub shown_beyond : m ≤ j → shown_cell m n age offset j v ≡ 0
  shown_beyond l = gate_no _ v (λ t. omega (arith, (passed t).2))

-- an idle cell is shown as 0
pub shown_idle : (m n age offset j : ℕ) → shown_cell m n age offset j 0 ≡ 0
shown_idle m n age offset j = gate_zero _

-- the age tells of an offset up to 1024 what the time tells
pub age_tells : (m n s offset j v : ℕ) → offset ≤ 1024 → shown_cell m n (min s 1024) offset j v ≡ shown_cell m n s offset j v
age_tells m n s offset j v h = ⊎_elim
    (λ l. rw (lt-leb offset (min s 1024) (omega arith), lt-leb offset s l))
    (λ l. rw (le-leb offset (min s 1024) (omega arith), le-leb offset s l))
    (lt_or_ge s offset)
