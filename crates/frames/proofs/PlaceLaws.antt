-- Frames in their place: what may follow what, and numbers of tasks.
-- Assumes nothing.
use Prim.Native.Nat.{ℕ, suc, ◌+◌, ◌≤◌, ◌<◌}
use native.Mathlib.Decide.{ℕ_discrete}
use native.Mathlib.Numerals.{add-one}
use native.Mathlib.Omega.{arith}
use mathlib.Core.Path.{◌≡◌, refl}
use mathlib.Core.Logic.{◌≢◌, ◌⊎◌, inl, inr}
use mathlib.Core.Bool.{true, false, ◌||◌}
use borrow.Author.Tests.{le-leb, lt-leb, eq-eqb, ne_eqb}
use lib.Dec.{eqb}
use Rattle.lines.specs.declared.Kind.{Kind}
use Rattle.lines.specs.declared.Kind.TheVariants.{Cores, Task, Rates, Limit, Verdict, Slot, End}
use Rattle.lines.specs.Told.{code_of}
use Rattle.frames.specs.Read.{right_number}

-- ---- numbers of tasks
task_kind : (kind : ℕ) → 2 ≤ kind → kind ≤ 3 → eqb kind 2 || eqb kind 3 ≡ true
task_kind kind a b = elim (ℕ_discrete kind 2) [
  | yes e ↦ rw e
  | no x ↦ simp (ne_eqb kind 2 x, eq-eqb kind 3 (omega arith))
]

-- an 02 or an 03, and any other kind
pub task_code : (kind : Kind) → (kind ≡ Task) ⊎ (kind ≡ Rates) → (2 ≤ code_of kind) × (code_of kind ≤ 3)
task_code kind (inl e) = rw e (omega arith, omega arith)
task_code kind (inr e) = rw e (omega arith, omega arith)

pub other_code : (kind : Kind) → kind ≢ Task → kind ≢ Rates → (code_of kind ≢ 2) × (code_of kind ≢ 3)
other_code Cores a b = (λ z. omega arith, λ z. omega arith)
other_code Task a b = absurd (a refl)
other_code Rates a b = absurd (b refl)
other_code Limit a b = (λ z. omega arith, λ z. omega arith)
other_code Verdict a b = (λ z. omega arith, λ z. omega arith)
other_code Slot a b = (λ z. omega arith, λ z. omega arith)
other_code End a b = (λ z. omega arith, λ z. omega arith)

module _ (n kind number : ℕ) where
  -- a task's frame, where all numbers are used up
  pub number_over : 2 ≤ kind → kind ≤ 3 → 16 ≤ n → right_number n kind number ≡ false
  unfolding right_number
  number_over a b l = rw (task_kind kind a b) (elim (ℕ_discrete number (suc n)) [
    | yes e ↦ rw (eq-eqb number (suc n) e) (lt-leb number 16 (omega arith))
    | no x ↦ rw (ne_eqb number (suc n) x)
  ])

  -- and where some are left
  pub number_next : 2 ≤ kind → kind ≤ 3 → n < 16 → right_number n kind number ≡ eqb number (n + 1)
  unfolding right_number
  number_next a b l = rw (task_kind kind a b, add-one n) (elim (ℕ_discrete number (suc n)) [
    | yes e ↦ rw (eq-eqb number (suc n) e) (le-leb number 16 (omega arith))
    | no x ↦ rw (ne_eqb number (suc n) x)
  ])

  -- any other frame
  pub number_none : kind ≢ 2 → kind ≢ 3 → right_number n kind number ≡ true
  unfolding right_number
  number_none a b = simp (ne_eqb kind 2 a, ne_eqb kind 3 b)
