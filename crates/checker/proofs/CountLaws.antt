-- The first faulty job by the counters, task by task.
-- Assumes nothing.
use Prim.Native.Nat.{ℕ, suc, ◌+◌, ◌/◌, ◌≤◌, ◌<◌}
use native.Mathlib.Numerals.{add-one}
use native.Mathlib.Omega.{arith}
use mathlib.Core.Path.{◌≡◌, refl, sym, ap, ◌∙◌}
use mathlib.Core.Logic.{⊎_elim}
use mathlib.Core.List.{List}
use lib.ListN.{length}
use borrow.Author.Tests.{lt-ltb, le-ltb}
use Rattle.std.specs.Prelude.{None, Some}
use Rattle.laws.specs.Lists.{seek, first_of}
use Rattle.laws.proofs.SumLaws.{gate_lt, gate_ge, lt_or_ge}
use Rattle.laws.proofs.ListLaws.{seek_is, seek_none, seek_some}
use Rattle.tasks.specs.declared.Task.{Task}
use Rattle.tasks.specs.Task.{task}
use Rattle.table.specs.Fault.{no_fault, in_job, first_job}
use Rattle.faults.specs.Tests.{counted_kind, some_if, first_fault}
use Rattle.checker.specs.Told.{job_fault_in}

-- a fault is told: it is the first
fault_told : (n : ℕ) (g : ℕ → ℕ) {job kind : ℕ} → Some (job, kind) ≡ first_fault n g → (seek n g < n) × (job ≡ seek n g) × (kind ≡ g (seek n g))
unfolding first_fault
fault_told n g {job = job} {kind = kind} e = ⊎_elim
    (λ l. let q = e ∙ ap (λ b. some_if b (seek n g) (g (seek n g))) (lt-ltb (seek n g) n l) in
    let r : ◌≡◌ {A = ℕ × ℕ} (job, kind) (seek n g, g (seek n g)) = cc in
    (l, ap (λ p. p.0) r, ap (λ p. p.1) r))
    (λ l. let q = e ∙ ap (λ b. some_if b (seek n g) (g (seek n g))) (le-ltb (seek n g) n l) in let z : ◌≡◌ {A = ℕ} 0 1 = cc in absurd (omega arith))
    (lt_or_ge (seek n g) n)

-- none is told: there is none
none_told : (n : ℕ) (g : ℕ → ℕ) → None ≡ first_fault n g → n ≤ seek n g
unfolding first_fault
none_told n g e = ⊎_elim
    (λ l. let q = e ∙ ap (λ b. some_if b (seek n g) (g (seek n g))) (lt-ltb (seek n g) n l) in let z : ◌≡◌ {A = ℕ} 0 1 = cc in absurd (omega arith))
    (λ l. l)
    (lt_or_ge (seek n g) n)

-- the first fault of the jobs of the task at place j
pub row : List ℕ → ℕ → List Task → ℕ → ℕ
row counters h ts j = first_of (h / (task ts (suc j)).period.0) (counted_kind counters j (task ts (suc j)).work.0)

module _ (counters : List ℕ) (h : ℕ) (ts : List Task) where
  module _ (place : ℕ) where
    -- the task at this place
    abbrev τ : Task
    τ = task ts (suc place)

    -- none of its jobs is faulty
    pub row_clean : None ≡ first_fault (h / τ.period.0) (counted_kind counters place τ.work.0) → row counters h ts place ≡ 0
    unfolding row
    row_clean e = gate_ge _ _ _ (none_told _ _ e)

    -- one is, and none of an earlier task
    pub row_told : place < length ts → ((j : ℕ) → j < place → row counters h ts j ≡ 0) → {job kind : ℕ}
        → Some (job, kind) ≡ first_fault (h / τ.period.0) (counted_kind counters place τ.work.0) → in_job (place + 1) job kind ≡ job_fault_in counters h ts
    unfolding job_fault_in first_job row
    row_told l none {job} {kind} e =
        rw (at, lt-ltb place (length ts) l) (λ i. in_job (add-one place i) (told.1 i) (told.2 i))
      where
        told : (seek (h / τ.period.0) (counted_kind counters place τ.work.0) < h / τ.period.0) × (job ≡ seek (h / τ.period.0) (counted_kind counters place τ.work.0))
            × (kind ≡ counted_kind counters place τ.work.0 (seek (h / τ.period.0) (counted_kind counters place τ.work.0)))
        told = fault_told _ _ e

        at : seek (length ts) (row counters h ts) ≡ place
        at = seek_is (length ts) place (row counters h ts) l none (λ z. seek_some _ _ told.0 (sym (gate_lt _ _ _ told.0) ∙ z))

  -- none of any task is faulty
  pub rows_told : ((j : ℕ) → j < length ts → row counters h ts j ≡ 0) → no_fault ≡ job_fault_in counters h ts
  unfolding job_fault_in first_job row
  rows_told none = rw (seek_none (length ts) (row counters h ts) none, le-ltb (length ts) (length ts) (omega arith)) refl
