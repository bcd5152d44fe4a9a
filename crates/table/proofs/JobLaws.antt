-- The slots of a job and the highest-numbered of them: it is one of the table's, and no slot of the job comes after it.
-- Assumes nothing.
use Prim.Native.Nat.{ℕ, ◌≤◌, ◌<◌}
use mathlib.Core.Path.{◌≡◌}
use lib.Dec.{T, eqb, eqb→eq, eqb_refl}
use Rattle.laws.proofs.TestLaws.{both, make_both}
use Rattle.tasks.specs.Instance.{Instance, job_slot, job_end, Regular}
use Rattle.tasks.proofs.WindowLaws.{highest_lt, highest_ge}

module _ (P : Instance) (i : ℕ) where
  -- a slot where the task is open is one of its job's
  pub job_slot_lem : (k t : ℕ) → T (P.opens i t) → P.job i t ≡ k → T (job_slot P i k t)
  job_slot_lem k t o e = make_both (P.opens i t) (eqb (P.job i t) k) o (rw e (eqb_refl k))

  -- and the other way
  pub slot_job : (k t : ℕ) → T (job_slot P i k t) → T (P.opens i t) × (P.job i t ≡ k)
  slot_job k t h = ((both (P.opens i t) (eqb (P.job i t) k) h).0, eqb→eq (P.job i t) k (both (P.opens i t) (eqb (P.job i t) k) h).1)

  -- a job's highest-numbered slot is one of the table's
  pub end_there : Regular P → (k : ℕ) → job_end P i k < P.slots
  end_there regular k = highest_lt P.slots (job_slot P i k) regular.some_slot

  -- no slot of the job comes after it
  pub end_last : (k t : ℕ) → t < P.slots → T (job_slot P i k t) → t ≤ job_end P i k
  end_last k t = highest_ge P.slots (job_slot P i k) t
