-- What a value in a cell does for a job: the rate, or nothing.
-- Assumes nothing.
use Prim.Native.Nat.{ℕ, ◌<◌}
use native.Mathlib.Omega.{arith}
use mathlib.Core.Path.{◌≡◌, refl}
use mathlib.Core.Logic.{◌≢◌}
use mathlib.Core.Bool.{Bool, true, false}
use lib.Dec.{T, eqb, eqb→eq, eqb_refl}
use Rattle.laws.specs.Sum.{gate}
use Rattle.laws.proofs.SumLaws.{gate_yes, gate_no}
use Rattle.laws.proofs.TestLaws.{both, make_both}
use Rattle.tasks.specs.Instance.{Instance, job_slot}
use Rattle.table.specs.Table.{slot_of, core_of, of_job, share}
use Rattle.table.proofs.JobLaws.{job_slot_lem}

-- a gate that lets something through has passed its test
pub gate_some : (b : Bool) (x : ℕ) → 0 < gate b x → T b
unfolding gate
gate_some true x l = tt
gate_some false x l = omega arith

module _ (P : Instance) (i k c : ℕ) where
  -- a value of the job is its task, in one of its slots
  pub of_job_lem : (v : ℕ) → T (of_job P i k c v) → (v ≡ i) × T (job_slot P i k (slot_of P c))
  of_job_lem v t = let b = both (eqb v i) (job_slot P i k (slot_of P c)) t in (eqb→eq v i b.0, b.1)

  -- and the task there is of the job
  pub is_of_job : (v : ℕ) → v ≡ i → T (job_slot P i k (slot_of P c)) → T (of_job P i k c v)
  is_of_job v e = make_both (eqb v i) (job_slot P i k (slot_of P c)) (rw e (eqb_refl i))

  -- a value that is not of the job does nothing
  pub share_none : (v : ℕ) → (v ≡ i → T (job_slot P i k (slot_of P c)) → ⊥) → share P i k c v ≡ 0
  unfolding share
  share_none v h = gate_no (of_job P i k c v) (P.rate i (core_of P c)) (λ t. let b = of_job_lem v t in h b.0 b.1)

  -- the task does its rate in the job's slots
  pub share_job : T (job_slot P i k (slot_of P c)) → share P i k c i ≡ P.rate i (core_of P c)
  unfolding share
  share_job t = gate_yes (of_job P i k c i) (P.rate i (core_of P c)) (is_of_job i refl t)

  -- a value that is another task's, or idle, does nothing
  pub share_other : (v : ℕ) → v ≢ i → share P i k c v ≡ 0
  share_other v x = share_none v (λ e t. x e)

  -- a value that does something is of the job
  pub share_some : (v : ℕ) → 0 < share P i k c v → (v ≡ i) × T (job_slot P i k (slot_of P c))
  unfolding share
  share_some v l = of_job_lem v (gate_some (of_job P i k c v) (P.rate i (core_of P c)) l)

-- an open task does its rate for the job of its slot
pub share_own : (P : Instance) (i c : ℕ) → T (P.opens i (slot_of P c)) → share P i (P.job i (slot_of P c)) c i ≡ P.rate i (core_of P c)
share_own P i c o = share_job P i (P.job i (slot_of P c)) c (job_slot_lem P i (P.job i (slot_of P c)) (slot_of P c) o refl)
