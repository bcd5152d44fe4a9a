-- The work of a job, as the checker tells it: its kinds, and what it means that each cell of the job is needed, and what the job has then done at most.
-- Assumes nothing.
use Prim.Native.Nat.{ℕ, zero, suc, ◌+◌, ◌≤◌, ◌<◌, zero-le}
use native.Mathlib.Nat.{mod-lt}
use mathlib.Core.Path.{◌≡◌, ◌∙◌}
use mathlib.Core.Logic.{◌↔◌, ⊎_elim}
use mathlib.Core.Bool.{Bool}
use native.Mathlib.Omega.{arith}
use lib.Dec.{T, ltb, leb→le, le→leb, ltb→lt, lt→ltb}
use Rattle.laws.specs.Sum.{gate, sum}
use Rattle.laws.specs.Tests.{imp}
use Rattle.laws.proofs.SumLaws.{gate_le, lt_or_ge}
use Rattle.laws.proofs.TestLaws.{both, all_at, at_all, all_fails, imp_use, imp_make, imp_fails}
use Rattle.tasks.specs.Instance.{Instance, job_slot}
use Rattle.tasks.proofs.AnswerLaws.{unless_yes, unless_no}
use Rattle.table.specs.Table.{slot_of, core_of, of_job, share, done}
use Rattle.table.specs.Fault.{all_needed, work_kind}
use Rattle.table.proofs.ShareLaws.{gate_some, of_job_lem, is_of_job}

module _ (C d : ℕ) (needed : Bool) where
  -- too little
  pub work_little : d < C → work_kind C d needed ≡ 5
  unfolding work_kind
  work_little l = unless_no _ 5 _ (λ t. omega (arith, leb→le C d t))

  -- a cell after the job was complete
  pub work_unneeded : C ≤ d → (T needed → ⊥) → work_kind C d needed ≡ 6
  unfolding work_kind
  work_unneeded l n = unless_yes _ 5 _ (le→leb C d l) ∙ unless_no _ 6 0 n

  -- the job is met
  pub work_met : C ≤ d → T needed → work_kind C d needed ≡ 0
  unfolding work_kind
  work_met l y = unless_yes _ 5 _ (le→leb C d l) ∙ unless_yes _ 6 0 y

-- of the first c cells those of the job stand where it is not complete
pub all_needed_lem : (P : Instance) (f : ℕ → ℕ) (c i k : ℕ)
    → T (all_needed P c f i k) ↔ ((d : ℕ) → d < c → f d ≡ i → T (job_slot P i k (slot_of P d)) → done P d f i k < P.work i)
unfolding all_needed
all_needed_lem P f c i k = (
  λ t d l e s. ltb→lt _ _ (imp_use (of_job P i k d (f d)) (ltb (done P d f i k) (P.work i)) (all_at c _ t d l) (is_of_job P i k d (f d) e s)),
  λ h. at_all c _ (λ d l. imp_make (of_job P i k d (f d)) (ltb (done P d f i k) (P.work i)) (λ t. let b = of_job_lem P i k d (f d) t in lt→ltb _ _ (h d l b.0 b.1))),
)

-- or one of them does not
pub not_needed : (P : Instance) (f : ℕ → ℕ) (c i k : ℕ) → (T (all_needed P c f i k) → ⊥)
    → (d : ℕ) × (d < c) × (f d ≡ i) × T (job_slot P i k (slot_of P d)) × (P.work i ≤ done P d f i k)
unfolding all_needed
not_needed P f c i k n =
    let d = all_fails c (λ d. imp (of_job P i k d (f d)) (ltb (done P d f i k) (P.work i))) n in
    let h = imp_fails (of_job P i k d.0 (f d.0)) (ltb (done P d.0 f i k) (P.work i)) d.2 in
    let b = of_job_lem P i k d.0 (f d.0) h.0 in
    (d.0, d.1, b.0, b.1, ⊎_elim (λ l. absurd (h.1 (lt→ltb _ _ l))) (λ l. l) (lt_or_ge (done P d.0 f i k) (P.work i)))

-- a job all of whose cells were needed has done no more than its work and one rate
pub needed_few : (P : Instance) → 0 < P.cores → (f : ℕ → ℕ) (i k r : ℕ) → ((j : ℕ) → j < P.cores → P.rate i j ≤ r)
    → (c : ℕ) → T (all_needed P c f i k) → done P c f i k ≤ P.work i + r
unfolding done sum all_needed share
needed_few P some_core f i k r few zero t = zero-le
needed_few P some_core f i k r few (suc c) t =
    let b = both (all_needed P c f i k) (imp (of_job P i k c (f c)) (ltb (done P c f i k) (P.work i))) t in
    ⊎_elim
    (λ l. omega (
      arith,
      ltb→lt (done P c f i k) (P.work i) (imp_use (of_job P i k c (f c)) (ltb (done P c f i k) (P.work i)) b.1 (gate_some (of_job P i k c (f c)) (P.rate i (core_of P c)) l)),
      gate_le (of_job P i k c (f c)) (P.rate i (core_of P c)),
      few (core_of P c) (mod-lt c some_core),
    ))
    (λ l. omega (arith, needed_few P some_core f i k r few c b.0))
    (lt_or_ge 0 (gate (of_job P i k c (f c)) (P.rate i (core_of P c))))
