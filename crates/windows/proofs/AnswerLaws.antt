-- What is told of a task in a slot, as the code finds it, and what the answer says.
-- Assumes nothing.
use Prim.Native.Nat.{ℕ, ◌*◌, ◌-◌, ◌/◌, ◌%◌, ◌≤◌, ◌<◌, min}
use mathlib.Core.Path.{◌≡◌, sym, ap, ◌∙◌}
use mathlib.Core.Logic.{◌≢◌, ◌↔◌}
use mathlib.Core.Bool.{true, false}
use mathlib.Core.List.{List}
use native.Mathlib.Omega.{arith}
use native.Mathlib.Nat.{mod-eq-sub-div-mul}
use borrow.Author.Tests.{ltb-true, lt-ltb, le-ltb}
use lib.ListN.{length}
use Rattle.laws.specs.Sum.{gate}
use Rattle.tasks.specs.declared.Slots.{Slots}
use Rattle.tasks.specs.declared.Task.{Task}
use Rattle.tasks.specs.Task.{task}
use Rattle.tasks.specs.Refusal.{table_length}
use Rattle.tasks.specs.Window.{place, is_open, job_at, last_slot, to_come}
use Rattle.tasks.proofs.WindowLaws.{is_jobs_lem}
use Rattle.tasks.proofs.SoundLaws.{SoundList, length_whole, sound_cyclic}
use Rattle.tasks.proofs.ComingLaws.{coming_is, last_none}
use Rattle.windows.specs.declared.InSlot.{InSlot}
use Rattle.windows.specs.Answer.{Fit, in_slot}

-- a task of a sound list has windows that fit the list's tables
pub sound_fit : {m : ℕ} {ts : List Task} → SoundList m ts → (i : ℕ) → i ≢ 0 → i ≤ length ts → Fit (table_length ts) (task ts i)
sound_fit s i x l = record { few_slots = s.few_slots; cyclic = sound_cyclic s (length_whole s) i x l }

-- ---- what the code answers
module _ (L t : ℕ) (τ : Task) (p : ℕ) (placed : p ≡ place L τ.offset.0 t) where
  -- the place in the period, by the job's number
  abbrev pub in_period : ℕ
  in_period = p - p / τ.period.0 * τ.period.0

  -- is p mod T
  in_period_is : in_period ≡ place L τ.offset.0 t % τ.period.0
  in_period_is = sym (mod-eq-sub-div-mul p τ.period.0) ∙ ap (λ x. x % τ.period.0) placed

  -- the job's number is p div T
  job_is : p / τ.period.0 ≡ job_at L τ.offset.0 τ.period.0 t
  job_is = ap (λ x. x / τ.period.0) placed

  -- from the deadline on: closed
  pub past_deadline : τ.deadline.0 ≤ in_period → record { opens = false; job = p / τ.period.0; coming = record { 0 = 0 } } ≡ in_slot L τ t
  unfolding in_slot gate
  past_deadline l =
      rw (le-ltb (place L τ.offset.0 t % τ.period.0) τ.deadline.0 (omega (arith, in_period_is)))
      (λ i. record { opens = false; job = job_is i; coming = record { 0 = 0 } })

  -- below it: open, with what the closed form says to come
  pub before_deadline : Fit L τ → t < L → in_period < τ.deadline.0 → (below : ℕ) → below ≡ min in_period t
      → (c : Slots) → c.0 ≡ min (τ.deadline.0 - 1 - below) (L - 1 - t)
      → record { opens = true; job = p / τ.period.0; coming = c } ≡ in_slot L τ t
  unfolding in_slot gate
  before_deadline fit there l below el c ec =
      let l' : place L τ.offset.0 t % τ.period.0 < τ.deadline.0 = omega (arith, in_period_is) in
      let e : c.0 ≡ to_come L τ.offset.0 τ.deadline.0 τ.period.0 (job_at L τ.offset.0 τ.period.0 t) t =
      ec ∙ ap (λ x. min (τ.deadline.0 - 1 - x) (L - 1 - t)) (el ∙ ap (λ x. min x t) in_period_is) ∙ sym (coming_is fit.cyclic τ.offset.0 t there l') in
      rw (lt-ltb _ _ l') (λ i. record { opens = true; job = job_is i; coming = record { 0 = e i } })

-- ---- what the answer r says
module _ (L t : ℕ) (τ : Task) (r : InSlot) (e : r ≡ in_slot L τ t) where
  -- whether the task is open
  pub told_opens : r.opens ≡ is_open L τ.offset.0 τ.deadline.0 τ.period.0 t
  unfolding in_slot
  told_opens = ap (λ x. x.opens) e

  -- its job
  pub told_job : r.job ≡ job_at L τ.offset.0 τ.period.0 t
  unfolding in_slot
  told_job = ap (λ x. x.job) e

  -- the job's slots to come, if it is open
  pub told_coming : r.coming.0 ≡ gate r.opens (to_come L τ.offset.0 τ.deadline.0 τ.period.0 r.job t)
  unfolding in_slot
  told_coming = rw e

  -- the job's highest-numbered slot is where nothing is to come
  pub told_last : t < L → r.opens ≡ true → (last_slot L τ.offset.0 τ.deadline.0 τ.period.0 r.job ≡ t) ↔ (r.coming.0 ≡ 0)
  unfolding gate
  told_last there o =
      let its = (is_jobs_lem L τ.offset.0 τ.deadline.0 τ.period.0 r.job t).1 (ltb-true _ _ (sym told_opens ∙ o), sym told_job) in
      rw (told_coming, o) (last_none L τ.offset.0 τ.deadline.0 τ.period.0 r.job t there its)
