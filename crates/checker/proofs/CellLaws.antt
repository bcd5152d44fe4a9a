-- What the code finds in a cell is what the definitions say of it; and which numbers fit, where no refusal stands in the way.
-- Assumes nothing.
use Prim.Native.Nat.{ℕ, suc, pred, ◌+◌, ◌*◌, ◌-◌, ◌/◌, ◌≤◌, ◌<◌}
use native.Mathlib.Nat.{mul-le-mul_right, div-le_self}
use native.Mathlib.Omega.{arith}
use mathlib.Core.Path.{◌≡◌, sym, ap, subst, ◌∙◌}
use mathlib.Core.Logic.{◌≢◌}
use mathlib.Core.Bool.{Bool, not}
use mathlib.Core.List.{List}
use lib.Dec.{ltb, eqb}
use lib.Arith.{digits_div, digits_mod}
use lib.ListN.{length}
use Rattle.laws.specs.Lists.{nth}
use Rattle.laws.specs.Tests.{all}
use Rattle.tasks.specs.declared.Task.{Task}
use Rattle.tasks.specs.declared.Work.{Work}
use Rattle.tasks.specs.Task.{work_in, rate, task}
use Rattle.tasks.specs.Window.{is_open, job_at}
use Rattle.tasks.specs.Instance.{Instance, instance_of, Regular}
use Rattle.tasks.proofs.SoundLaws.{SoundList, sound_list, length_whole, instance_regular}
use Rattle.windows.specs.declared.InSlot.{InSlot}
use Rattle.windows.specs.Answer.{Fit, in_slot}
use Rattle.windows.proofs.AnswerLaws.{sound_fit, told_opens, told_job}
use Rattle.table.specs.Table.{slot_of, core_of, free}
use Rattle.table.specs.Fault.{known_kind, cell_kind}
use Rattle.faults.specs.Tests.{free_in, counter_at}
use Rattle.checker.specs.Checks.{Checkable}
use Rattle.checker.specs.Told.{nothing, does, faulty, effect_of}
use Rattle.checker.proofs.FaultLaws.{after, kind_unknown, kind_known}

-- ---- what fits
-- an instance of at most 16 tasks and 1024 jobs a task, with works up to 4096 and rates up to 15
pub record Small (P : Instance) : Type 0 where
  pub regular : Regular P
  pub few_tasks : P.tasks ≤ 16
  pub few_jobs : (i : ℕ) → P.jobs i ≤ 1024
  pub little_work : (i : ℕ) → i ≢ 0 → i ≤ P.tasks → P.work i ≤ 4096
  pub few_units : (i j : ℕ) → i ≢ 0 → i ≤ P.tasks → j < P.cores → P.rate i j ≤ 15

module _ {ts : List Task} {m h : ℕ} {t : List ℕ} (ready : Checkable ts m h t) where
  -- the list is sound
  listed : SoundList m ts
  listed = sound_list m ts ready.sound

  -- it has at most 16 tasks
  pub few_listed : length ts ≤ 16
  few_listed = listed.few_tasks

  -- there are at most 4 cores
  pub few_cores : m ≤ 4
  few_cores = listed.few_cores

  -- and at most 1024 slots
  pub few_slots : h ≤ 1024
  few_slots = omega (arith, listed.few_slots, ready.slots)

  -- a cell of the table has its place in the buffer
  pub cell_in : (slot core : ℕ) → slot < h → core < m → slot * m + core < h * m
  cell_in slot core l lc = omega (arith, mul-le-mul_right m l)

  -- the task at a place of the list has a period
  pub period_some : (place : ℕ) → place < length ts → 0 < (task ts (suc place)).period.0
  period_some place l = (listed.in_range (suc place) (λ z. omega arith) l).period_pos

  -- and a task few jobs
  pub few_jobs : (i : ℕ) → h / (task ts i).period.0 ≤ 1024
  few_jobs i = omega (arith, div-le_self h (task ts i).period.0, few_slots)

  -- such an instance is small
  pub ready_small : Small (instance_of h m ts)
  unfolding instance_of
  ready_small = record {
    regular = subst (λ n. Regular (instance_of n m ts)) (sym ready.slots) (instance_regular listed (length_whole listed));
    few_tasks = listed.few_tasks;
    few_jobs = few_jobs;
    little_work = λ i x l. (listed.in_range i x l).work_le;
    few_units = λ i j x l q. (listed.in_range i x l).rate_le j (omega (arith, few_cores));
  }

-- ---- the effect of a cell
module _ (P : Instance) (f : ℕ → ℕ) (c : ℕ) where
  -- an idle cell does nothing
  effect_idle : f c ≡ 0 → nothing ≡ effect_of P f c
  unfolding effect_of
  effect_idle e = rw e

  module _ (x : f c ≢ 0) where
    -- a task with a fault
    effect_faulty : {k : ℕ} → k ≡ cell_kind P f c → k ≢ 0 → faulty k ≡ effect_of P f c
    unfolding effect_of
    effect_faulty {k} e y = rw (after (f c) x, sym e, after k y)

    -- and one without
    effect_does : {k : ℕ} → k ≡ cell_kind P f c → k ≡ 0
        → does (counter_at (pred (f c)) (P.job (f c) (slot_of P c))) (P.work (f c)) (P.rate (f c) (core_of P c))
        ≡ effect_of P f c
    unfolding effect_of
    effect_does {k} e z = rw (after (f c) x, sym e, z)

-- ---- the effect as the code finds it
module _ {ts : List Task} {m h : ℕ} {t : List ℕ} {slot core : ℕ} (ready : Checkable ts m h t) (at : (slot < h) × (core < m)) where
  abbrev P : Instance
  P = instance_of h m ts

  abbrev c : ℕ
  c = slot * m + core

  -- the cell's slot and core
  pub the_slot : slot_of P c ≡ slot
  unfolding instance_of
  the_slot = digits_div slot at.1

  pub the_core : core_of P c ≡ core
  unfolding instance_of
  the_core = digits_mod slot at.1

  -- its value on the earlier cores
  free_of : (v : ℕ) → free_in t (slot * m) core v ≡ free P c (nth t) v
  unfolding instance_of free_in free
  free_of v = λ i. all (sym the_core i) (λ j. not (eqb (nth t (sym the_slot i * m + j)) v))

  -- slot, cores and core as the code has them, widened
  module _ {a b d : ℕ} (ea : a ≡ slot) (eb : b ≡ m) (ed : d ≡ core) where
    -- the cell's value
    abbrev v : ℕ
    v = nth t (a * b + d)

    ev : v ≡ nth t c
    ev = λ i. nth t (ea i * eb i + ed i)

    -- an idle cell
    pub idle_there : v ≡ 0 → nothing ≡ effect_of P (nth t) c
    idle_there z = effect_idle P (nth t) c (sym ev ∙ z)

    module _ (some : v ≢ 0) {place : ℕ} (ep : place ≡ v - 1) where
      x : nth t c ≢ 0
      x z = some (ev ∙ z)

      -- an unknown task number
      pub unknown_there : length ts ≤ place → faulty 1 ≡ effect_of P (nth t) c
      unfolding instance_of
      unknown_there l = effect_faulty P (nth t) c x (sym (kind_unknown P (nth t) c x (omega (arith, ev)))) (λ z. omega arith)

      module _ (l : place < length ts) {τ : Task} (eτ : τ ≡ task ts (suc place)) where
        -- the task is the cell's
        task_is : τ ≡ task ts (nth t c)
        task_is = let e : suc place ≡ nth t c = omega (arith, ev) in eτ ∙ ap (task ts) e

        known : nth t c ≤ length ts
        known = omega (arith, ev)

        -- what the open test requires
        pub window_ready : Fit h τ × (slot < h)
        window_ready = (rw (ready.slots, eτ) (sound_fit (listed ready) (suc place) (λ z. omega arith) l), at.0)

        -- whether it is open
        opens_is : is_open h τ.offset.0 τ.deadline.0 τ.period.0 slot ≡ P.opens (nth t c) (slot_of P c)
        unfolding instance_of
        opens_is = λ i. is_open h (task_is i).offset.0 (task_is i).deadline.0 (task_is i).period.0 (sym the_slot i)

        -- its job
        job_is : job_at h τ.offset.0 τ.period.0 slot ≡ P.job (nth t c) (slot_of P c)
        unfolding instance_of
        job_is = λ i. job_at h (task_is i).offset.0 (task_is i).period.0 (sym the_slot i)

        -- its rate
        rate_is : rate τ core ≡ P.rate (nth t c) (core_of P c)
        unfolding instance_of
        rate_is = λ i. rate (task_is i) (sym the_core i)

        -- its work
        work_is : τ.work.0 ≡ P.work (nth t c)
        unfolding instance_of
        work_is = ap (λ σ. σ.work.0) task_is

        module _ {r : InSlot} {s k : ℕ} {is_free : Bool} (er : r ≡ in_slot h τ slot) (es : s ≡ rate τ core) (ef : is_free ≡ free_in t (a * b) core v)
            (ek : k ≡ known_kind r.opens (ltb 0 s) is_free) where
          -- its tests are those of the cell
          kind_is : k ≡ cell_kind P (nth t) c
          unfolding instance_of
          kind_is =
              ek
              ∙ (λ i. known_kind ((told_opens h slot τ r er ∙ opens_is) i) (ltb 0 ((es ∙ rate_is) i)) ((ef ∙ (λ i. free_in t (ea i * eb i) core (ev i)) ∙ free_of (nth t c)) i))
              ∙ sym (kind_known P (nth t) c x known)

          -- one of them fails
          pub faulty_there : k ≢ 0 → faulty k ≡ effect_of P (nth t) c
          faulty_there = effect_faulty P (nth t) c x kind_is

          -- none does, and the task does its work
          pub does_there : k ≡ 0 → {counter : ℕ} → counter ≡ counter_at (v - 1) r.job → {units : Work} → units ≡ work_in s (record { 0 = 1 })
              → does counter τ.work.0 units.0 ≡ effect_of P (nth t) c
          does_there z ec {units = units} ew =
              (λ i. does ((ec ∙ (λ i. counter_at (pred_is i) ((told_job h slot τ r er ∙ job_is) i))) i) (work_is i) (units_is i))
              ∙ effect_does P (nth t) c x kind_is z
            where
              pred_is : v - 1 ≡ pred (nth t c)
              pred_is = omega (arith, ev, after (nth t c) x)

              units_is : units.0 ≡ P.rate (nth t c) (core_of P c)
              units_is = omega (arith, ap (λ w. w.0) ew, es, rate_is)
