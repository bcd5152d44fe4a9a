-- The checker's answer from its parts: refusals, the first faulty cell, and, where no cell is faulty, the first faulty job by the counters.
-- Assumes nothing.
use Prim.Native.Nat.{ℕ, zero, suc, pred, ◌*◌, ◌≤◌, ◌<◌}
use native.Mathlib.Omega.{arith}
use mathlib.Core.Path.{◌≡◌, refl, sym, ap, subst, ◌∙◌}
use mathlib.Core.Logic.{◌≢◌, ⊎_elim}
use mathlib.Core.List.{List}
use Rattle.std.specs.Prelude.{Option, None, Some, Ok, Err}
use lib.ListN.{length, replicate, length-replicate, get_or-replicate}
use borrow.Author.Tests.{lt-leb, le-leb, lt-ltb, le-ltb, ne_eqb}
use Rattle.laws.specs.Sum.{sum}
use Rattle.laws.specs.Lists.{nth, seek, first_of}
use Rattle.laws.proofs.SumLaws.{gate_ge, lt_or_ge}
use Rattle.laws.proofs.ListLaws.{seek_same, seek_le, seek_some, first_same}
use Rattle.tasks.specs.declared.Slots.{Slots}
use Rattle.tasks.specs.declared.Task.{Task}
use Rattle.tasks.specs.declared.Refusal.{Refusal}
use Rattle.tasks.specs.declared.Refusal.TheVariants.{Buffer}
use Rattle.tasks.specs.Task.{task}
use Rattle.tasks.specs.Refusal.{unless, or_next, refusal, table_length, IsSound, tested}
use Rattle.tasks.specs.Told.{tested_as}
use Rattle.tasks.specs.Instance.{Instance, instance_of, own_instance}
use Rattle.tasks.proofs.RefusalLaws.{some_number}
use Rattle.tasks.proofs.AnswerLaws.{tested_sound, tested_refused}
use Rattle.table.specs.Table.{cells, done}
use Rattle.table.specs.Fault.{cell_kind, all_needed, job_kind, no_fault, in_job, first_job, job_fault, fault, refused, checked, checked_if, check}
use Rattle.table.proofs.TableLaws.{done_more}
use Rattle.table.proofs.WorkLaws.{not_needed, needed_few}
use Rattle.faults.specs.Tests.{counter_at, count_of, count_kind, counted_kind}
use Rattle.faults.proofs.TestLaws.{count_kind_lem}
use Rattle.checker.specs.declared.Fault.{Fault as FaultTold}
use Rattle.checker.specs.declared.Fault.TheVariants.{Cell, Job}
use Rattle.checker.specs.Checks.{Checkable}
use Rattle.checker.specs.Told.{fault_as, checked_as, job_count, Counted, cell_fault, CellsTold, job_fault_in}
use Rattle.checker.proofs.CellLaws.{Small, ready_small}

-- ---- refusals
module _ (m : ℕ) (ts : List Task) (t : List ℕ) where
  -- 1 to 8
  pub check_refused : refusal m ts ≢ 0 → check m ts t ≡ refused (refusal m ts)
  unfolding check or_next
  check_refused x = rw (ne_eqb (refusal m ts) 0 x) (go (refusal m ts) x)
    where
      go : (r : ℕ) → r ≢ 0 → checked_if r (fault (own_instance m ts) (nth t)) ≡ refused r
      go zero x = absurd (x refl)
      go (suc r) x = refl

  module _ (sound : IsSound m ts) where
    -- 10
    pub check_short : length t < cells (own_instance m ts) → check m ts t ≡ refused 10
    unfolding check or_next unless
    check_short l = rw (sound, lt-leb (cells (own_instance m ts)) (length t) l)

    -- none
    pub check_long : cells (own_instance m ts) ≤ length t → check m ts t ≡ checked (fault (own_instance m ts) (nth t))
    unfolding check or_next unless
    check_long l = rw (sound, le-leb (cells (own_instance m ts)) (length t) l)

-- ---- cells, then jobs
module _ (P : Instance) (f : ℕ → ℕ) where
  -- a cell is faulty
  pub cell_first : cell_fault P f ≢ no_fault → fault P f ≡ cell_fault P f
  unfolding fault cell_fault
  cell_first x = ⊎_elim
      (λ l. rw (lt-ltb (seek (cells P) (cell_kind P f)) (cells P) l))
      (λ l. absurd (x (rw (le-ltb (seek (cells P) (cell_kind P f)) (cells P) l))))
      (lt_or_ge (seek (cells P) (cell_kind P f)) (cells P))

  -- none is
  pub cell_none : cell_fault P f ≡ no_fault → (fault P f ≡ job_fault P f) × (seek (cells P) (cell_kind P f) ≡ cells P)
  unfolding fault cell_fault
  cell_none e = ⊎_elim
      (λ l. let z : ◌≡◌ {A = ℕ} 0 1 = cc (lt-ltb (seek (cells P) (cell_kind P f)) (cells P) l) in absurd (omega arith))
      (λ l. (rw (le-ltb (seek (cells P) (cell_kind P f)) (cells P) l), omega (arith, seek_le (cells P) (cell_kind P f))))
      (lt_or_ge (seek (cells P) (cell_kind P f)) (cells P))

-- the first faulty job depends on the kinds of the jobs only
job_same : (n : ℕ) (jobs : ℕ → ℕ) (g h : ℕ → ℕ → ℕ) → ((i k : ℕ) → i < n → k < jobs (suc i) → g (suc i) k ≡ h (suc i) k) → first_job n jobs g ≡ first_job n jobs h
unfolding first_job
job_same n jobs g h e = ⊎_elim
    (λ l. rw (same, lt-ltb i n l) (ap (λ k. in_job (suc i) k (g (suc i) k)) (inner l) ∙ ap (in_job (suc i) (seek (jobs (suc i)) (h (suc i)))) (e i _ l (under l))))
    (λ l. rw (same, le-ltb i n l))
    (lt_or_ge i n)
  where
    i : ℕ
    i = seek n (λ j. first_of (jobs (suc j)) (h (suc j)))

    same : seek n (λ j. first_of (jobs (suc j)) (g (suc j))) ≡ i
    same = seek_same n _ _ (λ j l. first_same (jobs (suc j)) (g (suc j)) (h (suc j)) (λ k q. e j k l q))

    inner : i < n → seek (jobs (suc i)) (g (suc i)) ≡ seek (jobs (suc i)) (h (suc i))
    inner l = seek_same (jobs (suc i)) (g (suc i)) (h (suc i)) (λ k q. e i k l q)

    under : i < n → seek (jobs (suc i)) (h (suc i)) < jobs (suc i)
    under l = ⊎_elim (λ q. q) (λ q. absurd (seek_some n (λ j. first_of (jobs (suc j)) (h (suc j))) l (gate_ge _ _ _ q))) (lt_or_ge (seek (jobs (suc i)) (h (suc i))) (jobs (suc i)))

-- a job's count tells its fault
job_counted : {P : Instance} → Small P → (f : ℕ → ℕ) (i k : ℕ) → i ≢ 0 → i ≤ P.tasks → count_kind (P.work i) (job_count P (cells P) f i k) ≡ job_kind P f i k
job_counted {P} small f i k x l = count_kind_lem (P.work i) (done P (cells P) f i k) (omega (arith, small.little_work i x l)) (all_needed P (cells P) f i k)
    (λ y e. omega (arith, needed_few P small.regular.some_core f i k 15 (λ j. small.few_units i j x l) (cells P) y, small.little_work i x l))
    (λ n. let d = not_needed P f (cells P) i k n in omega (arith, d.4, done_more P d.0 (cells P) f i k (omega (arith, d.1))))

-- so the counters tell the first faulty job
jobs_counted : {ts : List Task} {m h : ℕ} {t : List ℕ} → Checkable ts m h t → {counters : List ℕ} → Counted (instance_of h m ts) (nth t) (cells (instance_of h m ts)) counters
    → job_fault_in counters h ts ≡ job_fault (instance_of h m ts) (nth t)
unfolding instance_of job_fault_in counted_kind
jobs_counted {ts} {m} {h} {t} ready {counters} n = job_same (length ts) (instance_of h m ts).jobs
    (λ i. counted_kind counters (pred i) (task ts i).work.0) (job_kind (instance_of h m ts) (nth t))
    (λ i k l q. ap (count_kind (task ts (suc i)).work.0) (n.count i k (omega (arith, small.few_tasks)) (omega (arith, small.few_jobs (suc i))))
    ∙ job_counted small (nth t) (suc i) k (λ z. omega arith) l)
  where
    small : Small (instance_of h m ts)
    small = ready_small ready

-- ---- the answer
-- a fault that is told is not none
some_told : (x : FaultTold) → fault_as (Some x) ≢ no_fault
some_told (Cell s j kind) e = let z : ◌≡◌ {A = ℕ} 0 1 = cc in omega arith
some_told (Job i k kind) e = let z : ◌≡◌ {A = ℕ} 0 1 = cc in omega arith

module _ (m : ℕ) (ts : List Task) (t : List ℕ) where
  -- a list that is refused
  pub refused_told : (r : Refusal) → tested_as (Err r) ≡ tested m ts → checked_as (Err r) ≡ check m ts t
  refused_told r e =
      let q = (tested_refused m ts (Err r) e r refl).0 in
      ap refused q ∙ sym (check_refused m ts t (λ z. some_number r (q ∙ z)))

  module _ {len : Slots} (e : tested_as (Ok len) ≡ tested m ts) where
    sound : IsSound m ts × (len.0 ≡ table_length ts)
    sound = tested_sound m ts (Ok len) e len refl

    -- a buffer that is too short
    pub short_told : length t < len.0 * m → checked_as (Err Buffer) ≡ check m ts t
    unfolding instance_of
    short_told l = sym (check_short m ts t sound.0 (subst (λ h. length t < h * m) sound.1 l))

    -- one that is not
    pub ready_there : len.0 * m ≤ length t → Checkable ts m len.0 t
    ready_there l = record { sound = sound.0; slots = sound.1; long = l }

module _ {ts : List Task} {m h : ℕ} {t : List ℕ} (ready : Checkable ts m h t) where
  -- before the first cell no work is done
  pub counted_none : Counted (instance_of h m ts) (nth t) 0 (replicate 16384 0)
  unfolding done sum all_needed count_of
  counted_none = record {
    size = length-replicate {A = ℕ} 16384 0;
    count = λ i k l q. get_or-replicate {A = ℕ} 16384 (counter_at i k) 0 0 (omega arith);
  }

  check_is : check m ts t ≡ checked (fault (instance_of h m ts) (nth t))
  unfolding instance_of
  check_is = check_long m ts t ready.sound (subst (λ n. n * m ≤ length t) ready.slots ready.long)
      ∙ ap (λ n. checked (fault (instance_of n m ts) (nth t))) (sym ready.slots)

  -- a cell is faulty
  pub cell_told : {x : FaultTold} {counters : List ℕ} → CellsTold (instance_of h m ts) (nth t) (Some x) counters → checked_as (Ok (Some x)) ≡ check m ts t
  cell_told {x = x} scan =
      ap checked (scan.told ∙ sym (cell_first (instance_of h m ts) (nth t) (λ z. some_told x (scan.told ∙ z)))) ∙ sym check_is

  -- none is: the jobs
  pub jobs_told : {counters : List ℕ} → CellsTold (instance_of h m ts) (nth t) None counters → (r : Option FaultTold) → fault_as r ≡ job_fault_in counters h ts
      → checked_as (Ok r) ≡ check m ts t
  jobs_told {counters = counters} scan r told =
      ap checked (told ∙ jobs_counted ready (subst (λ c. Counted (instance_of h m ts) (nth t) c counters) none.1 scan.counted) ∙ sym none.0) ∙ sym check_is
    where
      none : (fault (instance_of h m ts) (nth t) ≡ job_fault (instance_of h m ts) (nth t))
          × (seek (cells (instance_of h m ts)) (cell_kind (instance_of h m ts) (nth t)) ≡ cells (instance_of h m ts))
      none = cell_none (instance_of h m ts) (nth t) (sym scan.told)
