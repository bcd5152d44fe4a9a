-- One pass over the cells: the cells passed have no fault, and the counters hold each job's count.
-- Assumes nothing.
use Prim.Native.Nat.{ℕ, zero, suc, pred, ◌+◌, ◌*◌, ◌≤◌, ◌<◌}
use native.Mathlib.Nat.{mod-lt}
use native.Mathlib.Decide.{ℕ_discrete}
use native.Mathlib.Numerals.{add-one}
use native.Mathlib.Omega.{arith}
use mathlib.Core.Path.{◌≡◌, refl, sym, ap, ap₂, subst, ◌∙◌}
use mathlib.Core.Logic.{◌≢◌}
use mathlib.Core.Bool.{Bool, true, false, ◌&&◌}
use mathlib.Core.List.{List}
use Rattle.std.specs.Prelude.{Option, None, Some, Ok}
use lib.Dec.{T, ltb}
use lib.ListN.{set, length-set}
use lib.Seq.{get_or-set_same, get_or-set_other}
use borrow.Author.Count.{below_none, below_more}
use borrow.Author.Tests.{lt-ltb, le-ltb}
use Rattle.laws.specs.Sum.{sum}
use Rattle.laws.specs.Tests.{imp}
use Rattle.laws.specs.Lists.{nth, seek}
use Rattle.laws.proofs.SumLaws.{gate_yes, gate_no}
use Rattle.laws.proofs.ListLaws.{seek_is, seek_none}
use Rattle.tasks.specs.declared.Task.{Task}
use Rattle.tasks.specs.Instance.{Instance, instance_of}
use Rattle.table.specs.Table.{cells, slot_of, core_of, of_job, share, done}
use Rattle.table.specs.Fault.{cell_kind, all_needed, in_cell}
use Rattle.table.proofs.JobLaws.{job_slot_lem, slot_job}
use Rattle.table.proofs.ShareLaws.{of_job_lem, is_of_job}
use Rattle.table.proofs.TableLaws.{slot_there}
use Rattle.faults.specs.Tests.{counter_at, unneeded, count_of, counted}
use Rattle.faults.proofs.TestLaws.{counted_count}
use Rattle.faults.specs.declared.Kind.{Kind}
use Rattle.faults.specs.Told.{kind_number}
use Rattle.checker.specs.declared.Share.{Share}
use Rattle.checker.specs.declared.Fault.TheVariants.{Cell}
use Rattle.checker.specs.Checks.{Checkable}
use Rattle.checker.specs.Told.{nothing, does, faulty, effect_as, effect_if, effect_of, job_count, Counted, cell_fault, CellsTold}
use Rattle.checker.specs.Faulty.{Fine}
use Rattle.checker.proofs.FaultLaws.{after, kind_idle, kind_fine}
use Rattle.checker.proofs.CellLaws.{Small, ready_small, the_slot, the_core, cell_in}

-- the first c cells have no fault, and their work is counted
pub record Passed (P : Instance) (f : ℕ → ℕ) (c : ℕ) (counters : List ℕ) : Type 0 where
  pub clean : (d : ℕ) → d < c → cell_kind P f d ≡ 0
  pub counted : Counted P f c counters

-- ---- what an effect says of its cell
module _ (P : Instance) (f : ℕ → ℕ) (c : ℕ) where
  -- nothing: it is idle
  nothing_is : effect_of P f c ≡ nothing → f c ≡ 0
  unfolding effect_of
  nothing_is = go (f c) (cell_kind P f c) _ _ _
    where
      go : (v k y C s : ℕ) → effect_if v k y C s ≡ nothing → v ≡ 0
      go zero k y C s e = refl
      go (suc v) zero y C s e = let z : ◌≡◌ {A = ℕ} 0 1 = cc in absurd (omega arith)
      go (suc v) (suc k) y C s e = let z : ◌≡◌ {A = ℕ} 0 1 = cc in absurd (omega arith)

  -- so much work for the job of a counter: the task there has no fault
  does_is : (x w n : ℕ) → effect_of P f c ≡ does x n w
      → (f c ≢ 0) × (cell_kind P f c ≡ 0) × (x ≡ counter_at (pred (f c)) (P.job (f c) (slot_of P c))) × (w ≡ P.rate (f c) (core_of P c)) × (n ≡ P.work (f c))
  unfolding effect_of
  does_is x w n = go (f c) (cell_kind P f c) _ _ _
    where
      go : (v k y C s : ℕ) → effect_if v k y C s ≡ does x n w → (v ≢ 0) × (k ≡ 0) × (x ≡ y) × (w ≡ s) × (n ≡ C)
      go zero k y C s e = let z : ◌≡◌ {A = ℕ} 0 1 = cc in absurd (omega arith)
      go (suc v) zero y C s e = (λ z. omega arith, refl, cc, cc, cc)
      go (suc v) (suc k) y C s e = let z : ◌≡◌ {A = ℕ} 0 1 = cc in absurd (omega arith)

  -- a fault: it is the cell's
  faulty_is : (kind : ℕ) → effect_of P f c ≡ faulty kind → (cell_kind P f c ≡ kind) × (kind ≢ 0)
  unfolding effect_of
  faulty_is kind = go (f c) (cell_kind P f c) _ _ _
    where
      go : (v k y C s : ℕ) → effect_if v k y C s ≡ faulty kind → (k ≡ kind) × (kind ≢ 0)
      go zero k y C s e = let z : ◌≡◌ {A = ℕ} 0 1 = cc in absurd (omega arith)
      go (suc v) zero y C s e = let z : ◌≡◌ {A = ℕ} 0 1 = cc in absurd (omega arith)
      go (suc v) (suc k) y C s e = let q : suc k ≡ kind = cc in (q, λ z. omega arith)

-- ---- the work counted
module _ (P : Instance) (f : ℕ → ℕ) (c i k : ℕ) where
  -- what is done with one cell more
  done_next : done P (c + 1) f i k ≡ done P c f i k + share P i k c (f c)
  unfolding done sum
  done_next = rw add-one

  -- and whether each cell was needed
  needed_next : all_needed P (c + 1) f i k ≡ all_needed P c f i k && imp (of_job P i k c (f c)) (ltb (done P c f i k) (P.work i))
  unfolding all_needed
  needed_next = rw add-one

  -- a cell that is not of the job leaves its count as it was
  count_other : (T (of_job P i k c (f c)) → ⊥) → job_count P (c + 1) f i k ≡ job_count P c f i k
  unfolding share
  count_other n = ap₂ count_of (needed_next ∙ other (of_job P i k c (f c)) _ _ n) (omega (arith, done_next, gate_no (of_job P i k c (f c)) (P.rate i (core_of P c)) n))
    where
      other : (b a x : Bool) → (T b → ⊥) → a && imp b x ≡ a
      other true a x n = absurd (n tt)
      other false true x n = refl
      other false false x n = refl

  -- one that is of the job is counted
  count_own : P.work i ≤ unneeded → T (of_job P i k c (f c)) → counted (P.work i) (job_count P c f i k) (P.rate i (core_of P c)) ≡ job_count P (c + 1) f i k
  unfolding share
  count_own few t =
      counted_count (P.work i) (done P c f i k) few (all_needed P c f i k) (P.rate i (core_of P c))
      ∙ sym (ap₂ count_of (needed_next ∙ own (of_job P i k c (f c)) (all_needed P c f i k) (ltb (done P c f i k) (P.work i)) t) (done_next ∙ ap (◌+◌ (done P c f i k)) (gate_yes (of_job P i k c (f c)) (P.rate i (core_of P c)) t)))
    where
      own : (b a x : Bool) → T b → a && imp b x ≡ a && x
      own true a x t = refl
      own false a x t = absurd t

-- ---- one cell more
module _ {P : Instance} {f : ℕ → ℕ} {counters : List ℕ} where
  -- before the first cell
  pub begins : Counted P f 0 counters → Passed P f 0 counters
  begins n = record { clean = below_none _; counted = n }

  -- the same number of cells
  pub as_far : {c d : ℕ} → Passed P f c counters → c ≡ d → Passed P f d counters
  as_far p e = subst (λ n. Passed P f n counters) e p

  module _ {c : ℕ} (p : Passed P f c counters) where
    -- after an idle cell
    pub rests : effect_of P f c ≡ nothing → Passed P f (c + 1) counters
    rests e =
        let z = nothing_is P f c e in
        record {
          clean = below_more _ c p.clean (kind_idle P f c z);
          counted = record {
            size = p.counted.size;
            count = λ i k l q. p.counted.count i k l q
                ∙ sym (count_other P f c (suc i) k (λ t. omega (arith, z, (of_job_lem P (suc i) k c (f c) t).0)));
          };
        }

    -- at a cell that does work
    module _ (small : Small P) (l : c < cells P) {x : ℕ} {w n : ℕ} (e : effect_of P f c ≡ does x n w) where
      is : (f c ≢ 0) × (cell_kind P f c ≡ 0) × (x ≡ counter_at (pred (f c)) (P.job (f c) (slot_of P c))) × (w ≡ P.rate (f c) (core_of P c)) × (n ≡ P.work (f c))
      is = does_is P f c x w n e

      fine : Fine P f c
      fine = kind_fine P f small.regular.some_core c is.1

      -- its job
      abbrev k : ℕ
      k = P.job (f c) (slot_of P c)

      -- the place of its task
      abbrev i : ℕ
      i = pred (f c)

      few_i : i < 16
      few_i = omega (arith, after (f c) is.0, fine.known, small.few_tasks)

      few_k : k < 1024
      few_k = omega (
        arith,
        small.regular.job_there (f c) (slot_of P c) is.0 fine.known (slot_there P small.regular.some_core c l),
        small.few_jobs (f c),
      )

      -- its counter is one of them
      pub counter_in : x < 16384
      counter_in = omega (arith, is.2, few_i, few_k)

      -- and holds the job's count
      so_far : nth counters x ≡ job_count P c f (f c) k
      so_far = ap (nth counters) is.2 ∙ p.counted.count i k few_i few_k ∙ ap (λ v. job_count P c f v k) (sym (after (f c) is.0))

      -- its work is little
      little : P.work (f c) ≤ 4096
      little = small.little_work (f c) is.0 fine.known

      -- and there is room for one cell more
      pub work_fits : n + w ≤ 65535
      work_fits = omega (
        arith,
        is.3,
        is.4,
        little,
        small.few_units (f c) (core_of P c) is.0 fine.known (mod-lt c small.regular.some_core),
      )

      -- after it
      pub works : Passed P f (c + 1) (set counters x (counted n (nth counters x) w))
      works = record {
        clean = below_more _ c p.clean is.1;
        counted = record { size = simp length-set p.counted.size; count = counts };
      }
        where
          counts : (a b : ℕ) → a < 16 → b < 1024 → nth (set counters x (counted n (nth counters x) w)) (counter_at a b) ≡ job_count P (c + 1) f (suc a) b
          counts a b la lb = elim (ℕ_discrete (counter_at a b) x) [
            | yes q ↦ ap (nth (set counters x _)) q ∙ get_or-set_same counters x _ 0 (omega (arith, counter_in, p.counted.size)) ∙ more q
            | no y ↦ get_or-set_other counters x (counter_at a b) _ 0 y ∙ p.counted.count a b la lb ∙ sym (count_other P f c (suc a) b (others y))
          ]
            where
              -- the job's own counter
              more : counter_at a b ≡ x → counted n (nth counters x) w ≡ job_count P (c + 1) f (suc a) b
              more q =
                  let t : suc a ≡ f c = omega (arith, q, is.2, few_i, after (f c) is.0) in
                  let j : b ≡ k = omega (arith, q, is.2, few_i) in
                  (λ m. counted (is.4 m) (so_far m) (is.3 m))
                  ∙ count_own P f c (f c) k (omega (arith, little)) (is_of_job P (f c) k c (f c) refl (job_slot_lem P (f c) k (slot_of P c) (fine.open_there is.0) refl))
                  ∙ (λ m. job_count P (c + 1) f (sym t m) (sym j m))

              -- the cell is of no other job
              others : counter_at a b ≢ x → T (of_job P (suc a) b c (f c)) → ⊥
              others y h =
                  let q = of_job_lem P (suc a) b c (f c) h in
                  y (sym (is.2 ∙ (λ m. counter_at (pred (q.0 m)) ((ap (λ u. P.job u (slot_of P c)) q.0 ∙ (slot_job P (suc a) b (slot_of P c) q.1).1) m))))

    -- at a faulty cell
    pub stops : c < cells P → {kind : Kind} → effect_of P f c ≡ faulty (kind_number kind) → {s j : ℕ} → slot_of P c ≡ s → core_of P c ≡ j
        → CellsTold P f (Some (Cell s (j + 1) kind)) counters
    unfolding cell_fault
    stops l {kind} e {s} {j} es ej =
        let q = faulty_is P f c (kind_number kind) e in
        let at : seek (cells P) (cell_kind P f) ≡ c = seek_is (cells P) c (cell_kind P f) l p.clean (λ z. q.1 (sym q.0 ∙ z)) in
        record {
          told = rw (at, lt-ltb c (cells P) l) (λ i. in_cell (sym es i) (next i) (sym q.0 i));
          counted = rw at p.counted;
        }
      where
        next : j + 1 ≡ suc (core_of P c)
        next = rw add-one (ap suc (sym ej))

  -- after the last cell
  pub ends : Passed P f (cells P) counters → CellsTold P f None counters
  unfolding cell_fault
  ends p =
      let at : seek (cells P) (cell_kind P f) ≡ cells P = seek_none (cells P) (cell_kind P f) p.clean in
      record {
        told = rw (at, le-ltb (cells P) (cells P) (omega arith));
        counted = rw at p.counted;
      }

-- ---- the cells as the code passes them
module _ {ts : List Task} {m h : ℕ} {t : List ℕ} (ready : Checkable ts m h t) where
  module _ {slot core : ℕ} (at : (slot < h) × (core < m)) {counters : List ℕ} (p : Passed (instance_of h m ts) (nth t) (slot * m + core) counters) where
    -- the cell is one of the table's
    cell_there : slot * m + core < cells (instance_of h m ts)
    unfolding instance_of
    cell_there = cell_in ready _ _ at.0 at.1

    module _ {effect : Option Share} (e : effect_as (Ok effect) ≡ effect_of (instance_of h m ts) (nth t) (slot * m + core)) where
      -- after an idle cell
      pub rests_at : effect ≡ None → Passed (instance_of h m ts) (nth t) (slot * m + (core + 1)) counters
      rests_at q = as_far (rests p (sym e ∙ ap (λ o. effect_as (Ok o)) q)) (omega arith)

      -- at one that does work
      module _ {share : Share} (q : effect ≡ Some share) where
        work_there : effect_of (instance_of h m ts) (nth t) (slot * m + core) ≡ does share.counter share.work.0 share.does.0
        work_there = sym e ∙ ap (λ o. effect_as (Ok o)) q

        -- its counter
        pub counter_there : share.counter < 16384
        counter_there = counter_in p (ready_small ready) cell_there work_there

        -- with room for the work
        pub fits_at : share.work.0 + share.does.0 ≤ 65535
        fits_at = work_fits p (ready_small ready) cell_there work_there

        -- after it
        pub works_at : {count : ℕ} → count ≡ counted share.work.0 (nth counters share.counter) share.does.0
            → Passed (instance_of h m ts) (nth t) (slot * m + (core + 1)) (set counters share.counter count)
        works_at s = rw s (as_far (works p (ready_small ready) cell_there work_there) (omega arith))

    -- at a faulty cell
    pub stops_at : {kind : Kind} → faulty (kind_number kind) ≡ effect_of (instance_of h m ts) (nth t) (slot * m + core)
        → CellsTold (instance_of h m ts) (nth t) (Some (Cell slot (core + 1) kind)) counters
    stops_at e = stops p cell_there (sym e) (the_slot ready at) (the_core ready at)

  -- after the last slot
  pub ends_at : {slot : ℕ} {counters : List ℕ} → Passed (instance_of h m ts) (nth t) (slot * m) counters → slot ≡ h → CellsTold (instance_of h m ts) (nth t) None counters
  unfolding instance_of
  ends_at p e = ends (as_far p (ap (λ n. n * m) e))
