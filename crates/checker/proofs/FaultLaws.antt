-- Faults of a table, test by test: what each kind says of a cell or a job, and that a table without a fault is a valid one.
-- Assumes nothing.
use Prim.Native.Nat.{ℕ, zero, suc, pred, ◌≤◌, ◌<◌}
use native.Mathlib.Decide.{ℕ_discrete}
use native.Mathlib.Omega.{arith}
use mathlib.Core.Path.{◌≡◌, refl, sym, subst, ◌∙◌}
use mathlib.Core.Logic.{◌≢◌, ◌⊎◌, inl, inr, ⊎_elim}
use mathlib.Core.Bool.{Bool, true, false, not}
use lib.Dec.{T, ltb, eqb, leb→le, ltb→lt, le→leb, lt→ltb, eqb→eq}
use borrow.Author.Tests.{lt-ltb, le-ltb}
use Rattle.laws.specs.Lists.{seek, first_of}
use Rattle.laws.proofs.SumLaws.{lt_or_ge}
use Rattle.laws.proofs.TestLaws.{all_fails}
use Rattle.laws.proofs.ListLaws.{seek_before, seek_some, first_none, first_zero}
use Rattle.tasks.specs.Instance.{Instance, Regular}
use Rattle.tasks.proofs.AnswerLaws.{unless_yes, unless_no}
use Rattle.table.specs.Table.{cells, slot_of, core_of, beside, done, free, Valid}
use Rattle.table.specs.Fault.{known_kind, kind_of, cell_kind, all_needed, job_kind, Fault, no_fault, in_cell, in_job, first_job, job_fault, fault}
use Rattle.checker.specs.Faulty.{Fine, Wrong, unknown, closed, unrated, twice, Met, WrongWork, too_little, after_complete, FirstCell, FirstJob}
use Rattle.table.proofs.JobLaws.{job_slot_lem, slot_job}
use Rattle.table.proofs.TableLaws.{slot_there, done_more, beside_before, beside_slot, free_apart}
use Rattle.table.proofs.WorkLaws.{work_little, work_unneeded, work_met, all_needed_lem, not_needed}

-- a test passed or failed
tested : (b : Bool) → T b ⊎ (T b → ⊥)
tested true = inl tt
tested false = inr (λ t. t)

-- a number that is not 0 comes after one
pub after : (v : ℕ) → v ≢ 0 → v ≡ suc (pred v)
after zero x = absurd (x refl)
after (suc v) x = refl

module _ (P : Instance) (f : ℕ → ℕ) where
  -- ---- cells
  -- an idle cell has no fault
  pub kind_idle : (c : ℕ) → f c ≡ 0 → cell_kind P f c ≡ 0
  unfolding cell_kind
  kind_idle c e = rw e

  module _ (c : ℕ) (x : f c ≢ 0) where
    -- a task has the fault of its tests
    task_kind : cell_kind P f c ≡ kind_of P c f (f c)
    unfolding cell_kind
    task_kind = go (pred (f c)) (after (f c) x)
      where
        go : (v : ℕ) → f c ≡ suc v → cell_kind P f c ≡ kind_of P c f (f c)
        go v e = rw e

    -- its number is unknown
    pub kind_unknown : P.tasks < f c → cell_kind P f c ≡ 1
    unfolding kind_of
    kind_unknown l = task_kind ∙ unless_no _ 1 _ (λ t. let k = leb→le (f c) P.tasks t in omega arith)

    module _ (known : f c ≤ P.tasks) where
      -- it is known
      pub kind_known : cell_kind P f c ≡ known_kind (P.opens (f c) (slot_of P c)) (ltb 0 (P.rate (f c) (core_of P c))) (free P c f (f c))
      unfolding kind_of
      kind_known = task_kind ∙ unless_yes _ 1 _ (le→leb _ _ known)

      -- and closed
      kind_closed : (T (P.opens (f c) (slot_of P c)) → ⊥) → cell_kind P f c ≡ 2
      kind_closed n = kind_known ∙ unless_no _ 2 _ n

      module _ (o : T (P.opens (f c) (slot_of P c))) where
        -- its rate is 0
        kind_unrated : P.rate (f c) (core_of P c) ≡ 0 → cell_kind P f c ≡ 3
        kind_unrated e = kind_known ∙ unless_yes _ 2 _ o ∙ unless_no _ 3 _ (λ t. let k = ltb→lt 0 (P.rate (f c) (core_of P c)) t in omega arith)

        module _ (s : 0 < P.rate (f c) (core_of P c)) where
          -- it stands in the slot already
          kind_twice : (T (free P c f (f c)) → ⊥) → cell_kind P f c ≡ 4
          kind_twice n = kind_known ∙ unless_yes _ 2 _ o ∙ unless_yes _ 3 _ (lt→ltb _ _ s) ∙ unless_no _ 4 0 n

          -- it has no fault
          kind_none : T (free P c f (f c)) → cell_kind P f c ≡ 0
          kind_none y = kind_known ∙ unless_yes _ 2 _ o ∙ unless_yes _ 3 _ (lt→ltb _ _ s) ∙ unless_yes _ 4 0 y

  -- a cell has no fault, or the fault of its kind
  data Sorted (c : ℕ) : ℕ → Type 0 where
    fine : Fine P f c → Sorted c 0
    wrong : (k : ℕ) → Wrong P f c (suc k) → Sorted c (suc k)

  -- a task that is not free stands on an earlier core
  not_free : (some_core : 0 < P.cores) (c v : ℕ) → (T (free P c f v) → ⊥) → (d : ℕ) × (d < c) × (slot_of P d ≡ slot_of P c) × (f d ≡ v)
  unfolding free
  not_free some_core c v n =
      let j = all_fails (core_of P c) (λ j. not (eqb (f (beside P c j)) v)) n in
      (beside P c j.0, beside_before P c j.0 j.1, beside_slot P some_core c j.0 j.1, same (eqb (f (beside P c j.0)) v) j.2 (eqb→eq _ v))
    where
      same : {d v : ℕ} (b : Bool) → (T (not b) → ⊥) → (T b → d ≡ v) → d ≡ v
      same true n e = e tt
      same false n e = absurd (n tt)

  module _ (some_core : 0 < P.cores) (c : ℕ) where
    sorted : Sorted c (cell_kind P f c)
    sorted = elim (ℕ_discrete (f c) 0) [
      | yes e ↦ rw (kind_idle c e) (fine (record { known = omega (arith, e); open_there = λ x. absurd (x e); rated = λ x. absurd (x e); once = λ x. absurd (x e) }))
      | no x ↦ ⊎_elim
          (λ l. rw (kind_unknown c x l) (wrong 0 (unknown l)))
          (λ k. ⊎_elim
          (λ o. elim (ℕ_discrete (P.rate (f c) (core_of P c)) 0) [
            | yes z ↦ rw (kind_unrated c x k o z) (wrong 2 (unrated x k o z))
            | no s ↦ ⊎_elim
                (λ y. rw (kind_none c x k o (omega arith) y) (fine (record { known = k; open_there = λ _. o; rated = λ _. omega arith; once = λ _. free_apart P c f (f c) y })))
                (λ n. let d = not_free some_core c (f c) n in
                rw (kind_twice c x k o (omega arith) n) (wrong 3 (twice x k o (omega arith) d.0 d.1 d.2 d.3)))
                (tested (free P c f (f c)))
          ])
          (λ n. rw (kind_closed c x k n) (wrong 1 (closed x k n)))
          (tested (P.opens (f c) (slot_of P c))))
          (lt_or_ge P.tasks (f c))
    ]

    -- a cell of kind 0 has no fault
    pub kind_fine : cell_kind P f c ≡ 0 → Fine P f c
    kind_fine = go sorted
      where
        go : {k : ℕ} → Sorted c k → k ≡ 0 → Fine P f c
        go (fine r) e = r
        go (wrong k w) e = absurd (omega arith)

    -- a cell of another kind has that fault
    pub kind_wrong : cell_kind P f c ≢ 0 → Wrong P f c (cell_kind P f c)
    kind_wrong = go sorted
      where
        go : {k : ℕ} → Sorted c k → k ≢ 0 → Wrong P f c k
        go (fine r) x = absurd (x refl)
        go (wrong k w) x = w

  -- ---- jobs
  -- a job is met, or has the fault of its kind
  module _ (i k : ℕ) where
    met_job : job_kind P f i k ≡ 0 → Met P f i k
    met_job e = ⊎_elim
        (λ l. absurd (omega (arith, work_little _ _ (all_needed P (cells P) f i k) l)))
        (λ l. ⊎_elim
        (λ y. record { full = l; needed = (all_needed_lem P f (cells P) i k).0 y })
        (λ n. absurd (omega (arith, work_unneeded _ _ (all_needed P (cells P) f i k) l n)))
        (tested (all_needed P (cells P) f i k)))
        (lt_or_ge (done P (cells P) f i k) (P.work i))

    job_wrong : job_kind P f i k ≢ 0 → WrongWork P f i k (job_kind P f i k)
    job_wrong x = ⊎_elim
        (λ l. subst (WrongWork P f i k) (sym (work_little _ _ _ l)) (too_little l))
        (λ l. ⊎_elim
        (λ y. absurd (x (work_met _ _ _ l y)))
        (λ n. let d = not_needed P f (cells P) i k n in
        subst (WrongWork P f i k) (sym (work_unneeded _ _ _ l n)) (after_complete d.0 d.1 d.2 d.3 d.4))
        (tested (all_needed P (cells P) f i k)))
        (lt_or_ge (done P (cells P) f i k) (P.work i))

  -- ---- the first fault
  -- no cell and no job is faulty
  pub record NoneFaulty : Type 0 where
    pub cells_fine : (c : ℕ) → c < cells P → Fine P f c
    pub jobs_met : (i k : ℕ) → i ≢ 0 → i ≤ P.tasks → k < P.jobs i → Met P f i k

  -- what a fault that is named says
  abbrev pub Says : Fault → Type 0
  Says no_fault = NoneFaulty
  Says (in_cell s j kind) = FirstCell P f s j kind
  Says (in_job i k kind) = FirstJob P f i k kind

  -- the first faulty job, where no cell is faulty
  module _ (all-fine : (c : ℕ) → c < cells P → Fine P f c) where
    -- the first fault of the jobs of the task after j
    row : ℕ → ℕ
    row j = first_of (P.jobs (suc j)) (job_kind P f (suc j))

    -- no job of an earlier task is faulty
    rows_met : (i : ℕ) → i ≤ seek P.tasks row → (j l : ℕ) → j ≢ 0 → j ≤ i → l < P.jobs j → Met P f j l
    unfolding row
    rows_met i h zero l x m q = absurd (x refl)
    rows_met i h (suc j) l x m q =
        met_job (suc j) l (first_zero (P.jobs (suc j)) (job_kind P f (suc j)) (seek_before P.tasks row j (omega arith)) l q)

    job_named : Says (job_fault P f)
    unfolding first_job row
    job_named = ⊎_elim
        (λ l. rw (lt-ltb (seek P.tasks row) P.tasks l) (found l))
        (λ l. rw (le-ltb (seek P.tasks row) P.tasks l) (record {
          cells_fine = all-fine;
          jobs_met = λ i k x m q. rows_met i (omega arith) i k x (omega arith) q;
        }))
        (lt_or_ge (seek P.tasks row) P.tasks)
      where
        i : ℕ
        i = seek P.tasks row

        k : ℕ
        k = seek (P.jobs (suc i)) (job_kind P f (suc i))

        some : i < P.tasks → k < P.jobs (suc i)
        some h = ⊎_elim (λ l. l) (λ l. absurd (seek_some P.tasks row h (first_none (P.jobs (suc i)) (job_kind P f (suc i)) (λ j q. seek_before (P.jobs (suc i)) (job_kind P f (suc i)) j (omega arith))))) (lt_or_ge k (P.jobs (suc i)))

        found : i < P.tasks → FirstJob P f (suc i) k (job_kind P f (suc i) k)
        found h = record {
          cells_fine = all-fine;
          some_task = λ z. omega arith;
          task_in = h;
          job_in = some h;
          is_wrong = job_wrong (suc i) k (seek_some (P.jobs (suc i)) (job_kind P f (suc i)) (some h));
          tasks_before = λ j l x m q. rows_met i (omega arith) j l x (omega arith) q;
          jobs_before = λ l q. met_job (suc i) l (seek_before (P.jobs (suc i)) (job_kind P f (suc i)) l q);
        }

  -- the fault that the definition names
  pub named : 0 < P.cores → Says (fault P f)
  unfolding fault
  named some_core = ⊎_elim
      (λ l. rw (lt-ltb c (cells P) l) (record {
        cell = c;
        inside = l;
        slot_is = refl;
        core_is = refl;
        is_wrong = kind_wrong some_core c (seek_some (cells P) (cell_kind P f) l);
        fine_before = λ d m. kind_fine some_core d (seek_before (cells P) (cell_kind P f) d m);
      }))
      (λ l. rw (le-ltb c (cells P) l) (job_named (λ d m. kind_fine some_core d (seek_before (cells P) (cell_kind P f) d (omega arith)))))
      (lt_or_ge c (cells P))
    where
      c : ℕ
      c = seek (cells P) (cell_kind P f)

  -- a faulty cell has a fault
  not_fine : {c kind : ℕ} → Wrong P f c kind → Fine P f c → ⊥
  not_fine (unknown l) r = omega (arith, r.known)
  not_fine (closed x k n) r = n (r.open_there x)
  not_fine (unrated x k o z) r = omega (arith, r.rated x)
  not_fine (twice x k o s d l q e) r = r.once x d l q e

  -- a faulty job is not met
  not_met : {i k kind : ℕ} → WrongWork P f i k kind → Met P f i k → ⊥
  not_met (too_little l) r = omega (arith, r.full)
  not_met (after_complete c l e s h) r = omega (arith, r.needed c l e s)

  -- and a job has one kind of fault: 5 and 6 exclude each other
  pub kind_alone : {i k a b : ℕ} → WrongWork P f i k a → WrongWork P f i k b → a ≡ b
  kind_alone (too_little l) (too_little m) = refl
  kind_alone {i} {k} (too_little l) (after_complete c m e s h) = absurd (omega (arith, done_more P c (cells P) f i k (omega arith)))
  kind_alone {i} {k} (after_complete c m e s h) (too_little l) = absurd (omega (arith, done_more P c (cells P) f i k (omega arith)))
  kind_alone (after_complete c m e s h) (after_complete c' m' e' s' h') = refl

  -- where nothing is faulty, no fault is named
  pub faultless : NoneFaulty → (x : Fault) → Says x → x ≡ no_fault
  faultless r no_fault n = refl
  faultless r (in_cell s j kind) n = absurd (not_fine n.is_wrong (r.cells_fine n.cell n.inside))
  faultless r (in_job i k kind) n = absurd (not_met n.is_wrong (r.jobs_met i k n.some_task n.task_in n.job_in))

  -- ---- valid tables
  -- a table without a fault is valid
  pub none_valid : Regular P → NoneFaulty → Valid P f
  none_valid regular r = record {
    known = λ c l. (r.cells_fine c l).known;
    open_there = λ c l. (r.cells_fine c l).open_there;
    rated = λ c l. (r.cells_fine c l).rated;
    once = λ c d l m x s e. elim (ℕ_discrete (f c) 0) [
      | yes z ↦ z
      | no y ↦ ⊎_elim
          (λ q. absurd ((r.cells_fine d m).once (λ z. y (e ∙ z)) c q s e))
          (λ q. absurd ((r.cells_fine c l).once y d (omega arith) (sym s) (sym e)))
          (lt_or_ge c d)
    ];
    full = λ i k x l q. (r.jobs_met i k x l q).full;
    needed = λ c l x. (r.jobs_met (f c) (P.job (f c) (slot_of P c)) x (r.cells_fine c l).known
        (regular.job_there (f c) (slot_of P c) x (r.cells_fine c l).known (slot_there P regular.some_core c l))
        ).needed c l refl (job_slot_lem P (f c) (P.job (f c) (slot_of P c)) (slot_of P c) ((r.cells_fine c l).open_there x) refl);
  }

  -- and a valid one has no fault
  pub valid_none : Valid P f → NoneFaulty
  valid_none v = record {
    cells_fine = λ c l. record {
      known = v.known c l;
      open_there = v.open_there c l;
      rated = v.rated c l;
      once = λ x d m s e. x (v.once c d l (omega arith) (λ q. omega arith) (sym s) (sym e));
    };
    jobs_met = λ i k x l q. record {
      full = v.full i k x l q;
      needed = λ c m e s. rw (e, (slot_job P i k (slot_of P c) s).1) at (v.needed c m (λ z. x (sym e ∙ z)));
    };
  }
