-- What each test of the code answers is what the definitions say.
-- Assumes nothing.
use Prim.Native.Nat.{ℕ, zero, suc, ◌+◌, ◌-◌, ◌≤◌, ◌<◌}
use native.Mathlib.Omega.{arith}
use mathlib.Core.Path.{◌≡◌, refl, sym, ap, ap₂, ◌∙◌}
use mathlib.Core.Logic.{◌≢◌}
use mathlib.Core.Bool.{Bool, true, false, not, ◌&&◌, ◌||◌}
use mathlib.Core.List.{List}
use Rattle.std.specs.Prelude.{length, take, drop, None, Some}
use Rattle.std.specs.List.{list_any}
use Rattle.std.proofs.Common.{length-drop, add-one}
use Rattle.std.proofs.lemmas.List.{get_or-drop}
use Rattle.std.proofs.lemmas.List.Folds.{list_any_more}
use lib.Dec.{T, ltb, eqb, T_not}
use borrow.Author.Tests.{eq-eqb, ne_eqb, lt-ltb, le-ltb}
use Rattle.laws.specs.Lists.{nth, seek}
use Rattle.laws.proofs.TestLaws.{all_false, all_true}
use Rattle.laws.proofs.ListLaws.{seek_is, seek_none}
use Rattle.table.specs.Fault.{work_kind}
use Rattle.table.proofs.WorkLaws.{work_little, work_unneeded, work_met}
use Rattle.faults.specs.declared.Kind.{Kind}
use Rattle.faults.specs.declared.Kind.TheVariants.{UnknownTask, TaskClosed, Rate0, AlreadyInSlot, TooLittleWork, AfterComplete}
use Rattle.faults.specs.Tests.{free_in, counter_at, unneeded, count_of, counted, count_kind, counted_kind, first_fault}
use Rattle.faults.specs.Told.{kind_number, job_told}

-- ---- kinds
-- a kind has a number
pub some_kind : (kind : Kind) → kind_number kind ≢ 0
some_kind UnknownTask = λ z. omega arith
some_kind TaskClosed = λ z. omega arith
some_kind Rate0 = λ z. omega arith
some_kind AlreadyInSlot = λ z. omega arith
some_kind TooLittleWork = λ z. omega arith
some_kind AfterComplete = λ z. omega arith

-- ---- a task in its slot
-- it is not among the cells of the earlier cores
free_is : (t : List ℕ) (first core v : ℕ) → first + core ≤ length t → not (list_any (λ y. eqb y v) (take core (drop first t))) ≡ free_in t first core v
unfolding free_in
free_is t first zero v l = refl
free_is t first (suc core) v l =
    ap (λ n. not (list_any (λ y. eqb y v) (take n (drop first t)))) (sym (add-one core))
    ∙ ap not (list_any_more (λ y. eqb y v) (drop first t) core 0 (omega (arith, length-drop first t)))
    ∙ neither (list_any (λ y. eqb y v) (take core (drop first t))) _
    ∙ ap₂ (λ a x. a && not (eqb x v)) (free_is t first core v (omega arith)) (get_or-drop first t core 0)
  where
    neither : (a b : Bool) → not (a || b) ≡ not a && not b
    neither true b = refl
    neither false b = refl

-- as the code looks at them: those from `first` to `first + n`
pub free_told : (t : List ℕ) (first core v n : ℕ) → first + core ≤ length t → n ≡ core → {b : Bool} → b ≡ list_any (λ y. eqb y v) (take (first + n - first) (drop first t))
    → not b ≡ free_in t first core v
free_told t first core v n l e q =
    let few : first + n - first ≡ core = omega arith in
    ap not q ∙ ap (λ k. not (list_any (λ y. eqb y v) (take k (drop first t)))) few ∙ free_is t first core v l

-- it stands on an earlier core
pub free_not : (t : List ℕ) (first core v j : ℕ) → j < core → nth t (first + j) ≡ v → false ≡ free_in t first core v
unfolding free_in
free_not t first core v j l e = sym (all_false core _ j l (ap not (eq-eqb (nth t (first + j)) v e)))

-- it stands on none
pub free_yes : (t : List ℕ) (first core v : ℕ) → ((k : ℕ) → k < core → nth t (first + k) ≡ v → ⊥) → true ≡ free_in t first core v
unfolding free_in
free_yes t first core v none = sym (all_true core _ (λ k l. ap not (ne_eqb (nth t (first + k)) v (none k l))))

-- ---- the count of a job
module _ (C x : ℕ) where
  -- with a cell that is needed
  pub counted_needed : (s : ℕ) → x < C → x + s ≡ counted C x s
  unfolding counted
  counted_needed s l = rw (lt-ltb x C l)

  -- with one that is not
  pub counted_unneeded : (s : ℕ) → C ≤ x → unneeded ≡ counted C x s
  unfolding counted
  counted_unneeded s l = rw (le-ltb x C l)

  -- its fault: too little work
  pub count_little : x < C → 5 ≡ count_kind C x
  unfolding count_kind
  count_little l = sym (work_little C x _ l)

  -- a cell after the job was complete
  pub count_unneeded : C ≤ x → x ≡ unneeded → 6 ≡ count_kind C x
  unfolding count_kind
  count_unneeded l e = sym (work_unneeded C x (not (eqb x unneeded)) l (λ t. T_not (eqb x unneeded) t (rw (eq-eqb x unneeded e) tt)))

  -- none
  pub count_met : C ≤ x → x ≢ unneeded → 0 ≡ count_kind C x
  unfolding count_kind
  count_met l y = sym (work_met C x _ l (rw (ne_eqb x unneeded y) tt))

module _ (C d : ℕ) (few : C ≤ unneeded) where
  -- the count of a job that has done d, with one more cell
  pub counted_count : (needed : Bool) (s : ℕ) → counted C (count_of needed d) s ≡ count_of (needed && ltb d C) (d + s)
  unfolding counted count_of
  counted_count true s = refl
  counted_count false s = rw (le-ltb unneeded C few)

  -- and its fault, if the job was complete before a cell that was not needed
  pub count_kind_lem : (needed : Bool) → (T needed → d ≢ unneeded) → ((T needed → ⊥) → C ≤ d) → count_kind C (count_of needed d) ≡ work_kind C d needed
  unfolding count_kind count_of
  count_kind_lem true y h = rw (ne_eqb d unneeded (y tt))
  count_kind_lem false y h = work_unneeded C unneeded _ few (λ t. t) ∙ sym (work_unneeded C d false (h (λ t. t)) (λ t. t))

-- ---- the fault of a job, as its counter tells it
pub counted_is : (counters : List ℕ) (place C k : ℕ) {x kind : ℕ} → x ≡ counter_at place k → kind ≡ count_kind C (nth counters x) → kind ≡ counted_kind counters place C k
unfolding counted_kind
counted_is counters place C k e q = q ∙ ap (λ x. count_kind C (nth counters x)) e

-- ---- the jobs of a task
-- the first faulty one is found
pub job_found : (n i : ℕ) (g : ℕ → ℕ) (kind : Kind) → i < n → ((k : ℕ) → k < i → g k ≡ 0) → kind_number kind ≡ g i → job_told (Some (i, kind)) ≡ first_fault n g
unfolding first_fault
job_found n i g kind l none e =
    let at : seek n g ≡ i = seek_is n i g l none (λ z. some_kind kind (e ∙ z)) in
    rw (at, lt-ltb i n l, e) refl

-- none is faulty
pub job_none : (n : ℕ) (g : ℕ → ℕ) → ((k : ℕ) → k < n → g k ≡ 0) → None ≡ first_fault n g
unfolding first_fault
job_none n g none = rw (seek_none n g none, le-ltb n n (omega arith)) refl
