-- What the walk's tests on its arrays say of the instance that the arrays are for.
-- Assumes nothing.
use Prim.Native.Nat.{ℕ, suc, ◌+◌, ◌*◌, ◌-◌, ◌/◌, ◌%◌, ◌≤◌, ◌<◌}
use native.Mathlib.Omega.{arith}
use native.Mathlib.Numerals.{add-one}
use native.Mathlib.Decide.{ℕ_discrete}
use native.Mathlib.Nat.{suc_inj, eq_of_mul-eq-mul_right, mul-mod_left}
use mathlib.Core.Path.{◌≡◌, refl, sym, ap, ap₂, subst, ◌∙◌}
use mathlib.Core.Logic.{◌≢◌, ⊎_elim}
use mathlib.Core.Bool.{Bool, true, false, cond, not, ◌&&◌, and-true, and-false}
use mathlib.Core.List.{List, [], ◌∷◌}
use lib.Arith.{digits_div, digits_mod}
use lib.Dec.{T, leb, ltb, eqb, ltb→lt, eqb→eq, T_not}
use lib.ListN.{length, set}
use lib.Seq.{get_or-set_same, get_or-set_other}
use borrow.Author.Tests.{leb-false, le-leb, eq-eqb, ne_eqb}
use Rattle.laws.specs.Sum.{gate, sum}
use Rattle.laws.specs.Tests.{every, all, imp}
use Rattle.laws.specs.Lists.{nth}
use Rattle.laws.proofs.SumLaws.{gate_le, lt_or_ge}
use Rattle.laws.proofs.TestLaws.{both, make_both, every_holds, holds_every, all_at, at_all, all_same, all_true, imp_use, imp_make}
use Rattle.tasks.specs.Instance.{Instance, job_end}
use Rattle.table.specs.Table.{slot_of, core_of, beside, share, done, work_left, free}
use Rattle.table.proofs.JobLaws.{slot_job}
use Rattle.table.proofs.TableLaws.{beside_before, done_same}
use Rattle.table.proofs.ShareLaws.{share_none, share_own}
use Rattle.rules.specs.Rules.{tests, permitted, settled, all_settled, even_rates}
use Rattle.sets.specs.Sets.{has, of_core, without}
use Rattle.sets.proofs.SetLaws.{of_core_has, of_core_alone, of_core_lt, without_has, common_none}
use Rattle.grid.specs.declared.Grid.{Grid}
use Rattle.grid.specs.Grid.{entry_on, ends_on, rate_on, evens_on, counter_on, sets_on, bars_idle, settled_on, all_settled_on}
use Rattle.grid.specs.GridFor.{Small, counter_of, closed_counter, entry_of, is_quick, GridFor, Lefts}
use Rattle.grid.proofs.ReadLaws.{sets_has, sets_none}

-- two tests that pass together are the same
pub test_same : (a b : Bool) → (T a → T b) → (T b → T a) → a ≡ b
test_same true true f g = refl
test_same true false f g = absurd (f tt)
test_same false true f g = absurd (g tt)
test_same false false f g = refl

-- m of n tests, where the others pass
all_fewer : (n m : ℕ) (f g : ℕ → Bool) → m ≤ n → ((v : ℕ) → v < m → f v ≡ g v) → ((v : ℕ) → m ≤ v → v < n → f v ≡ true) → all n f ≡ all m g
all_fewer n m f g l same pass = test_same (all n f) (all m g)
    (λ h. at_all m g (λ v lv. subst T (same v lv) (all_at n f h v (omega arith))))
    (λ h. at_all n f (λ v lv. ⊎_elim (λ k. subst T (sym (same v k)) (all_at m g h v k)) (λ k. subst T (sym (pass v k lv)) tt) (lt_or_ge v m)))

-- ---- the entries of the grid
module _ (P : Instance) (i t : ℕ) where
  -- where the task is open
  entry_open : T (P.opens i t) → entry_of P i t ≡ 2 * counter_of i (P.job i t) + gate (eqb (job_end P i (P.job i t)) t) 1
  unfolding entry_of
  entry_open o = go (P.opens i t) o
    where
      go : (b : Bool) → T b → cond b (2 * counter_of i (P.job i t) + gate (eqb (job_end P i (P.job i t)) t) 1) (2 * closed_counter)
          ≡ 2 * counter_of i (P.job i t) + gate (eqb (job_end P i (P.job i t)) t) 1
      go true h = refl
      go false h = absurd h

  -- where the task is closed
  entry_closed : (T (P.opens i t) → ⊥) → entry_of P i t ≡ 2 * closed_counter
  unfolding entry_of
  entry_closed o = go (P.opens i t) o
    where
      go : (b : Bool) → (T b → ⊥) → cond b (2 * counter_of i (P.job i t) + gate (eqb (job_end P i (P.job i t)) t) 1) (2 * closed_counter) ≡ 2 * closed_counter
      go true h = absurd (h tt)
      go false h = refl

-- 1 exactly if the test passes
gate_odd : (b : Bool) → gate b 1 ≢ 0 → T b
unfolding gate
gate_odd true x = tt
gate_odd false x = absurd (x refl)

gate_pass : (b : Bool) → T b → gate b 1 ≡ 1
unfolding gate
gate_pass true h = refl
gate_pass false h = absurd h

-- a test that passes or does not
pub test_cases : {A : Type 0} (b : Bool) → (T b → A) → ((T b → ⊥) → A) → A
test_cases true f g = f tt
test_cases false f g = g (λ x. x)

-- ---- the sets of a slot
-- whether task v + 1 may stand on core j of a slot, after the cells before c
abbrev may_tests : Instance → ℕ → ℕ → (ℕ → ℕ) → ℕ → ℕ → List Bool
may_tests P slot c f v j =
    P.opens (suc v) slot ∷ ltb 0 (P.rate (suc v) j) ∷ free P c f (suc v) ∷ ltb 0 (work_left P c f (suc v) (P.job (suc v) slot)) ∷ []

-- the sets have the tasks that may stand on the cores from `core` on
pub record Sets (P : Instance) (slot core c : ℕ) (f : ℕ → ℕ) (sets : ℕ) : Type 0 where
  pub may : (v j : ℕ) → v < P.tasks → core ≤ j → j < P.cores → has sets v j ≡ every (may_tests P slot c f v j)
  pub only : (v j : ℕ) → P.tasks ≤ v → j < P.cores → has sets v j ≡ false

-- the same for the same cells before c
pub sets_same : {P : Instance} {slot core c : ℕ} {f g : ℕ → ℕ} {sets : ℕ} → ((d : ℕ) → d < c → f d ≡ g d) → Sets P slot core c f sets → Sets P slot core c g sets
unfolding free
sets_same {P} {slot} {c = c} {f} {g} h holds = record {
  may = λ v j lv lo hi. holds.may v j lv lo hi
      ∙ ap₂ (λ a b. every (P.opens (suc v) slot ∷ ltb 0 (P.rate (suc v) j) ∷ a ∷ ltb 0 (P.work (suc v) - b) ∷ [])) (free_same (suc v)) (done_same P c f g h (suc v) (P.job (suc v) slot));
  only = holds.only;
}
  where
    free_same : (i : ℕ) → free P c f i ≡ free P c g i
    free_same i = all_same (core_of P c) _ _ (λ k l. ap (λ x. not (eqb x i)) (h (beside P c k) (beside_before P c k l)))

module _ {P : Instance} {e : ℕ} {grid : Grid} (small : Small P) (ready : GridFor P e grid) where
  module _ {slot v : ℕ} (ls : slot < P.slots) (lv : v < P.tasks) where
    -- where the task is open, the counter is its job's
    pub counter_open : T (P.opens (suc v) slot) → counter_on grid slot v ≡ counter_of (suc v) (P.job (suc v) slot)
    counter_open o = omega (arith, ready.entries slot v ls lv ∙ entry_open P (suc v) slot o, gate_le (eqb (job_end P (suc v) (P.job (suc v) slot)) slot) 1)

    -- an odd entry is that of a job's highest-numbered slot
    pub entry_odd : T (P.opens (suc v) slot) → entry_on grid slot v % 2 ≡ gate (eqb (job_end P (suc v) (P.job (suc v) slot)) slot) 1
    entry_odd o = omega (arith, ready.entries slot v ls lv ∙ entry_open P (suc v) slot o, gate_le (eqb (job_end P (suc v) (P.job (suc v) slot)) slot) 1)

    -- a task that is closed there has the counter for that, and an even entry
    pub counter_closed : (T (P.opens (suc v) slot) → ⊥) → (counter_on grid slot v ≡ closed_counter) × (entry_on grid slot v % 2 ≡ 0)
    counter_closed x = omega (arith, ready.entries slot v ls lv ∙ entry_closed P (suc v) slot x)

    -- where the task is open, the job is one of its own
    pub job_in : P.job (suc v) slot < P.jobs (suc v)
    job_in = small.regular.job_there (suc v) slot (omega arith) lv ls

    -- its counter is before the last
    counter_in : T (P.opens (suc v) slot) → counter_on grid slot v < closed_counter
    counter_in o = omega (arith, counter_open o, job_in, small.few_jobs (suc v) (omega arith) lv, small.few_tasks)

    -- and none is behind that
    pub counter_le : counter_on grid slot v ≤ closed_counter
    counter_le = test_cases (P.opens (suc v) slot) (λ o. omega (arith, counter_in o)) (λ x. omega (arith, (counter_closed x).0))

    -- where the task is open, the work left of the job
    pub left_open : (c : ℕ) (f : ℕ → ℕ) (l : List ℕ) → Lefts P c f l → T (P.opens (suc v) slot)
        → nth l (counter_on grid slot v) ≡ work_left P c f (suc v) (P.job (suc v) slot)
    left_open c f l lefts o = ap (nth l) (counter_open o) ∙ lefts.counters (suc v) (P.job (suc v) slot) (omega arith) lv job_in

    -- ---- the end of the slot
    module _ (c : ℕ) (f : ℕ → ℕ) (l : List ℕ) (lefts : Lefts P c f l) (ec : c ≡ suc slot * P.cores) where
      -- a job whose highest-numbered slot this is ends here, and no other
      ends_here : (k : ℕ) → T (eqb (suc (job_end P (suc v) k) * P.cores) c) → job_end P (suc v) k ≡ slot
      ends_here k h = suc_inj (eq_of_mul-eq-mul_right P.cores small.regular.some_core _ _ (eqb→eq _ c h ∙ ec))

      here_ends : (k : ℕ) → job_end P (suc v) k ≡ slot → T (eqb (suc (job_end P (suc v) k) * P.cores) c)
      here_ends k h = rw (eq-eqb (suc (job_end P (suc v) k) * P.cores) c (ap (λ n. suc n * P.cores) h ∙ sym ec)) tt

      to_settled : T (settled_on grid l slot v) → (k : ℕ) → k < P.jobs (suc v) → T (settled P c f (suc v) k)
      unfolding settled_on settled
      to_settled h k lk = imp_make (eqb (suc (job_end P (suc v) k) * P.cores) c) (eqb (work_left P c f (suc v) k) 0) (λ q.
          let e = ends_here k q in
          let j = slot_job P (suc v) k slot (rw e at (small.job_ends (suc v) k (omega arith) lv lk)) in
          let odd = entry_odd j.0 ∙ gate_pass (eqb (job_end P (suc v) (P.job (suc v) slot)) slot) (rw (eq-eqb (job_end P (suc v) (P.job (suc v) slot)) slot (ap (job_end P (suc v)) j.1 ∙ e)) tt) in
          let z = eqb→eq (nth l (counter_on grid slot v)) 0 (imp_use (not (eqb (entry_on grid slot v % 2) 0)) _ h (rw odd tt)) in
          rw (eq-eqb (work_left P c f (suc v) k) 0 (ap (work_left P c f (suc v)) (sym j.1) ∙ sym (left_open c f l lefts j.0) ∙ z)) tt)

      from_settled : ((k : ℕ) → k < P.jobs (suc v) → T (settled P c f (suc v) k)) → T (settled_on grid l slot v)
      unfolding settled_on settled
      from_settled h = imp_make (not (eqb (entry_on grid slot v % 2) 0)) (eqb (nth l (counter_on grid slot v)) 0) (λ q. test_cases (P.opens (suc v) slot)
          (λ o.
          let x : entry_on grid slot v % 2 ≢ 0 = λ z. T_not (eqb (entry_on grid slot v % 2) 0) q (rw (eq-eqb (entry_on grid slot v % 2) 0 z) tt) in
          let e = eqb→eq (job_end P (suc v) (P.job (suc v) slot)) slot (gate_odd _ (λ z. x (entry_odd o ∙ z))) in
          let z = eqb→eq (work_left P c f (suc v) (P.job (suc v) slot)) 0 (imp_use (eqb (suc (job_end P (suc v) (P.job (suc v) slot)) * P.cores) c) (eqb (work_left P c f (suc v) (P.job (suc v) slot)) 0) (h (P.job (suc v) slot) job_in) (here_ends (P.job (suc v) slot) e)) in
          rw (eq-eqb (nth l (counter_on grid slot v)) 0 (left_open c f l lefts o ∙ z)) tt)
          (λ x. absurd (T_not (eqb (entry_on grid slot v % 2) 0) q (rw (eq-eqb (entry_on grid slot v % 2) 0 (counter_closed x).1) tt))))

      -- the arrays settle exactly the jobs that are settled
      settled_is : settled_on grid l slot v ≡ all (P.jobs (suc v)) (settled P c f (suc v))
      settled_is = test_same _ _ (λ h. at_all (P.jobs (suc v)) _ (to_settled h)) (λ h. from_settled (all_at (P.jobs (suc v)) _ h))

  -- after the last core of a slot
  pub all_settled_is : {slot : ℕ} → slot < P.slots → (c : ℕ) (f : ℕ → ℕ) (l : List ℕ) → Lefts P c f l → c ≡ suc slot * P.cores → all_settled_on grid l slot ≡ all_settled P c f
  unfolding all_settled_on all_settled settled_on
  all_settled_is {slot} ls c f l lefts ec = rw ready.tasks (all_same P.tasks _ _ (λ v lv. from_mark v lv (leb (ends_on grid slot) v) refl ∙ settled_is ls lv c f l lefts ec))
    where
      -- before the mark each job is settled
      from_mark : (v : ℕ) → v < P.tasks → (b : Bool) → leb (ends_on grid slot) v ≡ b → imp b (settled_on grid l slot v) ≡ settled_on grid l slot v
      from_mark v lv true e = refl
      from_mark v lv false e = sym (rw (eq-eqb (entry_on grid slot v % 2) 0 (ready.ends slot v ls lv (leb-false _ _ e))))

  -- within a slot no job ends
  pub settled_within : (slot core : ℕ) → 0 < core → core < P.cores → (f : ℕ → ℕ) → all_settled P (slot * P.cores + core) f ≡ true
  unfolding all_settled settled
  settled_within slot core pos lc f = all_true P.tasks _ (λ i li. all_true (P.jobs (suc i)) _ (λ k lk.
      rw (ne_eqb (suc (job_end P (suc i) k) * P.cores) (slot * P.cores + core) (λ e. omega (
        arith,
        pos,
        sym (digits_mod slot lc) ∙ ap (λ x. x % P.cores) (sym e) ∙ mul-mod_left (suc (job_end P (suc i) k)) P.cores,
      )))))

  module _ {first slot core : ℕ} (ef : first ≡ slot * P.cores) (ls : slot < P.slots) (lc : core < P.cores) where
    -- the slot and the core of the cell
    pub slot_is : slot_of P (first + core) ≡ slot
    slot_is = ap (λ x. (x + core) / P.cores) ef ∙ digits_div slot lc

    pub core_is : core_of P (first + core) ≡ core
    core_is = ap (λ x. (x + core) % P.cores) ef ∙ digits_mod slot lc

    -- the cell beside it
    pub beside_at : (j : ℕ) → beside P (first + core) j ≡ first + j
    beside_at j = ap (λ x. x * P.cores + j) slot_is ∙ ap (λ x. x + j) (sym ef)

    -- a task in the core's set is permitted
    pub permitted_is : {sets : ℕ} (f : ℕ → ℕ) → Sets P slot core (first + core) f sets → (v : ℕ) → v < P.tasks → has sets v core ≡ permitted P (first + core) f (suc v)
    unfolding permitted tests
    permitted_is f holds v lv = holds.may v core lv (omega arith) lc ∙ sym (rw (slot_is, core_is, le-leb (suc v) P.tasks lv))

    -- rule A bars idle exactly if a task in the core's set has equal positive rates
    pub bars_is : {sets : ℕ} {f : ℕ → ℕ} → Sets P slot core (first + core) f sets
        → bars_idle grid sets core ≡ not (all P.tasks (λ v. imp (has sets v core) (not (is_quick e && even_rates P (suc v)))))
    unfolding bars_idle
    bars_is {sets} holds = ap not (common_none (of_core sets core) (evens_on grid) (of_core_lt sets core) (of_core_alone sets core)
        ∙ all_fewer 16 P.tasks (λ v. not (has (of_core sets core) v 0 && has (evens_on grid) v 0)) (λ v. imp (has sets v core) (not (is_quick e && even_rates P (suc v)))) small.few_tasks inside outside)
      where
        in_core : (v : ℕ) → v < 16 → has (of_core sets core) v 0 ≡ has sets v core
        in_core v l = of_core_has sets core v (omega (arith, small.few_cores)) l

        not_both : (a b : Bool) → not (a && b) ≡ imp a (not b)
        not_both true b = refl
        not_both false b = refl

        inside : (v : ℕ) → v < P.tasks → not (has (of_core sets core) v 0 && has (evens_on grid) v 0) ≡ imp (has sets v core) (not (is_quick e && even_rates P (suc v)))
        inside v l = ap₂ (λ a b. not (a && b)) (in_core v (omega (arith, small.few_tasks))) (ready.evens v l) ∙ not_both (has sets v core) (is_quick e && even_rates P (suc v))

        outside : (v : ℕ) → P.tasks ≤ v → v < 16 → not (has (of_core sets core) v 0 && has (evens_on grid) v 0) ≡ true
        outside v k l = ap (λ a. not (a && has (evens_on grid) v 0)) (in_core v l ∙ holds.only v core k lc)

    -- it is open
    pub open_tells : {sets : ℕ} (f : ℕ → ℕ) → Sets P slot core (first + core) f sets → (v : ℕ) → v < P.tasks → has sets v core ≡ true → T (P.opens (suc v) slot)
    open_tells f holds v lv h = (every_holds (may_tests P slot (first + core) f v core) (rw (sym (holds.may v core lv (omega arith) lc) ∙ h) tt)).0

    -- ---- a value put into the cell
    module _ (t : List ℕ) (w : ℕ) (room : first + core < length t) where
      -- one cell more is done
      done_put : (i k : ℕ) → done P (first + core + 1) (nth (set t (first + core) w)) i k ≡ done P (first + core) (nth t) i k + share P i k (first + core) w
      unfolding done sum
      done_put i k = rw add-one (ap₂ ◌+◌ (done_same P (first + core) _ _ (λ d l. get_or-set_other t (first + core) d w 0 (omega arith)) i k) (ap (share P i k (first + core)) (get_or-set_same t (first + core) w 0 room)))

    -- idle leaves the work left as it is
    pub lefts_idle : (t l : List ℕ) → first + core < length t → Lefts P (first + core) (nth t) l → Lefts P (first + core + 1) (nth (set t (first + core) 0)) l
    lefts_idle t l room lefts = record {
      counters = λ i k x li lk. lefts.counters i k x li lk ∙ ap (λ d. P.work i - d) (sym (done_put t 0 room i k ∙ omega (arith, share_none P i k (first + core) 0 (λ z _. x (sym z)))));
      none_closed = lefts.none_closed;
    }

    -- a task takes its rate off the work left of its job
    module _ (t l : List ℕ) (room : first + core < length t) (sized : length l ≡ 16385) (lefts : Lefts P (first + core) (nth t) l) (v : ℕ) (lv : v < P.tasks) (o : T (P.opens (suc v) slot)) where
      -- the counter of the task's job
      counter_is : counter_on grid slot v ≡ P.job (suc v) slot * 16 + v
      counter_is = counter_open ls lv o

      -- the counter of this job
      put_own : nth (set l (counter_on grid slot v) (nth l (counter_on grid slot v) - rate_on grid v core)) (counter_of (suc v) (P.job (suc v) slot))
          ≡ work_left P (first + core + 1) (nth (set t (first + core) (v + 1))) (suc v) (P.job (suc v) slot)
      put_own = ap (nth (set l (counter_on grid slot v) (nth l (counter_on grid slot v) - rate_on grid v core))) (sym counter_is)
          ∙ get_or-set_same l (counter_on grid slot v) _ 0 (omega (arith, counter_in ls lv o))
          ∙ omega (
            arith,
            left_open ls lv (first + core) (nth t) l lefts o,
            ready.rates v core lv lc,
            done_put t (v + 1) room (suc v) (P.job (suc v) slot),
            ap (share P (suc v) (P.job (suc v) slot) (first + core)) (add-one v),
            rw core_is at (share_own P (suc v) (first + core) (rw slot_is o)),
            ap (λ s. share P (suc v) (P.job (suc v) s) (first + core) (suc v)) slot_is,
          )

      -- the counter of another job
      put_other : (i k : ℕ) → i ≢ 0 → i ≤ P.tasks → k < P.jobs i → (i ≡ suc v → k ≡ P.job (suc v) slot → ⊥)
          → nth (set l (counter_on grid slot v) (nth l (counter_on grid slot v) - rate_on grid v core)) (counter_of i k)
          ≡ work_left P (first + core + 1) (nth (set t (first + core) (v + 1))) i k
      put_other i k x li lk other =
          get_or-set_other l (counter_on grid slot v) (counter_of i k) _ 0 (λ q. other (omega (arith, counter_is, small.few_tasks)) (omega (arith, counter_is, small.few_tasks)))
          ∙ lefts.counters i k x li lk
          ∙ ap (λ d. P.work i - d) (sym (done_put t (v + 1) room i k ∙ omega (
            arith,
            share_none P i k (first + core) (v + 1) (λ e j. other (omega arith)
                (sym (slot_job P i k slot (rw slot_is at j)).1 ∙ ap (λ n. P.job n slot) (omega arith))),
          )))

      -- the work left after the task
      pub lefts_put : Lefts P (first + core + 1) (nth (set t (first + core) (v + 1))) (set l (counter_on grid slot v) (nth l (counter_on grid slot v) - rate_on grid v core))
      lefts_put = record {
        counters = λ i k x li lk. elim (ℕ_discrete i (suc v)) [
          | yes ei ↦ elim (ℕ_discrete k (P.job (suc v) slot)) [
            | yes ek ↦ rw (ei, ek) put_own
            | no y ↦ put_other i k x li lk (λ _ q. y q)
          ]
          | no y ↦ put_other i k x li lk (λ q _. y q)
        ];
        none_closed = get_or-set_other l (counter_on grid slot v) closed_counter _ 0 (omega (arith, counter_in ls lv o)) ∙ lefts.none_closed;
      }

  -- ---- the sets after a value in the cell
  module _ {first slot core : ℕ} (ef : first ≡ slot * P.cores) (ls : slot < P.slots) (lc : core < P.cores) where
    module _ (t : List ℕ) (w : ℕ) (room : first + core < length t) (more : core + 1 < P.cores) where
      -- the next core has one more beside it
      free_next : (i : ℕ) → free P (suc (first + core)) (nth (set t (first + core) w)) i ≡ free P (first + core) (nth t) i && not (eqb w i)
      unfolding free
      free_next i = ap (λ c. all (core_of P c) (λ j. not (eqb (nth (set t (first + core) w) (beside P c j)) i))) here
          ∙ ap (λ n. all n (λ j. not (eqb (nth (set t (first + core) w) (beside P (first + (core + 1)) j)) i))) (core_is ef ls more ∙ add-one core)
          ∙ ap₂ ◌&&◌
          (all_same core _ _ (λ j l. ap (λ x. not (eqb x i)) (ap (nth (set t (first + core) w)) (beside_at ef ls more j) ∙ get_or-set_other t (first + core) (first + j) w 0 (omega arith) ∙ ap (nth t) (sym (beside_at ef ls lc j))))
          ∙ ap (λ n. all n (λ j. not (eqb (nth t (beside P (first + core) j)) i))) (sym (core_is ef ls lc)))
          (ap (λ x. not (eqb x i)) (ap (nth (set t (first + core) w)) (beside_at ef ls more core) ∙ get_or-set_same t (first + core) w 0 room))
        where
          here : suc (first + core) ≡ first + (core + 1)
          here = omega arith

      -- another task may stand there as before
      may_other : (v j : ℕ) → suc v ≢ w → every (may_tests P slot (suc (first + core)) (nth (set t (first + core) w)) v j) ≡ every (may_tests P slot (first + core) (nth t) v j)
      may_other v j x = ap₂ (λ a b. every (P.opens (suc v) slot ∷ ltb 0 (P.rate (suc v) j) ∷ a ∷ ltb 0 (P.work (suc v) - b) ∷ [])) same_free same_done
        where
          same_free : free P (suc (first + core)) (nth (set t (first + core) w)) (suc v) ≡ free P (first + core) (nth t) (suc v)
          same_free = free_next (suc v) ∙ ap (λ b. free P (first + core) (nth t) (suc v) && not b) (ne_eqb w (suc v) (λ e. x (sym e))) ∙ and-true _

          same_done : done P (suc (first + core)) (nth (set t (first + core) w)) (suc v) (P.job (suc v) slot) ≡ done P (first + core) (nth t) (suc v) (P.job (suc v) slot)
          same_done = ap (λ c. done P c (nth (set t (first + core) w)) (suc v) (P.job (suc v) slot)) (sym (add-one (first + core))) ∙ done_put ef ls lc t w room (suc v) (P.job (suc v) slot)
              ∙ omega (arith, share_none P (suc v) (P.job (suc v) slot) (first + core) w (λ e _. x (sym e)))

      -- the task that stands there may not
      may_own : (v j : ℕ) → suc v ≡ w → every (may_tests P slot (suc (first + core)) (nth (set t (first + core) w)) v j) ≡ false
      may_own v j e = test_same _ _ (λ h. absurd (stands (every_holds (may_tests P slot (suc (first + core)) (nth (set t (first + core) w)) v j) h).1.1.0)) (λ h. absurd h)
        where
          stands : T (free P (suc (first + core)) (nth (set t (first + core) w)) (suc v)) → ⊥
          stands h = T_not (eqb w (suc v)) (both (free P (first + core) (nth t) (suc v)) (not (eqb w (suc v))) (rw (free_next (suc v)) at h)).1 (rw (eq-eqb w (suc v) (sym e)) tt)

    module _ (t : List ℕ) (room : first + core < length t) {sets : ℕ} (holds : Sets P slot core (first + core) (nth t) sets) where
      -- idle leaves the sets as they are
      pub sets_idle : Sets P slot (core + 1) (suc (first + core)) (nth (set t (first + core) 0)) sets
      sets_idle = record {
        may = λ v j lv lo hi. holds.may v j lv (omega arith) hi ∙ sym (may_other t 0 room (omega arith) v j (λ z. omega arith));
        only = holds.only;
      }

      -- a task goes out of them
      pub sets_put : (x : ℕ) → x < 16 → Sets P slot (core + 1) (suc (first + core)) (nth (set t (first + core) (x + 1))) (without sets x)
      sets_put x lx = record {
        may = λ v j lv lo hi. without_has sets x v j lx (omega (arith, small.few_cores)) ∙ elim (ℕ_discrete v x) [
          | yes q ↦ rw (eq-eqb v x q) (sym (may_own t (x + 1) room (omega arith) v j (omega arith)))
          | no y ↦ rw (ne_eqb v x y) (holds.may v j lv (omega arith) hi ∙ sym (may_other t (x + 1) room (omega arith) v j (λ z. y (omega arith))))
        ];
        only = λ v j h lj. without_has sets x v j lx (omega (arith, small.few_cores)) ∙ ap (λ b. not (eqb v x) && b) (holds.only v j h lj) ∙ and-false (not (eqb v x));
      }

  -- ---- the sets at the start of a slot
  pub sets_start : {first slot : ℕ} → first ≡ slot * P.cores → slot < P.slots → (t l : List ℕ) → Lefts P first (nth t) l → Sets P slot 0 first (nth t) (sets_on grid l slot)
  unfolding free
  sets_start {first} {slot} ef ls t l lefts = record {
    may = λ v j lv _ lj. sets_has grid l slot v j (rw ready.tasks lv) (omega (arith, small.few_cores))
        ∙ ap (λ b. ltb 0 (nth l (counter_on grid slot v)) && b) (ready.rated v j lv lj)
        ∙ is_able v j lv;
    only = λ v j h _. sets_none grid l slot v j (rw ready.tasks h);
  }
    where
      core_zero : core_of P first ≡ 0
      core_zero = ap (λ x. x % P.cores) ef ∙ mul-mod_left slot P.cores

      is_free : (i : ℕ) → free P first (nth t) i ≡ true
      is_free i = rw core_zero

      is_able : (v j : ℕ) → v < P.tasks → ltb 0 (nth l (counter_on grid slot v)) && ltb 0 (P.rate (suc v) j) ≡ every (may_tests P slot first (nth t) v j)
      is_able v j lv = test_same _ _
          (λ h. let p = both (ltb 0 (nth l (counter_on grid slot v))) (ltb 0 (P.rate (suc v) j)) h in test_cases (P.opens (suc v) slot)
          (λ o. holds_every (may_tests P slot first (nth t) v j) (o, (p.1, (rw (is_free (suc v)) tt, (rw (left_open ls lv first (nth t) l lefts o) at p.0, tt)))))
          (λ x. absurd (omega (arith, ltb→lt 0 (nth l (counter_on grid slot v)) p.0, lefts.none_closed, ap (nth l) (counter_closed ls lv x).0))))
          (λ h. let p = every_holds (may_tests P slot first (nth t) v j) h in
          make_both (ltb 0 (nth l (counter_on grid slot v))) (ltb 0 (P.rate (suc v) j)) (rw (left_open ls lv first (nth t) l lefts p.0) p.1.1.1.0) p.1.0)
