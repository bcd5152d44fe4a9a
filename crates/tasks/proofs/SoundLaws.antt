-- What a sound list has: its ranges, task by task, the length of its table, and jobs that are the table's.
-- Assumes nothing.
use Prim.Native.Nat.{ℕ, zero, suc, ◌/◌, ◌≤◌, ◌<◌, ◌∣◌}
use mathlib.Core.Path.{◌≡◌, refl, sym, ap, subst}
use mathlib.Core.Logic.{◌≢◌}
use mathlib.Core.Bool.{Bool, true, false, cond}
use mathlib.Core.List.{List}
use native.Mathlib.Omega.{arith}
use lib.Dec.{T, leb, ltb, leb→le, le→leb, eqb-suc-zero}
use lib.ListN.{length}
use borrow.Author.Tests.{le-ltb}
use Rattle.laws.specs.Lists.{nth}
use Rattle.laws.specs.Lcm.{IsLcms}
use Rattle.laws.proofs.ListLaws.{first_zero}
use Rattle.laws.proofs.TestLaws.{all_at}
use Rattle.laws.proofs.LcmLaws.{lcms_of_lem, lcms_divides, dvd_whole}
use Rattle.tasks.specs.declared.Rates.{Rates}
use Rattle.tasks.specs.declared.Task.{Task}
use Rattle.tasks.specs.Task.{rate, task}
use Rattle.tasks.specs.Refusal.{most_rate, period_at, within, unless, or_next, rates_fit, task_refusal, list_refusal, table_length, refusal, IsSound}
use Rattle.tasks.specs.Window.{Cyclic}
use Rattle.tasks.specs.Instance.{instance_of, own_instance, Regular}
use Rattle.tasks.proofs.WindowLaws.{both, job_lt}

-- ---- what no refusal says
-- a number that is in a range
pub within_is : (low high x : ℕ) → T (within low high x) → (low ≤ x) × (x ≤ high)
unfolding within
within_is low high x t = let p = (both (leb low x) (leb x high)).0 t in (leb→le low x p.0, leb→le x high p.1)

-- and the other way
pub is_within : (low high x : ℕ) → low ≤ x → x ≤ high → T (within low high x)
unfolding within
is_within low high x a b = (both (leb low x) (leb x high)).1 (le→leb low x a, le→leb x high b)

-- a test that did not refuse
unless_none : (b : Bool) (k next : ℕ) → 0 < k → unless b k next ≡ 0 → T b × (next ≡ 0)
unfolding unless
unless_none true k next l e = (tt, e)
unless_none false k next l e = absurd (omega arith)

-- two that did not
pub next_none : (x next : ℕ) → or_next x next ≡ 0 → (x ≡ 0) × (next ≡ 0)
unfolding or_next
next_none zero next e = (refl, e)
next_none (suc x) next e = absurd (omega (arith, ap (λ b. cond b next (suc x)) (eqb-suc-zero x), e))

-- a task whose numbers are all in range, on m cores
pub record InRange (m : ℕ) (τ : Task) : Type 0 where
  pub period_pos : 0 < τ.period.0
  pub period_le : τ.period.0 ≤ 1024
  pub deadline_pos : 0 < τ.deadline.0
  pub deadline_le : τ.deadline.0 ≤ τ.period.0
  pub work_pos : 0 < τ.work.0
  pub work_le : τ.work.0 ≤ 4096
  pub offset_le : τ.offset.0 ≤ 1023
  pub rate_le : (j : ℕ) → j < 4 → rate τ j ≤ 15
  pub rate_beyond : (j : ℕ) → m ≤ j → j < 4 → rate τ j ≡ 0

-- rates that fit, core by core
pub rates_at : (m : ℕ) (r : Rates) → T (rates_fit m r) → (j : ℕ) → j < 4 → nth r.0 j ≤ most_rate m j
unfolding rates_fit
rates_at m r t j l = leb→le _ _ (all_at 4 (λ j. leb (nth r.0 j) (most_rate m j)) t j l)

-- the most that a rate may be, on the board and beyond its last core
most_range : (m j x : ℕ) → x ≤ most_rate m j → (x ≤ 15) × (m ≤ j → x ≡ 0)
most_range m j x = go (ltb j m) (le-ltb j m)
  where
    go : (b : Bool) → (m ≤ j → b ≡ false) → x ≤ cond b 15 0 → (x ≤ 15) × (m ≤ j → x ≡ 0)
    go true e h = (h, λ k. absurd (subst T (e k) tt))
    go false e h = (omega arith, λ k. omega arith)

-- a task that is not refused is in range
pub task_range : (m : ℕ) (τ : Task) → task_refusal m τ ≡ 0 → InRange m τ
unfolding task_refusal
task_range m τ e =
    let a = unless_none _ _ _ (omega arith) e in
    let b = unless_none _ _ _ (omega arith) a.1 in
    let c = unless_none _ _ _ (omega arith) b.1 in
    let d = unless_none _ _ _ (omega arith) c.1 in
    let f = unless_none _ _ _ (omega arith) d.1 in
    record {
      period_pos = (within_is _ _ _ a.0).0;
      period_le = (within_is _ _ _ a.0).1;
      deadline_pos = (within_is _ _ _ b.0).0;
      deadline_le = (within_is _ _ _ b.0).1;
      work_pos = (within_is _ _ _ c.0).0;
      work_le = (within_is _ _ _ c.0).1;
      offset_le = (within_is _ _ _ d.0).1;
      rate_le = λ j l. (most_range m j _ (rates_at m _ f.0 j l)).0;
      rate_beyond = λ j k l. (most_range m j _ (rates_at m _ f.0 j l)).1 k;
    }

-- a period that divides a length makes windows that fit it
pub range_cyclic : {m : ℕ} {τ : Task} → InRange m τ → (L : ℕ) → 0 < L → τ.period.0 ∣ L → Cyclic L τ.deadline.0 τ.period.0 (L / τ.period.0)
range_cyclic {τ = τ} r L pos d = let h = dvd_whole τ.period.0 L d pos in
    record { some_jobs = h.1; some_slots = r.deadline_pos; fits = r.deadline_le; cycle = sym h.0 }

-- what a sound list has
pub record SoundList (m : ℕ) (ts : List Task) : Type 0 where
  pub some_task : 1 ≤ length ts
  pub few_tasks : length ts ≤ 16
  pub some_core : 1 ≤ m
  pub few_cores : m ≤ 4
  pub in_range : (i : ℕ) → i ≢ 0 → i ≤ length ts → InRange m (task ts i)
  pub some_slot : 0 < table_length ts
  pub few_slots : table_length ts ≤ 1024
  pub least : IsLcms (length ts) (period_at ts) (table_length ts)

-- tasks that are not refused are in range
pub list_range : (m : ℕ) (ts : List Task) → list_refusal m ts ≡ 0 → (i : ℕ) → i ≢ 0 → i ≤ length ts → InRange m (task ts i)
unfolding list_refusal
list_range m ts e zero x l = absurd (x refl)
list_range m ts e (suc k) x l = task_range m (task ts (suc k)) (first_zero (length ts) _ e k l)

-- a list is sound if none of 1 to 8 refuses it
pub sound_list : (m : ℕ) (ts : List Task) → IsSound m ts → SoundList m ts
unfolding refusal table_length
sound_list m ts e =
    let a = unless_none _ _ _ (omega arith) e in
    let b = unless_none _ _ _ (omega arith) a.1 in
    let c = next_none _ _ b.1 in
    let h = lcms_of_lem (length ts) (period_at ts) (λ k l. (list_range m ts c.0 (suc k) (omega arith) l).period_pos) in
    record {
      some_task = (within_is _ _ _ a.0).0;
      few_tasks = (within_is _ _ _ a.0).1;
      some_core = (within_is _ _ _ b.0).0;
      few_cores = (within_is _ _ _ b.0).1;
      in_range = list_range m ts c.0;
      some_slot = h.1;
      few_slots = leb→le _ 1024 (unless_none _ _ _ (omega arith) c.1).0;
      least = h.0;
    }

-- ---- tables of a sound list
-- L is not 0, and a multiple of each period
pub record Whole (L : ℕ) (ts : List Task) : Type 0 where
  pub some_slot : 0 < L
  pub multiple : (i : ℕ) → i ≢ 0 → i ≤ length ts → (task ts i).period.0 ∣ L

module _ {m : ℕ} {ts : List Task} (s : SoundList m ts) where
  -- the table's length is so
  pub length_whole : Whole (table_length ts) ts
  length_whole = record { some_slot = s.some_slot; multiple = divides }
    where
      divides : (i : ℕ) → i ≢ 0 → i ≤ length ts → (task ts i).period.0 ∣ table_length ts
      divides zero x l = absurd (x refl)
      divides (suc k) x l = lcms_divides (length ts) (period_at ts) (table_length ts) k s.least l

  -- the windows of each task fit a table of such a length
  pub sound_cyclic : {L : ℕ} → Whole L ts → (i : ℕ) → i ≢ 0 → i ≤ length ts
      → Cyclic L (task ts i).deadline.0 (task ts i).period.0 (L / (task ts i).period.0)
  sound_cyclic {L} w i x l = range_cyclic (s.in_range i x l) L w.some_slot (w.multiple i x l)

  -- and their jobs are the table's
  pub instance_regular : {L : ℕ} → Whole L ts → Regular (instance_of L m ts)
  unfolding instance_of
  instance_regular w = record {
    some_core = s.some_core;
    some_slot = w.some_slot;
    job_there = λ i t x l k. job_lt (sound_cyclic w i x l) (task ts i).offset.0 t;
  }

-- so the instance of a sound list is regular
pub own_regular : (m : ℕ) (ts : List Task) → IsSound m ts → Regular (own_instance m ts)
own_regular m ts sound = let s = sound_list m ts sound in instance_regular s (length_whole s)
