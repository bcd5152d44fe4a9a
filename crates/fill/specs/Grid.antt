-- What stands on the grid of a list.
-- Assumes nothing.
use Rattle.std.specs.Prelude.{ℕ, zero, suc, ◌+◌, ◌*◌, ◌/◌, ◌%◌, Bool, false, cond, ◌&&◌, List, [], ◌∷◌, ltb, eqb, length, replicate}
use Rattle.laws.specs.Sum.{gate}
use Rattle.laws.specs.Tests.{all, imp}
use Rattle.laws.specs.Lists.{nth, tab, seek, filled}
use Rattle.tasks.specs.declared.Rates.{Rates}
use Rattle.tasks.specs.declared.Task.{Task}
use Rattle.tasks.specs.Task.{task, rate}
use Rattle.tasks.specs.Window.{is_open, job_at, last_slot}
use Rattle.sets.specs.Sets.{pushed}
use Rattle.grid.specs.declared.Grid.{Grid}
use Rattle.grid.specs.GridFor.{counter_of, closed_counter, is_quick}

-- the entry of a task, of number i, in slot t
unfoldable pub entry_for : ℕ → Task → ℕ → ℕ → ℕ
entry_for L τ i t =
    cond (is_open L τ.offset.0 τ.deadline.0 τ.period.0 t)
    (2 * counter_of i (job_at L τ.offset.0 τ.period.0 t)
    + gate (eqb (last_slot L τ.offset.0 τ.deadline.0 τ.period.0 (job_at L τ.offset.0 τ.period.0 t)) t) 1)
    (2 * closed_counter)

-- s with k rows of n numbers each stored in it, row t from place t * w on
unfoldable pub in_rows : ℕ → ℕ → (ℕ → ℕ → ℕ) → ℕ → List ℕ → List ℕ
in_rows w n g zero s = s
in_rows w n g (suc t) s = filled (in_rows w n g t s) (t * w) n (g t)

-- the entry of the task at place v, from 0, in slot t
abbrev pub entry_in : List Task → ℕ → ℕ → ℕ → ℕ
entry_in ts L t v = entry_for L (task ts (suc v)) (suc v) t

-- what stands at place v of slot t: the entry of the task there, 0 where the list has none
unfoldable pub entry_at : List Task → ℕ → ℕ → ℕ → ℕ
entry_at ts L t v = cond (ltb v (length ts)) (entry_in ts L t v) 0

-- s with the entries of L slots, sixteen places a slot
abbrev pub entries_of : List Task → ℕ → List ℕ → List ℕ
entries_of ts L = in_rows 16 16 (entry_at ts L) L

-- the first task whose job has its highest-numbered slot in this slot, by its entry; n if there is none
unfoldable pub end_mark : List ℕ → ℕ → ℕ → ℕ
end_mark entries n t = seek n (λ v. nth entries (t * 16 + v) % 2)

-- the rate of the task at place v, from 0, on a core
abbrev pub rate_in : List Task → ℕ → ℕ → ℕ
rate_in ts v = rate (task ts (suc v))

-- the rates, four places a task
abbrev pub rates_of : List Task → List ℕ
rates_of ts = in_rows 4 4 (rate_in ts) (length ts) (replicate 64 0)

-- two rates are equal, if both are positive
unfoldable pub even_pair : ℕ → ℕ → Bool
even_pair x y = imp (ltb 0 x) (imp (ltb 0 y) (eqb x y))

-- all positive rates of a task are equal
unfoldable pub even_row : Rates → Bool
even_row r = all 4 (λ a. all 4 (λ b. even_pair (nth r.0 a) (nth r.0 b)))

-- the sets whose task v is on the cores, as bits, that a rule gives of it
unfoldable pub sets_by : (Task → ℕ) → List Task → ℕ
sets_by bits [] = 0
sets_by bits (τ ∷ ts) = pushed (sets_by bits ts) (bits τ)

-- 1 if a test that the quick engine alone makes passes
unfoldable pub quick_bit : ℕ → Bool → ℕ
quick_bit e b = gate (is_quick e && b) 1

-- rule A's set: for the quick engine the tasks whose positive rates are equal, on core 0 alone
abbrev pub evens_of : ℕ → List Task → ℕ
evens_of e = sets_by (λ τ. quick_bit e (even_row τ.rates))

-- 1 if a rate is positive
unfoldable pub rated_bit : ℕ → ℕ
rated_bit rate = gate (ltb 0 rate) 1

-- the cores, as bits, on which the rate of a task is positive
unfoldable pub rated_row : Rates → ℕ
rated_row r = rated_bit (nth r.0 0) + 2 * rated_bit (nth r.0 1) + 4 * rated_bit (nth r.0 2) + 8 * rated_bit (nth r.0 3)

-- the sets of the tasks whose rate on a core is positive
abbrev pub rated_of : List Task → ℕ
rated_of = sets_by (λ τ. rated_row τ.rates)

-- two cores have equal rates for every task
unfoldable pub cores_twin : List Task → ℕ → ℕ → Bool
cores_twin ts a b = all (length ts) (λ v. eqb (rate_in ts v a) (rate_in ts v b))

-- rule B's marks, at c * 4 + j: for the quick engine cores j and c are twins
unfoldable pub twins_of : ℕ → List Task → List Bool
twins_of e ts = tab 16 (λ x. is_quick e && cores_twin ts (x % 4) (x / 4))

-- a grid on which nothing stands yet
unfoldable pub empty_grid : Grid
empty_grid = record {
  entries = replicate 16384 0;
  ends = replicate 1024 0;
  rates = replicate 64 0;
  even = 0;
  rated = 0;
  twins = replicate 16 false;
  tasks = 0;
  cores = 0;
  slots = 0;
}

-- the grid for a list on m cores in L slots, by engine e, filled where g stands
unfoldable pub grid_of : List Task → ℕ → ℕ → ℕ → Grid → Grid
grid_of ts m e L g =
    let entries : List ℕ = entries_of ts L g.entries in
    record {
      entries = entries;
      ends = filled g.ends 0 L (end_mark entries (length ts));
      rates = rates_of ts;
      even = evens_of e ts;
      rated = rated_of ts;
      twins = twins_of e ts;
      tasks = length ts;
      cores = m;
      slots = L;
    }
