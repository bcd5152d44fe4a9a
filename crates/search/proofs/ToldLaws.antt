-- What the search tells: the walk on the filled arrays is the engine's under the limit, with the tries counted from where the limit leaves as many.
-- Assumes nothing.
use Prim.Native.Nat.{ℕ, zero, suc, ◌+◌, ◌*◌, ◌-◌, ◌/◌, ◌≤◌, ◌<◌}
use native.Mathlib.Omega.{arith}
use native.Mathlib.Nat.{zero-mul, mul-pos, div-le_self}
use mathlib.Core.Path.{◌≡◌, refl, sym, ap, ap₂, subst, subst₂, ◌∙◌}
use mathlib.Core.Logic.{◌≢◌, ⊎_elim}
use mathlib.Core.Bool.{Bool, true, false}
use mathlib.Core.List.{List}
use lib.Dec.{leb}
use borrow.Author.Tests.{le-leb, lt-leb}
use lib.ListN.{length, take, replicate, length-replicate, get_or-replicate}
use Rattle.laws.specs.Sum.{sum}
use Rattle.laws.specs.Lists.{nth, over}
use Rattle.laws.proofs.SumLaws.{lt_or_ge}
use Rattle.tasks.specs.declared.Task.{Task}
use Rattle.tasks.specs.Task.{task}
use Rattle.tasks.specs.Refusal.{IsSound, table_length}
use Rattle.tasks.specs.Instance.{instance_of, own_instance}
use Rattle.tasks.proofs.SoundLaws.{SoundList, sound_list}
use Rattle.table.specs.Table.{done}
use Rattle.rules.specs.Walk as walks
use Rattle.rules.specs.Walk.{Result, tries, spend, ended, cap, limited}
use Rattle.rules.specs.Search.{walked, search_told}
use Rattle.grid.specs.declared.Grid.{Grid}
use Rattle.grid.specs.Grid.{cores_on, sets_on}
use Rattle.grid.specs.GridFor.{counter_of, GridFor, Lefts}
use Rattle.walk.specs.declared.End.{End}
use Rattle.walk.specs.declared.End.TheVariants.{Found, NoneFound, Stopped}
use Rattle.walk.specs.declared.Walked.{Walked}
use Rattle.walk.specs.Machine.{State, walk_on, first_on, cells_left as cells_after, full, Ran}
use Rattle.walk.proofs.RefineLaws.{told_at, Shows, shows_same, walk_limited}
use Rattle.fill.specs.Grid.{empty_grid, grid_of}
use Rattle.fill.proofs.FillLaws.{rows_length, rows_at, rows_behind}
use Rattle.fill.proofs.GridLaws.{instance_small, filled_ready}
use Rattle.search.specs.declared.Outcome.{Outcome}
use Rattle.search.specs.declared.Answer.{Answer}
use Rattle.search.specs.Told.{left_in, left_of, ListWalked, outcome_of, cells_handed, walk_told, ended_as}
use Rattle.search.proofs.AnswerLaws.{few_cells}

-- ---- tries counted from u on
-- the tries of an answer
abbrev used : walks.Outcome → ℕ
used (ended r) = tries r
used (walks.stopped k) = k

-- an answer with u tries less
abbrev less : ℕ → walks.Outcome → walks.Outcome
less u (ended (walks.found s k)) = ended (walks.found s (k - u))
less u (ended (walks.none k)) = ended (walks.none (k - u))
less u (walks.stopped k) = walks.stopped (k - u)

-- u tries more
spend_tries : (u : ℕ) (r : Result) → tries (spend u r) ≡ u + tries r
spend_tries u (walks.found s k) = refl
spend_tries u (walks.none k) = refl

-- and u less
spend_less : (u : ℕ) (r : Result) → less u (ended (spend u r)) ≡ ended r
spend_less u (walks.found s k) = ap (λ k. ended (walks.found s k)) (omega arith)
spend_less u (walks.none k) = ap (λ k. ended (walks.none k)) (omega arith)

-- a limit u higher
module _ (u b : ℕ) (r : Result) where
  -- leaves u tries at least
  limited_used : u ≤ used (limited (u + b) (spend u r))
  limited_used = go (leb (tries (spend u r)) (u + b))
    where
      go : (c : Bool) → u ≤ used (cap c (u + b) (spend u r))
      go true = omega (arith, spend_tries u r)
      go false = omega arith

  -- lets the same results through
  same_cap : leb (tries (spend u r)) (u + b) ≡ leb (tries r) b
  same_cap = ap (λ k. leb k (u + b)) (spend_tries u r)
      ∙ ⊎_elim
      (λ h. lt-leb (u + tries r) (u + b) (omega arith) ∙ sym (lt-leb (tries r) b h))
      (λ h. le-leb (u + tries r) (u + b) (omega arith) ∙ sym (le-leb (tries r) b h))
      (lt_or_ge b (tries r))

  -- and so answers the same with u tries more
  limited_less : less u (limited (u + b) (spend u r)) ≡ limited b r
  limited_less = ap (λ c. less u (cap c (u + b) (spend u r))) same_cap ∙ go (leb (tries r) b)
    where
      go : (c : Bool) → less u (cap c (u + b) (spend u r)) ≡ cap c b r
      go true = spend_less u r
      go false = ap walks.stopped (omega arith)

-- ---- how the walk ends
-- the tries of what an end tells
told_used : (e : End) (n c : ℕ) (t : List ℕ) (k : ℕ) → used (told_at e n c t k) ≡ k
unfolding told_at
told_used Found n c t k = refl
told_used NoneFound n c t k = refl
told_used Stopped n c t k = refl

-- the answer of a walk that ends so with k tries, counted from u on
abbrev answer_of : End → ℕ → ℕ → Answer
answer_of e k u = record { outcome = outcome_of e; tries = k - u }

-- the answer and the buffer are those of what an end tells, with u tries less
told_end : (e : End) (n u k : ℕ) (t buffer : List ℕ)
    → ended_as (answer_of e k u) (over (cells_handed (outcome_of e) n t) buffer) ≡ search_told n buffer (less u (told_at e n 0 t k))
unfolding search_told told_at cells_handed
told_end NoneFound n u k t buffer = refl
told_end Found n u k t buffer =
    let whole : n ≡ n - 0 = omega arith in
    λ i. record { verdict = 0; tries = k - u; buffer = over (take (whole i) t) buffer }
told_end Stopped n u k t buffer = refl

-- ---- the counters
-- as many as the array has
left_length : (ts : List Task) → length (left_of ts) ≡ 16385
unfolding left_of
left_length ts = rows_length 16 (length ts) (λ job v. (task ts (suc v)).work.0) (replicate 16385 0) 1024 ∙ length-replicate {A = ℕ} 16385 0

module _ {m : ℕ} {ts : List Task} (s : SoundList m ts) where
  -- the counters hold each job's whole work
  lefts_start : (t : List ℕ) → Lefts (own_instance m ts) 0 (nth t) (left_of ts)
  unfolding left_of instance_of done sum
  lefts_start t = record {
    counters = counters;
    none_closed = rows_behind 16 (length ts) (λ job v. (task ts (suc v)).work.0) (replicate 16385 0) 1024 16384 (omega arith) s.few_tasks
        ∙ get_or-replicate {A = ℕ} 16385 16384 0 0 (omega arith);
  }
    where
      counters : (i k : ℕ) → i ≢ 0 → i ≤ length ts → k < table_length ts / (task ts i).period.0
          → nth (left_in ts 1024 (replicate 16385 0)) (counter_of i k) ≡ (task ts i).work.0 - 0
      counters zero k x l h = absurd (x refl)
      counters (suc v) k x l h =
          let few : k < 1024 = omega (arith, div-le_self (table_length ts) (task ts (suc v)).period.0, s.few_slots) in
          rows_at 16 (length ts) (λ job v. (task ts (suc v)).work.0) (replicate 16385 0) 1024 k v few l s.few_tasks
          (rw (length-replicate {A = ℕ} 16385 0) (omega arith)) ∙ omega arith

-- ---- a walk over the filled arrays
pub filled_walks : (ts : List Task) (m e L u : ℕ) (t : List ℕ) (r : Walked) (t' : List ℕ) (grid : Grid) (left l : List ℕ) → grid ≡ grid_of ts m e L empty_grid
    → left ≡ left_in ts 1024 (replicate 16385 0) → Ran grid 0 0 (sets_on grid left 0) t left u r.end t' l r.tries → ListWalked ts m e L u t r t'
unfolding left_of
filled_walks ts m e L u t r t' grid left l eg el ran =
    record { left = l; ran = subst₂ (λ grid left. Ran grid 0 0 (sets_on grid left 0) t left u r.end t' l r.tries) eg el ran }

-- ---- the walk on the filled arrays, from as many tries as leave b
module _ (m : ℕ) (ts : List Task) (e b L : ℕ) (sound : IsSound m ts) (eL : L ≡ table_length ts) (lb : b < 4294967296) where
  -- what the list has
  sound_parts : SoundList m ts
  sound_parts = sound_list m ts sound

  -- its grid
  grid : Grid
  grid = grid_of ts m e L empty_grid

  -- its cells are the table's
  few : L * m ≤ 4096
  few = few_cells m ts L sound eL

  -- the grid is the instance's
  ready : GridFor (own_instance m ts) e grid
  unfolding grid
  ready = filled_ready m ts e L sound eL grid refl

  -- and the walk goes over its cells
  size : suc (cells_after grid 0 0) ≡ table_length ts * m
  unfolding instance_of
  size = omega (arith, ap₂ (λ a b. a * b) ready.slots ready.cores, zero-mul (cores_on grid), mul-pos sound_parts.some_slot sound_parts.some_core)

  -- where it ends
  abbrev end : State
  end = walk_on (suc (cells_after grid 0 0)) grid full (first_on grid 0) 0 0 (sets_on grid (left_of ts) 0) (replicate 4096 0) (left_of ts) (full - b)

  -- what it tells there
  shows : Shows full (table_length ts * m) 0 (replicate 4096 0) end (limited (full - b + b) (spend (full - b) (walked e (own_instance m ts))))
  unfolding instance_of
  shows = shows_same (ap₂ (λ k first. walk_on k grid full first 0 0 (sets_on grid (left_of ts) 0) (replicate 4096 0) (left_of ts) (full - b)) size (zero-mul (cores_on grid)))
      (ap (λ k. limited k (spend (full - b) (walked e (own_instance m ts)))) (omega arith))
      (walk_limited (instance_small sound_parts) e full grid ready (replicate 4096 0) (left_of ts) (lefts_start sound_parts (replicate 4096 0))
      (rw (length-replicate {A = ℕ} 4096 0) (omega (arith, few, ap (λ n. n * m) eL)))
      (left_length ts)
      (full - b) (omega arith))

  module _ (r : Walked) (t : List ℕ) (walk : ListWalked ts m e L (full - b) (replicate 4096 0) r t) where
    -- it has counted up from there
    pub counted_up : full - b ≤ r.tries
    unfolding grid
    counted_up = omega (arith, walk.ran.leaves.tries, more)
      where
        more : full - b ≤ end.tries
        more = subst (λ k. full - b ≤ k) (ap used (sym shows.answer) ∙ told_used end.end _ 0 end.table end.tries)
            (limited_used (full - b) b (walked e (own_instance m ts)))

    -- it tells what the engine's walk does under the limit
    pub walk_told_lem : (buffer buffer' : List ℕ) (n : ℕ) (x : Outcome) → n ≡ L * m → x ≡ outcome_of r.end → buffer' ≡ over (cells_handed x n t) buffer
        → ended_as (record { outcome = x; tries = r.tries - (full - b) }) buffer' ≡ walk_told m ts e b buffer
    unfolding walk_told instance_of grid
    walk_told_lem buffer buffer' n x en ex e' =
        let leaves = walk.ran.leaves in
        let ends = ex ∙ ap outcome_of leaves.end in
        let cells = en ∙ ap (λ n. n * m) eL in
        ap₂ ended_as (λ i. record { outcome = ends i; tries = leaves.tries i - (full - b) })
        (e' ∙ (λ i. over (cells_handed (ends i) (cells i) (leaves.table i)) buffer))
        ∙ told_end end.end (table_length ts * m) (full - b) end.tries end.table buffer
        ∙ ap (λ a. search_told (table_length ts * m) buffer (less (full - b) a)) shows.answer
        ∙ ap (search_told (table_length ts * m) buffer) (limited_less (full - b) b (walked e (own_instance m ts)))
