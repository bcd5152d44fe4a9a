-- Demand 2, the player, over the calls' own contracts: a table that the checker accepts, played from its start with no slot missed, gives each job at least its work inside its own window and shows it nowhere else.
-- The statements come first, then their proofs.
-- Assumes nothing.
use Prim.Native.Nat.{ℕ, zero, suc, ◌+◌, ◌*◌, ◌-◌, ◌%◌, ◌^◌, ◌≤◌, ◌<◌, min}
use mathlib.Core.Path.{◌≡◌, refl, sym, ap, ap₂, subst, ◌∙◌}
use mathlib.Core.Logic.{◌≢◌, ◌↔◌, ⊎_elim}
use mathlib.Core.List.{List}
use native.Mathlib.Omega.{arith}
use native.Mathlib.Nat.{zero-add}
use lib.Dec.{eqb}
use lib.ListN.{length}
use Rattle.std.specs.Prelude.{None, Ok}
use Rattle.laws.specs.Sum.{gate, sum}
use Rattle.laws.specs.Lists.{nth}
use Rattle.laws.proofs.SumLaws.{sum_ext}
use Rattle.laws.proofs.ListLaws.{tab_at}
use Rattle.tasks.specs.declared.Task.{Task}
use Rattle.tasks.specs.Task.{rate, task}
use Rattle.tasks.specs.Refusal.{table_length, IsSound}
use Rattle.tasks.specs.Window.{InWindow}
use Rattle.tasks.specs.Instance.{instance_of, own_instance}
use Rattle.tasks.proofs.SoundLaws.{SoundList, sound_list}
use Rattle.table.specs.Table.{cells, Valid}
use Rattle.table.specs.Fault.{no_fault, in_cell, in_job, Checked, refused, checked, check}
use Rattle.checker.proofs.Calls.{Checks}
use Rattle.checker.proofs.Demand2.{tells}
use Rattle.clock.specs.Clock.{Answered, elapsed_at, time_after}
use Rattle.clock.proofs.ClockLaws.{tick_after, tick_after_is}
use Rattle.player.specs.declared.Player.{Player}
use Rattle.player.specs.Player.{cells_of, stepped, after_step, check_refusal, start_refusal, record_of, first_shown, started, after_start}
use Rattle.player.specs.Played.{shown_as, shown_at, units_in}
use Rattle.player.proofs.PlayLaws.{plays_work, plays_open, plays_rated, plays_once}
use Rattle.player.proofs.RecordLaws.{IsUnspoilt, moved, moved_none, moved_step, moved_answer, made_unspoilt, made_cells}
use Rattle.player.proofs.Calls.{Start, Step}

-- ---- statements
-- a run: a start for the tasks ts over the record p at the first tick, and n calls of `step`, each at the next tick on the record that the call before it left
pub record Run (ts : List Task) (m : ℕ) (t : List ℕ) (p : Player) (tick : ℕ → ℕ) (n : ℕ) (shown : ℕ → Answered) (left : ℕ → Player) : Type 0 where
  -- a tick has 32 bits
  pub ticks : (s : ℕ) → s ≤ n → tick s < 2 ^ 32
  pub starts : Start p ts m t (tick 0) (shown 0) (left 0)
  pub steps : (s : ℕ) → s < n → Step (left s) (tick (suc s)) (shown (suc s)) (left (suc s))

-- a table played with any elapsed numbers
pub record Keeps (m : ℕ) (ts : List Task) (t : List ℕ) (tick : ℕ → ℕ) (n : ℕ) (shown : ℕ → Answered) (left : ℕ → Player) : Type 0 where
  -- the start and each step are accepted
  pub accepted : (s : ℕ) → s ≤ n → (shown s).verdict ≡ 0
  -- the position is the sum of the elapsed numbers modulo H
  pub position_is : (s : ℕ) → s ≤ n → (left s).position ≡ time_after tick s % table_length ts
  -- the age is their sum, but not past 1024
  pub age_is : (s : ℕ) → s ≤ n → (left s).age ≡ min (time_after tick s) 1024
  -- the four cells are those of the time that has passed
  pub shows : (s : ℕ) → s ≤ n → (shown s).cells ≡ shown_at m ts t (time_after tick s)
  -- the start misses no slot
  pub first_missed : (shown 0).missed ≡ 0
  -- and a step of elapsed number e misses e - 1
  pub misses : (s : ℕ) → s < n → (shown (suc s)).missed ≡ elapsed_at tick s - 1

-- a table played for n steps with every elapsed number 1
pub record Plays (m : ℕ) (ts : List Task) (t : List ℕ) (n : ℕ) (shown : ℕ → Answered) : Type 0 where
  -- the start and each step are accepted
  pub accepted : (s : ℕ) → s ≤ n → (shown s).verdict ≡ 0
  -- no slot is missed
  pub none_missed : (s : ℕ) → s ≤ n → (shown s).missed ≡ 0
  -- at each time the four cells are those of the table's slot, shown as the time tells
  pub shows : (s : ℕ) → s ≤ n → (shown s).cells ≡ shown_at m ts t s
  -- the rates of a task's shown cells in its window K, at times O + K * T to O + K * T + D - 1, add up to at least C, once these have passed
  pub works : (i K : ℕ) → i ≢ 0 → i ≤ length ts → (task ts i).offset.0 + (K * (task ts i).period.0 + (task ts i).deadline.0) ≤ suc n
      → (task ts i).work.0 ≤ sum (task ts i).deadline.0 (λ u. units_in ts i (shown ((task ts i).offset.0 + (K * (task ts i).period.0 + u))).cells)
  -- a task is shown in its windows only
  pub inside : (i s j : ℕ) → i ≢ 0 → i ≤ length ts → s ≤ n → j < 4 → nth (shown s).cells j ≡ i
      → (K : ℕ) × InWindow (task ts i).offset.0 (task ts i).deadline.0 (task ts i).period.0 K s
  -- never on a core of rate 0
  pub rated : (i s j : ℕ) → i ≢ 0 → i ≤ length ts → s ≤ n → j < 4 → nth (shown s).cells j ≡ i → 0 < rate (task ts i) j
  -- never twice in a slot
  pub once : (i s j j' : ℕ) → i ≢ 0 → i ≤ length ts → s ≤ n → j < 4 → j' < 4 → j ≢ j' → nth (shown s).cells j ≡ i → nth (shown s).cells j' ≡ i → ⊥

-- ---- proofs
module _ (ts : List Task) (m : ℕ) (t : List ℕ) (p : Player) (tick : ℕ → ℕ) (n : ℕ) (shown : ℕ → Answered) (left : ℕ → Player)
    (valid : Checks ts m t (Ok None)) (run : Run ts m t p tick n shown left) where
  abbrev made : Player
  made = record_of m ts t (tick 0)

  -- the checker finds no fault
  faultless : check m ts t ≡ checked no_fault
  faultless = sym valid

  -- so the list is sound, and the table is long enough and meets C1 to C4
  met : IsSound m ts × (cells (own_instance m ts) ≤ length t) × Valid (own_instance m ts) (nth t)
  met = (tells m ts t).valid_exact.0 faultless

  sl : SoundList m ts
  sl = sound_list m ts met.0

  unspoilt : IsUnspoilt made
  unspoilt = made_unspoilt sl t (tick 0)

  -- the table is accepted
  taken : start_refusal m ts t ≡ 0
  taken = rw faultless

  made_now : moved made 0 ≡ made
  unfolding record_of
  made_now = moved_none made unspoilt (run.ticks 0 (omega arith))

  -- so the start makes its record
  start_made : left 0 ≡ made
  unfolding after_start
  start_made = run.starts.1 ∙ rw taken

  -- and answers for slot 0
  start_shown : shown 0 ≡ record { verdict = 0; cells = cells_of (moved made 0); missed = 0 }
  unfolding started
  start_shown = run.starts.0 ∙ rw (taken, made_now)

  -- the cells of a time
  cells_at : (s : ℕ) → cells_of (moved made s) ≡ shown_at m ts t s
  unfolding instance_of
  cells_at = made_cells sl t (tick 0) met.2.known

  -- the tick of a step
  next_tick : (s : ℕ) → s < n → tick (suc s) ≡ tick_after (moved made (time_after tick s)).last (elapsed_at tick s)
  unfolding record_of sum
  next_tick s l = tick_after_is tick n run.ticks (suc s) l ∙ omega arith

  module _ (in-time : (s : ℕ) → s < n → elapsed_at tick s < 2 ^ 31) where
    -- each step moves the record on
    left_at : (s : ℕ) → s ≤ n → left s ≡ moved made (time_after tick s)
    unfolding sum
    left_at zero l = start_made ∙ sym made_now
    left_at (suc s) l = (run.steps s l).1 ∙ ap₂ after_step (left_at s (omega arith)) (next_tick s l) ∙ moved_step made unspoilt (time_after tick s) (elapsed_at tick s) (in-time s l)

    -- and answers for its time
    shown_at_lem : (s : ℕ) → s < n → shown (suc s) ≡ record { verdict = 0; cells = cells_of (moved made (time_after tick (suc s))); missed = elapsed_at tick s - 1 }
    unfolding sum
    shown_at_lem s l = (run.steps s l).0 ∙ ap₂ stepped (left_at s (omega arith)) (next_tick s l) ∙ moved_answer made unspoilt (time_after tick s) (elapsed_at tick s) (in-time s l)

    accepted : (s : ℕ) → s ≤ n → (shown s).verdict ≡ 0
    accepted zero l = ap (λ a. a.verdict) start_shown
    accepted (suc s) l = ap (λ a. a.verdict) (shown_at_lem s l)

    shows : (s : ℕ) → s ≤ n → (shown s).cells ≡ shown_at m ts t (time_after tick s)
    unfolding sum
    shows zero l = ap (λ a. a.cells) start_shown ∙ cells_at 0
    shows (suc s) l = ap (λ a. a.cells) (shown_at_lem s l) ∙ cells_at (time_after tick (suc s))

    -- missed slots are passed over
    pub keeps : Keeps m ts t tick n shown left
    unfolding record_of
    keeps = record {
      accepted = accepted;
      position_is = λ s l. ap (λ q. q.position) (left_at s l) ∙ ap (λ x. x % table_length ts) (zero-add (time_after tick s));
      age_is = λ s l. ap (λ q. q.age) (left_at s l) ∙ ap (λ x. min x 1024) (zero-add (time_after tick s));
      shows = shows;
      first_missed = ap (λ a. a.missed) start_shown;
      misses = λ s l. ap (λ a. a.missed) (shown_at_lem s l);
    }

  module _ (each : (s : ℕ) → s < n → elapsed_at tick s ≡ 1) where
    all_kept : Keeps m ts t tick n shown left
    all_kept = keeps (λ s l. omega (arith, each s l))

    -- the time is the number of steps
    time_is : (s : ℕ) → s ≤ n → time_after tick s ≡ s
    unfolding sum
    time_is zero l = refl
    time_is (suc s) l = omega (arith, time_is s (omega arith), each s l)

    shows_at : (s : ℕ) → s ≤ n → (shown s).cells ≡ shown_at m ts t s
    shows_at s l = all_kept.shows s l ∙ ap (shown_at m ts t) (time_is s l)

    missed_none : (s : ℕ) → s ≤ n → (shown s).missed ≡ 0
    missed_none zero l = all_kept.first_missed
    missed_none (suc s) l = all_kept.misses s l ∙ omega (arith, each s l)

    -- core by core
    cell_at : (s j : ℕ) → s ≤ n → j < 4 → nth (shown s).cells j ≡ shown_as m ts s j (nth t (s % table_length ts * m + j))
    cell_at s j l h = ap (λ c. nth c j) (shows_at s l) ∙ tab_at 4 _ j 0 h

    -- the table is played as RULES 7.11 demands
    pub plays : Plays m ts t n shown
    plays = record {
      accepted = all_kept.accepted;
      none_missed = missed_none;
      shows = shows_at;
      works = λ i K x l w. subst (◌≤◌ (task ts i).work.0)
          (sym (sum_ext (task ts i).deadline.0 _ _ (λ u v. sum_ext 4 _ _ (λ j h. ap (λ c. gate (eqb c i) (rate (task ts i) j)) (cell_at _ j (omega (arith, v, w)) h)))))
          (plays_work sl (nth t) met.2 i x l K);
      inside = λ i s j x l k h e. plays_open sl (nth t) met.2 i x l s j (sym (cell_at s j k h) ∙ e);
      rated = λ i s j x l k h e. plays_rated sl (nth t) met.2 i x l s j (sym (cell_at s j k h) ∙ e);
      once = λ i s j j' x l k h h' y e e'. plays_once sl (nth t) met.2 i x l s j (sym (cell_at s j k h) ∙ e) j' y (sym (cell_at s j' k h') ∙ e');
    }

-- ---- ticks
-- the board's counter, from any tick on and across its wrap: every elapsed number is 1
pub counts : (τ s : ℕ) → elapsed_at (tick_after τ) s ≡ 1
counts τ s = omega arith

-- ---- acceptance
-- if no refusal is 0, then 0 is that there is no fault
none_wrong : (x : Checked) → ((r : ℕ) → x ≡ refused r → r ≢ 0) → check_refusal x ≡ 0 → x ≡ checked no_fault
none_wrong (refused r) some e = absurd (some r refl e)
none_wrong (checked no_fault) some e = refl
none_wrong (checked (in_cell s j kind)) some e = absurd (omega arith)
none_wrong (checked (in_job i k kind)) some e = absurd (omega arith)

-- and no refusal of the checker is 0
some_refused : (m : ℕ) (ts : List Task) (t : List ℕ) (r : ℕ) → check m ts t ≡ refused r → r ≢ 0
some_refused m ts t r e = ⊎_elim (λ x. x.1) (λ x z. omega (arith, x.0, z)) (((tells m ts t).refuses_exact r).0 e)

-- a start's verdict is its refusal
first_verdict : (p : Player) (r : ℕ) → (first_shown p r).verdict ≡ r
first_verdict p zero = refl
first_verdict p (suc r) = refl

module _ (ts : List Task) (m : ℕ) (t : List ℕ) (p q : Player) (τ : ℕ) (r : Answered) (call : Start p ts m t τ r q) where
  pub start_verdict : r.verdict ≡ start_refusal m ts t
  unfolding started
  start_verdict = ap (λ a. a.verdict) call.0 ∙ first_verdict _ _

  -- so a start is accepted exactly if the checker finds the table valid
  pub accepts : (r.verdict ≡ 0) ↔ Checks ts m t (Ok None)
  accepts = (λ z. sym (none_wrong (check m ts t) (some_refused m ts t) (sym start_verdict ∙ z)), λ x. start_verdict ∙ ap check_refusal (sym x))
