-- What it means that a cell or a job is faulty, and that a fault is the first: cells in table order, then jobs by task and job number.
-- Assumes nothing.
use Rattle.std.specs.Prelude.{ℕ, suc, ◌≤◌, ◌<◌, ◌≡◌, ◌≢◌, T}
use Rattle.tasks.specs.Instance.{Instance, job_slot}
use Rattle.table.specs.Table.{cells, slot_of, core_of, done}

-- 6.3: cell c has no fault: it is 0 or a task number; its task is open there, has a positive rate, and does not stand in this slot already
pub record Fine (P : Instance) (f : ℕ → ℕ) (c : ℕ) : Type 0 where
  pub known : f c ≤ P.tasks
  pub open_there : f c ≢ 0 → T (P.opens (f c) (slot_of P c))
  pub rated : f c ≢ 0 → 0 < P.rate (f c) (core_of P c)
  pub once : f c ≢ 0 → (d : ℕ) → d < c → slot_of P d ≡ slot_of P c → f d ≢ f c

-- 6.3: cell c has the fault of this kind, and none of a lower kind
pub data Wrong (P : Instance) (f : ℕ → ℕ) (c : ℕ) : ℕ → Type 0 where
  -- 1 unknown task number
  unknown : P.tasks < f c → Wrong P f c 1
  -- 2 task closed
  closed : f c ≢ 0 → f c ≤ P.tasks → (T (P.opens (f c) (slot_of P c)) → ⊥) → Wrong P f c 2
  -- 3 rate 0
  unrated : f c ≢ 0 → f c ≤ P.tasks → T (P.opens (f c) (slot_of P c)) → P.rate (f c) (core_of P c) ≡ 0 → Wrong P f c 3
  -- 4 already in this slot, in cell d
  twice : f c ≢ 0 → f c ≤ P.tasks → T (P.opens (f c) (slot_of P c)) → 0 < P.rate (f c) (core_of P c)
      → (d : ℕ) → d < c → slot_of P d ≡ slot_of P c → f d ≡ f c → Wrong P f c 4

-- 6.4: job k of task i has no fault: it is met
pub record Met (P : Instance) (f : ℕ → ℕ) (i k : ℕ) : Type 0 where
  -- its cells do at least C units
  pub full : P.work i ≤ done P (cells P) f i k
  -- and none of them stands where its earlier cells have already done C
  pub needed : (c : ℕ) → c < cells P → f c ≡ i → T (job_slot P i k (slot_of P c)) → done P c f i k < P.work i

-- 6.4: it has the fault of this kind
pub data WrongWork (P : Instance) (f : ℕ → ℕ) (i k : ℕ) : ℕ → Type 0 where
  -- 5 too little work
  too_little : done P (cells P) f i k < P.work i → WrongWork P f i k 5
  -- 6 a cell after the job was complete, cell c
  after_complete : (c : ℕ) → c < cells P → f c ≡ i → T (job_slot P i k (slot_of P c)) → P.work i ≤ done P c f i k → WrongWork P f i k 6

-- 6.2: the cell of slot s and core j, from 1, is the first faulty one, by this kind
pub record FirstCell (P : Instance) (f : ℕ → ℕ) (s j kind : ℕ) : Type 0 where
  pub cell : ℕ
  pub inside : cell < cells P
  pub slot_is : s ≡ slot_of P cell
  pub core_is : j ≡ suc (core_of P cell)
  pub is_wrong : Wrong P f cell kind
  pub fine_before : (d : ℕ) → d < cell → Fine P f d

-- 6.2: no cell is faulty, and job k of task i is the first faulty one, by this kind
pub record FirstJob (P : Instance) (f : ℕ → ℕ) (i k kind : ℕ) : Type 0 where
  pub cells_fine : (c : ℕ) → c < cells P → Fine P f c
  pub some_task : i ≢ 0
  pub task_in : i ≤ P.tasks
  pub job_in : k < P.jobs i
  pub is_wrong : WrongWork P f i k kind
  pub tasks_before : (j l : ℕ) → j ≢ 0 → j < i → l < P.jobs j → Met P f j l
  pub jobs_before : (l : ℕ) → l < k → Met P f i l
