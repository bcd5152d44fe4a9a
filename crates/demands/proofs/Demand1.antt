-- Demand 1 over the calls' own contracts: each refusal comes exactly when the order of RULES 5.7 gives it, and leaves the caller's memory as it was. The statements come first, then their proofs.
-- Assumes nothing.
use Prim.Native.Nat.{ℕ, zero, suc, ◌^◌, ◌≤◌, ◌<◌}
use native.Mathlib.Decide.{ℕ_discrete}
use native.Mathlib.Nat.{mul-le-mul}
use native.Mathlib.Omega.{arith}
use mathlib.Core.Path.{◌≡◌, refl, sym, ap, subst, subst₂, ◌∙◌}
use mathlib.Core.Logic.{◌≢◌, ◌↔◌, ◌⊎◌, inl, inr, ⊎_elim}
use mathlib.Core.Bool.{Bool, true, false}
use mathlib.Core.List.{List, [], ◌∷◌, ◌++◌}
use lib.Dec.{T, leb, leb→le, le→leb}
use lib.ListN.{length, replicate, length-replicate}
use borrow.Author.Tests.{le-leb, lt-leb, ne_eqb}
use Rattle.laws.specs.Sum.{gate}
use Rattle.laws.specs.Lists.{nth, over, seek}
use Rattle.laws.proofs.SumLaws.{gate_lt, gate_ge, lt_or_ge}
use Rattle.laws.proofs.ListLaws.{first_is, first_none, first_zero, seek_before}
use Rattle.laws.proofs.TestLaws.{all_fails}
use Rattle.std.specs.Prelude.{Option, Result}
use Rattle.tasks.specs.declared.Task.{Task}
use Rattle.tasks.specs.declared.Refusal.{Refusal}
use Rattle.tasks.specs.Task.{rate, task}
use Rattle.tasks.specs.Refusal.{within, unless, or_next, most_rate, rates_fit, task_refusal, list_refusal, table_length, refusal, IsSound}
use Rattle.tasks.specs.Instance.{instance_of, own_instance}
use Rattle.tasks.proofs.SoundLaws.{within_is, is_within, rates_at, sound_list, own_regular}
use Rattle.tasks.proofs.AnswerLaws.{unless_yes, unless_no, rates_under, or_first, or_next_lem}
use Rattle.table.specs.Table.{cells, Valid}
use Rattle.table.specs.Fault.{Fault, no_fault, in_cell, in_job, fault, Checked, refused}
use Rattle.rules.specs.Search.{Searched, search_refusal}
use Rattle.rules.proofs.Told.{refused_told}
use Rattle.rules.proofs.Demand2.{searches}
use Rattle.search.specs.declared.Answer.{Answer}
use Rattle.search.specs.Told.{searched_as}
use Rattle.search.proofs.Calls.{Search}
use Rattle.checker.specs.declared.Fault.{Fault as FaultTold}
use Rattle.checker.specs.Told.{checked_as}
use Rattle.checker.proofs.TellLaws.{check_refused, check_short, check_long}
use Rattle.checker.proofs.Calls.{Checks}
use Rattle.checker.proofs.Demand2.{names, answer_tells}
use Rattle.clock.specs.Clock.{Worked, Answered, elapsed_of, step_refusal, advanced, next_if, next_of, answer_or}
use Rattle.clock.proofs.StepLaws.{refused_spoilt, refused_past, not_refused}
use Rattle.player.specs.declared.Player.{Player}
use Rattle.player.specs.Player.{cells_of, stored, stepped, after_step, fault_refusal, check_refusal, start_refusal, record_of, first_shown, started, record_or, after_start}
use Rattle.player.proofs.RecordLaws.{IsUnspoilt}
use Rattle.player.proofs.Demand2.{start_verdict}
use Rattle.player.proofs.Calls.{Start, Step}
use Rattle.lines.specs.Lines.{digits, line_of}
use Rattle.frames.specs.Read.{refused as unread, problem, read_problem}
use Rattle.frames.proofs.ProblemLaws.{read_refused}
use Rattle.answer.specs.Write.{verdict_frame, slot_lines, write_answer, Written}
use Rattle.planner.specs.Answer.{search_answer, answer_to_read, answer_to}
use Rattle.planner.proofs.Calls.{PlanText}

-- ---- statements
-- low..high, and not
abbrev pub Within : ℕ → ℕ → ℕ → Type 0
Within low high x = (low ≤ x) × (x ≤ high)

abbrev pub Outside : ℕ → ℕ → ℕ → Type 0
Outside low high x = (x < low) ⊎ (high < x)

-- the refusal of a task on m cores, 0 for none: 3 to 7, each behind those before it
pub data OfTask (m : ℕ) (τ : Task) : ℕ → Type 0 where
  period : Outside 1 1024 τ.period.0 → OfTask m τ 3
  deadline : Within 1 1024 τ.period.0 → Outside 1 τ.period.0 τ.deadline.0 → OfTask m τ 4
  work : Within 1 1024 τ.period.0 → Within 1 τ.period.0 τ.deadline.0 → Outside 1 4096 τ.work.0 → OfTask m τ 5
  offset : Within 1 1024 τ.period.0 → Within 1 τ.period.0 τ.deadline.0 → Within 1 4096 τ.work.0 → 1023 < τ.offset.0 → OfTask m τ 6
  rates : Within 1 1024 τ.period.0 → Within 1 τ.period.0 τ.deadline.0 → Within 1 4096 τ.work.0 → τ.offset.0 ≤ 1023
      → (j : ℕ) → j < 4 → most_rate m j < rate τ j → OfTask m τ 7
  none : Within 1 1024 τ.period.0 → Within 1 τ.period.0 τ.deadline.0 → Within 1 4096 τ.work.0 → τ.offset.0 ≤ 1023
      → ((j : ℕ) → j < 4 → rate τ j ≤ most_rate m j) → OfTask m τ 0

-- the refusal of a list, 0 for none: 1, 2; then task by task in number order; then 8
pub data OfList (m : ℕ) (ts : List Task) : ℕ → Type 0 where
  count : Outside 1 16 (length ts) → OfList m ts 1
  cores : Within 1 16 (length ts) → Outside 1 4 m → OfList m ts 2
  of_task : Within 1 16 (length ts) → Within 1 4 m → (i : ℕ) → i < length ts → ((j : ℕ) → j < i → OfTask m (task ts (suc j)) 0)
      → {k : ℕ} → k ≢ 0 → OfTask m (task ts (suc i)) k → OfList m ts k
  too_long : Within 1 16 (length ts) → Within 1 4 m → ((j : ℕ) → j < length ts → OfTask m (task ts (suc j)) 0) → 1024 < table_length ts → OfList m ts 8
  none : Within 1 16 (length ts) → Within 1 4 m → ((j : ℕ) → j < length ts → OfTask m (task ts (suc j)) 0) → table_length ts ≤ 1024 → OfList m ts 0

-- the refusal of a start, 0 for none: the list's; 10; 11
pub data OfStart (m : ℕ) (ts : List Task) (t : List ℕ) : ℕ → Type 0 where
  of_list : {k : ℕ} → k ≢ 0 → OfList m ts k → OfStart m ts t k
  short : OfList m ts 0 → length t < cells (own_instance m ts) → OfStart m ts t 10
  invalid : OfList m ts 0 → cells (own_instance m ts) ≤ length t → (Valid (own_instance m ts) (nth t) → ⊥) → OfStart m ts t 11
  none : OfList m ts 0 → cells (own_instance m ts) ≤ length t → Valid (own_instance m ts) (nth t) → OfStart m ts t 0

-- the refusal of a search, 0 for none: the list's; 9; 10
pub data OfSearch (m : ℕ) (ts : List Task) (e : ℕ) (t : List ℕ) : ℕ → Type 0 where
  of_list : {k : ℕ} → k ≢ 0 → OfList m ts k → OfSearch m ts e t k
  engine : OfList m ts 0 → 1 < e → OfSearch m ts e t 9
  short : OfList m ts 0 → e ≤ 1 → length t < cells (own_instance m ts) → OfSearch m ts e t 10
  none : OfList m ts 0 → e ≤ 1 → cells (own_instance m ts) ≤ length t → OfSearch m ts e t 0

-- a record is spoilt: H not 1..1024, m not 1..4, task count not 1..16, position not below H, or age over 1024
pub data Spoilt (p : Player) : Type 0 where
  slots : Outside 1 1024 p.h → Spoilt p
  cores : Outside 1 4 p.m → Spoilt p
  tasks : Outside 1 16 p.n → Spoilt p
  position : p.h ≤ p.position → Spoilt p
  age : 1024 < p.age → Spoilt p

-- the refusal of a step, 0 for none: 12, tested before 15
pub data OfStep (p : Player) (tick : ℕ) : ℕ → Type 0 where
  spoilt : Spoilt p → OfStep p tick 12
  past : IsUnspoilt p → 2 ^ 31 ≤ elapsed_of tick p.last → OfStep p tick 15
  none : IsUnspoilt p → elapsed_of tick p.last < 2 ^ 31 → OfStep p tick 0

-- what a refused start or step shows and leaves: four 0 cells, missed 0, the record as it was
pub record NothingShown (r : Answered) (p p' : Player) : Type 0 where
  pub no_cells : r.cells ≡ 0 ∷ 0 ∷ 0 ∷ 0 ∷ []
  pub none_missed : r.missed ≡ 0
  pub untouched : p' ≡ p

-- a call of `step`, on any record: each verdict exactly when it is due
pub record StepRefuses (p : Player) (tick : ℕ) (r : Answered) (p' : Player) : Type 0 where
  pub exact : (k : ℕ) → (r.verdict ≡ k) ↔ OfStep p tick k
  pub refused : r.verdict ≢ 0 → NothingShown r p p'

-- a call of `start`
pub record StartRefuses (ts : List Task) (m : ℕ) (t : List ℕ) (r : Answered) (p p' : Player) : Type 0 where
  pub exact : (k : ℕ) → (r.verdict ≡ k) ↔ OfStart m ts t k
  pub refused : r.verdict ≢ 0 → NothingShown r p p'

-- a call of `search`: it ends in 0, 13 or 14 exactly if it is not refused; a refusal reports 0 tries and leaves the buffer untouched
pub record PlanRefuses (ts : List Task) (m e : ℕ) (t : List ℕ) (s : Searched) : Type 0 where
  pub not_refused : ((s.verdict ≡ 0) ⊎ ((s.verdict ≡ 13) ⊎ (s.verdict ≡ 14))) ↔ OfSearch m ts e t 0
  pub exact : (k : ℕ) → k ≢ 0 → ((s.verdict ≡ k) × (k ≤ 10)) ↔ OfSearch m ts e t k
  pub no_tries : {k : ℕ} → k ≢ 0 → OfSearch m ts e t k → s.tries ≡ 0
  pub untouched : {k : ℕ} → k ≢ 0 → OfSearch m ts e t k → s.buffer ≡ t

-- a call of `check_table`: refusals 1 to 8 and 10
pub record CheckRefuses (ts : List Task) (m : ℕ) (t : List ℕ) (r : Checked) : Type 0 where
  pub exact : (k : ℕ) → (r ≡ refused k) ↔ (((k ≢ 0) × OfList m ts k) ⊎ ((k ≡ 10) × OfList m ts 0 × (length t < cells (own_instance m ts))))

-- the text of a refusal: 05 with it as the verdict and 0 tries, then 07, and nothing else
abbrev pub refusal_text : ℕ → List ℕ
refusal_text k = line_of (verdict_frame k 0) ++ line_of (7 ∷ [])

-- a call of `plan_text` with room for the longest answer: a refusal, 20 to 24 of the file or 1 to 9 of its problem, is told so; and one without
pub record TextRefuses (text out : List ℕ) (r : ℕ) (out' : List ℕ) : Type 0 where
  pub of_file : 15376 ≤ length out → (k : ℕ) → read_problem text ≡ unread k → Within 20 24 k × (r ≡ length (refusal_text k)) × (out' ≡ over (refusal_text k) out)
  pub of_problem : 15376 ≤ length out → (m : ℕ) (ts : List Task) (e b : ℕ) → read_problem text ≡ problem m ts e b
      → (k : ℕ) → k ≢ 0 → OfSearch m ts e (replicate 4096 0) k → (k ≤ 9) × (r ≡ length (refusal_text k)) × (out' ≡ over (refusal_text k) out)
  pub no_room : length out < 15376 → (r ≡ 0) × (out' ≡ out)

-- ---- proofs
-- a test that refuses by k, or what comes after
judge : (R : ℕ → Type 0) (b : Bool) {k next : ℕ} → ((T b → ⊥) → R k) → (T b → R next) → R (unless b k next)
unfolding unless
judge R true refuses goes = goes tt
judge R false refuses goes = refuses (λ t. t)

-- a refusal, or what comes after
judge_next : (R : ℕ → Type 0) (x : ℕ) {next : ℕ} → (x ≢ 0 → R x) → (x ≡ 0 → R next) → R (or_next x next)
judge_next R x refuses goes = elim (ℕ_discrete x 0) [
  | yes z ↦ subst R (or_next_lem x x _ _ refl z refl) (goes z)
  | no y ↦ subst R (or_first x x _ refl y) (refuses y)
]

-- a number in a range passes its test
passes : {low high x : ℕ} → Within low high x → T (within low high x)
passes {low} {high} {x} w = is_within low high x w.0 w.1

-- one that is not fails
fails : {low high x : ℕ} → Outside low high x → T (within low high x) → ⊥
fails {low} {high} {x} o t = let w = within_is low high x t in ⊎_elim (λ l. omega (arith, w.0)) (λ l. omega (arith, w.1)) o

-- and one that fails is not in the range
outside : (low high x : ℕ) → (T (within low high x) → ⊥) → Outside low high x
outside low high x f = ⊎_elim inl (λ a. ⊎_elim inr (λ b. absurd (f (passes (a, b)))) (lt_or_ge high x)) (lt_or_ge x low)

-- a number from 0 up that fails is too high
above : (high x : ℕ) → (T (within 0 high x) → ⊥) → high < x
above high x f = ⊎_elim (λ l. l) (λ b. absurd (f (passes (omega arith, b)))) (lt_or_ge high x)

-- a number that is not at most another is above it
not_le : (x y : ℕ) → (T (leb x y) → ⊥) → y < x
not_le x y f = ⊎_elim (λ l. l) (λ l. absurd (f (le→leb x y l))) (lt_or_ge y x)

module _ (m : ℕ) (τ : Task) where
  -- the definition's refusal of a task
  task_of_lem : OfTask m τ (task_refusal m τ)
  unfolding task_refusal rates_fit
  task_of_lem =
      judge (OfTask m τ) _ (λ x. period (outside _ _ _ x)) (λ a.
      judge (OfTask m τ) _ (λ x. deadline (within_is _ _ _ a) (outside _ _ _ x)) (λ b.
      judge (OfTask m τ) _ (λ x. work (within_is _ _ _ a) (within_is _ _ _ b) (outside _ _ _ x)) (λ c.
      judge (OfTask m τ) _ (λ x. offset (within_is _ _ _ a) (within_is _ _ _ b) (within_is _ _ _ c) (above _ _ x)) (λ d.
      judge (OfTask m τ) (rates_fit m τ.rates)
      (λ x. let h = all_fails 4 (λ j. leb (rate τ j) (most_rate m j)) x in rates (within_is _ _ _ a) (within_is _ _ _ b) (within_is _ _ _ c) (within_is _ _ _ d).1 h.0 h.1 (not_le _ _ h.2))
      (λ f. none (within_is _ _ _ a) (within_is _ _ _ b) (within_is _ _ _ c) (within_is _ _ _ d).1 (rates_at m τ.rates f))))))

  -- and the other way
  task_is : {k : ℕ} → OfTask m τ k → task_refusal m τ ≡ k
  unfolding task_refusal
  task_is (period x) = unless_no _ _ _ (fails x)
  task_is (deadline a x) = unless_yes _ _ _ (passes a) ∙ unless_no _ _ _ (fails x)
  task_is (work a b x) = unless_yes _ _ _ (passes a) ∙ unless_yes _ _ _ (passes b) ∙ unless_no _ _ _ (fails x)
  task_is (offset a b c x) = unless_yes _ _ _ (passes a) ∙ unless_yes _ _ _ (passes b) ∙ unless_yes _ _ _ (passes c) ∙ unless_no _ _ _ (fails (inr x))
  task_is (rates a b c d j l x) = unless_yes _ _ _ (passes a) ∙ unless_yes _ _ _ (passes b) ∙ unless_yes _ _ _ (passes c) ∙ unless_yes _ _ _ (passes (omega arith, d))
      ∙ unless_no _ _ _ (λ t. omega (arith, x, rates_at m τ.rates t j l))
  task_is (none a b c d h) = unless_yes _ _ _ (passes a) ∙ unless_yes _ _ _ (passes b) ∙ unless_yes _ _ _ (passes c) ∙ unless_yes _ _ _ (passes (omega arith, d))
      ∙ unless_yes _ _ _ (subst T (rates_under m τ.rates h) tt)

module _ (m : ℕ) (ts : List Task) where
  abbrev at : ℕ → ℕ
  at j = task_refusal m (task ts (suc j))

  -- a task that is not refused
  task_none : (j : ℕ) → at j ≡ 0 → OfTask m (task ts (suc j)) 0
  task_none j e = subst (OfTask m (task ts (suc j))) e (task_of_lem m (task ts (suc j)))

  -- the first task that is refused
  first_task : Within 1 16 (length ts) → Within 1 4 m → list_refusal m ts ≢ 0 → OfList m ts (list_refusal m ts)
  unfolding list_refusal
  first_task a b x = ⊎_elim
      (λ l. let e : list_refusal m ts ≡ at (seek (length ts) at) = gate_lt (seek (length ts) at) (length ts) (at (seek (length ts) at)) l in
      of_task a b (seek (length ts) at) l (λ j h. task_none j (seek_before (length ts) at j h)) x (subst (OfTask m (task ts (suc (seek (length ts) at)))) (sym e) (task_of_lem m _)))
      (λ l. absurd (x (gate_ge (seek (length ts) at) (length ts) (at (seek (length ts) at)) l)))
      (lt_or_ge (seek (length ts) at) (length ts))

  -- the definition's refusal of a list
  pub list_of : OfList m ts (refusal m ts)
  unfolding refusal list_refusal
  list_of =
      judge (OfList m ts) _ (λ x. count (outside _ _ _ x)) (λ a.
      judge (OfList m ts) _ (λ x. cores (within_is _ _ _ a) (outside _ _ _ x)) (λ b.
      judge_next (OfList m ts) (list_refusal m ts) (first_task (within_is _ _ _ a) (within_is _ _ _ b)) (λ z.
      judge (OfList m ts) _
      (λ x. too_long (within_is _ _ _ a) (within_is _ _ _ b) (each z) (not_le _ _ x))
      (λ h. none (within_is _ _ _ a) (within_is _ _ _ b) (each z) (leb→le _ _ h)))))
    where
      each : list_refusal m ts ≡ 0 → (j : ℕ) → j < length ts → OfTask m (task ts (suc j)) 0
      each z j l = task_none j (first_zero (length ts) at z j l)

  -- and the other way
  list_is : {k : ℕ} → OfList m ts k → refusal m ts ≡ k
  unfolding refusal list_refusal
  list_is (count x) = unless_no _ _ _ (fails x)
  list_is (cores a x) = unless_yes _ _ _ (passes a) ∙ unless_no _ _ _ (fails x)
  list_is (of_task a b i l each x h) =
      let e = task_is m (task ts (suc i)) h in
      let f : list_refusal m ts ≡ _ = first_is (length ts) i at l (λ j h. task_is m _ (each j h)) (λ z. x (sym e ∙ z)) ∙ e in
      unless_yes _ _ _ (passes a) ∙ unless_yes _ _ _ (passes b) ∙ sym (or_first _ (list_refusal m ts) _ (sym f) x)
  list_is (too_long a b each x) =
      unless_yes _ _ _ (passes a) ∙ unless_yes _ _ _ (passes b) ∙ sym (or_next_lem 0 (list_refusal m ts) _ _ (sym (first_none (length ts) at (λ j h. task_is m _ (each j h)))) refl refl)
      ∙ unless_no _ _ _ (λ t. omega (arith, x, leb→le (table_length ts) 1024 t))
  list_is (none a b each h) =
      unless_yes _ _ _ (passes a) ∙ unless_yes _ _ _ (passes b) ∙ sym (or_next_lem 0 (list_refusal m ts) _ _ (sym (first_none (length ts) at (λ j h. task_is m _ (each j h)))) refl refl)
      ∙ unless_yes _ _ _ (le→leb _ _ h)

  -- a sound list has none
  sound_none : IsSound m ts → OfList m ts 0
  sound_none e = subst (OfList m ts) e list_of

  -- a list is sound exactly if none of 1 to 8 refuses it
  pub sound_exact : IsSound m ts ↔ OfList m ts 0
  sound_exact = (sound_none, list_is)

-- no refusal of a list is above 8
task_most : {m : ℕ} {τ : Task} {k : ℕ} → OfTask m τ k → k ≤ 8
task_most (period x) = omega arith
task_most (deadline a x) = omega arith
task_most (work a b x) = omega arith
task_most (offset a b c x) = omega arith
task_most (rates a b c d j l x) = omega arith
task_most (none a b c d h) = omega arith

pub list_most : {m : ℕ} {ts : List Task} {k : ℕ} → OfList m ts k → k ≤ 8
list_most (count x) = omega arith
list_most (cores a x) = omega arith
list_most (of_task a b i l each x h) = task_most h
list_most (too_long a b each x) = omega arith
list_most (none a b each h) = omega arith

-- ---- a call of `start`
module _ (m : ℕ) (ts : List Task) (t : List ℕ) where
  -- a table of a sound list is valid or not
  of_fault : OfList m ts 0 → cells (own_instance m ts) ≤ length t → (x : Fault) → (x ≡ no_fault) ↔ Valid (own_instance m ts) (nth t) → OfStart m ts t (fault_refusal x)
  of_fault s l no_fault h = none s l (h.0 refl)
  of_fault s l (in_cell a b c) h = invalid s l (λ v. let z : ◌≡◌ {A = ℕ} 0 1 = cc (h.1 v) in omega arith)
  of_fault s l (in_job a b c) h = invalid s l (λ v. let z : ◌≡◌ {A = ℕ} 0 1 = cc (h.1 v) in omega arith)

  -- the definition's refusal of a start
  pub start_of : OfStart m ts t (start_refusal m ts t)
  unfolding instance_of
  start_of = elim (ℕ_discrete (refusal m ts) 0) [
    | no x ↦ rw (check_refused m ts t x) (of_list x (list_of m ts))
    | yes e ↦ ⊎_elim
        (λ l. rw (check_short m ts t e l) (short (sound_none m ts e) l))
        (λ l. rw (check_long m ts t e l) (of_fault (sound_none m ts e) l (fault (own_instance m ts) (nth t)) (names (own_instance m ts) (nth t) (own_regular m ts e)).none_exact))
        (lt_or_ge (length t) (cells (own_instance m ts)))
  ]

  -- and the other way
  start_is : {k : ℕ} → OfStart m ts t k → start_refusal m ts t ≡ k
  unfolding instance_of
  start_is (of_list x h) = let e = list_is m ts h in ap check_refusal (check_refused m ts t (λ z. x (sym e ∙ z))) ∙ e
  start_is (short s l) = ap check_refusal (check_short m ts t (list_is m ts s) l)
  start_is (invalid s l x) = ap check_refusal (check_long m ts t (list_is m ts s) l) ∙ wrong (fault (own_instance m ts) (nth t)) (names (own_instance m ts) (nth t) (own_regular m ts (list_is m ts s))).none_exact
    where
      wrong : (y : Fault) → (y ≡ no_fault) ↔ Valid (own_instance m ts) (nth t) → fault_refusal y ≡ 11
      wrong no_fault h = absurd (x (h.0 refl))
      wrong (in_cell a b c) h = refl
      wrong (in_job a b c) h = refl
  start_is (none s l v) = ap check_refusal (check_long m ts t (list_is m ts s) l)
      ∙ ap fault_refusal ((names (own_instance m ts) (nth t) (own_regular m ts (list_is m ts s))).none_exact.1 v)

  -- it is not above 11
  pub start_most : {k : ℕ} → OfStart m ts t k → k ≤ 11
  start_most (of_list x h) = omega (arith, list_most h)
  start_most (short s l) = omega arith
  start_most (invalid s l x) = omega arith
  start_most (none s l v) = omega arith

-- a refused start
start_left : (p made : Player) (k : ℕ) → k ≢ 0 → NothingShown (first_shown made k) p (record_or k made p)
start_left p made zero x = absurd (x refl)
start_left p made (suc k) x = record { no_cells = refl; none_missed = refl; untouched = refl }

pub start_refuses : (ts : List Task) (m : ℕ) (t : List ℕ) (p : Player) (tick : ℕ) (r : Answered) (p' : Player) → Start p ts m t tick r p' → StartRefuses ts m t r p p'
unfolding started after_start
start_refuses ts m t p tick r p' call = record {
  exact = λ k. (λ e. subst (OfStart m ts t) (sym v ∙ e) (start_of m ts t), λ h. v ∙ start_is m ts t h);
  refused = λ x. subst₂ (λ a b. NothingShown a p b) (sym call.0) (sym call.1) (start_left p (record_of m ts t tick) (start_refusal m ts t) (λ z. x (v ∙ z)));
}
  where
    v : r.verdict ≡ start_refusal m ts t
    v = start_verdict ts m t p p' tick r call

-- ---- a call of `check_table`
pub check_refuses : (ts : List Task) (m : ℕ) (t : List ℕ) (r : Result (Option FaultTold) Refusal) → Checks ts m t r → CheckRefuses ts m t (checked_as r)
check_refuses ts m t r call = record {
  exact = λ k. (
    λ e. ⊎_elim
        (λ h. inl (h.1, subst (OfList m ts) (sym h.0) (list_of m ts)))
        (λ h. inr (h.0, sound_none m ts h.1, h.2))
        (((answer_tells ts m t r call).refuses_exact k).0 e),
    λ h. ((answer_tells ts m t r call).refuses_exact k).1 (⊎_elim
        (λ q. inl (sym (list_is m ts q.1), q.0))
        (λ q. inr (q.0, list_is m ts q.1, q.2))
        h),
  );
}

-- ---- a call of `search`
-- a sound list's table has at most 4096 cells
pub own_cells : (m : ℕ) (ts : List Task) → IsSound m ts → cells (own_instance m ts) ≤ 4096
unfolding instance_of
own_cells m ts sound = let s = sound_list m ts sound in mul-le-mul {n₂ = 1024} {m₂ = 4} s.few_slots s.few_cores

module _ (m : ℕ) (ts : List Task) (e : ℕ) (t : List ℕ) where
  -- the definition's refusal of a search
  pub search_of : OfSearch m ts e t (search_refusal m ts e (length t))
  unfolding search_refusal
  search_of =
      judge_next (OfSearch m ts e t) (refusal m ts) (λ x. of_list x (list_of m ts)) (λ z.
      judge (OfSearch m ts e t) _ (λ x. engine (sound_none m ts z) (not_le _ _ x)) (λ a.
      judge (OfSearch m ts e t) _ (λ x. short (sound_none m ts z) (leb→le _ _ a) (not_le _ _ x)) (λ b. none (sound_none m ts z) (leb→le _ _ a) (leb→le _ _ b))))

  -- and the other way
  search_is : {k : ℕ} → OfSearch m ts e t k → search_refusal m ts e (length t) ≡ k
  unfolding search_refusal
  search_is (of_list x h) = sym (or_first _ (refusal m ts) _ (sym (list_is m ts h)) x)
  search_is (engine s x) = sym (or_next_lem 0 (refusal m ts) _ _ (sym (list_is m ts s)) refl refl) ∙ unless_no _ _ _ (λ a. omega (arith, x, leb→le e 1 a))
  search_is (short s a x) = sym (or_next_lem 0 (refusal m ts) _ _ (sym (list_is m ts s)) refl refl) ∙ unless_yes _ _ _ (le→leb _ _ a)
      ∙ unless_no _ _ _ (λ b. omega (arith, x, leb→le (cells (own_instance m ts)) (length t) b))
  search_is (none s a b) = sym (or_next_lem 0 (refusal m ts) _ _ (sym (list_is m ts s)) refl refl) ∙ unless_yes _ _ _ (le→leb _ _ a) ∙ unless_yes _ _ _ (le→leb _ _ b)

  -- it is not above 10
  pub search_most : {k : ℕ} → OfSearch m ts e t k → k ≤ 10
  search_most (of_list x h) = omega (arith, list_most h)
  search_most (engine s x) = omega arith
  search_most (short s a x) = omega arith
  search_most (none s a b) = omega arith

  -- a search that is not refused
  pub search_none : {k : ℕ} → OfSearch m ts e t k → k ≡ 0 → IsSound m ts × (e ≤ 1) × (cells (own_instance m ts) ≤ length t)
  search_none (of_list x h) z = absurd (x z)
  search_none (engine s x) z = absurd (omega arith)
  search_none (short s a x) z = absurd (omega arith)
  search_none (none s a b) z = (list_is m ts s, a, b)

  -- a sound list's table of at most 4096 cells has room in as many
  search_room : {k : ℕ} → 4096 ≤ length t → OfSearch m ts e t k → k ≤ 9
  search_room l (of_list x h) = omega (arith, list_most h)
  search_room l (engine s x) = omega arith
  search_room l (short s a x) = absurd (omega (arith, l, x, own_cells m ts (list_is m ts s)))
  search_room l (none s a b) = omega arith

pub plan_refuses : (ts : List Task) (m e b : ℕ) (t : List ℕ) (r : Result Answer Refusal) (t' : List ℕ) → Search ts m e b t r t' → PlanRefuses ts m e t (searched_as r t')
plan_refuses ts m e b t r t' call = record {
  not_refused = (only_none, λ h. ends (search_is m ts e t h));
  exact = λ k x. (λ h. exactly k x h.0 h.1, λ h. (ap (λ s. s.verdict) (told x h), search_most m ts e t h));
  no_tries = λ x h. ap (λ s. s.tries) (told x h);
  untouched = λ x h. ap (λ s. s.buffer) (told x h);
}
  where
    told : {k : ℕ} → k ≢ 0 → OfSearch m ts e t k → searched_as r t' ≡ record { verdict = k; tries = 0; buffer = t }
    told x h = call ∙ refused_told m ts e b t _ (search_is m ts e t h) x

    -- a call that is not refused ends in 0, 13 or 14
    ends : search_refusal m ts e (length t) ≡ 0 → ((searched_as r t').verdict ≡ 0) ⊎ (((searched_as r t').verdict ≡ 13) ⊎ ((searched_as r t').verdict ≡ 14))
    ends z = let h = search_none m ts e t (search_of m ts e t) z in subst (λ s. (s.verdict ≡ 0) ⊎ ((s.verdict ≡ 13) ⊎ (s.verdict ≡ 14))) (sym call) (searches m ts e b t h.0 h.1 h.2).one_of_three

    -- and the other way
    only_none : ((searched_as r t').verdict ≡ 0) ⊎ (((searched_as r t').verdict ≡ 13) ⊎ ((searched_as r t').verdict ≡ 14)) → OfSearch m ts e t 0
    only_none v = elim (ℕ_discrete (search_refusal m ts e (length t)) 0) [
      | yes z ↦ subst (OfSearch m ts e t) z (search_of m ts e t)
      | no y ↦ (let q = ap (λ s. s.verdict) (told y (search_of m ts e t)) in let l = search_most m ts e t (search_of m ts e t) in
          ⊎_elim (λ z. absurd (y (sym q ∙ z))) (⊎_elim (λ z. absurd (omega (arith, q, z, l))) (λ z. absurd (omega (arith, q, z, l)))) v)
    ]

    exactly : (k : ℕ) → k ≢ 0 → (searched_as r t').verdict ≡ k → k ≤ 10 → OfSearch m ts e t k
    exactly k x v l = elim (ℕ_discrete (search_refusal m ts e (length t)) 0) [
      | no y ↦ subst (OfSearch m ts e t) (sym (ap (λ s. s.verdict) (told y (search_of m ts e t))) ∙ v) (search_of m ts e t)
      | yes z ↦ ⊎_elim (λ q. absurd (x (sym v ∙ q))) (⊎_elim (λ q. absurd (omega (arith, v, q, l))) (λ q. absurd (omega (arith, v, q, l)))) (ends z)
    ]

-- ---- a call of `step`
module _ (p : Player) (tick : ℕ) where
  -- a record is spoilt or not
  in_range : Spoilt p ⊎ IsUnspoilt p
  in_range =
      inside 1 1024 p.h (λ x. inl (slots x)) (λ a.
      inside 1 4 p.m (λ x. inl (cores x)) (λ b.
      inside 1 16 p.n (λ x. inl (tasks x)) (λ c.
      ⊎_elim (λ d. ⊎_elim (λ x. inl (age x)) (λ f. inr (record {
        some_slot = a.0;
        few_slots = a.1;
        some_core = b.0;
        few_cores = b.1;
        some_task = c.0;
        few_tasks = c.1;
        in_table = d;
        age_le = f;
      })) (lt_or_ge 1024 p.age)) (λ x. inl (position x)) (lt_or_ge p.position p.h))))
    where
      inside : {A : Type 0} (low high x : ℕ) → (Outside low high x → A) → (Within low high x → A) → A
      inside low high x out goes = ⊎_elim (λ l. out (inl l)) (λ l. ⊎_elim (λ h. out (inr h)) (λ h. goes (l, h)) (lt_or_ge high x)) (lt_or_ge x low)

  -- not both
  not_both : Spoilt p → IsUnspoilt p → ⊥
  not_both (slots x) u = ⊎_elim (λ l. omega (arith, u.some_slot)) (λ l. omega (arith, u.few_slots)) x
  not_both (cores x) u = ⊎_elim (λ l. omega (arith, u.some_core)) (λ l. omega (arith, u.few_cores)) x
  not_both (tasks x) u = ⊎_elim (λ l. omega (arith, u.some_task)) (λ l. omega (arith, u.few_tasks)) x
  not_both (position x) u = omega (arith, x, u.in_table)
  not_both (age x) u = omega (arith, x, u.age_le)

  abbrev pub due : ℕ
  due = step_refusal p.last p.h p.position p.age p.m p.n tick

  -- the definition's refusal of a step
  step_is : {k : ℕ} → OfStep p tick k → due ≡ k
  step_is (spoilt x) = refused_spoilt p.last p.h p.position p.age p.m p.n tick (not_both x)
  step_is (past u l) = refused_past p.last p.h p.position p.age p.m p.n tick u l
  step_is (none u l) = not_refused p.last p.h p.position p.age p.m p.n tick u l

  -- and the other way
  pub step_of : OfStep p tick due
  step_of = ⊎_elim
      (λ x. subst (OfStep p tick) (sym (step_is (spoilt x))) (spoilt x))
      (λ u. ⊎_elim
      (λ l. subst (OfStep p tick) (sym (step_is (none u l))) (none u l))
      (λ l. subst (OfStep p tick) (sym (step_is (past u l))) (past u l))
      (lt_or_ge (elapsed_of tick p.last) (2 ^ 31)))
      in_range

pub step_refuses : (p : Player) (tick : ℕ) (r : Answered) (p' : Player) → Step p tick r p' → StepRefuses p tick r p'
unfolding stepped after_step next_of
step_refuses p tick r p' call = record {
  exact = λ k. (λ e. subst (OfStep p tick) (sym v ∙ e) (step_of p tick), λ h. v ∙ step_is p tick h);
  refused = λ x. subst₂ (λ a b. NothingShown a p b) (sym call.0) (sym call.1) (left (due p tick) _ (λ z. x (v ∙ z)));
}
  where
    shown : ℕ → Worked → Answered
    shown k x = let y = next_if k p.last p.position p.age x in answer_or y.verdict (record { verdict = 0; cells = cells_of (stored p y); missed = y.missed })

    -- a step's verdict is its refusal
    verdict_is : (k : ℕ) (x : Worked) → x.verdict ≡ 0 → (shown k x).verdict ≡ k
    verdict_is zero x z = rw z
    verdict_is (suc k) x z = refl

    v : r.verdict ≡ due p tick
    v = ap (λ a. a.verdict) call.0 ∙ verdict_is (due p tick) (advanced p.h p.position p.age p.m tick (elapsed_of tick p.last)) refl

    -- a refused step
    left : (k : ℕ) (x : Worked) → k ≢ 0 → NothingShown (shown k x) p (stored p (next_if k p.last p.position p.age x))
    left zero x y = absurd (y refl)
    left (suc k) x y = record { no_cells = refl; none_missed = refl; untouched = refl }

-- ---- a call of `plan_text`
-- an answer that is a refusal
refusal_written : (k H m : ℕ) (table : List ℕ) → k ≢ 0 → write_answer k 0 H m table ≡ refusal_text k
unfolding write_answer line_of digits verdict_frame slot_lines gate
refusal_written k H m table x = rw (ne_eqb k 0 x)

-- what is written where there is room, and where there is not
pub written_room : {text out : List ℕ} {r : ℕ} {out' : List ℕ} → Written (leb 15376 (length out)) text out r out' → 15376 ≤ length out → (r ≡ length text) × (out' ≡ over text out)
unfolding gate
written_room {text} {out} w l = (w.count ∙ rw (le-leb 15376 (length out) l), w.holds ∙ rw (le-leb 15376 (length out) l))

written_not : {text out : List ℕ} {r : ℕ} {out' : List ℕ} → Written (leb 15376 (length out)) text out r out' → length out < 15376 → (r ≡ 0) × (out' ≡ out)
unfolding gate
written_not {text} {out} w l = (w.count ∙ rw (lt-leb 15376 (length out) l), w.holds ∙ rw (lt-leb 15376 (length out) l))

pub text_refuses : (text out : List ℕ) (r : ℕ) (out' : List ℕ) → PlanText text out r out' → TextRefuses text out r out'
unfolding answer_to_read search_answer
text_refuses text out r out' call = record {
  of_file = λ l k e. let n = read_refused text k e in let w = told k l (ap answer_to_read e ∙ refusal_written k 0 0 [] (λ z. omega (arith, n.0, z))) in (n, w.0, w.1);
  of_problem = λ l m ts e b h k x q.
      let w = told k l (ap answer_to_read h ∙ ap (search_answer m ts) (refused_told m ts e b (replicate 4096 0) k (search_is m ts e (replicate 4096 0) q) x) ∙ refusal_written k (table_length ts) m (replicate 4096 0) x) in
      (search_room m ts e (replicate 4096 0) (rw (length-replicate {A = ℕ} 4096 0) (omega arith)) q, w.0, w.1);
  no_room = written_not call;
}
  where
    told : (k : ℕ) → 15376 ≤ length out → answer_to text ≡ refusal_text k → (r ≡ length (refusal_text k)) × (out' ≡ over (refusal_text k) out)
    told k l e = subst (λ a. (r ≡ length a) × (out' ≡ over a out)) e (written_room call l)
