-- The calls from C: each is the call over lent tasks, its answer told as a number that the header takes apart; so the demands hold for them. The words come first, then the theorems.
-- Assumes nothing.
use Prim.Native.Nat.{ℕ, zero, suc, ◌/◌, ◌%◌, ◌^◌, ◌≤◌, ◌<◌}
use native.Mathlib.Decide.{ℕ_discrete}
use native.Mathlib.Nat.{mod-lt, div-le_self}
use native.Mathlib.Omega.{arith}
use mathlib.Core.Path.{◌≡◌, refl, sym, ap, subst, subst₂, ◌∙◌}
use mathlib.Core.Logic.{◌≢◌, ◌↔◌, ⊎_elim}
use mathlib.Core.List.{List, [], ◌∷◌}
use lib.Arith.{digits_div, digits_mod}
use lib.ListN.{length}
use Rattle.laws.proofs.SumLaws.{lt_or_ge}
use Rattle.std.specs.Prelude.{Option, None, Result, Ok, Err}
use Rattle.tasks.specs.declared.Task.{Task}
use Rattle.tasks.specs.declared.Refusal.{Refusal}
use Rattle.tasks.specs.declared.Refusal.TheVariants.{Spoilt, Past}
use Rattle.tasks.specs.Task.{task}
use Rattle.tasks.specs.Refusal.{refusal, table_length, IsSound}
use Rattle.tasks.specs.Instance.{Instance, instance_of, own_instance}
use Rattle.tasks.specs.Told.{number_of}
use Rattle.tasks.proofs.SoundLaws.{sound_list}
use Rattle.tasks.proofs.RefusalLaws.{refusal_from, refusal_back, named}
use Rattle.table.specs.Fault.{Fault, no_fault, in_cell, in_job, Checked, refused, checked, check}
use Rattle.rules.specs.Walk.{tries}
use Rattle.rules.specs.Search.{Searched, walked, search_refusal, search}
use Rattle.rules.proofs.Told.{refused_told}
use Rattle.rules.proofs.Demand2.{searches}
use Rattle.search.specs.declared.Outcome.TheVariants.{Found, NoTable, Stopped}
use Rattle.search.specs.declared.Answer.{Answer}
use Rattle.search.specs.Told.{searched_as}
use Rattle.search.proofs.Calls.{Search}
use Rattle.checker.specs.declared.Fault.{Fault as FaultTold}
use Rattle.checker.specs.Told.{checked_as}
use Rattle.checker.specs.Faulty.{Wrong, unknown, closed, unrated, twice, WrongWork, too_little, after_complete}
use Rattle.checker.proofs.TellLaws.{check_refused}
use Rattle.checker.proofs.Calls.{Checks, answer_from}
use Rattle.checker.proofs.Demand2.{tells, checked_back}
use Rattle.clock.specs.declared.Shown.{Shown}
use Rattle.clock.specs.Clock.{Worked, Answered, answered_as, elapsed_of, elapsed_at, step_refusal, advanced, next_if, next_of, answer_or}
use Rattle.player.specs.declared.Player.{Player}
use Rattle.player.specs.Player.{cells_of, stored, after_step, stepped, record_of, start_refusal, first_shown, started}
use Rattle.player.proofs.Calls.{Start, Step}
use Rattle.player.proofs.Demand2.{Run, Plays, Keeps}
use Rattle.exports.specs.Packed.{packed_as, check_number, ShownNumber}
use Rattle.exports.proofs.Calls.{XiphomeraSearch, XiphomeraCheck, XiphomeraStart, XiphomeraStep}
use Rattle.demands.proofs.Demand1.{OfStep, spoilt, past, none, list_of, list_most, own_cells, start_of, start_most, search_of, search_most, search_none, due, step_of}
use Rattle.demands.proofs.Demand2.{accepts, plays, keeps}

-- ---- words
-- an answer as the header takes it apart: `xiphomera_verdict` is its upper half, `xiphomera_missed` its lower; and the four cells
pub record Reads (r : ℕ) (cells : List ℕ) (s : Answered) : Type 0 where
  pub verdict : r / 2 ^ 32 ≡ s.verdict
  pub missed : r % 2 ^ 32 ≡ s.missed
  pub shown : cells ≡ s.cells

-- a check's answer as the header takes it apart: `xiphomera_class`, `_a`, `_b`, `_c`
pub record Parts (r class a b c : ℕ) : Type 0 where
  pub class_is : r / 2 ^ 48 ≡ class
  pub a_is : r / 2 ^ 32 % 2 ^ 16 ≡ a
  pub b_is : r / 2 ^ 16 % 2 ^ 16 ≡ b
  pub c_is : r % 2 ^ 16 ≡ c

-- class 0 is valid; 1 a faulty cell: slot, core, kind; 2 a faulty job: task, job, kind; 3 a refusal: 0, 0, its number
abbrev pub ReadsCheck : ℕ → Checked → Type 0
ReadsCheck r (checked no_fault) = Parts r 0 0 0 0
ReadsCheck r (checked (in_cell slot core kind)) = Parts r 1 slot core kind
ReadsCheck r (checked (in_job task job kind)) = Parts r 2 task job kind
ReadsCheck r (refused number) = Parts r 3 0 0 number

-- a board's program: `xiphomera_start` with the lent tasks at the first tick, and n calls of `xiphomera_step`, each at the next tick on the record that the call before it left
pub record BoardRun (ts : List Task) (m : ℕ) (t : List ℕ) (p : Player) (tick : ℕ → ℕ) (n : ℕ) (answer : ℕ → ℕ) (cells : ℕ → List ℕ) (left : ℕ → Player) : Type 0 where
  -- a tick has 32 bits
  pub ticks : (s : ℕ) → s ≤ n → tick s < 2 ^ 32
  pub starts : XiphomeraStart p ts m t (tick 0) (answer 0) (cells 0) (left 0)
  pub steps : (s : ℕ) → s < n → XiphomeraStep (left s) (tick (suc s)) (answer (suc s)) (cells (suc s)) (left (suc s))

-- ---- theorems
-- the halves of an answer
halves : (r : ℕ) (c : List ℕ) (s : Answered) → ShownNumber r c s → s.missed < 2 ^ 32 → Reads r c s
halves r c s told l = record {
  verdict = ap (λ x. x / 2 ^ 32) told.answer ∙ digits_div s.verdict l;
  missed = ap (λ x. x % 2 ^ 32) told.answer ∙ digits_mod s.verdict l;
  shown = told.shown;
}

-- a search counts no further than its limit
tries_most : (m : ℕ) (ts : List Task) (e b : ℕ) (t : List ℕ) → (search m ts e b t).tries ≤ b
tries_most m ts e b t = elim (ℕ_discrete (search_refusal m ts e (length t)) 0) [
  | no x ↦ omega (arith, ap (λ s. s.tries) (refused_told m ts e b t _ refl x))
  | yes z ↦ (let h = search_none m ts e t (search_of m ts e t) z in let s = searches m ts e b t h.0 h.1 h.2 in ⊎_elim
      (λ l. omega (arith, s.stopped_tries (s.stops.1 l)))
      (λ l. omega (arith, s.own_tries (λ q. omega (arith, s.stops.0 q, l)), l))
      (lt_or_ge b (tries (walked e (own_instance m ts)))))
]

-- what a search's definition tells is told of one of the code's answers
answer_there : (m : ℕ) (ts : List Task) (e b : ℕ) (t : List ℕ) → (a : Result Answer Refusal) × Search ts m e b t a (search m ts e b t).buffer
answer_there m ts e b t = elim (ℕ_discrete (search_refusal m ts e (length t)) 0) [
  | no x ↦ (
      let h = refused_told m ts e b t (search_refusal m ts e (length t)) refl x in
      let n = named (search_refusal m ts e (length t)) x (omega (arith, search_most m ts e t (search_of m ts e t))) in
      (Err (refusal_from (search_refusal m ts e (length t))), rw (h, n) refl))
  | yes z ↦ (
      let h = search_none m ts e t (search_of m ts e t) z in
      let v = (searches m ts e b t h.0 h.1 h.2).one_of_three in
      ⊎_elim (λ q. (Ok (record { outcome = Found; tries = (search m ts e b t).tries }), rw q refl))
      (⊎_elim (λ q. (Ok (record { outcome = NoTable; tries = (search m ts e b t).tries }), rw q refl)) (λ q. (Ok (record { outcome = Stopped; tries = (search m ts e b t).tries }), rw q refl))) v)
]

-- a search is a call of `search`; its answer has the verdict above the tries
pub from_search : (ts : List Task) (m e b : ℕ) (t : List ℕ) (r : ℕ) (t' : List ℕ) → XiphomeraSearch ts m e b t r t' → b < 2 ^ 32
    → (a : Result Answer Refusal) × Search ts m e b t a t' × (r / 2 ^ 32 ≡ (searched_as a t').verdict) × (r % 2 ^ 32 ≡ (searched_as a t').tries)
from_search ts m e b t r t' call l =
    let (a, is) = answer_there m ts e b t in
    let h : searched_as a t' ≡ s = ap (searched_as a) call.left ∙ is in (
      a,
      h,
      ap (λ x. x / 2 ^ 32) call.answer ∙ digits_div s.verdict few ∙ sym (ap (λ s. s.verdict) h),
      ap (λ x. x % 2 ^ 32) call.answer ∙ digits_mod s.verdict few ∙ sym (ap (λ s. s.tries) h),
    )
  where
    s : Searched
    s = search m ts e b t

    few : s.tries < 2 ^ 32
    few = omega (arith, l, tries_most m ts e b t)

-- four numbers, told as one
parts : (class a b c : ℕ) → a < 2 ^ 16 → b < 2 ^ 16 → c < 2 ^ 16 → Parts (packed_as class a b c) class a b c
parts class a b c la lb lc = record { class_is = omega arith; a_is = omega arith; b_is = omega arith; c_is = omega arith }

-- no kind of fault is above 6
kind_most : {P : Instance} {f : ℕ → ℕ} {c kind : ℕ} → Wrong P f c kind → kind ≤ 6
kind_most (unknown x) = omega arith
kind_most (closed x l y) = omega arith
kind_most (unrated x l o z) = omega arith
kind_most (twice x l o z d h s e) = omega arith

work_most : {P : Instance} {f : ℕ → ℕ} {i k kind : ℕ} → WrongWork P f i k kind → kind ≤ 6
work_most (too_little x) = omega arith
work_most (after_complete c l e s h) = omega arith

module _ (ts : List Task) (m : ℕ) (t : List ℕ) where
  -- a table that is looked at is a sound list's
  looked_at : (x : Fault) → check m ts t ≡ checked x → IsSound m ts
  looked_at x e = elim (ℕ_discrete (refusal m ts) 0) [
    | yes z ↦ z
    | no y ↦ (let q : refused (refusal m ts) ≡ checked x = sym (check_refused m ts t y) ∙ e in let w : ◌≡◌ {A = ℕ} 0 1 = cc in absurd (omega arith))
  ]

  -- the numbers of a check's answer
  check_reads : (x : Checked) → check m ts t ≡ x → ReadsCheck (check_number x) x
  unfolding check_number instance_of
  check_reads (checked no_fault) e = parts 0 0 0 0 (omega arith) (omega arith) (omega arith)
  check_reads (checked (in_cell s j kind)) e =
      let h = (tells m ts t).names_cell s j kind e in
      let l = sound_list m ts (looked_at _ e) in
      parts 1 s j kind
      (omega (arith, h.slot_is, h.inside, own_cells m ts (looked_at _ e), div-le_self h.cell m))
      (omega (arith, h.core_is, mod-lt h.cell l.some_core, l.few_cores))
      (omega (arith, kind_most h.is_wrong))
  check_reads (checked (in_job i k kind)) e =
      let h = (tells m ts t).names_job i k kind e in
      let l = sound_list m ts (looked_at _ e) in
      parts 2 i k kind
      (omega (arith, h.task_in, l.few_tasks))
      (omega (arith, h.job_in, l.few_slots, div-le_self (table_length ts) (task ts i).period.0))
      (omega (arith, work_most h.is_wrong))
  check_reads (refused k) e = parts 3 0 0 k (omega arith) (omega arith) (⊎_elim
      (λ h. omega (arith, h.0, list_most (list_of m ts)))
      (λ h. omega (arith, h.0))
      (((tells m ts t).refuses_exact k).0 e))

  -- a check is a call of `check_table`
  pub from_check : (r : ℕ) → XiphomeraCheck ts m t r → (v : Result (Option FaultTold) Refusal) × Checks ts m t v × ReadsCheck r (checked_as v)
  from_check r call =
      let v = checked_back m ts t in
      (answer_from (check m ts t), v, subst₂ ReadsCheck (sym call) (sym v) (check_reads (check m ts t) refl))

-- and answers 0 exactly if `check_table` finds the table valid
pub from_valid : (ts : List Task) (m : ℕ) (t : List ℕ) (r : ℕ) → XiphomeraCheck ts m t r → (r ≡ 0) ↔ Checks ts m t (Ok None)
unfolding check_number
from_valid ts m t r call = (λ z. sym (none (check m ts t) (sym call ∙ z)), λ v. call ∙ ap check_number (sym v))
  where
    none : (x : Checked) → check_number x ≡ 0 → x ≡ checked no_fault
    none (checked no_fault) z = refl
    none (checked (in_cell s j k)) z = absurd (omega arith)
    none (checked (in_job i j k)) z = absurd (omega arith)
    none (refused k) z = absurd (omega arith)

-- what is shown, or refused by a number that a refusal has, is told of one of the code's answers
shown_there : (s : Answered) → s.verdict ≡ 0 → (k : ℕ) → (k ≢ 0 → number_of (refusal_from k) ≡ k) → (a : Result Shown Refusal) × (answered_as a ≡ answer_or k s)
shown_there s z zero n = (Ok (record { cells = s.cells; missed = s.missed }), ap (λ v. record { verdict = v; cells = s.cells; missed = s.missed }) (sym z))
shown_there s z (suc k) n = (Err (refusal_from (suc k)), ap (λ v. record { verdict = v; cells = 0 ∷ 0 ∷ 0 ∷ 0 ∷ []; missed = 0 }) (n (λ e. omega (arith, e))))

-- a start shows what `start` shows
start_reads : (p : Player) (ts : List Task) (m : ℕ) (t : List ℕ) (tick r : ℕ) (cells : List ℕ) (p' : Player) → XiphomeraStart p ts m t tick r cells p' → Reads r cells (started m ts t tick)
unfolding started
start_reads p ts m t tick r cells p' call = halves r cells _ call.0 (omega (arith, none (record_of m ts t tick) (start_refusal m ts t)))
  where
    none : (p : Player) (k : ℕ) → (first_shown p k).missed ≡ 0
    none p zero = refl
    none p (suc k) = refl

pub from_start : (p : Player) (ts : List Task) (m : ℕ) (t : List ℕ) (tick r : ℕ) (cells : List ℕ) (p' : Player) → XiphomeraStart p ts m t tick r cells p'
    → (a : Result Shown Refusal) × Start p ts m t tick (answered_as a) p' × Reads r cells (answered_as a)
unfolding started
from_start p ts m t tick r cells p' call =
    let (a, e) = shown_there (record { verdict = 0; cells = cells_of (record_of m ts t tick); missed = 0 }) refl (start_refusal m ts t)
    (λ x. named (start_refusal m ts t) x (omega (arith, start_most m ts t (start_of m ts t)))) in
    (a, (e, call.1), subst (Reads r cells) (sym e) (start_reads p ts m t tick r cells p' call))

-- a step shows what `step` shows
step_reads : (p : Player) (tick r : ℕ) (cells : List ℕ) (p' : Player) → XiphomeraStep p tick r cells p' → Reads r cells (stepped p tick)
unfolding stepped after_step next_of
step_reads p tick r cells p' call = halves r cells _ call.0 (few (step_refusal p.last p.h p.position p.age p.m p.n tick))
  where
    next : ℕ → Worked
    next k = next_if k p.last p.position p.age (advanced p.h p.position p.age p.m tick (elapsed_of tick p.last))

    few : (k : ℕ) → (answer_or (next k).verdict (record { verdict = 0; cells = cells_of (stored p (next k)); missed = (next k).missed })).missed < 2 ^ 32
    few zero = omega arith
    few (suc k) = omega arith

-- the refusal of a step
step_named : {p : Player} {tick k : ℕ} → OfStep p tick k → k ≢ 0 → number_of (refusal_from k) ≡ k
step_named (spoilt x) y = ap number_of (refusal_back Spoilt)
step_named (past u l) y = ap number_of (refusal_back Past)
step_named (none u l) y = absurd (y refl)

step_there : (p : Player) (tick : ℕ) → (a : Result Shown Refusal) × (answered_as a ≡ stepped p tick)
unfolding stepped after_step next_of
step_there p tick = go (due p tick) (step_named (step_of p tick))
  where
    next : ℕ → Worked
    next k = next_if k p.last p.position p.age (advanced p.h p.position p.age p.m tick (elapsed_of tick p.last))

    go : (k : ℕ) → (k ≢ 0 → number_of (refusal_from k) ≡ k)
        → (a : Result Shown Refusal) × (answered_as a ≡ answer_or (next k).verdict (record { verdict = 0; cells = cells_of (stored p (next k)); missed = (next k).missed }))
    go zero n = shown_there (record { verdict = 0; cells = cells_of (stored p (next 0)); missed = (next 0).missed }) refl 0 n
    go (suc k) n = shown_there (record { verdict = 0; cells = cells_of (stored p (next (suc k))); missed = 0 }) refl (suc k) n

pub from_step : (p : Player) (tick r : ℕ) (cells : List ℕ) (p' : Player) → XiphomeraStep p tick r cells p'
    → (a : Result Shown Refusal) × Step p tick (answered_as a) p' × Reads r cells (answered_as a)
from_step p tick r cells p' call = let (a, e) = step_there p tick in (a, (e, call.1), subst (Reads r cells) (sym e) (step_reads p tick r cells p' call))

-- a board's program
module _ (ts : List Task) (m : ℕ) (t : List ℕ) (p : Player) (tick : ℕ → ℕ) (n : ℕ) (answer : ℕ → ℕ) (cells : ℕ → List ℕ) (left : ℕ → Player)
    (board : BoardRun ts m t p tick n answer cells left) where
  -- what its calls show
  shown : ℕ → Answered
  shown zero = started m ts t (tick 0)
  shown (suc s) = stepped (left s) (tick (suc s))

  run : Run ts m t p tick n shown left
  unfolding shown
  run = record { ticks = board.ticks; starts = (refl, board.starts.1); steps = λ s l. (refl, (board.steps s l).1) }

  reads : (s : ℕ) → s ≤ n → Reads (answer s) (cells s) (shown s)
  unfolding shown
  reads zero l = start_reads p ts m t (tick 0) (answer 0) (cells 0) (left 0) board.starts
  reads (suc s) l = step_reads (left s) (tick (suc s)) (answer (suc s)) (cells (suc s)) (left (suc s)) (board.steps s l)

  -- whose start is not refused
  module _ (accepted : answer 0 / 2 ^ 32 ≡ 0) where
    valid : Checks ts m t (Ok None)
    unfolding shown
    valid = (accepts ts m t p (left 0) (tick 0) (shown 0) (refl, board.starts.1)).0 (sym (reads 0 (omega arith)).verdict ∙ accepted)

    -- with every elapsed number 1 it is shown what the table demands: each job from its first release gets at least its work inside its own window
    pub board_plays : ((s : ℕ) → s < n → elapsed_at tick s ≡ 1)
        → (shown : ℕ → Answered) × Plays m ts t n shown × ((s : ℕ) → s ≤ n → Reads (answer s) (cells s) (shown s))
    board_plays each = (shown, plays ts m t p tick n shown left valid run each, reads)

    -- and with any elapsed numbers below 2^31 the cells of the time that has passed
    pub board_keeps : ((s : ℕ) → s < n → elapsed_at tick s < 2 ^ 31)
        → (shown : ℕ → Answered) × Keeps m ts t tick n shown left × ((s : ℕ) → s ≤ n → Reads (answer s) (cells s) (shown s))
    board_keeps each = (shown, keeps ts m t p tick n shown left valid run each, reads)
