-- What each answer of the code is by the definitions: tests of ranges and rates, refusals and lengths; and what the answer of a list says.
-- Assumes nothing.
use Prim.Native.Nat.{ℕ, zero, suc, ◌+◌, ◌≤◌, ◌<◌}
use mathlib.Core.Path.{◌≡◌, refl, sym, ap, ◌∙◌, subst}
use mathlib.Core.Logic.{◌≢◌}
use mathlib.Core.Bool.{Bool, true, false, cond, not, ◌&&◌}
use mathlib.Core.List.{List}
use Rattle.std.specs.Prelude.{None, Some, Result, Ok, Err}
use Rattle.std.specs.Option.{ok_or}
use native.Mathlib.Omega.{arith}
use lib.Dec.{T, leb, ltb, eqb, le→leb}
use lib.ListN.{length}
use borrow.Author.Tests.{lt-ltb, le-ltb, le-leb, lt-leb, eq-eqb, ne_eqb, not-true, not-false}
use Rattle.laws.specs.Sum.{gate}
use Rattle.laws.specs.Lists.{nth, seek}
use Rattle.laws.specs.Lcm.{lcm_of, lcms_of}
use Rattle.laws.proofs.ListLaws.{first_is, first_none}
use Rattle.laws.proofs.TestLaws.{at_all}
use Rattle.laws.proofs.LcmLaws.{lcms_mono, lcms_next}
use Rattle.tasks.specs.declared.Slots.{Slots}
use Rattle.tasks.specs.declared.Rates.{Rates}
use Rattle.tasks.specs.declared.Task.{Task}
use Rattle.tasks.specs.declared.Refusal.{Refusal}
use Rattle.tasks.specs.declared.Refusal.TheVariants.{Length}
use Rattle.tasks.specs.Task.{task}
use Rattle.tasks.specs.Refusal.{most_rate, period_at, within, unless, or_next, rates_fit, task_refusal, list_refusal, table_length, refusal, IsSound, fits_if, length_of, sound, refused, tested_if, tested, Periods}
use Rattle.tasks.specs.Told.{number_of, tested_as}
use Rattle.tasks.proofs.SoundLaws.{rates_at, within_is, list_range}
use Rattle.tasks.proofs.RefusalLaws.{some_number}

-- ---- ranges and rates
-- a number below its range
pub within_low : (low high x : ℕ) → x < low → false ≡ within low high x
unfolding within
within_low low high x l = sym (ap (λ b. b && leb x high) (lt-leb low x l))

-- one not below it
pub within_high : (low high x : ℕ) → low ≤ x → leb x high ≡ within low high x
unfolding within
within_high low high x l = sym (ap (λ b. b && leb x high) (le-leb low x l))

-- the most that a rate may be on a core of the board
pub most_within : (j m most : ℕ) → j < m → most ≡ 15 → most ≡ most_rate m j
most_within j m most l e = e ∙ sym (ap (λ b. cond b 15 0) (lt-ltb j m l))

-- and beyond its last core
pub most_beyond : (j m most : ℕ) → m ≤ j → most ≡ 0 → most ≡ most_rate m j
most_beyond j m most l e = e ∙ sym (ap (λ b. cond b 15 0) (le-ltb j m l))

-- a rate over the most
pub rates_over : (m : ℕ) (r : Rates) (j most : ℕ) → j < 4 → most ≡ most_rate m j → most < nth r.0 j → false ≡ rates_fit m r
rates_over m r j most l e over = go (rates_fit m r) (λ t. omega (arith, rates_at m r t j l))
  where
    go : (b : Bool) → (T b → ⊥) → false ≡ b
    go true x = absurd (x tt)
    go false x = refl

-- no rate is over it
pub rates_under : (m : ℕ) (r : Rates) → ((j : ℕ) → j < 4 → nth r.0 j ≤ most_rate m j) → true ≡ rates_fit m r
unfolding rates_fit
rates_under m r h = go (rates_fit m r) (at_all 4 (λ j. leb (nth r.0 j) (most_rate m j)) (λ j l. le→leb _ _ (h j l)))
  where
    go : (b : Bool) → T b → true ≡ b
    go true t = refl
    go false t = absurd t

-- ---- refusals, test by test
-- a test that passed
pub unless_yes : (b : Bool) (k next : ℕ) → T b → unless b k next ≡ next
unfolding unless
unless_yes true k next t = refl
unless_yes false k next t = absurd t

-- one that failed
pub unless_no : (b : Bool) (k next : ℕ) → (T b → ⊥) → unless b k next ≡ k
unfolding unless
unless_no true k next x = absurd (x tt)
unless_no false k next x = refl

-- r is the test b, and it failed
pub refuses : (r b : Bool) (k next : ℕ) → r ≡ b → not r ≡ true → k ≡ unless b k next
unfolding unless
refuses r b k next e t = sym (ap (λ x. unless x k next) (sym e ∙ not-true r t))

-- it passed, and x is what comes after
pub goes_on : (r b : Bool) (x k next : ℕ) → r ≡ b → not r ≡ false → x ≡ next → x ≡ unless b k next
unfolding unless
goes_on r b x k next e t h = h ∙ sym (ap (λ x. unless x k next) (sym e ∙ not-false r t))

-- r is the first refusal y
pub or_first : (r y next : ℕ) → r ≡ y → r ≢ 0 → r ≡ or_next y next
unfolding or_next
or_first r y next e x = e ∙ sym (ap (λ b. cond b next y) (ne_eqb y 0 (λ z. x (e ∙ z))))

-- there was none, and x is what comes after
pub or_next_lem : (r y x next : ℕ) → r ≡ y → r ≡ 0 → x ≡ next → x ≡ or_next y next
unfolding or_next
or_next_lem r y x next e z h = h ∙ sym (ap (λ b. cond b next y) (eq-eqb y 0 (sym e ∙ z)))

module _ (m : ℕ) (ts : List Task) where
  -- the refusal of the task at place i, none before it being refused
  pub list_refused : (i r : ℕ) → i < length ts → ((k : ℕ) → k < i → task_refusal m (task ts (suc k)) ≡ 0)
      → r ≡ task_refusal m (task ts (suc i)) → r ≢ 0 → r ≡ list_refusal m ts
  unfolding list_refusal
  list_refused i r h none e x = e ∙ sym (first_is _ i (λ k. task_refusal m (task ts (suc k))) h none (λ z. x (e ∙ z)))

  -- none is refused
  pub list_passed : ((k : ℕ) → k < length ts → task_refusal m (task ts (suc k)) ≡ 0) → 0 ≡ list_refusal m ts
  unfolding list_refusal
  list_passed none = sym (first_none _ _ none)

-- ---- lengths
-- one turn of the loop: r is the least common multiple of h, that of the periods before place i, and the period there
pub length_next : (ts : List Task) (i h r : ℕ) → h ≡ lcms_of i (period_at ts) → r ≡ lcm_of h (period_at ts i) → r ≡ lcms_of (i + 1) (period_at ts)
length_next ts i h r e f = lcms_next i _ h r e f

-- all periods passed, and the length fits
pub length_done : (ts : List Task) (h : ℕ) → h ≡ table_length ts → h ≤ 1024 → Some (record { 0 = h }) ≡ length_of ts
unfolding length_of
length_done ts h e f = ap (λ b. fits_if b h) (sym (le-leb h 1024 f)) ∙ ap (λ x. fits_if (leb x 1024) x) e

-- a part of the periods is too long already
pub length_over : (ts : List Task) (i h : ℕ) → Periods ts → i ≤ length ts → h ≡ lcms_of i (period_at ts) → 1024 < h → None ≡ length_of ts
unfolding length_of table_length
length_over ts i h all le e l =
    let more = lcms_mono (length ts) i (period_at ts) (λ k q. (all k q).0) le in
    ap (λ b. fits_if b (table_length ts)) (sym (lt-leb (table_length ts) 1024 (omega arith)))

-- ---- soundness
-- a number that passed the test of its range
pub within_passed : (r : Bool) (low high x : ℕ) → r ≡ within low high x → not r ≡ false → (low ≤ x) × (x ≤ high)
within_passed r low high x e t = within_is low high x (subst T (sym (sym e ∙ not-false r t)) tt)

-- the periods of tasks that are not refused
pub passed_periods : (m : ℕ) (ts : List Task) → 0 ≡ list_refusal m ts → Periods ts
passed_periods m ts e k l = let t = list_range m ts (sym e) (suc k) (omega arith) l in (t.period_pos, t.period_le)

-- a list that is refused
pub refused_answer_lem : (m : ℕ) (ts : List Task) (r : Refusal) → number_of r ≡ refusal m ts → tested_as (Err r) ≡ tested m ts
unfolding tested
refused_answer_lem m ts r e = go (number_of r) (some_number r) ∙ ap (λ k. tested_if k (table_length ts)) e
  where
    go : (r : ℕ) → r ≢ 0 → refused r ≡ tested_if r (table_length ts)
    go zero x = absurd (x refl)
    go (suc r) x = refl

-- a list of 1 to 16 tasks on 1 to 4 cores
module _ (m : ℕ) (ts : List Task) (count : true ≡ within 1 16 (length ts)) (cores : true ≡ within 1 4 m) where
  -- x comes after these tests
  goes_past : (x : ℕ) → x ≡ or_next (list_refusal m ts) (unless (leb (table_length ts) 1024) 8 0) → x ≡ refusal m ts
  unfolding refusal
  goes_past x e = goes_on true _ _ _ _ count refl (goes_on true _ _ _ _ cores refl e)

  -- a task is refused
  pub task_told : (r : Refusal) → number_of r ≡ list_refusal m ts → tested_as (Err r) ≡ tested m ts
  task_told r e = refused_answer_lem m ts r (goes_past _ (or_first _ _ _ e (some_number r)))

  -- no task is refused: the length is told, or that it is too long
  pub length_told : 0 ≡ list_refusal m ts → tested_as (ok_or (length_of ts) Length) ≡ tested m ts
  unfolding length_of tested unless
  length_told none = go (leb (table_length ts) 1024) refl
    where
      go : (b : Bool) → leb (table_length ts) 1024 ≡ b → tested_as (ok_or (fits_if b (table_length ts)) Length) ≡ tested m ts
      go true e = ap (λ k. tested_if k (table_length ts)) (goes_past 0 (or_next_lem _ _ _ _ none refl (ap (λ b. unless b 8 0) (sym e))))
      go false e = refused_answer_lem m ts Length (goes_past 8 (or_next_lem _ _ _ _ none refl (ap (λ b. unless b 8 0) (sym e))))

-- ---- no refusal of a list is above 8
-- a test that refuses by k
unless_most : (b : Bool) {k next n : ℕ} → k ≤ n → next ≤ n → unless b k next ≤ n
unfolding unless
unless_most true a l = l
unless_most false a l = a

-- a task
task_most : (m : ℕ) (τ : Task) → task_refusal m τ ≤ 8
unfolding task_refusal
task_most m τ = unless_most _ (omega arith) (unless_most _ (omega arith) (unless_most _ (omega arith) (unless_most _ (omega arith) (unless_most (rates_fit m τ.rates) (omega arith) (omega arith)))))

-- the first of some tasks
list_most : (m : ℕ) (ts : List Task) → list_refusal m ts ≤ 8
unfolding list_refusal gate
list_most m ts = go (ltb (seek (length ts) at) (length ts)) (seek (length ts) at)
  where
    at : ℕ → ℕ
    at k = task_refusal m (task ts (suc k))

    go : (b : Bool) (k : ℕ) → gate b (at k) ≤ 8
    go true k = task_most m (task ts (suc k))
    go false k = omega arith

-- a list
pub refusal_most : (m : ℕ) (ts : List Task) → refusal m ts ≤ 8
unfolding refusal or_next
refusal_most m ts = unless_most _ (omega arith) (unless_most _ (omega arith) (go (eqb (list_refusal m ts) 0)))
  where
    go : (b : Bool) → cond b (unless (leb (table_length ts) 1024) 8 0) (list_refusal m ts) ≤ 8
    go true = unless_most _ {k = 8} {next = 0} (omega arith) (omega arith)
    go false = list_most m ts

-- ---- what the answer of a list says
module _ (m : ℕ) (ts : List Task) (s : Result Slots Refusal) (e : tested_as s ≡ tested m ts) where
  -- a list that is told as sound is so, with its table's length
  pub tested_sound : (h : Slots) → s ≡ Ok h → IsSound m ts × (h.0 ≡ table_length ts)
  unfolding tested
  tested_sound h q = go (refusal m ts) (sym (ap tested_as q) ∙ e)
    where
      go : (r : ℕ) → sound h.0 ≡ tested_if r (table_length ts) → (r ≡ 0) × (h.0 ≡ table_length ts)
      go zero e = (refl, cc)
      go (suc r) e = let z : ◌≡◌ {A = ℕ} 0 1 = cc in absurd (omega arith)

  -- the number of what is told of a list refuses it
  pub tested_refused : (r : Refusal) → s ≡ Err r → (number_of r ≡ refusal m ts) × (number_of r ≢ 0)
  unfolding tested
  tested_refused r q = (go (refusal m ts) (sym (ap tested_as q) ∙ e), some_number r)
    where
      go : (k : ℕ) → refused (number_of r) ≡ tested_if k (table_length ts) → number_of r ≡ k
      go zero e = let z : ◌≡◌ {A = ℕ} 0 1 = cc in absurd (omega arith)
      go (suc k) e = cc
