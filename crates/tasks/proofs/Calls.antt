-- What a call of each public function ensures, as its contract says, and that it leaves one answer.
-- Assumes nothing.
use Prim.Native.Nat.{ℕ}
use mathlib.Core.Logic.{◌≢◌}
use mathlib.Core.Path.{◌≡◌, refl, ap}
use mathlib.Core.List.{List}
use Rattle.std.specs.Prelude.{Result, Ok, Err}
use Rattle.laws.specs.Lists.{nth}
use Rattle.laws.proofs.Only.{Says, only, only_told}
use Rattle.tasks.specs.declared.Slots.{Slots}
use Rattle.tasks.specs.declared.Work.{Work}
use Rattle.tasks.specs.declared.Rates.{Rates}
use Rattle.tasks.specs.declared.Task.{Task}
use Rattle.tasks.specs.declared.Refusal.{Refusal}
use Rattle.tasks.specs.Task.{work_in}
use Rattle.tasks.specs.Refusal.{task_refusal, table_length, refusal, IsSound, Tested, sound, refused, tested}
use Rattle.tasks.specs.Told.{number_of, refusal_of, tested_as}
use Rattle.tasks.proofs.RefusalLaws.{refusal_from, refusal_back, done_from, done_back}
use Rattle.tasks.proofs.AnswerLaws.{tested_sound, tested_refused}
use Rattle.tasks.specs.contracts.Rates.on as on_call
use Rattle.tasks.specs.contracts.work_in as work_in_call
use Rattle.tasks.specs.contracts.test_task as test_task_call
use Rattle.tasks.specs.contracts.test_list as test_list_call

-- ---- Rates::on
on_says : (κs rates core rates' core' r : _) → Says (λ M 𝓤 𝓛 mem run. on_call.ensures-1 𝓛 κs mem run rates core rates' core' r) (r ≡ nth rates.0 core)
on_says κs rates core rates' core' r M 𝓤 𝓛 mem run = refl

pub on_only : (rates : Rates) (core r r' : ℕ) → r ≡ nth rates.0 core → r' ≡ nth rates.0 core → r ≡ r'
on_only rates core r r' = only

-- ---- work_in
work_in_says : (κs rate slots rate' slots' r : _) → Says (λ M 𝓤 𝓛 mem run. work_in_call.ensures-1 𝓛 κs mem run rate slots rate' slots' r) (r ≡ work_in rate slots)
work_in_says κs rate slots rate' slots' r M 𝓤 𝓛 mem run = refl

pub work_in_only : (rate : ℕ) (slots : Slots) (r r' : Work) → r ≡ work_in rate slots → r' ≡ work_in rate slots → r ≡ r'
work_in_only rate slots r r' = only

-- ---- test_task
abbrev pub TestTask : Task → ℕ → Result (Unit {0}) Refusal → Type 0
TestTask t m r = refusal_of r ≡ task_refusal m t

test_task_says : (κs t m t' m' r : _) → Says (λ M 𝓤 𝓛 mem run. test_task_call.ensures-1 𝓛 κs mem run t m t' m' r) (TestTask t m r)
test_task_says κs t m t' m' r M 𝓤 𝓛 mem run = refl

pub test_task_only : (t : Task) (m : ℕ) (r r' : Result (Unit {0}) Refusal) → TestTask t m r → TestTask t m r' → r ≡ r'
test_task_only t m r r' = only_told refusal_of done_from done_back

-- ---- test_list
-- the answer from what is told
tested_from : Tested → Result Slots Refusal
tested_from (sound h) = Ok (record { 0 = h })
tested_from (refused number) = Err (refusal_from number)

-- is the answer
tested_back : (r : Result Slots Refusal) → tested_from (tested_as r) ≡ r
unfolding tested_from
tested_back (Ok h) = refl
tested_back (Err r) = ap Err (refusal_back r)

abbrev pub TestList : List Task → ℕ → Result Slots Refusal → Type 0
TestList ts m r = tested_as r ≡ tested m ts

test_list_says : (κs tasks m tasks' m' r : _) → Says (λ M 𝓤 𝓛 mem run. test_list_call.ensures-1 𝓛 κs mem run tasks m tasks' m' r) (TestList tasks'.entry.now m r)
test_list_says κs tasks m tasks' m' r M 𝓤 𝓛 mem run = refl

pub test_list_only : (ts : List Task) (m : ℕ) (r r' : Result Slots Refusal) → TestList ts m r → TestList ts m r' → r ≡ r'
test_list_only ts m r r' = only_told tested_as tested_from tested_back

-- the cases: sound, none of 1 to 8 refuses the list, and H slots
pub test_list_sound : (ts : List Task) (m : ℕ) (h : Slots) → TestList ts m (Ok h) → IsSound m ts × (h.0 ≡ table_length ts)
test_list_sound ts m h e = tested_sound m ts (Ok h) e h refl

-- refused, by that number
pub test_list_refused : (ts : List Task) (m : ℕ) (r : Refusal) → TestList ts m (Err r) → (number_of r ≡ refusal m ts) × (number_of r ≢ 0)
test_list_refused ts m r e = tested_refused m ts (Err r) e r refl
