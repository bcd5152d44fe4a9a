-- What a call of each public function ensures, as its contract says, and that it leaves one answer.
-- Assumes nothing.
use Rattle.std.proofs.Common.{◌≡◌, ℕ, zero, suc, ◌≢◌, List, refl, ap, ◌∙◌}
use Rattle.std.specs.Prelude.{Result, Ok, Err}
use Rattle.laws.proofs.Only.{Says, only, only_told}
use Rattle.tasks.specs.declared.Refusal.{Refusal}
use Rattle.tasks.specs.Told.{number_of}
use Rattle.tasks.proofs.RefusalLaws.{some_number, refusal_from, refusal_back}
use Rattle.clock.specs.declared.Numbers.{Numbers}
use Rattle.clock.specs.declared.Next.{Next}
use Rattle.clock.specs.declared.Shown.{Shown}
use Rattle.clock.specs.Clock.{Worked, worked_as, next_of, shown_of, Answered, answered_as}
use Rattle.clock.specs.contracts.Numbers.next as next_call
use Rattle.clock.specs.contracts.Next.show as show_call

-- ---- an answer, from its verdict and what it holds if it is not refused
abbrev from_verdict : {A : Type 0} → ℕ → A → Result A Refusal
from_verdict zero a = Ok a
from_verdict (suc k) a = Err (refusal_from (suc k))

-- a refusal's
from_refusal : {A : Type 0} (a : A) (r : Refusal) → from_verdict (number_of r) a ≡ Err r
from_refusal {A} a r = go (number_of r) (some_number r) ∙ ap Err (refusal_back r)
  where
    go : (k : ℕ) → k ≢ 0 → from_verdict k a ≡ Err (refusal_from k)
    go zero x = absurd (x refl)
    go (suc k) x = refl

-- ---- Numbers::next
-- the answer from what is worked out
abbrev worked_from : Worked → Result Next Refusal
worked_from x = from_verdict x.verdict (record { last = x.last; missed = x.missed; at = x.at; position = record { 0 = x.position }; age = record { 0 = x.age } })

worked_back : (s : Numbers) (r : Result Next Refusal) → worked_from (worked_as s r) ≡ r
worked_back s (Ok x) = refl
worked_back s (Err r) = from_refusal _ r

abbrev pub NextOf : Numbers → ℕ → Result Next Refusal → Type 0
NextOf s tick r = worked_as s r ≡ next_of s.last s.h.0 s.position.0 s.age.0 s.m s.n tick

next_says : (κs s tick s' tick' r : _) → Says (λ M 𝓤 𝓛 mem run. next_call.ensures-1 𝓛 κs mem run s tick s' tick' r) (NextOf s tick r)
next_says κs s tick s' tick' r M 𝓤 𝓛 mem run = refl

pub next_only : (s : Numbers) (tick : ℕ) (r r' : Result Next Refusal) → NextOf s tick r → NextOf s tick r' → r ≡ r'
next_only s tick r r' = only_told (worked_as s) worked_from (worked_back s)

-- ---- Next::show
abbrev pub Show : Next → ℕ → ℕ → List ℕ → List ℕ → Shown → Type 0
Show x m n offsets cells r = r ≡ shown_of x m n offsets cells

show_says : (κs x m n offsets cells x' m' n' offsets' cells' r : _)
    → Says (λ M 𝓤 𝓛 mem run. show_call.ensures-1 𝓛 κs mem run x m n offsets cells x' m' n' offsets' cells' r) (Show x m n offsets cells r)
show_says κs x m n offsets cells x' m' n' offsets' cells' r M 𝓤 𝓛 mem run = refl

pub show_only : (x : Next) (m n : ℕ) (offsets cells : List ℕ) (r r' : Shown) → Show x m n offsets cells r → Show x m n offsets cells r' → r ≡ r'
show_only x m n offsets cells r r' = only

-- ---- what a start or a step answers
-- the answer from its numbers
abbrev answered_from : Answered → Result Shown Refusal
answered_from a = from_verdict a.verdict (record { cells = a.cells; missed = a.missed })

answered_back : (r : Result Shown Refusal) → answered_from (answered_as r) ≡ r
answered_back (Ok s) = refl
answered_back (Err r) = from_refusal _ r

-- the numbers tell all answers apart
pub answered_only : {a : Answered} {r r' : Result Shown Refusal} → answered_as r ≡ a → answered_as r' ≡ a → r ≡ r'
answered_only = only_told answered_as answered_from answered_back
