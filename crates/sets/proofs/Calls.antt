-- What a call of each public function ensures, as its contract says, and that it leaves one answer.
-- Assumes nothing.
use Prim.Native.Nat.{ℕ}
use mathlib.Core.Path.{◌≡◌, refl}
use Rattle.laws.proofs.Only.{Says, only}
use Rattle.sets.specs.Sets.{of_core, lowest, without, pushed, common, on_cores, from_rank}
use Rattle.sets.specs.contracts.of_core as of_core_call
use Rattle.sets.specs.contracts.lowest as lowest_task_call
use Rattle.sets.specs.contracts.without as without_task_call
use Rattle.sets.specs.contracts.pushed as pushed_cores_call
use Rattle.sets.specs.contracts.common as common_tasks_call
use Rattle.sets.specs.contracts.on_cores as on_cores_call
use Rattle.sets.specs.contracts.from_rank as from_rank_call

-- ---- of_core
abbrev pub OfCore : ℕ → ℕ → ℕ → Type 0
OfCore sets core r = r ≡ of_core sets core

of_core_says : (κs sets core sets' core' r : _) → Says (λ M 𝓤 𝓛 mem run. of_core_call.ensures-1 𝓛 κs mem run sets core sets' core' r) (OfCore sets core r)
of_core_says κs sets core sets' core' r M 𝓤 𝓛 mem run = refl

pub of_core_only : (sets core r r' : ℕ) → OfCore sets core r → OfCore sets core r' → r ≡ r'
of_core_only sets core r r' = only

-- ---- lowest
abbrev pub Lowest : ℕ → ℕ → Type 0
Lowest set r = r ≡ lowest set

lowest_says : (κs set set' r : _) → Says (λ M 𝓤 𝓛 mem run. lowest_task_call.ensures-1 𝓛 κs mem run set set' r) (Lowest set r)
lowest_says κs set set' r M 𝓤 𝓛 mem run = refl

pub lowest_only : (set r r' : ℕ) → Lowest set r → Lowest set r' → r ≡ r'
lowest_only set r r' = only

-- ---- without
abbrev pub Without : ℕ → ℕ → ℕ → Type 0
Without sets task r = r ≡ without sets task

without_says : (κs sets task sets' task' r : _) → Says (λ M 𝓤 𝓛 mem run. without_task_call.ensures-1 𝓛 κs mem run sets task sets' task' r) (Without sets task r)
without_says κs sets task sets' task' r M 𝓤 𝓛 mem run = refl

pub without_only : (sets task r r' : ℕ) → Without sets task r → Without sets task r' → r ≡ r'
without_only sets task r r' = only

-- ---- pushed
abbrev pub Pushed : ℕ → ℕ → ℕ → Type 0
Pushed sets cores r = r ≡ pushed sets cores

pushed_says : (κs sets cores sets' cores' r : _) → Says (λ M 𝓤 𝓛 mem run. pushed_cores_call.ensures-1 𝓛 κs mem run sets cores sets' cores' r) (Pushed sets cores r)
pushed_says κs sets cores sets' cores' r M 𝓤 𝓛 mem run = refl

pub pushed_only : (sets cores r r' : ℕ) → Pushed sets cores r → Pushed sets cores r' → r ≡ r'
pushed_only sets cores r r' = only

-- ---- common
abbrev pub Common : ℕ → ℕ → ℕ → Type 0
Common a b r = r ≡ common a b

common_says : (κs a b a' b' r : _) → Says (λ M 𝓤 𝓛 mem run. common_tasks_call.ensures-1 𝓛 κs mem run a b a' b' r) (Common a b r)
common_says κs a b a' b' r M 𝓤 𝓛 mem run = refl

pub common_only : (a b r r' : ℕ) → Common a b r → Common a b r' → r ≡ r'
common_only a b r r' = only

-- ---- on_cores
abbrev pub OnCores : ℕ → ℕ → Type 0
OnCores set r = r ≡ on_cores set

on_cores_says : (κs set set' r : _) → Says (λ M 𝓤 𝓛 mem run. on_cores_call.ensures-1 𝓛 κs mem run set set' r) (OnCores set r)
on_cores_says κs set set' r M 𝓤 𝓛 mem run = refl

pub on_cores_only : (set r r' : ℕ) → OnCores set r → OnCores set r' → r ≡ r'
on_cores_only set r r' = only

-- ---- from_rank
abbrev pub FromRank : ℕ → ℕ → ℕ → Type 0
FromRank set rank r = r ≡ from_rank set rank

from_rank_says : (κs set rank set' rank' r : _) → Says (λ M 𝓤 𝓛 mem run. from_rank_call.ensures-1 𝓛 κs mem run set rank set' rank' r) (FromRank set rank r)
from_rank_says κs set rank set' rank' r M 𝓤 𝓛 mem run = refl

pub from_rank_only : (set rank r r' : ℕ) → FromRank set rank r → FromRank set rank r' → r ≡ r'
from_rank_only set rank r r' = only
