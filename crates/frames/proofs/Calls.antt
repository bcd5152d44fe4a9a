-- What a call of each public function ensures, as its contract says, and that it leaves one answer; text is only read.
-- Assumes nothing.
use Rattle.std.proofs.Common.{ℕ, ◌≡◌, List, refl, sym, ap, ◌∙◌, Result, Ok, Err}
use Rattle.laws.proofs.Only.{Says, only}
use Rattle.tasks.specs.declared.Refusal.{Refusal}
use Rattle.tasks.specs.declared.Task.{Task}
use Rattle.tasks.specs.Told.{number_of}
use Rattle.tasks.proofs.RefusalLaws.{refusal_from, refusal_back}
use Rattle.frames.specs.declared.Problem.{Problem}
use Rattle.frames.specs.Read.{read_problem}
use Rattle.frames.specs.Told.{listed, read_as}
use Rattle.frames.proofs.ListLaws.{same_problem}
use Rattle.frames.specs.contracts.Problem.tasks as tasks_call
use Rattle.frames.specs.contracts.read_problem as read_problem_call

-- ---- Problem::tasks
tasks_says : (κs self self' r : _) → Says (λ M 𝓤 𝓛 mem run. tasks_call.ensures-1 𝓛 κs mem run self self' r) (r.now ≡ listed self'.entry.now.tasks)
tasks_says κs self self' r M 𝓤 𝓛 mem run = refl

pub tasks_only : (p : Problem) (r r' : List Task) → r ≡ listed p.tasks → r' ≡ listed p.tasks → r ≡ r'
tasks_only p r r' = only

-- ---- read_problem
-- one answer for what is told
read_same : (r r' : Result Problem Refusal) → read_as r ≡ read_as r' → r ≡ r'
read_same (Ok p) (Ok q) e =
    let m : p.m ≡ q.m = cc in
    let ts : listed p.tasks ≡ listed q.tasks = cc in
    let engine : p.engine ≡ q.engine = cc in
    let limit : p.limit ≡ q.limit = cc in
    ap Ok (same_problem p q m ts engine limit)
read_same (Ok p) (Err k) e = let none : ⊥ = cc in absurd none
read_same (Err k) (Ok p) e = let none : ⊥ = cc in absurd none
read_same (Err k) (Err l) e =
    let same : number_of k ≡ number_of l = cc in
    ap Err (sym (refusal_back k) ∙ ap refusal_from same ∙ refusal_back l)

abbrev pub ReadProblem : List ℕ → Result Problem Refusal → Type 0
ReadProblem text r = read_as r ≡ read_problem text

read_problem_says : (κs text text' r : _) → Says (λ M 𝓤 𝓛 mem run. read_problem_call.ensures-1 𝓛 κs mem run text text' r) (ReadProblem text'.entry.now r)
read_problem_says κs text text' r M 𝓤 𝓛 mem run = refl

pub read_problem_only : (text : List ℕ) (r r' : Result Problem Refusal) → ReadProblem text r → ReadProblem text r' → r ≡ r'
read_problem_only text r r' h h' = read_same r r' (only h h')
