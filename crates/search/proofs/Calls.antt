-- What a call of `search` ensures, as its contract says, and that it leaves one answer and one buffer.
-- Assumes nothing.
use Prim.Native.Nat.{ℕ}
use mathlib.Core.Path.{◌≡◌, refl, ap, ◌∙◌, sym}
use mathlib.Core.List.{List}
use Rattle.std.specs.Prelude.{Result, Ok, Err}
use Rattle.laws.proofs.Only.{Says, only}
use Rattle.tasks.specs.declared.Task.{Task}
use Rattle.tasks.specs.declared.Refusal.{Refusal}
use Rattle.rules.specs.Search.{Searched, search}
use Rattle.search.specs.declared.Answer.{Answer}
use Rattle.search.specs.Told.{searched_as}
use Rattle.search.specs.contracts.search as the_search_call
use Rattle.search.proofs.AnswerLaws.{answer_from, answer_back}

-- what is told of an answer and a buffer tells them apart from all others
pub told_only : {x : Searched} (r r' : Result Answer Refusal) (t t' : List ℕ) → searched_as r t ≡ x → searched_as r' t' ≡ x → (r ≡ r') × (t ≡ t')
told_only r r' t t' e e' =
    let both = only e e' in
    (sym (answer_back r t) ∙ ap answer_from both ∙ answer_back r' t', sym (buffer_back r t) ∙ ap (λ x. x.buffer) both ∙ buffer_back r' t')
  where
    buffer_back : (r : Result Answer Refusal) (t : List ℕ) → (searched_as r t).buffer ≡ t
    buffer_back (Ok r) t = refl
    buffer_back (Err r) t = refl

-- ---- search: it finds the buffer t, answers r and leaves the buffer t'
abbrev pub Search : List Task → ℕ → ℕ → ℕ → List ℕ → Result Answer Refusal → List ℕ → Type 0
Search ts m e b t r t' = searched_as r t' ≡ search m ts e b t

search_says : (κs tasks m engine limit table tasks' m' engine' limit' table' r : _)
    → Says (λ M 𝓤 𝓛 mem run. the_search_call.ensures-1 𝓛 κs mem run tasks m engine limit table tasks' m' engine' limit' table' r)
    (Search tasks'.entry.now m engine limit table'.entry.now r table'.exit.now)
search_says κs tasks m engine limit table tasks' m' engine' limit' table' r M 𝓤 𝓛 mem run = refl

pub search_only : (ts : List Task) (m e b : ℕ) (t : List ℕ) (r r' : Result Answer Refusal) (u u' : List ℕ)
    → Search ts m e b t r u → Search ts m e b t r' u' → (r ≡ r') × (u ≡ u')
search_only ts m e b t r r' u u' = told_only r r' u u'
