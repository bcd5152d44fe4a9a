-- A reader's places: its tasks are all that they hold.
-- Assumes nothing.
use Rattle.std.proofs.Common.{ℕ, ◌≡◌, ◌-◌, ◌≤◌, ◌++◌, List, length, drop, replicate, sym, ap, ap₂, subst₂, ◌∙◌, arith}
use Rattle.std.proofs.lemmas.List.{length-take-le, take-append-drop}
use Rattle.std.specs.Coded.{le_prop, Coded-set, coded_ℕ, coded_list, coded×, code_by}
use Rattle.tasks.specs.declared.Task.{Task}
use Rattle.frames.specs.declared.task_list.TaskList.{TaskList}
use Rattle.frames.specs.declared.Problem.{Problem}
use Rattle.frames.specs.Blank.{blank}
use Rattle.frames.specs.Told.{listed}

-- what a list holds beside its tasks
abbrev Behind : List Task → ℕ → Type 0
Behind places count = (count ≤ 16) × (length places ≡ 16) × (drop count places ≡ replicate (16 - count) blank)

behind_prop : (places : List Task) (count : ℕ) → IsProp (Behind places count)
behind_prop places count = hlevel (le_prop, Coded-set, coded_ℕ, coded_list, coded×, code_by)

module _ (l : TaskList) where
  count_is : length (listed l) ≡ l.count
  count_is = length-take-le l.count l.places (omega (arith, l.behind.0, l.behind.1))

  places_are : l.places ≡ listed l ++ replicate (16 - l.count) blank
  places_are = sym (take-append-drop l.count l.places) ∙ ap (λ r. listed l ++ r) l.behind.2

-- two lists of the same tasks are one
pub same_list : (a b : TaskList) → listed a ≡ listed b → a ≡ b
same_list a b e = alike count places b.behind
  where
    count : a.count ≡ b.count
    count = sym (count_is a) ∙ ap length e ∙ count_is b

    places : a.places ≡ b.places
    places = places_are a ∙ ap₂ (λ ts n. ts ++ replicate (16 - n) blank) e count ∙ sym (places_are b)

    made : (places : List Task) (count : ℕ) → Behind places count → TaskList
    made p c h = record { places = p; count = c; behind = h }

    alike : {p : List Task} {c : ℕ} → a.count ≡ c → a.places ≡ p → (h : Behind p c) → a ≡ made p c h
    alike q r = subst₂ (λ c p. (h : Behind p c) → a ≡ made p c h) q r (λ h. ap (made a.places a.count) (behind_prop a.places a.count a.behind h))

-- so are two problems of the same parts
pub same_problem : (p q : Problem) → p.m ≡ q.m → listed p.tasks ≡ listed q.tasks → p.engine ≡ q.engine → p.limit ≡ q.limit → p ≡ q
same_problem p q m ts engine limit = λ i. record { m = m i; tasks = same_list p.tasks q.tasks ts i; engine = engine i; limit = limit i }
