-- A problem that is read: its tasks are at most 16 and have four rates each; a file is refused by 20 to 24.
-- Assumes nothing.
use Rattle.std.proofs.Common.{ℕ, ◌≡◌, ◌≤◌, ◌<◌, true, List, [], ◌∷◌, ◌++◌, length, get_or, refl, ap, ◌∙◌, subst, arith}
use native.Mathlib.Decide.{ℕ_discrete}
use borrow.Author.Tests.{eq-eqb, ne_eqb}
use Rattle.std.proofs.Math.ListN.{length-append, get_or-append}
use Rattle.std.proofs.Math.Seq.{get_or-append_seam}
use Rattle.laws.specs.Lists.{nth}
use Rattle.tasks.specs.declared.Task.{Task}
use Rattle.tasks.specs.Task.{no_task}
use Rattle.lines.specs.Lines.{Line, bytes_of, lines}
use Rattle.frames.specs.Read.{Read, refused, problem, Reading, start, in_place, task_of, taken_frame, read_lines, read_problem}
use Rattle.frames.proofs.ReachLaws.{number_room}
use Rattle.frames.proofs.ReadLaws.{end_read, line_read, text_read}

-- at most 16 tasks, of four rates each
pub record Held (ts : List Task) : Type 0 where
  pub few : length ts ≤ 16
  pub four_rates : (k : ℕ) → k < length ts → length (get_or ts k no_task).rates.0 ≡ 4

-- one more task
pub held_more : (ts : List Task) (τ : Task) → Held ts → length ts < 16 → length τ.rates.0 ≡ 4 → Held (ts ++ (τ ∷ []))
held_more ts τ h l four = record { few = omega (arith, length-append ts (τ ∷ [])); four_rates = rates }
  where
    rates : (k : ℕ) → k < length (ts ++ (τ ∷ [])) → length (get_or (ts ++ (τ ∷ [])) k no_task).rates.0 ≡ 4
    rates k m = elim (ℕ_discrete k (length ts)) [
      | yes e ↦ ap (λ j. length (get_or (ts ++ (τ ∷ [])) j no_task).rates.0) e ∙ ap (λ t. length t.rates.0) (get_or-append_seam ts τ [] no_task) ∙ four
      | no x ↦
          let before : k < length ts = omega (arith, length-append ts (τ ∷ [])) in
          ap (λ t. length t.rates.0) (get_or-append ts (τ ∷ []) no_task k before) ∙ h.four_rates k before
    ]

-- a reading that is refused by a number of 20 to 24, or holds its tasks
data Fine : Read → Type 0 where
  no_problem : {k : ℕ} → 20 ≤ k → k ≤ 24 → Fine (refused k)
  a_problem : {m engine limit : ℕ} {ts : List Task} → Held ts → Fine (problem m ts engine limit)

lines_fine : (ls : List Line) (s : Reading) → Held s.tasks → Fine (read_lines s ls)
unfolding taken_frame task_of
lines_fine [] s h = end_read Fine (λ k. no_problem) s (a_problem h)
lines_fine (l ∷ ls) s h = line_read Fine (λ k. no_problem) l ls s (λ e. lines_fine ls (taken_frame s f) (next e))
  where
    f : List ℕ
    f = bytes_of l.text

    next : in_place (nth s.last 0) (length s.tasks) f ≡ true → Held (taken_frame s f).tasks
    next e = elim (ℕ_discrete (nth f 0) 3) [
      | yes k ↦ rw (eq-eqb (nth f 0) 3 k) (held_more s.tasks (task_of s.last f) h (number_room _ _ f e k) refl)
      | no x ↦ rw (ne_eqb (nth f 0) 3 x) h
    ]

-- every text is read so
read_fine : (text : List ℕ) → Fine (read_problem text)
read_fine text = text_read Fine (λ k. no_problem) text (lines_fine (lines text) start (record { few = omega arith; four_rates = λ k l. absurd (omega arith) }))

-- a problem that is read holds its tasks
pub read_held : (text : List ℕ) (m engine limit : ℕ) (ts : List Task) → read_problem text ≡ problem m ts engine limit → Held ts
read_held text m engine limit ts e = held (subst Fine e (read_fine text))
  where
    held : {m engine limit : ℕ} {ts : List Task} → Fine (problem m ts engine limit) → Held ts
    held (a_problem h) = h

-- a file refusal is 20 to 24
pub read_refused : (text : List ℕ) (k : ℕ) → read_problem text ≡ refused k → (20 ≤ k) × (k ≤ 24)
read_refused text k e = some (subst Fine e (read_fine text))
  where
    some : {k : ℕ} → Fine (refused k) → (20 ≤ k) × (k ≤ 24)
    some (no_problem l h) = (l, h)
