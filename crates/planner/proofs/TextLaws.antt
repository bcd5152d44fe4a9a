-- What is written is the answer to the text: the size of its table, its verdict and its lines.
-- Assumes nothing.
use Prim.Native.Nat.{ℕ, ◌*◌, ◌≤◌}
use native.Mathlib.Omega.{arith}
use native.Mathlib.Nat.{mul-le-mul}
use mathlib.Core.Path.{◌≡◌, refl, sym, ap, subst₂, ◌∙◌}
use mathlib.Core.Logic.{◌≢◌}
use mathlib.Core.Bool.{Bool, true, false, cond, ◌&&◌}
use mathlib.Core.List.{List, []}
use lib.Dec.{leb}
use lib.ListN.{length, drop, replicate, length-append}
use borrow.Author.Tests.{ne_eqb, le-leb}
use Rattle.laws.specs.Sum.{gate}
use Rattle.laws.specs.Lists.{over}
use Rattle.std.specs.Prelude.{Result, Ok, Err}
use Rattle.tasks.specs.declared.Task.{Task}
use Rattle.tasks.specs.declared.Slots.{Slots}
use Rattle.tasks.specs.declared.Refusal.{Refusal}
use Rattle.tasks.specs.Refusal.{table_length, tested}
use Rattle.tasks.specs.Told.{number_of, tested_as}
use Rattle.tasks.proofs.SoundLaws.{sound_list}
use Rattle.tasks.proofs.RefusalLaws.{some_number}
use Rattle.tasks.proofs.AnswerLaws.{or_first, tested_sound, tested_refused}
use Rattle.rules.specs.Search.{search_refusal, search}
use Rattle.rules.proofs.Told.{refused_told}
use Rattle.frames.specs.Read.{refused, problem, read_problem}
use Rattle.answer.specs.Write.{slot_lines, write_answer, can_write, Written}
use Rattle.search.specs.declared.Answer.{Answer}
use Rattle.search.specs.Told.{verdict_of, searched_as}
use Rattle.planner.specs.Answer.{search_answer, answer_to_read, answer_to}
use Rattle.planner.specs.Told.{planned_text}

-- ---- what is written
-- two tests, the second of which passes
and_true : (b : Bool) → b && true ≡ b
and_true true = refl
and_true false = refl

-- no slot lines: neither slots nor table are looked at
written_same : (v k H m H' m' : ℕ) (t t' : List ℕ) → v ≢ 0 → write_answer v k H m t ≡ write_answer v k H' m' t'
unfolding write_answer slot_lines gate
written_same v k H m H' m' t t' x = rw (ne_eqb v 0 x)

-- a refusal is written with no slot lines
refusal_same : (r : Refusal) (H m : ℕ) (t t' : List ℕ) → write_answer (number_of r) 0 0 0 t ≡ write_answer (number_of r) 0 H m t'
refusal_same r H m t t' = written_same (number_of r) 0 0 0 H m t t' (some_number r)

module _ (text : List ℕ) (t : List ℕ) where
  -- a text that is refused
  pub text_refused : (r : Refusal) → refused (number_of r) ≡ read_problem text → planned_text (Err r) t ≡ answer_to text
  unfolding planned_text answer_to_read
  text_refused r e = refusal_same r 0 0 t [] ∙ ap answer_to_read e

  module _ (m : ℕ) (ts : List Task) (e b : ℕ) (reads : problem m ts e b ≡ read_problem text) where
    -- one whose problem is refused
    refusal_told : (r : Refusal) → search m ts e b (replicate 4096 0) ≡ record { verdict = number_of r; tries = 0; buffer = replicate 4096 0 }
        → planned_text (Err r) t ≡ answer_to text
    unfolding planned_text answer_to_read search_answer
    refusal_told r h =
        refusal_same r (table_length ts) m t (replicate 4096 0)
        ∙ ap (λ s. write_answer s.verdict s.tries (table_length ts) m s.buffer) (sym h)
        ∙ ap answer_to_read reads

    -- by its list
    pub list_refused : (r : Refusal) → tested_as (Err r) ≡ tested m ts → planned_text (Err r) t ≡ answer_to text
    unfolding search_refusal
    list_refused r h =
        let is = (tested_refused m ts (Err r) h r refl).0 in
        refusal_told r (refused_told m ts e b (replicate 4096 0) (number_of r) (sym (or_first _ _ _ is (some_number r))) (some_number r))

    -- by its engine
    pub search_refused : (r : Refusal) {u : List ℕ} → searched_as (Err r) u ≡ search m ts e b (replicate 4096 0) → planned_text (Err r) t ≡ answer_to text
    unfolding planned_text answer_to_read search_answer
    search_refused r {u} h =
        refusal_same r (table_length ts) m t u
        ∙ ap (λ s. write_answer s.verdict s.tries (table_length ts) m s.buffer) h
        ∙ ap answer_to_read reads

    -- and one whose list was searched
    pub searched_told : (a : Answer) (h : Slots) → h.0 ≡ table_length ts → searched_as (Ok a) t ≡ search m ts e b (replicate 4096 0)
        → planned_text (Ok (record { answer = a; slots = h; m = m })) t ≡ answer_to text
    unfolding planned_text answer_to_read search_answer
    searched_told a h l s =
        ap (λ H. write_answer (verdict_of a.outcome) a.tries H m t) l
        ∙ ap (λ s. write_answer s.verdict s.tries (table_length ts) m s.buffer) s
        ∙ ap answer_to_read reads

-- the size of a sound list's table
pub size_few : (m : ℕ) (ts : List Task) (s : Result Slots Refusal) (h : Slots) → tested_as s ≡ tested m ts → s ≡ Ok h → (h.0 ≤ 1024) × (m ≤ 4)
size_few m ts s h e q = let k = tested_sound m ts s e h q in let l = sound_list m ts k.0 in (omega (arith, k.1, l.few_slots), l.few_cores)

-- it can be written wherever there is room
pub can_write_all : (slots m cells room : ℕ) → slots ≤ 1024 → m ≤ 4 → cells ≡ 4096 → can_write slots m cells room ≡ leb 15376 room
unfolding can_write
can_write_all slots m cells room few_slots few_cores ec =
    rw (le-leb slots 1024 few_slots, le-leb m 4 few_cores, le-leb (slots * m) cells (rw ec (mul-le-mul {n₂ = 1024} {m₂ = 4} few_slots few_cores))) (and_true (leb 15376 room))

-- the same for no table
pub can_refuse : (cells room : ℕ) → can_write 0 0 cells room ≡ leb 15376 room
unfolding can_write
can_refuse cells room = rw (le-leb 0 cells (omega arith)) (and_true (leb 15376 room))

-- what a writer left is what the planner leaves
pub written_as : {can can' : Bool} {text text' out out' : List ℕ} {r : ℕ} → can ≡ can' → text ≡ text' → Written can text out r out' → Written can' text' out r out'
written_as {out = out} {out' = out'} {r = r} ec et w = subst₂ (λ c x. Written c x out r out') ec et w

-- what was written lies within the buffer
pub within_out : {can : Bool} {text out out' : List ℕ} {r : ℕ} → Written can text out r out' → length out' ≡ length out → r ≤ length out'
unfolding over gate
within_out {can} {text} {out} {out'} {r} w e = go can w.count w.holds
  where
    go : (c : Bool) → r ≡ gate c (length text) → out' ≡ cond c (over text out) out → r ≤ length out'
    go true h k = omega (arith, h, e, ap length k ∙ length-append text (drop (length text) out))
    go false h k = omega arith
