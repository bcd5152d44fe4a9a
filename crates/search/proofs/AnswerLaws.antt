-- What the search answers: a refusal, or what the walk tells.
-- Assumes nothing.
use Prim.Native.Nat.{ℕ, ◌*◌, ◌≤◌, ◌<◌}
use mathlib.Core.Path.{◌≡◌, refl, sym, ap, ◌∙◌}
use mathlib.Core.Bool.{Bool, true, false, not, cond, ◌||◌}
use lib.Dec.{eqb}
use mathlib.Core.List.{List, ◌++◌}
use native.Mathlib.Omega.{arith}
use native.Mathlib.Nat.{mul-le-mul}
use lib.ListN.{length, drop}
use Rattle.laws.specs.Lists.{over}
use borrow.Author.Tests.{le-leb, lt-leb}
use Rattle.std.specs.Prelude.{Result, Ok, Err}
use Rattle.tasks.specs.declared.Slots.{Slots}
use Rattle.tasks.specs.declared.Task.{Task}
use Rattle.tasks.specs.declared.Refusal.{Refusal}
use Rattle.tasks.specs.declared.Refusal.TheVariants.{Count, Cores, Period, Deadline, Work, Offset, Rate, Length, Engine, Buffer, Table, Spoilt, Past, Text, Line, Kind, FrameLength, Place}
use Rattle.tasks.specs.Refusal.{unless, or_next, table_length, IsSound, tested}
use Rattle.tasks.specs.Told.{number_of, tested_as}
use Rattle.tasks.specs.Instance.{instance_of}
use Rattle.tasks.proofs.SoundLaws.{sound_list}
use Rattle.tasks.proofs.RefusalLaws.{some_number, refusal_from, refusal_back}
use Rattle.tasks.proofs.AnswerLaws.{or_first, tested_sound, tested_refused}
use Rattle.rules.specs.Search.{Searched, search_refusal, search}
use Rattle.rules.proofs.Told.{search_told_lem, refused_told}
use Rattle.search.specs.declared.Outcome.{Outcome}
use Rattle.search.specs.declared.Outcome.TheVariants.{Found, NoTable, Stopped}
use Rattle.search.specs.declared.Answer.{Answer}
use Rattle.search.specs.Told.{verdict_of, walk_told, searched_as}

-- the cells of a sound list's table
pub few_cells : (m : ℕ) (ts : List Task) (L : ℕ) → IsSound m ts → L ≡ table_length ts → L * m ≤ 4096
few_cells m ts L s e = let sound = sound_list m ts s in mul-le-mul {n₂ = 1024} {m₂ = 4} (omega arith) sound.few_cores

-- n cells written over the start of a buffer
pub written : (s r buffer : List ℕ) (n : ℕ) → r ≡ s → length s ≡ n → r ++ drop n buffer ≡ over s buffer
unfolding over
written s r buffer n er es = rw (er, es)

module _ (m : ℕ) (ts : List Task) (e b : ℕ) (buffer : List ℕ) where
  -- a refusal
  refused_by : (r : Refusal) → number_of r ≡ search_refusal m ts e (length buffer) → searched_as (Err r) buffer ≡ search m ts e b buffer
  refused_by r h = sym (refused_told m ts e b buffer (number_of r) (sym h) (some_number r))

  -- of the list
  pub list_refused : (r : Refusal) → tested_as (Err r) ≡ tested m ts → searched_as (Err r) buffer ≡ search m ts e b buffer
  unfolding search_refusal
  list_refused r h = refused_by r (or_first _ _ _ (tested_refused m ts (Err r) h r refl).0 (some_number r))

  module _ (L : Slots) (told : tested_as (Ok L) ≡ tested m ts) where
    -- of the engine
    pub engine_refused : 1 < e → searched_as (Err Engine) buffer ≡ search m ts e b buffer
    unfolding search_refusal unless or_next
    engine_refused l = refused_by Engine (rw ((tested_sound m ts (Ok L) told L refl).0, lt-leb e 1 l))

    module _ (few : e ≤ 1) where
      -- of the buffer
      pub buffer_refused : length buffer < L.0 * m → searched_as (Err Buffer) buffer ≡ search m ts e b buffer
      unfolding search_refusal unless or_next instance_of
      buffer_refused short =
          let sound = tested_sound m ts (Ok L) told L refl in
          refused_by Buffer (rw (sound.0, le-leb e 1 few, lt-leb (table_length ts * m) (length buffer) (rw sound.1 at short)))

      -- no refusal
      pub walk_answer_lem : L.0 * m ≤ length buffer → (x : Searched) → x ≡ walk_told m ts e b buffer → x ≡ search m ts e b buffer
      unfolding walk_told instance_of
      walk_answer_lem room x h =
          let sound = tested_sound m ts (Ok L) told L refl in
          h ∙ sym (search_told_lem m ts e b buffer sound.0 few (rw sound.1 at room))

-- ---- an answer by what is told
-- the outcome of a verdict
outcome_from : ℕ → Outcome
outcome_from n = cond (eqb n 0) Found (cond (eqb n 13) NoTable Stopped)

outcome_back : (o : Outcome) → outcome_from (verdict_of o) ≡ o
unfolding outcome_from
outcome_back Found = refl
outcome_back NoTable = refl
outcome_back Stopped = refl

-- a verdict is none of the numbers that refuse
is_refusal : ℕ → Bool
is_refusal n = not (eqb n 0 || eqb n 13 || eqb n 14)

verdict_not : (o : Outcome) → is_refusal (verdict_of o) ≡ false
unfolding is_refusal
verdict_not Found = refl
verdict_not NoTable = refl
verdict_not Stopped = refl

number_is : (r : Refusal) → is_refusal (number_of r) ≡ true
unfolding is_refusal
number_is Count = refl
number_is Cores = refl
number_is Period = refl
number_is Deadline = refl
number_is Work = refl
number_is Offset = refl
number_is Rate = refl
number_is Length = refl
number_is Engine = refl
number_is Buffer = refl
number_is Table = refl
number_is Spoilt = refl
number_is Past = refl
number_is Text = refl
number_is Line = refl
number_is Kind = refl
number_is FrameLength = refl
number_is Place = refl

-- the answer that is told
pub answer_from : Searched → Result Answer Refusal
answer_from s = cond (is_refusal s.verdict) (Err (refusal_from s.verdict)) (Ok (record { outcome = outcome_from s.verdict; tries = s.tries }))

pub answer_back : (r : Result Answer Refusal) (t : List ℕ) → answer_from (searched_as r t) ≡ r
unfolding answer_from
answer_back (Ok r) t = rw (verdict_not r.outcome) (λ i. Ok (record { outcome = outcome_back r.outcome i; tries = r.tries }))
answer_back (Err r) t = rw (number_is r) (ap Err (refusal_back r))
