-- Refusals and their numbers.
-- Assumes nothing.
use Prim.Native.Nat.{ℕ, zero, suc, ◌≤◌}
use mathlib.Core.Path.{◌≡◌, refl, ap, ◌∙◌}
use mathlib.Core.Logic.{◌≢◌}
use native.Mathlib.Omega.{arith}
use Rattle.std.specs.Prelude.{List, [], ◌∷◌, get_or, Result, Ok, Err}
use Rattle.tasks.specs.declared.Refusal.{Refusal}
use Rattle.tasks.specs.declared.Refusal.TheVariants.{Count, Cores, Period, Deadline, Work, Offset, Rate, Length, Engine, Buffer, Table, Spoilt, Past, Text, Line, Kind, FrameLength, Place}
use Rattle.tasks.specs.Told.{number_of, refusal_of}

-- each has a number that is not 0
pub some_number : (r : Refusal) → number_of r ≢ 0
some_number Count = λ z. omega arith
some_number Cores = λ z. omega arith
some_number Period = λ z. omega arith
some_number Deadline = λ z. omega arith
some_number Work = λ z. omega arith
some_number Offset = λ z. omega arith
some_number Rate = λ z. omega arith
some_number Length = λ z. omega arith
some_number Engine = λ z. omega arith
some_number Buffer = λ z. omega arith
some_number Table = λ z. omega arith
some_number Spoilt = λ z. omega arith
some_number Past = λ z. omega arith
some_number Text = λ z. omega arith
some_number Line = λ z. omega arith
some_number Kind = λ z. omega arith
some_number FrameLength = λ z. omega arith
some_number Place = λ z. omega arith

-- the refusals by number, with Count where no refusal has the number
refusals : List Refusal
refusals =
    Count ∷ Count ∷ Cores ∷ Period ∷ Deadline ∷ Work ∷ Offset ∷ Rate ∷ Length ∷ Engine ∷ Buffer ∷ Table ∷ Spoilt ∷ Count ∷ Count ∷ Past
    ∷ Count ∷ Count ∷ Count ∷ Count ∷ Text ∷ Line ∷ Kind ∷ FrameLength ∷ Place ∷ []

-- the refusal of a number
pub refusal_from : ℕ → Refusal
refusal_from k = get_or refusals k Count

-- is the refusal
pub refusal_back : (r : Refusal) → refusal_from (number_of r) ≡ r
unfolding refusal_from refusals
refusal_back Count = refl
refusal_back Cores = refl
refusal_back Period = refl
refusal_back Deadline = refl
refusal_back Work = refl
refusal_back Offset = refl
refusal_back Rate = refl
refusal_back Length = refl
refusal_back Engine = refl
refusal_back Buffer = refl
refusal_back Table = refl
refusal_back Spoilt = refl
refusal_back Past = refl
refusal_back Text = refl
refusal_back Line = refl
refusal_back Kind = refl
refusal_back FrameLength = refl
refusal_back Place = refl

-- the number of a refusal of a list, an engine, a table or its buffer, or of a record, from the refusal that has it
pub named : (k : ℕ) → k ≢ 0 → k ≤ 12 → number_of (refusal_from k) ≡ k
unfolding refusal_from refusals
named zero x l = absurd (x refl)
named (suc zero) x l = refl
named (suc (suc zero)) x l = refl
named (suc (suc (suc zero))) x l = refl
named (suc (suc (suc (suc zero)))) x l = refl
named (suc (suc (suc (suc (suc zero))))) x l = refl
named (suc (suc (suc (suc (suc (suc zero)))))) x l = refl
named (suc (suc (suc (suc (suc (suc (suc zero))))))) x l = refl
named (suc (suc (suc (suc (suc (suc (suc (suc zero)))))))) x l = refl
named (suc (suc (suc (suc (suc (suc (suc (suc (suc zero))))))))) x l = refl
named (suc (suc (suc (suc (suc (suc (suc (suc (suc (suc zero)))))))))) x l = refl
named (suc (suc (suc (suc (suc (suc (suc (suc (suc (suc (suc zero))))))))))) x l = refl
named (suc (suc (suc (suc (suc (suc (suc (suc (suc (suc (suc (suc zero)))))))))))) x l = refl
named (suc (suc (suc (suc (suc (suc (suc (suc (suc (suc (suc (suc (suc k))))))))))))) x l = absurd (omega arith)

-- an answer that has no other value, from its number
pub done_from : ℕ → Result (Unit {0}) Refusal
done_from zero = Ok tt
done_from (suc k) = Err (refusal_from (suc k))

-- is the answer
pub done_back : (r : Result (Unit {0}) Refusal) → done_from (refusal_of r) ≡ r
unfolding done_from
done_back (Ok u) = refl
done_back (Err r) = go (number_of r) (some_number r) ∙ ap Err (refusal_back r)
  where
    go : (k : ℕ) → k ≢ 0 → done_from k ≡ Err (refusal_from k)
    go zero x = absurd (x refl)
    go (suc k) x = refl
