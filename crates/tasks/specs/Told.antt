-- What the code answers, by the rules' numbers: the number of a refusal, and what is told of a list.
-- Assumes nothing.
use Rattle.std.specs.Prelude.{ℕ, Result, Ok, Err}
use Rattle.tasks.specs.declared.Slots.{Slots}
use Rattle.tasks.specs.declared.Refusal.{Refusal}
use Rattle.tasks.specs.declared.Refusal.TheVariants.{Count, Cores, Period, Deadline, Work, Offset, Rate, Length, Engine, Buffer, Table, Spoilt, Past, Text, Line, Kind, FrameLength, Place}
use Rattle.tasks.specs.Refusal.{Tested, sound, refused}

-- 5.4, 5.5, 5.6, 8.5, 8.7, 8.8, 8.9, 8.10: the number of a refusal
abbrev pub number_of : Refusal → ℕ
number_of Count = 1
number_of Cores = 2
number_of Period = 3
number_of Deadline = 4
number_of Work = 5
number_of Offset = 6
number_of Rate = 7
number_of Length = 8
number_of Engine = 9
number_of Buffer = 10
number_of Table = 11
number_of Spoilt = 12
number_of Past = 15
number_of Text = 20
number_of Line = 21
number_of Kind = 22
number_of FrameLength = 23
number_of Place = 24

-- the refusal that an answer is, 0 for none
abbrev pub refusal_of : {A : Type 0} → Result A Refusal → ℕ
refusal_of (Ok a) = 0
refusal_of (Err r) = number_of r

-- the answer of a list by the rules' numbers
abbrev pub tested_as : Result Slots Refusal → Tested
tested_as (Ok h) = sound h.0
tested_as (Err r) = refused (number_of r)
