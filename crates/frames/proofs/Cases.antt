-- The worked example of RULES 9 as it is read, and one short text for each file refusal.
-- Assumes nothing.
use Prim.Native.Nat.{ℕ}
use Prim.Native.String.{String}
use mathlib.Core.Path.{◌≡◌, refl}
use mathlib.Core.List.{List, [], ◌∷◌, map}
use lib.ListN.{replicate}
use Rattle.laws.specs.Lists.{tab_from}
use Rattle.tasks.specs.declared.Task.{Task}
use Rattle.tasks.specs.Refusal.{within, unless}
use Rattle.lines.specs.Frame.{sort_of, two, four}
use Rattle.lines.specs.Lines.{is_digit, digit_of, pairs, bytes_of, before, lines}
use Rattle.lines.specs.Refusal.{length_refusal, frame_refusal, line_refusal}
use Rattle.frames.specs.Read.{Read, refused, problem, may_follow, right_number, in_place, task_of, taken_frame, place_refusal, read_lines, read_within, read_problem}
use Rattle.lines.proofs.Text.{bytes}

-- what a text is read as
reading : List ℕ → Read
unfolding tab_from bytes within unless sort_of two four is_digit digit_of pairs bytes_of before lines may_follow right_number in_place task_of taken_frame length_refusal frame_refusal line_refusal place_refusal read_lines read_within
reading text = read_problem text

-- a task of work C, due and anew every three slots, of rate 1 on two cores
equal : ℕ → Task
equal work = record {
  offset = record { 0 = 0 };
  work = record { 0 = work };
  deadline = record { 0 = 3 };
  period = record { 0 = 3 };
  rates = record { 0 = 1 ∷ 1 ∷ 0 ∷ 0 ∷ [] };
}

-- the three tasks of the worked example, on two equal cores
unfoldable pub example : String
example = "0102\n02010000000100030003\n030101010000\n02020000000200030003\n030201010000\n02030000000300030003\n030301010000\n0401000003E8\n07\n"

-- texts, and what each is read as
readings : List (List ℕ × Read)
unfolding bytes
readings =
    (bytes example, problem 2 (equal 1 ∷ equal 2 ∷ equal 3 ∷ []) 1 1000)
    -- no task; 04 left out, and one that names engine 0 with the same limit
    ∷ (bytes "0102\n07\n", problem 2 [] 1 1000000)
    ∷ (bytes "0102\n0400000F4240\n07\n", problem 2 [] 0 1000000)
    -- over 1024 bytes, whatever they are; 1024 are not
    ∷ (replicate 1025 10, refused 20)
    ∷ (replicate 1024 10, refused 21)
    -- empty, lower case, an odd digit, a carriage return, no line feed
    ∷ (bytes "\n", refused 21)
    ∷ (bytes "0102\n0401000003e8\n07\n", refused 21)
    ∷ (bytes "010\n", refused 21)
    ∷ (bytes "0102\r\n", refused 21)
    ∷ (bytes "0102\n07", refused 21)
    -- kinds 00 and 08, of any length
    ∷ (bytes "00\n", refused 22)
    ∷ (bytes "0102\n0802\n", refused 22)
    -- the first faulty line decides, and its length comes before its place
    ∷ (bytes "0102\n0100\n08\n", refused 24)
    ∷ (bytes "010203\n", refused 23)
    ∷ (bytes "0500\n", refused 23)
    -- an empty file, no end, a second 01 or 04, an answer's frame, anything behind the end
    ∷ ([], refused 24)
    ∷ (bytes "0102\n", refused 24)
    ∷ (bytes "0102\n0102\n", refused 24)
    ∷ (bytes "0102\n040100000000\n040100000000\n07\n", refused 24)
    ∷ (bytes "0102\n050000000000\n07\n", refused 24)
    ∷ (bytes "0102\n07\n07\n", refused 24)
    ∷ (bytes "0102\n07\n\n", refused 21)
    -- task number 0, a gap, an 03 of another number, an 02 where an 03 is due
    ∷ (bytes "0102\n02000000000100030003\n", refused 24)
    ∷ (bytes "0102\n02020000000100030003\n", refused 24)
    ∷ (bytes "0102\n02010000000100030003\n030201010000\n", refused 24)
    ∷ (bytes "0102\n02010000000100030003\n02020000000100030003\n", refused 24)
    ∷ []

-- each text is read so
read_cases : map (λ c. reading c.0) readings ≡ map (λ c. c.1) readings
unfolding reading bytes equal example readings
read_cases = refl
