-- The small tables of RULES 9 worked by hand, P1 to P12, and its worked example, from text to text too: what the definitions answer, and what the rules say.
-- Assumes nothing.
use Prim.Native.Nat.{ℕ, zero, suc, ◌%◌, ◌^◌}
use mathlib.Core.Path.{◌≡◌, refl}
use mathlib.Core.List.{List, [], ◌∷◌, map}
use lib.ListN.{replicate}
use Rattle.laws.specs.Sum.{gate, sum}
use Rattle.laws.specs.Lists.{tab_from, over, seek}
use Rattle.laws.specs.Lcm.{euclid, gcd_of, lcm_of, lcms_of}
use Rattle.tasks.specs.declared.Task.{Task}
use Rattle.tasks.specs.Refusal.{within, unless, or_next, rates_fit, task_refusal, list_refusal, table_length, refusal}
use Rattle.tasks.specs.Window.{place, highest}
use Rattle.tasks.specs.Instance.{instance_of}
use Rattle.table.specs.Table.{share, done, free}
use Rattle.table.specs.Fault.{kind_of, cell_kind, all_needed, work_kind, first_job, fault, Checked, checked, no_fault, in_cell, in_job, check}
use Rattle.rules.specs.Walk.{walk}
use Rattle.rules.specs.Rules.{tests, permitted, settled, all_settled, even_rates, twin, idle_tried, rule_a, rule_b, quickly}
use Rattle.rules.specs.Search.{Searched, search_told, search_refusal, search}
use Rattle.clock.specs.Clock.{step_refusal, next_of}
use Rattle.player.specs.declared.Player.{Player}
use Rattle.player.specs.Player.{cells_of, stepped, after_step, padded, record_of, started, after_start}
use Rattle.lines.specs.Frame.{sort_of, two as two_bytes, four}
use Rattle.lines.specs.Lines.{is_digit, digit_of, pairs, bytes_of, before, lines, hex_of, digits, line_of}
use Rattle.lines.specs.Refusal.{length_refusal, frame_refusal, line_refusal}
use Rattle.lines.proofs.Text.{bytes}
use Rattle.frames.specs.Read.{may_follow, right_number, in_place, task_of, taken_frame, place_refusal, read_lines, read_within}
use Rattle.frames.proofs.Cases.{example}
use Rattle.answer.specs.Write.{verdict_frame, cell_at, slot_frame, slot_lines, write_answer}
use Rattle.planner.specs.Answer.{search_answer, answer_to_read, answer_to}

-- a task (O, C, D, T) with its rates
task : ℕ → ℕ → ℕ → ℕ → List ℕ → Task
task o c d t r = record {
  offset = record { 0 = o };
  work = record { 0 = c };
  deadline = record { 0 = d };
  period = record { 0 = t };
  rates = record { 0 = r };
}

-- rate 1 on one core, and on two
one : List ℕ
one = 1 ∷ 0 ∷ 0 ∷ 0 ∷ []

two : List ℕ
two = 1 ∷ 1 ∷ 0 ∷ 0 ∷ []

-- what is asked: a search, on m cores, by an engine, with a limit, into a buffer of 77s; whether a list is sound; a check; a play by a start and so many steps
data Question : Type 0 where
  searching : ℕ → List Task → ℕ → ℕ → ℕ → Question
  sounding : ℕ → List Task → Question
  checking : ℕ → List Task → List ℕ → Question
  playing : ℕ → List Task → List ℕ → ℕ → Question

-- what is answered: verdict, tries and buffer; the refusal, 0 for none, and H; the checker's word; the cells shown, slot by slot
data Reply : Type 0 where
  searched : ℕ → ℕ → List ℕ → Reply
  sounded : ℕ → ℕ → Reply
  told_of : Checked → Reply
  played : List (List ℕ) → Reply

-- a search's verdict, tries and buffer
reply : Searched → Reply
reply s = searched s.verdict s.tries s.buffer

-- a record before its start
blank : Player
blank = record { last = 0; h = 0; position = 0; age = 0; offsets = []; m = 0; n = 0; table = [] }

-- the cells that n steps show on a record, from a tick on, across the counter's wrap
steps : Player → ℕ → ℕ → List (List ℕ)
steps p tick zero = []
steps p tick (suc n) = (stepped p (tick % 2 ^ 32)).cells ∷ steps (after_step p (tick % 2 ^ 32)) (suc tick) n

-- the tick of a start: the counter wraps two steps later
first : ℕ
first = 4294967294

-- what the definitions answer
answer : Question → Reply
unfolding reply blank steps first gate sum tab_from over seek euclid gcd_of lcm_of lcms_of within unless or_next rates_fit task_refusal list_refusal table_length refusal place highest instance_of
    share done free kind_of cell_kind all_needed work_kind first_job fault check walk tests permitted settled all_settled even_rates twin idle_tried rule_a rule_b quickly
    search_told search_refusal search step_refusal next_of cells_of after_step stepped padded record_of started after_start
answer (searching m ts e b room) = reply (search m ts e b (replicate room 77))
answer (sounding m ts) = sounded (refusal m ts) (table_length ts)
answer (checking m ts t) = told_of (check m ts t)
answer (playing m ts t n) = played ((started m ts t first).cells ∷ steps (after_start m ts t first blank) (suc first) n)

P1 : List Task
P1 = task 0 1 1 1 one ∷ []

P2 : List Task
P2 = task 2 2 2 3 one ∷ []

P3 : List Task
P3 = task 0 1 1 1 one ∷ task 0 1 1 1 one ∷ []

P4 : List Task
P4 = task 0 1 1 1 two ∷ task 0 1 1 1 two ∷ task 0 1 1 1 two ∷ []

P5 : List Task
P5 = task 0 4 2 2 (1 ∷ 2 ∷ 0 ∷ 0 ∷ []) ∷ task 1 1 1 2 one ∷ []

P6 : List Task
P6 = task 0 3 2 2 (2 ∷ 0 ∷ 0 ∷ 0 ∷ []) ∷ []

-- the worked example
three : List Task
three = task 0 1 3 3 two ∷ task 0 2 3 3 two ∷ task 0 3 3 3 two ∷ []

-- four zero rates
idle : List Task
idle = task 0 1 1 1 (0 ∷ 0 ∷ 0 ∷ 0 ∷ []) ∷ []

-- a job that one cell completes
quickly_done : List Task
quickly_done = task 0 2 2 2 (2 ∷ 0 ∷ 0 ∷ 0 ∷ []) ∷ []

-- a job that runs round the table's end, on a slow and a fast core
round : ℕ → ℕ → List Task
round c fast = task 1 c 2 2 (1 ∷ fast ∷ 0 ∷ 0 ∷ []) ∷ []

-- tasks of work 1 with given periods, open throughout
periods : List ℕ → List Task
periods = map (λ t. task 0 1 t t one)

questions : List Question
questions =
    searching 1 P1 0 1000 1 ∷ searching 1 P1 0 0 1
    ∷ searching 1 P2 0 1000 4 ∷ searching 1 P2 1 1000 4 ∷ playing 1 P2 (1 ∷ 0 ∷ 1 ∷ []) 5
    ∷ searching 1 P3 0 1000 2 ∷ searching 1 P3 1 1000 2
    ∷ searching 2 P4 0 1000 2 ∷ searching 2 P4 1 1000 2
    ∷ searching 2 P5 0 1000 4 ∷ searching 2 P5 1 1000 4
    ∷ searching 1 P6 0 1000 2 ∷ searching 1 P6 1 1000 2
    ∷ searching 1 P3 0 2 1 ∷ searching 1 P3 0 3 1
    ∷ searching 1 (task 0 1 0 5 one ∷ []) 0 1000 5 ∷ searching 1 (task 0 1 6 5 one ∷ []) 0 1000 5
    ∷ sounding 1 (periods (31 ∷ 32 ∷ [])) ∷ sounding 1 (periods (32 ∷ 33 ∷ []))
    ∷ sounding 1 (periods (1024 ∷ [])) ∷ sounding 1 (periods (1025 ∷ []))
    ∷ checking 1 P2 (1 ∷ 1 ∷ 1 ∷ []) ∷ checking 1 P2 (1 ∷ 0 ∷ 0 ∷ [])
    ∷ searching 2 three 1 1000 6
    ∷ searching 1 idle 0 1000 1 ∷ searching 1 idle 1 1000 1
    ∷ checking 1 quickly_done (1 ∷ 1 ∷ []) ∷ checking 1 P6 (1 ∷ 1 ∷ [])
    ∷ checking 2 (round 2 2) (1 ∷ 0 ∷ 0 ∷ 1 ∷ []) ∷ playing 2 (round 2 2) (1 ∷ 0 ∷ 0 ∷ 1 ∷ []) 2
    ∷ searching 2 (round 3 3) 1 1000 4
    ∷ []

-- what the rules say, and P5's tries
replies : List Reply
replies =
    searched 0 1 (1 ∷ []) ∷ searched 14 0 (0 ∷ [])
    ∷ searched 0 3 (1 ∷ 0 ∷ 1 ∷ 77 ∷ []) ∷ searched 0 3 (1 ∷ 0 ∷ 1 ∷ 77 ∷ [])
    ∷ played ((0 ∷ 0 ∷ 0 ∷ 0 ∷ []) ∷ (0 ∷ 0 ∷ 0 ∷ 0 ∷ []) ∷ (1 ∷ 0 ∷ 0 ∷ 0 ∷ []) ∷ (1 ∷ 0 ∷ 0 ∷ 0 ∷ []) ∷ (0 ∷ 0 ∷ 0 ∷ 0 ∷ []) ∷ (1 ∷ 0 ∷ 0 ∷ 0 ∷ []) ∷ [])
    ∷ searched 13 3 (0 ∷ 77 ∷ []) ∷ searched 13 2 (0 ∷ 77 ∷ [])
    ∷ searched 13 17 (0 ∷ 0 ∷ []) ∷ searched 13 6 (0 ∷ 0 ∷ [])
    ∷ searched 0 16 (0 ∷ 1 ∷ 2 ∷ 1 ∷ []) ∷ searched 0 13 (0 ∷ 1 ∷ 2 ∷ 1 ∷ [])
    ∷ searched 0 2 (1 ∷ 1 ∷ []) ∷ searched 0 2 (1 ∷ 1 ∷ [])
    ∷ searched 14 2 (0 ∷ []) ∷ searched 13 3 (0 ∷ [])
    ∷ searched 4 0 (replicate 5 77) ∷ searched 4 0 (replicate 5 77)
    ∷ sounded 0 992 ∷ sounded 8 1056
    ∷ sounded 0 1024 ∷ sounded 3 1025
    ∷ told_of (checked (in_cell 1 1 2)) ∷ told_of (checked (in_job 1 0 5))
    ∷ searched 0 12 (1 ∷ 3 ∷ 2 ∷ 3 ∷ 2 ∷ 3 ∷ [])
    ∷ searched 13 1 (0 ∷ []) ∷ searched 13 1 (0 ∷ [])
    ∷ told_of (checked (in_job 1 0 6)) ∷ told_of (checked no_fault)
    ∷ told_of (checked no_fault) ∷ played ((0 ∷ 0 ∷ 0 ∷ 0 ∷ []) ∷ (0 ∷ 1 ∷ 0 ∷ 0 ∷ []) ∷ (1 ∷ 0 ∷ 0 ∷ 0 ∷ []) ∷ [])
    ∷ searched 0 6 (1 ∷ 0 ∷ 0 ∷ 1 ∷ [])
    ∷ []

-- P1 to P12, the worked example, a task that no core can run, a cell after its job was complete, and a job round the table's end, which may in time be shown after it has had its work
cases : map answer questions ≡ replies
unfolding answer questions replies P1 P2 P3 P4 P5 P6 three idle quickly_done round periods task one two
cases = refl

-- ---- from text to text
-- the worked example
example_answered : answer_to (bytes example) ≡ bytes "05000000000C\n06000001030000\n06000102030000\n06000202030000\n07\n"
unfolding gate sum tab_from over seek euclid gcd_of lcm_of lcms_of within unless or_next rates_fit task_refusal list_refusal table_length refusal place highest instance_of
    share done free walk tests permitted settled all_settled even_rates twin idle_tried rule_a rule_b quickly search_told search_refusal search
    bytes example sort_of two_bytes four is_digit digit_of pairs bytes_of before lines may_follow right_number in_place task_of taken_frame length_refusal frame_refusal line_refusal place_refusal read_lines read_within
    hex_of digits line_of verdict_frame cell_at slot_frame slot_lines write_answer search_answer answer_to_read
example_answered = refl
