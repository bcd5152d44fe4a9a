-- The search: refusals, the walk of an engine under a limit, and the table buffer that it leaves.
-- Assumes nothing.
use Rattle.std.specs.Prelude.{ℕ, zero, suc, List, [], leb, length, replicate}
use Rattle.laws.specs.Lists.{over}
use Rattle.tasks.specs.declared.Task.{Task}
use Rattle.tasks.specs.Refusal.{unless, or_next, refusal}
use Rattle.tasks.specs.Instance.{Instance, own_instance}
use Rattle.table.specs.Table.{cells}
use Rattle.rules.specs.Walk.{Rule, Result, found, none, walk, Outcome, ended, stopped, limited}
use Rattle.rules.specs.Rules.{values, plain, quick}

-- 4.9: engine 0 is the plain walk, engine 1 the quick walk
abbrev pub rule_of : ℕ → Instance → Rule
rule_of zero = plain
rule_of (suc e) = quick

-- 4.9: the walk of an engine over the whole table, without a limit
abbrev pub walked : ℕ → Instance → Result
walked e P = walk (rule_of e P) (values P) (cells P) []

-- a verdict, the tries, and the table buffer as it is left
pub record Searched : Type 0 where
  pub verdict : ℕ
  pub tries : ℕ
  pub buffer : List ℕ

-- 5.1, 5.2, 5.3: 0 table found: the first n cells are the table; 13 none and 14 stopped: the first n cells 0
unfoldable pub search_told : ℕ → List ℕ → Outcome → Searched
search_told n buffer (ended (found t k)) = record { verdict = 0; tries = k; buffer = over t buffer }
search_told n buffer (ended (none k)) = record { verdict = 13; tries = k; buffer = over (replicate n 0) buffer }
search_told n buffer (stopped k) = record { verdict = 14; tries = k; buffer = over (replicate n 0) buffer }

-- 5.5, 5.7: after 1 to 8: 9 engine not 0 or 1; 10 buffer shorter than H × m
unfoldable pub search_refusal : ℕ → List Task → ℕ → ℕ → ℕ
search_refusal m ts e room =
    or_next (refusal m ts) (unless (leb e 1) 9 (unless (leb (cells (own_instance m ts)) room) 10 0))

-- 5.8: a refusal reports 0 tries and leaves the buffer untouched
abbrev pub search_told_unless : ℕ → List ℕ → Searched → Searched
search_told_unless zero buffer s = s
search_told_unless (suc r) buffer s = record { verdict = suc r; tries = 0; buffer = buffer }

-- 5.1: the search of a list on m cores, by engine e with a limit of b tries, into a buffer
unfoldable pub search : ℕ → List Task → ℕ → ℕ → List ℕ → Searched
search m ts e b buffer =
    let P = own_instance m ts in
    search_told_unless (search_refusal m ts e (length buffer)) buffer (search_told (cells P) buffer (limited b (walked e P)))
