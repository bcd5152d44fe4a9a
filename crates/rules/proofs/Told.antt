-- What a search tells of its walk, and what it leaves of the buffer.
-- Assumes nothing.
use Prim.Native.Nat.{ℕ, zero, suc, ◌≤◌}
use mathlib.Core.Path.{◌≡◌, refl, ap, ◌∙◌}
use mathlib.Core.Logic.{◌≢◌}
use mathlib.Core.List.{List}
use lib.ListN.{length, take, drop, replicate, length-replicate}
use lib.Seq.{take_at, drop_at}
use borrow.Author.Tests.{le-leb}
use Rattle.laws.specs.Lists.{over}
use Rattle.tasks.specs.declared.Task.{Task}
use Rattle.tasks.specs.Refusal.{unless, or_next, refusal}
use Rattle.tasks.specs.Instance.{own_instance}
use Rattle.table.specs.Table.{cells}
use Rattle.rules.specs.Walk.{limited}
use Rattle.rules.specs.Search.{Searched, walked, search_told, search_told_unless, search_refusal, search}

-- n cells written over the start of a buffer
pub over_take : (n : ℕ) (s t : List ℕ) → length s ≡ n → take n (over s t) ≡ s
unfolding over
over_take n s t e = take_at s (drop (length s) t) n e

-- leave the rest as it is
pub over_drop : (n : ℕ) (s t : List ℕ) → length s ≡ n → drop n (over s t) ≡ drop n t
unfolding over
over_drop n s t e = drop_at s (drop (length s) t) n e ∙ ap (λ k. drop k t) e

-- n zeros written over the start of a buffer
pub zeros_take : (n : ℕ) (t : List ℕ) → take n (over (replicate n 0) t) ≡ replicate n 0
zeros_take n t = over_take n (replicate n 0) t (length-replicate n 0)

-- leave the rest as it is too
pub zeros_drop : (n : ℕ) (t : List ℕ) → drop n (over (replicate n 0) t) ≡ drop n t
zeros_drop n t = over_drop n (replicate n 0) t (length-replicate n 0)

-- where nothing is refused the search tells its walk under the limit
pub search_told_lem : (m : ℕ) (ts : List Task) (e b : ℕ) (buffer : List ℕ) → refusal m ts ≡ 0 → e ≤ 1 → cells (own_instance m ts) ≤ length buffer
    → search m ts e b buffer ≡ search_told (cells (own_instance m ts)) buffer (limited b (walked e (own_instance m ts)))
unfolding search search_refusal unless or_next
search_told_lem m ts e b buffer sound engine room = rw (sound, le-leb e 1 engine, le-leb (cells (own_instance m ts)) (length buffer) room)

-- a refusal that is not 0 is told with 0 tries, and the buffer is as it was
pub refused_told : (m : ℕ) (ts : List Task) (e b : ℕ) (buffer : List ℕ) (k : ℕ) → search_refusal m ts e (length buffer) ≡ k → k ≢ 0
    → search m ts e b buffer ≡ record { verdict = k; tries = 0; buffer = buffer }
unfolding search
refused_told m ts e b buffer k h x = rw h (go k _ x)
  where
    go : (k : ℕ) (s : Searched) → k ≢ 0 → search_told_unless k buffer s ≡ record { verdict = k; tries = 0; buffer = buffer }
    go zero s x = absurd (x refl)
    go (suc k) s x = refl
