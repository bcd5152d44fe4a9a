-- Demand 2: the verdicts of the search are exact both ways, and the table that it leaves is the first valid one. The statements come first, then their proofs.
-- Assumes nothing.
use Prim.Native.Nat.{ℕ, zero, suc, ◌≤◌, ◌<◌}
use native.Mathlib.Decide.{ℕ_discrete}
use native.Mathlib.Omega.{arith}
use mathlib.Core.Path.{◌≡◌, refl, ap₂, sym, ◌∙◌}
use mathlib.Core.Logic.{◌≢◌, ◌↔◌, ◌⊎◌, inl, inr, ⊎_elim}
use mathlib.Core.List.{List, [], ◌++◌}
use lib.ListN.{length, take, drop, replicate, take-append-drop}
use Rattle.laws.proofs.SumLaws.{lt_or_ge}
use Rattle.tasks.specs.declared.Task.{Task}
use Rattle.tasks.specs.Refusal.{IsSound}
use Rattle.tasks.specs.Instance.{Instance, own_instance, Regular}
use Rattle.tasks.proofs.SoundLaws.{own_regular}
use Rattle.table.specs.Table.{cells, Table}
use Rattle.rules.specs.Walk.{Result, found, none, tries, ended, stopped, limited}
use Rattle.rules.specs.Rules.{values, rank, plain}
use Rattle.rules.specs.Right.{Clean, First, Right, first, nowhere}
use Rattle.rules.specs.Search.{walked, Searched, search_told, search}
use Rattle.rules.proofs.Limit.{within, past}
use Rattle.rules.proofs.Skip.{quicker_right}
use Rattle.rules.proofs.Plain.{clean_table, table_clean, plain_right}
use Rattle.rules.proofs.Quick.{quick_same}
use Rattle.rules.proofs.Only.{first_one}
use Rattle.rules.proofs.Told.{over_take, over_drop, zeros_take, zeros_drop, search_told_lem}

-- ---- statements
-- the walks of an instance
pub record WalksRight (P : Instance) : Type 0 where
  -- the plain rule lets a table pass exactly if it is a valid table
  pub plain_passes : (t : List ℕ) → Clean (plain P) (values P) (cells P) [] t ↔ Table P t
  -- each engine's walk finds the first valid table, or there is none
  pub walked_right : (e : ℕ) → Right (rank P) (Table P) (walked e P)

-- what a search tells, where r is its walk with no limit, b the limit and buffer the table buffer at entry
pub record Searches (P : Instance) (r : Result) (b : ℕ) (buffer : List ℕ) (s : Searched) : Type 0 where
  -- the verdict is 0, 13 or 14
  pub one_of_three : (s.verdict ≡ 0) ⊎ ((s.verdict ≡ 13) ⊎ (s.verdict ≡ 14))
  -- it is 0 exactly if there is a valid table and the walk's tries are within the limit
  pub finds : (s.verdict ≡ 0) ↔ (((t : List ℕ) × Table P t) × (tries r ≤ b))
  -- then the first H × m cells of the buffer are a valid table, and no valid table comes before it
  pub first_table : s.verdict ≡ 0 → First (rank P) (Table P) (take (cells P) s.buffer)
  -- it is 13 exactly if there is no valid table and the walk's tries are within the limit
  pub finds_none : (s.verdict ≡ 13) ↔ (((t : List ℕ) → Table P t → ⊥) × (tries r ≤ b))
  -- it is 14 exactly if the walk's tries are above the limit
  pub stops : (s.verdict ≡ 14) ↔ (b < tries r)
  -- after 13 and 14 the first H × m cells are 0
  pub cleared : s.verdict ≢ 0 → take (cells P) s.buffer ≡ replicate (cells P) 0
  -- cells past H × m are not touched
  pub untouched : drop (cells P) s.buffer ≡ drop (cells P) buffer
  -- a search that is stopped tells the limit
  pub stopped_tries : s.verdict ≡ 14 → s.tries ≡ b
  -- any other tells the walk's tries
  pub own_tries : s.verdict ≢ 14 → s.tries ≡ tries r

-- ---- proofs
-- the walks of every regular instance
pub walks : (P : Instance) → Regular P → WalksRight P
walks P regular = record { plain_passes = λ t. (clean_table P regular t, table_clean P regular t); walked_right = right }
  where
    right : (e : ℕ) → Right (rank P) (Table P) (walked e P)
    right zero = plain_right P regular
    right (suc e) = quicker_right (walked 1 P) (quick_same P regular) (plain_right P regular)

module _ (P : Instance) (b : ℕ) (buffer : List ℕ) where
  -- a walk past the limit
  stopped_searches : (r : Result) → b < tries r → Searches P r b buffer (search_told (cells P) buffer (stopped b))
  unfolding search_told
  stopped_searches r l = record {
    one_of_three = inr (inr refl);
    finds = (λ e. absurd (omega arith), λ x. absurd (omega arith));
    first_table = λ e. absurd (omega arith);
    finds_none = (λ e. absurd (omega arith), λ x. absurd (omega arith));
    stops = (λ e. l, λ x. refl);
    cleared = λ x. zeros_take (cells P) buffer;
    untouched = zeros_drop (cells P) buffer;
    stopped_tries = λ e. refl;
    own_tries = λ x. absurd (x refl);
  }

  -- a walk within the limit
  ended_searches : (r : Result) → Right (rank P) (Table P) r → tries r ≤ b → Searches P r b buffer (search_told (cells P) buffer (ended r))
  unfolding search_told
  ended_searches (found t k) (first h) l = record {
    one_of_three = inl refl;
    finds = (λ e. ((t, h.0), l), λ x. refl);
    first_table = λ e. rw (over_take (cells P) t buffer h.0.size) h;
    finds_none = (λ e. absurd (omega arith), λ x. absurd (x.0 t h.0));
    stops = (λ e. absurd (omega arith), λ x. absurd (omega arith));
    cleared = λ x. absurd (x refl);
    untouched = over_drop (cells P) t buffer h.0.size;
    stopped_tries = λ e. absurd (omega arith);
    own_tries = λ x. refl;
  }
  ended_searches (none k) (nowhere h) l = record {
    one_of_three = inr (inl refl);
    finds = (λ e. absurd (omega arith), λ x. absurd (h x.0.0 x.0.1));
    first_table = λ e. absurd (omega arith);
    finds_none = (λ e. (h, l), λ x. refl);
    stops = (λ e. absurd (omega arith), λ x. absurd (omega arith));
    cleared = λ x. zeros_take (cells P) buffer;
    untouched = zeros_drop (cells P) buffer;
    stopped_tries = λ e. absurd (omega arith);
    own_tries = λ x. refl;
  }

  -- what a right walk under a limit is told as
  told_searches : (r : Result) → Right (rank P) (Table P) r → Searches P r b buffer (search_told (cells P) buffer (limited b r))
  told_searches r h = ⊎_elim (λ l. rw (past b r l) (stopped_searches r l)) (λ l. rw (within b r l) (ended_searches r h l)) (lt_or_ge b (tries r))

-- the search of every sound list, by either engine, with any limit, into a buffer that is long enough
pub searches : (m : ℕ) (ts : List Task) (e b : ℕ) (buffer : List ℕ) → IsSound m ts → e ≤ 1 → cells (own_instance m ts) ≤ length buffer
    → Searches (own_instance m ts) (walked e (own_instance m ts)) b buffer (search m ts e b buffer)
searches m ts e b buffer sound engine room = rw (search_told_lem m ts e b buffer sound engine room)
    (told_searches (own_instance m ts) b buffer (walked e (own_instance m ts)) ((walks (own_instance m ts) (own_regular m ts sound)).walked_right e))

-- ---- one answer
module _ (P : Instance) (r : Result) (b : ℕ) (buffer : List ℕ) (s s' : Searched) (h : Searches P r b buffer s) (h' : Searches P r b buffer s') where
  -- one verdict
  one_verdict : s.verdict ≡ s'.verdict
  one_verdict = ⊎_elim
      (λ e. e ∙ sym (h'.finds.1 (h.finds.0 e)))
      (λ x. ⊎_elim (λ e. e ∙ sym (h'.finds_none.1 (h.finds_none.0 e))) (λ e. e ∙ sym (h'.stops.1 (h.stops.0 e))) x)
      h.one_of_three

  -- one count
  one_count : s.tries ≡ s'.tries
  one_count = elim (ℕ_discrete s.verdict 14) [
    | yes e ↦ h.stopped_tries e ∙ sym (h'.stopped_tries (sym one_verdict ∙ e))
    | no x ↦ h.own_tries x ∙ sym (h'.own_tries (λ e. x (one_verdict ∙ e)))
  ]

  -- one table
  one_table : take (cells P) s.buffer ≡ take (cells P) s'.buffer
  one_table = elim (ℕ_discrete s.verdict 0) [
    | yes e ↦ first_one P _ _ (h.first_table e) (h'.first_table (sym one_verdict ∙ e))
    | no x ↦ h.cleared x ∙ sym (h'.cleared (λ e. x (one_verdict ∙ e)))
  ]

  -- one buffer
  one_buffer : s.buffer ≡ s'.buffer
  one_buffer = sym (take-append-drop (cells P) s.buffer) ∙ ap₂ ◌++◌ one_table (h.untouched ∙ sym h'.untouched) ∙ take-append-drop (cells P) s'.buffer

  -- any two answers that `Searches` allows are equal
  pub searches_one : s ≡ s'
  searches_one = same one_verdict one_count one_buffer
    where
      same : {v v' k k' : ℕ} {u u' : List ℕ} → v ≡ v' → k ≡ k' → u ≡ u'
          → ◌≡◌ {A = Searched} (record { verdict = v; tries = k; buffer = u }) (record { verdict = v'; tries = k'; buffer = u' })
      same x y z = cc
