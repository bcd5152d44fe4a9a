-- Demand 3: the quick search agrees with the plain one, at no more tries. The statements come first, then their proofs.
-- Assumes nothing.
use Prim.Native.Nat.{ℕ, ◌≤◌, ◌<◌}
use native.Mathlib.Decide.{ℕ_discrete}
use native.Mathlib.Omega.{arith}
use mathlib.Core.Path.{◌≡◌, sym, ◌∙◌}
use mathlib.Core.Logic.{◌≢◌, ◌↔◌, ⊎_elim}
use mathlib.Core.List.{List, []}
use lib.ListN.{length, take}
use Rattle.laws.proofs.SumLaws.{lt_or_ge}
use Rattle.tasks.specs.declared.Task.{Task}
use Rattle.tasks.specs.Refusal.{IsSound}
use Rattle.tasks.specs.Instance.{Instance, own_instance, Regular}
use Rattle.tasks.proofs.SoundLaws.{own_regular}
use Rattle.table.specs.Table.{cells}
use Rattle.rules.specs.Walk.{Result, tries, limited}
use Rattle.rules.specs.Right.{Quicker}
use Rattle.rules.specs.Rules.{values}
use Rattle.rules.specs.Limit.{bwalk}
use Rattle.rules.specs.Search.{rule_of, walked, Searched, search}
use Rattle.rules.proofs.Limit.{bwalk_limited}
use Rattle.rules.proofs.Quick.{quick_same}
use Rattle.rules.proofs.Only.{first_one}
use Rattle.rules.proofs.Demand2.{Searches, searches}

-- ---- statements
-- the two walks of an instance
pub record Compared (P : Instance) : Type 0 where
  -- the quick walk has the plain walk's verdict and table, at no more tries
  pub quick_same : Quicker (walked 1 P) (walked 0 P)
  -- each walk, counting as it goes and stopped where one more try would be needed after b, ends as its result does under the limit b
  pub counted : (e b : ℕ) → bwalk b (rule_of e P) (values P) (cells P) [] 0 ≡ limited b (walked e P)

-- two searches of one list under one limit of b tries, each into a buffer of its own: s' by the quick walk, whose result with no limit is r', and s by the plain walk, with r
pub record Agree (P : Instance) (r' r : Result) (b : ℕ) (s' s : Searched) : Type 0 where
  -- the quick search is stopped exactly if its own number of tries is above the limit
  pub quick_stops : (s'.verdict ≡ 14) ↔ (b < tries r')
  -- and so is the plain search
  pub plain_stops : (s.verdict ≡ 14) ↔ (b < tries r)
  -- where neither is stopped both tell the same verdict
  pub same_verdict : s'.verdict ≢ 14 → s.verdict ≢ 14 → s'.verdict ≡ s.verdict
  -- and leave the same first H × m cells
  pub same_cells : s'.verdict ≢ 14 → s.verdict ≢ 14 → take (cells P) s'.buffer ≡ take (cells P) s.buffer
  -- the quick search is not stopped where the plain one is not
  pub quick_ends : s.verdict ≢ 14 → s'.verdict ≢ 14
  -- and it tells no more tries
  pub fewer : s'.tries ≤ s.tries

-- ---- proofs
-- the two walks of every regular instance
pub compared : (P : Instance) → Regular P → Compared P
compared P regular = record {
  quick_same = quick_same P regular;
  counted = λ e b. bwalk_limited b (rule_of e P) (values P) (cells P) [];
}

-- without a limit, for every sound list: the same verdict and the same table, cell for cell, and the quick walk takes no more tries
pub without_limit : (m : ℕ) (ts : List Task) → IsSound m ts → Quicker (walked 1 (own_instance m ts)) (walked 0 (own_instance m ts))
without_limit m ts sound = (compared (own_instance m ts) (own_regular m ts sound)).quick_same

-- a search that is not stopped ends within the limit
in_limit : (P : Instance) (r : Result) (b : ℕ) (buffer : List ℕ) (s : Searched) → Searches P r b buffer s → s.verdict ≢ 14 → tries r ≤ b
in_limit P r b buffer s h x = ⊎_elim (λ l. absurd (x (h.stops.1 l))) (λ l. l) (lt_or_ge b (tries r))

-- what a search by a walk tells, and one by a quicker walk
module _ (P : Instance) (r' r : Result) (q : Quicker r' r) (b : ℕ) (t' t : List ℕ) (s' s : Searched) (h' : Searches P r' b t' s') (h : Searches P r b t s) where
  same_verdict : s'.verdict ≢ 14 → s.verdict ≢ 14 → s'.verdict ≡ s.verdict
  same_verdict x' x =
      let l = in_limit P r b t s h x in
      ⊎_elim
      (λ e. e ∙ sym (h.finds.1 ((h'.finds.0 e).0, l)))
      (⊎_elim (λ e. e ∙ sym (h.finds_none.1 ((h'.finds_none.0 e).0, l))) (λ e. absurd (x' e)))
      h'.one_of_three

  same_cells : s'.verdict ≢ 14 → s.verdict ≢ 14 → take (cells P) s'.buffer ≡ take (cells P) s.buffer
  same_cells x' x = elim (ℕ_discrete s'.verdict 0) [
    | yes e ↦ first_one P _ _ (h'.first_table e) (h.first_table (sym (same_verdict x' x) ∙ e))
    | no y ↦ h'.cleared y ∙ sym (h.cleared (λ e. y (same_verdict x' x ∙ e)))
  ]

  -- the plain search is stopped where the quick one is
  plain_stopped : s'.verdict ≡ 14 → s.verdict ≡ 14
  plain_stopped e = h.stops.1 (omega (arith, h'.stops.0 e, q.less))

  fewer : s'.tries ≤ s.tries
  fewer = elim (ℕ_discrete s'.verdict 14) [
    | yes e' ↦ omega (arith, h'.stopped_tries e', h.stopped_tries (plain_stopped e'))
    | no x' ↦ elim (ℕ_discrete s.verdict 14) [
      | yes e ↦ omega (arith, h'.own_tries x', in_limit P r' b t' s' h' x', h.stopped_tries e)
      | no x ↦ omega (arith, h'.own_tries x', h.own_tries x, q.less)
    ]
  ]

  agrees : Agree P r' r b s' s
  agrees = record {
    quick_stops = h'.stops;
    plain_stops = h.stops;
    same_verdict = same_verdict;
    same_cells = same_cells;
    quick_ends = λ x e. x (plain_stopped e);
    fewer = fewer;
  }

-- the searches of every sound list, with any limit, into any two buffers that are long enough
pub agree : (m : ℕ) (ts : List Task) (b : ℕ) (t' t : List ℕ) → IsSound m ts → cells (own_instance m ts) ≤ length t' → cells (own_instance m ts) ≤ length t
    → Agree (own_instance m ts) (walked 1 (own_instance m ts)) (walked 0 (own_instance m ts)) b (search m ts 1 b t') (search m ts 0 b t)
agree m ts b t' t sound room' room =
    agrees (own_instance m ts) _ _ (without_limit m ts sound) b t' t _ _
    (searches m ts 1 b t' sound (omega arith) room') (searches m ts 0 b t sound (omega arith) room)
