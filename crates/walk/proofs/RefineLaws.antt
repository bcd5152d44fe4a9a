-- The walk on its arrays is the walk of the engine's rule under the limit.
-- Assumes nothing.
use Prim.Native.Nat.{ℕ, zero, suc, ◌+◌, ◌*◌, ◌-◌, ◌≤◌, ◌<◌, pred}
use native.Mathlib.Omega.{arith}
use native.Mathlib.Numerals.{add-one}
use native.Mathlib.Decide.{ℕ_discrete}
use native.Mathlib.Nat.{mul-le-mul_right, mul-pos}
use mathlib.Core.Path.{◌≡◌, refl, sym, ap, subst, subst₂, ◌∙◌}
use mathlib.Core.Logic.{◌≢◌, ⊎_elim}
use mathlib.Core.Bool.{Bool, true, false, cond, not, ◌&&◌}
use mathlib.Core.List.{List, [], ◌∷◌, ◌++◌}
use lib.Dec.{leb}
use borrow.Author.Tests.{lt-ltb, le-ltb, le-leb, lt-leb, eq-eqb, ne_eqb}
use lib.ListN.{length, take, drop, set, length-set}
use lib.Seq.{drop-cons, take-take, take-suc-set, get_or-take, get_or-set_same, get_or-set_other, take-set-le}
use Rattle.laws.specs.Lists.{nth}
use Rattle.laws.specs.Order.{up_to}
use Rattle.tasks.specs.Instance.{Instance, job_end}
use Rattle.laws.proofs.SumLaws.{lt_or_ge}
use Rattle.laws.proofs.TestLaws.{all_true}
use Rattle.table.specs.Table.{cells}
use Rattle.table.proofs.TableLaws.{done_same}
use Rattle.rules.specs.Walk.{Rule, found, none, spend, Outcome, ended, stopped, limited}
use Rattle.rules.specs.Limit.{allow, bgate, bnext, btry_all, bwalk}
use Rattle.rules.specs.Rules.{values, settled, all_settled}
use Rattle.rules.specs.Search.{rule_of, walked}
use Rattle.rules.proofs.Limit.{bwalk_from}
use Rattle.sets.specs.Sets.{has, without}
use Rattle.grid.specs.declared.Grid.{Grid}
use Rattle.grid.specs.Grid.{counter_on, rate_on, cores_on, slots_on, sets_on, bars_idle, floor_on, all_settled_on}
use Rattle.walk.specs.declared.End.{End}
use Rattle.walk.specs.declared.End.TheVariants.{Found, NoneFound, Stopped}
use Rattle.walk.specs.Machine.{State, state, Onward, one_more, idle_last, placed, try_from, after_cell, walk_on}
use Rattle.grid.specs.GridFor.{Small, GridFor, Lefts}
use Rattle.walk.proofs.GiveBackLaws.{found_apart, stopped_apart, given_back, GivesBack, after_gives, walk_gives}
use Rattle.walk.proofs.TurnLaws.{ended_stays, skip, stop, tried, back}
use Rattle.grid.proofs.GridForLaws.{Sets, sets_same, all_settled_is, settled_within, open_tells, lefts_idle, lefts_put, sets_idle, sets_put, sets_start}
use Rattle.walk.proofs.ObeyLaws.{cost_one, goes_prefix, task_tried, idle_tried_lem}

-- what an end tells from cell c on, of n cells
unfoldable pub told_at : End → ℕ → ℕ → List ℕ → ℕ → Outcome
told_at Found n c t u = ended (found (take (n - c) (drop c t)) u)
told_at NoneFound n c t u = ended (none u)
told_at Stopped n c t u = stopped u

-- a state tells an answer from cell c on and has the table's earlier cells as they were
pub record Shows (b n c : ℕ) (t : List ℕ) (s : State) (a : Outcome) : Type 0 where
  pub answer : told_at s.end n c s.table s.tries ≡ a
  pub prefix : take c s.table ≡ take c t
  pub long : length s.table ≡ length t
  pub most : s.tries ≤ b

-- the same for an equal state and an equal answer
pub shows_same : {b n c : ℕ} {t : List ℕ} {s s' : State} {a a' : Outcome} → s' ≡ s → a' ≡ a → Shows b n c t s a → Shows b n c t s' a'
shows_same {b} {n} {c} {t} es ea h = subst₂ (Shows b n c t) (sym es) (sym ea) h

-- an end is NoneFound, or not
end_cases : {X : Type 0} (e : End) → (e ≡ NoneFound → X) → ((e ≡ NoneFound → ⊥) → X) → X
end_cases Found f g = g found_apart
end_cases NoneFound f g = f refl
end_cases Stopped f g = g stopped_apart

-- the first of two tests that pass
and_left : (a b : Bool) → a && b ≡ true → a ≡ true
and_left true b h = refl
and_left false b h = h

-- ---- one cell earlier
module _ {b n c : ℕ} (lc : c < n) (t : List ℕ) {t₁ : List ℕ} {s : State} {a : Outcome} (shows : Shows b n (suc c) t₁ s a) {w : ℕ} (ew : nth t₁ c ≡ w)
    (et : take c t₁ ≡ take c t) (el : length t₁ ≡ length t) (room : c < length t) (g : ℕ → Outcome) where
  -- the cells before
  before_prefix : take c s.table ≡ take c t
  before_prefix = sym (take-take c (suc c) s.table (omega arith)) ∙ ap (take c) shows.prefix ∙ take-take c (suc c) t₁ (omega arith) ∙ et

  -- the cell itself
  before_cell : nth s.table c ≡ w
  before_cell = sym (get_or-take (suc c) s.table c 0 (omega arith)) ∙ ap (λ x. nth x c) shows.prefix ∙ get_or-take (suc c) t₁ c 0 (omega arith) ∙ ew

  before_cells : take (n - c) (drop c s.table) ≡ w ∷ take (n - suc c) (drop (suc c) s.table)
  before_cells =
      ap (λ k. take k (drop c s.table)) more
      ∙ ap (take (suc (n - suc c))) (drop-cons s.table c 0 (omega (arith, shows.long)))
      ∙ ap (λ x. x ∷ take (n - suc c) (drop (suc c) s.table)) before_cell
    where
      more : n - c ≡ suc (n - suc c)
      more = omega arith

  -- the walk has ended below this cell
  below_ended : (s.end ≡ NoneFound → ⊥) → Shows b n c t s (bnext w a g)
  unfolding told_at
  below_ended x = record {
    answer = go s.end x shows.answer;
    prefix = before_prefix;
    long = shows.long ∙ el;
    most = shows.most;
  }
    where
      go : (e : End) → (e ≡ NoneFound → ⊥) → told_at e n (suc c) s.table s.tries ≡ a → told_at e n c s.table s.tries ≡ bnext w a g
      go Found x h = ap (λ z. ended (found z s.tries)) before_cells ∙ ap (λ z. bnext w z g) h
      go NoneFound x h = absurd (x refl)
      go Stopped x h = ap (λ z. bnext w z g) h

  -- the walk comes back from below this cell
  below_none : s.end ≡ NoneFound → bnext w a g ≡ g s.tries
  unfolding told_at
  below_none z = ap (λ x. bnext w x g) (sym shows.answer ∙ ap (λ e. told_at e n (suc c) s.table s.tries) z)

-- ---- where the walk stands
-- before the cell of a core
pub record Before (P : Instance) (first slot core sets : ℕ) (t l : List ℕ) : Type 0 where
  pub first_is : first ≡ slot * P.cores
  pub slot_in : slot < P.slots
  pub core_in : core < P.cores
  pub holds : Sets P slot core (first + core) (nth t) sets
  pub lefts : Lefts P (first + core) (nth t) l
  pub known : (d : ℕ) → d < first + core → nth t d ≤ P.tasks
  pub long : cells P ≤ length t
  pub sized : length l ≡ 16385

-- after a value in it
pub record After (P : Instance) (first slot core sets : ℕ) (t l : List ℕ) : Type 0 where
  pub holds : Sets P slot (core + 1) (suc (first + core)) (nth t) sets
  pub lefts : Lefts P (suc (first + core)) (nth t) l
  pub known : (d : ℕ) → d < suc (first + core) → nth t d ≤ P.tasks
  pub long : cells P ≤ length t
  pub sized : length l ≡ 16385

-- the cells of a slot are the table's
cell_in : {P : Instance} {first slot core sets : ℕ} {t l : List ℕ} → Before P first slot core sets t l → first + core < cells P
cell_in {P} {first} {slot} {core} s = omega (arith, s.first_is, mul-le-mul_right P.cores s.slot_in)

-- the values of a cell, each put behind the prefix p, with `rest` cells behind it
abbrev pub one_value : ℕ → Rule → List ℕ → ℕ → List ℕ → ℕ → ℕ → Outcome
one_value b R vs rest p v = bgate (R.tried p v) (λ j. allow (leb (j + R.cost p v) b) b (j + R.cost p v) (bwalk b R vs rest (p ++ v ∷ [])))

-- a value that is not tried
one_skips : (P : Instance) (e b rest : ℕ) (p : List ℕ) (v u : ℕ) → (rule_of e P).tried p v ≡ false → one_value b (rule_of e P) (values P) rest p v u ≡ ended (none u)
one_skips P e b rest p v u h = rw h

-- one try more, if the limit allows it
module _ (P : Instance) (e b rest : ℕ) (p : List ℕ) (v u : ℕ) (h : (rule_of e P).tried p v ≡ true) where
  one_stops : u ≡ b → one_value b (rule_of e P) (values P) rest p v u ≡ stopped b
  one_stops q = rw (h, cost_one P e p v, lt-leb (u + 1) b (omega arith))

  one_goes : u ≢ b → u ≤ b → one_value b (rule_of e P) (values P) rest p v u ≡ bwalk b (rule_of e P) (values P) rest (p ++ v ∷ []) (u + 1)
  one_goes x l = rw (h, cost_one P e p v, le-leb (u + 1) b (omega arith))

-- ---- the same earlier cells
module _ (c : ℕ) (t t₀ : List ℕ) (et : take c t ≡ take c t₀) where
  cell_same : (d : ℕ) → d < c → nth t d ≡ nth t₀ d
  cell_same d l = sym (get_or-take c t d 0 l) ∙ ap (λ x. nth x d) et ∙ get_or-take c t₀ d 0 l

  -- the work left is the same
  lefts_same : (P : Instance) (l : List ℕ) → Lefts P c (nth t₀) l → Lefts P c (nth t) l
  lefts_same P l h = record {
    counters = λ i k x li lk. h.counters i k x li lk ∙ ap (λ d. P.work i - d) (done_same P c (nth t₀) (nth t) (λ d ld. sym (cell_same d ld)) i k);
    none_closed = h.none_closed;
  }

  -- and so are the sets
  holds_same : {P : Instance} {slot core sets : ℕ} → Sets P slot core c (nth t₀) sets → Sets P slot core c (nth t) sets
  holds_same h = sets_same (λ d ld. sym (cell_same d ld)) h

-- ---- the walk
module _ {P : Instance} (small : Small P) (e b : ℕ) (grid : Grid) (ready : GridFor P e grid) where
  module _ {first slot core sets : ℕ} {t₀ l : List ℕ} (stands : Before P first slot core sets t₀ l) (rest : ℕ) (next : Onward) (gives : GivesBack next)
      (onward : (sets₁ : ℕ) (t₁ l₁ : List ℕ) (u : ℕ) → After P first slot core sets₁ t₁ l₁ → u ≤ b
      → Shows b (cells P) (suc (first + core)) t₁ (next sets₁ t₁ l₁ u) (bwalk b (rule_of e P) (values P) rest (take (suc (first + core)) t₁) u)) where
    -- the cell is in the table
    room : first + core < length t₀
    room = omega (arith, cell_in stands, stands.long)

    -- a value w in the cell: what is known after it
    after : (t : List ℕ) → take (first + core) t ≡ take (first + core) t₀ → length t ≡ length t₀ → (w : ℕ) → w ≤ P.tasks → (sets₁ : ℕ)
        → Sets P slot (core + 1) (suc (first + core)) (nth (set t (first + core) w)) sets₁ → (l₁ : List ℕ) → length l₁ ≡ 16385
        → Lefts P (first + core + 1) (nth (set t (first + core) w)) l₁ → After P first slot core sets₁ (set t (first + core) w) l₁
    after t et el w lw sets₁ holds l₁ sized lefts = record {
      holds = holds;
      lefts = subst (λ c. Lefts P c (nth (set t (first + core) w)) l₁) (add-one (first + core)) lefts;
      known = λ d ld. elim (ℕ_discrete d (first + core)) [
        | yes q ↦ rw q (rw (get_or-set_same t (first + core) w 0 (omega (arith, room, el))) lw)
        | no x ↦ rw (get_or-set_other t (first + core) d w 0 x, cell_same (first + core) t t₀ et d (omega arith)) (stands.known d (omega arith))
      ];
      long = rw (length-set t (first + core) w) (omega (arith, stands.long, el));
      sized = sized;
    }

    -- what the walk below a value w tells
    below : (t : List ℕ) → take (first + core) t ≡ take (first + core) t₀ → length t ≡ length t₀ → (w : ℕ) → w ≤ P.tasks → (sets₁ : ℕ)
        → Sets P slot (core + 1) (suc (first + core)) (nth (set t (first + core) w)) sets₁ → (l₁ : List ℕ) → length l₁ ≡ 16385
        → Lefts P (first + core + 1) (nth (set t (first + core) w)) l₁ → (u : ℕ) → u ≤ b
        → Shows b (cells P) (suc (first + core)) (set t (first + core) w) (next sets₁ (set t (first + core) w) l₁ u)
        (bwalk b (rule_of e P) (values P) rest (take (first + core) t₀ ++ w ∷ []) u)
    below t et el w lw sets₁ holds l₁ sized lefts u lu =
        subst (λ p. Shows b (cells P) (suc (first + core)) (set t (first + core) w) (next sets₁ (set t (first + core) w) l₁ u) (bwalk b (rule_of e P) (values P) rest p u))
        (take-suc-set t (first + core) w (omega (arith, room, el)) ∙ ap (λ p. p ++ w ∷ []) et)
        (onward sets₁ (set t (first + core) w) l₁ u (after t et el w lw sets₁ holds l₁ sized lefts) lu)

    -- the table with a value w in the cell
    module _ (t : List ℕ) (et : take (first + core) t ≡ take (first + core) t₀) (el : length t ≡ length t₀) (w : ℕ) where
      put_cell : nth (set t (first + core) w) (first + core) ≡ w
      put_cell = get_or-set_same t (first + core) w 0 (omega (arith, room, el))

      put_prefix : take (first + core) (set t (first + core) w) ≡ take (first + core) t₀
      put_prefix = take-set-le (first + core) t (first + core) w (omega arith) ∙ et

      put_long : length (set t (first + core) w) ≡ length t₀
      put_long = length-set t (first + core) w ∙ el

    -- idle, after the last task
    idle_shows : (t : List ℕ) (u : ℕ) → take (first + core) t ≡ take (first + core) t₀ → length t ≡ length t₀
        → (rule_of e P).tried (take (first + core) t₀) 0 ≡ not (bars_idle grid sets core) → u ≤ b
        → Shows b (cells P) (first + core) t₀ (idle_last grid b first slot core sets next t l u)
        (btry_all (one_value b (rule_of e P) (values P) rest (take (first + core) t₀)) (0 ∷ []) u)
    unfolding idle_last told_at
    idle_shows t u et el h lu = go (bars_idle grid sets core) refl
      where
        ends : ℕ → Outcome
        ends u = ended (none u)

        -- the walk below it
        r : State
        r = next sets (set t (first + core) 0) l (u + 1)

        tells : u ≢ b → Shows b (cells P) (suc (first + core)) (set t (first + core) 0) r (bwalk b (rule_of e P) (values P) rest (take (first + core) t₀ ++ 0 ∷ []) (u + 1))
        tells x = below t et el 0 (omega arith) sets
            (sets_idle small ready stands.first_is stands.slot_in stands.core_in t (omega (arith, room, el)) (holds_same (first + core) t t₀ et stands.holds)) l stands.sized
            (lefts_idle small ready stands.first_is stands.slot_in stands.core_in t l (omega (arith, room, el)) (lefts_same (first + core) t t₀ et P l stands.lefts)) (u + 1) (omega arith)

        go : (x : Bool) → bars_idle grid sets core ≡ x
            → Shows b (cells P) (first + core) t₀ (cond (bars_idle grid sets core) (state NoneFound t l u) (one_more b t l u r)) (btry_all (one_value b (rule_of e P) (values P) rest (take (first + core) t₀)) (0 ∷ []) u)
        go true z = shows_same {s = state NoneFound t l u} (rw z) (ap (λ a. bnext 0 a ends) (one_skips P e b rest (take (first + core) t₀) 0 u (h ∙ ap not z)))
            (record { answer = refl; prefix = et; long = el; most = lu })
        go false z = elim (ℕ_discrete u b) [
          | yes q ↦ shows_same {s = state Stopped t l u} (rw (z, eq-eqb u b q)) (ap (λ a. bnext 0 a ends) (one_stops P e b rest (take (first + core) t₀) 0 u (h ∙ ap not z) q))
              (record { answer = ap stopped q; prefix = et; long = el; most = lu })
          | no x ↦ shows_same {s = r} (rw (z, ne_eqb u b x)) (ap (λ a. bnext 0 a ends) (one_goes P e b rest (take (first + core) t₀) 0 u (h ∙ ap not z) x lu))
              (end_cases r.end
              (λ w. record {
                answer = ap (λ y. told_at y (cells P) (first + core) r.table r.tries) w ∙ sym (below_none (cell_in stands) t₀ (tells x) (put_cell t et el 0) (put_prefix t et el 0) (put_long t et el 0) room ends w);
                prefix = before_prefix (cell_in stands) t₀ (tells x) (put_cell t et el 0) (put_prefix t et el 0) (put_long t et el 0) room ends;
                long = (tells x).long ∙ put_long t et el 0;
                most = (tells x).most;
              })
              (λ w. below_ended (cell_in stands) t₀ (tells x) (put_cell t et el 0) (put_prefix t et el 0) (put_long t et el 0) room ends w))
        ]

    -- what is still to be tried of the cell's values, from v + 1 on, tells what is left of the rule's values
    Tells : ℕ → ℕ → List ℕ → ℕ → Type 0
    Tells j v t u = Shows b (cells P) (first + core) t₀ (try_from grid b first slot core sets next j (floor_on grid t₀ first core) t l v u)
        (btry_all (one_value b (rule_of e P) (values P) rest (take (first + core) t₀)) (up_to j (suc v)) u)

    -- one task
    module _ (j v : ℕ) (lv : v < P.tasks) (t : List ℕ) (u : ℕ) (et : take (first + core) t ≡ take (first + core) t₀) (el : length t ≡ length t₀) (lu : u ≤ b)
        (ih : (t' : List ℕ) (u' : ℕ) → take (first + core) t' ≡ take (first + core) t₀ → length t' ≡ length t₀ → u' ≤ b → Tells j (suc v) t' u') where
      others : ℕ → Outcome
      others = btry_all (one_value b (rule_of e P) (values P) rest (take (first + core) t₀)) (up_to j (suc (suc v)))

      -- whether it is tried
      is_tried : (rule_of e P).tried (take (first + core) t₀) (suc v) ≡ has sets v core && leb (floor_on grid t₀ first core) (v + 1)
      is_tried = task_tried small grid stands.first_is stands.slot_in stands.core_in t₀ (omega (arith, room)) stands.holds e ready v lv

      -- it is not
      not_tried : has sets v core && leb (floor_on grid t₀ first core) (v + 1) ≡ false → Tells (suc j) v t u
      unfolding Tells others
      not_tried p = shows_same {s = try_from grid b first slot core sets next j (floor_on grid t₀ first core) t l (suc v) u}
          (skip grid b first slot core sets next j (floor_on grid t₀ first core) t l v u p
          ∙ ap (λ x. try_from grid b first slot core sets next j (floor_on grid t₀ first core) t l x u) (add-one v))
          (ap (λ a. bnext (suc v) a others) (one_skips P e b rest (take (first + core) t₀) (suc v) u (is_tried ∙ p)))
          (ih t u et el lu)

      -- it is
      module _ (p : has sets v core && leb (floor_on grid t₀ first core) (v + 1) ≡ true) where
        -- the limit does not allow it
        out : u ≡ b → Tells (suc j) v t u
        unfolding Tells others told_at
        out z = shows_same {s = state Stopped t l u}
            (stop grid b first slot core sets next j (floor_on grid t₀ first core) t l v u p z)
            (ap (λ a. bnext (suc v) a others) (one_stops P e b rest (take (first + core) t₀) (suc v) u (is_tried ∙ p) z))
            (record { answer = ap stopped z; prefix = et; long = el; most = lu })

        -- it is put into the cell
        module _ (z : u ≢ b) where
          l₁ : List ℕ
          l₁ = set l (counter_on grid slot v) (nth l (counter_on grid slot v) - rate_on grid v core)

          r : State
          r = next (without sets v) (set t (first + core) (v + 1)) l₁ (u + 1)

          -- what the walk below it tells
          tells_below : Shows b (cells P) (suc (first + core)) (set t (first + core) (v + 1)) r
              (bwalk b (rule_of e P) (values P) rest (take (first + core) t₀ ++ (v + 1) ∷ []) (u + 1))
          unfolding l₁ r
          tells_below = below t et el (v + 1) (omega arith) (without sets v)
              (sets_put small ready stands.first_is stands.slot_in stands.core_in t (omega (arith, room, el)) holds v (omega (arith, small.few_tasks))) l₁ (length-set l _ _ ∙ stands.sized)
              (lefts_put small ready stands.first_is stands.slot_in stands.core_in t l (omega (arith, room, el)) stands.sized lefts v lv
              (open_tells small ready stands.first_is stands.slot_in stands.core_in (nth t) holds v lv (and_left _ _ p)))
              (u + 1) (omega arith)
            where
              lefts : Lefts P (first + core) (nth t) l
              lefts = lefts_same (first + core) t t₀ et P l stands.lefts

              holds : Sets P slot core (first + core) (nth t) sets
              holds = holds_same (first + core) t t₀ et stands.holds

          -- the counter is given back what it was
          again : r.end ≡ NoneFound → set r.left (counter_on grid slot v) (nth l (counter_on grid slot v)) ≡ l
          unfolding l₁ r
          again w = ap (λ x. set x (counter_on grid slot v) (nth l (counter_on grid slot v))) (gives (without sets v) (set t (first + core) (v + 1)) l₁ (u + 1) w) ∙ given_back l (counter_on grid slot v) _

          -- the walk below it is what the rule's value gives
          value_is : one_value b (rule_of e P) (values P) rest (take (first + core) t₀) (suc v) u
              ≡ bwalk b (rule_of e P) (values P) rest (take (first + core) t₀ ++ (v + 1) ∷ []) (u + 1)
          value_is = one_goes P e b rest (take (first + core) t₀) (suc v) u (is_tried ∙ p) z lu
              ∙ ap (λ w. bwalk b (rule_of e P) (values P) rest (take (first + core) t₀ ++ w ∷ []) (u + 1)) (sym (add-one v))

          cell_is : nth (set t (first + core) (v + 1)) (first + core) ≡ suc v
          cell_is = put_cell t et el (v + 1) ∙ add-one v

          in_cell : Tells (suc j) v t u
          unfolding Tells others l₁ r placed
          in_cell = end_cases r.end
              (λ w. shows_same {s = try_from grid b first slot core sets next j (floor_on grid t₀ first core) r.table l (suc v) r.tries}
              (back grid b first slot core sets next j (floor_on grid t₀ first core) t l v u p z r refl w
              ∙ (λ i. try_from grid b first slot core sets next j (floor_on grid t₀ first core) r.table (again w i) (add-one v i) r.tries))
              (ap (λ a. bnext (suc v) a others) value_is ∙ below_none (cell_in stands) t₀ tells_below cell_is (put_prefix t et el (v + 1)) (put_long t et el (v + 1)) room others w)
              (ih r.table r.tries (before_prefix (cell_in stands) t₀ tells_below cell_is (put_prefix t et el (v + 1)) (put_long t et el (v + 1)) room others)
              (tells_below.long ∙ put_long t et el (v + 1)) tells_below.most))
              (λ w. shows_same {s = r}
              (tried grid b first slot core sets next j (floor_on grid t₀ first core) t l v u p z r refl ∙ ended_stays r.end r _ w)
              (ap (λ a. bnext (suc v) a others) value_is)
              (below_ended (cell_in stands) t₀ tells_below cell_is (put_prefix t et el (v + 1)) (put_long t et el (v + 1)) room others w))

        one_tried : Tells (suc j) v t u
        one_tried = elim (ℕ_discrete u b) [ yes z ↦ out z | no x ↦ in_cell x ]

      one_task : Tells (suc j) v t u
      one_task = go (has sets v core && leb (floor_on grid t₀ first core) (v + 1)) refl
        where
          go : (p : Bool) → has sets v core && leb (floor_on grid t₀ first core) (v + 1) ≡ p → Tells (suc j) v t u
          go false p = not_tried p
          go true p = one_tried p

    -- all values
    values_tell : (j v : ℕ) (t : List ℕ) (u : ℕ) → v + j ≡ P.tasks → take (first + core) t ≡ take (first + core) t₀ → length t ≡ length t₀ → u ≤ b → Tells j v t u
    unfolding Tells try_from
    values_tell zero v t u ev et el lu = idle_shows t u et el
        (idle_tried_lem small grid stands.first_is stands.slot_in stands.core_in t₀ (omega (arith, room)) stands.holds e ready stands.known) lu
    values_tell (suc j) v t u ev et el lu = one_task j v (omega arith) t u et el lu (λ t' u'. values_tell j (suc v) t' u' (omega arith))

    -- the whole cell
    cell_tells : (u : ℕ) → u ≤ b → Tells P.tasks 0 t₀ u
    cell_tells u lu = values_tell P.tasks 0 t₀ u (omega arith) refl refl lu

  -- ---- from cell to cell
  -- the walk under the limit behind a test that passes or fails
  bwalk_in : (k : ℕ) (p : List ℕ) (u : ℕ) → (rule_of e P).goes_on p ≡ true
      → bwalk b (rule_of e P) (values P) (suc k) p u ≡ btry_all (one_value b (rule_of e P) (values P) k p) (values P) u
  unfolding bwalk
  bwalk_in k p u h = rw h

  bwalk_end : (p : List ℕ) (u : ℕ) → (rule_of e P).goes_on p ≡ true → bwalk b (rule_of e P) (values P) 0 p u ≡ ended (found [] u)
  unfolding bwalk
  bwalk_end p u h = rw h

  bwalk_shut : (k : ℕ) (p : List ℕ) (u : ℕ) → (rule_of e P).goes_on p ≡ false → bwalk b (rule_of e P) (values P) k p u ≡ ended (none u)
  unfolding bwalk
  bwalk_shut zero p u h = rw h
  bwalk_shut (suc k) p u h = rw h

  -- from a cell with k cells left, this one among them, the arrays' walk tells what the rule's values do
  Goes : ℕ → Type 0
  Goes k = (first slot core sets : ℕ) (t l : List ℕ) → Before P first slot core sets t l → (u : ℕ) → u ≤ b → k + (first + core) ≡ cells P
      → Shows b (cells P) (first + core) t (walk_on k grid b first slot core sets t l u) (btry_all (one_value b (rule_of e P) (values P) (pred k) (take (first + core) t)) (values P) u)

  module _ (rest : ℕ) (goes : Goes rest) {first slot core : ℕ} (ef : first ≡ slot * P.cores) (ls : slot < P.slots) (lc : core < P.cores)
      (er : rest + suc (first + core) ≡ cells P) (sets : ℕ) (t l : List ℕ) (after : After P first slot core sets t l) (u : ℕ) (lu : u ≤ b) where
    -- whether the walk goes on behind the cell is told by the rule
    goes_at : (rule_of e P).goes_on (take (suc (first + core)) t) ≡ all_settled P (suc (first + core)) (nth t)
    goes_at = goes_prefix P e (suc (first + core)) t (omega (arith, after.long))

    -- the next cell, of core `core'` in the slot that begins at `first'`, is cell c
    next_cell : (c first' slot' core' sets' : ℕ) → Sets P slot' core' (suc (first + core)) (nth t) sets' → c ≡ first' + core' → c ≡ suc (first + core) → first' ≡ slot' * P.cores → slot' < P.slots → core' < P.cores → c < cells P
        → (rule_of e P).goes_on (take (suc (first + core)) t) ≡ true
        → Shows b (cells P) (suc (first + core)) t (walk_on rest grid b first' slot' core' sets' t l u) (bwalk b (rule_of e P) (values P) rest (take (suc (first + core)) t) u)
    unfolding Goes
    next_cell c first' slot' core' sets' holds ec es ef' ls' lc' lt h = go rest goes er
      where
        stands : Before P first' slot' core' sets' t l
        stands = record {
          first_is = ef';
          slot_in = ls';
          core_in = lc';
          holds = subst (λ x. Sets P slot' core' x (nth t) sets') (sym es ∙ ec) holds;
          lefts = subst (λ x. Lefts P x (nth t) l) (sym es ∙ ec) after.lefts;
          known = λ d ld. after.known d (omega arith);
          long = after.long;
          sized = after.sized;
        }

        go : (k : ℕ) → Goes k → k + suc (first + core) ≡ cells P
            → Shows b (cells P) (suc (first + core)) t (walk_on k grid b first' slot' core' sets' t l u) (bwalk b (rule_of e P) (values P) k (take (suc (first + core)) t) u)
        go zero g ek = absurd (omega arith)
        go (suc k) g ek = shows_same refl (bwalk_in k (take (suc (first + core)) t) u h)
            (subst (λ x. Shows b (cells P) x t (walk_on (suc k) grid b first' slot' core' sets' t l u) (btry_all (one_value b (rule_of e P) (values P) k (take x t)) (values P) u))
            (sym ec ∙ es) (g first' slot' core' sets' t l stands u lu (omega arith)))

    -- one more core in the slot
    next_core : core + 1 < P.cores → Shows b (cells P) (suc (first + core)) t (after_cell grid (walk_on rest grid b) first slot (core + 1) sets t l u)
        (bwalk b (rule_of e P) (values P) rest (take (suc (first + core)) t) u)
    unfolding after_cell
    next_core h = shows_same {s = walk_on rest grid b first slot (core + 1) sets t l u} (rw (lt-ltb (core + 1) (cores_on grid) (rw ready.cores h))) refl
        (next_cell (first + (core + 1)) first slot (core + 1) sets after.holds refl (omega arith) ef ls h (omega (arith, ef, mul-le-mul_right P.cores ls))
        (goes_at ∙ ap (λ c. all_settled P c (nth t)) (omega arith) ∙ settled_within small ready slot (core + 1) (omega arith) h (nth t)))

    -- the slot is at its end
    module _ (h : P.cores ≤ core + 1) where
      slot_ends : all_settled_on grid l slot ≡ (rule_of e P).goes_on (take (suc (first + core)) t)
      slot_ends = all_settled_is small ready ls (suc (first + core)) (nth t) l after.lefts (omega (arith, ef)) ∙ sym goes_at

      starved_slot : all_settled_on grid l slot ≡ false → Shows b (cells P) (suc (first + core)) t (after_cell grid (walk_on rest grid b) first slot (core + 1) sets t l u)
          (bwalk b (rule_of e P) (values P) rest (take (suc (first + core)) t) u)
      unfolding after_cell told_at
      starved_slot z = shows_same {s = state NoneFound t l u} (rw (le-ltb (core + 1) (cores_on grid) (rw ready.cores h), z))
          (bwalk_shut rest (take (suc (first + core)) t) u (sym slot_ends ∙ z))
          (record { answer = refl; prefix = refl; long = refl; most = lu })

      settled_slot : all_settled_on grid l slot ≡ true → Shows b (cells P) (suc (first + core)) t (after_cell grid (walk_on rest grid b) first slot (core + 1) sets t l u)
          (bwalk b (rule_of e P) (values P) rest (take (suc (first + core)) t) u)
      unfolding after_cell told_at
      settled_slot z = ⊎_elim
          (λ more. shows_same {s = walk_on rest grid b (first + (core + 1)) (slot + 1) 0 (sets_on grid l (slot + 1)) t l u}
          (rw (le-ltb (core + 1) (cores_on grid) (rw ready.cores h), z, lt-ltb (slot + 1) (slots_on grid) (rw ready.slots more))) refl
          (next_cell (first + (core + 1)) (first + (core + 1)) (slot + 1) 0 (sets_on grid l (slot + 1)) (sets_start small ready (omega (arith, ef)) more t l after.lefts) (omega arith) (omega arith) (omega (arith, ef)) more (omega arith)
          (omega (arith, ef, mul-le-mul_right P.cores more)) (sym slot_ends ∙ z)))
          (λ none. let last : rest ≡ 0 = omega (arith, ef, mul-le-mul_right P.cores none) in
          let over : cells P - suc (first + core) ≡ 0 = omega arith in
          shows_same {s = state Found t l u}
          (rw (le-ltb (core + 1) (cores_on grid) (rw ready.cores h), z, le-ltb (slot + 1) (slots_on grid) (rw ready.slots none)))
          (ap (λ k. bwalk b (rule_of e P) (values P) k (take (suc (first + core)) t) u) last ∙ bwalk_end (take (suc (first + core)) t) u (sym slot_ends ∙ z))
          (record {
            answer = ap (λ k. ended (found (take k (drop (suc (first + core)) t)) u)) over;
            prefix = refl;
            long = refl;
            most = lu;
          }))
          (lt_or_ge (slot + 1) P.slots)

    -- after a cell
    after_tells : Shows b (cells P) (suc (first + core)) t (after_cell grid (walk_on rest grid b) first slot (core + 1) sets t l u)
        (bwalk b (rule_of e P) (values P) rest (take (suc (first + core)) t) u)
    after_tells = ⊎_elim next_core (λ h. go h (all_settled_on grid l slot) refl) (lt_or_ge (core + 1) P.cores)
      where
        go : P.cores ≤ core + 1 → (x : Bool) → all_settled_on grid l slot ≡ x → Shows b (cells P) (suc (first + core)) t (after_cell grid (walk_on rest grid b) first slot (core + 1) sets t l u)
            (bwalk b (rule_of e P) (values P) rest (take (suc (first + core)) t) u)
        go h false z = starved_slot h z
        go h true z = settled_slot h z

  -- the walk from any cell
  walk_goes : (k : ℕ) → Goes k
  unfolding Goes walk_on Tells
  walk_goes zero first slot core sets t l stands u lu ek = absurd (omega (arith, cell_in stands))
  walk_goes (suc rest) first slot core sets t l stands u lu ek =
      shows_same {s = try_from grid b first slot core sets (after_cell grid (walk_on rest grid b) first slot (core + 1)) P.tasks (floor_on grid t first core) t l 0 u}
      (ap (λ n. try_from grid b first slot core sets (after_cell grid (walk_on rest grid b) first slot (core + 1)) n (floor_on grid t first core) t l 0 u) ready.tasks) refl
      (cell_tells stands rest (after_cell grid (walk_on rest grid b) first slot (core + 1)) (after_gives grid (walk_on rest grid b) (walk_gives rest grid b) first slot (core + 1))
      (λ sets₁ t₁ l₁ u₁ after lu₁. after_tells rest (walk_goes rest) stands.first_is stands.slot_in stands.core_in (omega arith) sets₁ t₁ l₁ after u₁ lu₁) u lu)

  -- before the first cell no job ends
  settled_start : (f : ℕ → ℕ) → all_settled P 0 f ≡ true
  unfolding all_settled settled
  settled_start f = all_true P.tasks _ (λ i li. all_true (P.jobs (suc i)) _ (λ k lk.
      rw (ne_eqb (suc (job_end P (suc i) k) * P.cores) 0 (λ z. omega (arith, mul-pos {m = suc (job_end P (suc i) k)} {n = P.cores} (omega arith) small.regular.some_core)))))

  -- the walk over the whole table, with u tries counted before it, is the engine's under the limit
  pub walk_limited : (t l : List ℕ) → Lefts P 0 (nth t) l → cells P ≤ length t → length l ≡ 16385 → (u : ℕ) → u ≤ b
      → Shows b (cells P) 0 t (walk_on (cells P) grid b 0 0 0 (sets_on grid l 0) t l u) (limited b (spend u (walked e P)))
  unfolding Goes
  walk_limited t l lefts long sized u lu = shows_same refl (sym (bwalk_from b (rule_of e P) (values P) (cells P) [] u lu)) (go (cells P) (omega arith) some)
    where
      some : 0 < cells P
      some = mul-pos small.regular.some_slot small.regular.some_core

      stands : Before P 0 0 0 (sets_on grid l 0) t l
      stands = record {
        first_is = omega arith;
        slot_in = small.regular.some_slot;
        core_in = small.regular.some_core;
        holds = sets_start small ready (omega arith) small.regular.some_slot t l lefts;
        lefts = lefts;
        known = λ d ld. absurd (omega arith);
        long = long;
        sized = sized;
      }

      go : (k : ℕ) → k + (0 + 0) ≡ cells P → 0 < k → Shows b (cells P) 0 t (walk_on k grid b 0 0 0 (sets_on grid l 0) t l u) (bwalk b (rule_of e P) (values P) k [] u)
      go zero ek pos = absurd (omega arith)
      go (suc k) ek pos = shows_same refl (bwalk_in k [] u (goes_prefix P e 0 t (omega arith) ∙ settled_start (nth t))) (walk_goes (suc k) 0 0 0 (sets_on grid l 0) t l stands u lu ek)
