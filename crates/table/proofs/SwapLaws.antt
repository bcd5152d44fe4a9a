-- Two cells of a valid table exchanged: what keeps it valid. Both a swap of twins and a move into an idle cell are such an exchange.
-- Assumes nothing.
use Prim.Native.Nat.{ℕ, ◌≤◌, ◌<◌}
use native.Mathlib.Decide.{ℕ_discrete}
use native.Mathlib.Omega.{arith}
use mathlib.Core.Path.{◌≡◌, refl, ap, sym, ◌∙◌}
use mathlib.Core.Logic.{◌≢◌, ⊎_elim}
use mathlib.Core.Bool.{cond}
use lib.Dec.{T, eqb}
use borrow.Author.Tests.{eq-eqb, ne_eqb}
use Rattle.laws.proofs.SumLaws.{sum_stays, lt_or_ge, sum_change, sum_change_two}
use Rattle.tasks.specs.Instance.{Instance}
use Rattle.table.specs.Table.{cells, slot_of, core_of, share, done, Valid}
use Rattle.table.proofs.JobLaws.{job_slot_lem, slot_job}
use Rattle.table.proofs.ShareLaws.{share_job, share_other, share_none}
use Rattle.table.proofs.TableLaws.{slot_le, done_more, done_same}

-- the cells a and b exchanged
unfoldable pub swapped : ℕ → ℕ → (ℕ → ℕ) → ℕ → ℕ
swapped a b f c = cond (eqb c a) (f b) (cond (eqb c b) (f a) (f c))

-- the task z of cell a would do in cell b what it does in cell a
pub record Moves (P : Instance) (z a b : ℕ) : Type 0 where
  pub open_there : T (P.opens z (slot_of P b))
  pub rated : 0 < P.rate z (core_of P b)
  pub same_job : P.job z (slot_of P a) ≡ P.job z (slot_of P b)
  pub same_rate : P.rate z (core_of P a) ≡ P.rate z (core_of P b)

-- the value of cell b stands in the slot of cell a in no cell but a and b
abbrev pub Alone : Instance → (ℕ → ℕ) → ℕ → ℕ → Type 0
Alone P f a b = (d : ℕ) → d < cells P → d ≢ a → d ≢ b → slot_of P d ≡ slot_of P a → f d ≡ f b → f b ≡ 0

-- the task of cell a stands in no later cell up to b
abbrev pub Last : (ℕ → ℕ) → ℕ → ℕ → Type 0
Last f a b = f a ≢ 0 → (d : ℕ) → a < d → d ≤ b → f d ≢ f a

-- between the cells a and b the task of cell b stands in no cell for the job that it has in the slot of cell a
abbrev pub Next : Instance → (ℕ → ℕ) → ℕ → ℕ → Type 0
Next P f a b = (d : ℕ) → a < d → d < b → f d ≢ 0 → f d ≡ f b → P.job (f d) (slot_of P d) ≢ P.job (f d) (slot_of P a)

module _ (a b : ℕ) (f : ℕ → ℕ) where
  -- what stands in cell a after the exchange
  pub swapped_a : swapped a b f a ≡ f b
  unfolding swapped
  swapped_a = rw (eq-eqb a a refl)

  -- in cell b
  swapped_b : a ≢ b → swapped a b f b ≡ f a
  unfolding swapped
  swapped_b x = rw (ne_eqb b a (λ e. x (sym e)), eq-eqb b b refl)

  -- elsewhere
  pub swapped_other : (c : ℕ) → c ≢ a → c ≢ b → swapped a b f c ≡ f c
  unfolding swapped
  swapped_other c x y = rw (ne_eqb c a x, ne_eqb c b y)

  -- what holds of the two cells with their new values, and of each other cell, holds of each cell
  swapped_all : (Q : ℕ → ℕ → Type 0) → a ≢ b → Q a (f b) → Q b (f a) → ((c : ℕ) → c ≢ a → c ≢ b → Q c (f c)) → (c : ℕ) → Q c (swapped a b f c)
  swapped_all Q ab qa qb qc c = elim (ℕ_discrete c a) [
    | yes e ↦ rw (e, swapped_a) qa
    | no x ↦ elim (ℕ_discrete c b) [ yes e ↦ rw (e, swapped_b ab) qb | no y ↦ rw (swapped_other c x y) (qc c x y) ]
  ]

module _ (P : Instance) where
  -- a task that moves does in the new cell, for each of its jobs, what it did in the old
  task_moves : (i k a b : ℕ) → T (P.opens i (slot_of P a)) → Moves P i a b → share P i k a i ≡ share P i k b i
  task_moves i k a b o m = elim (ℕ_discrete (P.job i (slot_of P a)) k) [
    | yes e ↦ share_job P i k a (job_slot_lem P i k (slot_of P a) o e) ∙ m.same_rate
        ∙ sym (share_job P i k b (job_slot_lem P i k (slot_of P b) m.open_there (sym m.same_job ∙ e)))
    | no x ↦ share_none P i k a i (λ _ t. x (slot_job P i k (slot_of P a) t).1)
        ∙ sym (share_none P i k b i (λ _ t. x (m.same_job ∙ (slot_job P i k (slot_of P b) t).1)))
  ]

  -- and so does any value, if it moves where it is a task
  share_moves : (i k z a b : ℕ) → i ≢ 0 → (z ≢ 0 → T (P.opens z (slot_of P a))) → (z ≢ 0 → Moves P z a b) → share P i k a z ≡ share P i k b z
  share_moves i k z a b x o h = elim (ℕ_discrete z i) [
    | yes e ↦ rw e (task_moves i k a b (rw e at (o (omega arith))) (rw e at (h (omega arith))))
    | no y ↦ share_other P i k a z y ∙ sym (share_other P i k b z y)
  ]

  module _ (f : ℕ → ℕ) (a b : ℕ) (before : a < b) (lb : b < cells P) (v : Valid P f) where
    -- cell a is one of the table's, and not cell b
    la : a < cells P
    la = omega arith

    ab : a ≢ b
    ab e = omega arith

    -- up to cell a the exchange changes nothing
    swapped_before : (i k c : ℕ) → c ≤ a → done P c (swapped a b f) i k ≡ done P c f i k
    swapped_before i k c l = done_same P c (swapped a b f) f (λ d m. swapped_other a b f d (λ e. omega arith) (λ e. omega arith)) i k

    -- from there up to cell b it adds nothing to a job for which the value of cell b does nothing in cell a
    swapped_between : (i k c : ℕ) → a < c → c ≤ b → share P i k a (f b) ≡ 0 → done P c (swapped a b f) i k ≤ done P c f i k
    unfolding done
    swapped_between i k c l m z = omega (
      arith,
      sum_change c (λ d. share P i k d (f d)) (λ d. share P i k d (swapped a b f d)) a l (λ d n y. rw (swapped_other a b f d y (λ e. omega arith))),
      ap (share P i k a) (swapped_a a b f) ∙ z,
    )

    -- two cells exchanged, whose values move
    module _ (ma : f a ≢ 0 → Moves P (f a) a b) (mb : f b ≢ 0 → Moves P (f b) b a) where
      -- behind cell b each job has the work that it had
      swapped_after : (i k c : ℕ) → i ≢ 0 → b < c → done P c (swapped a b f) i k ≡ done P c f i k
      unfolding done
      swapped_after i k c x l = omega (
        arith,
        sum_change_two c (λ d. share P i k d (f d)) (λ d. share P i k d (swapped a b f d)) a b (omega arith) l ab (λ d _ y z. rw (swapped_other a b f d y z)),
        ap (share P i k a) (swapped_a a b f) ∙ sym (share_moves i k (f b) b a x (v.open_there b lb) mb),
        ap (share P i k b) (swapped_b a b f ab) ∙ sym (share_moves i k (f a) a b x (v.open_there a la) ma),
      )

      -- the job of cell b is not complete at cell a, which comes before
      needed_a : f b ≢ 0 → done P a (swapped a b f) (f b) (P.job (f b) (slot_of P a)) < P.work (f b)
      needed_a n = omega (
        arith,
        swapped_before (f b) (P.job (f b) (slot_of P a)) a (omega arith),
        done_more P a b f (f b) (P.job (f b) (slot_of P a)) (omega arith),
        rw (mb n).same_job at (v.needed b lb n),
      )

      -- the job of cell a is not complete at cell b, as none of its cells lies between
      needed_b : Last f a b → f a ≢ 0 → done P b (swapped a b f) (f a) (P.job (f a) (slot_of P b)) < P.work (f a)
      unfolding done
      needed_b last n = omega (
        arith,
        sum_stays a b (λ d. share P (f a) (P.job (f a) (slot_of P b)) d (swapped a b f d)) (omega arith) (λ d l m. share_other P (f a) _ d _ (other d l m)),
        swapped_before (f a) (P.job (f a) (slot_of P b)) a (omega arith),
        rw (ma n).same_job at (v.needed a la n),
      )
        where
          other : (d : ℕ) → a ≤ d → d < b → swapped a b f d ≢ f a
          other d l m = elim (ℕ_discrete d a) [
            | yes e ↦ rw (e, swapped_a) (last n b before (omega arith))
            | no x ↦ rw (swapped_other a b f d x (λ e. omega arith)) (last n d (omega arith) (omega arith))
          ]

      -- at any other cell its job has done no more than before
      needed_other : Next P f a b → (c : ℕ) → c ≢ a → c ≢ b → c < cells P → f c ≢ 0
          → done P c (swapped a b f) (f c) (P.job (f c) (slot_of P c)) < P.work (f c)
      needed_other next c x y l n =
          let k = P.job (f c) (slot_of P c) in
          ⊎_elim
          (λ p. ⊎_elim
          (λ q. omega (arith, swapped_after (f c) k c n q, v.needed c l n))
          (λ q. omega (
            arith,
            swapped_between (f c) k c p q (share_none P (f c) k a (f b) (λ e t. next c p (omega arith) n (sym e) (sym (slot_job P (f c) k (slot_of P a) t).1))),
            v.needed c l n,
          ))
          (lt_or_ge b c))
          (λ p. omega (arith, swapped_before (f c) k c p, v.needed c l n))
          (lt_or_ge a c)

    -- two cells exchanged, whose values move and stand nowhere else in the other's slot; between the two stands no task of cell a, and none of cell b for the same job
    pub swap_valid : (f a ≢ 0 → Moves P (f a) a b) → (f b ≢ 0 → Moves P (f b) b a) → Alone P f a b → Alone P f b a → Last f a b → Next P f a b
        → Valid P (swapped a b f)
    swap_valid ma mb oa ob last next = record {
      known = swapped_all a b f (λ c z. c < cells P → z ≤ P.tasks) ab (λ l. v.known b lb) (λ l. v.known a la) (λ c x y. v.known c);
      open_there = swapped_all a b f (λ c z. c < cells P → z ≢ 0 → T (P.opens z (slot_of P c))) ab
          (λ l n. (mb n).open_there) (λ l n. (ma n).open_there) (λ c x y. v.open_there c);
      rated = swapped_all a b f (λ c z. c < cells P → z ≢ 0 → 0 < P.rate z (core_of P c)) ab
          (λ l n. (mb n).rated) (λ l n. (ma n).rated) (λ c x y. v.rated c);
      once = once;
      full = λ i k x l j. rw (swapped_after ma mb i k (cells P) x lb) (v.full i k x l j);
      needed = swapped_all a b f (λ c z. c < cells P → z ≢ 0 → done P c (swapped a b f) z (P.job z (slot_of P c)) < P.work z) ab
          (λ l. needed_a ma mb) (λ l. needed_b ma mb last) (needed_other ma mb next);
    }
      where
        -- cell d with the value w against cell c with the value z
        Apart : ℕ → ℕ → ℕ → ℕ → Type 0
        Apart c z d w = c < cells P → d < cells P → c ≢ d → slot_of P c ≡ slot_of P d → z ≡ w → z ≡ 0

        once : (c d : ℕ) → Apart c (swapped a b f c) d (swapped a b f d)
        once = swapped_all a b f (λ c z. (d : ℕ) → Apart c z d (swapped a b f d)) ab
            (swapped_all a b f (Apart a (f b)) ab
            (λ _ _ n _ _. absurd (n refl)) (λ _ _ n s e. e ∙ v.once a b la lb ab s (sym e)) (λ d x y _ ld n s e. oa d ld x y (sym s) (sym e)))
            (swapped_all a b f (Apart b (f a)) ab
            (λ _ _ n s e. v.once a b la lb ab (sym s) e) (λ _ _ n _ _. absurd (n refl)) (λ d x y _ ld n s e. ob d ld y x (sym s) (sym e)))
            (λ c x y. swapped_all a b f (Apart c (f c)) ab
            (λ lc _ n s e. e ∙ oa c lc x y s e) (λ lc _ n s e. e ∙ ob c lc y x s e) (λ d _ _ lc ld n s e. v.once c d lc ld n s e))

    -- twins: two cells of one slot whose cores have equal rates
    pub twins_valid : 0 < P.cores → slot_of P a ≡ slot_of P b → ((i : ℕ) → i ≢ 0 → i ≤ P.tasks → P.rate i (core_of P a) ≡ P.rate i (core_of P b))
        → Valid P (swapped a b f)
    twins_valid some_core s r = swap_valid
        (λ n. record {
          open_there = rw s at (v.open_there a la n);
          rated = rw (r (f a) n (v.known a la)) at (v.rated a la n);
          same_job = ap (P.job (f a)) s;
          same_rate = r (f a) n (v.known a la);
        })
        (λ n. record {
          open_there = rw (← s) at (v.open_there b lb n);
          rated = rw (← (r (f b) n (v.known b lb))) at (v.rated b lb n);
          same_job = ap (P.job (f b)) (sym s);
          same_rate = sym (r (f b) n (v.known b lb));
        })
        (λ d l x y t e. sym e ∙ v.once d b l lb y (t ∙ s) e)
        (λ d l x y t e. sym e ∙ v.once d a l la y (t ∙ sym s) e)
        (λ n d l m e. n (v.once a d la (omega arith) (λ q. omega arith) (sym (in_slot_lem d l m)) (sym e)))
        (λ d l m n e _. n (v.once d b (omega arith) lb (λ q. omega arith) (in_slot_lem d l (omega arith) ∙ s) e))
      where
        in_slot_lem : (d : ℕ) → a < d → d ≤ b → slot_of P d ≡ slot_of P a
        in_slot_lem d l m = omega (arith, slot_le P some_core a d (omega arith), slot_le P some_core d b m, s)

    -- an idle cell a, and the next cell b of a job that may stand in cell a at the same rate
    pub move_valid : f a ≡ 0 → Moves P (f b) b a → Alone P f a b → Next P f a b → Valid P (swapped a b f)
    move_valid z m o = swap_valid (λ n. absurd (n z)) (λ n. m) o (λ d l x y s e. z) (λ n. absurd (n z))
