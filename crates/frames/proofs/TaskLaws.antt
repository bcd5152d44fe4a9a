-- What each frame adds to what the frames before it have said.
-- Assumes nothing.
use Rattle.std.proofs.Common.{ℕ, ◌≡◌, ◌≢◌, List, [], ◌∷◌, ◌++◌, refl, sym, ap, ◌∙◌, arith, Option, Some}
use borrow.Author.Tests.{ne_eqb}
use Rattle.laws.specs.Lists.{nth, tab_from}
use Rattle.tasks.specs.declared.Task.{Task}
use Rattle.lines.specs.declared.Kind.{Kind}
use Rattle.lines.specs.declared.Kind.TheVariants as kind
use Rattle.lines.specs.declared.Frame.{Frame}
use Rattle.lines.specs.Frame.{two, four, ten_bytes}
use Rattle.lines.specs.Told.{code_of, IsFrame}
use Rattle.frames.specs.declared.Problem.{Problem}
use Rattle.frames.specs.declared.task_list.TaskList.{TaskList}
use Rattle.frames.specs.Read.{Reading, task_of, taken_frame}
use Rattle.frames.specs.Told.{listed, HasRead, WasFrame}

-- a frame that says nothing
quiet : (k : Kind) → k ≢ kind.Cores → k ≢ kind.Rates → k ≢ kind.Limit → (code_of k ≢ 1) × (code_of k ≢ 3) × (code_of k ≢ 4)
quiet kind.Cores a b c = absurd (a refl)
quiet kind.Task a b c = (λ z. omega arith, λ z. omega arith, λ z. omega arith)
quiet kind.Rates a b c = absurd (b refl)
quiet kind.Limit a b c = absurd (c refl)
quiet kind.Verdict a b c = (λ z. omega arith, λ z. omega arith, λ z. omega arith)
quiet kind.Slot a b c = (λ z. omega arith, λ z. omega arith, λ z. omega arith)
quiet kind.End a b c = (λ z. omega arith, λ z. omega arith, λ z. omega arith)

-- what a frame says, kind by kind
module _ (p : Problem) (frame : Frame) (s : Reading) (h : HasRead p s) (f : List ℕ) (g : IsFrame frame f) where
  pub cores_said : frame.kind ≡ kind.Cores → HasRead (record { m = nth frame.bytes 1; tasks = p.tasks; engine = p.engine; limit = p.limit }) (taken_frame s f)
  unfolding taken_frame ten_bytes tab_from
  cores_said k =
      let code : nth f 0 ≡ 1 = sym g.0 ∙ ap code_of k in
      record { m = rw code (ap (λ b. nth b 1) g.1); tasks = rw code h.tasks; engine = rw code h.engine; limit = rw code h.limit }

  pub task_said : (last : Option Frame) (numbers : Frame) (τ : Task) (tasks : TaskList) → last ≡ Some numbers → WasFrame last s.last → frame.kind ≡ kind.Rates
      → τ ≡ task_of numbers.bytes frame.bytes → listed tasks ≡ listed p.tasks ++ (τ ∷ [])
      → HasRead (record { m = p.m; tasks = tasks; engine = p.engine; limit = p.limit }) (taken_frame s f)
  unfolding taken_frame task_of two ten_bytes tab_from
  task_said last numbers τ tasks was w k t more =
      let code : nth f 0 ≡ 3 = sym g.0 ∙ ap code_of k in
      let before : IsFrame numbers s.last = rw was at w in
      record {
        m = rw code h.m;
        tasks = rw code (more ∙ rw (h.tasks, t, before.1, g.1));
        engine = rw code h.engine;
        limit = rw code h.limit;
      }

  pub limit_said : (limit : ℕ) → frame.kind ≡ kind.Limit → limit ≡ four frame.bytes 2
      → HasRead (record { m = p.m; tasks = p.tasks; engine = nth frame.bytes 1; limit = limit }) (taken_frame s f)
  unfolding taken_frame four two ten_bytes tab_from
  limit_said limit k e =
      let code : nth f 0 ≡ 4 = sym g.0 ∙ ap code_of k in
      record { m = rw code h.m; tasks = rw code h.tasks; engine = rw code (ap (λ b. nth b 1) g.1); limit = rw code (e ∙ rw g.1) }

  pub nothing_said : frame.kind ≢ kind.Cores → frame.kind ≢ kind.Rates → frame.kind ≢ kind.Limit → HasRead p (taken_frame s f)
  unfolding taken_frame
  nothing_said a b c =
      let q = quiet frame.kind a b c in
      let cores = ne_eqb (nth f 0) 1 (λ e. q.0 (g.0 ∙ e)) in
      let rates = ne_eqb (nth f 0) 3 (λ e. q.1 (g.0 ∙ e)) in
      let limit = ne_eqb (nth f 0) 4 (λ e. q.2 (g.0 ∙ e)) in
      record { m = rw cores h.m; tasks = rw rates h.tasks; engine = rw limit h.engine; limit = rw limit h.limit }
