-- `lines::hex` meets its contract: the digits 0-9 and A-F stand in two runs.
-- Assumes nothing.
use native.Mathlib.Omega.{arith}
use borrow.Author.Tests.{lt-ltb, le-ltb}
use Rattle.lines.specs.Lines.{hex_of}
use Rattle.lines.proofs.hex.Goals as goal

pub returns-then-x-lt10 : goal.returns-then-x-lt10
unfolding hex_of
returns-then-x-lt10 c = rw (lt-ltb c.args.x 10 c.if-x-lt10.true)

pub returns-else-x-lt10 : goal.returns-else-x-lt10
unfolding hex_of
returns-else-x-lt10 c = rw (le-ltb c.args.x 10 c.if-x-lt10.false) (omega arith)
