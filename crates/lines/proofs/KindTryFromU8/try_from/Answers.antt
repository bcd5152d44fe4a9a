-- `Kind::try_from` meets its contract: all other bytes are no kind.
-- Assumes nothing.
use Rattle.std.proofs.Common.{refl, arith}
use Rattle.lines.proofs.FrameLaws.{no_code}
use Rattle.lines.proofs.KindTryFromU8.try_from.Goals as goal

pub returns-in_default : goal.returns-in_default
returns-in_default c = (refl, no_code c.args.code (λ l. omega arith))
