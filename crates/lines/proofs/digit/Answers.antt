-- `lines::digit` meets its contract: its ranges are the definition's.
-- Assumes nothing.
use Rattle.std.proofs.Common.{Some, arith, ap}
use Rattle.lines.specs.Lines.{is_digit, digit_of}
use Rattle.lines.proofs.FrameLaws.{inside, below, above}
use Rattle.lines.proofs.digit.Goals as goal

pub returns-in-48-to-57-clause-value : goal.returns-in-48-to-57-clause-value
unfolding is_digit digit_of
returns-in-48-to-57-clause-value c = rw (inside 48 57 c.args.c (omega arith) (omega arith))

pub returns-in-65-to-70-clause-value : goal.returns-in-65-to-70-clause-value
unfolding is_digit digit_of
returns-in-65-to-70-clause-value c =
    let k = c.args.c in
    rw (above 48 57 k (omega arith), inside 65 70 k (omega arith) (omega arith)) (ap Some (omega arith))

pub returns-in_default-clause-value : goal.returns-in_default-clause-value
unfolding is_digit
returns-in_default-clause-value c = let k = c.args.c in rw (below 48 57 k (omega arith), below 65 70 k (omega arith))

pub returns-in_default-2-clause-value : goal.returns-in_default-2-clause-value
unfolding is_digit
returns-in_default-2-clause-value c = let k = c.args.c in rw (above 48 57 k (omega arith), below 65 70 k (omega arith))

pub returns-in_default-3-clause-value : goal.returns-in_default-3-clause-value
unfolding is_digit
returns-in_default-3-clause-value c = let k = c.args.c in rw (above 48 57 k (omega arith), above 65 70 k (omega arith))
