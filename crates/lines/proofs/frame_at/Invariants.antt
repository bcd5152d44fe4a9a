-- `lines::frame_at` meets its contract. The loop's invariant: the bytes that the pairs passed stand for are stored.
-- Assumes nothing.
use Rattle.std.proofs.Common.{◌≡◌, take}
use Rattle.lines.specs.Frame.{ten_bytes}
use Rattle.lines.specs.Lines.{bytes_of}
use Rattle.lines.proofs.frame_at.Given as goal

abbrev pub invariant-loop-k : goal.invariant-loop-k
invariant-loop-k l = l.bytes ≡ ten_bytes (take l.k (bytes_of l.digits))
