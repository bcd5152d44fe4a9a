-- `lines::frame_at` meets its contract: two digits a byte, up to the tenth.
-- Assumes nothing.
use Rattle.std.proofs.Common.{◌*◌, ◌+◌, ◌/◌, length, refl, sym, ap₂, ◌∙◌, arith}
use Rattle.laws.specs.Lists.{tab_from}
use Rattle.lines.specs.Frame.{ten_bytes}
use Rattle.lines.specs.Lines.{bytes_of}
use Rattle.lines.proofs.LineLaws.{pair_at, bytes_length, byte_at, ten_bytes_more, ten_bytes_over, ten_bytes_all}
use Rattle.lines.proofs.frame_at.Goals as goal
use Rattle.lines.proofs.frame_at.Goals.{then-k-lt10, else-k-lt10}

pub loop-k-init : goal.loop-k-init
unfolding ten_bytes tab_from
loop-k-init c = refl

pub loop-k-preserved : goal.loop-k-preserved
loop-k-preserved c =
    let s = c.args.digits.now in
    let k = c.loop-k.k in
    let places = pair_at s (length s / 2) k (omega (arith, c.as_chunks.ensures.front_len)) in
    elim c.if-k-lt10.branch [
      | then-k-lt10 w ↦ w.bytes-is ∙ ten_bytes_more (bytes_of s) _ k _ w.if-k-lt10.true c.loop-k.invariant
          (ap₂ (λ high low. high * 16 + low) (rw (c.as_chunks.ensures.front, places.0) at w.value.ensures.0)
          (rw (c.as_chunks.ensures.front, places.1) at w.value-then-k-lt10.ensures.0)
          ∙ sym (byte_at s k (omega (arith, c.as_chunks.ensures.front_len))))
      | else-k-lt10 w ↦ w.bytes-is ∙ c.loop-k.invariant ∙ ten_bytes_over (bytes_of s) k w.if-k-lt10.false
    ]

pub returns : goal.returns
returns c =
    let s = c.args.digits.now in
    ten_bytes_all (bytes_of s) c.loop-k.bytes c.loop-k.k (omega (arith, bytes_length s, c.as_chunks.ensures.front_len)) c.loop-k.invariant
