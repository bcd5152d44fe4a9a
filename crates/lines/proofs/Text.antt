-- A text as its bytes, for worked cases.
-- Assumes nothing.
use Prim.Native.Nat.{ℕ}
use Prim.Native.Char.{code}
use Prim.Native.String.{String, len, char_at}
use mathlib.Core.List.{List}
use Rattle.laws.specs.Lists.{tab_from, tab}

-- the bytes of a text
unfoldable pub bytes : String → List ℕ
unfolding tab_from
bytes s = tab (len s) (λ i. code (char_at s i))
