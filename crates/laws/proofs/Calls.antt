-- What a call of each public function ensures, as its contract says, and that it leaves one answer.
-- Assumes nothing.
use Prim.Native.Nat.{ℕ}
use mathlib.Core.Path.{◌≡◌, refl}
use Rattle.laws.specs.Lcm.{gcd_of, lcm_of}
use Rattle.laws.specs.contracts.gcd as gcd
use Rattle.laws.specs.contracts.lcm as lcm
use Rattle.laws.proofs.Only.{Says, only}

-- ---- gcd
gcd_says : (κs a b a' b' r : _) → Says (λ M 𝓤 𝓛 mem run. gcd.ensures-1 𝓛 κs mem run a b a' b' r) (r ≡ gcd_of a b)
gcd_says κs a b a' b' r M 𝓤 𝓛 mem run = refl

pub gcd_only : (a b r r' : ℕ) → r ≡ gcd_of a b → r' ≡ gcd_of a b → r ≡ r'
gcd_only a b r r' = only

-- ---- lcm
lcm_says : (κs a b a' b' r : _) → Says (λ M 𝓤 𝓛 mem run. lcm.ensures-1 𝓛 κs mem run a b a' b' r) (r ≡ lcm_of a b)
lcm_says κs a b a' b' r M 𝓤 𝓛 mem run = refl

pub lcm_only : (a b r r' : ℕ) → r ≡ lcm_of a b → r' ≡ lcm_of a b → r ≡ r'
lcm_only a b r r' = only
