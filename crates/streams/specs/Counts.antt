-- What the contracts on counts of bytes cite.
use Rattle.std.specs.Prelude.{◌≡◌, ℕ, ◌≤◌, ◌<◌, min, List, length, take, ℤ, pos, negsuc, Option}
use Rattle.std.specs.Io.KnownBytes.{Consumes}

-- `&xs[..n]` is in bounds and has n bytes. The second part follows from the first, and spares a caller's `&buf[..n]` a proof file.
abbrev pub IsPrefixLen : ℕ → List ℕ → Type 0
IsPrefixLen n xs = (n ≤ length xs) × (n ≡ length (take n xs))

-- a length that was read, brought into `0..=most`: a negative one counts as 0
abbrev pub clamp_len : ℤ → ℕ → ℕ
clamp_len (pos k) most = min k most
clamp_len (negsuc k) most = 0

-- known bytes begin with fewer than n, and lose them
pub record ConsumesFewer (old new : Option (List ℕ)) (n : ℕ) : Type 0 where
  pub bytes : List ℕ
  pub gone : Consumes old new bytes
  pub fewer : length bytes < n
