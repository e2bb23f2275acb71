-- `numbers::bits::to_bits` meets its contract. Assumes nothing.
use lib.Ieee.{to_bits}
use Rattle.numbers.proofs.Laws.Finite.{only_nan}
use Rattle.numbers.proofs.bits.to_bits.Goals as goal

pub returns-then-is_nan : goal.returns-then-is_nan
unfolding to_bits
returns-then-is_nan c = simp (only_nan _ (simp c.is_nan.ensures at c.if-is_nan.true))
