-- `numbers::constants::deg` meets its contract: the compiler's quotient is IEEE 754's. Assumes nothing.
use mathlib.Core.Path.{refl}
use lib.Ieee.{of_bits, div}
use Rattle.numbers.proofs.constants.deg.Goals as goal

pub returns : goal.returns
unfolding of_bits div
returns c = refl
