-- `numbers::constants::infinity` meets its contract. Assumes nothing.
use mathlib.Core.Path.{refl}
use lib.Ieee.{of_bits, div}
use Rattle.numbers.proofs.constants.infinity.Goals as goal

pub returns : goal.returns
unfolding of_bits div
returns c = refl
