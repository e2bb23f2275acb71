-- `numbers::constants::nan` meets its contract. Assumes nothing.
use mathlib.Core.Path.{refl}
use lib.Ieee.{of_bits, div}
use Rattle.numbers.proofs.constants.nan.Goals as goal

pub returns : goal.returns
unfolding of_bits div
returns c = refl
