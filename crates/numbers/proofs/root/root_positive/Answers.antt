-- `numbers::root::root_positive` meets its contract. Assumes nothing.
use mathlib.Core.Path.{sym, ap, ◌∙◌, subst}
use lib.Dec.{T}
use lib.Ieee.{binary32}
use lib.Ieee.Bits.{of_bits-to_bits}
use Rattle.numbers.specs.Root.{root_of}
use Rattle.numbers.proofs.Laws.RootCases.{positive_pattern}
use Rattle.numbers.proofs.root.root_positive.Goals as goal

pub root_from_bits-requires : goal.root_from_bits-requires
root_from_bits-requires c = positive_pattern c.args.x (subst T (sym c.well_formed.0.1) tt) c.requires

pub returns : goal.returns
returns c = c.root_from_bits.ensures ∙ ap root_of (of_bits-to_bits binary32 c.args.x (subst T (sym c.well_formed.0.1) tt))
