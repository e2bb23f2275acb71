-- Before each turn the verdict on the settings that are left is the verdict on all.
use Rattle.std.proofs.Common.{◌≡◌}
use lib.ListN.{drop}
use Rattle.machines.specs.Settings.{verdict}
use Rattle.machines.specs.RangeTable.{range_tests}
use Rattle.machines.proofs.ranges.validate_ranges.Given as goal

abbrev pub invariant-loop-i : goal.invariant-loop-i
invariant-loop-i l = verdict (range_tests l.first 0 l.settings) ≡ verdict (range_tests l.first l.i (drop l.i l.settings))
