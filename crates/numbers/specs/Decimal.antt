-- A decimal number as binary32, rounded once by IEEE 754's rule: to the nearest, a tie to the even one (law `nearest_decimal`, NearestFraction.antt). Definitions only. Assumes nothing.
-- No sentence of document 01: for the program in which planners write decimals (document 02, 2.1; crates/writer).
use Rattle.std.specs.Prelude.{false, ℕ, ◌^◌, leb, Float, Option, Some, None, if◌then◌else◌}
use Rattle.std.specs.Float.{binary32}
use Rattle.std.specs.Float.Ieee.{round}

-- digits / 10 ^ places, not negative (`false`), with at most nine places: the least number above 0 that can be written is then 10^-9. More places give nothing.
abbrev pub of_decimal : ℕ → ℕ → Option Float
of_decimal digits places = if leb places 9 then Some (round binary32 false digits (10 ^ places)) else None
