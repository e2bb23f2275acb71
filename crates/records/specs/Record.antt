-- A record of 80 bytes, laid out as document 01, section 7, has a card's: its numbers, and what they stand for. Definitions only. Assumes nothing.
use Rattle.std.specs.Prelude.{ℕ, ◌+◌, ◌*◌, List, Float, ltb, if◌then◌else◌, slice_index}
use Rattle.numbers.specs.Numbers.{little_endian, float_of, zero32}
use Rattle.numbers.specs.declared.vector.Vec2.{Vec2}
use Rattle.numbers.specs.declared.vector.Vec3.{Vec3}
use Rattle.numbers.specs.declared.vector.Quaternion.{Quaternion}

-- number i, from 1 to 19, any NaN as the NaN; 0 past the record's end
abbrev pub number_of : List ℕ → ℕ → Float
number_of bytes i =
    if ltb i 20 then float_of (little_endian (slice_index bytes (4 * i)) (slice_index bytes (4 * i + 1)) (slice_index bytes (4 * i + 2)) (slice_index bytes (4 * i + 3)))
    else zero32

-- the vectors and the quaternion of the numbers from i on
abbrev pub vec2_of : List ℕ → ℕ → Vec2
vec2_of bytes i = record { x = number_of bytes i; y = number_of bytes (i + 1) }

abbrev pub vec3_of : List ℕ → ℕ → Vec3
vec3_of bytes i = record { x = number_of bytes i; y = number_of bytes (i + 1); z = number_of bytes (i + 2) }

abbrev pub quaternion_of : List ℕ → ℕ → Quaternion
quaternion_of bytes i = record { w = number_of bytes i; x = number_of bytes (i + 1); y = number_of bytes (i + 2); z = number_of bytes (i + 3) }
