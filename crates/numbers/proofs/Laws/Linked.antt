-- A table of the functions of this crate that the joined machine's functions call: where it stands in a world of tables, each name means the code that the function has. tools/link_laws.py writes this file. Assumes nothing.
use mathlib.Core.Path.{refl}
use mathlib.Core.Bool.{false}
use prog.Linked.{Tree, leaf, fork, World, in_world, Holds, in_table}
use prog.LinkedThreads.{HasT}
use Rattle.numbers.proofs.bits.from_bits.Symbol as bits_from_bits
use Rattle.numbers.proofs.bits.from_bits.TheLink as bits_from_bits-link
use Rattle.numbers.proofs.bits.is_nan_bits.Symbol as bits_is_nan_bits
use Rattle.numbers.proofs.bits.is_nan_bits.TheLink as bits_is_nan_bits-link
use Rattle.numbers.proofs.bits.to_bits.Symbol as bits_to_bits
use Rattle.numbers.proofs.bits.to_bits.TheLink as bits_to_bits-link
use Rattle.numbers.proofs.constants.infinity.Symbol as constants_infinity
use Rattle.numbers.proofs.constants.infinity.TheLink as constants_infinity-link
use Rattle.numbers.proofs.constants.nan.Symbol as constants_nan
use Rattle.numbers.proofs.constants.nan.TheLink as constants_nan-link
use Rattle.numbers.proofs.logic.both.Symbol as logic_both
use Rattle.numbers.proofs.logic.both.TheLink as logic_both-link
use Rattle.numbers.proofs.logic.either.Symbol as logic_either
use Rattle.numbers.proofs.logic.either.TheLink as logic_either-link
use Rattle.numbers.proofs.math.clamp.Symbol as math_clamp
use Rattle.numbers.proofs.math.clamp.TheLink as math_clamp-link
use Rattle.numbers.proofs.math.max.Symbol as math_max
use Rattle.numbers.proofs.math.max.TheLink as math_max-link
use Rattle.numbers.proofs.math.min.Symbol as math_min
use Rattle.numbers.proofs.math.min.TheLink as math_min-link
use Rattle.numbers.proofs.math.saturate_throttle.Symbol as math_saturate_throttle
use Rattle.numbers.proofs.math.saturate_throttle.TheLink as math_saturate_throttle-link
use Rattle.numbers.proofs.math.second_if.Symbol as math_second_if
use Rattle.numbers.proofs.math.second_if.TheLink as math_second_if-link
use Rattle.numbers.proofs.ranges.is_finite.Symbol as ranges_is_finite
use Rattle.numbers.proofs.ranges.is_finite.TheLink as ranges_is_finite-link
use Rattle.numbers.proofs.ranges.is_half_turn_from_zero.Symbol as ranges_is_half_turn_from_zero
use Rattle.numbers.proofs.ranges.is_half_turn_from_zero.TheLink as ranges_is_half_turn_from_zero-link
use Rattle.numbers.proofs.ranges.is_nan.Symbol as ranges_is_nan
use Rattle.numbers.proofs.ranges.is_nan.TheLink as ranges_is_nan-link
use Rattle.numbers.proofs.ranges.is_positive.Symbol as ranges_is_positive
use Rattle.numbers.proofs.ranges.is_positive.TheLink as ranges_is_positive-link
use Rattle.numbers.proofs.root.Radicand.root_digits.Symbol as root_Radicand_root_digits
use Rattle.numbers.proofs.root.Radicand.root_digits.TheLink as root_Radicand_root_digits-link
use Rattle.numbers.proofs.root.Radicand.rooted.Symbol as root_Radicand_rooted
use Rattle.numbers.proofs.root.Radicand.rooted.TheLink as root_Radicand_rooted-link
use Rattle.numbers.proofs.root.Radicand.rooted_near.Symbol as root_Radicand_rooted_near
use Rattle.numbers.proofs.root.Radicand.rooted_near.TheLink as root_Radicand_rooted_near-link
use Rattle.numbers.proofs.root.Radicand.scaled.Symbol as root_Radicand_scaled
use Rattle.numbers.proofs.root.Radicand.scaled.TheLink as root_Radicand_scaled-link
use Rattle.numbers.proofs.root.guess.Symbol as root_guess
use Rattle.numbers.proofs.root.guess.TheLink as root_guess-link
use Rattle.numbers.proofs.root.nearest_of_three.Symbol as root_nearest_of_three
use Rattle.numbers.proofs.root.nearest_of_three.TheLink as root_nearest_of_three-link
use Rattle.numbers.proofs.root.root.Symbol as root_root
use Rattle.numbers.proofs.root.root.TheLink as root_root-link
use Rattle.numbers.proofs.root.root_from_bits.Symbol as root_root_from_bits
use Rattle.numbers.proofs.root.root_from_bits.TheLink as root_root_from_bits-link
use Rattle.numbers.proofs.root.root_positive.Symbol as root_root_positive
use Rattle.numbers.proofs.root.root_positive.TheLink as root_root_positive-link
use Rattle.numbers.proofs.root.root_small.Symbol as root_root_small
use Rattle.numbers.proofs.root.root_small.TheLink as root_root_small-link
use Rattle.numbers.proofs.root.whole_root.Symbol as root_whole_root
use Rattle.numbers.proofs.root.whole_root.TheLink as root_whole_root-link
use Rattle.numbers.proofs.vector.Quaternion.forward_speed_mps.Symbol as vector_Quaternion_forward_speed_mps
use Rattle.numbers.proofs.vector.Quaternion.forward_speed_mps.TheLink as vector_Quaternion_forward_speed_mps-link
use Rattle.numbers.proofs.vector.Quaternion.imag.Symbol as vector_Quaternion_imag
use Rattle.numbers.proofs.vector.Quaternion.imag.TheLink as vector_Quaternion_imag-link
use Rattle.numbers.proofs.vector.Quaternion.nose_up_cosine.Symbol as vector_Quaternion_nose_up_cosine
use Rattle.numbers.proofs.vector.Quaternion.nose_up_cosine.TheLink as vector_Quaternion_nose_up_cosine-link
use Rattle.numbers.proofs.vector.Quaternion.rotate.Symbol as vector_Quaternion_rotate
use Rattle.numbers.proofs.vector.Quaternion.rotate.TheLink as vector_Quaternion_rotate-link
use Rattle.numbers.proofs.vector.Vec2.dot.Symbol as vector_Vec2_dot
use Rattle.numbers.proofs.vector.Vec2.dot.TheLink as vector_Vec2_dot-link
use Rattle.numbers.proofs.vector.Vec2.norm.Symbol as vector_Vec2_norm
use Rattle.numbers.proofs.vector.Vec2.norm.TheLink as vector_Vec2_norm-link
use Rattle.numbers.proofs.vector.Vec3.cross.Symbol as vector_Vec3_cross
use Rattle.numbers.proofs.vector.Vec3.cross.TheLink as vector_Vec3_cross-link
use Rattle.numbers.proofs.vector.Vec3.plus.Symbol as vector_Vec3_plus
use Rattle.numbers.proofs.vector.Vec3.plus.TheLink as vector_Vec3_plus-link
use Rattle.numbers.proofs.vector.Vec3.scale.Symbol as vector_Vec3_scale
use Rattle.numbers.proofs.vector.Vec3.scale.TheLink as vector_Vec3_scale-link
use Rattle.numbers.proofs.vector.Vec3.xy.Symbol as vector_Vec3_xy
use Rattle.numbers.proofs.vector.Vec3.xy.TheLink as vector_Vec3_xy-link

pub table : Tree
table =
    fork leaf bits_from_bits.symbol bits_from_bits-link.entry (
    fork leaf bits_is_nan_bits.symbol bits_is_nan_bits-link.entry (
    fork leaf bits_to_bits.symbol bits_to_bits-link.entry (
    fork leaf constants_infinity.symbol constants_infinity-link.entry (
    fork leaf constants_nan.symbol constants_nan-link.entry (
    fork leaf logic_both.symbol logic_both-link.entry (
    fork leaf logic_either.symbol logic_either-link.entry (
    fork leaf math_clamp.symbol math_clamp-link.entry (
    fork leaf math_max.symbol math_max-link.entry (
    fork leaf math_min.symbol math_min-link.entry (
    fork leaf math_saturate_throttle.symbol math_saturate_throttle-link.entry (
    fork leaf math_second_if.symbol math_second_if-link.entry (
    fork leaf ranges_is_finite.symbol ranges_is_finite-link.entry (
    fork leaf ranges_is_half_turn_from_zero.symbol ranges_is_half_turn_from_zero-link.entry (
    fork leaf ranges_is_nan.symbol ranges_is_nan-link.entry (
    fork leaf ranges_is_positive.symbol ranges_is_positive-link.entry (
    fork leaf root_Radicand_root_digits.symbol root_Radicand_root_digits-link.entry (
    fork leaf root_Radicand_rooted.symbol root_Radicand_rooted-link.entry (
    fork leaf root_Radicand_rooted_near.symbol root_Radicand_rooted_near-link.entry (
    fork leaf root_Radicand_scaled.symbol root_Radicand_scaled-link.entry (
    fork leaf root_guess.symbol root_guess-link.entry (
    fork leaf root_nearest_of_three.symbol root_nearest_of_three-link.entry (
    fork leaf root_root.symbol root_root-link.entry (
    fork leaf root_root_from_bits.symbol root_root_from_bits-link.entry (
    fork leaf root_root_positive.symbol root_root_positive-link.entry (
    fork leaf root_root_small.symbol root_root_small-link.entry (
    fork leaf root_whole_root.symbol root_whole_root-link.entry (
    fork leaf vector_Quaternion_forward_speed_mps.symbol vector_Quaternion_forward_speed_mps-link.entry (
    fork leaf vector_Quaternion_imag.symbol vector_Quaternion_imag-link.entry (
    fork leaf vector_Quaternion_nose_up_cosine.symbol vector_Quaternion_nose_up_cosine-link.entry (
    fork leaf vector_Quaternion_rotate.symbol vector_Quaternion_rotate-link.entry (
    fork leaf vector_Vec2_dot.symbol vector_Vec2_dot-link.entry (
    fork leaf vector_Vec2_norm.symbol vector_Vec2_norm-link.entry (
    fork leaf vector_Vec3_cross.symbol vector_Vec3_cross-link.entry (
    fork leaf vector_Vec3_plus.symbol vector_Vec3_plus-link.entry (
    fork leaf vector_Vec3_scale.symbol vector_Vec3_scale-link.entry (
    fork leaf vector_Vec3_xy.symbol vector_Vec3_xy-link.entry leaf))))))))))))))))))))))))))))))))))))

module _ (W : World) (in_numbers : Holds W "numbers" table) where
  pub has_constants_nan : HasT (in_world W) false constants_nan.code
  unfolding table
  has_constants_nan = constants_nan-link.has (in_world W) false (in_table W "numbers" table in_numbers constants_nan.symbol refl)

  has_bits_is_nan_bits : HasT (in_world W) false bits_is_nan_bits.code
  unfolding table
  has_bits_is_nan_bits = bits_is_nan_bits-link.has (in_world W) false (in_table W "numbers" table in_numbers bits_is_nan_bits.symbol refl)

  pub has_bits_from_bits : HasT (in_world W) false bits_from_bits.code
  unfolding table
  has_bits_from_bits = bits_from_bits-link.has (in_world W) false (in_table W "numbers" table in_numbers bits_from_bits.symbol refl) has_bits_is_nan_bits has_constants_nan

  pub has_logic_both : HasT (in_world W) false logic_both.code
  unfolding table
  has_logic_both = logic_both-link.has (in_world W) false (in_table W "numbers" table in_numbers logic_both.symbol refl)

  pub has_math_clamp : HasT (in_world W) false math_clamp.code
  unfolding table
  has_math_clamp = math_clamp-link.has (in_world W) false (in_table W "numbers" table in_numbers math_clamp.symbol refl)

  has_ranges_is_nan : HasT (in_world W) false ranges_is_nan.code
  unfolding table
  has_ranges_is_nan = ranges_is_nan-link.has (in_world W) false (in_table W "numbers" table in_numbers ranges_is_nan.symbol refl)

  pub has_math_saturate_throttle : HasT (in_world W) false math_saturate_throttle.code
  unfolding table
  has_math_saturate_throttle = math_saturate_throttle-link.has (in_world W) false (in_table W "numbers" table in_numbers math_saturate_throttle.symbol refl) has_math_clamp has_ranges_is_nan

  has_math_second_if : HasT (in_world W) false math_second_if.code
  unfolding table
  has_math_second_if = math_second_if-link.has (in_world W) false (in_table W "numbers" table in_numbers math_second_if.symbol refl) has_ranges_is_nan

  pub has_math_min : HasT (in_world W) false math_min.code
  unfolding table
  has_math_min = math_min-link.has (in_world W) false (in_table W "numbers" table in_numbers math_min.symbol refl) has_math_second_if

  pub has_math_max : HasT (in_world W) false math_max.code
  unfolding table
  has_math_max = math_max-link.has (in_world W) false (in_table W "numbers" table in_numbers math_max.symbol refl) has_math_second_if

  has_constants_infinity : HasT (in_world W) false constants_infinity.code
  unfolding table
  has_constants_infinity = constants_infinity-link.has (in_world W) false (in_table W "numbers" table in_numbers constants_infinity.symbol refl)

  pub has_ranges_is_finite : HasT (in_world W) false ranges_is_finite.code
  unfolding table
  has_ranges_is_finite = ranges_is_finite-link.has (in_world W) false (in_table W "numbers" table in_numbers ranges_is_finite.symbol refl) has_constants_infinity has_logic_both

  pub has_vector_Vec2_dot : HasT (in_world W) false vector_Vec2_dot.code
  unfolding table
  has_vector_Vec2_dot = vector_Vec2_dot-link.has (in_world W) false (in_table W "numbers" table in_numbers vector_Vec2_dot.symbol refl)

  pub has_ranges_is_positive : HasT (in_world W) false ranges_is_positive.code
  unfolding table
  has_ranges_is_positive = ranges_is_positive-link.has (in_world W) false (in_table W "numbers" table in_numbers ranges_is_positive.symbol refl) has_logic_both has_ranges_is_finite

  has_root_whole_root : HasT (in_world W) false root_whole_root.code
  unfolding table
  has_root_whole_root = root_whole_root-link.has (in_world W) false (in_table W "numbers" table in_numbers root_whole_root.symbol refl)

  has_root_Radicand_root_digits : HasT (in_world W) false root_Radicand_root_digits.code
  unfolding table
  has_root_Radicand_root_digits = root_Radicand_root_digits-link.has (in_world W) false (in_table W "numbers" table in_numbers root_Radicand_root_digits.symbol refl) has_root_whole_root

  has_root_Radicand_rooted : HasT (in_world W) false root_Radicand_rooted.code
  unfolding table
  has_root_Radicand_rooted = root_Radicand_rooted-link.has (in_world W) false (in_table W "numbers" table in_numbers root_Radicand_rooted.symbol refl) has_root_Radicand_root_digits

  has_root_Radicand_scaled : HasT (in_world W) false root_Radicand_scaled.code
  unfolding table
  has_root_Radicand_scaled = root_Radicand_scaled-link.has (in_world W) false (in_table W "numbers" table in_numbers root_Radicand_scaled.symbol refl)

  has_root_Radicand_rooted_near : HasT (in_world W) false root_Radicand_rooted_near.code
  unfolding table
  has_root_Radicand_rooted_near = root_Radicand_rooted_near-link.has (in_world W) false (in_table W "numbers" table in_numbers root_Radicand_rooted_near.symbol refl) has_root_Radicand_rooted has_root_Radicand_scaled

  has_bits_to_bits : HasT (in_world W) false bits_to_bits.code
  unfolding table
  has_bits_to_bits = bits_to_bits-link.has (in_world W) false (in_table W "numbers" table in_numbers bits_to_bits.symbol refl) has_ranges_is_nan

  has_root_guess : HasT (in_world W) false root_guess.code
  unfolding table
  has_root_guess = root_guess-link.has (in_world W) false (in_table W "numbers" table in_numbers root_guess.symbol refl) has_bits_to_bits

  has_root_nearest_of_three : HasT (in_world W) false root_nearest_of_three.code
  unfolding table
  has_root_nearest_of_three = root_nearest_of_three-link.has (in_world W) false (in_table W "numbers" table in_numbers root_nearest_of_three.symbol refl)

  has_root_root_small : HasT (in_world W) false root_root_small.code
  unfolding table
  has_root_root_small = root_root_small-link.has (in_world W) false (in_table W "numbers" table in_numbers root_root_small.symbol refl) has_root_Radicand_rooted

  has_root_root_from_bits : HasT (in_world W) false root_root_from_bits.code
  unfolding table
  has_root_root_from_bits = root_root_from_bits-link.has (in_world W) false (in_table W "numbers" table in_numbers root_root_from_bits.symbol refl) has_root_Radicand_rooted_near has_root_Radicand_scaled has_root_guess has_root_nearest_of_three has_root_root_small

  has_root_root_positive : HasT (in_world W) false root_root_positive.code
  unfolding table
  has_root_root_positive = root_root_positive-link.has (in_world W) false (in_table W "numbers" table in_numbers root_root_positive.symbol refl) has_root_root_from_bits

  has_root_root : HasT (in_world W) false root_root.code
  unfolding table
  has_root_root = root_root-link.has (in_world W) false (in_table W "numbers" table in_numbers root_root.symbol refl) has_constants_nan has_ranges_is_positive has_root_root_positive

  pub has_vector_Vec2_norm : HasT (in_world W) false vector_Vec2_norm.code
  unfolding table
  has_vector_Vec2_norm = vector_Vec2_norm-link.has (in_world W) false (in_table W "numbers" table in_numbers vector_Vec2_norm.symbol refl) has_root_root

  pub has_vector_Vec3_xy : HasT (in_world W) false vector_Vec3_xy.code
  unfolding table
  has_vector_Vec3_xy = vector_Vec3_xy-link.has (in_world W) false (in_table W "numbers" table in_numbers vector_Vec3_xy.symbol refl)

  pub has_logic_either : HasT (in_world W) false logic_either.code
  unfolding table
  has_logic_either = logic_either-link.has (in_world W) false (in_table W "numbers" table in_numbers logic_either.symbol refl)

  has_vector_Quaternion_imag : HasT (in_world W) false vector_Quaternion_imag.code
  unfolding table
  has_vector_Quaternion_imag = vector_Quaternion_imag-link.has (in_world W) false (in_table W "numbers" table in_numbers vector_Quaternion_imag.symbol refl)

  has_vector_Vec3_cross : HasT (in_world W) false vector_Vec3_cross.code
  unfolding table
  has_vector_Vec3_cross = vector_Vec3_cross-link.has (in_world W) false (in_table W "numbers" table in_numbers vector_Vec3_cross.symbol refl)

  has_vector_Vec3_plus : HasT (in_world W) false vector_Vec3_plus.code
  unfolding table
  has_vector_Vec3_plus = vector_Vec3_plus-link.has (in_world W) false (in_table W "numbers" table in_numbers vector_Vec3_plus.symbol refl)

  has_vector_Vec3_scale : HasT (in_world W) false vector_Vec3_scale.code
  unfolding table
  has_vector_Vec3_scale = vector_Vec3_scale-link.has (in_world W) false (in_table W "numbers" table in_numbers vector_Vec3_scale.symbol refl)

  has_vector_Quaternion_rotate : HasT (in_world W) false vector_Quaternion_rotate.code
  unfolding table
  has_vector_Quaternion_rotate = vector_Quaternion_rotate-link.has (in_world W) false (in_table W "numbers" table in_numbers vector_Quaternion_rotate.symbol refl) has_vector_Quaternion_imag has_vector_Vec3_cross has_vector_Vec3_plus has_vector_Vec3_scale

  pub has_vector_Quaternion_forward_speed_mps : HasT (in_world W) false vector_Quaternion_forward_speed_mps.code
  unfolding table
  has_vector_Quaternion_forward_speed_mps = vector_Quaternion_forward_speed_mps-link.has (in_world W) false (in_table W "numbers" table in_numbers vector_Quaternion_forward_speed_mps.symbol refl) has_vector_Quaternion_rotate

  pub has_vector_Quaternion_nose_up_cosine : HasT (in_world W) false vector_Quaternion_nose_up_cosine.code
  unfolding table
  has_vector_Quaternion_nose_up_cosine = vector_Quaternion_nose_up_cosine-link.has (in_world W) false (in_table W "numbers" table in_numbers vector_Quaternion_nose_up_cosine.symbol refl)

  pub has_ranges_is_half_turn_from_zero : HasT (in_world W) false ranges_is_half_turn_from_zero.code
  unfolding table
  has_ranges_is_half_turn_from_zero = ranges_is_half_turn_from_zero-link.has (in_world W) false (in_table W "numbers" table in_numbers ranges_is_half_turn_from_zero.symbol refl) has_logic_both
