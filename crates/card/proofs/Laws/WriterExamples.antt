-- Request 2.1, worked examples: section 7's card written from its calls, and records of each kind with their numbers as bits. Assumes nothing.
use mathlib.Core.Path.{◌≡◌, refl}
use mathlib.Core.List.{◌∷◌, ◌++◌, reverse}
use lib.ListN.{replicate}
use lib.Ieee.{Float, nan, of_bits, to_bits}
use Rattle.numbers.specs.Numbers.{one32}
use Rattle.machines.specs.declared.ModeRefusal.TheVariants as reason
use Rattle.machines.specs.declared.InputRefusal.TheVariants as input
use Rattle.joined.specs.declared.call.Call.TheVariants as call
use Rattle.joined.specs.declared.machine.Airframe.TheVariants as airframe
use Rattle.joined.specs.Calls.{settings_by, vehicle_by, step_input_by}
use Rattle.joined.proofs.Laws.Starred as starred
use Rattle.card.specs.Bytes.{le32}
use Rattle.card.specs.Format.{kind_number}
use Rattle.card.specs.Encoding.{settings_numbers, step_numbers, encode_of, encode_header}
use Rattle.card.specs.Writer.{record_bytes, card_of, write_refusal_of, write_field_of}
use Rattle.card.specs.declared.kind.Kind.TheVariants as kind
use Rattle.card.specs.declared.write.WriteRefusal.TheVariants as refusal
use Rattle.card.proofs.Laws.Example.{example_card}

-- section 7's example, byte by byte
pub the_card : card_of airframe.Quadplane starred.settings 8 (reverse starred.calls) ≡ example_card
unfolding example_card of_bits to_bits le32 settings_numbers step_numbers
the_card = refl

-- a cut for 12: kind 3, its reason, the end of the chain, and nothing else
pub a_cut : record_bytes 0 (encode_of airframe.Quadplane (call.Cut reason.OnGround)) ≡ 3 ∷ 12 ∷ replicate 78 0
unfolding le32
a_cut = refl

-- with 1 as every number: a quadplane's settings call has 15 of them, a tailsitter's header 17
pub a_settings_call : (encode_of airframe.Quadplane (call.Settings (settings_by (λ k. one32))) ≡ record { kind = kind.Settings; option = 0; numbers = replicate 15 0x3F80_0000 ++ replicate 4 0 }) × (kind_number kind.Settings ≡ 4)
unfolding of_bits to_bits settings_by settings_numbers
a_settings_call = (refl, refl)

pub a_tailsitter : (encode_header airframe.Tailsitter (settings_by (λ k. one32)) ≡ record { kind = kind.Tailsitter; option = 0; numbers = replicate 17 0x3F80_0000 ++ replicate 2 0 }) × (kind_number kind.Tailsitter ≡ 5)
unfolding of_bits to_bits settings_by settings_numbers
a_tailsitter = (refl, refl)

-- a step with a NaN as every number: with an airspeed 15 of them, 7FC00000; without one number 12 is 0
pub a_step : (encode_of airframe.Tailsitter (call.Step (step_input_by 3 (λ k. nan))) ≡ record { kind = kind.Step; option = 3; numbers = replicate 15 0x7FC0_0000 ++ replicate 4 0 }) × (kind_number kind.Step ≡ 2)
unfolding to_bits step_input_by vehicle_by step_numbers
a_step = (refl, refl)

pub a_step_without : (encode_of airframe.Quadplane (call.Step (step_input_by 0 (λ k. nan)))
    ≡ record { kind = kind.Step; option = 0; numbers = replicate 11 0x7FC0_0000 ++ 0 ∷ replicate 3 0x7FC0_0000 ++ replicate 4 0 }) × (kind_number kind.Step ≡ 2)
unfolding to_bits step_input_by vehicle_by step_numbers
a_step_without = (refl, refl)

-- a prime at -0: its sign is kept
pub a_prime : (encode_of airframe.Tailsitter (call.Prime (of_bits lib.Ieee.binary32 0x8000_0000)) ≡ record { kind = kind.Prime; option = 0; numbers = 0 ∷ 0x8000_0000 ∷ replicate 17 0 }) × (kind_number kind.Prime ≡ 1)
unfolding of_bits to_bits
a_prime = (refl, refl)

-- the numbers of the refusals, and the field, which the header's alone has
pub refusals : (write_refusal_of refusal.Calls ≡ 21) × (write_refusal_of refusal.Room ≡ 22) × (write_refusal_of (refusal.Header (input.Setting 2)) ≡ 3)
refusals = (refl, refl, refl)

pub refused_fields : (write_field_of refusal.Calls ≡ 0) × (write_field_of refusal.Room ≡ 0) × (write_field_of (refusal.Header (input.Setting 2)) ≡ 2)
refused_fields = (refl, refl, refl)
