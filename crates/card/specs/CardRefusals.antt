-- Document 01, section 9: the numbers of a card's refusals. Definitions only. Assumes nothing.
use Rattle.std.specs.Prelude.{ℕ}
use Rattle.machines.specs.Refusals.{refusal_of, field_of}
use Rattle.card.specs.declared.refusal.CardRefusal.{CardRefusal}
use Rattle.card.specs.declared.refusal.CardRefusal.TheVariants.{Header, Length, Marks, NextIndex, PassedRecord, KindOrOption}

-- "3 setting, with field; .. 6 card length not 80 to 64,000 bytes in whole records; 7 marks shorter than the record count; 8 next index past the card; 9 exactly when a record already
-- passed is met; 10 kind or option"
-- The header's own refusal is that of its machine's making: a 3 with its field (law `header_three`, Headers.antt)
abbrev pub card_refusal_of : CardRefusal → ℕ
card_refusal_of (Header why) = refusal_of why
card_refusal_of Length = 6
card_refusal_of Marks = 7
card_refusal_of NextIndex = 8
card_refusal_of PassedRecord = 9
card_refusal_of KindOrOption = 10

-- the field of a 3, and 0 where there is none
abbrev pub card_field_of : CardRefusal → ℕ
card_field_of (Header why) = field_of why
card_field_of Length = 0
card_field_of Marks = 0
card_field_of NextIndex = 0
card_field_of PassedRecord = 0
card_field_of KindOrOption = 0
