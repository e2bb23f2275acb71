-- The words of a line, as texts. Definitions only. Assumes nothing.
use Rattle.std.specs.Prelude.{ℕ, ◌∷◌, ◌++◌, codes, List, Option, Some, None}
use Rattle.std.specs.Fmt.{decimal}
use Rattle.numbers.specs.Numbers.{bits_of}
use Rattle.streams.specs.Digits.{hex_text}
use Rattle.machines.specs.declared.InputRefusal.{InputRefusal}
use Rattle.machines.specs.declared.InputRefusal.TheVariants.{TimeStep, EntryTilt, Setting, HandoffDuration, Tangent}
use Rattle.machines.specs.declared.answer.ShareOrTilt.{ShareOrTilt}
use Rattle.machines.specs.declared.answer.ShareOrTilt.TheVariants.{Share, Tilt}
use Rattle.machines.specs.declared.answer.TransitionStep.{TransitionStep}
use Rattle.machines.specs.Refusals.{refusal_of, report_of}
use Rattle.joined.specs.Shown.{letter_of, flag_of}

-- what there is, as `shown` gives it, or "-" if there is nothing
abbrev pub dash_text : {A : Type 0} → (A → Option (List ℕ)) → Option A → Option (List ℕ)
dash_text shown None = Some (codes "-")
dash_text shown (Some x) = shown x

-- a share's bits, or a tilt's if there is one
abbrev pub output_text : ShareOrTilt → List ℕ
output_text (Share share) = hex_text 8 (bits_of share)
output_text (Tilt (Some tilt)) = hex_text 8 (bits_of tilt)
output_text (Tilt None) = codes "-"

-- mode, share or tilt, handoff flag and report
abbrev pub step_text : TransitionStep → List ℕ
step_text step = letter_of step.mode ∷ codes " " ++ output_text step.output ++ codes " " ++ decimal (flag_of step.handoff) ++ codes " " ++ decimal (report_of step.refusal)

-- "refused", the number of document 01, section 9, and the field of a setting
abbrev pub refused_text : InputRefusal → List ℕ
refused_text TimeStep = codes "refused " ++ decimal (refusal_of TimeStep)
refused_text EntryTilt = codes "refused " ++ decimal (refusal_of EntryTilt)
refused_text (Setting field) = codes "refused 3 " ++ decimal field
refused_text HandoffDuration = codes "refused " ++ decimal (refusal_of HandoffDuration)
refused_text Tangent = codes "refused " ++ decimal (refusal_of Tangent)
