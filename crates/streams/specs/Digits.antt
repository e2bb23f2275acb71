-- What the contract on hexadecimal digits cites.
use Rattle.std.specs.Prelude.{ℕ, ◌-◌, ◌^◌, List, [], false}
use Rattle.std.specs.Fmt.{digits, padded_integral, format_spec}

-- n in hexadecimal digits, in lower case, with zeros in front up to `width` digits
abbrev pub hex_text : ℕ → ℕ → List ℕ
hex_text width n = padded_integral (format_spec 32 0 4 width (2 ^ 64 - 1)) false [] (digits 16 false n)
