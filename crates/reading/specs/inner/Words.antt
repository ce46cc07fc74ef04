-- How a word is read byte by byte: what the rest of it makes of a phase, and what a byte makes of one.
use Rattle.std.specs.Prelude.{List, Bool, true, false, cond, ◌&&◌, ℕ, ◌+◌, ◌-◌, ◌*◌, eqb, ℤ, Option as RustOption, Some, None}
use Rattle.std.proofs.Math.Option.{Option, none, some}
use Prim.Native.Char.{code}
use Rattle.base.specs.Bytes.{digit, all, value}
use Rattle.reading.specs.Reading.{in_signed_range, number_in_range, digits_reading, reading}
use Rattle.reading.specs.declared.Phase.{Phase}
use Rattle.reading.specs.declared.Phase.TheVariants.{Between, Minus, Number, Over}

-- what a word reads as whose beginning led to this phase, where w is the rest of it
unfoldable pub word_of : Phase → List ℕ → Option ℤ
word_of Between w = reading w
word_of Minus w = digits_reading true w
word_of (Number negative n) w = cond (all digit w) (number_in_range negative (value n w)) none
word_of Over w = none

-- a number after one byte more of its word
unfoldable pub digit_more : Bool → ℕ → ℕ → Phase
digit_more negative n b =
    let m = n * 10 + (b - 48) in
    cond (digit b && in_signed_range negative m) (Number negative m) Over

-- a word after one byte more
unfoldable pub word_more : Phase → ℕ → Phase
word_more Between b = cond (eqb b (code "-")) Minus (digit_more false 0 b)
word_more Minus b = digit_more true 0 b
word_more (Number negative n) b = digit_more negative n b
word_more Over b = Over

-- what the code holds of it
abbrev pub as_reading : RustOption ℤ → Option ℤ
as_reading (Some z) = some z
as_reading None = none
