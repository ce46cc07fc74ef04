-- Where a place of a text stands: its line and its column, counted from 1, as an editor shows them. A place is counted in bytes, from 0.
use Rattle.std.specs.Prelude.{List, [], ◌∷◌, Bool, true, false, not, ℕ, zero, suc, ◌+◌, ◌-◌, min, eqb, length, get_or, take, drop}
use Rattle.base.specs.Bytes.{between, run}
use Rattle.place.specs.declared.Spot.{Spot}

-- a line feed ends a line
unfoldable pub line_feed : ℕ → Bool
line_feed b = eqb b 10

unfoldable pub no_line_feed : ℕ → Bool
no_line_feed b = not (line_feed b)

-- a byte 128 to 191 goes on a character of UTF-8 and takes no column of its own; every other byte begins a character, a tab too
unfoldable pub goes_on : ℕ → Bool
goes_on b = between 128 191 b

unfoldable pub begins : ℕ → Bool
begins b = not (goes_on b)

-- how many of some bytes are such
unfoldable pub count : (ℕ → Bool) → List ℕ → ℕ
count such [] = 0
count such (b ∷ s) = elim (such b) [ true ↦ suc (count such s) | false ↦ count such s ]

-- a place past the text counts as its end
unfoldable pub within : List ℕ → ℕ → ℕ
within text place = min place (length text)

-- the line of a place begins after the last line feed before it, and the first line at 0
unfoldable pub line_start : List ℕ → ℕ → ℕ
line_start text zero = zero
line_start text (suc p) = elim (line_feed (get_or text p 0)) [ true ↦ suc p | false ↦ line_start text p ]

-- the bytes of its line before a place, and those from it up to the next line feed or the text's end
unfoldable pub before : List ℕ → ℕ → List ℕ
before text p = take (p - line_start text p) (drop (line_start text p) text)

unfoldable pub from_place : List ℕ → ℕ → List ℕ
from_place text p = run no_line_feed (drop p text)

-- a place that is in the text, or its end: the line feeds before it, the characters that begin before it on its line, and where the line begins
unfoldable pub spot_at : List ℕ → ℕ → Spot
spot_at text p = record { line = count line_feed (take p text) + 1; column = count begins (before text p) + 1; start = line_start text p }

unfoldable pub spot : List ℕ → ℕ → Spot
spot text place = spot_at text (within text place)
