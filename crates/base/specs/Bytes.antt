-- Bytes, and their classes in document 01, "Lexemes". A text is a list of bytes; a place in it is counted from 0.
use Rattle.std.specs.Prelude.{List, [], ◌∷◌, Bool, true, false, not, ◌&&◌, ◌||◌, ℕ, zero, suc, ◌+◌, ◌-◌, ◌*◌, leb, eqb}
use Prim.Native.String.{String, len, char_at}
use Prim.Native.Char.{code}

-- quoted text as bytes, so that tables can be read: bytes "DO" is 68 ∷ 79 ∷ []
unfoldable pub bytes_from : ℕ → ℕ → String → List ℕ
bytes_from zero i s = []
bytes_from (suc n) i s = code (char_at s i) ∷ bytes_from n (suc i) s

unfoldable pub bytes : String → List ℕ
bytes s = bytes_from (len s) 0 s

abbrev pub between : ℕ → ℕ → ℕ → Bool
between low high b = leb low b && leb b high

-- space, tab, line feed and carriage return separate
unfoldable pub separator : ℕ → Bool
separator b = eqb b 32 || (eqb b 9 || (eqb b 10 || eqb b 13))

-- ASCII letters and digits
unfoldable pub small : ℕ → Bool
small b = between 97 122 b

unfoldable pub capital : ℕ → Bool
capital b = between 65 90 b

unfoldable pub letter : ℕ → Bool
letter b = small b || capital b

unfoldable pub digit : ℕ → Bool
digit b = between 48 57 b

unfoldable pub letter_or_digit : ℕ → Bool
letter_or_digit b = letter b || digit b

-- any byte but the quote
unfoldable pub no_quote : ℕ → Bool
no_quote b = not (eqb b 34)

-- the longest run of such bytes at the beginning of s
unfoldable pub run : (ℕ → Bool) → List ℕ → List ℕ
run such [] = []
run such (b ∷ s) = elim (such b) [ true ↦ b ∷ run such s | false ↦ [] ]

-- whether such a byte stands first
unfoldable pub begins : (ℕ → Bool) → List ℕ → Bool
begins such [] = false
begins such (b ∷ s) = such b

unfoldable pub all : (ℕ → Bool) → List ℕ → Bool
all such [] = true
all such (b ∷ s) = elim (such b) [ true ↦ all such s | false ↦ false ]

-- byte for byte
unfoldable pub same : List ℕ → List ℕ → Bool
same [] [] = true
same [] (b ∷ t) = false
same (a ∷ s) [] = false
same (a ∷ s) (b ∷ t) = elim (eqb a b) [ true ↦ same s t | false ↦ false ]

-- the value of a digit word, whose leading digits are worth n
unfoldable pub value : ℕ → List ℕ → ℕ
value n [] = n
value n (b ∷ w) = value (n * 10 + (b - 48)) w
