-- How the code spots a keyword: its length and letters leave one to compare a word with, or none.
use Rattle.std.specs.Prelude.{Option, Some, None, List, [], ◌∷◌, Bool, false, cond, ◌&&◌, ◌||◌, ℕ, eqb, length, get_or}
use Prim.Native.Char.{code}
use Rattle.base.specs.Bytes.{same}
use Rattle.lexeme.specs.Lexemes.{Keyword, keywords, PRINTS}
use Rattle.lexeme.specs.inner.Coded.{variant_of, code_of}
use Rattle.lexeme.specs.declared.Fixed.{Fixed}

abbrev pub letter_at : ℕ → List ℕ → ℕ
letter_at i w = get_or w i 0

-- the first of the keywords that has this length and first letter
unfoldable pub alike : List Keyword → ℕ → ℕ → Option Fixed
alike [] n first = None
alike (k ∷ ks) n first = cond (eqb n (length k.spelled) && eqb first (letter_at 0 k.spelled)) (Some (variant_of k.means)) (alike ks n first)

-- PRINTI and PRINTS have length and five letters in common: the sixth decides
abbrev pub six_letters : ℕ → ℕ → Option Fixed
six_letters first sixth = cond (eqb first (code "P") && eqb sixth (code "S")) (Some (variant_of PRINTS)) (alike keywords 6 first)

-- the one keyword that a word is compared with
unfoldable pub candidate : List ℕ → Option Fixed
candidate w = cond (eqb (length w) 6) (six_letters (letter_at 0 w) (letter_at 5 w)) (alike keywords (length w) (letter_at 0 w))

-- whether the word is a keyword of this number
unfoldable pub is_keyword : List Keyword → ℕ → List ℕ → Bool
is_keyword [] n w = false
is_keyword (k ∷ ks) n w = eqb n (code_of k.means) && same w k.spelled || is_keyword ks n w
