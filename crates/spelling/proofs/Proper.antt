-- What a lexeme is that a text can have, and lexemes set out with one space between. Assumes nothing.
use mathlib.Core.Path.{◌≡◌}
use mathlib.Core.List.{List, [], ◌∷◌}
use mathlib.Core.Bool.{true, false}
use Prim.Native.Nat.{ℕ, ◌+◌}
use lib.ListN.{length}
use Rattle.base.specs.Bytes.{small, letter, letter_or_digit, no_quote, begins, all}
use Rattle.lexeme.specs.Lexemes.{Lexeme, lit, name, class, string, fixed, end, Placed, keywords, capital_word}
use Rattle.spelling.specs.Spelling.{written, at_place}

-- a name begins small; a class name does not, and is no keyword; a string has no quote inside; the end is not written
abbrev pub Proper : Lexeme → Type 0
Proper (lit n) = Unit {0}
Proper (name x) = (begins small x.spelled ≡ true) × (all letter_or_digit x.spelled ≡ true)
Proper (class x) = (begins letter x.spelled ≡ true) × (begins small x.spelled ≡ false) × (all letter x.spelled ≡ true) × (capital_word keywords 0 x.spelled ≡ class (record { spelled = x.spelled; place = 0 }))
Proper (string q) = all no_quote q.inside ≡ true
Proper (fixed f) = f ≡ end → ⊥

abbrev pub placed_at : ℕ → Lexeme → Placed
placed_at p l = record { place = p; what = at_place p l }

-- with a space before each, from the place p on, and the end after the last
unfoldable pub set_out_after : ℕ → List Lexeme → List Placed
set_out_after p [] = placed_at p (fixed end) ∷ []
set_out_after p (l ∷ ls) = placed_at (p + 1) l ∷ set_out_after (p + 1 + length (written l)) ls

-- one space between, none at either end
unfoldable pub set_out : List Lexeme → List Placed
set_out [] = placed_at 0 (fixed end) ∷ []
set_out (l ∷ ls) = placed_at 0 l ∷ set_out_after (length (written l)) ls
