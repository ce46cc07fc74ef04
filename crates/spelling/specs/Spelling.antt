-- Document 02, T-05: a program written out one way: its lexemes with one space between, no space at either end.
use Rattle.std.specs.Prelude.{◌≡◌, List, [], ◌∷◌, ◌++◌, map, true, false, ℕ, ◌+◌, eqb, pos}
use Prim.Native.Char.{code}
use Rattle.numbers.specs.Numbers.{decimal}
use Rattle.lexeme.specs.Lexemes.{Fixed, becomes, Lexeme, lit, name, class, string, fixed, Placed, Keyword, keyword, keywords, Symbol, symbols}
use Rattle.lexeme.specs.inner.Coded.{code_of}
use Rattle.sentence.specs.Grammar.{whats}

-- ---- a lexeme

-- those that are always written the same: `:=`, the fifteen characters and the keywords
unfoldable pub always_written : List Keyword
always_written = keyword ":=" becomes ∷ (map (λ (y : Symbol). record { spelled = y.byte ∷ []; means = y.means }) symbols ++ keywords)

unfoldable pub spelled_in : List Keyword → Fixed → List ℕ
spelled_in [] f = []
spelled_in (k ∷ ks) f = elim (eqb (code_of f) (code_of k.means)) [ true ↦ k.spelled | false ↦ spelled_in ks f ]

-- literals without needless zeros, strings byte for byte with their quotes
unfoldable pub written : Lexeme → List ℕ
written (lit n) = decimal (pos n)
written (name x) = x.spelled
written (class x) = x.spelled
written (string q) = code "\"" ∷ (q.inside ++ code "\"" ∷ [])
written (fixed f) = spelled_in always_written f

-- the same lexeme at the place p; a string's is just after its quote
unfoldable pub at_place : ℕ → Lexeme → Lexeme
at_place p (lit n) = lit n
at_place p (name x) = name (record { spelled = x.spelled; place = p })
at_place p (class x) = class (record { spelled = x.spelled; place = p })
at_place p (string q) = string (record { inside = q.inside; place = p + 1 })
at_place p (fixed f) = fixed f

-- a lexeme in kind and meaning: a literal's value, the bytes of a name or of a string. Its place is no part of it, so that all are put at one place.
abbrev pub meant : Lexeme → Lexeme
meant l = at_place 0 l

-- ---- a text

-- each with a space before it
unfoldable pub after_space : List Lexeme → List ℕ
after_space [] = []
after_space (l ∷ ls) = code " " ∷ (written l ++ after_space ls)

-- one space between, none at either end
unfoldable pub spaced : List Lexeme → List ℕ
spaced [] = []
spaced (l ∷ ls) = written l ++ after_space ls

-- the last of a text's lexemes is the end, which is not written
unfoldable pub without_end : List Lexeme → List Lexeme
without_end [] = []
without_end (l ∷ ls) = elim ls [ [] ↦ [] | m ∷ more ↦ l ∷ without_end ls ]

-- the tidy text of a text with these lexemes
unfoldable pub tidy_text : List Placed → List ℕ
tidy_text ls = spaced (without_end (whats ls))

-- the lexemes of two texts are equal in kind and meaning
unfoldable pub Alike : List Placed → List Placed → Type 0
Alike ls ms = map meant (whats ls) ≡ map meant (whats ms)
