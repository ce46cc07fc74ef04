-- How the code writes lexemes: its enums and numbers for those of the definitions, and the way back.
use Rattle.std.specs.Prelude.{◌≡◌, Result, Ok, Err, Option, Some, None, List, [], ◌∷◌, ◌++◌, map, Bool, true, false, ℕ, ◌+◌, ◌-◌, ◌≤◌, ◌<◌, min, eqb, ltb, length}
use Prim.Native.Char.{code}
use Rattle.base.specs.declared.Refused.{Refused}
use Rattle.base.specs.Answers.{Answer, given, refused}
use Rattle.base.specs.inner.Parts.{part}
use Rattle.lexeme.specs.Lexemes.{Sizes, Symbol, symbols, Keyword, keywords, Fixed, becomes, equals_sign, comma, dot, greater_sign, less_sign, plus_sign, minus_sign, star, slash, open_round, close_round, open_square, close_square, open_brace, close_brace, CALL, CLASS, DO, ERROR, FIELDS, IF, INIT, INT, METHOD, NOT, OBJ, PRINTI, PRINTLNS, PRINTS, PROCEDURE, READ, RETURNS, SUBCLASSOF, THEN, USING, WHILE, end, lit, name, class, string, fixed, Placed, Next, lexeme, nothing, next}
use Rattle.lexeme.specs.Lexemes as lexemes
use Rattle.lexeme.specs.declared.Fixed as code_fixed
use Rattle.lexeme.specs.declared.Fixed.TheVariants as variant
use Rattle.lexeme.specs.declared.Kind.{Kind}
use Rattle.lexeme.specs.declared.Kind.TheVariants as kind
use Rattle.lexeme.specs.declared.Lexeme.{Lexeme}

-- ---- to the code

-- a fixed lexeme is a variant of the code's
abbrev pub variant_of : Fixed → code_fixed.Fixed
variant_of becomes = variant.Becomes
variant_of equals_sign = variant.Equals
variant_of comma = variant.Comma
variant_of dot = variant.Dot
variant_of greater_sign = variant.Greater
variant_of less_sign = variant.Less
variant_of plus_sign = variant.Plus
variant_of minus_sign = variant.Minus
variant_of star = variant.Star
variant_of slash = variant.Slash
variant_of open_round = variant.OpenRound
variant_of close_round = variant.CloseRound
variant_of open_square = variant.OpenSquare
variant_of close_square = variant.CloseSquare
variant_of open_brace = variant.OpenBrace
variant_of close_brace = variant.CloseBrace
variant_of CALL = variant.Call
variant_of CLASS = variant.Class
variant_of DO = variant.Do
variant_of ERROR = variant.Error
variant_of FIELDS = variant.Fields
variant_of IF = variant.If
variant_of INIT = variant.Init
variant_of INT = variant.Int
variant_of METHOD = variant.Method
variant_of NOT = variant.Not
variant_of OBJ = variant.Obj
variant_of PRINTI = variant.Printi
variant_of PRINTLNS = variant.Printlns
variant_of PRINTS = variant.Prints
variant_of PROCEDURE = variant.Procedure
variant_of READ = variant.Read
variant_of RETURNS = variant.Returns
variant_of SUBCLASSOF = variant.Subclassof
variant_of THEN = variant.Then
variant_of USING = variant.Using
variant_of WHILE = variant.While
variant_of end = variant.End

-- the number of a variant: a symbol's byte, the colon's for `:=`, a keyword's number in alphabetical order, and 0 for the end
abbrev pub number : code_fixed.Fixed → ℕ
number variant.Becomes = code ":"
number variant.Equals = code "="
number variant.Comma = code ","
number variant.Dot = code "."
number variant.Greater = code ">"
number variant.Less = code "<"
number variant.Plus = code "+"
number variant.Minus = code "-"
number variant.Star = code "*"
number variant.Slash = code "/"
number variant.OpenRound = code "("
number variant.CloseRound = code ")"
number variant.OpenSquare = code "["
number variant.CloseSquare = code "]"
number variant.OpenBrace = code "{"
number variant.CloseBrace = code "}"
number variant.Call = 1
number variant.Class = 2
number variant.Do = 3
number variant.Error = 4
number variant.Fields = 5
number variant.If = 6
number variant.Init = 7
number variant.Int = 8
number variant.Method = 9
number variant.Not = 10
number variant.Obj = 11
number variant.Printi = 12
number variant.Printlns = 13
number variant.Prints = 14
number variant.Procedure = 15
number variant.Read = 16
number variant.Returns = 17
number variant.Subclassof = 18
number variant.Then = 19
number variant.Using = 20
number variant.While = 21
number variant.End = 0

-- the number of a fixed lexeme
unfoldable pub code_of : Fixed → ℕ
code_of f = number (variant_of f)

-- the bytes of a word and of a string stand in the text; of a literal beyond the code's numbers, the largest of them
unfoldable pub kind_of : lexemes.Lexeme → Kind
kind_of (lit n) = kind.Literal (min n 4294967295)
kind_of (name n) = kind.Name
kind_of (class n) = kind.Class
kind_of (string s) = kind.Str
kind_of (fixed f) = kind.Fixed (variant_of f)

-- nothing more is the end, which takes no byte
unfoldable pub coded : Answer Next → Result Lexeme Refused
coded (given (lexeme l e)) = Ok (record { kind = kind_of l.what; place = l.place; end = e })
coded (given (nothing p)) = Ok (record { kind = kind.Fixed (variant_of end); place = p; end = p })
coded (refused why p) = Err (record { why = why; place = p })

-- how a scan ends: with the text's end, or with its leftmost refusal of 2 and 3
unfoldable pub scanned : List ℕ → Answer (List Placed) → Result Lexeme Refused
scanned text (given ls) = Ok (record { kind = kind.Fixed (variant_of end); place = length text; end = length text })
scanned text (refused why p) = Err (record { why = why; place = p })

-- the fixed lexeme that a kind is
unfoldable pub variant_in : Kind → Option code_fixed.Fixed
variant_in (kind.Literal n) = None
variant_in kind.Name = None
variant_in kind.Class = None
variant_in kind.Str = None
variant_in (kind.Fixed f) = Some f

-- its number; 255 is none
unfoldable pub fixed_number : Kind → ℕ
fixed_number (kind.Literal n) = 255
fixed_number kind.Name = 255
fixed_number kind.Class = 255
fixed_number kind.Str = 255
fixed_number (kind.Fixed f) = number f

-- whether a lexeme of this kind and of n bytes is too large
unfoldable pub large : Sizes → Kind → ℕ → Bool
large most (kind.Literal v) n = ltb most.literal v
large most kind.Name n = ltb most.word n
large most kind.Class n = ltb most.word n
large most kind.Str n = ltb (most.string + 2) n
large most (kind.Fixed f) n = false

-- ---- and back

-- all but the end: `:=`, and those of the tables
unfoldable pub fixeds : List Fixed
fixeds = becomes ∷ (map (λ (y : Symbol). y.means) symbols ++ map (λ (k : Keyword). k.means) keywords)

unfoldable pub fixed_in : List Fixed → ℕ → Fixed
fixed_in [] n = end
fixed_in (f ∷ fs) n = elim (eqb n (code_of f)) [ true ↦ f | false ↦ fixed_in fs n ]

unfoldable pub fixed_of : ℕ → Fixed
fixed_of n = fixed_in fixeds n

-- what the code's lexeme of a kind, from the place p up to e, is in the text
unfoldable pub what_of : List ℕ → ℕ → ℕ → Kind → lexemes.Lexeme
what_of text p e (kind.Literal n) = lit n
what_of text p e kind.Name = name (record { spelled = part text p e; place = p })
what_of text p e kind.Class = class (record { spelled = part text p e; place = p })
what_of text p e kind.Str = string (record { inside = part text (p + 1) (e - 1); place = p + 1 })
what_of text p e (kind.Fixed f) = fixed (fixed_of (number f))

unfoldable pub told : List ℕ → Lexeme → lexemes.Lexeme
told text l = what_of text l.place l.end l.kind

abbrev pub placed : List ℕ → Lexeme → Placed
placed text l = record { place = l.place; what = told text l }

abbrev pub Ends : Lexeme → Type 0
Ends l = l.kind ≡ kind.Fixed (variant_of end)

-- the code's lexeme stands in the text; only the end takes no byte
pub record Stands (text : List ℕ) (l : Lexeme) : Type 0 where
  pub order : l.place ≤ l.end
  pub within : l.end ≤ length text
  pub some : (Ends l → ⊥) → l.place < l.end
  pub last : Ends l → l.end ≡ length text
  pub known : kind_of (told text l) ≡ l.kind

-- a literal is a number of the machine
abbrev pub Number : Lexeme → Type 0
Number l = (v : ℕ) → l.kind ≡ kind.Literal v → v ≤ 2147483647

-- ls are the lexemes of the text from the code's lexeme l on
pub data Ahead (text : List ℕ) : Lexeme → List Placed → Type 0 where
  last : (l : Lexeme) → Ends l → Ahead text l (placed text l ∷ [])
  more : (l m : Lexeme) (ls : List Placed) → (Ends l → ⊥) → Number l → Ok m ≡ coded (next text l.end) → Ahead text m ls → Ahead text l (placed text l ∷ ls)
