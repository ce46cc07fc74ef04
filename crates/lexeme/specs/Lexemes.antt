-- Document 01, "Lexemes", with the names of document 02, T-01, and refusals 2 and 3 of "Refused texts".
use Rattle.std.specs.Prelude.{List, [], ◌∷◌, Bool, true, false, cond, ℕ, zero, suc, ◌+◌, leb, ltb, eqb, length, drop}
use Prim.Native.Char.{Char, code}
use Prim.Native.String.{String}
pub use Rattle.limits.specs.Limits.{Sizes}
use Rattle.base.specs.declared.Refusal.TheVariants.{NoLexeme, TooLarge}
use Rattle.base.specs.Answers.{Answer, given, refused, pass}
use Rattle.base.specs.Bytes.{bytes, separator, small, letter, digit, letter_or_digit, no_quote, run, begins, all, same, value}

-- ---- what a lexeme is

-- a name as it stands in the text: how it is spelled, and the place of its first letter
pub record Name : Type 0 where
  pub spelled : List ℕ
  pub place : ℕ

-- a string as it stands in the text: the bytes between its quotes, and the place just after the opening quote
pub record Quoted : Type 0 where
  pub inside : List ℕ
  pub place : ℕ

-- the lexemes that are always written the same: `:=`, the fifteen characters and the 21 keywords; `end` stands after the last lexeme, at the text's length
pub data Fixed : Type 0 where
  becomes equals_sign comma dot greater_sign less_sign plus_sign minus_sign star slash : Fixed
  open_round close_round open_square close_square open_brace close_brace : Fixed
  CALL CLASS DO ERROR FIELDS IF INIT INT METHOD NOT OBJ PRINTI PRINTLNS PRINTS PROCEDURE READ RETURNS SUBCLASSOF THEN USING WHILE : Fixed
  end : Fixed

pub data Lexeme : Type 0 where
  lit : ℕ → Lexeme
  name : Name → Lexeme
  class : Name → Lexeme
  string : Quoted → Lexeme
  fixed : Fixed → Lexeme

-- a lexeme and the place of its first byte
pub record Placed : Type 0 where
  pub place : ℕ
  pub what : Lexeme

-- what stands next in a text: a lexeme, with the place after it, or nothing more, with the place where the text ends
pub data Next : Type 0 where
  lexeme : Placed → ℕ → Next
  nothing : ℕ → Next

unfoldable pub found : ℕ → Lexeme → ℕ → Answer Next
found p l e = given (lexeme (record { place = p; what = l }) e)

-- ---- words

pub record Keyword : Type 0 where
  pub spelled : List ℕ
  pub means : Fixed

abbrev pub keyword : String → Fixed → Keyword
keyword spelled means = record { spelled = bytes spelled; means = means }

-- in alphabetical order
unfoldable pub keywords : List Keyword
keywords =
    keyword "CALL" CALL ∷ keyword "CLASS" CLASS ∷ keyword "DO" DO ∷ keyword "ERROR" ERROR
    ∷ keyword "FIELDS" FIELDS ∷ keyword "IF" IF ∷ keyword "INIT" INIT ∷ keyword "INT" INT
    ∷ keyword "METHOD" METHOD ∷ keyword "NOT" NOT ∷ keyword "OBJ" OBJ ∷ keyword "PRINTI" PRINTI
    ∷ keyword "PRINTLNS" PRINTLNS ∷ keyword "PRINTS" PRINTS ∷ keyword "PROCEDURE" PROCEDURE ∷ keyword "READ" READ
    ∷ keyword "RETURNS" RETURNS ∷ keyword "SUBCLASSOF" SUBCLASSOF ∷ keyword "THEN" THEN ∷ keyword "USING" USING
    ∷ keyword "WHILE" WHILE ∷ []

-- a word of letters that starts with a capital: a keyword if it equals one byte for byte, else a class name
unfoldable pub capital_word : List Keyword → ℕ → List ℕ → Lexeme
capital_word [] p w = class (record { spelled = w; place = p })
capital_word (k ∷ ks) p w = elim (same w k.spelled) [ true ↦ fixed k.means | false ↦ capital_word ks p w ]

-- a word at the place p: a symbol name if it starts small, whatever letters and digits follow; any other is all letters, or all digits; else it is mixed, and refused
unfoldable pub word : ℕ → List ℕ → Answer Next
word p w =
    cond (begins small w) (found p (name (record { spelled = w; place = p })) (p + length w))
    (cond (all letter w) (found p (capital_word keywords p w) (p + length w))
    (cond (all digit w) (found p (lit (value 0 w)) (p + length w))
    (refused NoLexeme p)))

-- ---- strings and symbols

-- a string whose opening quote is at p, where s follows the quote
unfoldable pub string_at : ℕ → List ℕ → Answer Next
string_at p s =
    let inside = run no_quote s in
    cond (leb (length s) (length inside)) (refused NoLexeme p)
    (found p (string (record { inside = inside; place = p + 1 })) (p + length inside + 2))

pub record Symbol : Type 0 where
  pub byte : ℕ
  pub means : Fixed

abbrev pub symbol_of : Char → Fixed → Symbol
symbol_of byte means = record { byte = code byte; means = means }

-- the fifteen characters
unfoldable pub symbols : List Symbol
symbols =
    symbol_of "=" equals_sign ∷ symbol_of "," comma ∷ symbol_of "." dot ∷ symbol_of ">" greater_sign ∷ symbol_of "<" less_sign
    ∷ symbol_of "+" plus_sign ∷ symbol_of "-" minus_sign ∷ symbol_of "*" star ∷ symbol_of "/" slash
    ∷ symbol_of "(" open_round ∷ symbol_of ")" close_round ∷ symbol_of "[" open_square ∷ symbol_of "]" close_square
    ∷ symbol_of "{" open_brace ∷ symbol_of "}" close_brace ∷ []

-- any other byte is no lexeme
unfoldable pub symbol : List Symbol → ℕ → ℕ → Answer Next
symbol [] p b = refused NoLexeme p
symbol (y ∷ ys) p b = elim (eqb b y.byte) [ true ↦ found p (fixed y.means) (p + 1) | false ↦ symbol ys p b ]

-- a `:` without `=` is no lexeme
unfoldable pub colon : ℕ → List ℕ → Answer Next
colon p [] = refused NoLexeme p
colon p (b ∷ s) = cond (eqb b 61) (found p (fixed becomes) (p + 2)) (refused NoLexeme p)

-- ---- what stands next

-- what begins at the place p, where no separator stands
unfoldable pub here : ℕ → List ℕ → Answer Next
here p [] = given (nothing p)
here p (b ∷ s) =
    cond (letter_or_digit b) (word p (run letter_or_digit (b ∷ s)))
    (cond (eqb b 34) (string_at p s)
    (cond (eqb b 58) (colon p s)
    (symbol symbols p b)))

-- the first lexeme at or after a place
unfoldable pub next : List ℕ → ℕ → Answer Next
next text at = let p = at + length (run separator (drop at text)) in here p (drop p text)

-- ---- all lexemes of a text, or its leftmost refusal of 2 and 3

-- a lexeme that is too large: a name or a class name, by its letters and digits, a string or a literal beyond its limit. No keyword is.
unfoldable pub too_large : Sizes → Lexeme → Bool
too_large most (lit n) = ltb most.literal n
too_large most (name x) = ltb most.word (length x.spelled)
too_large most (class x) = ltb most.word (length x.spelled)
too_large most (string q) = ltb most.string (length q.inside)
too_large most (fixed f) = false

-- such a lexeme is refused
unfoldable pub sized : Sizes → Placed → Answer (Unit {0})
sized most l = cond (too_large most l.what) (refused TooLarge l.place) (given tt)

module _ (most : Sizes) (text : List ℕ) where
  -- from a place on, with more fuel than bytes left; what is no lexeme is refused before its size is asked
  unfoldable pub lexemes_from : ℕ → ℕ → Answer (List Placed)
  lexemes_from zero at = given []
  lexemes_from (suc fuel) at = pass (next text at) λ n. elim n [
    | lexeme l e ↦ pass (sized most l) λ _. pass (lexemes_from fuel e) (λ ls. given (l ∷ ls))
    | nothing p ↦ given (record { place = p; what = fixed end } ∷ [])
  ]

  unfoldable pub lexemes : Answer (List Placed)
  lexemes = lexemes_from (suc (length text)) 0
