-- Texts and their tidy copies, as the definitions yield them. Assumes nothing.
use mathlib.Core.Path.{◌≡◌, refl}
use mathlib.Core.List.{List, [], ◌∷◌, map}
use Prim.Native.String.{String}
use Rattle.limits.specs.Limits.{the_sizes}
use Rattle.base.specs.Answers.{pass}
use Rattle.base.specs.Bytes.{bytes, bytes_from, separator, small, capital, letter, digit, letter_or_digit, no_quote, run, begins, all, same, value}
use Rattle.numbers.specs.Numbers.{digits, decimal}
use Rattle.lexeme.specs.Lexemes.{found, keywords, capital_word, word, string_at, symbols, symbol, colon, here, next, too_large, sized, lexemes_from, lexemes}
use Rattle.lexeme.specs.inner.Coded.{code_of}
use Rattle.sentence.specs.Grammar.{whats}
use Rattle.spelling.specs.Spelling.{always_written, spelled_in, written, after_space, spaced, without_end, tidy_text}
use Rattle.tidy.specs.Tidy.{of_lexemes, tidy_of}

pub record Example : Type 0 where
  pub text : String
  pub copy : String

abbrev pub example : String → String → Example
example text copy = record { text = text; copy = copy }

pub examples : List Example
examples =
    example "DO PRINTI 007" "DO PRINTI 7"
    ∷ example "\r\n DO{INT n n:=000*(n-1)}\t" "DO { INT n n := 0 * ( n - 1 ) }"
    ∷ example "DO IF NOT 1<2 THEN{PRINTLNS\" a\tb  \"ERROR}" "DO IF NOT 1 < 2 THEN { PRINTLNS \" a\tb  \" ERROR }"
    ∷ example "DO { INT a007 READ a007 PRINTS\"\"PRINTS\"007\" }" "DO { INT a007 READ a007 PRINTS \"\" PRINTS \"007\" }"
    ∷ example "DO PRINTI 2147483647" "DO PRINTI 2147483647"
    ∷ []

pub yield_as_expected : map (λ (x : Example). tidy_of the_sizes (bytes x.text)) examples ≡ map (λ (x : Example). bytes x.copy) examples
unfolding examples tidy_of of_lexemes tidy_text whats without_end spaced after_space written spelled_in always_written code_of decimal digits lexemes lexemes_from sized too_large next here symbol symbols colon string_at word capital_word keywords found pass bytes bytes_from separator small capital letter digit letter_or_digit no_quote run begins all same value
yield_as_expected = refl
