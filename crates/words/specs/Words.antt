-- Document 01, "Refused texts" and "How a run ends", in plain words: what is wrong, and what to look for. Each sentence ends its row, and a sign stands in the place of a number.
use Rattle.std.specs.Prelude.{List, [], ◌∷◌, ◌++◌, cond, ℕ, min, eqb, leb, length, get_or}
use Prim.Native.Char.{code}
use Rattle.base.specs.Bytes.{bytes, letter_or_digit, digit}
use Rattle.base.specs.declared.Refusal.{Refusal}
use Rattle.base.specs.declared.Refusal.TheVariants.{TooLong, NoLexeme, TooLarge, NoProgram, TooDeep, Undeclared, TooManyDeclared, TooMuchCode}
use Rattle.rows.specs.Rows.{nth}
use Rattle.lines.specs.Forms.{filled}
use Rattle.words.specs.declared.Numbers.{Numbers}
use Rattle.words.specs.declared.Row.{Row}

-- which row, and the number in the place of its sign
abbrev pub row : ℕ → ℕ → Row
row line number = record { line = line; number = number }

unfoldable pub in_words : List ℕ → Row → List ℕ
in_words table r = filled (nth 10 r.line table) (r.number ∷ [])

-- ---- why a text is refused

unfoldable pub refusals : List ℕ
refusals =
    bytes "The text is longer than # bytes. Make it shorter.\n" ++
    bytes "This string is never closed. Is a quote missing at its end?\n" ++
    bytes "A colon stands only before =, as in t := 1.\n" ++
    bytes "This word mixes letters and digits. Only a name may, and a name begins with a small letter.\n" ++
    bytes "O has only plain characters. Is this a quotation mark of another kind? A string stands between two of these: \"\n" ++
    bytes "O does not use this character.\n" ++
    bytes "This string has more than # bytes between its quotes. Print it in parts.\n" ++
    bytes "This number is larger than #, the largest there is.\n" ++
    bytes "This word has more than # letters and digits. Choose a shorter one.\n" ++
    bytes "The text ends here, and the program is not finished. Is a } or a command missing?\n" ++
    bytes "This cannot stand here. Read the sentence aloud up to the mark: what should follow?\n" ++
    bytes "This is too deep: of ( { IF WHILE NOT only # may be open at once. Split the sentence.\n" ++
    bytes "This name is not declared here. Write INT and the name before it, in this block or one around it. The body of an IF or WHILE is a block too.\n" ++
    bytes "This is one declaration too many: a text may have #. Use fewer variables.\n" ++
    bytes "The program is too long: its code may have # instructions. Make it shorter.\n"

-- no lexeme: by the byte at the place
unfoldable pub no_lexeme : ℕ → ℕ
no_lexeme b = cond (eqb b (code "\"")) 1 (cond (eqb b (code ":")) 2 (cond (letter_or_digit b) 3 (cond (leb 128 b) 4 5)))

-- too large: likewise
unfoldable pub too_large : Numbers → ℕ → Row
too_large n b = cond (eqb b (code "\"")) (row 6 n.string) (cond (digit b) (row 7 n.literal) (row 8 n.word))

-- no program: by whether the text ends there
unfoldable pub why_row : Numbers → List ℕ → Refusal → ℕ → Row
why_row n text TooLong place = row 0 n.text
why_row n text NoLexeme place = row (no_lexeme (get_or text place 0)) 0
why_row n text TooLarge place = too_large n (get_or text place 0)
why_row n text NoProgram place = row (cond (leb (length text) place) 9 10) 0
why_row n text TooDeep place = row 11 n.nesting
why_row n text Undeclared place = row 12 0
why_row n text TooManyDeclared place = row 13 n.declarations
why_row n text TooMuchCode place = row 14 n.instructions

unfoldable pub why : Numbers → List ℕ → Refusal → ℕ → List ℕ
why n text refusal place = in_words refusals (why_row n text refusal place)

-- ---- how a run ended

-- a row for each ending; for any other, the last
unfoldable pub endings : List ℕ
endings =
    bytes "It came to its end. What it printed may be sent on.\n" ++
    bytes "It met ERROR: the program itself says that something is wrong.\n" ++
    bytes "It used up its # steps. Is there a WHILE whose condition stays true?\n" ++
    bytes "READ found no reading left. Give it more readings, or read fewer.\n" ++
    bytes "A result was outside -2147483648 to 2147483647. Which sum or product grows so large?\n" ++
    bytes "It divided by 0. Test for 0 before you divide.\n" ++
    bytes "The stack was full.\n" ++
    bytes "The output does not fit its # bytes. Print less.\n" ++
    bytes "The code was bad.\n"

unfoldable pub how_row : Numbers → ℕ → Row
how_row n ending = cond (eqb ending 2) (row 2 n.budget) (cond (eqb ending 7) (row 7 n.room) (row (min ending 8) 0))

unfoldable pub how : Numbers → ℕ → List ℕ
how n ending = in_words endings (how_row n ending)
