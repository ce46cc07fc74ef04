-- For a pupil: where the text was refused, its line with a mark under the place, and why; or the output, and how the run ended.
use Rattle.std.specs.Prelude.{Bool, true, false, cond, List, [], ◌∷◌, ◌++◌, ℕ, eqb, length}
use Rattle.base.specs.declared.Refusal.{Refusal}
use Rattle.base.specs.declared.Refusal.TheVariants.{TooLong, NoLexeme, TooLarge, NoProgram, TooDeep, Undeclared, TooManyDeclared, TooMuchCode}
use Rattle.base.specs.Answers.{Answer, given, refused, number}
use Rattle.base.specs.Bytes.{bytes}
use Rattle.rules.specs.Machine.{Report}
use Rattle.lines.specs.Forms.{filled}
use Rattle.lines.specs.Lines.{line_end}
use Rattle.place.specs.Places.{spot}
use Rattle.marks.specs.Shown.{Widths, marked_line}
use Rattle.words.specs.Words.{why, how}
use Rattle.words.specs.declared.Numbers.{Numbers}
use Rattle.tells.specs.Tells.{Said, not_good, status_of}

-- a text too long and too much code are of the whole text, and their place 0 says nothing
unfoldable pub has_place : Refusal → Bool
has_place TooLong = false
has_place NoLexeme = true
has_place TooLarge = true
has_place NoProgram = true
has_place TooDeep = true
has_place Undeclared = true
has_place TooManyDeclared = true
has_place TooMuchCode = false

-- with line, column, and the line with a mark under the place
unfoldable pub at_place : Widths → List ℕ → Refusal → ℕ → List ℕ
at_place w text r place =
    filled (bytes "refusal #, line #, column #:\n") (number r ∷ (spot text place).line ∷ (spot text place).column ∷ []) ++ marked_line w text place

unfoldable pub shown_where : Widths → List ℕ → Refusal → ℕ → List ℕ
shown_where w text r place = cond (has_place r) (at_place w text r place) (filled (bytes "refusal #:\n") (number r ∷ []))

unfoldable pub shown_refusal : Widths → Numbers → List ℕ → Refusal → ℕ → List ℕ
shown_refusal w n text r place = shown_where w text r place ++ why n text r place ++ line_end

unfoldable pub shown_output : List ℕ → List ℕ
shown_output output = cond (eqb (length output) 0) (bytes "(nothing was printed)") output

unfoldable pub steps_taken : ℕ → ℕ → ℕ → List ℕ
steps_taken ending steps budget = filled (bytes "\nending # after # of # steps: ") (ending ∷ steps ∷ budget ∷ [])

unfoldable pub shown_run : Numbers → Report → List ℕ
shown_run n r = shown_output r.output ++ steps_taken r.ending r.steps n.budget ++ how n r.ending ++ line_end

unfoldable pub shown : Widths → Numbers → List ℕ → Answer Report → Said
shown w n text (given r) = record { out = shown_run n r; err = []; status = status_of r.ending }
shown w n text (refused r place) = record { out = shown_refusal w n text r place; err = []; status = not_good }
