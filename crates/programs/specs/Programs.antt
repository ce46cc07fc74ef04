-- Document 01, "What the kit holds", and document 02, T-05: what each program says, from the bytes that it reads.
use Rattle.std.specs.Prelude.{cond, List, [], ◌++◌, ℕ, ◌*◌, ℤ, length}
use Rattle.limits.specs.Limits.{Limits}
use Rattle.base.specs.Answers.{Answer, given, refused, pass}
use Rattle.instruction.specs.Instructions.{numbers}
use Rattle.rules.specs.Machine.{Report}
use Rattle.compiler.specs.Compiled.{Accepted, code_of_text, need_of, Compiled}
use Rattle.kit.specs.Kit.{worked_out}
use Rattle.tidy.specs.Tidy.{tidy_of, no_room, longer}
use Rattle.lines.specs.Lines.{line_end, refusal_line}
use Rattle.tells.specs.Tells.{Said, good, not_good, listing, refusal}

-- ---- what comes of a text

-- the answer to a text, with a code table for the most instructions
abbrev pub Tabled : Limits → List ℕ → Answer Accepted → Type 0
Tabled limits text = Compiled limits text (limits.instructions * 2)

-- an accepted text, run on readings with a budget and an output room: what is reported, by its sentences alone
unfoldable pub came : ℕ → ℕ → List ℤ → Answer Accepted → Answer Report
came budget room readings a = pass a λ x. given (worked_out readings room budget x)

-- ---- the first program: the accepted line and a line for each instruction, or the refusal's line; its status is good exactly when the text is accepted

unfoldable pub listed : Answer Accepted → Said
listed (given a) = listing (length (code_of_text a)) a.cells (need_of a) (numbers (code_of_text a))
listed (refused why p) = refusal why p

-- ---- the program for a tidy copy, whose room is as long as a text may be: the copy and a line end, or the refusal's line; its status is good exactly when there is a copy

abbrev pub copy : List ℕ → Said
copy tidy = record { out = tidy ++ line_end; err = []; status = good }

abbrev pub no_copy : Said
no_copy = record { out = refusal_line no_room 0; err = []; status = not_good }

unfoldable pub copied : Limits → List ℕ → Answer Accepted → Said
copied limits text (given a) = cond (longer limits text limits.text) no_copy (copy (tidy_of limits.sizes text))
copied limits text (refused why p) = refusal why p
