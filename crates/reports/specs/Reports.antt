-- What is reported of what came of a text, from the code's own answers: in numbers, and what may be sent on to the feed.
use Rattle.std.specs.Prelude.{List, [], ◌∷◌, cond, ◌&&◌, ℕ, eqb, leb, length, take, Result, Ok, Err}
use Rattle.base.specs.Answers.{number}
use Rattle.endings.specs.Endings.{normal}
use Rattle.machine.specs.declared.Report.{Report}
use Rattle.base.specs.declared.Refused.{Refused}
use Rattle.tables.specs.declared.Counts.{Counts}

-- only ending 0 may be sent on to the feed
unfoldable pub sendable : ℕ → ℕ → List ℕ → List ℕ
sendable ending length' out = cond (eqb ending normal && leb length' (length out)) (take length' out) []

-- number, place, instructions, cells, need: accepted is number 0, with place 0; a refusal reports no counts
unfoldable pub answer_numbers : Result Counts Refused → List ℕ
answer_numbers (Ok k) = 0 ∷ (0 ∷ (k.instructions ∷ (k.cells ∷ (k.need ∷ []))))
answer_numbers (Err r) = number r.why ∷ (r.place ∷ (0 ∷ (0 ∷ (0 ∷ []))))

-- ending, steps, readings used, output length
abbrev pub run_numbers : Report → List ℕ
run_numbers r = r.ending ∷ (r.steps ∷ (r.used ∷ (r.length ∷ [])))

-- the refusal's number and place; ending, steps, readings used and output length; how many bytes may be sent
unfoldable pub text_numbers : Result Report Refused → List ℕ → List ℕ
text_numbers (Ok r) out = 0 ∷ (0 ∷ (r.ending ∷ (r.steps ∷ (r.used ∷ (r.length ∷ (length (sendable r.ending r.length out) ∷ []))))))
text_numbers (Err r) out = number r.why ∷ (r.place ∷ (0 ∷ (0 ∷ (0 ∷ (0 ∷ (0 ∷ []))))))
