-- Document 01, "What the kit holds": what each program says of an answer, and of what came of a text.
use Rattle.std.specs.Prelude.{List, [], ◌++◌, cond, ℕ, ◌*◌, eqb, ℤ, length, take, Result, Ok, Err}
use Rattle.base.specs.declared.Refusal.{Refusal}
use Rattle.base.specs.declared.Refused.{Refused}
use Rattle.base.specs.Answers as A
use Rattle.base.specs.Answers.{given, refused}
use Rattle.endings.specs.Endings.{normal}
use Rattle.rules.specs.Machine.{Report}
use Rattle.tables.specs.declared.Counts.{Counts}
use Rattle.reports.specs.Reports.{sendable}
use Rattle.lines.specs.Lines.{line_end, refused_line, ending_line, accepted_line}
use Rattle.pairs.specs.Pairs.{table_lines}

-- on standard output, on standard error, and by its status
pub record Said : Type 0 where
  pub out : List ℕ
  pub err : List ℕ
  pub status : ℕ

abbrev pub good : ℕ
good = 0

abbrev pub not_good : ℕ
not_good = 1

-- the refusal's line
abbrev pub refusal : Refusal → ℕ → Said
refusal why p = record { out = refused_line why p; err = []; status = not_good }

-- ---- the first program: the accepted line and a line for each instruction, or the refusal's line; its status is good exactly when the text is accepted

abbrev pub listing : ℕ → ℕ → ℕ → List ℤ → Said
listing instructions cells need code = record { out = accepted_line instructions cells need ++ table_lines code; err = []; status = good }

-- of an answer as the code gives it, with its table
unfoldable pub said_of_answer : Result Counts Refused → List ℤ → Said
said_of_answer (Ok k) table = listing k.instructions k.cells k.need (take (k.instructions * 2) table)
said_of_answer (Err r) table = refusal r.why r.place

-- ---- of a run: good exactly with ending 0

unfoldable pub status_of : ℕ → ℕ
status_of ending = cond (eqb ending normal) good not_good

-- ---- the second program: the output, a line end, and how the run ended, or the refusal's line; its status is good exactly with ending 0

unfoldable pub said_of_run : A.Answer Report → Said
said_of_run (given r) = record { out = r.output ++ line_end ++ ending_line r.ending r.steps; err = []; status = status_of r.ending }
said_of_run (refused why p) = refusal why p

-- ---- for the feed: only what may be sent; on standard error, how any other run ended; its status is good exactly when the output may be sent

unfoldable pub sent : A.Answer Report → Said
sent (given r) = record { out = sendable r.ending (length r.output) r.output; err = cond (eqb r.ending normal) [] (ending_line r.ending r.steps); status = status_of r.ending }
sent (refused why p) = record { out = []; err = refused_line why p; status = not_good }
