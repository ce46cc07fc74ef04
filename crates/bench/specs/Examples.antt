-- Document 01, "Bench examples": the starred ones, as they stand since document 02; T-02's own; the slips in class; and document 001's `fac0` (its listings 6.2 and 6.3 and its table 6.3).
use Rattle.std.specs.Prelude.{◌≡◌, List, [], ◌∷◌, ℕ, ℤ, pos}
use Prim.Native.String.{String}
use Rattle.limits.specs.Limits.{Limits}
use Rattle.base.specs.Answers.{Answer, given, refused, number}
use Rattle.base.specs.Bytes.{bytes}
use Rattle.instruction.specs.Instructions.{numbers}
use Rattle.rules.specs.Machine.{Report, whole_run}
use Rattle.compiler.specs.Compiled.{Accepted, code_of_text, need_of, Judged, WithAnswer}
use Rattle.kit.specs.Kit.{worked_out}

-- what a text comes to: a refusal and its place; or the code's numbers, the cells, the stack need, and what its run reports
pub data Yield : Type 0 where
  refusal : ℕ → ℕ → Yield
  runs : List ℤ → ℕ → ℕ → Report → Yield

pub record Example : Type 0 where
  pub text : List ℕ
  pub readings : List ℤ
  pub budget : ℕ
  pub comes_to : Yield

-- what a run of the accepted text reports, by one way or another
unfoldable pub yield : (Accepted → Report) → Answer Accepted → Yield
yield way (given a) = runs (numbers (code_of_text a)) a.cells (need_of a) (way a)
yield way (refused why p) = refusal (number why) p

-- by the machine: its own code, on a stack of the reported need, with an output room of 4,096
unfoldable pub by_machine : Example → Accepted → Report
by_machine e a = whole_run (record { text = e.text; table = numbers (code_of_text a); readings = e.readings; cells = need_of a; room = 4096 }) e.budget

-- by its sentences
unfoldable pub by_sentences : Example → Accepted → Report
by_sentences e a = worked_out e.readings 4096 e.budget a

-- the definitions yield the row by both, of the answer to its text
abbrev pub Yields : Limits → Example → Type 0
Yields limits e = WithAnswer (Judged limits e.text) (λ a. (yield (by_machine e) a ≡ e.comes_to) × (yield (by_sentences e) a ≡ e.comes_to))

unfoldable pub EachYields : Limits → List Example → Type 0
EachYields limits [] = Unit {0}
EachYields limits (e ∷ es) = Yields limits e × EachYields limits es

-- ---- the table

-- ending, steps, readings used, output
abbrev pub ends : ℕ → ℕ → ℕ → String → Report
ends e n used out = record { ending = e; steps = n; used = used; output = bytes out }

-- a text that is refused with a number, at a place
abbrev pub refuses : String → ℕ → ℕ → Example
refuses text n p = record { text = bytes text; readings = []; budget = 1000000; comes_to = refusal n p }

-- operations and operands as numbers of a code table
abbrev pub as_numbers : List (ℕ × ℕ) → List ℤ
as_numbers [] = []
as_numbers (i ∷ is) = pos i.0 ∷ pos i.1 ∷ as_numbers is

abbrev pub with_reading : ℕ → List ℤ
with_reading r = pos r ∷ []

-- PushInt 0, Read, ... of `DO { INT t READ t IF t = 1 THEN ERROR PRINTI 7 }`
abbrev pub switch : String
switch = "DO { INT t READ t IF t = 1 THEN ERROR PRINTI 7 }"

abbrev pub switch_code : List ℤ
switch_code = as_numbers ((2, 0) ∷ (2, 0) ∷ (4, 0) ∷ (16, 0) ∷ (4, 0) ∷ (3, 0) ∷ (2, 1) ∷ (11, 0) ∷ (6, 10) ∷ (1, 1) ∷ (2, 7) ∷ (17, 0) ∷ (1, 0) ∷ [])

abbrev pub countdown : String
countdown = "DO { INT n READ n WHILE n > 0 DO n := n - 1 PRINTI n }"

-- JumpIfFalse 14 at place 8
abbrev pub countdown_code : List ℤ
countdown_code =
    as_numbers
    ((2, 0) ∷ (2, 0) ∷ (4, 0) ∷ (16, 0) ∷ (4, 0) ∷ (3, 0) ∷ (2, 0) ∷ (13, 0) ∷ (6, 14) ∷ (3, 0) ∷ (2, 1) ∷ (8, 0) ∷ (4, 0) ∷ (5, 5) ∷ (3, 0) ∷ (17, 0)
    ∷ (1, 0)
    ∷ [])

abbrev pub starred : List Example
starred =
    refuses "" 4 0
    ∷ refuses "DO { }" 4 5
    ∷ refuses "DO PRINTI n" 6 10
    ∷ refuses "DO PRINTI a1" 6 10
    ∷ record { text = bytes "DO PRINTI 1/0"; readings = []; budget = 1000000; comes_to = runs (as_numbers ((2, 1) ∷ (2, 0) ∷ (10, 0) ∷ (17, 0) ∷ (1, 0) ∷ [])) 0 2 (ends 5 3 0 "") }
    ∷ record { text = bytes "DO PRINTI (0-7)/2"; readings = []; budget = 1000000; comes_to = runs (as_numbers ((2, 0) ∷ (2, 7) ∷ (8, 0) ∷ (2, 2) ∷ (10, 0) ∷ (17, 0) ∷ (1, 0) ∷ [])) 0 2 (ends 0 7 0 "-3") }
    ∷ refuses "DO { IF 1 > 2 THEN INT n PRINTI n }" 6 32
    ∷ record { text = bytes switch; readings = with_reading 1; budget = 1000000; comes_to = runs switch_code 1 3 (ends 1 10 1 "") }
    ∷ record { text = bytes switch; readings = with_reading 0; budget = 1000000; comes_to = runs switch_code 1 3 (ends 0 12 1 "7") }
    ∷ record { text = bytes countdown; readings = with_reading 3; budget = 1000000; comes_to = runs countdown_code 1 3 (ends 0 39 1 "0") }
    ∷ record { text = bytes countdown; readings = with_reading 0; budget = 1000000; comes_to = runs countdown_code 1 3 (ends 0 12 1 "0") }
    ∷ record { text = bytes countdown; readings = with_reading 3; budget = 38; comes_to = runs countdown_code 1 3 (ends 2 38 1 "0") }
    ∷ record { text = bytes countdown; readings = with_reading 3; budget = 37; comes_to = runs countdown_code 1 3 (ends 2 37 1 "") }
    ∷ []

-- document 02, T-02: bodies are scopes; what hides an outer name ends with the body
abbrev pub bodies : List Example
bodies =
    refuses "DO { WHILE 1 > 2 DO INT n PRINTI n }" 6 33
    ∷ record { text = bytes "DO { INT n IF 1 < 2 THEN INT n PRINTI n }"; readings = []; budget = 1000000; comes_to = runs (as_numbers ((2, 0) ∷ (2, 0) ∷ (2, 0) ∷ (4, 0) ∷ (2, 1) ∷ (2, 2) ∷ (12, 0) ∷ (6, 10) ∷ (2, 0) ∷ (4, 1) ∷ (3, 0) ∷ (17, 0) ∷ (1, 0) ∷ [])) 2 4 (ends 0 13 0 "0") }
    ∷ []

-- document 01, "Slips we've met in class": grouped to the right it would print 7; with the right side first it would end with 4; a value kept from the last round would print 12
abbrev pub fresh_each_round : String
fresh_each_round = "DO { INT i WHILE i < 2 DO { INT a a := a + 1 PRINTI a i := i + 1 } }"

abbrev pub fresh_each_round_code : List ℤ
fresh_each_round_code =
    as_numbers
    ((2, 0) ∷ (2, 0) ∷ (2, 0) ∷ (4, 0) ∷ (3, 0) ∷ (2, 2) ∷ (12, 0) ∷ (6, 21) ∷ (2, 0) ∷ (4, 1) ∷ (3, 1) ∷ (2, 1) ∷ (7, 0) ∷ (4, 1) ∷ (3, 1) ∷ (17, 0)
    ∷ (3, 0) ∷ (2, 1) ∷ (7, 0) ∷ (4, 0) ∷ (5, 4)
    ∷ (1, 0)
    ∷ [])

abbrev pub slips : List Example
slips =
    record { text = bytes "DO PRINTI 8-3-2"; readings = []; budget = 1000000; comes_to = runs (as_numbers ((2, 8) ∷ (2, 3) ∷ (8, 0) ∷ (2, 2) ∷ (8, 0) ∷ (17, 0) ∷ (1, 0) ∷ [])) 0 2 (ends 0 7 0 "3") }
    ∷ record { text = bytes "DO PRINTI 1/0 + 2147483647*2"; readings = []; budget = 1000000; comes_to = runs (as_numbers ((2, 1) ∷ (2, 0) ∷ (10, 0) ∷ (2, 2147483647) ∷ (2, 2) ∷ (9, 0) ∷ (7, 0) ∷ (17, 0) ∷ (1, 0) ∷ [])) 0 3 (ends 5 3 0 "") }
    ∷ record { text = bytes fresh_each_round; readings = []; budget = 1000000; comes_to = runs fresh_each_round_code 2 4 (ends 0 43 0 "11") }
    ∷ []

-- document 001, listing 6.2
abbrev pub fac0 : String
fac0 = "DO {\n  PRINTS \"Please enter a natural number n: \"\n  INT n\n  READ n\n  INT faculty\n  faculty := 1\n  IF n < 0 THEN {\n    PRINTI n\n    PRINTLNS \" is not a natural number!\"\n    ERROR\n  }\n  WHILE n > 0 DO {\n    faculty := faculty * n\n    n := n - 1\n  }\n  PRINTS \"n! = \"\n  PRINTI faculty\n}\n"

-- document 001, listing 6.3, its 36 instructions in our numbers
abbrev pub fac0_code : List ℤ
fac0_code =
    as_numbers
    ((2, 0) ∷ (2, 0) ∷ (18, 15) ∷ (2, 0) ∷ (4, 0) ∷ (16, 0) ∷ (4, 0) ∷ (2, 0) ∷ (4, 1) ∷ (2, 1) ∷ (4, 1)
    ∷ (3, 0) ∷ (2, 0) ∷ (12, 0) ∷ (6, 19) ∷ (3, 0) ∷ (17, 0) ∷ (19, 141) ∷ (1, 1)
    ∷ (3, 0) ∷ (2, 0) ∷ (13, 0) ∷ (6, 32) ∷ (3, 1) ∷ (3, 0) ∷ (9, 0) ∷ (4, 1) ∷ (3, 0) ∷ (2, 1) ∷ (8, 0) ∷ (4, 0) ∷ (5, 19)
    ∷ (18, 257) ∷ (3, 1) ∷ (17, 0) ∷ (1, 0)
    ∷ [])

-- and table 6.3, its 62 steps for the reading 3
abbrev pub from_document_001 : List Example
from_document_001 = record { text = bytes fac0; readings = with_reading 3; budget = 1000000; comes_to = runs fac0_code 2 4 (ends 0 62 1 "Please enter a natural number n: n! = 6") } ∷ []
