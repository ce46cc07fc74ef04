-- What C is told: the numbers of a report, and what is left in the table, the stack and the room.
use Rattle.std.specs.Prelude.{◌≡◌, cond, List, [], ◌∷◌, ℕ, eqb, ℤ, length}
use Rattle.limits.specs.Limits.{Limits}
use Rattle.base.specs.Answers.{Answer, given, refused, number}
use Rattle.endings.specs.Endings.{normal}
use Rattle.rules.specs.Machine.{Report, room_after, stack_after}
use Rattle.compiler.specs.Compiled.{Accepted, code_of_text, need_of, table_after, Judged, WithAnswer}
use Rattle.tidy.specs.Tidy.{tidied, copy_and_zeros, tidy_numbers}
use Rattle.kit.specs.Kit.{own_run, Faithful}

-- ---- of compiling

-- number, place, instructions, cells, need: accepted is number 0, with place 0; a refusal reports no counts
unfoldable pub five : Answer Accepted → List ℕ
five (given a) = 0 ∷ (0 ∷ (length (code_of_text a) ∷ (a.cells ∷ (need_of a ∷ []))))
five (refused why p) = number why ∷ (p ∷ (0 ∷ (0 ∷ (0 ∷ []))))

-- the five numbers, and the table of n numbers, are those of a
pub record CompiledInto (n : ℕ) (numbers : List ℕ) (table : List ℤ) (a : Answer Accepted) : Type 0 where
  pub reported : numbers ≡ five a
  pub code : table ≡ table_after n a

-- ---- of a run

-- ending, steps, readings used, output length
abbrev pub four : Report → List ℕ
four w = w.ending ∷ (w.steps ∷ (w.used ∷ (length w.output ∷ [])))

pub record RanInto (w : Report) (cells : List ℤ) (before : List ℕ) (numbers : List ℕ) (cells' : List ℤ) (after : List ℕ) : Type 0 where
  pub reported : numbers ≡ four w
  pub stack : cells' ≡ stack_after (length cells)
  pub room : after ≡ room_after w.output before

-- ---- of a text compiled and run

-- how many bytes of the output may be sent on to the feed
unfoldable pub may_send : Report → ℕ
may_send w = cond (eqb w.ending normal) (length w.output) 0

module _ (text : List ℕ) (readings : List ℤ) (budget : ℕ) (stack : List ℤ) (out : List ℕ) where
  abbrev own : Accepted → Report
  own = own_run text readings budget stack out

  -- the refusal's number and place; ending, steps, readings used and output length; how many bytes may be sent
  unfoldable pub seven : Answer Accepted → List ℕ
  seven (given a) = 0 ∷ (0 ∷ ((own a).ending ∷ ((own a).steps ∷ ((own a).used ∷ (length (own a).output ∷ (may_send (own a) ∷ []))))))
  seven (refused why p) = number why ∷ (p ∷ (0 ∷ (0 ∷ (0 ∷ (0 ∷ (0 ∷ []))))))

  -- a refused text leaves the stack and the room as they were
  unfoldable pub stack_left : Answer Accepted → List ℤ
  stack_left (given a) = stack_after (length stack)
  stack_left (refused why p) = stack

  unfoldable pub room_left : Answer Accepted → List ℕ
  room_left (given a) = room_after (own a).output out
  room_left (refused why p) = out

  unfoldable pub Means : Answer Accepted → Type 0
  Means (given a) = Faithful text readings budget stack out a
  Means (refused why p) = Unit {0}

  pub record RanTextInto (n : ℕ) (numbers : List ℕ) (table' stack' : List ℤ) (out' : List ℕ) (a : Answer Accepted) : Type 0 where
    pub reported : numbers ≡ seven a
    pub code : table' ≡ table_after n a
    pub cells : stack' ≡ stack_left a
    pub room : out' ≡ room_left a
    pub means : Means a

-- ---- of a tidy copy

module _ (limits : Limits) (text : List ℕ) (room : ℕ) where
  -- number, place and length, and what the room then holds, are those of a
  pub record TidiedInto (numbers after : List ℕ) (a : Answer Accepted) : Type 0 where
    pub reported : numbers ≡ tidy_numbers (tidied limits text room a)
    pub holds : after ≡ copy_and_zeros limits text room a

  -- of the answer to the text
  abbrev pub TidyInto : List ℕ → List ℕ → Type 0
  TidyInto numbers after = WithAnswer (Judged limits text) (TidiedInto numbers after)
