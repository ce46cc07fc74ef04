-- Document 01, "How a run ends": what each instruction that prints nothing leads to, as the code holds it. The paper's order of tests:
-- bad code, then stack room, then the instruction's own ending.
use Rattle.std.specs.Prelude.{List, cond, ℕ, ◌+◌, ◌-◌, ◌*◌, ◌/◌, leb, ltb, ℤ, pos, neg_ℤ, length, get_or, Ok, Err}
use Rattle.std.specs.Prelude as Std
use Rattle.endings.specs.Endings.{number_of, no_reading_left, stack_full, bad_code}
use Rattle.endings.specs.declared.Ending.{Ending}
use Rattle.numbers.specs.Numbers.{Result, value, ends, TwoSidedOperation, in_range, is_false, calculate, negation}
use Rattle.moves.specs.declared.State.{State}
use Rattle.moves.specs.declared.Move.{Move}
use Rattle.moves.specs.declared.Move.TheVariants.{Go, Put, Set}

-- the state s at another index and another depth
abbrev pub moves_to : State → ℕ → ℕ → State
moves_to s index depth = record s { index = index; depth = depth }

-- what an instruction leads to: a move, or an ending
pub data Led : Type 0 where
  leads : Move → Led
  stops : ℕ → Led

-- as the code holds it
abbrev pub as_led : Std.Result Move Ending → Led
as_led (Ok m) = leads m
as_led (Err e) = stops (number_of e)

-- a number on the d lowest cells, or what a calculation gives
abbrev pub pushes : State → ℕ → ℤ → Move
pushes s d v = Put (moves_to s s.index (d + 1)) v

abbrev pub puts : State → ℕ → Result → Led
puts s d (value v) = leads (pushes s d v)
puts s d (ends e) = stops e

-- What follows is said of a state s that is past the instruction.

-- `size` is the table's length, and half of it the count of its pairs
unfoldable pub jump_move : State → ℕ → ℕ → Led
jump_move s size a = cond (leb (size / 2) a) (stops bad_code) (leads (Go (moves_to s (a * 2) s.depth)))

-- `cells` is how many the stack has
unfoldable pub push_int_move : State → ℕ → ℤ → Led
push_int_move s cells v = cond (leb cells s.depth) (stops stack_full) (leads (pushes s s.depth v))

unfoldable pub read_move : State → ℕ → List ℤ → Led
read_move s cells readings =
    cond (leb cells s.depth) (stops stack_full)
    (cond (leb (length readings) s.used) (stops no_reading_left)
    (leads (Put (record s { depth = s.depth + 1; used = s.used + 1 }) (get_or readings s.used (pos 0)))))

unfoldable pub load_stack_move : State → ℕ → List ℤ → ℕ → Led
load_stack_move s cells live k = cond (leb (length live) k) (stops bad_code) (push_int_move s cells (get_or live k (pos 0)))

-- ---- the live cells, the lowest first: the value on top is the last

module _ (s : State) (live : List ℤ) where
  -- the value is removed before its cell is tested
  unfoldable pub store_stack_move : ℕ → Led
  store_stack_move k =
      let d = length live - 1 in
      cond (ltb (length live) 1) (stops bad_code)
      (cond (leb d k) (stops bad_code)
      (leads (Set (moves_to s s.index d) k (get_or live d (pos 0)))))

  -- the place is tested even if the jump is not taken
  unfoldable pub jump_if_false_move : ℕ → ℕ → Led
  jump_if_false_move size a =
      let d = length live - 1 in
      cond (ltb (length live) 1) (stops bad_code)
      (cond (leb (size / 2) a) (stops bad_code)
      (leads (Go (moves_to s (cond (is_false (get_or live d (pos 0))) (a * 2) s.index) d))))

  -- the value on top is the right side
  unfoldable pub two_sided_move : TwoSidedOperation → Led
  two_sided_move t =
      let d = length live in
      cond (ltb d 2) (stops bad_code) (puts s (d - 2) (calculate t (get_or live (d - 2) (pos 0)) (get_or live (d - 1) (pos 0))))

  unfoldable pub negate_move : Led
  negate_move =
      let d = length live - 1 in
      cond (ltb (length live) 1) (stops bad_code) (puts s d (in_range (neg_ℤ (get_or live d (pos 0)))))

  unfoldable pub not_move : Led
  not_move =
      let d = length live - 1 in
      cond (ltb (length live) 1) (stops bad_code) (leads (pushes s d (negation (get_or live d (pos 0)))))
