-- Document 01, "How a run ends": one instruction, in the paper's order of tests, and the run.
use Rattle.std.specs.Prelude.{List, [], ◌∷◌, ◌++◌, Bool, true, cond, ℕ, zero, suc, ◌+◌, ◌-◌, ◌*◌, ◌/◌, ◌%◌, leb, ltb, eqb, ℤ, pos, neg_ℤ, length, get_or, drop, replicate}
use Rattle.std.proofs.Math.Option.{Option, none, some}
use Rattle.std.proofs.Math.ListN.{get_elem?}
use Rattle.base.specs.Bytes.{no_quote}
use Rattle.base.specs.Bytes as B
use Rattle.endings.specs.Endings.{budget_spent, no_reading_left, stack_full, print_does_not_fit, bad_code}
use Rattle.numbers.specs.Numbers.{Result, value, ends, in_range, is_false, calculate, negation, decimal}
use Rattle.instruction.specs.Instructions.{Instruction, halt, push_int, load_stack, store_stack, jump, jump_if_false, two_sided, negate, not, read, print_int, print_str, print_str_ln, decode, takes, gives}

-- what a run is lent: the text, the code table, the readings, and the sizes of its stack and of its output room
pub record Lent : Type 0 where
  pub text : List ℕ
  pub table : List ℤ
  pub readings : List ℤ
  pub cells : ℕ
  pub room : ℕ

-- what a run changes outside its stack: the readings used, and the output so far
pub record Outside : Type 0 where
  pub used : ℕ
  pub output : List ℕ

abbrev pub untouched : Outside
untouched = record { used = 0; output = [] }

-- the machine between two instructions: the place of the next, the stack with its top first, and what was read and printed
pub record Machine : Type 0 where
  pub place : ℕ
  pub stack : List ℤ
  pub outside : Outside

abbrev pub fresh : Machine
fresh = record { place = 0; stack = []; outside = untouched }

-- the string that begins at a place of the text, and whether a quote ends it there
unfoldable pub string : List ℕ → ℕ → List ℕ
string text s = B.run no_quote (drop s text)

unfoldable pub closed : List ℕ → ℕ → Bool
closed text s = ltb (length (string text s)) (length (drop s text))

-- the next reading, if one is left
unfoldable pub reading : List ℤ → Outside → Option ℤ
reading readings o = get_elem? readings o.used

unfoldable pub one_used : Outside → Outside
one_used o = record { used = suc o.used; output = o.output }

-- a print that fits the room is added to the output; one that doesn't prints nothing
unfoldable pub printed : ℕ → List ℕ → Outside → Option Outside
printed room bs o = cond (leb (length o.output + length bs) room) (some (record { used = o.used; output = o.output ++ bs })) none

-- ---- the stack, its top first; cell k is counted from the bottom, from 0

unfoldable pub peek : ℕ → List ℤ → ℤ
peek k [] = pos 0
peek k (v ∷ s) = cond (eqb k (length s)) v (peek k s)

unfoldable pub poke : ℕ → ℤ → List ℤ → List ℤ
poke k x [] = []
poke k x (v ∷ s) = cond (eqb k (length s)) (x ∷ s) (v ∷ poke k x s)

-- ---- one instruction

-- go on from a machine; or stop with an ending
pub data Step : Type 0 where
  go : Machine → Step
  stop : ℕ → Step

-- What follows is said of a machine that is past the instruction and has given up the values that it takes.

unfoldable pub pushed : ℤ → Machine → Step
pushed v m = go (record { place = m.place; stack = v ∷ m.stack; outside = m.outside })

unfoldable pub left_with : List ℤ → Machine → Step
left_with stack m = go (record { place = m.place; stack = stack; outside = m.outside })

unfoldable pub jumped : ℕ → Machine → Step
jumped a m = go (record { place = a; stack = m.stack; outside = m.outside })

unfoldable pub resulting : Result → Machine → Step
resulting (value v) m = pushed v m
resulting (ends e) m = stop e

unfoldable pub taken : Option ℤ → Machine → Step
taken none m = stop no_reading_left
taken (some v) m = go (record { place = m.place; stack = v ∷ m.stack; outside = one_used m.outside })

unfoldable pub written : Option Outside → Machine → Step
written none m = stop print_does_not_fit
written (some o) m = go (record { place = m.place; stack = m.stack; outside = o })

module _ (lent : Lent) where
  -- the pairs of the table
  unfoldable pub pairs : ℕ
  pairs = length lent.table / 2

  -- what it names is there: a jump's place, even if the jump is not taken; a cell, below the depth that is left; a string, with its closing quote
  unfoldable pub names_well : Instruction → ℕ → Bool
  names_well (halt h) d = true
  names_well (push_int v) d = true
  names_well (load_stack k) d = ltb k d
  names_well (store_stack k) d = ltb k d
  names_well (jump a) d = ltb a pairs
  names_well (jump_if_false a) d = ltb a pairs
  names_well (two_sided t) d = true
  names_well negate d = true
  names_well not d = true
  names_well read d = true
  names_well print_int d = true
  names_well (print_str q) d = closed lent.text q
  names_well (print_str_ln q) d = closed lent.text q

  unfoldable pub prints : List ℕ → Machine → Step
  prints bs m = written (printed lent.room bs m.outside) m

  -- what it does with the values that it takes: y was on top, and x below it
  unfoldable pub does : Instruction → ℤ → ℤ → Machine → Step
  does (halt h) x y m = stop h
  does (push_int v) x y m = pushed v m
  does (load_stack k) x y m = pushed (peek k m.stack) m
  does (store_stack k) x y m = left_with (poke k y m.stack) m
  does (jump a) x y m = jumped a m
  does (jump_if_false a) x y m = cond (is_false y) (jumped a m) (go m)
  does (two_sided t) x y m = resulting (calculate t x y) m
  does negate x y m = resulting (in_range (neg_ℤ y)) m
  does not x y m = pushed (negation y) m
  does read x y m = taken (reading lent.readings m.outside) m
  does print_int x y m = prints (decimal y) m
  does (print_str q) x y m = prints (string lent.text q) m
  does (print_str_ln q) x y m = prints (string lent.text q ++ 10 ∷ []) m

  -- An instruction, at a machine that is past it. Bad code is tested first: too few values, and what it names.
  -- Then stack room: the free cells are as many as it adds. Then it does its work, which may have an ending of its own.
  unfoldable pub tried : Instruction → Machine → Step
  tried i m =
      let d = length m.stack in
      cond (ltb d (takes i)) (stop bad_code)
      (cond (names_well i (d - takes i))
      (cond (ltb (lent.cells - d) (gives i - takes i)) (stop stack_full)
      (does i (get_or m.stack 1 (pos 0)) (get_or m.stack 0 (pos 0)) (record { place = m.place; stack = drop (takes i) m.stack; outside = m.outside })))
      (stop bad_code))

  unfoldable pub decoded : Option Instruction → Machine → Step
  decoded none m = stop bad_code
  decoded (some i) m = tried i m

  -- the instruction at a place; past the table there is none
  unfoldable pub fetched : ℕ → Option Instruction
  fetched at = cond (ltb at pairs) (decode (get_or lent.table (at * 2) (pos 0)) (get_or lent.table (at * 2 + 1) (pos 0))) none

  unfoldable pub step : Machine → Step
  step m = decoded (fetched m.place) (record { place = suc m.place; stack = m.stack; outside = m.outside })

-- ---- the run

-- where a run stopped: the ending, the units of the budget left, and the machine, which a failing instruction leaves as it was
pub record Stopped : Type 0 where
  pub ending : ℕ
  pub left : ℕ
  pub machine : Machine

-- from a machine on, with the units of the budget left
unfoldable pub run : Lent → ℕ → Machine → Stopped
run lent zero m = record { ending = budget_spent; left = 0; machine = m }
run lent (suc n) m = elim (step lent m) [
  | go m' ↦ run lent n m'
  | stop e ↦ record { ending = e; left = n; machine = m }
]

-- how a run, or the meaning of a sentence, ends: the ending, the units of the budget left, and what was read and printed
pub record End : Type 0 where
  pub ending : ℕ
  pub left : ℕ
  pub outside : Outside

abbrev pub end_of : Stopped → End
end_of r = record { ending = r.ending; left = r.left; outside = r.machine.outside }

-- what is reported; the output's length is that of the bytes
pub record Report : Type 0 where
  pub ending : ℕ
  pub steps : ℕ
  pub used : ℕ
  pub output : List ℕ

unfoldable pub report : ℕ → End → Report
report budget e = record { ending = e.ending; steps = budget - e.left; used = e.outside.used; output = e.outside.output }

-- a table of odd length is bad code, with all counts 0
unfoldable pub whole_run : Lent → ℕ → Report
whole_run lent budget = cond (eqb (length lent.table % 2) 0) (report budget (end_of (run lent budget fresh))) (record { ending = bad_code; steps = 0; used = 0; output = [] })

-- what a run leaves: the stack all zeros, and the room as it was past the output
unfoldable pub stack_after : ℕ → List ℤ
stack_after n = replicate n (pos 0)

unfoldable pub room_after : List ℕ → List ℕ → List ℕ
room_after output before = output ++ drop (length output) before
