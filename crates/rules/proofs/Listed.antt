-- Each run ends with one of the nine endings. Assumes nothing.
use mathlib.Core.Path.{◌≡◌, refl}
use mathlib.Core.List.{[], ◌∷◌}
use mathlib.Core.Bool.{Bool, true, false, cond}
use mathlib.Core.Option.{Option, none, some}
use Prim.Native.Nat.{ℕ, zero, suc, ◌+◌, ◌-◌, ◌*◌, ◌%◌}
use native.Mathlib.Omega.{arith}
use lib.Dec.{ltb, eqb}
use lib.IntN.{ℤ, pos}
use lib.ListN.{length, get_or}
use borrow.Author.Tests.{le-ltb}
use Rattle.std.specs.Int.Signed.{mag, quot_z}
use Rattle.endings.specs.Endings.{number_of, outside_range, division_by_0, stack_full, bad_code}
use Rattle.endings.specs.declared.Ending.{Ending}
use Rattle.endings.specs.declared.Ending.TheVariants.{Normal, StoppedByError, BudgetSpent, NoReadingLeft, OutsideRange, DivisionBy0, StackFull, PrintDoesNotFit, BadCode}
use Rattle.numbers.specs.Numbers.{value, ends, in_range, TwoSidedOperation, plus, minus, times, divide, equals, smaller, greater, is_false, calculate}
use Rattle.instruction.specs.Instructions.{Instruction, halt, push_int, load_stack, store_stack, jump, jump_if_false, two_sided, negate, not, read, print_int, print_str, print_str_ln, encode, halting, opcode, operation, decode, takes, gives}
use Rattle.instruction.proofs.Pairs.{encoded}
use Rattle.rules.specs.Machine.{Lent, Outside, Machine, fresh, Step, go, stop, pushed, left_with, jumped, resulting, taken, written, pairs, names_well, prints, does, tried, decoded, fetched, step, run, end_of, report, whole_run}
use Rattle.rules.proofs.Runs.{run_goes, run_stops}

-- a number that is an ending's
abbrev pub Listed : ℕ → Type 0
Listed n = (e : Ending) × (number_of e ≡ n)

-- where it stops, it does so with an ending
unfoldable StopsListed : Step → Type 0
StopsListed (go m) = Unit {0}
StopsListed (stop e) = Listed e

-- where it is a Halt, its operand is an ending
abbrev HaltsListed : Instruction → Type 0
HaltsListed i = (h : ℕ) → i ≡ halt h → Listed h

-- ---- what is decoded

first_operation : (y : ℤ) → decode (pos 1) y ≡ halting y
unfolding decode operation opcode encode
first_operation y = refl

-- a Halt's operand is 0 or 1
operand : (h : ℕ) → halting (pos h) ≡ some (halt h) → Listed h
unfolding halting
operand zero e = (Normal, refl)
operand (suc zero) e = (StoppedByError, refl)
operand (suc (suc n)) e = let z = rw (le-ltb (suc (suc n)) 2 (omega arith)) at e in absurd (cc)

-- an instruction that two numbers are decoded to has them for its pair, so that a Halt's are 1 and its operand
decoded_halts : (x y : ℤ) (i : Instruction) → decode x y ≡ some i → HaltsListed i
unfolding encode
decoded_halts x y i e h q =
    let d : decode x y ≡ some (halt h) = rw q at e in
    let w : (pos 1 ∷ pos h ∷ []) ≡ (x ∷ y ∷ []) = encoded x y (halt h) d [] in
    let f : x ≡ pos 1 = cc in
    let g : y ≡ pos h = cc in
    operand h (rw (f, g, first_operation (pos h)) at d)

-- ---- what an instruction does

-- a result that is out of range is ending 4
in_range_listed : (z : ℤ) (m : Machine) → StopsListed (resulting (in_range z) m)
unfolding StopsListed resulting in_range pushed
in_range_listed z m = by (ltb (mag z) 2147483648)
  where
    by : (b : Bool) → StopsListed (resulting (cond b (value z) (ends outside_range)) m)
    by true = tt
    by false = (OutsideRange, refl)

-- division by 0 is ending 5
calculated_listed : (t : TwoSidedOperation) (x y : ℤ) (m : Machine) → StopsListed (resulting (calculate t x y) m)
unfolding StopsListed resulting calculate pushed
calculated_listed plus x y m = in_range_listed _ m
calculated_listed minus x y m = in_range_listed _ m
calculated_listed times x y m = in_range_listed _ m
calculated_listed divide x y m = by (is_false y)
  where
    by : (b : Bool) → StopsListed (resulting (cond b (ends division_by_0) (in_range (quot_z x y))) m)
    by true = (DivisionBy0, refl)
    by false = in_range_listed _ m
calculated_listed equals x y m = tt
calculated_listed smaller x y m = tt
calculated_listed greater x y m = tt

-- a READ with no reading left is ending 3
taken_listed : (r : Option ℤ) (m : Machine) → StopsListed (taken r m)
unfolding StopsListed taken
taken_listed none m = (NoReadingLeft, refl)
taken_listed (some v) m = tt

-- a print that doesn't fit is ending 7
written_listed : (r : Option Outside) (m : Machine) → StopsListed (written r m)
unfolding StopsListed written
written_listed none m = (PrintDoesNotFit, refl)
written_listed (some o) m = tt

module _ (lent : Lent) where
  -- past its tests; a Halt stops with its operand
  does_listed : (i : Instruction) → HaltsListed i → (x y : ℤ) (m : Machine) → StopsListed (does lent i x y m)
  unfolding StopsListed does pushed left_with jumped prints
  does_listed (halt h) l x y m = l h refl
  does_listed (push_int v) l x y m = tt
  does_listed (load_stack k) l x y m = tt
  does_listed (store_stack k) l x y m = tt
  does_listed (jump a) l x y m = tt
  does_listed (jump_if_false a) l x y m = by (is_false y)
    where
      by : (b : Bool) → StopsListed (cond b (jumped a m) (go m))
      by true = tt
      by false = tt
  does_listed (two_sided t) l x y m = calculated_listed t x y m
  does_listed negate l x y m = in_range_listed _ m
  does_listed not l x y m = tt
  does_listed read l x y m = taken_listed _ m
  does_listed print_int l x y m = written_listed _ m
  does_listed (print_str q) l x y m = written_listed _ m
  does_listed (print_str_ln q) l x y m = written_listed _ m

  -- the tests before it are endings 8 and 6
  tried_listed : (i : Instruction) → HaltsListed i → (m : Machine) → StopsListed (tried lent i m)
  unfolding StopsListed tried
  tried_listed i l m = by (ltb (length m.stack) (takes i)) (names_well lent i (length m.stack - takes i)) (ltb (lent.cells - length m.stack) (gives i - takes i)) _ (does_listed i l _ _ _)
    where
      by : (a b c : Bool) (s : Step) → StopsListed s → StopsListed (cond a (stop bad_code) (cond b (cond c (stop stack_full) s) (stop bad_code)))
      by true b c s h = (BadCode, refl)
      by false false c s h = (BadCode, refl)
      by false true true s h = (StackFull, refl)
      by false true false s h = h

  -- where nothing is decoded it is ending 8
  decoded_listed : (o : Option Instruction) → ((i : Instruction) → o ≡ some i → HaltsListed i) → (m : Machine) → StopsListed (decoded lent o m)
  unfolding StopsListed decoded
  decoded_listed none l m = (BadCode, refl)
  decoded_listed (some i) l m = tried_listed i (l i refl) m

  -- what stands in the table
  fetched_halts : (at : ℕ) (i : Instruction) → fetched lent at ≡ some i → HaltsListed i
  unfolding fetched
  fetched_halts at i = by (ltb at (pairs lent))
    where
      by : (b : Bool) → cond b (decode (get_or lent.table (at * 2) (pos 0)) (get_or lent.table (at * 2 + 1) (pos 0))) none ≡ some i → HaltsListed i
      by true e = decoded_halts _ _ i e
      by false e = absurd (cc)

  step_listed : (m : Machine) → StopsListed (step lent m)
  unfolding step
  step_listed m = decoded_listed _ (fetched_halts m.place) _

  -- ---- the run

  -- a spent budget is ending 2
  run_listed : (budget : ℕ) (m : Machine) → Listed (run lent budget m).ending
  unfolding run
  run_listed zero m = (BudgetSpent, refl)
  run_listed (suc n) m = by (step lent m) refl (step_listed m) (run_listed n)
    where
      by : (s : Step) → s ≡ step lent m → StopsListed s → ((k : Machine) → Listed (run lent n k).ending) → Listed (run lent (suc n) m).ending
      by (go k) e h f = rw (run_goes lent n m e) (f k)
      by (stop x) e h f = rw (run_stops lent n m e) (unfold StopsListed in h)

  -- each run ends with one of the nine endings
  pub listed : (budget : ℕ) → Listed (whole_run lent budget).ending
  unfolding whole_run report
  listed budget = by (eqb (length lent.table % 2) 0)
    where
      by : (b : Bool) → Listed (cond b (report budget (end_of (run lent budget fresh))) (record { ending = bad_code; steps = 0; used = 0; output = [] })).ending
      by true = run_listed budget fresh
      by false = (BadCode, refl)
