-- The table of what each instruction takes and gives is true of the rule: an instruction that goes on had the values that it takes, and leaves as many as it gives. Assumes nothing.
use mathlib.Core.Path.{◌≡◌, refl, ap, ◌∙◌}
use mathlib.Core.List.{List, [], ◌∷◌}
use mathlib.Core.Bool.{Bool, true, false, cond}
use mathlib.Core.Option.{Option, none, some}
use Prim.Native.Nat.{ℕ, suc, ◌+◌, ◌-◌, ◌≤◌}
use native.Mathlib.Nat.{add-zero}
use native.Mathlib.Numerals.{add-one}
use native.Mathlib.Omega.{arith}
use lib.Dec.{ltb, eqb}
use lib.IntN.{ℤ, pos, neg_ℤ}
use lib.ListN.{length, get_or, drop, length-drop}
use borrow.Author.Tests.{ltb-false}
use Rattle.endings.specs.Endings.{stack_full, bad_code}
use Rattle.numbers.specs.Numbers.{Result, value, ends, in_range, calculate, is_false}
use Rattle.instruction.specs.Instructions.{Instruction, halt, push_int, load_stack, store_stack, jump, jump_if_false, two_sided, negate, not, read, print_int, print_str, print_str_ln, takes, gives, effect}
use Rattle.rules.specs.Machine.{Lent, Outside, Machine, reading, poke, Step, go, stop, pushed, left_with, jumped, resulting, taken, written, names_well, prints, does, tried}

-- where it goes on, n values are left
abbrev Leaves : ℕ → Step → Type 0
Leaves n s = (m : Machine) → s ≡ go m → length m.stack ≡ n

goes : (m : Machine) (n : ℕ) → length m.stack ≡ n → Leaves n (go m)
goes m n e m' q = let r : m ≡ m' = cc in rw (← r) e

stops : (e n : ℕ) → Leaves n (stop e)
stops e n m q = let z : ◌≡◌ {A = ℕ} 0 1 = cc in absurd (omega arith)

length_poke : (k : ℕ) (v : ℤ) (s : List ℤ) → length (poke k v s) ≡ length s
unfolding poke
length_poke k v [] = refl
length_poke k v (x ∷ s) = by (eqb k (length s)) (length_poke k v s)
  where
    by : (b : Bool) → length (poke k v s) ≡ length s → length (cond b (v ∷ s) (x ∷ poke k v s)) ≡ suc (length s)
    by true h = refl
    by false h = ap suc h

pushes : (v : ℤ) (m : Machine) → Leaves (length m.stack + 1) (pushed v m)
unfolding pushed
pushes v m = goes _ _ (rw (add-one (length m.stack)))

results : (r : Result) (m : Machine) → Leaves (length m.stack + 1) (resulting r m)
unfolding resulting
results (value v) m = pushes v m
results (ends e) m = stops e _

takings : (r : Option ℤ) (m : Machine) → Leaves (length m.stack + 1) (taken r m)
unfolding taken
takings none m = stops _ _
takings (some v) m = goes _ _ (rw (add-one (length m.stack)))

writings : (r : Option Outside) (m : Machine) → Leaves (length m.stack + 0) (written r m)
unfolding written
writings none m = stops _ _
writings (some o) m = goes _ _ (rw (add-zero (length m.stack)))

module _ (lent : Lent) where
  leaves : (i : Instruction) (x y : ℤ) (m : Machine) → Leaves (length m.stack + gives i) (does lent i x y m)
  unfolding effect does left_with jumped prints
  leaves (halt h) x y m = stops h _
  leaves (push_int v) x y m = pushes v m
  leaves (load_stack k) x y m = pushes _ m
  leaves (store_stack k) x y m = goes _ _ (rw (add-zero (length m.stack)) (length_poke k y m.stack))
  leaves (jump a) x y m = goes _ _ (rw (add-zero (length m.stack)))
  leaves (jump_if_false a) x y m = by (is_false y)
    where
      by : (b : Bool) → Leaves (length m.stack + 0) (cond b (jumped a m) (go m))
      by true = unfold jumped in goes _ _ (rw (add-zero (length m.stack)))
      by false = goes _ _ (rw (add-zero (length m.stack)))
  leaves (two_sided t) x y m = results (calculate t x y) m
  leaves negate x y m = results (in_range (neg_ℤ y)) m
  leaves not x y m = pushes _ m
  leaves read x y m = takings (reading lent.readings m.outside) m
  leaves print_int x y m = writings _ m
  leaves (print_str q) x y m = writings _ m
  leaves (print_str_ln q) x y m = writings _ m

  pub depth_after : (i : Instruction) (m m' : Machine) → tried lent i m ≡ go m' → (takes i ≤ length m.stack) × (length m'.stack ≡ length m.stack - takes i + gives i)
  unfolding tried
  depth_after i m m' e = by (ltb (length m.stack) (takes i)) refl (names_well lent i (length m.stack - takes i)) (ltb (lent.cells - length m.stack) (gives i - takes i)) e
    where
      left : Machine
      left = record { place = m.place; stack = drop (takes i) m.stack; outside = m.outside }

      done : Step
      done = does lent i (get_or m.stack 1 (pos 0)) (get_or m.stack 0 (pos 0)) left

      by : (a : Bool) → ltb (length m.stack) (takes i) ≡ a → (b c : Bool) → cond a (stop bad_code) (cond b (cond c (stop stack_full) done) (stop bad_code)) ≡ go m' → (takes i ≤ length m.stack) × (length m'.stack ≡ length m.stack - takes i + gives i)
      by true h b c q = absurd (omega (arith, stops bad_code 0 m' q, stops bad_code 1 m' q))
      by false h false c q = absurd (omega (arith, stops bad_code 0 m' q, stops bad_code 1 m' q))
      by false h true true q = absurd (omega (arith, stops stack_full 0 m' q, stops stack_full 1 m' q))
      by false h true false q = (ltb-false (length m.stack) (takes i) h, leaves i _ _ left m' q ∙ rw (length-drop (takes i) m.stack))
