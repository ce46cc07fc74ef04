-- How long the lines can be, so that a page of fixed length holds them. Assumes nothing.
use mathlib.Core.Bool.{Bool, true, false}
use mathlib.Core.List.{List, [], ◌∷◌}
use Prim.Native.Nat.{ℕ, suc, ◌+◌, ◌*◌, ◌≤◌, ◌<◌}
use native.Mathlib.Omega.{arith}
use lib.Dec.{eqb}
use lib.IntN.{ℤ, pos, negsuc}
use lib.ListN.{length, length-append}
use mir.Syntax.{w32}
use mir.Val.{SFits}
use Rattle.base.specs.Bytes.{bytes, bytes_from}
use Rattle.numbers.specs.Numbers.{decimal}
use Rattle.numbers.proofs.Digits.{few_digits}
use Rattle.endings.specs.Endings.{number_of}
use Rattle.endings.specs.declared.Ending.{Ending}
use Rattle.endings.specs.declared.Ending.TheVariants.{Normal, StoppedByError, BudgetSpent, NoReadingLeft, OutsideRange, DivisionBy0, StackFull, PrintDoesNotFit, BadCode}
use Rattle.base.specs.declared.Refusal.{Refusal}
use Rattle.base.specs.declared.Refusal.TheVariants.{TooLong, NoLexeme, TooLarge, NoProgram, TooDeep, Undeclared, TooManyDeclared, TooMuchCode}
use Rattle.base.specs.Answers.{number}
use Rattle.lines.specs.Forms.{filled}
use Rattle.lines.specs.Lines.{refusal_line, refused_line, ending_line, accepted_line}

-- below 2 ^ 64
abbrev pub Small : ℕ → Type 0
Small n = n < 18446744073709551616

pub short_natural : (n : ℕ) → Small n → length (decimal (pos n)) ≤ 20
unfolding decimal
short_natural n h = few_digits 19 n (omega arith)

short_zero : length (decimal (pos 0)) ≤ 1
unfolding decimal
short_zero = few_digits 0 0 (omega arith)

pub short_integer : (z : ℤ) → SFits w32 z → length (decimal z) ≤ 11
unfolding decimal
short_integer (pos n) f = omega (arith, few_digits 9 n (omega (arith, f.sfits)))
short_integer (negsuc n) f = omega (arith, few_digits 9 (suc n) (omega (arith, f.sfits)))

abbrev pub Smalls : List ℕ → Type 0
Smalls [] = Unit {0}
Smalls (n ∷ ns) = Small n × Smalls ns

either : (t : Bool) (a b : List ℕ) (m : ℕ) → length a ≤ m → length b ≤ m → length {A = ℕ} (elim t as (λ _. List ℕ) [ true ↦ a | false ↦ b ]) ≤ m
either true a b m p q = p
either false a b m p q = q

-- a number takes at most 19 bytes more than its sign
pub short_filled : (form ns : List ℕ) → Smalls ns → length (filled form ns) ≤ length form + 19 * length ns
unfolding filled
short_filled [] ns h = omega arith
short_filled (b ∷ s) [] h = either (eqb b 35) _ _ _ (simp length-append (omega (arith, short_zero, short_filled s [] tt))) (omega (arith, short_filled s [] tt))
short_filled (b ∷ s) (n ∷ ns) h = either (eqb b 35) _ _ _ (simp length-append (omega (arith, short_natural n h.0, short_filled s ns h.1))) (omega (arith, short_filled s (n ∷ ns) h))

pub small_number : (why : Refusal) → number why ≤ 8
unfolding number
small_number TooLong = omega arith
small_number NoLexeme = omega arith
small_number TooLarge = omega arith
small_number NoProgram = omega arith
small_number TooDeep = omega arith
small_number Undeclared = omega arith
small_number TooManyDeclared = omega arith
small_number TooMuchCode = omega arith

pub small_ending : (e : Ending) → number_of e ≤ 8
small_ending Normal = omega arith
small_ending StoppedByError = omega arith
small_ending BudgetSpent = omega arith
small_ending NoReadingLeft = omega arith
small_ending OutsideRange = omega arith
small_ending DivisionBy0 = omega arith
small_ending StackFull = omega arith
small_ending PrintDoesNotFit = omega arith
small_ending BadCode = omega arith

pub short_refusal : (n p : ℕ) → Small n → Small p → length (refusal_line n p) ≤ 96
unfolding refusal_line bytes bytes_from
short_refusal n p h i = omega (arith, short_filled (bytes "refused # #\n") (n ∷ p ∷ []) (h, (i, tt)))

pub short_refused : (why : Refusal) (p : ℕ) → Small p → length (refused_line why p) ≤ 96
unfolding refused_line
short_refused why p i = short_refusal (number why) p (omega (arith, small_number why)) i

pub short_ending : (e s : ℕ) → Small e → Small s → length (ending_line e s) ≤ 95
unfolding ending_line bytes bytes_from
short_ending e s h i = omega (arith, short_filled (bytes "ending # steps #\n") (e ∷ s ∷ []) (h, (i, tt)))

pub short_accepted : (i c n : ℕ) → Small i → Small c → Small n → length (accepted_line i c n) ≤ 96
unfolding accepted_line bytes bytes_from
short_accepted i c n h j k = omega (arith, short_filled (bytes "accepted # # #\n") (i ∷ c ∷ n ∷ []) (h, (j, (k, tt))))
