-- Document 01, "What a sentence costs": the meaning by sentences. Each line has its units where they fall: after the parts, left before right.
use Rattle.std.specs.Prelude.{List, [], ◌∷◌, ◌++◌, true, false, cond, ℕ, zero, suc, eqb, ℤ, pos, neg_ℤ}
use Rattle.std.proofs.Math.Option.{none, some}
use Rattle.sentence.specs.Sentences.{Sign, plus, minus, Kind, Sen, factor, term, expression, condition, command, commands, literal, variable, bracket, first, multiply, unsigned, signed, add, negated, compare, print, print_line, print_string, declare, input, assign, error, while, when, block, single, then}
use Rattle.endings.specs.Endings.{normal, stopped_by_ERROR, budget_spent, no_reading_left, print_does_not_fit}
use Rattle.numbers.specs.Numbers.{Result, value, ends, in_range, is_false, calculate, negation, decimal}
use Rattle.rules.specs.Machine.{Outside, untouched, reading, one_used, printed, End}
use Rattle.meaning.specs.Layout.{of_mul, of_sign, of_rel}

-- ---- what a sentence works on

-- a variable for each declaration, and what was read and printed
pub record Store : Type 0 where
  pub variables : ℕ → ℤ
  pub outside : Outside

-- each variable starts at 0
abbrev pub start : Store
start = record { variables = λ _. pos 0; outside = untouched }

-- a value, with the units of the budget left; or the end of the program
pub data Outcome (A : Type 0) : Type 0 where
  done : A → ℕ → Store → Outcome A
  ended : End → Outcome A

-- what is done with so many units left and such a store
abbrev pub Act : Type 0 → Type 0
Act A = ℕ → Store → Outcome A

unfoldable pub after : {A B : Type 0} → Outcome A → (A → Act B) → Outcome B
after (done a n s) f = f a n s
after (ended e) f = ended e

infixl 20 ◌>>=◌ ◌>>◌
unfoldable pub ◌>>=◌ : {A B : Type 0} → Act A → (A → Act B) → Act B
◌>>=◌ m f = λ n s. after (m n s) f

unfoldable pub ◌>>◌ : {A B : Type 0} → Act A → Act B → Act B
◌>>◌ m f = λ n s. after (m n s) (λ _. f)

unfoldable pub give : {A : Type 0} → A → Act A
give a = λ n s. done a n s

unfoldable pub end_with : {A : Type 0} → ℕ → Act A
end_with e = λ n s. ended (record { ending = e; left = n; outside = s.outside })

-- one unit; where the units so far equal the budget and another is due, nothing is counted for it
unfoldable pub unit : Act (Unit {0})
unit zero s = end_with budget_spent zero s
unit (suc n) s = done tt n s

unfoldable pub result : Result → Act ℤ
result (value v) = give v
result (ends e) = end_with e

unfoldable pub value_of : ℕ → Act ℤ
value_of k = λ n s. done (s.variables k) n s

unfoldable pub assigned : ℕ → ℤ → Act (Unit {0})
assigned k v = λ n s. done tt n (record { variables = λ j. cond (eqb j k) v (s.variables j); outside = s.outside })

-- a construct's value; a Command has none
abbrev pub Value : Kind → Type 0
Value factor = ℤ
Value term = ℤ
Value expression = ℤ
Value condition = ℤ
Value command = Unit {0}
Value commands = Unit {0}

-- leading plus costs 0
unfoldable pub signed_value : Sign → ℤ → Act ℤ
signed_value plus v = give v
signed_value minus v = unit >> result (in_range (neg_ℤ v))

-- the test's unit falls after the condition, the round's after the body; the fuel is more than the units left, so that it never runs out first
unfoldable pub rounds : Act ℤ → Act (Unit {0}) → ℕ → Act (Unit {0})
rounds c m zero = end_with budget_spent
rounds c m (suc fuel) = do
  v ← c
  unit
  elim (is_false v) [ true ↦ give tt | false ↦ (do m; unit; rounds c m fuel) ]

module _ (readings : List ℤ) (room : ℕ) where
  -- the next reading, which is then used
  unfoldable pub next_reading : Act ℤ
  next_reading = λ n s. elim (reading readings s.outside) [
    | none ↦ end_with no_reading_left n s
    | some v ↦ done v n (record { variables = s.variables; outside = one_used s.outside })
  ]

  unfoldable pub write : List ℕ → Act (Unit {0})
  write bs = λ n s. elim (printed room bs s.outside) [
    | none ↦ end_with print_does_not_fit n s
    | some o ↦ done tt n (record { variables = s.variables; outside = o })
  ]

  unfoldable pub mean : {k : Kind} → Sen ℕ k → Act (Value k)
  mean (literal n) = do unit; give (pos n)
  mean (variable k) = do unit; value_of k
  mean (bracket e) = mean e
  mean (first f) = mean f
  mean (multiply t o f) = do a ← mean t; b ← mean f; unit; result (calculate (of_mul o) a b)
  mean (unsigned t) = mean t
  mean (signed g t) = do v ← mean t; signed_value g v
  mean (add e g t) = do a ← mean e; b ← mean t; unit; result (calculate (of_sign g) a b)
  mean (negated c) = do v ← mean c; unit; give (negation v)
  mean (compare d r e) = do a ← mean d; b ← mean e; unit; result (calculate (of_rel r) a b)
  mean (print e) = do v ← mean e; unit; write (decimal v)
  mean (print_line q) = do unit; write (q.inside ++ 10 ∷ [])
  mean (print_string q) = do unit; write q.inside
  mean (declare k) = do unit; unit; assigned k (pos 0)
  mean (input k) = do unit; v ← next_reading; unit; assigned k v
  mean (assign k e) = do v ← mean e; unit; assigned k v
  mean error = do unit; end_with stopped_by_ERROR
  mean (while c m) = λ n s. rounds (mean c) (mean m) (suc n) n s
  mean (when c m) = do
    v ← mean c
    unit
    elim (is_false v) [ true ↦ give tt | false ↦ mean m ]
  mean (block ms) = mean ms
  mean (single m) = mean m
  mean (then ms m) = do mean ms; mean m

  -- 1 per declaration
  unfoldable pub declarations : ℕ → Act (Unit {0})
  declarations zero = give tt
  declarations (suc cells) = unit >> declarations cells

  -- a Program's units: 1 per declaration, its Command, 1 at the end
  unfoldable pub program : ℕ → Sen ℕ command → Act (Unit {0})
  program cells m = do declarations cells; mean m; unit

  -- how the Program ends with a budget
  unfoldable pub meaning : ℕ → Sen ℕ command → ℕ → End
  meaning cells m budget = elim (program cells m budget start) [
    | done a n s ↦ record { ending = normal; left = n; outside = s.outside }
    | ended e ↦ e
  ]
