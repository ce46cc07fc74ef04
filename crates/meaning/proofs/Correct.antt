-- The run of a sentence's code is its meaning: the same units, the same ending.
use mathlib.Core.Path.{◌≡◌, sym, subst}
use mathlib.Core.List.{List, [], ◌∷◌, ◌++◌}
use mathlib.Core.Option.{some}
use Prim.Native.Nat.{ℕ, zero, suc, ◌+◌, ◌≤◌, ◌<◌}
use native.Mathlib.Nat.{not-suc-le-zero}
use native.Mathlib.Numerals.{add-one}
use native.Mathlib.Omega.{arith}
use lib.IntN.{ℤ, pos}
use lib.ListN.{length}
use Rattle.sentence.specs.Sentences.{plus, minus, Kind, Sen, factor, term, expression, condition, command, commands, literal, variable, bracket, first, multiply, unsigned, signed, add, negated, compare, print, print_line, print_string, declare, input, assign, error, while, when, block, single, then}
use Rattle.sentence.proofs.Parts.{Each}
use Rattle.endings.specs.Endings.{stopped_by_ERROR}
use Rattle.numbers.specs.Numbers.{TwoSidedOperation, calculate}
use Rattle.instruction.specs.Instructions.{two_sided, jump, jump_if_false}
use Rattle.rules.specs.Machine.{Lent, pairs, fetched}
use Rattle.meaning.specs.Layout.{of_mul, of_sign, of_rel, code, need}
use Rattle.meaning.proofs.Sizes.{size}
use Rattle.meaning.proofs.Fits.{Fits}
use Rattle.meaning.specs.Meaning.{Act, ◌>>=◌, ◌>>◌, unit, result, Value, signed_value, rounds, mean}
use Rattle.meaning.proofs.Laid.{Holds, holds_next, holds_code, code_multiply, code_add, code_compare, code_while, code_when, code_then}
use Rattle.meaning.proofs.Leads.{Leads, here, bind, seq, moved, first_step, step_on, fuelled, pushes, loads, stores, calculates, minuses, negates, halts, prints_number, prints_string, prints_line, reads, jumps, chooses}

-- a construct's value on the stack; a Command has none
abbrev pub pile : (k : Kind) → Value k → List ℤ → List ℤ
pile factor v ts = v ∷ ts
pile term v ts = v ∷ ts
pile expression v ts = v ∷ ts
pile condition v ts = v ∷ ts
pile command v ts = ts
pile commands v ts = ts

module _ (lent : Lent) (d : ℕ) where
  abbrev means : {k : Kind} → Sen ℕ k → Act (Value k)
  means x = mean lent.readings lent.room x

  -- the code of a sentence, wherever it stands, and whatever values are on the stack, if there is room for its need
  unfoldable pub Runs : {k : Kind} → Sen ℕ k → Type 0
  Runs {k} x = (N a : ℕ) (ts : List ℤ) → Holds lent a (code a x) → a + size x < pairs lent → Fits lent.text d x → length ts + d + need x ≤ lent.cells →
      Leads lent d N a ts (means x) (a + size x) (λ v. pile k v ts)

  -- two sides, then the operator or relation
  two : {N a b c : ℕ} {ts : List ℤ} {x y : Act ℤ} (o : TwoSidedOperation) → fetched lent c ≡ some (two_sided o) → Leads lent d N a ts x b (λ v. v ∷ ts) → ((v : ℤ) → Leads lent d N b (v ∷ ts) y c (λ w. w ∷ v ∷ ts)) →
      Leads lent d N a ts (x >>= λ v. y >>= λ w. unit >> result (calculate o v w)) (suc c) (λ v. v ∷ ts)
  two o h p q = bind p (λ v. bind (q v) (λ w. step_on h (calculates o v w)))

  -- the rounds of a WHILE, with more fuel than units left: by the fuel
  loops : (c : Act ℤ) (m : Act (Unit {0})) (a i j : ℕ) (ts : List ℤ) →
      fetched lent (a + i) ≡ some (jump_if_false (a + i + 1 + j + 1)) → fetched lent (a + i + 1 + j) ≡ some (jump a) → a + i + 1 + j + 1 < pairs lent →
      ((N : ℕ) → Leads lent d N a ts c (a + i) (λ v. v ∷ ts)) → ((N : ℕ) → Leads lent d N (a + i + 1) ts m (a + i + 1 + j) (λ _. ts)) →
      (N : ℕ) → Leads lent d N a ts (rounds c m N) (a + i + 1 + j + 1) (λ _. ts)
  unfolding rounds
  loops c m a i j ts h₁ h₂ inside test body zero = record { leads = λ n s K l k. absurd (not-suc-le-zero l) }
  loops c m a i j ts h₁ h₂ inside test body (suc N) =
      bind (test (suc N)) (λ v. first_step h₁ (chooses v (a + i + 1 + j + 1) inside (here tt (λ _. ts))
      (rw (← add-one (a + i)) (seq (body N) (λ _. step_on h₂ (jumps a (omega arith) (loops c m a i j ts h₁ h₂ inside test body N)))))))

  pub runs : {k : Kind} (x : Sen ℕ k) → Runs x
  unfolding Runs code size need Each mean Holds
  runs (literal v) = λ N a ts h i f r. moved (sym (add-one a)) (step_on h.0 (pushes (pos v) (omega arith) (here (pos v) (λ w. w ∷ ts))))
  runs (variable c) = λ N a ts h i f r. moved (sym (add-one a)) (step_on h.0 (loads c f (omega arith)))
  runs (bracket e) = runs e
  runs (first e) = runs e
  runs (multiply x o y) = λ N a ts h i f r.
      let p = holds_code lent a x _ (subst (Holds lent a) (code_multiply a x o y) h) in
      let q = holds_code lent (a + size x) y _ p.1 in
      moved (omega arith) (two (of_mul o) q.1.0 (runs x N a ts p.0 (omega arith) f.0 (omega arith)) (λ v. runs y N (a + size x) (v ∷ ts) q.0 (omega arith) f.1 (omega arith)))
  runs (unsigned t) = runs t
  runs (signed plus t) = λ N a ts h i f r.
      let p = holds_code lent a t _ h in
      bind (runs t N a ts p.0 (omega arith) f r) (λ v. unfold signed_value in moved (omega arith) (here v (λ w. w ∷ ts)))
  runs (signed minus t) = λ N a ts h i f r.
      let p = holds_code lent a t _ h in
      bind (runs t N a ts p.0 (omega arith) f r) (λ v. unfold signed_value in moved (omega arith) (step_on p.1.0 (minuses v)))
  runs (add x o y) = λ N a ts h i f r.
      let p = holds_code lent a x _ (subst (Holds lent a) (code_add a x o y) h) in
      let q = holds_code lent (a + size x) y _ p.1 in
      moved (omega arith) (two (of_sign o) q.1.0 (runs x N a ts p.0 (omega arith) f.0 (omega arith)) (λ v. runs y N (a + size x) (v ∷ ts) q.0 (omega arith) f.1 (omega arith)))
  runs (negated x) = λ N a ts h i f r.
      let p = holds_code lent a x _ h in
      bind (runs x N a ts p.0 (omega arith) f r) (λ v. moved (omega arith) (step_on p.1.0 (negates v)))
  runs (compare x o y) = λ N a ts h i f r.
      let p = holds_code lent a x _ (subst (Holds lent a) (code_compare a x o y) h) in
      let q = holds_code lent (a + size x) y _ p.1 in
      moved (omega arith) (two (of_rel o) q.1.0 (runs x N a ts p.0 (omega arith) f.0 (omega arith)) (λ v. runs y N (a + size x) (v ∷ ts) q.0 (omega arith) f.1 (omega arith)))
  runs (print e) = λ N a ts h i f r.
      let p = holds_code lent a e _ h in
      bind (runs e N a ts p.0 (omega arith) f r) (λ v. moved (omega arith) (step_on p.1.0 (prints_number v)))
  runs (print_line q) = λ N a ts h i f r. moved (sym (add-one a)) (step_on h.0 (prints_line q.place q.inside f))
  runs (print_string q) = λ N a ts h i f r. moved (sym (add-one a)) (step_on h.0 (prints_string q.place q.inside f))
  runs (declare c) = λ N a ts h i f r. moved (omega arith) (step_on h.0 (pushes (pos 0) (omega arith) (step_on h.1.0 (stores c (pos 0) f))))
  runs (input c) = λ N a ts h i f r. moved (omega arith) (step_on h.0 (reads (omega arith) (λ v. step_on h.1.0 (stores c v f))))
  runs (assign c e) = λ N a ts h i f r.
      let p = holds_code lent a e _ h in
      bind (runs e N a ts p.0 (omega arith) f.1 r) (λ v. moved (omega arith) (step_on p.1.0 (stores c v f.0)))
  runs error = λ N a ts h i f r. step_on h.0 (halts stopped_by_ERROR)
  runs (while x y) = λ N a ts h i f r.
      let p = holds_code lent a x _ (subst (Holds lent a) (code_while a x y) h) in
      let q = holds_code lent (a + size x + 1) y _ (holds_next lent (a + size x) (code (a + size x + 1) y ++ jump a ∷ []) p.1.1) in
      moved (omega arith) (fuelled (loops (means x) (means y) a (size x) (size y) ts p.1.0 q.1.0 (omega arith) (λ M. runs x M a ts p.0 (omega arith) f.0 (omega arith))
      (λ M. runs y M (a + size x + 1) ts q.0 (omega arith) f.1 (omega arith))))
  runs (when x y) = λ N a ts h i f r.
      let p = holds_code lent a x _ (subst (Holds lent a) (code_when a x y) h) in
      bind (runs x N a ts p.0 (omega arith) f.0 (omega arith)) (λ v. moved (omega arith) (step_on p.1.0 (chooses v (a + size x + 1 + size y) (omega arith) (here tt (λ _. ts))
      (rw (← add-one (a + size x)) (runs y N (a + size x + 1) ts (holds_next lent (a + size x) (code (a + size x + 1) y) p.1.1) (omega arith) f.1 (omega arith))))))
  runs (block ms) = runs ms
  runs (single m) = runs m
  runs (then x y) = λ N a ts h i f r.
      let p = holds_code lent a x _ (subst (Holds lent a) (code_then a x y) h) in
      seq (runs x N a ts p.0 (omega arith) f.0 (omega arith)) (λ v. moved (omega arith) (runs y N (a + size x) ts p.1 (omega arith) f.1 (omega arith)))
