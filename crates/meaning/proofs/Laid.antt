-- The code of a sentence, and where it stands in a table.
use mathlib.Core.Path.{◌≡◌, refl, ap}
use mathlib.Core.List.{List, [], ◌∷◌, ◌++◌}
use mathlib.Core.Option.{some}
use Prim.Native.Nat.{ℕ, zero, suc, ◌+◌}
use native.Mathlib.Nat.{add-zero, add-suc, suc-add}
use native.Mathlib.Numerals.{add-one}
use native.Mathlib.Omega.{arith}
use lib.Dec.{lit<}
use lib.ListN.{length, get_elem?, replicate, length-append}
use Rattle.sentence.specs.Sentences.{Sign, plus, minus, Mul, Rel, Kind, Sen, factor, term, expression, condition, command, commands, literal, variable, bracket, first, multiply, unsigned, signed, add, negated, compare, print, print_line, print_string, declare, input, assign, error, while, when, block, single, then}
use Rattle.instruction.specs.Instructions.{Instruction, jump, jump_if_false, two_sided}
use Rattle.rules.specs.Machine.{Lent, fetched}
use Rattle.instruction.proofs.Pairs.{Sound, AllSound}
use Rattle.meaning.specs.Layout.{of_mul, of_sign, of_rel, code, program_code}
use Rattle.meaning.proofs.Sizes.{size}

-- ---- how long it is, and that each of its instructions has a pair

pub record Laid (is : List Instruction) (n : ℕ) : Type 0 where
  pub long : length is ≡ n
  pub sound : AllSound is

sound_append : (xs ys : List Instruction) → AllSound xs → AllSound ys → AllSound (xs ++ ys)
unfolding AllSound
sound_append [] ys s t = t
sound_append (x ∷ xs) ys s t = (s.0, sound_append xs ys s.1 t)

pub laid_append : {xs ys : List Instruction} {n m l : ℕ} → Laid xs n → Laid ys m → l ≡ n + m → Laid (xs ++ ys) l
laid_append {xs} {ys} p q e = record { long = rw (length-append, p.long, q.long, e); sound = sound_append xs ys p.sound q.sound }

pub laid_one : (i : Instruction) → Sound i → Laid (i ∷ []) 1
unfolding AllSound
laid_one i s = record { long = refl; sound = (s, tt) }

pub laid : (a : ℕ) {k : Kind} (x : Sen ℕ k) → Laid (code a x) (size x)
unfolding code size Sound
laid a (literal n) = laid_one _ tt
laid a (variable k) = laid_one _ tt
laid a (bracket e) = laid a e
laid a (first f) = laid a f
laid a (multiply t o f) = laid_append (laid a t) (laid_append (laid (a + length (code a t)) f) (laid_one _ tt) refl) (omega arith)
laid a (unsigned t) = laid a t
laid a (signed plus t) = laid_append (laid a t) (record { long = refl; sound = unfold AllSound in tt }) refl
laid a (signed minus t) = laid_append (laid a t) (laid_one _ tt) refl
laid a (add e g t) = laid_append (laid a e) (laid_append (laid (a + length (code a e)) t) (laid_one _ tt) refl) (omega arith)
laid a (negated c) = laid_append (laid a c) (laid_one _ tt) refl
laid a (compare d r e) = laid_append (laid a d) (laid_append (laid (a + length (code a d)) e) (laid_one _ tt) refl) (omega arith)
laid a (print e) = laid_append (laid a e) (laid_one _ tt) refl
laid a (print_line q) = laid_one _ tt
laid a (print_string q) = laid_one _ tt
laid a (declare k) = laid_append (laid_one _ tt) (laid_one _ tt) refl
laid a (input k) = laid_append (laid_one _ tt) (laid_one _ tt) refl
laid a (assign k e) = laid_append (laid a e) (laid_one _ tt) refl
laid a error = laid_one _ (lit< tt)
laid a (while c m) = laid_append (laid a c) (laid_append (laid_one _ tt) (laid_append (laid (a + length (code a c) + 1) m) (laid_one _ tt) refl) refl) (omega arith)
laid a (when c m) = laid_append (laid a c) (laid_append (laid_one _ tt) (laid (a + length (code a c) + 1) m) refl) (omega arith)
laid a (block ms) = laid a ms
laid a (single m) = laid a m
laid a (then ms m) = laid_append (laid a ms) (laid (a + length (code a ms)) m) refl

-- ---- the code of parts that stand behind others

module _ (a : ℕ) where
  pub code_multiply : (t : Sen ℕ term) (o : Mul) (f : Sen ℕ factor) → code a (multiply t o f) ≡ code a t ++ (code (a + size t) f ++ two_sided (of_mul o) ∷ [])
  unfolding code
  code_multiply t o f = rw (laid a t).long

  pub code_add : (e : Sen ℕ expression) (g : Sign) (t : Sen ℕ term) → code a (add e g t) ≡ code a e ++ (code (a + size e) t ++ two_sided (of_sign g) ∷ [])
  unfolding code
  code_add e g t = rw (laid a e).long

  pub code_compare : (d : Sen ℕ expression) (r : Rel) (e : Sen ℕ expression) → code a (compare d r e) ≡ code a d ++ (code (a + size d) e ++ two_sided (of_rel r) ∷ [])
  unfolding code
  code_compare d r e = rw (laid a d).long

  pub code_while : (c : Sen ℕ condition) (m : Sen ℕ command) → code a (while c m) ≡ code a c ++ jump_if_false (a + size c + 1 + size m + 1) ∷ (code (a + size c + 1) m ++ jump a ∷ [])
  unfolding code
  code_while c m = rw ((laid a c).long, (laid (a + size c + 1) m).long)

  pub code_when : (c : Sen ℕ condition) (m : Sen ℕ command) → code a (when c m) ≡ code a c ++ jump_if_false (a + size c + 1 + size m) ∷ code (a + size c + 1) m
  unfolding code
  code_when c m = rw ((laid a c).long, (laid (a + size c + 1) m).long)

  pub code_then : (ms : Sen ℕ commands) (m : Sen ℕ command) → code a (then ms m) ≡ code a ms ++ code (a + size ms) m
  unfolding code
  code_then ms m = rw (laid a ms).long

laid_replicate : (n : ℕ) (i : Instruction) → Sound i → Laid (replicate n i) n
unfolding AllSound
laid_replicate zero i s = record { long = refl; sound = tt }
laid_replicate (suc n) i s = let r = laid_replicate n i s in record { long = ap suc r.long; sound = (s, r.sound) }

pub laid_program : (d : ℕ) (m : Sen ℕ command) → Laid (program_code d m) (d + (size m + 1))
unfolding program_code Sound
laid_program d m = laid_append (laid_replicate d _ tt) (laid_append (laid d m) (laid_one _ (lit< tt)) refl) refl

-- ---- where it stands

module _ (lent : Lent) where
  -- the instructions stand in the table from a place on
  unfoldable pub Holds : ℕ → List Instruction → Type 0
  Holds a [] = Unit {0}
  Holds a (i ∷ is) = (fetched lent a ≡ some i) × Holds (suc a) is

  pub holds_next : (a : ℕ) (xs : List Instruction) → Holds (suc a) xs → Holds (a + 1) xs
  holds_next a xs h = rw add-one h

  pub holds_split : (a : ℕ) (xs ys : List Instruction) → Holds a (xs ++ ys) → Holds a xs × Holds (a + length xs) ys
  unfolding Holds
  holds_split a [] ys h = (tt, rw add-zero h)
  holds_split a (x ∷ xs) ys h = let r = holds_split (suc a) xs ys h.1 in ((h.0, r.0), rw (add-suc, ← suc-add) r.1)

  -- the code of a sentence, and what stands behind it
  pub holds_code : (a : ℕ) {k : Kind} (x : Sen ℕ k) (ys : List Instruction) → Holds a (code a x ++ ys) → Holds a (code a x) × Holds (a + size x) ys
  holds_code a x ys h = rw (laid a x).long at (holds_split a (code a x) ys h)

  pub holds_all : (a : ℕ) (xs : List Instruction) → ((j : ℕ) → fetched lent (a + j) ≡ get_elem? xs j) → Holds a xs
  unfolding Holds
  holds_all a [] e = tt
  holds_all a (x ∷ xs) e = (rw add-zero at (e 0), holds_all (suc a) xs (λ j. rw (suc-add, ← add-suc) (e (suc j))))
