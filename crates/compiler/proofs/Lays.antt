-- Laws of naming and writing: one for each construct, in the shape in which the code builds its walks and tables. Assumes nothing.
use mathlib.Core.Path.{◌≡◌, refl, sym, ap, ap₂, ◌∙◌, subst}
use mathlib.Core.List.{List, [], ◌∷◌, ◌++◌, append-nil}
use mathlib.Core.Bool.{Bool, true, false}
use Prim.Native.Nat.{ℕ, ◌+◌, ◌*◌, ◌≤◌, ◌<◌, max}
use native.Mathlib.Nat.{le_refl, add-zero}
use native.Mathlib.Omega.{arith}
use lib.IntN.{ℤ, pos}
use Rattle.base.specs.declared.Refusal.{Refusal}
use Rattle.base.specs.Answers.{Answer, given, refused, pass}
use Rattle.lexeme.specs.Lexemes.{Name, Quoted}
use Rattle.lexeme.specs.inner.Coded.{Stands}
use Rattle.lexeme.specs.declared.Lexeme.{Lexeme}
use Rattle.sentence.specs.Sentences.{Sign, plus, minus, Mul, Rel, sign, mul, rel, Kind, Sen, factor, term, expression, condition, command, commands, literal, bracket, first, multiply, unsigned, signed, add, negated, compare, print, print_line, print_string, error, while, when, single, then}
use Rattle.sentence.proofs.Operators.{number_of}
use Rattle.names.specs.Names.{Scope, Known, Naming, ◌>>=◌, give, resolve}
use Rattle.names.specs.inner.Held.{room, Sound, Kept}
use Rattle.names.proofs.Held.{kept_all, kept_then}
use Rattle.numbers.specs.Numbers.{TwoSidedOperation}
use Rattle.instruction.specs.Instructions.{Instruction, halt, push_int, jump, jump_if_false, two_sided, negate, not, print_int, print_str, print_str_ln, number, encode, opcode}
use Rattle.meaning.specs.Layout.{of_mul, of_sign, of_rel, code, need}
use Rattle.meaning.proofs.Sizes.{size}
use Rattle.meaning.proofs.Laid.{code_multiply, code_add, code_compare, code_while, code_when, code_then}
use Rattle.compiler.specs.declared.walk.Walk.{Walk}
use Rattle.compiler.specs.inner.Steps.{moved_to, one_instruction, printing_number, ended_walk, ended_table, operation_number}
use Rattle.tables.specs.inner.Tables.{put, emit}
use Rattle.compiler.specs.inner.Walks.{stand, named, scope_of, Laid, spare, Small, Lays, Ready}
use Rattle.tables.proofs.Emits.{emit_one, put_before}
use Rattle.compiler.proofs.Emits.{emit_code, mul_operation, sign_operation, rel_operation}

-- ---- answers

-- the answer o agrees to the scope s, or its refusal, and what it gives has P
pub data Agrees {A : Type 0} (P : A → Type 0) (s : Answer Scope) (o : Answer (Known A)) : Type 0 where
  gives : (r : Known A) → o ≡ given r → s ≡ given r.scope → P r.what → Agrees P s o
  refuses : (why : Refusal) (p : ℕ) → o ≡ refused why p → s ≡ refused why p → Agrees P s o

pub never : {A C : Type 0} {a : A} {why : Refusal} {p : ℕ} → given a ≡ refused why p → C
never e = let z : ◌≡◌ {A = ℕ} 0 1 = cc in absurd (omega arith)

given_has : {A : Type 0} {P : A → Type 0} {s : Answer Scope} {o : Answer (Known A)} → Agrees P s o → (r : Known A) → o ≡ given r → P r.what
given_has (gives r e d p) q f = let h : r ≡ q = cc in rw (← h) p
given_has (refuses why i e d) q f = never (sym f ∙ e)

refused_is : {A : Type 0} {P : A → Type 0} {s : Answer Scope} {o : Answer (Known A)} {why : Refusal} {p : ℕ} → Agrees P s o → o ≡ refused why p → s ≡ refused why p
refused_is (gives r e d q) f = never (sym e ∙ f)
refused_is (refuses why i e d) f = cc

bound : {A B : Type 0} (m : Naming A) (f : A → Naming B) (s : Answer Scope) → pass s (m >>= f) ≡ pass (pass s m) (λ a. f a.what a.scope)
unfolding pass ◌>>=◌
bound m f (given t) = refl
bound m f (refused why p) = refl

module _ {A B : Type 0} (m : Naming A) (f : A → Naming B) (s : Answer Scope) where
  bind_given : (r : Known A) → pass s m ≡ given r → pass s (m >>= f) ≡ f r.what r.scope
  unfolding pass
  bind_given r e = bound m f s ∙ ap (λ o. pass o (λ a. f a.what a.scope)) e

  bind_refused : (why : Refusal) (p : ℕ) → pass s m ≡ refused why p → pass s (m >>= f) ≡ refused why p
  unfolding pass
  bind_refused why p e = bound m f s ∙ ap (λ o. pass o (λ a. f a.what a.scope)) e

agrees_give : {A : Type 0} {P : A → Type 0} (a : A) (s : Answer Scope) → P a → Agrees P s (pass s (give a))
unfolding pass give
agrees_give a (given s) p = gives (record { what = a; scope = s }) refl refl p
agrees_give a (refused why q) p = refuses why q refl refl

module _ {A C : Type 0} {P : A → Type 0} {R : C → Type 0} {s' : Answer Scope} where
  pub agrees_one : (f : A → C) → ((a : A) → P a → R (f a)) → (m : Naming A) (s : Answer Scope) → Agrees P s' (pass s m) → Agrees R s' (pass s (m >>= λ a. give (f a)))
  unfolding give
  agrees_one f makes m s (gives r e d p) = gives (record { what = f r.what; scope = r.scope }) (bind_given m (λ a. give (f a)) s r e) d (makes r.what p)
  agrees_one f makes m s (refuses why i e d) = refuses why i (bind_refused m (λ a. give (f a)) s why i e) d

module _ {A B C : Type 0} {P : A → Type 0} {Q : B → Type 0} {R : C → Type 0} {s₁ s₂ : Answer Scope} where
  pub agrees_two : (f : A → B → C) → ((a : A) (b : B) → P a → Q b → R (f a b)) → (m : Naming A) (n : Naming B) (s : Answer Scope) →
      Agrees P s₁ (pass s m) → Agrees Q s₂ (pass s₁ n) → Agrees R s₂ (pass s (m >>= λ a. n >>= λ b. give (f a b)))
  unfolding pass
  agrees_two f makes m n s (gives r e d p) q =
      rw (bind_given m (λ a. n >>= λ b. give (f a b)) s r e)
      (agrees_one (f r.what) (λ b. makes r.what b p) n (given r.scope) (subst (λ t. Agrees Q s₂ (pass t n)) d q))
  agrees_two f makes m n s (refuses why i e d) q =
      refuses why i (bind_refused m (λ a. n >>= λ b. give (f a b)) s why i e) (refused_is q (ap (λ t. pass t n) d))

-- ---- what a walk promises, as such an answer

abbrev pub Led : {k : Kind} → List ℕ → List ℕ → List ℤ → Walk → Sen Name k → List ℕ → List ℤ → Walk → ℕ → Type 0
Led text names table w x names' table' v g = Agrees (Laid table table' w v g) (stand text names' v) (pass (stand text names w) (resolve (room names) x))

module _ {k : Kind} {text names names' : List ℕ} {table table' : List ℤ} {w v : Walk} {g : ℕ} {x : Sen Name k} where
  pub agrees : Lays text names table w x names' table' v g → Led text names table w x names' table' v g
  agrees p = by (pass (stand text names w) (resolve (room names) x)) refl
    where
      by : (o : Answer (Known (Sen ℕ k))) → pass (stand text names w) (resolve (room names) x) ≡ o → Led text names table w x names' table' v g
      by (given r) e = unfold pass scope_of named in gives r e (p.naming ∙ ap (λ o. pass o scope_of) e) (p.laying r e)
      by (refused why i) e = unfold pass named in refuses why i e (p.naming ∙ ap (λ o. pass o scope_of) e)

  pub lays : Led text names table w x names' table' v g → Small k w v g → Sound names' → Kept names names' → Lays text names table w x names' table' v g
  unfolding named
  lays f s e t = record { naming = by f; laying = given_has f; small = s; sound = e; kept = t }
    where
      by : Led text names table w x names' table' v g → stand text names' v ≡ pass (pass (stand text names w) (resolve (room names) x)) scope_of
      by (gives r e d p) = unfold pass scope_of in d ∙ sym (ap (λ o. pass o scope_of) e)
      by (refuses why i e d) = unfold pass in d ∙ sym (ap (λ o. pass o scope_of) e)

-- ---- the lexemes around a construct

module _ {k : Kind} {text names names' : List ℕ} {table table' : List ℤ} {w v : Walk} {g : ℕ} {x : Sen Name k} (m : Lexeme) where
  pub lead : w.next.place ≤ m.place → Lays text names table (moved_to w m) x names' table' v g → Lays text names table w x names' table' v g
  unfolding moved_to stand
  lead h p = record { naming = p.naming; laying = λ r e. let q = p.laying r e in record { code = q.code; need = q.need; numbers = q.numbers }; small = omega (arith, p.small); sound = p.sound; kept = p.kept }

  pub trail : v.next.place ≤ m.place → Lays text names table w x names' table' v g → Lays text names table w x names' table' (moved_to v m) g
  unfolding moved_to stand
  trail h p = record { naming = p.naming; laying = λ r e. let q = p.laying r e in record { code = q.code; need = q.need; numbers = q.numbers }; small = omega (arith, p.small); sound = p.sound; kept = p.kept }

-- ---- one instruction and no part

-- at most two instructions are spare
few : (k : Kind) → spare k ≤ 2
unfolding spare
few factor = le_refl 2
few term = le_refl 2
few expression = le_refl 2
few condition = le_refl 2
few command = omega arith
few commands = omega arith

-- PRINTLNS, which prints a line, or PRINTS
unfoldable pub quoted : {A : Type 0} → Bool → Quoted → Sen A command
quoted true q = print_line q
quoted false q = print_string q

module _ {text names : List ℕ} {table : List ℤ} {w : Walk} where
  lays_alone : {k : Kind} (x : Sen Name k) (z : Sen ℕ k) (i : Instruction) (n : ℕ) → resolve (room names) x ≡ give z → size z ≡ 1 → need z ≡ n → n ≤ 1 → code w.code z ≡ i ∷ [] →
      (m : Lexeme) → w.next.place < m.place → Sound names → Lays text names table w x names (put table w.code (encode i [])) (moved_to (one_instruction w) m) n
  unfolding moved_to one_instruction stand
  lays_alone {k} x z i n e s d l c m h f = lays (rw e (agrees_give z (stand text names w) written)) (omega (arith, few k)) f (kept_all names)
    where
      written : Laid table (put table w.code (encode i [])) w (moved_to (one_instruction w) m) n z
      written = record { code = ap (λ j. w.code + j) (sym s); need = sym d; numbers = sym (ap (emit table w.code) c ∙ emit_one table w.code i) }

  pub lays_literal : (n : ℕ) (m : Lexeme) → w.next.place < m.place → Sound names → Lays text names table w (literal n) names (put table w.code (pos 2 ∷ pos n ∷ [])) (moved_to (one_instruction w) m) 1
  unfolding resolve size need code encode
  lays_literal n = lays_alone (literal n) (literal n) (push_int (pos n)) 1 refl refl refl (le_refl 1) refl

  pub lays_error : (m : Lexeme) → w.next.place < m.place → Sound names → Lays text names table w error names (put table w.code (pos 1 ∷ pos 1 ∷ [])) (one_instruction (moved_to w m)) 0
  unfolding moved_to one_instruction resolve size need code encode
  lays_error = lays_alone error error (halt 1) 0 refl refl refl (omega arith) refl

  pub lays_quoted : (line : Bool) (q : Quoted) (m : Lexeme) → q.place ≡ w.next.place + 1 → w.next.place < m.place → Sound names →
      Lays text names table w (quoted line q) names (put table w.code (printing_number line ∷ pos (w.next.place + 1) ∷ [])) (moved_to (one_instruction w) m) 0
  unfolding resolve size need code encode opcode quoted printing_number
  lays_quoted true q m p = rw (← p) (lays_alone (print_line q) (print_line q) (print_str_ln q.place) 0 refl refl refl (omega arith) refl m)
  lays_quoted false q m p = rw (← p) (lays_alone (print_string q) (print_string q) (print_str q.place) 0 refl refl refl (omega arith) refl m)

-- ---- one part

-- the code of a part, then one instruction
pub laid_more : {k l : Kind} {table table' : List ℤ} {w u v : Walk} {g : ℕ} {y : Sen ℕ k} (z : Sen ℕ l) (i : Instruction) → u.code ≡ w.code → size z ≡ size y + 1 → need z ≡ need y → code w.code z ≡ code w.code y ++ i ∷ [] →
    Laid table table' u v g y → Laid table (put table' v.code (encode i [])) w (one_instruction v) g z
unfolding one_instruction
laid_more {table} {table'} {w} {u} {v} {y} z i a s d c p = record {
  code = omega (arith, p.code, s);
  need = rw d p.need;
  numbers = sym (ap (emit table w.code) c ∙ rw (← a) (emit_code table u.code y (i ∷ []) ∙ rw (← p.code, ← p.numbers) (emit_one table' v.code i)));
}

module _ {k l : Kind} {text names names' : List ℕ} {table table' : List ℤ} {w v : Walk} {g : ℕ} {x : Sen Name k} {z : Sen Name l} (make : Sen ℕ k → Sen ℕ l) (e : resolve (room names) z ≡ (resolve (room names) x >>= λ a. give (make a))) where
  -- with the code of its part
  lays_same : spare l ≤ spare k → ((y : Sen ℕ k) → size (make y) ≡ size y) → ((y : Sen ℕ k) → need (make y) ≡ need y) → ((a : ℕ) (y : Sen ℕ k) → code a (make y) ≡ code a y) → Lays text names table w x names' table' v g → Lays text names table w z names' table' v g
  lays_same h s d c p = lays (rw e (agrees_one make written (resolve (room names) x) (stand text names w) (agrees p))) (omega (arith, p.small)) p.sound p.kept
    where
      written : (y : Sen ℕ k) → Laid table table' w v g y → Laid table table' w v g (make y)
      written y q = record { code = rw (s y) q.code; need = rw (d y) q.need; numbers = rw (c w.code y) q.numbers }

  -- and one instruction after it
  lays_more : (i : Instruction) → ((y : Sen ℕ k) → size (make y) ≡ size y + 1) → ((y : Sen ℕ k) → need (make y) ≡ need y) → ((a : ℕ) (y : Sen ℕ k) → code a (make y) ≡ code a y ++ i ∷ []) →
      (m : Lexeme) → w.next.place ≤ m.place → 4 * w.next.place + 1 + spare l ≤ 4 * m.place + spare k → Lays text names table (moved_to w m) x names' table' v g → Lays text names table w z names' (put table' v.code (encode i [])) (one_instruction v) g
  unfolding moved_to one_instruction stand
  lays_more i s d c m h j p =
      lays (rw e (agrees_one make (λ y. laid_more (make y) i refl (s y) (d y) (c w.code y)) (resolve (room names) x) (stand text names w) (agrees p))) (omega (arith, p.small)) p.sound p.kept

module _ {text names names' : List ℕ} {table table' : List ℤ} {w v : Walk} {g : ℕ} where
  pub lays_bracket : {x : Sen Name expression} → Lays text names table w x names' table' v g → Lays text names table w (bracket x) names' table' v g
  unfolding resolve size need code spare
  lays_bracket = lays_same bracket refl (le_refl 2) (λ y. refl) (λ y. refl) (λ a y. refl)

  pub lays_first : {x : Sen Name factor} → Lays text names table w x names' table' v g → Lays text names table w (first x) names' table' v g
  unfolding resolve size need code spare
  lays_first = lays_same first refl (le_refl 2) (λ y. refl) (λ y. refl) (λ a y. refl)

  pub lays_unsigned : {x : Sen Name term} → Lays text names table w x names' table' v g → Lays text names table w (unsigned x) names' table' v g
  unfolding resolve size need code spare
  lays_unsigned = lays_same unsigned refl (le_refl 2) (λ y. refl) (λ y. refl) (λ a y. refl)

  pub lays_single : {x : Sen Name command} → Lays text names table w x names' table' v g → Lays text names table w (single x) names' table' v g
  unfolding resolve size need code spare
  lays_single = lays_same single refl (le_refl 1) (λ y. refl) (λ y. refl) (λ a y. refl)

  pub lays_signed_plus : {x : Sen Name term} (m : Lexeme) → w.next.place < m.place → Lays text names table (moved_to w m) x names' table' v g → Lays text names table w (signed plus x) names' table' v g
  unfolding resolve size need code spare
  lays_signed_plus m h p = lead m (omega arith) (lays_same (signed plus) refl (le_refl 2) (λ y. add-zero (size y)) (λ y. refl) (λ a y. append-nil (code a y)) p)

  pub lays_signed_minus : {x : Sen Name term} (m : Lexeme) → w.next.place < m.place → Lays text names table (moved_to w m) x names' table' v g → Lays text names table w (signed minus x) names' (put table' v.code (pos 14 ∷ pos 0 ∷ [])) (one_instruction v) g
  unfolding resolve size need code encode spare
  lays_signed_minus m h = lays_more (signed minus) refl negate (λ y. refl) (λ y. refl) (λ a y. refl) m (omega arith) (omega arith)

  pub lays_negated : {x : Sen Name condition} (m : Lexeme) → w.next.place < m.place → Lays text names table (moved_to w m) x names' table' v g → Lays text names table w (negated x) names' (put table' v.code (pos 15 ∷ pos 0 ∷ [])) (one_instruction v) g
  unfolding resolve size need code encode spare
  lays_negated m h = lays_more negated refl not (λ y. refl) (λ y. refl) (λ a y. refl) m (omega arith) (omega arith)

  pub lays_print : {x : Sen Name expression} → Lays text names table w x names' table' v g → Lays text names table w (print x) names' (put table' v.code (pos 17 ∷ pos 0 ∷ [])) (one_instruction v) g
  unfolding moved_to resolve size need code encode spare
  lays_print = lays_more print refl print_int (λ y. refl) (λ y. refl) (λ a y. refl) w.next (le_refl w.next.place) (omega arith)

-- ---- two parts

module _ {k j l : Kind} {text names names₁ names₂ : List ℕ} {table table₁ table₂ table₃ : List ℤ} {w c u v₂ v : Walk} {g h d : ℕ} {x : Sen Name k} {y : Sen Name j} {z : Sen Name l} where
  lays_two : (make : Sen ℕ k → Sen ℕ j → Sen ℕ l) → resolve (room names) z ≡ (resolve (room names) x >>= λ a. resolve (room names) y >>= λ b. give (make a b)) →
      Lays text names table w x names₁ table₁ c g → Lays text names₁ table₁ u y names₂ table₂ v₂ h → stand text names₁ u ≡ stand text names₁ c → stand text names₂ v₂ ≡ stand text names₂ v →
      ((a : Sen ℕ k) (b : Sen ℕ j) → Laid table table₁ w c g a → Laid table₁ table₂ u v₂ h b → Laid table table₃ w v d (make a b)) → Small l w v d → Sound names₂ → Lays text names table w z names₂ table₃ v d
  lays_two make e p q a b f s t =
      lays (rw (e, ← b) (agrees_two make f (resolve (room names) x) (resolve (room names) y) (stand text names w) (agrees p) after)) s t
      (kept_then p.kept q.kept)
    where
      after : Agrees (Laid table₁ table₂ u v₂ h) (stand text names₂ v₂) (pass (stand text names₁ c) (resolve (room names) y))
      after = rw (← a, ← p.kept.long) (agrees q)

-- the code of both parts, then an operation
laid_joined : {k j l : Kind} {table table₁ table₂ : List ℤ} {w c v : Walk} {g h : ℕ} {x : Sen ℕ k} {y : Sen ℕ j} (z : Sen ℕ l) (o : TwoSidedOperation) (n : ℤ) (m : Lexeme) → n ≡ number o →
    size z ≡ size x + size y + 1 → need z ≡ max (need x) (1 + need y) → code w.code z ≡ code w.code x ++ (code (w.code + size x) y ++ two_sided o ∷ []) →
    Laid table table₁ w c g x → Laid table₁ table₂ (moved_to c m) v h y → Laid table (put table₂ v.code (n ∷ pos 0 ∷ [])) w (one_instruction v) (max g (1 + h)) z
unfolding moved_to one_instruction encode
laid_joined {table} {table₁} {table₂} {w} {c} {v} {x} {y} z o n m e s d f p q = record {
  code = omega (arith, p.code, q.code, s);
  need = rw (d, ← p.need, ← q.need);
  numbers = sym (ap (emit table w.code) f ∙ emit_code table w.code x (code (w.code + size x) y ++ two_sided o ∷ [])
      ∙ rw (← p.code, ← p.numbers) (emit_code table₁ c.code y (two_sided o ∷ []) ∙ rw (← q.code, ← q.numbers, e) (emit_one table₂ v.code (two_sided o))));
}

module _ {text names names₁ names₂ : List ℕ} {table table₁ table₂ : List ℤ} {w left v : Walk} {g h : ℕ} where
  pub lays_multiply : {x : Sen Name term} {y : Sen Name factor} (o : Mul) (m : Lexeme) → left.next.place < m.place → Lays text names table w x names₁ table₁ left g → Lays text names₁ table₁ (moved_to left m) y names₂ table₂ v h →
      Lays text names table w (multiply x o y) names₂ (put table₂ v.code (operation_number (number_of (mul o)) ∷ pos 0 ∷ [])) (one_instruction v) (max g (1 + h))
  unfolding moved_to one_instruction stand resolve size need code spare
  lays_multiply o m i p q =
      lays_two (λ a b. multiply a o b) refl p q refl refl (λ a b. laid_joined (multiply a o b) (of_mul o) (operation_number (number_of (mul o))) m (mul_operation o) refl refl (code_multiply w.code a o b)) (omega (arith, p.small, q.small)) q.sound

  pub lays_add : {x : Sen Name expression} {y : Sen Name term} (o : Sign) (m : Lexeme) → left.next.place < m.place → Lays text names table w x names₁ table₁ left g → Lays text names₁ table₁ (moved_to left m) y names₂ table₂ v h →
      Lays text names table w (add x o y) names₂ (put table₂ v.code (operation_number (number_of (sign o)) ∷ pos 0 ∷ [])) (one_instruction v) (max g (1 + h))
  unfolding moved_to one_instruction stand resolve size need code spare
  lays_add o m i p q =
      lays_two (λ a b. add a o b) refl p q refl refl (λ a b. laid_joined (add a o b) (of_sign o) (operation_number (number_of (sign o))) m (sign_operation o) refl refl (code_add w.code a o b)) (omega (arith, p.small, q.small)) q.sound

  pub lays_compare : {x y : Sen Name expression} (o : Rel) (m : Lexeme) → left.next.place < m.place → Lays text names table w x names₁ table₁ left g → Lays text names₁ table₁ (moved_to left m) y names₂ table₂ v h →
      Lays text names table w (compare x o y) names₂ (put table₂ v.code (operation_number (number_of (rel o)) ∷ pos 0 ∷ [])) (one_instruction v) (max g (1 + h))
  unfolding moved_to one_instruction stand resolve size need code spare
  lays_compare o m i p q =
      lays_two (λ a b. compare a o b) refl p q refl refl (λ a b. laid_joined (compare a o b) (of_rel o) (operation_number (number_of (rel o))) m (rel_operation o) refl refl (code_compare w.code a o b)) (omega (arith, p.small, q.small)) q.sound

-- ---- bodies

-- WHILE, whose body is done again, or IF
unfoldable pub guarded : {A : Type 0} → Bool → Sen A condition → Sen A command → Sen A command
guarded true x y = while x y
guarded false x y = when x y

-- the condition's code, and its jump over the rest to the walk's end
laid_over : {table table₁ table₂ : List ℤ} {w c v : Walk} {g d : ℕ} {x : Sen ℕ condition} (z : Sen ℕ command) (is : List Instruction) → code w.code z ≡ code w.code x ++ jump_if_false v.code ∷ is →
    v.code ≡ w.code + size z → d ≡ need z → Laid table table₁ w c g x → table₂ ≡ emit table₁ (c.code + 1) is → Laid table (put table₂ c.code (pos 6 ∷ pos v.code ∷ [])) w v d z
unfolding encode
laid_over {table} {table₁} {w} {c} {v} {x} z is e s n p t = record {
  code = s;
  need = n;
  numbers = rw (t, e, emit_code table w.code x (jump_if_false v.code ∷ is), ← p.code, ← p.numbers) (put_before table₁ c.code (jump_if_false v.code) is);
}

module _ {table table₁ table₂ : List ℤ} {w c v : Walk} {g h : ℕ} {x : Sen ℕ condition} {y : Sen ℕ command} (m : Lexeme) (p : Laid table table₁ w c g x) (q : Laid table₁ table₂ (one_instruction (moved_to c m)) v h y) where
  pub laid_guarded : (again : Bool) → let u = ended_walk again v in Laid table (put (ended_table again table₂ v.code w.code) c.code (pos 6 ∷ pos u.code ∷ [])) w u (max g h) (guarded again x y)
  unfolding moved_to one_instruction size need code encode ended_walk ended_table guarded
  laid_guarded true = laid_over (while x y) (code (c.code + 1) y ++ jump w.code ∷ []) (code_while w.code x y ∙ rw (q.code, p.code) refl) (omega (arith, p.code, q.code)) (ap₂ max p.need q.need) p (sym (emit_code table₁ (c.code + 1) y (jump w.code ∷ []) ∙ rw (← q.code, ← q.numbers) (emit_one table₂ v.code (jump w.code))))
  laid_guarded false = laid_over (when x y) (code (c.code + 1) y) (code_when w.code x y ∙ rw (q.code, p.code) refl) (omega (arith, p.code, q.code)) (ap₂ max p.need q.need) p q.numbers

laid_then : {table table₁ table₂ : List ℤ} {w c v : Walk} {g h : ℕ} {x : Sen ℕ commands} {y : Sen ℕ command} → Laid table table₁ w c g x → Laid table₁ table₂ c v h y → Laid table table₂ w v (max g h) (then x y)
unfolding size need code
laid_then {table} {w} {x} {y} p q = record {
  code = omega (arith, p.code, q.code);
  need = ap₂ max p.need q.need;
  numbers = q.numbers ∙ sym (ap (emit table w.code) (code_then w.code x y) ∙ emit_code table w.code x (code (w.code + size x) y) ∙ rw (← p.code, ← p.numbers) refl);
}

module _ {text names names₁ names₂ : List ℕ} {table table₁ table₂ : List ℤ} {w c v : Walk} {g h : ℕ} {y : Sen Name command} where
  pub lays_then : {x : Sen Name commands} → Lays text names table w x names₁ table₁ c g → Lays text names₁ table₁ c y names₂ table₂ v h → Lays text names table w (then x y) names₂ table₂ v (max g h)
  unfolding stand resolve spare
  lays_then p q = lays_two then refl p q refl refl (λ a b. laid_then {x = a} {y = b}) (omega (arith, p.small, q.small)) q.sound

-- ---- what the next reader may be called with

module _ {text names : List ℕ} {w : Walk} {allow : ℕ} (r : Ready text names w allow) where
  -- before the lexeme m, with no more nestings allowed
  pub ready_moved : (m : Lexeme) (fewer : ℕ) → fewer ≤ allow → w.next.place ≤ m.place → Stands text m → Ready text names (moved_to w m) fewer
  unfolding moved_to
  ready_moved m fewer f h s = record { stands = s; short = r.short; code = omega (arith, r.code); sound = r.sound; allowed = omega (arith, r.allowed) }

  module _ {names' : List ℕ} {table table' : List ℤ} {v : Walk} {g : ℕ} {k : Kind} {x : Sen Name k} (p : Lays text names table w x names' table' v g) where
    -- the counts are in the range of the code's numbers
    pub counts_fit : Stands text v.next → (v.code < 10000000) × (g < 10000000)
    counts_fit s = (omega (arith, r.short, r.code, p.small), omega (arith, r.short, p.small))

    -- after a construct
    pub ready_after : Stands text v.next → Ready text names' v allow
    ready_after s = record { stands = s; short = r.short; code = omega (arith, r.code, p.small); sound = p.sound; allowed = omega (arith, r.allowed, p.kept.blocks) }

    -- and after the lexeme before m, with a place left free for a jump
    pub ready_body : (m : Lexeme) → v.next.place < m.place → Stands text m → Ready text names' (one_instruction (moved_to v m)) allow
    unfolding moved_to one_instruction
    ready_body m h s = record { stands = s; short = r.short; code = omega (arith, r.code, p.small); sound = p.sound; allowed = omega (arith, r.allowed, p.kept.blocks) }
