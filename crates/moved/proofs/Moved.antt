-- A sentence whose names and strings stand at other places is spelled by the same lexemes there, and is as deep. Assumes nothing.
use mathlib.Core.Path.{◌≡◌, refl, sym, subst}
use mathlib.Core.List.{List, ◌∷◌, map, map-append}
use Prim.Native.Nat.{ℕ, suc, ◌≤◌}
use lib.ListN.{get_or}
use Rattle.lexeme.specs.Lexemes.{Name, Quoted, Lexeme, lit, name, class, string, fixed}
use Rattle.sentence.specs.Sentences.{Sign, plus, minus, Mul, times, over, Rel, less, greater, equal, sign, mul, rel, Kind, Sen, command, literal, variable, bracket, first, multiply, unsigned, signed, add, negated, compare, print, print_line, print_string, declare, input, assign, error, while, when, block, single, then, spell, program, nestings, program_nestings}
use Rattle.sentence.specs.Grammar.{Whole, Shallow}

-- ---- the tree and the lexemes

module _ {A B : Type 0} (g : A → B) (h : Quoted → Quoted) where
  -- with g of each variable and h of each string
  unfoldable pub moved : {k : Kind} → Sen A k → Sen B k
  moved (literal n) = literal n
  moved (variable x) = variable (g x)
  moved (bracket e) = bracket (moved e)
  moved (first f) = first (moved f)
  moved (multiply t o f) = multiply (moved t) o (moved f)
  moved (unsigned t) = unsigned (moved t)
  moved (signed s t) = signed s (moved t)
  moved (add e s t) = add (moved e) s (moved t)
  moved (negated c) = negated (moved c)
  moved (compare d r e) = compare (moved d) r (moved e)
  moved (print e) = print (moved e)
  moved (print_line q) = print_line (h q)
  moved (print_string q) = print_string (h q)
  moved (declare x) = declare (g x)
  moved (input x) = input (g x)
  moved (assign x e) = assign (g x) (moved e)
  moved error = error
  moved (while c m) = while (moved c) (moved m)
  moved (when c m) = when (moved c) (moved m)
  moved (block ms) = block (moved ms)
  moved (single m) = single (moved m)
  moved (then ms m) = then (moved ms) (moved m)

module _ (g : Name → Name) (h : Quoted → Quoted) where
  unfoldable pub moved_lexeme : Lexeme → Lexeme
  moved_lexeme (lit n) = lit n
  moved_lexeme (name x) = name (g x)
  moved_lexeme (class x) = class (g x)
  moved_lexeme (string q) = string (h q)
  moved_lexeme (fixed f) = fixed f

  -- ---- how it is spelled

  moved_sign : (s : Sign) → moved_lexeme (sign s) ≡ sign s
  unfolding moved_lexeme sign
  moved_sign plus = refl
  moved_sign minus = refl

  moved_mul : (o : Mul) → moved_lexeme (mul o) ≡ mul o
  unfolding moved_lexeme mul
  moved_mul times = refl
  moved_mul over = refl

  moved_rel : (r : Rel) → moved_lexeme (rel r) ≡ rel r
  unfolding moved_lexeme rel
  moved_rel less = refl
  moved_rel greater = refl
  moved_rel equal = refl

  pub spell_moved : {k : Kind} (x : Sen Name k) → spell (moved g h x) ≡ map moved_lexeme (spell x)
  unfolding spell moved moved_lexeme
  spell_moved (literal n) = refl
  spell_moved (variable x) = refl
  spell_moved (bracket e) = rw (spell_moved e, map-append moved_lexeme)
  spell_moved (first f) = spell_moved f
  spell_moved (multiply t o f) = rw (spell_moved t, spell_moved f, map-append moved_lexeme, moved_mul o)
  spell_moved (unsigned t) = spell_moved t
  spell_moved (signed s t) = rw (spell_moved t, moved_sign s)
  spell_moved (add e s t) = rw (spell_moved e, spell_moved t, map-append moved_lexeme, moved_sign s)
  spell_moved (negated c) = rw (spell_moved c)
  spell_moved (compare d r e) = rw (spell_moved d, spell_moved e, map-append moved_lexeme, moved_rel r)
  spell_moved (print e) = rw (spell_moved e)
  spell_moved (print_line q) = refl
  spell_moved (print_string q) = refl
  spell_moved (declare x) = refl
  spell_moved (input x) = refl
  spell_moved (assign x e) = rw (spell_moved e)
  spell_moved error = refl
  spell_moved (while c m) = rw (spell_moved c, spell_moved m, map-append moved_lexeme)
  spell_moved (when c m) = rw (spell_moved c, spell_moved m, map-append moved_lexeme)
  spell_moved (block ms) = rw (spell_moved ms, map-append moved_lexeme)
  spell_moved (single m) = spell_moved m
  spell_moved (then ms m) = rw (spell_moved ms, spell_moved m, map-append moved_lexeme)

  pub whole_moved : (ls : List Lexeme) (m : Sen Name command) → Whole ls m → Whole (map moved_lexeme ls) (moved g h m)
  unfolding Whole program moved_lexeme
  whole_moved ls m w = rw (spell_moved m, ← w, map-append moved_lexeme)

  -- ---- how deep it is

  pub nestings_moved : {k : Kind} (d : ℕ) (x : Sen Name k) → nestings d (moved g h x) ≡ nestings d x
  unfolding nestings moved
  nestings_moved d (literal n) = refl
  nestings_moved d (variable x) = refl
  nestings_moved d (bracket e) = rw (nestings_moved (suc d) e)
  nestings_moved d (first f) = nestings_moved d f
  nestings_moved d (multiply t o f) = rw (nestings_moved d t, nestings_moved d f)
  nestings_moved d (unsigned t) = nestings_moved d t
  nestings_moved d (signed s t) = rw (nestings_moved d t)
  nestings_moved d (add e s t) = rw (nestings_moved d e, nestings_moved d t)
  nestings_moved d (negated c) = rw (nestings_moved (suc d) c)
  nestings_moved d (compare l r e) = rw (nestings_moved d l, nestings_moved d e)
  nestings_moved d (print e) = rw (nestings_moved d e)
  nestings_moved d (print_line q) = refl
  nestings_moved d (print_string q) = refl
  nestings_moved d (declare x) = refl
  nestings_moved d (input x) = refl
  nestings_moved d (assign x e) = rw (nestings_moved d e)
  nestings_moved d error = refl
  nestings_moved d (while c m) = rw (nestings_moved (suc d) c, nestings_moved (suc d) m)
  nestings_moved d (when c m) = rw (nestings_moved (suc d) c, nestings_moved (suc d) m)
  nestings_moved d (block ms) = rw (nestings_moved (suc d) ms)
  nestings_moved d (single m) = nestings_moved d m
  nestings_moved d (then ms m) = rw (nestings_moved d ms, nestings_moved d m)

  pub shallow_moved : (limit : ℕ) (m : Sen Name command) → Shallow limit m → Shallow limit (moved g h m)
  unfolding Shallow program_nestings
  shallow_moved limit m s i = subst (λ (ds : List ℕ). get_or (0 ∷ ds) i 0 ≤ limit) (sym (nestings_moved 0 m)) (s i)
