-- Every string of a text's Program stands in the text: between its place and the next quote are its bytes.
use mathlib.Core.Path.{◌≡◌, sym, subst}
use mathlib.Core.List.{List, [], ◌∷◌, ◌++◌}
use Prim.Native.Nat.{ℕ}
use borrow.Author.Tests.{lt-ltb}
use Rattle.base.specs.Answers.{given}
use Rattle.lexeme.specs.Lexemes.{Name, Lexeme, lit, name, class, string, fixed, Placed, lexeme, Sizes, next, lexemes}
use Rattle.lexeme.proofs.Places.{Written, next_fits}
use Rattle.lexeme.proofs.Symbols.{Each as EachOf, nil, ◌also◌}
use Rattle.lexeme.proofs.Ahead.{lexemes_each}
use Rattle.sentence.specs.Sentences.{Kind, Sen, command, spell, program, literal, variable, bracket, first, multiply, unsigned, signed, add, negated, compare, print, print_line, print_string, declare, input, assign, error, while, when, block, single, then}
use Rattle.sentence.specs.Grammar.{Whole, whats}
use Rattle.sentence.proofs.Parts.{Each}
use Rattle.rules.specs.Machine as M
use Rattle.meaning.proofs.Fits.{InText}

module _ (text : List ℕ) where
  -- a lexeme that is a string stands in the text
  abbrev pub Good : Lexeme → Type 0
  Good (lit n) = Unit {0}
  Good (name x) = Unit {0}
  Good (class x) = Unit {0}
  Good (string q) = InText text q
  Good (fixed f) = Unit {0}

  next_good : (at : ℕ) (m : Placed) (e : ℕ) → next text at ≡ given (lexeme m e) → Good m.what
  unfolding M.string M.closed
  next_good at m e n = by m.what (next_fits text at m e n).1.written
    where
      by : (l : Lexeme) → Written text m.place e l → Good l
      by (lit v) w = tt
      by (name x) w = tt
      by (class x) w = tt
      by (string q) w = (rw w.1.inside (lt-ltb _ _ w.1.quote), w.1.inside)
      by (fixed f) w = tt

  pub data All : List Lexeme → Type 0 where
    none : All []
    one : {l : Lexeme} {ls : List Lexeme} → Good l → All ls → All (l ∷ ls)

  all_of : {ls : List Placed} → EachOf (λ (l : Placed). Good l.what) ls → All (whats ls)
  unfolding whats
  all_of nil = none
  all_of (h also hs) = one h (all_of hs)

  head_good : {l : Lexeme} {ls : List Lexeme} → All (l ∷ ls) → Good l
  head_good (one g h) = g

  tail_good : {l : Lexeme} {ls : List Lexeme} → All (l ∷ ls) → All ls
  tail_good (one g h) = h

  left_good : (xs ys : List Lexeme) → All (xs ++ ys) → All xs
  left_good [] ys h = none
  left_good (x ∷ xs) ys h = one (head_good h) (left_good xs ys (tail_good h))

  right_good : (xs ys : List Lexeme) → All (xs ++ ys) → All ys
  right_good [] ys h = h
  right_good (x ∷ xs) ys h = right_good xs ys (tail_good h)

  -- the strings of a sentence are among the lexemes that spell it
  strings_good : {k : Kind} (x : Sen Name k) → All (spell x) → Each (λ _. Unit {0}) (InText text) x
  unfolding spell Each
  strings_good (literal n) h = tt
  strings_good (variable x) h = tt
  strings_good (bracket e) h = strings_good e (left_good (spell e) _ (tail_good h))
  strings_good (first f) h = strings_good f h
  strings_good (multiply t o f) h = (strings_good t (left_good (spell t) _ h), strings_good f (tail_good (right_good (spell t) _ h)))
  strings_good (unsigned t) h = strings_good t h
  strings_good (signed s t) h = strings_good t (tail_good h)
  strings_good (add e s t) h = (strings_good e (left_good (spell e) _ h), strings_good t (tail_good (right_good (spell e) _ h)))
  strings_good (negated c) h = strings_good c (tail_good h)
  strings_good (compare d r e) h = (strings_good d (left_good (spell d) _ h), strings_good e (tail_good (right_good (spell d) _ h)))
  strings_good (print e) h = strings_good e (tail_good h)
  strings_good (print_line q) h = head_good (tail_good h)
  strings_good (print_string q) h = head_good (tail_good h)
  strings_good (declare x) h = tt
  strings_good (input x) h = tt
  strings_good (assign x e) h = (tt, strings_good e (tail_good (tail_good h)))
  strings_good error h = tt
  strings_good (while c m) h = (strings_good c (left_good (spell c) _ (tail_good h)), strings_good m (tail_good (right_good (spell c) _ (tail_good h))))
  strings_good (when c m) h = (strings_good c (left_good (spell c) _ (tail_good h)), strings_good m (tail_good (right_good (spell c) _ (tail_good h))))
  strings_good (block ms) h = strings_good ms (left_good (spell ms) _ (tail_good h))
  strings_good (single m) h = strings_good m h
  strings_good (then ms m) h = (strings_good ms (left_good (spell ms) _ h), strings_good m (right_good (spell ms) _ h))

  pub program_strings : (sizes : Sizes) (ls : List Placed) (m : Sen Name command) → lexemes sizes text ≡ given ls → Whole (whats ls) m → Each (λ _. Unit {0}) (InText text) m
  unfolding Whole program
  program_strings sizes ls m e w = strings_good m (left_good (spell m) _ (tail_good (subst All (sym w) (all_of (lexemes_each sizes text Good next_good tt ls e)))))
