-- What is so of every variable and of every string of a sentence.
use Rattle.lexeme.specs.Lexemes.{Quoted}
use Rattle.sentence.specs.Sentences.{Kind, Sen, literal, variable, bracket, first, multiply, unsigned, signed, add, negated, compare, print, print_line, print_string, declare, input, assign, error, while, when, block, single, then}

module _ {Var : Type 0} (P : Var → Type 0) (Q : Quoted → Type 0) where
  -- each variable has P, and each string has Q
  unfoldable pub Each : {k : Kind} → Sen Var k → Type 0
  Each (literal n) = Unit {0}
  Each (variable x) = P x
  Each (bracket e) = Each e
  Each (first f) = Each f
  Each (multiply t o f) = Each t × Each f
  Each (unsigned t) = Each t
  Each (signed g t) = Each t
  Each (add e g t) = Each e × Each t
  Each (negated c) = Each c
  Each (compare d r e) = Each d × Each e
  Each (print e) = Each e
  Each (print_line q) = Q q
  Each (print_string q) = Q q
  Each (declare x) = P x
  Each (input x) = P x
  Each (assign x e) = P x × Each e
  Each error = Unit {0}
  Each (while c m) = Each c × Each m
  Each (when c m) = Each c × Each m
  Each (block ms) = Each ms
  Each (single m) = Each m
  Each (then ms m) = Each ms × Each m
