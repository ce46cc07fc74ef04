-- An answer, or a refusal: why, and its place. Refusals are passed on, so the first in order is the one given.
use Rattle.std.specs.Prelude.{ℕ}
use Rattle.base.specs.declared.Refusal.{Refusal}
use Rattle.base.specs.declared.Refusal.TheVariants.{TooLong, NoLexeme, TooLarge, NoProgram, TooDeep, Undeclared, TooManyDeclared, TooMuchCode}

-- document 01, "Refused texts": the number of each
unfoldable pub number : Refusal → ℕ
number TooLong = 1
number NoLexeme = 2
number TooLarge = 3
number NoProgram = 4
number TooDeep = 5
number Undeclared = 6
number TooManyDeclared = 7
number TooMuchCode = 8

pub data Answer (A : Type 0) : Type 0 where
  given : A → Answer A
  refused : Refusal → ℕ → Answer A

unfoldable pub pass : {A B : Type 0} → Answer A → (A → Answer B) → Answer B
pass (given a) f = f a
pass (refused why p) f = refused why p
