-- Laws for a `match` on a byte over a table. Assumes nothing.
use mathlib.Core.Path.{◌≡◌, refl, sym, ap, ◌∙◌}
use mathlib.Core.List.{List, [], ◌∷◌}
use mathlib.Core.Bool.{Bool, true, false}
use Prim.Native.Nat.{ℕ, ◌+◌}
use borrow.Author.Tests.{ne_eqb}
use Rattle.base.specs.declared.Refusal.TheVariants.{NoLexeme}
use Rattle.base.specs.Answers.{refused}
use Rattle.lexeme.specs.Lexemes.{fixed, Symbol, symbol, found}

-- what holds of each element of a list
infixr 5 ◌also◌
pub data Each {A : Type 0} (P : A → Type 0) : List A → Type 0 where
  nil : Each P []
  ◌also◌ : {a : A} {rest : List A} → P a → Each P rest → Each P (a ∷ rest)

-- a byte that is no symbol
pub symbol_none : (p b : ℕ) {ys : List Symbol} → Each (λ (y : Symbol). b ≡ y.byte → ⊥) ys → refused NoLexeme p ≡ symbol ys p b
unfolding symbol
symbol_none p b nil = refl
symbol_none p b (◌also◌ {a = y} {rest = ys} h hs) = symbol_none p b hs ∙ ap (λ (t : Bool). elim t [ true ↦ found p (fixed y.means) (p + 1) | false ↦ symbol ys p b ]) (sym (ne_eqb b y.byte h))
