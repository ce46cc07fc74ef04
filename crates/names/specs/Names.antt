-- Document 01, "Sentences", on names, and refusals 6 and 7: a tree over names becomes a tree over cells.
use Rattle.std.specs.Prelude.{List, [], ◌∷◌, true, false, cond, ℕ, suc, ltb}
use Rattle.base.specs.declared.Refusal.TheVariants.{Undeclared, TooManyDeclared}
use Rattle.base.specs.Answers.{Answer, given, refused, pass}
use Rattle.base.specs.Bytes.{same}
use Rattle.lexeme.specs.Lexemes.{Name}
use Rattle.sentence.specs.Sentences.{Kind, Sen, command, literal, variable, bracket, first, multiply, unsigned, signed, add, negated, compare, print, print_line, print_string, declare, input, assign, error, while, when, block, single, then}

-- a declaration: how its name is spelled, its cell, and the block that it stands in, of a brace or of a body: how many are open there
pub record Declaration : Type 0 where
  pub spelled : List ℕ
  pub cell : ℕ
  pub block : ℕ

-- what is known at a place of a text
pub record Scope : Type 0 where
  -- the declarations still visible, the latest first
  pub visible : List Declaration
  -- how many the text has had so far, which is what refusal 7 counts
  pub declared : ℕ
  -- the cell that the next one gets
  pub next_cell : ℕ
  -- how many cells there are so far
  pub cells : ℕ
  -- how many blocks are open, of braces and of bodies
  pub blocks : ℕ

abbrev pub nothing_declared : Scope
nothing_declared = record { visible = []; declared = 0; next_cell = 0; cells = 0; blocks = 0 }

-- what is worked out in a scope, with the scope after it
pub record Known (A : Type 0) : Type 0 where
  pub what : A
  pub scope : Scope

abbrev pub Naming : Type 0 → Type 0
Naming A = Scope → Answer (Known A)

infixl 20 ◌>>=◌
unfoldable pub ◌>>=◌ : {A B : Type 0} → Naming A → (A → Naming B) → Naming B
◌>>=◌ m f = λ s. pass (m s) (λ a. f a.what a.scope)

unfoldable pub give : {A : Type 0} → A → Naming A
give a = λ s. given (record { what = a; scope = s })

-- the latest declaration of the name that is still visible
unfoldable pub look_up : List Declaration → Name → Naming ℕ
look_up [] x s = refused Undeclared x.place
look_up (d ∷ ds) x s = elim (same d.spelled x.spelled) [ true ↦ given (record { what = d.cell; scope = s }) | false ↦ look_up ds x s ]

unfoldable pub used : Name → Naming ℕ
used x = λ s. look_up s.visible x s

-- one declaration more. Cell k, counted from 0, belongs to the k-th declaration in the text; cells aren't shared.
unfoldable pub one_more : Name → Scope → Scope
one_more x s = record {
  visible = record { spelled = x.spelled; cell = s.next_cell; block = s.blocks } ∷ s.visible;
  declared = suc s.declared;
  next_cell = suc s.next_cell;
  cells = suc s.cells;
  blocks = s.blocks;
}

unfoldable pub declared_here : ℕ → Name → Naming ℕ
declared_here limit x = λ s. cond (ltb s.declared limit) (given (record { what = s.next_cell; scope = one_more x s })) (refused TooManyDeclared x.place)

-- a scope is opened by a brace, and by the body of an IF or a WHILE; its declarations vanish at its end
unfoldable pub opened : Scope → Scope
opened s = record s { blocks = suc s.blocks }

unfoldable pub closed : Scope → Scope → Scope
closed before s = record s { visible = before.visible; blocks = before.blocks }

unfoldable pub scoped : {A : Type 0} → Naming A → Naming A
scoped m = λ s. pass (m (opened s)) (λ a. given (record { what = a.what; scope = closed s a.scope }))

module _ (limit : ℕ) where
  -- from left to right, so that the leftmost of 6 and 7 is given
  unfoldable pub resolve : {k : Kind} → Sen Name k → Naming (Sen ℕ k)
  resolve (literal n) = give (literal n)
  resolve (variable x) = do c ← used x; give (variable c)
  resolve (bracket e) = do e' ← resolve e; give (bracket e')
  resolve (first f) = do f' ← resolve f; give (first f')
  resolve (multiply t o f) = do t' ← resolve t; f' ← resolve f; give (multiply t' o f')
  resolve (unsigned t) = do t' ← resolve t; give (unsigned t')
  resolve (signed g t) = do t' ← resolve t; give (signed g t')
  resolve (add e g t) = do e' ← resolve e; t' ← resolve t; give (add e' g t')
  resolve (negated c) = do c' ← resolve c; give (negated c')
  resolve (compare d r e) = do d' ← resolve d; e' ← resolve e; give (compare d' r e')
  resolve (print e) = do e' ← resolve e; give (print e')
  resolve (print_line q) = give (print_line q)
  resolve (print_string q) = give (print_string q)
  resolve (declare x) = do c ← declared_here limit x; give (declare c)
  resolve (input x) = do c ← used x; give (input c)
  resolve (assign x e) = do c ← used x; e' ← resolve e; give (assign c e')
  resolve error = give error
  resolve (while c m) = do c' ← resolve c; m' ← scoped (resolve m); give (while c' m')
  resolve (when c m) = do c' ← resolve c; m' ← scoped (resolve m); give (when c' m')
  resolve (block ms) = do ms' ← scoped (resolve ms); give (block ms')
  resolve (single m) = do m' ← resolve m; give (single m')
  resolve (then ms m) = do ms' ← resolve ms; m' ← resolve m; give (then ms' m')

  -- a Program's command over cells, and how many cells there are
  unfoldable pub resolved : Sen Name command → Answer (Known (Sen ℕ command))
  resolved m = resolve m nothing_declared
