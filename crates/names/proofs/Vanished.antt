-- What a scope declares vanishes at its end: after a block, an IF or a WHILE the visible names are those that were visible before it. Assumes nothing.
use mathlib.Core.Path.{◌≡◌, refl, sym, ap, ◌∙◌}
use mathlib.Core.List.{List, [], ◌∷◌}
use mathlib.Core.Bool.{Bool, true, false}
use Prim.Native.Nat.{ℕ}
use Rattle.base.specs.Answers.{Answer, given, refused, pass}
use Rattle.base.specs.Bytes.{same}
use Rattle.lexeme.specs.Lexemes.{Name}
use Rattle.lexeme.proofs.Ahead.{no_refusal}
use Rattle.sentence.specs.Sentences.{Kind, Sen, factor, term, expression, condition, command, commands, literal, variable, bracket, first, multiply, unsigned, signed, add, negated, compare, print, print_line, print_string, declare, input, assign, error, while, when, block, single, then}
use Rattle.names.specs.Names.{Declaration, Scope, Known, Naming, ◌>>=◌, give, look_up, used, opened, closed, scoped, resolve}

-- after it the visible names are those before it
pub record Keeps {A : Type 0} (m : Naming A) : Type 0 where
  pub visible : (s : Scope) (k : Known A) → m s ≡ given k → k.scope.visible ≡ s.visible

module _ {A : Type 0} where
  same_visible : {j k : Known A} → given j ≡ given k → k.scope.visible ≡ j.scope.visible
  same_visible {j} {k} e = let h : j ≡ k = cc in ap (λ (i : Known A). i.scope.visible) (sym h)

  gives : (a : A) → Keeps (give a)
  unfolding give
  gives a = record { visible = λ s k e. same_visible e }

  -- whatever is worked out inside it
  vanishes : (m : Naming A) → Keeps (scoped m)
  unfolding scoped
  vanishes m = record { visible = λ s k. by s k (m (opened s)) }
    where
      by : (s : Scope) (k : Known A) (o : Answer (Known A)) → pass o (λ a. given (record { what = a.what; scope = closed s a.scope })) ≡ given k → k.scope.visible ≡ s.visible
      by s k (given j) e = unfold pass closed in same_visible e
      by s k (refused why p) e = unfold pass in absurd (no_refusal e)

  binds : {B : Type 0} {m : Naming B} {f : B → Naming A} → Keeps m → ((b : B) → Keeps (f b)) → Keeps (m >>= f)
  unfolding ◌>>=◌
  binds {B} {m} {f} p q = record { visible = λ s k. by s k (m s) refl }
    where
      by : (s : Scope) (k : Known A) (o : Answer (Known B)) → m s ≡ o → pass o (λ b. f b.what b.scope) ≡ given k → k.scope.visible ≡ s.visible
      by s k (given j) i e = unfold pass in (q j.what).visible j.scope k e ∙ p.visible s j i
      by s k (refused why p) i e = unfold pass in absurd (no_refusal e)

uses : (x : Name) → Keeps (used x)
unfolding used look_up
uses x = record { visible = λ s k. by s k s.visible }
  where
    by : (s : Scope) (k : Known ℕ) (ds : List Declaration) → look_up ds x s ≡ given k → k.scope.visible ≡ s.visible
    by s k [] e = absurd (no_refusal e)
    by s k (d ∷ ds) e = either (by s k ds) (same d.spelled x.spelled) e
      where
        either : (look_up ds x s ≡ given k → k.scope.visible ≡ s.visible) → (b : Bool) → elim b as (λ _. Answer (Known ℕ)) [ true ↦ given (record { what = d.cell; scope = s }) | false ↦ look_up ds x s ] ≡ given k → k.scope.visible ≡ s.visible
        either rest true e = same_visible e
        either rest false e = rest e

-- commands declare, and nothing else does
NoCommand : Kind → Type 0
NoCommand factor = Unit {0}
NoCommand term = Unit {0}
NoCommand expression = Unit {0}
NoCommand condition = Unit {0}
NoCommand command = ⊥
NoCommand commands = ⊥

module _ (limit : ℕ) where
  declares_nothing : {k : Kind} (x : Sen Name k) → NoCommand k → Keeps (resolve limit x)
  unfolding resolve NoCommand
  declares_nothing (literal n) h = gives _
  declares_nothing (variable x) h = binds (uses x) (λ c. gives _)
  declares_nothing (bracket e) h = binds (declares_nothing e tt) (λ _. gives _)
  declares_nothing (first f) h = binds (declares_nothing f tt) (λ _. gives _)
  declares_nothing (multiply t o f) h = binds (declares_nothing t tt) (λ _. binds (declares_nothing f tt) (λ _. gives _))
  declares_nothing (unsigned t) h = binds (declares_nothing t tt) (λ _. gives _)
  declares_nothing (signed g t) h = binds (declares_nothing t tt) (λ _. gives _)
  declares_nothing (add e g t) h = binds (declares_nothing e tt) (λ _. binds (declares_nothing t tt) (λ _. gives _))
  declares_nothing (negated c) h = binds (declares_nothing c tt) (λ _. gives _)
  declares_nothing (compare d r e) h = binds (declares_nothing d tt) (λ _. binds (declares_nothing e tt) (λ _. gives _))
  declares_nothing (print e) h = absurd h
  declares_nothing (print_line q) h = absurd h
  declares_nothing (print_string q) h = absurd h
  declares_nothing (declare x) h = absurd h
  declares_nothing (input x) h = absurd h
  declares_nothing (assign x e) h = absurd h
  declares_nothing error h = absurd h
  declares_nothing (while c m) h = absurd h
  declares_nothing (when c m) h = absurd h
  declares_nothing (block ms) h = absurd h
  declares_nothing (single m) h = absurd h
  declares_nothing (then ms m) h = absurd h

  pub after_block : (ms : Sen Name commands) → Keeps (resolve limit (block ms))
  unfolding resolve
  after_block ms = binds (vanishes (resolve limit ms)) (λ _. gives _)

  after_body : (make : Sen ℕ condition → Sen ℕ command → Sen ℕ command) (c : Sen Name condition) (m : Sen Name command) → Keeps (resolve limit c >>= λ c'. scoped (resolve limit m) >>= λ m'. give (make c' m'))
  unfolding NoCommand
  after_body make c m = binds (declares_nothing c tt) (λ _. binds (vanishes (resolve limit m)) (λ _. gives _))

  pub after_while : (c : Sen Name condition) (m : Sen Name command) → Keeps (resolve limit (while c m))
  unfolding resolve
  after_while = after_body while

  pub after_when : (c : Sen Name condition) (m : Sen Name command) → Keeps (resolve limit (when c m))
  unfolding resolve
  after_when = after_body when
