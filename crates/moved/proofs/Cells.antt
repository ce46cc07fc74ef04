-- A sentence whose names stand at other places, spelled as before, resolves to the same cells. Assumes nothing.
use mathlib.Core.Path.{◌≡◌, refl, ap}
use mathlib.Core.List.{List, [], ◌∷◌}
use mathlib.Core.Bool.{Bool, true, false, cond}
use Prim.Native.Nat.{ℕ}
use lib.Dec.{ltb}
use Rattle.base.specs.declared.Refusal.TheVariants.{TooManyDeclared}
use Rattle.base.specs.Answers.{Answer, given, refused, pass}
use Rattle.base.specs.Bytes.{same}
use Rattle.lexeme.specs.Lexemes.{Name, Quoted}
use Rattle.lexeme.proofs.Ahead.{no_refusal}
use Rattle.sentence.specs.Sentences.{Kind, Sen, literal, variable, bracket, first, multiply, unsigned, signed, add, negated, compare, print, print_line, print_string, declare, input, assign, error, while, when, block, single, then}
use Rattle.names.specs.Names.{Declaration, Scope, Known, Naming, ◌>>=◌, give, look_up, used, one_more, declared_here, opened, closed, scoped, resolve}
use Rattle.moved.proofs.Moved.{moved}

module _ {A B : Type 0} (F : A → B) where
  -- F of what is worked out, in the same scope
  abbrev known_as : Known A → Known B
  known_as r = record { what = F r.what; scope = r.scope }

  -- where m gives an answer, n gives F of it and leaves the same scope
  record Follows (m : Naming A) (n : Naming B) : Type 0 where
    follows : (s : Scope) (r : Known A) → m s ≡ given r → n s ≡ given (known_as r)

  known_same : {j r : Known A} → given j ≡ given r → given (known_as j) ≡ given (known_as r)
  known_same {j} {r} e = let i : j ≡ r = cc in ap (λ (x : Known A). given (known_as x)) i

  gives : (a : A) → Follows (give a) (give (F a))
  unfolding give
  gives a = record { follows = λ s r e. known_same e }

  scopes : {m : Naming A} {n : Naming B} → Follows m n → Follows (scoped m) (scoped n)
  unfolding scoped
  scopes {m} {n} f = record { follows = λ s r. by s r (m (opened s)) refl }
    where
      by : (s : Scope) (r : Known A) (o : Answer (Known A)) → m (opened s) ≡ o → pass o (λ a. given (record { what = a.what; scope = closed s a.scope })) ≡ given r
          → pass (n (opened s)) (λ b. given (record { what = b.what; scope = closed s b.scope })) ≡ given (known_as r)
      by s r (given j) i e = unfold pass in rw (f.follows (opened s) j i) (known_same e)
      by s r (refused why p) i e = unfold pass in absurd (no_refusal e)

module _ {A B C D : Type 0} {F : A → B} {G : C → D} {m : Naming A} {n : Naming B} {f : A → Naming C} (g : B → Naming D) where
  binds : Follows F m n → ((a : A) → Follows G (f a) (g (F a))) → Follows G (m >>= f) (n >>= g)
  unfolding ◌>>=◌
  binds p q = record { follows = λ s r. by s r (m s) refl }
    where
      by : (s : Scope) (r : Known C) (o : Answer (Known A)) → m s ≡ o → pass o (λ a. f a.what a.scope) ≡ given r → pass (n s) (λ b. g b.what b.scope) ≡ given (known_as G r)
      by s r (given j) i e = unfold pass in rw (p.follows s j i) ((q j.what).follows j.scope r e)
      by s r (refused why p) i e = unfold pass in absurd (no_refusal e)

module _ (limit : ℕ) (g : Name → Name) (h : Quoted → Quoted) (spelled : (x : Name) → (g x).spelled ≡ x.spelled) where
  looks : (x : Name) (ds : List Declaration) (s : Scope) (r : Known ℕ) → look_up ds x s ≡ given r → look_up ds (g x) s ≡ given r
  unfolding look_up
  looks x [] s r e = absurd (no_refusal e)
  looks x (d ∷ ds) s r e = rw (ap (same d.spelled) (spelled x), look_up) (by (looks x ds s r) (same d.spelled x.spelled) e)
    where
      by : (look_up ds x s ≡ given r → look_up ds (g x) s ≡ given r) → (b : Bool) → elim b as (λ _. Answer (Known ℕ)) [ true ↦ given (record { what = d.cell; scope = s }) | false ↦ look_up ds x s ] ≡ given r
          → elim b as (λ _. Answer (Known ℕ)) [ true ↦ given (record { what = d.cell; scope = s }) | false ↦ look_up ds (g x) s ] ≡ given r
      by later true e = e
      by later false e = later e

  uses : (x : Name) → Follows (λ c. c) (used x) (used (g x))
  unfolding used
  uses x = record { follows = λ s r e. looks x s.visible s r e }

  declares : (x : Name) → Follows (λ c. c) (declared_here limit x) (declared_here limit (g x))
  unfolding declared_here one_more
  declares x = record { follows = λ s r. rw (spelled x) (by s r (ltb s.declared limit)) }
    where
      by : (s : Scope) (r : Known ℕ) (b : Bool) → cond b (given (record { what = s.next_cell; scope = one_more x s })) (refused TooManyDeclared x.place) ≡ given r
          → cond b (given (record { what = s.next_cell; scope = one_more x s })) (refused TooManyDeclared (g x).place) ≡ given r
      by s r true e = e
      by s r false e = absurd (no_refusal e)

  abbrev there : {k : Kind} → Sen ℕ k → Sen ℕ k
  there x = moved (λ c. c) h x

  resolves : {k : Kind} (x : Sen Name k) → Follows there (resolve limit x) (resolve limit (moved g h x))
  unfolding resolve moved
  resolves (literal n) = gives _ _
  resolves (variable x) = binds _ (uses x) (λ c. gives _ _)
  resolves (bracket e) = binds _ (resolves e) (λ _. gives _ _)
  resolves (first f) = binds _ (resolves f) (λ _. gives _ _)
  resolves (multiply t o f) = binds _ (resolves t) (λ _. binds _ (resolves f) (λ _. gives _ _))
  resolves (unsigned t) = binds _ (resolves t) (λ _. gives _ _)
  resolves (signed s t) = binds _ (resolves t) (λ _. gives _ _)
  resolves (add e s t) = binds _ (resolves e) (λ _. binds _ (resolves t) (λ _. gives _ _))
  resolves (negated c) = binds _ (resolves c) (λ _. gives _ _)
  resolves (compare d r e) = binds _ (resolves d) (λ _. binds _ (resolves e) (λ _. gives _ _))
  resolves (print e) = binds _ (resolves e) (λ _. gives _ _)
  resolves (print_line q) = gives _ _
  resolves (print_string q) = gives _ _
  resolves (declare x) = binds _ (declares x) (λ _. gives _ _)
  resolves (input x) = binds _ (uses x) (λ _. gives _ _)
  resolves (assign x e) = binds _ (uses x) (λ _. binds _ (resolves e) (λ _. gives _ _))
  resolves error = gives _ _
  resolves (while c m) = binds _ (resolves c) (λ _. binds _ (scopes _ (resolves m)) (λ _. gives _ _))
  resolves (when c m) = binds _ (resolves c) (λ _. binds _ (scopes _ (resolves m)) (λ _. gives _ _))
  resolves (block ms) = binds _ (scopes _ (resolves ms)) (λ _. gives _ _)
  resolves (single m) = binds _ (resolves m) (λ _. gives _ _)
  resolves (then ms m) = binds _ (resolves ms) (λ _. binds _ (resolves m) (λ _. gives _ _))

  pub resolved_moved : {k : Kind} (x : Sen Name k) (s : Scope) (r : Known (Sen ℕ k)) → resolve limit x s ≡ given r → resolve limit (moved g h x) s ≡ given (record { what = moved (λ c. c) h r.what; scope = r.scope })
  resolved_moved x s r e = (resolves x).follows s r e
