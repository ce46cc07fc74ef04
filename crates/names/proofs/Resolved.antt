-- What names resolve to: cells below the count of cells, which is at most the limit; and the strings stay as they are.
use mathlib.Core.Path.{◌≡◌, refl, ap}
use mathlib.Core.List.{List, [], ◌∷◌}
use mathlib.Core.Bool.{Bool, true, false, cond}
use Prim.Native.Nat.{ℕ, suc, ◌≤◌, ◌<◌}
use native.Mathlib.Nat.{le_refl, le_trans}
use native.Mathlib.Omega.{arith}
use lib.Dec.{ltb}
use borrow.Author.Tests.{ltb-true}
use Rattle.base.specs.declared.Refusal.TheVariants.{TooManyDeclared}
use Rattle.base.specs.Answers.{Answer, given, refused, pass}
use Rattle.base.specs.Bytes.{same}
use Rattle.lexeme.specs.Lexemes.{Name, Quoted}
use Rattle.sentence.specs.Sentences.{Kind, Sen, command, literal, variable, bracket, first, multiply, unsigned, signed, add, negated, compare, print, print_line, print_string, declare, input, assign, error, while, when, block, single, then}
use Rattle.sentence.proofs.Parts.{Each}
use Rattle.names.specs.Names.{Declaration, Scope, nothing_declared, Known, Naming, ◌>>=◌, give, look_up, used, one_more, declared_here, opened, closed, scoped, resolve, resolved}

-- each declaration has a cell of its own, so there are as many of these as of those
abbrev pub Alike : Scope → Type 0
Alike s = (s.next_cell ≡ s.declared) × (s.cells ≡ s.declared)

-- each visible declaration has a cell below the count
Low : ℕ → List Declaration → Type 0
Low d [] = Unit {0}
Low d (v ∷ vs) = (v.cell < d) × Low d vs

lower : {d e : ℕ} → d ≤ e → (vs : List Declaration) → Low d vs → Low e vs
unfolding Low
lower h [] l = tt
lower h (v ∷ vs) l = (le_trans l.0 h, lower h vs l.1)

module _ (limit : ℕ) where
  record Right (s : Scope) : Type 0 where
    low : Low s.cells s.visible
    few : s.declared ≤ limit
    alike : Alike s

  module _ (d : ℕ) where
    -- of what is worked out: no cell is taken away again, and it has P if there are no more than d after it
    record Well {A : Type 0} (P : A → Type 0) (s : Scope) (k : Known A) : Type 0 where
      right : Right k.scope
      grown : s.cells ≤ k.scope.cells
      has : k.scope.cells ≤ d → P k.what

    IfGiven : {A : Type 0} → (A → Type 0) → Scope → Answer (Known A) → Type 0
    IfGiven P s (given k) = Well P s k
    IfGiven P s (refused n p) = Unit {0}

    record Resolves {A : Type 0} (P : A → Type 0) (m : Naming A) : Type 0 where
      well : (s : Scope) → Right s → IfGiven P s (m s)

    looks : (x : Name) (s : Scope) → Right s → (vs : List Declaration) → Low s.cells vs → IfGiven (λ c. c < d) s (look_up vs x s)
    unfolding look_up IfGiven Low
    looks x s r [] l = tt
    looks x s r (v ∷ vs) l = by (same v.spelled x.spelled) (looks x s r vs l.1)
      where
        by : (b : Bool) → IfGiven (λ c. c < d) s (look_up vs x s) → IfGiven (λ c. c < d) s (elim b as (λ _. Answer (Known ℕ)) [ true ↦ given (record { what = v.cell; scope = s }) | false ↦ look_up vs x s ])
        by true w = record { right = r; grown = le_refl s.cells; has = λ h. le_trans l.0 h }
        by false w = w

module _ {limit d : ℕ} where
  gives : {A : Type 0} {P : A → Type 0} (a : A) → P a → Resolves limit d P (give a)
  unfolding give IfGiven
  gives a p = record { well = λ s r. record { right = r; grown = le_refl s.cells; has = λ h. p } }

  bind : {A B : Type 0} {P : A → Type 0} {R : B → Type 0} {m : Naming A} {f : A → Naming B} → Resolves limit d P m → ((a : A) → Resolves limit d (λ b. P a → R b) (f a)) → Resolves limit d R (m >>= f)
  unfolding ◌>>=◌
  bind {P} {R} {m} {f} p q = record { well = λ s r. by s (m s) (p.well s r) }
    where
      ends : (s : Scope) (k : Known _) → Well limit d P s k → (o : Answer (Known _)) → IfGiven limit d (λ b. P k.what → R b) k.scope o → IfGiven limit d R s o
      ends s k w (given l) x = unfold IfGiven in record { right = x.right; grown = le_trans w.grown x.grown; has = λ h. x.has h (w.has (le_trans x.grown h)) }
      ends s k w (refused n y) x = unfold IfGiven in tt

      by : (s : Scope) (o : Answer (Known _)) → IfGiven limit d P s o → IfGiven limit d R s (pass o (λ a. f a.what a.scope))
      by s (given k) w = unfold pass IfGiven in ends s k w (f k.what k.scope) ((q k.what).well k.scope w.right)
      by s (refused n y) w = unfold pass IfGiven in tt

  uses : (x : Name) → Resolves limit d (λ c. c < d) (used x)
  unfolding used
  uses x = record { well = λ s r. looks limit d x s r s.visible r.low }

  declares : (x : Name) → Resolves limit d (λ c. c < d) (declared_here limit x)
  unfolding declared_here
  declares x = record { well = λ s r. by s r (ltb s.declared limit) refl }
    where
      by : (s : Scope) → Right limit s → (b : Bool) → ltb s.declared limit ≡ b → IfGiven limit d (λ c. c < d) s (cond b (given (record { what = s.next_cell; scope = one_more x s })) (refused TooManyDeclared x.place))
      by s r true e = unfold IfGiven one_more Low in
          record { right = record { low = (omega (arith, r.alike), lower (omega arith) s.visible r.low); few = ltb-true s.declared limit e; alike = (ap suc r.alike.0, ap suc r.alike.1) }; grown = omega arith; has = λ h. omega (arith, r.alike) }
      by s r false e = unfold IfGiven in tt

  closes : {A : Type 0} {P : A → Type 0} {m : Naming A} → Resolves limit d P m → Resolves limit d P (scoped m)
  unfolding scoped
  closes {P} {m} p = record { well = λ s r. by s r (m (opened s)) (p.well (opened s) (opens s r)) }
    where
      opens : (s : Scope) → Right limit s → Right limit (opened s)
      opens s r = unfold opened in record { low = r.low; few = r.few; alike = r.alike }

      by : (s : Scope) → Right limit s → (o : Answer (Known _)) → IfGiven limit d P (opened s) o → IfGiven limit d P s (pass o (λ a. given (record { what = a.what; scope = closed s a.scope })))
      by s r (given k) w = unfold pass IfGiven opened closed in
          record { right = record { low = lower w.grown s.visible r.low; few = w.right.few; alike = w.right.alike }; grown = w.grown; has = w.has }
      by s r (refused n y) w = unfold pass IfGiven in tt

module _ (limit d : ℕ) (Q : Quoted → Type 0) where
  abbrev NamesWith : {k : Kind} → Sen Name k → Type 0
  NamesWith x = Each (λ _. Unit {0}) Q x

  abbrev CellsWith : {k : Kind} → Sen ℕ k → Type 0
  CellsWith x = Each (λ c. c < d) Q x

  resolves : {k : Kind} (x : Sen Name k) → NamesWith x → Resolves limit d CellsWith (resolve limit x)
  unfolding resolve Each
  resolves (literal n) q = gives _ tt
  resolves (variable x) q = bind (uses x) (λ c. gives _ (λ p. p))
  resolves (bracket e) q = bind (resolves e q) (λ _. gives _ (λ p. p))
  resolves (first f) q = bind (resolves f q) (λ _. gives _ (λ p. p))
  resolves (multiply t o f) q = bind (resolves t q.0) (λ _. bind (resolves f q.1) (λ _. gives _ (λ r p. (p, r))))
  resolves (unsigned t) q = bind (resolves t q) (λ _. gives _ (λ p. p))
  resolves (signed g t) q = bind (resolves t q) (λ _. gives _ (λ p. p))
  resolves (add e g t) q = bind (resolves e q.0) (λ _. bind (resolves t q.1) (λ _. gives _ (λ r p. (p, r))))
  resolves (negated c) q = bind (resolves c q) (λ _. gives _ (λ p. p))
  resolves (compare l r e) q = bind (resolves l q.0) (λ _. bind (resolves e q.1) (λ _. gives _ (λ r p. (p, r))))
  resolves (print e) q = bind (resolves e q) (λ _. gives _ (λ p. p))
  resolves (print_line s) q = gives _ q
  resolves (print_string s) q = gives _ q
  resolves (declare x) q = bind (declares x) (λ _. gives _ (λ p. p))
  resolves (input x) q = bind (uses x) (λ _. gives _ (λ p. p))
  resolves (assign x e) q = bind (uses x) (λ _. bind (resolves e q.1) (λ _. gives _ (λ r p. (p, r))))
  resolves error q = gives _ tt
  resolves (while c m) q = bind (resolves c q.0) (λ _. bind (closes (resolves m q.1)) (λ _. gives _ (λ r p. (p, r))))
  resolves (when c m) q = bind (resolves c q.0) (λ _. bind (closes (resolves m q.1)) (λ _. gives _ (λ r p. (p, r))))
  resolves (block ms) q = bind (closes (resolves ms q)) (λ _. gives _ (λ p. p))
  resolves (single m) q = bind (resolves m q) (λ _. gives _ (λ p. p))
  resolves (then ms m) q = bind (resolves ms q.0) (λ _. bind (resolves m q.1) (λ _. gives _ (λ r p. (p, r))))

-- a resolved Program: as many cells as the limit at most, each variable one of them, and its strings those of the text
pub record Resolved (limit : ℕ) (Q : Quoted → Type 0) (k : Known (Sen ℕ command)) : Type 0 where
  pub few : k.scope.cells ≤ limit
  pub each : Each (λ c. c < k.scope.cells) Q k.what
  pub alike : Alike k.scope

pub resolved_well : (limit : ℕ) (Q : Quoted → Type 0) (m : Sen Name command) {k : Known (Sen ℕ command)} → resolved limit m ≡ given k → Each (λ _. Unit {0}) Q m → Resolved limit Q k
unfolding resolved IfGiven Low
resolved_well limit Q m {k} e q =
    let w : Well limit k.scope.cells (CellsWith limit k.scope.cells Q) nothing_declared k = rw e at ((resolves limit k.scope.cells Q m q).well nothing_declared (record { low = tt; few = omega arith; alike = (refl, refl) })) in
    record { few = omega (arith, w.right); each = w.has (le_refl k.scope.cells); alike = w.right.alike }
