-- The same lexemes at other places stand at a function of the places before. Assumes nothing.
use mathlib.Core.Path.{◌≡◌, refl, sym, ap, ◌∙◌}
use mathlib.Core.List.{List, [], ◌∷◌, map}
use mathlib.Core.Bool.{cond}
use Prim.Native.Nat.{ℕ, suc, ◌+◌, ◌-◌, ◌≤◌, zero-le}
use native.Mathlib.Nat.{le_trans}
use native.Mathlib.Omega.{arith}
use lib.Dec.{eqb}
use lib.ListN.{length}
use borrow.Author.Tests.{eq-eqb, ne_eqb}
use Rattle.lexeme.specs.Lexemes.{Name, Quoted, Lexeme, lit, name, class, string, fixed, Placed, Sizes}
use Rattle.lexeme.proofs.Places.{next_fits}
use Rattle.lexeme.proofs.Symbols.{Each, nil, ◌also◌}
use Rattle.lexeme.proofs.Ahead.{Row, ended, one}
use Rattle.sentence.specs.Grammar.{whats}
use Rattle.spelling.specs.Spelling.{at_place}
use Rattle.moved.proofs.Moved.{moved_lexeme}

-- ---- a lexeme whose place p becomes f p

module _ (f : ℕ → ℕ) where
  abbrev pub name_at : Name → Name
  name_at x = record { spelled = x.spelled; place = f x.place }

  -- a string's place is just after its quote
  abbrev pub string_at : Quoted → Quoted
  string_at q = record { inside = q.inside; place = f (q.place - 1) + 1 }

  abbrev pub shifted : Lexeme → Lexeme
  shifted l = moved_lexeme name_at string_at l

  pub shifted_at_place : (p : ℕ) (l : Lexeme) → shifted (at_place p l) ≡ at_place (f p) l
  unfolding moved_lexeme at_place
  shifted_at_place p (lit n) = refl
  shifted_at_place p (name x) = refl
  shifted_at_place p (class x) = refl
  shifted_at_place p (string q) = let back : p + 1 - 1 ≡ p = omega arith in rw back
  shifted_at_place p (fixed g) = refl

-- ---- lexemes in order, and those that are the same ones at other places

-- the first at or after a place, and each of the others after the one before it
infixr 5 ◌before◌
pub data AscendingFrom : ℕ → List Placed → Type 0 where
  none : {at : ℕ} → AscendingFrom at []
  ◌before◌ : {at : ℕ} {l : Placed} {ls : List Placed} → at ≤ l.place → AscendingFrom (suc l.place) ls → AscendingFrom at (l ∷ ls)

abbrev pub Ascending : List Placed → Type 0
Ascending ls = AscendingFrom 0 ls

-- each is where its place says
abbrev pub InPlace : Placed → Type 0
InPlace l = l.what ≡ at_place l.place l.what

shifted_in_place : (f : ℕ → ℕ) (l : Placed) → InPlace l → shifted f l.what ≡ at_place (f l.place) l.what
shifted_in_place f l i = ap (shifted f) i ∙ shifted_at_place f l.place l.what

-- the lexemes of ms are those of ls, each at the place that ms has it at
infixr 5 ◌beside◌
pub data Aligned : List Placed → List Placed → Type 0 where
  both_end : Aligned [] []
  ◌beside◌ : {l m : Placed} {ls ms : List Placed} → m.what ≡ at_place m.place l.what → Aligned ls ms → Aligned (l ∷ ls) (m ∷ ms)

-- from a place on, only what f does there matters
shifted_alike : (f g : ℕ → ℕ) (at : ℕ) {ls : List Placed} → ((p : ℕ) → at ≤ p → f p ≡ g p) → AscendingFrom at ls → Each InPlace ls → map (shifted f) (whats ls) ≡ map (shifted g) (whats ls)
unfolding whats
shifted_alike f g at same none nil = refl
shifted_alike f g at same (◌before◌ {l} {ls} h hs) (i also is) =
    let here : shifted f l.what ≡ shifted g l.what = shifted_in_place f l i ∙ ap (λ (p : ℕ). at_place p l.what) (same l.place h) ∙ sym (shifted_in_place g l i) in
    let later = shifted_alike f g (suc l.place) (λ p k. same p (omega arith)) hs is in
    rw (here, later)

placing_from : (at : ℕ) {ls ms : List Placed} → AscendingFrom at ls → Each InPlace ls → Aligned ls ms → (f : ℕ → ℕ) × (map (shifted f) (whats ls) ≡ whats ms)
unfolding whats
placing_from at none nil both_end = (λ p. p, refl)
placing_from at (h before hs) (i also is) (◌beside◌ {l} {m} b bs) =
    let rest = placing_from (suc l.place) hs is bs in
    let f : ℕ → ℕ = λ p. cond (eqb p l.place) m.place (rest.0 p) in
    let found : f l.place ≡ m.place = rw (eq-eqb l.place l.place refl) in
    let here : shifted f l.what ≡ m.what = shifted_in_place f l i ∙ ap (λ (p : ℕ). at_place p l.what) found ∙ sym b in
    let later = shifted_alike f rest.0 (suc l.place) (λ p k. rw (ne_eqb p l.place (λ e. omega arith))) hs is ∙ rest.1 in
    (f, rw (here, later))

pub placing : (ls ms : List Placed) → Ascending ls → Each InPlace ls → Aligned ls ms → (f : ℕ → ℕ) × (map (shifted f) (whats ls) ≡ whats ms)
placing ls ms a i b = placing_from 0 a i b

-- ---- the lexemes of a text

module _ {most : Sizes} {text : List ℕ} where
  ascending_after : (p : ℕ) {at : ℕ} {ls : List Placed} → p ≤ at → at ≤ length text → Row most text at ls → AscendingFrom p ls
  ascending_after p h w (ended n) = le_trans h w before none
  ascending_after p h w (one {at} m e n t r) = let f = next_fits text at m e n in le_trans h f.0 before ascending_after (suc m.place) f.1.some f.1.within r

  pub row_ascending : {at : ℕ} {ls : List Placed} → Row most text at ls → Ascending ls
  row_ascending (ended n) = zero-le before none
  row_ascending (one {at} m e n t r) = let f = (next_fits text at m e n).1 in zero-le before ascending_after (suc m.place) f.some f.within r
