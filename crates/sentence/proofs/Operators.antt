-- A fixed lexeme is known by its number; so are the signs, `*` and `/`, and the relations, by which the reader chooses.
use mathlib.Core.Path.{◌≡◌, refl, sym, ap, ◌∙◌}
use mathlib.Core.Bool.{Bool, true, false, ◌||◌}
use mathlib.Core.Logic.{◌⊎◌, inl, inr}
use mathlib.Mathlib.Data.Bool.Basic.{or-eq-false-eq-eq-false-and-eq-false}
use Prim.Native.Nat.{ℕ}
use native.Mathlib.Omega.{arith}
use lib.Dec.{eqb}
use borrow.Author.Tests.{eqb-true, eq-eqb, ne_eqb}
use Rattle.lexeme.specs.Lexemes.{symbols, keywords, Fixed, Lexeme, lit, name, class, string, fixed, plus_sign, minus_sign, star, slash, less_sign, greater_sign, equals_sign}
use Rattle.lexeme.specs.inner.Coded.{code_of, kind_of, fixed_number, fixed_of, fixed_in, fixeds}
use Rattle.lexeme.proofs.Decoded.{fixed_back, code_of_injective}
use Rattle.sentence.specs.Sentences.{Sign, plus, minus, Mul, times, over, Rel, less, greater, equal, sign, mul, rel}
use Rattle.sentence.proofs.Reader.{State, is, on, on_sign, on_mul, on_rel, is_sign, is_mul, is_rel}

-- ---- fixed lexemes

-- the number of a fixed lexeme; 255 is none
abbrev pub number_of : Lexeme → ℕ
number_of l = fixed_number (kind_of l)

no_255 : (w : Fixed) → false ≡ eqb 255 (code_of w)
unfolding code_of fixed_of fixed_in fixeds symbols keywords
no_255 w = sym (ne_eqb 255 (code_of w) (λ e. let f = ap code_of (ap fixed_of e ∙ fixed_back w) in omega arith))

pub is_number : (w : Fixed) (l : Lexeme) → is w l ≡ eqb (number_of l) (code_of w)
unfolding is kind_of fixed_number code_of
is_number w (lit n) = no_255 w
is_number w (name x) = no_255 w
is_number w (class x) = no_255 w
is_number w (string q) = no_255 w
is_number w (fixed v) = refl

pub is_fixed : (w : Fixed) (l : Lexeme) → is w l ≡ true → l ≡ fixed w
unfolding is
is_fixed w (lit n) = λ e. cc
is_fixed w (name x) = λ e. cc
is_fixed w (class x) = λ e. cc
is_fixed w (string q) = λ e. cc
is_fixed w (fixed v) = λ e. ap fixed (code_of_injective v w (eqb-true (code_of v) (code_of w) e))

pub numbered : (w : Fixed) (l : Lexeme) → number_of l ≡ code_of w → l ≡ fixed w
numbered w l e = is_fixed w l (is_number w l ∙ eq-eqb (number_of l) (code_of w) e)

-- what a number that is one of several says, and one that is none of them
pub either : (n k : ℕ) (b : Bool) → (eqb n k || b) ≡ true → (n ≡ k) ⊎ (b ≡ true)
either n k b h = go (eqb n k) refl h
  where
    go : (a : Bool) → eqb n k ≡ a → (a || b) ≡ true → (n ≡ k) ⊎ (b ≡ true)
    go true e h = inl (eqb-true n k e)
    go false e h = inr h

neither : (l : Lexeme) (w : Fixed) (b : Bool) → (eqb (number_of l) (code_of w) || b) ≡ false → (is w l ≡ false) × (b ≡ false)
neither l w b h = rw (is_number w l) ((or-eq-false-eq-eq-false-and-eq-false (eqb (number_of l) (code_of w)) b).0 h)

-- ---- signs

pub sign_of : (n : ℕ) → is_sign n ≡ true → (g : Sign) × (n ≡ number_of (sign g))
unfolding is_sign sign kind_of fixed_number code_of
sign_of n h = elim (either n (code_of plus_sign) (eqb n (code_of minus_sign)) h) [ inl e ↦ (plus, e) | inr e ↦ (minus, eqb-true n (code_of minus_sign) e) ]

pub sign_numbered : (l : Lexeme) (g : Sign) → number_of l ≡ number_of (sign g) → l ≡ sign g
unfolding sign kind_of fixed_number code_of
sign_numbered l plus = numbered plus_sign l
sign_numbered l minus = numbered minus_sign l

module _ (such : Sign → State) (other : State) where
  pub on_a_sign : (g : Sign) → on_sign (sign g) such other ≡ such g
  unfolding sign on_sign on is code_of
  on_a_sign plus = refl
  on_a_sign minus = refl

  pub on_no_sign : (l : Lexeme) → is_sign (number_of l) ≡ false → on_sign l such other ≡ other
  unfolding on_sign on is_sign
  on_no_sign l h = let a = neither l plus_sign (eqb (number_of l) (code_of minus_sign)) h in rw (a.0, is_number minus_sign l, a.1)

-- ---- `*` and `/`

pub mul_of : (n : ℕ) → is_mul n ≡ true → (o : Mul) × (n ≡ number_of (mul o))
unfolding is_mul mul kind_of fixed_number code_of
mul_of n h = elim (either n (code_of star) (eqb n (code_of slash)) h) [ inl e ↦ (times, e) | inr e ↦ (over, eqb-true n (code_of slash) e) ]

pub mul_numbered : (l : Lexeme) (o : Mul) → number_of l ≡ number_of (mul o) → l ≡ mul o
unfolding mul kind_of fixed_number code_of
mul_numbered l times = numbered star l
mul_numbered l over = numbered slash l

module _ (such : Mul → State) (other : State) where
  pub on_a_mul : (o : Mul) → on_mul (mul o) such other ≡ such o
  unfolding mul on_mul on is code_of
  on_a_mul times = refl
  on_a_mul over = refl

  pub on_no_mul : (l : Lexeme) → is_mul (number_of l) ≡ false → on_mul l such other ≡ other
  unfolding on_mul on is_mul
  on_no_mul l h = let a = neither l star (eqb (number_of l) (code_of slash)) h in rw (a.0, is_number slash l, a.1)

-- ---- relations

pub rel_of : (n : ℕ) → is_rel n ≡ true → (r : Rel) × (n ≡ number_of (rel r))
unfolding is_rel rel kind_of fixed_number code_of
rel_of n h = elim (either n (code_of less_sign) (eqb n (code_of greater_sign) || eqb n (code_of equals_sign)) h) [
  | inl e ↦ (less, e)
  | inr g ↦ elim (either n (code_of greater_sign) (eqb n (code_of equals_sign)) g) [ inl e ↦ (greater, e) | inr e ↦ (equal, eqb-true n (code_of equals_sign) e) ]
]

pub rel_numbered : (l : Lexeme) (r : Rel) → number_of l ≡ number_of (rel r) → l ≡ rel r
unfolding rel kind_of fixed_number code_of
rel_numbered l less = numbered less_sign l
rel_numbered l greater = numbered greater_sign l
rel_numbered l equal = numbered equals_sign l

module _ (such : Rel → State) (other : State) where
  pub on_a_rel : (r : Rel) → on_rel (rel r) such other ≡ such r
  unfolding rel on_rel on is code_of
  on_a_rel less = refl
  on_a_rel greater = refl
  on_a_rel equal = refl

  pub on_no_rel : (l : Lexeme) → is_rel (number_of l) ≡ false → on_rel l such other ≡ other
  unfolding on_rel on is_rel
  on_no_rel l h =
      let a = neither l less_sign (eqb (number_of l) (code_of greater_sign) || eqb (number_of l) (code_of equals_sign)) h in
      let b = neither l greater_sign (eqb (number_of l) (code_of equals_sign)) a.1 in
      rw (a.0, b.0, is_number equals_sign l, b.1)
