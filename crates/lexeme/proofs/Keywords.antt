-- Laws of spotting a keyword: it is never missed, and the one comparison tells. Assumes nothing.
use mathlib.Core.Path.{◌≡◌, refl, sym, ap, ◌∙◌}
use mathlib.Core.List.{List, ◌∷◌}
use mathlib.Core.Bool.{Bool, true, false, cond, ◌&&◌, ◌||◌}
use Prim.Native.Nat.{ℕ}
use lib.Dec.{eqb}
use borrow.Author.Tests.{eq-eqb}
use Rattle.base.specs.Bytes.{bytes, bytes_from, same}
use Rattle.base.proofs.Words.{same_equal}
use Rattle.lexeme.specs.Lexemes.{Lexeme, Keyword, keywords, fixed, capital_word}
use Rattle.lexeme.specs.inner.Coded.{variant_of, number, code_of, kind_of}
use Rattle.lexeme.specs.inner.Spotting.{alike, candidate, is_keyword}
use Rattle.lexeme.specs.declared.Fixed as code_fixed
use Rattle.lexeme.specs.declared.Kind.{Kind}
use Rattle.std.specs.Prelude.{Option, Some, None}
use Rattle.lexeme.specs.declared.Kind.TheVariants.{Fixed, Class}
use Rattle.lexeme.proofs.Symbols.{Each, nil, ◌also◌}

-- each keyword is the one that its letters are compared with
abbrev Own : Keyword → Type 0
Own k = candidate k.spelled ≡ Some (variant_of k.means)

each_its_own : Each Own keywords
unfolding keywords bytes bytes_from candidate alike
each_its_own = refl also refl also refl also refl also refl also refl also refl also refl also refl also refl also refl also refl also refl also refl also refl also refl also refl also refl also refl also refl also refl also nil

-- a word that is compared with this keyword, or with none
abbrev pub compared : List Keyword → List ℕ → Option code_fixed.Fixed → Kind
compared ks w (Some f) = cond (is_keyword ks (number f) w) (Fixed f) Class
compared ks w None = Class

-- a word after the test of a keyword, where without that keyword it is the lexeme l
abbrev after_keyword : Keyword → Lexeme → Bool → Lexeme
after_keyword k l t = elim t [ true ↦ fixed k.means | false ↦ l ]

module _ (w : List ℕ) (p : ℕ) where
  tells : {ks : List Keyword} → Each Own ks → (c : Option code_fixed.Fixed) → candidate w ≡ c → compared ks w c ≡ kind_of (capital_word ks p w)
  unfolding capital_word kind_of is_keyword code_of
  tells nil (Some f) is = refl
  tells nil None is = refl
  tells (◌also◌ {a = k} {rest = ks} own rest) c is = by c is (tells rest c is) (same w k.spelled) refl
    where
      own_of : same w k.spelled ≡ true → candidate w ≡ Some (variant_of k.means)
      own_of h = ap candidate (same_equal w k.spelled h) ∙ own

      by : (c : Option code_fixed.Fixed) → candidate w ≡ c → compared ks w c ≡ kind_of (capital_word ks p w) → (t : Bool) → same w k.spelled ≡ t → compared (k ∷ ks) w c ≡ kind_of (after_keyword k (capital_word ks p w) t)
      by (Some f) is more true h = let e : f ≡ variant_of k.means = cc (own_of h) in rw (h, e, eq-eqb (code_of k.means) (code_of k.means) refl)
      by (Some f) is more false h = rw h (by_number (eqb (number f) (code_of k.means)))
        where
          by_number : (t : Bool) → cond (t && false || is_keyword ks (number f) w) (Fixed f) Class ≡ kind_of (capital_word ks p w)
          by_number true = more
          by_number false = more
      by None is more true h = absurd (let e : Some (variant_of k.means) ≡ None = sym (own_of h) ∙ is in cc)
      by None is more false h = more

pub spotted : (w : List ℕ) (p : ℕ) → compared keywords w (candidate w) ≡ kind_of (capital_word keywords p w)
spotted w p = tells w p each_its_own (candidate w) refl

-- the same by what the candidate is: a keyword, where the comparison came out so, or none
pub spotted_here : (w : List ℕ) (f : code_fixed.Fixed) (t : Bool) → candidate w ≡ Some f → t ≡ is_keyword keywords (number f) w → (p : ℕ) → cond t (Fixed f) Class ≡ kind_of (capital_word keywords p w)
spotted_here w f t is h p =
    let e : compared keywords w (Some f) ≡ kind_of (capital_word keywords p w) = rw is at (spotted w p) in
    rw h e

pub spotted_none : (w : List ℕ) → candidate w ≡ None → (p : ℕ) → Class ≡ kind_of (capital_word keywords p w)
spotted_none w is p = rw is at (spotted w p)
