-- Laws of signed numbers of 32 bits inside 64. Assumes nothing.
use mathlib.Core.Path.{◌≡◌, refl, sym, ap, ◌∙◌}
use mathlib.Core.Bool.{Bool, true, false, cond, ◌&&◌}
use Prim.Native.Nat.{ℕ, suc, ◌-◌, ◌<◌}
use native.Mathlib.Omega.{arith}
use lib.Dec.{T, ltb, leb, eqb}
use lib.IntN.{ℤ, pos, negsuc}
use lib.Signed.{mag, lt_z, le_z, non_neg}
use mir.Syntax.{w32, w64}
use mir.Val.{SFits, to_z, of_z}
use mir.Facts.{to_z-of_z, sfits_widen}
use borrow.Author.Tests.{ltb-true, lt-ltb, eq-eqb, ne_eqb, leb-true, leb-false}
use Rattle.std.specs.Prelude.{Option, Some, None, Ok, Err, SomeIff, OkIff, MatchResult, ok_or}
use Rattle.std.specs.Prelude as Std
use Rattle.endings.specs.Endings.{outside_range}
use Rattle.endings.specs.declared.Ending.{Ending}
use Rattle.endings.specs.declared.Ending.TheVariants.{OutsideRange}
use Rattle.numbers.specs.Numbers.{value, ends, in_range, is_false}
use Rattle.numbers.specs.inner.Coded.{as_result}

-- ---- bits

-- a number of 32 bits, read back from its bits at 32 bits and then at 64
pub back : {a : ℤ} → SFits w32 a → to_z w64 (of_z w64 (to_z w32 (of_z w32 a))) ≡ a
back f = rw (to_z-of_z f) (to_z-of_z {w = w64} (sfits_widen tt f))

-- a number whose bits are those of a small natural number is that number
pub from_bits : (z : ℤ) → SFits w32 z → (n : ℕ) → n < 2147483648 → of_z w32 z ≡ n → z ≡ pos n
from_bits (pos m) f n p e = ap pos e
from_bits (negsuc m) f n p e = absurd (omega (arith, f.sfits))

-- the bits of a number that is not 0 are not 0
pub bits_pos : (n : ℕ) → (n ≡ 0 → ⊥) → 0 < n
bits_pos n h = omega (arith, h)

-- ---- tests

pub no : true ≡ false → ⊥
no h = let z : ◌≡◌ {A = ℕ} 0 1 = cc in omega arith

-- the test for 0, which tells of the bits
pub zero_test : (b : ℤ) → SFits w32 b → eqb (of_z w32 b) 0 ≡ is_false b
unfolding is_false
zero_test (pos n) f = refl
zero_test (negsuc n) f = ne_eqb (4294967296 - suc n) 0 (λ (e : 4294967296 - suc n ≡ 0). omega (arith, f.sfits))

pub false_is : (b : ℤ) → SFits w32 b → of_z w32 b ≡ 0 → is_false b ≡ true
false_is b f e = sym (zero_test b f) ∙ eq-eqb (of_z w32 b) 0 e

pub false_not : (b : ℤ) → SFits w32 b → (of_z w32 b ≡ 0 → ⊥) → is_false b ≡ false
false_not b f h = sym (zero_test b f) ∙ ne_eqb (of_z w32 b) 0 h

pub not_below : (a : ℤ) → lt_z a (pos 0) ≡ false → T (non_neg a)
not_below (pos n) e = tt
not_below (negsuc n) e = absurd (no e)

-- the test `==`, which tells of the bits, where x is the bits of m and y those of n
same_by : (x y m n : ℕ) → (x ≡ y → m ≡ n) → (m ≡ n → x ≡ y) → (t u : Bool) → leb m n ≡ t → leb n m ≡ u → eqb x y ≡ t && u
same_by x y m n f g true true p q = eq-eqb x y (g (omega (arith, leb-true m n p, leb-true n m q)))
same_by x y m n f g true false p q = ne_eqb x y (λ (e : x ≡ y). omega (arith, f e, leb-false n m q))
same_by x y m n f g false u p q = ne_eqb x y (λ (e : x ≡ y). omega (arith, f e, leb-false m n p))

pub same_bits : (a b : ℤ) → SFits w32 a → SFits w32 b → eqb (of_z w32 a) (of_z w32 b) ≡ le_z a b && le_z b a
same_bits (pos m) (pos n) f g = same_by m n m n (λ (e : m ≡ n). e) (λ (e : m ≡ n). e) (leb m n) (leb n m) refl refl
same_bits (pos m) (negsuc n) f g = ne_eqb m (4294967296 - suc n) (λ (e : m ≡ 4294967296 - suc n). omega (arith, f.sfits, g.sfits))
same_bits (negsuc m) (pos n) f g = ne_eqb (4294967296 - suc m) n (λ (e : 4294967296 - suc m ≡ n). omega (arith, f.sfits, g.sfits))
same_bits (negsuc m) (negsuc n) f g = same_by (4294967296 - suc m) (4294967296 - suc n) n m
    (λ (e : 4294967296 - suc m ≡ 4294967296 - suc n). omega (arith, f.sfits, g.sfits)) (λ (e : n ≡ m). rw e) (leb n m) (leb m n) refl refl

-- ---- the range

-- a number is in the range exactly where 32 bits hold it
pub in_range_is : (z : ℤ) → SFits w32 z → value z ≡ in_range z
unfolding in_range
in_range_is z f = rw (lt-ltb (mag z) 2147483648 f.sfits)

pub out_of_range : (z : ℤ) → (SFits w32 z → ⊥) → ends outside_range ≡ in_range z
unfolding in_range
out_of_range z n = by (ltb (mag z) 2147483648) refl
  where
    by : (t : Bool) → ltb (mag z) 2147483648 ≡ t → ends outside_range ≡ cond t (value z) (ends outside_range)
    by true e = absurd (n (record { sfits = ltb-true (mag z) 2147483648 e }))
    by false e = refl

-- what a checked operation or conversion of the library gives
pub checked_is : (o : Option ℤ) (z : ℤ) → SomeIff o (SFits w32 z) z → as_result (ok_or o OutsideRange) ≡ in_range z
checked_is None z n = out_of_range z n
checked_is (Some x) z f = rw f.1 (in_range_is z f.0)

pub converted_is : {E : Type 0} (r : Std.Result ℤ E) (s : Std.Result ℤ Ending) (z : ℤ) → OkIff r (SFits w32 z) z → MatchResult r (λ x. s ≡ Ok x) (λ _. s ≡ Err OutsideRange) → as_result s ≡ in_range z
converted_is (Ok x) s z f p = rw (p, f.1) (in_range_is z f.0)
converted_is (Err e) s z n p = rw p (out_of_range z n)

-- a quotient, where the divisor is not 0
pub divided_is : {N : Type 0} (F : Type 0) (o : Option ℤ) (z : ℤ) → N → SomeIff o (N × F) z → SomeIff o F z
divided_is F None z n f = λ h. f (n, h)
divided_is F (Some x) z n f = (f.0.1, f.1)
