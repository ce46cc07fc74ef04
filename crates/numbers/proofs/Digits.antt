-- Laws of the decimal: its steps, its length and its sign. Assumes nothing.
use mathlib.Core.Path.{◌≡◌, refl, ap}
use mathlib.Core.Bool.{Bool, true, false}
use mathlib.Core.List.{List, [], ◌∷◌, ◌++◌}
use Prim.Native.Nat.{ℕ, zero, suc, ◌+◌, ◌/◌, ◌%◌, ◌^◌, ◌≤◌, ◌<◌}
use native.Mathlib.Nat.{pow-succ'}
use native.Mathlib.Omega.{arith}
use lib.Dec.{ltb}
use lib.IntN.{ℤ, pos, negsuc, nat_abs}
use lib.Signed.{lt_z}
use lib.ListN.{length, length-append}
use borrow.Author.Tests.{ltb-true, ltb-false, lt-ltb, le-ltb}
use Rattle.numbers.specs.Numbers.{digits, decimal}

abbrev pub all_digits : ℕ → List ℕ
all_digits n = digits (suc n) n

-- more fuel than digits: how much does not matter
same_by : (f g n : ℕ) (t : Bool) → ltb n 10 ≡ t → (10 ≤ n → digits f (n / 10) ≡ digits g (n / 10)) → digits (suc f) n ≡ digits (suc g) n
unfolding digits
same_by f g n true e h = rw (e, digits)
same_by f g n false e h = rw (e, digits) (ap (λ (l : List ℕ). l ++ ((48 + n % 10) ∷ [])) (h (ltb-false n 10 e)))

pub digits_same : (f g n : ℕ) → n < f → n < g → digits f n ≡ digits g n
digits_same zero g n p q = absurd (omega arith)
digits_same (suc f) zero n p q = absurd (omega arith)
digits_same (suc f) (suc g) n p q = same_by f g n (ltb n 10) refl (λ (h : 10 ≤ n). digits_same f g (n / 10) (omega arith) (omega arith))

pub one_digit : (n : ℕ) → n < 10 → all_digits n ≡ (48 + n) ∷ []
unfolding digits
one_digit n p = rw (lt-ltb n 10 p, digits)

pub more_digits : (n : ℕ) → 10 ≤ n → all_digits n ≡ all_digits (n / 10) ++ ((48 + n % 10) ∷ [])
unfolding digits
more_digits n p = rw (le-ltb n 10 p, digits) (ap (λ (l : List ℕ). l ++ ((48 + n % 10) ∷ [])) (digits_same n (suc (n / 10)) (n / 10) (omega arith) (omega arith)))

-- at least one, and at most k of a number below 10 ^ k
some_by : (n : ℕ) (t : Bool) → ltb n 10 ≡ t → 1 ≤ length (all_digits n)
some_by n true e = rw (one_digit n (ltb-true n 10 e)) (omega arith)
some_by n false e = rw (more_digits n (ltb-false n 10 e), length-append (all_digits (n / 10)) ((48 + n % 10) ∷ [])) (omega arith)

pub some_digits : (n : ℕ) → 1 ≤ length (all_digits n)
some_digits n = some_by n (ltb n 10) refl

few_by : (k n : ℕ) (t : Bool) → ltb n 10 ≡ t → (10 ≤ n → length (all_digits (n / 10)) ≤ k) → length (all_digits n) ≤ suc k
few_by k n true e f = rw (one_digit n (ltb-true n 10 e)) (omega arith)
few_by k n false e f =
    rw (more_digits n (ltb-false n 10 e), length-append (all_digits (n / 10)) ((48 + n % 10) ∷ [])) (omega (arith, f (ltb-false n 10 e)))

pub few_digits : (k n : ℕ) → n < 10 ^ suc k → length (all_digits n) ≤ suc k
few_digits zero n h = rw (one_digit n h) (omega arith)
few_digits (suc k) n h = few_by (suc k) n (ltb n 10) refl (λ (p : 10 ≤ n). few_digits k (n / 10) (omega (arith, pow-succ' 10 (suc k))))

-- ---- the sign

pub decimal_below : (v : ℤ) → lt_z v (pos 0) ≡ true → decimal v ≡ 45 ∷ all_digits (nat_abs v)
unfolding decimal
decimal_below (pos n) h = absurd (omega (arith, ltb-true n 0 h))
decimal_below (negsuc n) h = refl
