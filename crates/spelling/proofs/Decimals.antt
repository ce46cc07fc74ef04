-- Laws of the decimal of a literal: its digits, what it is worth, and that a digit word without needless zeros is one. Assumes nothing.
use mathlib.Core.Path.{◌≡◌, refl, sym, ap, ◌∙◌}
use mathlib.Core.List.{List, [], ◌∷◌, ◌++◌, append_assoc, append-nil}
use mathlib.Core.Bool.{Bool, true, false, ◌&&◌}
use Prim.Native.Nat.{ℕ, zero, suc, ◌+◌, ◌-◌, ◌*◌, ◌/◌, ◌%◌, ◌≤◌, ◌<◌}
use native.Mathlib.Omega.{arith}
use lib.Dec.{ltb, leb}
use lib.IntN.{pos}
use borrow.Author.Tests.{ltb-true, ltb-false, leb-true, le-leb}
use Rattle.base.specs.Bytes.{digit, begins, all, value}
use Rattle.base.proofs.Runs.{between_yes, all_cons, all_first, all_rest, all_append, begins_append}
use Rattle.numbers.specs.Numbers.{decimal}
use Rattle.numbers.proofs.Digits.{all_digits, one_digit, more_digits}

value_append : (n : ℕ) (v w : List ℕ) → value n (v ++ w) ≡ value (value n v) w
unfolding value
value_append n [] w = refl
value_append n (b ∷ v) w = value_append (n * 10 + (b - 48)) v w

-- ---- by the number of digits

module _ (P : ℕ → Type 0) (one : (n : ℕ) → n < 10 → P n) (more : (n : ℕ) → 10 ≤ n → P (n / 10) → P n) where
  by_size : (most n : ℕ) → n < most → P n
  by_size zero n h = absurd (omega arith)
  by_size (suc most) n h = by (ltb n 10) refl (λ (k : 10 ≤ n). by_size most (n / 10) (omega arith))
    where
      by : (t : Bool) → ltb n 10 ≡ t → (10 ≤ n → P (n / 10)) → P n
      by true e rest = one n (ltb-true n 10 e)
      by false e rest = let k = ltb-false n 10 e in more n k (rest k)

  by_digits : (n : ℕ) → P n
  by_digits n = by_size (suc n) n (omega arith)

digit_yes : (d : ℕ) → d < 10 → digit (48 + d) ≡ true
unfolding digit
digit_yes d h = between_yes 48 57 (48 + d) (omega arith) (omega arith)

pub decimal_value : (n : ℕ) → value 0 (decimal (pos n)) ≡ n
unfolding decimal value
decimal_value = by_digits (λ n. value 0 (all_digits n) ≡ n) (λ n h. rw (one_digit n h) (omega arith)) (λ n h e. rw (more_digits n h, value_append 0 (all_digits (n / 10)) ((48 + n % 10) ∷ []), e) (omega arith))

pub decimal_digits : (n : ℕ) → all digit (decimal (pos n)) ≡ true
unfolding decimal
decimal_digits =
    by_digits (λ n. all digit (all_digits n) ≡ true)
    (λ n h. rw (one_digit n h) (all_cons digit (48 + n) [] (digit_yes n h) (unfold all in refl)))
    (λ n h e. rw (more_digits n h) (all_append digit (all_digits (n / 10)) ((48 + n % 10) ∷ []) e (all_cons digit (48 + n % 10) [] (digit_yes (n % 10) (omega arith)) (unfold all in refl))))

pub decimal_begins : (n : ℕ) → begins digit (decimal (pos n)) ≡ true
unfolding decimal
decimal_begins =
    by_digits (λ n. begins digit (all_digits n) ≡ true)
    (λ n h. rw (one_digit n h) (unfold begins in digit_yes n h))
    (λ n h e. rw (more_digits n h) (begins_append digit (all_digits (n / 10)) ((48 + n % 10) ∷ []) e))

-- ---- a digit word is a decimal

decimal_step : (n d : ℕ) → 0 < n → d < 10 → decimal (pos (n * 10 + d)) ≡ decimal (pos n) ++ (48 + d) ∷ []
unfolding decimal
decimal_step n d h k =
    let q : (n * 10 + d) / 10 ≡ n = omega arith in
    let r : (n * 10 + d) % 10 ≡ d = omega arith in
    rw (more_digits (n * 10 + d) (omega arith), q, r)

module _ (b : ℕ) (h : digit b ≡ true) where
  digit_low : 48 ≤ b
  unfolding digit
  digit_low = by (leb 48 b) refl h
    where
      by : (t : Bool) → leb 48 b ≡ t → (t && leb b 57) ≡ true → 48 ≤ b
      by true e k = leb-true 48 b e
      by false e k = let z : ◌≡◌ {A = ℕ} 0 1 = cc in absurd (omega arith)

  digit_high : b ≤ 57
  unfolding digit
  digit_high = leb-true b 57 (rw (le-leb 48 b digit_low) at h)

-- more digits after a number above zero
pub decimal_on : (n : ℕ) (w : List ℕ) → 0 < n → all digit w ≡ true → decimal (pos (value n w)) ≡ decimal (pos n) ++ w
unfolding value
decimal_on n [] h k = sym (append-nil (decimal (pos n)))
decimal_on n (b ∷ w) h k =
    let d = all_first digit b w k in
    let low = digit_low b d in
    let high = digit_high b d in
    let e : 48 + (b - 48) ≡ b = omega arith in
    decimal_on (n * 10 + (b - 48)) w (omega arith) (all_rest digit b w k) ∙ rw (decimal_step n (b - 48) h (omega arith), e) (append_assoc (decimal (pos n)) (b ∷ []) w)

pub decimal_one : (b : ℕ) → digit b ≡ true → decimal (pos (value 0 (b ∷ []))) ≡ b ∷ []
unfolding decimal value
decimal_one b d =
    let low = digit_low b d in
    let high = digit_high b d in
    let e : 48 + (0 * 10 + (b - 48)) ≡ b = omega arith in
    one_digit (0 * 10 + (b - 48)) (omega arith) ∙ ap (λ (c : ℕ). c ∷ []) e

pub decimal_needed : (b : ℕ) (w : List ℕ) → digit b ≡ true → all digit w ≡ true → (b ≡ 48 → ⊥) → decimal (pos (value 0 (b ∷ w))) ≡ b ∷ w
unfolding value
decimal_needed b w d k n =
    let low = digit_low b d in
    decimal_on (0 * 10 + (b - 48)) w (omega (arith, n)) k ∙ ap (λ (v : List ℕ). v ++ w) (decimal_one b d)

-- a zero before adds nothing
pub value_zero : (w : List ℕ) → value 0 (48 ∷ w) ≡ value 0 w
unfolding value
value_zero w = refl
