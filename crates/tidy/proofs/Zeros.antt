-- Laws of a digit word without needless zeros. Assumes nothing.
use Rattle.std.proofs.Common.{not, take, ◌-◌, one-add, length-take}
use Rattle.std.proofs.Math.Seq.{drop-nil}
use Rattle.std.specs.Prelude.{Option, unwrap_or, position}
use Rattle.std.specs.List.{position_or_len}
use Rattle.std.proofs.lemmas.Grind.{common_steps}
use Rattle.std.proofs.lemmas.List.Sums.{prefix_len-le-length}
use mathlib.Core.Path.{◌≡◌, refl, sym, ap, ◌∙◌}
use mathlib.Core.List.{List, [], ◌∷◌}
use mathlib.Core.Bool.{Bool, true, false}
use Prim.Native.Nat.{ℕ, ◌<◌}
use native.Mathlib.Omega.{arith}
use borrow.Author.Tests.{eqb-true, eqb-false}
use lib.Dec.{eqb}
use lib.ListN.{length, drop}
use lib.IntN.{pos}
use Rattle.base.specs.Bytes.{digit, all, value}
use Rattle.numbers.specs.Numbers.{decimal}
use Rattle.base.proofs.Runs.{all_first, all_rest}
use Rattle.spelling.proofs.Decimals.{decimal_one, decimal_needed, value_zero}
use Rattle.tidy.specs.inner.Copies.{without_zeros}

module _ (b : ℕ) (w : List ℕ) where
  needless : b ≡ 48 → 0 < length w → without_zeros (b ∷ w) ≡ without_zeros w
  unfolding without_zeros
  needless e h = grind (arith, common_steps)

  needed : (b ≡ 48 → ⊥) → without_zeros (b ∷ w) ≡ b ∷ w
  unfolding without_zeros
  needed n = grind (arith, common_steps)

last_needed : (b : ℕ) → without_zeros (b ∷ []) ≡ b ∷ []
unfolding without_zeros
last_needed b = grind (arith, common_steps)

abbrev pub no_zero : ℕ → Bool
no_zero b = not (eqb b 48)

-- the bytes before the first that is no zero, of all but the last, are those that are left out
zeros_before : (b : ℕ) (w : List ℕ) → drop (position_or_len no_zero (take (length w) (b ∷ w))) (b ∷ w) ≡ without_zeros (b ∷ w)
zeros_before b [] = sym (last_needed b)
zeros_before b (d ∷ w) = by (zeros_before d w) (eqb b 48) refl
  where
    by : drop (position_or_len no_zero (take (length w) (d ∷ w))) (d ∷ w) ≡ without_zeros (d ∷ w) → (t : Bool) → eqb b 48 ≡ t → drop (position_or_len no_zero (b ∷ take (length w) (d ∷ w))) (b ∷ d ∷ w) ≡ without_zeros (b ∷ d ∷ w)
    by on true e = rw (e, one-add) (on ∙ sym (needless b (d ∷ w) (eqb-true b 48 e) (omega arith)))
    by on false e = rw e (sym (needed b (d ∷ w) (eqb-false b 48 e)))

-- the place of that byte, or of the last where there is none
first_or_last : (xs : List ℕ) (last : ℕ) → last ≡ length xs → unwrap_or (position no_zero xs) last ≡ position_or_len no_zero xs
first_or_last xs last e = let k = prefix_len-le-length (λ x. not (no_zero x)) xs in grind (arith, common_steps)

pub zeros_from : (w : List ℕ) (last from : ℕ) (r : Option ℕ) → last ≡ length w - 1 → r ≡ position no_zero (take last w) → from ≡ unwrap_or r last → drop from w ≡ without_zeros w
zeros_from [] last from r l e f = simp drop-nil (unfold without_zeros in refl)
zeros_from (b ∷ w) last from r l e f =
    let long : last ≡ length w = omega arith in
    let is = f ∙ ap (λ (x : Option ℕ). unwrap_or x last) e ∙ first_or_last (take last (b ∷ w)) last (omega (arith, length-take last (b ∷ w))) in
    rw is (rw long (zeros_before b w))

-- a digit word without needless zeros is the decimal of its value
pub zeros_decimal : (w : List ℕ) → all digit w ≡ true → 0 < length w → without_zeros w ≡ decimal (pos (value 0 w))
zeros_decimal [] a h = absurd (omega arith)
zeros_decimal (b ∷ []) a h = last_needed b ∙ sym (decimal_one b (all_first digit b [] a))
zeros_decimal (b ∷ d ∷ w) a h =
    let digits = all_rest digit b (d ∷ w) a in
    let rest = zeros_decimal (d ∷ w) digits (omega arith) in
    grind (arith, common_steps, needless b (d ∷ w), needed b (d ∷ w), value_zero (d ∷ w), decimal_needed b (d ∷ w) (all_first digit b (d ∷ w) a) digits)
