-- Laws of the buffer that a decimal is written into from its end. Assumes nothing.
use mathlib.Core.Path.{◌≡◌, refl, sym, ap, ◌∙◌}
use mathlib.Core.List.{List, [], ◌∷◌, ◌++◌, append_assoc, append-nil}
use Prim.Native.Nat.{ℕ, suc, ◌+◌, ◌-◌, ◌/◌, ◌%◌, ◌^◌, ◌≤◌, ◌<◌}
use native.Mathlib.Omega.{arith}
use lib.ListN.{length, replicate, take, drop, set, length-append, drop_of_length-le}
use lib.Seq.{sets, sets-eq, length-sets, set_comm, drop_at, length-take-le, take_all}
use Rattle.numbers.specs.inner.Buffers.{AtTheEnd}
use Rattle.numbers.proofs.Digits.{all_digits, one_digit, more_digits, some_digits, few_digits}

-- a byte set before others that are set already is set first
set_before : (bs l : List ℕ) (i j v : ℕ) → i < j → set (sets l j bs) i v ≡ sets (set l i v) j bs
set_before [] l i j v h = refl
set_before (b ∷ bs) l i j v h = set_before bs (set l j b) i (suc j) v (omega arith) ∙ ap (λ (m : List ℕ). sets m (suc j) bs) (set_comm l j i b v (λ e. absurd (omega arith)))

-- one byte before those that stand there
pub one_before : {bs first last : List ℕ} {at : ℕ} (v : ℕ) → 1 ≤ at → AtTheEnd bs first last at → AtTheEnd (v ∷ bs) first (set last (at - 1) v) (at - 1)
one_before {bs} {first} {last} {at} v h w =
    let e : suc (at - 1) ≡ at = omega arith in
    record { count = omega (arith, w.count); bytes = rw (w.bytes, e) (set_before bs first (at - 1) at v (omega arith)) }

-- the digits of n are those of the rest, then those that are written
pub record Written (n rest at : ℕ) (first buffer : List ℕ) : Type 0 where
  pub done : List ℕ
  pub all : all_digits n ≡ all_digits rest ++ done
  pub stand : AtTheEnd done first buffer at

pub none_written : (n : ℕ) (buffer : List ℕ) → Written n n 20 buffer buffer
none_written n buffer = record { done = []; all = sym (append-nil (all_digits n)); stand = record { count = refl; bytes = refl } }

module _ {n rest at : ℕ} {first buffer : List ℕ} (w : Written n rest at first buffer) where
  -- there is a place for the next
  pub one_left : n < 2 ^ 64 → 1 ≤ at
  one_left small =
      let l = ap length w.all ∙ length-append (all_digits rest) w.done in
      omega (arith, l, w.stand.count, few_digits 19 n (omega arith), some_digits rest)

  pub digit_more : 10 ≤ rest → 1 ≤ at → Written n (rest / 10) (at - 1) first (set buffer (at - 1) (48 + rest % 10))
  digit_more h p = record {
    done = (48 + rest % 10) ∷ w.done;
    all = w.all ∙ rw (more_digits rest h) (append_assoc (all_digits (rest / 10)) ((48 + rest % 10) ∷ []) w.done);
    stand = one_before (48 + rest % 10) p w.stand;
  }

  pub digit_last : rest < 10 → 1 ≤ at → AtTheEnd (all_digits n) first (set buffer (at - 1) (48 + rest)) (at - 1)
  digit_last h p = rw (w.all, one_digit rest h) (one_before (48 + rest) p w.stand)

-- what a caller finds in a buffer that held zeros
module _ {bs b : List ℕ} {at : ℕ} (w : AtTheEnd bs (replicate 20 0) b at) where
  pub buffer_size : length b ≡ 20
  buffer_size = ap length w.bytes ∙ length-sets (replicate 20 0) at bs

  pub end_part : take (20 - at) (drop at b) ≡ bs
  end_part =
      let e : 20 - at ≡ length bs = omega (arith, w.count) in
      let zeros : List ℕ = replicate 20 0 in
      rw (w.bytes, sets-eq bs zeros at (omega (arith, w.count)), drop_of_length-le zeros {i = at + length bs} (omega (arith, w.count)), append-nil (take at zeros ++ bs), drop_at (take at zeros) bs at (length-take-le at zeros (omega (arith, w.count))), e) (take_all (length bs) bs (omega arith))
