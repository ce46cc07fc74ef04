-- A form, filled byte by byte, and how long it can be. Assumes nothing.
use mathlib.Core.Path.{◌≡◌, refl}
use mathlib.Core.Bool.{Bool, true, false}
use mathlib.Core.List.{List, [], ◌∷◌, ◌++◌}
use Prim.Native.Nat.{ℕ, ◌+◌, ◌≤◌, ◌<◌}
use native.Mathlib.Numerals.{add-one}
use native.Mathlib.Omega.{arith}
use mathlib.Core.Logic.{◌≢◌}
use borrow.Author.Tests.{ne_eqb}
use lib.IntN.{pos}
use lib.ListN.{length, get_or, drop, drop_of_length-le}
use lib.Seq.{drop-cons}
use mir.Val.{bool_byte}
use Rattle.std.proofs.Common.{Iter, Option, Some, None}
use Rattle.std.proofs.lemmas.List.{nil_from_length}
use Rattle.std.proofs.iter.Yields.{fronts}
use Rattle.std.specs.Borrow.{Bor}
use Rattle.std.specs.Option.{unwrap_or, option_copied}
use Rattle.std.specs.Slice.Iter.{iter_rest}
use Rattle.numbers.specs.Numbers.{decimal}
use Rattle.lines.specs.Forms.{filled}

pub bit : (t : Bool) → bool_byte t ≤ 1
bit true = omega arith
bit false = omega arith

-- the next number in the place of a sign, or the next byte
module _ (form ns : List ℕ) (i : ℕ) (h : i < length form) where
  pub sign_on : get_or form i 0 ≡ 35 → filled (drop i form) ns ≡ decimal (pos (get_or ns 0 0)) ++ filled (drop (i + 1) form) (drop 1 ns)
  unfolding filled
  sign_on e = rw (drop-cons form i 0 h, add-one i, e)

  pub byte_on : get_or form i 0 ≢ 35 → filled (drop i form) ns ≡ (get_or form i 0 ∷ []) ++ filled (drop (i + 1) form) ns
  unfolding filled
  byte_on e = rw (drop-cons form i 0 h, add-one i, filled, ne_eqb (get_or form i 0) 35 e)

pub filled_out : (form ns : List ℕ) (i : ℕ) → length form ≤ i → filled (drop i form) ns ≡ []
unfolding filled
filled_out form ns i h = rw (drop_of_length-le form h)

-- the next number that is left, or 0, and those after it
pub next_number : (s t : Iter ℕ) (r : Option (Bor ℕ)) → fronts s r t → (unwrap_or (option_copied r) 0 ≡ get_or (iter_rest s) 0 0) × (iter_rest t ≡ drop 1 (iter_rest s))
next_number s t None h = let none : iter_rest s ≡ [] = nil_from_length (iter_rest s) h.0 in rw (h.1, none) (refl, refl)
next_number s t (Some x) h = rw h (refl, refl)
