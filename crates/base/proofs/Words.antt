-- Laws of words: that two are the same, what a digit word is worth, and parts of a text. Assumes nothing.
use mathlib.Core.Path.{◌≡◌, refl, ap₂, ◌∙◌}
use mathlib.Core.List.{List, [], ◌∷◌}
use mathlib.Core.Bool.{Bool, true, false, ◌&&◌, false≢true}
use Prim.Native.Nat.{ℕ, ◌+◌, ◌-◌, ◌*◌, ◌≤◌, ◌<◌, min}
use native.Mathlib.Nat.{le_refl}
use native.Mathlib.Numerals.{add-one}
use native.Mathlib.Omega.{arith, min_cases}
use lib.Dec.{eqb}
use lib.Pointwise.{pointwise}
use lib.ListN.{length, get_or, take, drop, length-drop, drop_of_length-le}
use lib.Seq.{drop-cons, take_all}
use borrow.Author.Tests.{eqb-true}
use Rattle.base.specs.Bytes.{same, value}
use Rattle.base.specs.inner.Parts.{part}

-- std's equality of words is byte for byte
pub pointwise_same : (a b : List ℕ) → pointwise eqb a b ≡ same a b
unfolding same
pointwise_same [] [] = refl
pointwise_same [] (y ∷ b) = refl
pointwise_same (x ∷ a) [] = refl
pointwise_same (x ∷ a) (y ∷ b) = by_test (pointwise_same a b) (eqb x y)
  where
    by_test : pointwise eqb a b ≡ same a b → (t : Bool) → (t && pointwise eqb a b) ≡ elim t as (λ _. Bool) [ true ↦ same a b | false ↦ false ]
    by_test e true = e
    by_test e false = refl

-- two words after the test of their first bytes
abbrev after : List ℕ → List ℕ → Bool → Bool
after a b t = elim t [ true ↦ same a b | false ↦ false ]

pub same_equal : (a b : List ℕ) → same a b ≡ true → a ≡ b
unfolding same
same_equal [] [] h = refl
same_equal [] (y ∷ b) h = absurd (false≢true h)
same_equal (x ∷ a) [] h = absurd (false≢true h)
same_equal (x ∷ a) (y ∷ b) h = by_test (same_equal a b) (eqb x y) refl h
  where
    by_test : (same a b ≡ true → a ≡ b) → (t : Bool) → eqb x y ≡ t → after a b t ≡ true → x ∷ a ≡ y ∷ b
    by_test rest true e s = ap₂ ◌∷◌ (eqb-true x y e) (rest s)
    by_test rest false e s = absurd (false≢true s)

pub value_on : (n : ℕ) (w : List ℕ) (i : ℕ) → i < length w → value (n * 10 + (get_or w i 0 - 48)) (drop (i + 1) w) ≡ value n (drop i w)
unfolding value
value_on n w i p = rw (drop-cons w i 0, add-one)

pub value_out : (n : ℕ) (w : List ℕ) (i : ℕ) → length w ≤ i → value n (drop i w) ≡ n
unfolding value
value_out n w i p = rw (drop_of_length-le w p)

-- further digits only add
pub value_grows : (n : ℕ) (w : List ℕ) → n ≤ value n w
unfolding value
value_grows n [] = le_refl n
value_grows n (b ∷ w) = omega (arith, value_grows (n * 10 + (b - 48)) w)

-- a part ends where the text does
part_end : (text : List ℕ) (p e : ℕ) → take (min e (length text) - p) (drop p text) ≡ part text p e
unfolding part
part_end text p e = min_cases e (length text) _ (λ h q. rw q) (λ h q. let n : length (drop p text) ≤ e - p = omega (arith, length-drop p text) in rw (q, take_all (e - p) (drop p text) n) (take_all (length text - p) (drop p text) (omega (arith, length-drop p text))))

-- and is nothing where it begins after its end
pub part_at : (text : List ℕ) (p e n m : ℕ) → n ≡ min e (length text) → m ≡ min p n → take (n - m) (drop m text) ≡ part text p e
part_at text p e n m is at =
    min_cases p n _
    (λ h q. rw (at ∙ q, is) (part_end text p e))
    (λ h q. let z : n - n ≡ 0 = omega arith in let k : min e (length text) - p ≡ 0 = omega arith in rw (at ∙ q, z) (rw k at (part_end text p e)))
