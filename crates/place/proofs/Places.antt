-- Laws of places: each loop's, and that a count and a line's beginning are in range. Assumes nothing.
use mathlib.Core.Path.{◌≡◌, refl, sym, ap, ◌∙◌}
use mathlib.Core.List.{List, [], ◌∷◌}
use mathlib.Core.Bool.{Bool, true, false, cond}
use Prim.Native.Nat.{ℕ, zero, suc, ◌+◌, ◌-◌, ◌≤◌, ◌<◌}
use native.Mathlib.Nat.{le_refl, min-le_left, min-le_right}
use native.Mathlib.Numerals.{add-one}
use native.Mathlib.Omega.{arith}
use lib.ListN.{length, get_or, take, drop, length-take, drop_of_length-le}
use lib.Seq.{drop-cons}
use Rattle.std.specs.List.{filter}
use Rattle.place.specs.Places.{line_feed, count, within, line_start, spot_at, spot}
use Rattle.place.specs.declared.Spot.{Spot}

module _ (such : ℕ → Bool) where
  -- a count after the test of its first byte
  abbrev counted : List ℕ → Bool → ℕ
  counted s t = elim t [ true ↦ suc (count such s) | false ↦ count such s ]

  pub count_fits : (s : List ℕ) → count such s ≤ length s
  unfolding count
  count_fits [] = le_refl 0
  count_fits (b ∷ s) = by_test (count_fits s) (such b)
    where
      by_test : count such s ≤ length s → (t : Bool) → counted s t ≤ suc (length s)
      by_test h true = omega arith
      by_test h false = omega arith

  pub count_take : (n : ℕ) (s : List ℕ) {r : ℕ} → r ≡ count such (take n s) → r ≤ n
  count_take n s e = omega (arith, count_fits (take n s), length-take n s, min-le_left n (length s))

  -- a loop that counts, at the place where it stands
  module _ (s : List ℕ) (n i : ℕ) where
    first : i < length s → count such (drop i s) ≡ counted (drop (i + 1) s) (such (get_or s i 0))
    unfolding count
    first p = rw (drop-cons s i 0, add-one)

    pub count_yes : i < length s → such (get_or s i 0) ≡ true → n + 1 + count such (drop (i + 1) s) ≡ n + count such (drop i s)
    count_yes p h = rw (first p, h) (omega arith)

    pub count_no : i < length s → such (get_or s i 0) ≡ false → n + count such (drop (i + 1) s) ≡ n + count such (drop i s)
    count_no p h = rw (first p, h)

    pub count_out : length s ≤ i → n + count such (drop i s) ≡ n
    unfolding count
    count_out p = rw (drop_of_length-le s p) (omega arith)

  -- as the library counts
  pub count_filtered : (s : List ℕ) → length (filter such s) ≡ count such s
  unfolding count
  count_filtered [] = refl
  count_filtered (b ∷ s) = by_test (count_filtered s) (such b)
    where
      by_test : length (filter such s) ≡ count such s → (t : Bool) → length (cond t (b ∷ filter such s) (filter such s)) ≡ counted s t
      by_test e true = ap suc e
      by_test e false = e

pub within_fits : (text : List ℕ) (place : ℕ) {p : ℕ} → p ≡ within text place → p ≤ length text
unfolding within
within_fits text place e = rw e (min-le_right place (length text))

-- a loop that goes back to where a line begins, at the place i
module _ (text : List ℕ) where
  -- where the line of the place after p begins, by the test of the byte at p
  abbrev started : ℕ → Bool → ℕ
  started p t = elim t [ true ↦ suc p | false ↦ line_start text p ]

  from_test : (i : ℕ) → 0 < i → line_start text i ≡ started (i - 1) (line_feed (get_or text (i - 1) 0))
  unfolding line_start
  from_test zero p = absurd (omega arith)
  from_test (suc i) p = let e : suc i - 1 ≡ i = omega arith in rw e

  pub start_here : (i : ℕ) → 0 < i → line_feed (get_or text (i - 1) 0) ≡ true → i ≡ line_start text i
  start_here i p h = let e : i ≡ suc (i - 1) = omega arith in e ∙ sym (from_test i p ∙ ap (started (i - 1)) h)

  pub start_back : (i : ℕ) → 0 < i → line_feed (get_or text (i - 1) 0) ≡ false → line_start text (i - 1) ≡ line_start text i
  start_back i p h = sym (from_test i p ∙ ap (started (i - 1)) h)

  pub start_first : (i : ℕ) → i ≤ 0 → i ≡ line_start text i
  unfolding line_start
  start_first zero p = refl
  start_first (suc i) p = absurd (omega arith)

  begun : (p : ℕ) → line_start text p ≤ p
  unfolding line_start
  begun zero = le_refl 0
  begun (suc p) = by_test (begun p) (line_feed (get_or text p 0))
    where
      by_test : line_start text p ≤ p → (t : Bool) → started p t ≤ suc p
      by_test h true = omega arith
      by_test h false = omega arith

  pub start_fits : (p : ℕ) {start : ℕ} → start ≡ line_start text p → start ≤ p
  start_fits p e = rw e (begun p)

-- where the line of a place begins, by its spot
pub spot_start : (text : List ℕ) (place : ℕ) {p : ℕ} {s : Spot} → s ≡ spot text place → p ≡ within text place → s.start ≡ line_start text p
unfolding spot spot_at
spot_start text place e h = ap (λ (s : Spot). s.start) e ∙ ap (line_start text) (sym h)
