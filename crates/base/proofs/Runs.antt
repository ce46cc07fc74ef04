-- Laws of runs. Assumes nothing.
use mathlib.Core.Path.{◌≡◌, refl, ap, ◌∙◌}
use mathlib.Core.List.{List, [], ◌∷◌, ◌++◌}
use mathlib.Core.Bool.{Bool, true, false, not, ◌&&◌, ◌||◌, or_comm}
use Prim.Native.Nat.{ℕ, suc, ◌+◌, ◌-◌, ◌≤◌, ◌<◌}
use native.Mathlib.Nat.{le_refl}
use native.Mathlib.Numerals.{add-one}
use native.Mathlib.Omega.{arith}
use lib.Dec.{leb, ltb}
use borrow.Author.Tests.{not-true, le-leb, lt-leb, leb-true, ltb-true, ltb-false}
use lib.ListN.{length, get_or, take, drop, drop_of_length-le, length-drop}
use lib.Seq.{drop-cons}
use Rattle.base.specs.Bytes.{between, letter, small, capital, digit, letter_or_digit, run, begins, all}

module _ (such : ℕ → Bool) where
  -- a run after the test of its first byte
  abbrev after : ℕ → List ℕ → Bool → List ℕ
  after b s t = elim t [ true ↦ b ∷ run such s | false ↦ [] ]

  pub run_yes : (b : ℕ) (s : List ℕ) → such b ≡ true → run such (b ∷ s) ≡ b ∷ run such s
  unfolding run
  run_yes b s h = ap (after b s) h

  pub run_no : (b : ℕ) (s : List ℕ) → such b ≡ false → run such (b ∷ s) ≡ []
  unfolding run
  run_no b s h = ap (after b s) h

  -- a run is the beginning of what it runs over
  pub run_take : (s : List ℕ) → take (length (run such s)) s ≡ run such s
  unfolding run
  run_take [] = refl
  run_take (b ∷ s) = by_test (run_take s) (such b)
    where
      by_test : take (length (run such s)) s ≡ run such s → (t : Bool) → take (length (after b s t)) (b ∷ s) ≡ after b s t
      by_test e true = ap (λ (l : List ℕ). b ∷ l) e
      by_test e false = refl

  -- a run from the place p on, as the part of s up to its end
  pub run_part : (s : List ℕ) (p e : ℕ) → e ≡ p + length (run such (drop p s)) → take (e - p) (drop p s) ≡ run such (drop p s)
  run_part s p e h = let n : e - p ≡ length (run such (drop p s)) = omega arith in rw n (run_take (drop p s))

  pub run_fits : (s : List ℕ) → length (run such s) ≤ length s
  unfolding run
  run_fits [] = le_refl 0
  run_fits (b ∷ s) = by_test (run_fits s) (such b)
    where
      by_test : length (run such s) ≤ length s → (t : Bool) → length (after b s t) ≤ suc (length s)
      by_test h true = omega arith
      by_test h false = omega arith

  -- a run from the place p on ends within s
  pub run_within : (s : List ℕ) (p e : ℕ) → p ≤ length s → e ≡ p + length (run such (drop p s)) → e ≤ length s
  run_within s p e h k = omega (arith, run_fits (drop p s), length-drop p s)

  -- a loop over a run, at the place where it stands
  module _ (s : List ℕ) (i : ℕ) where
    pub run_on : i < length s → such (get_or s i 0) ≡ true → i + 1 + length (run such (drop (i + 1) s)) ≡ i + length (run such (drop i s))
    run_on p h = rw (add-one, drop-cons s i 0, run_yes (get_or s i 0) (drop (suc i) s) h) (omega arith)

    pub run_stop : i < length s → such (get_or s i 0) ≡ false → i ≡ i + length (run such (drop i s))
    run_stop p h = rw (drop-cons s i 0, run_no (get_or s i 0) (drop (suc i) s) h) (omega arith)

    pub run_out : length s ≤ i → i ≡ i + length (run such (drop i s))
    unfolding run
    run_out p = rw (drop_of_length-le s p) (omega arith)

-- ---- the first byte

module _ (such : ℕ → Bool) (s : List ℕ) (i : ℕ) where
  pub begins_at : i < length s → begins such (drop i s) ≡ such (get_or s i 0)
  unfolding begins
  begins_at h = rw (drop-cons s i 0 h)

  pub begins_none : length s ≤ i → begins such (drop i s) ≡ false
  unfolding begins
  begins_none h = rw (drop_of_length-le s h)

  pub begins_within : begins such (drop i s) ≡ true → i < length s
  begins_within h = by (ltb i (length s)) refl
    where
      by : (t : Bool) → ltb i (length s) ≡ t → i < length s
      by true e = ltb-true i (length s) e
      by false e = let z : ◌≡◌ {A = ℕ} 0 1 = cc (begins_none (ltb-false i (length s) e)) in absurd (omega arith)

-- what begins with such a byte, by what such a byte is
pub begins_as : (such other : ℕ → Bool) {t : Bool} → ((b : ℕ) → such b ≡ true → other b ≡ t) → (s : List ℕ) → begins such s ≡ true → begins other s ≡ t
unfolding begins
begins_as such other is [] h = absurd (let z : ◌≡◌ {A = ℕ} 0 1 = cc in omega arith)
begins_as such other is (b ∷ s) h = is b h

-- a run begins as what it runs over
pub run_begins : (such other : ℕ → Bool) (s : List ℕ) → begins such s ≡ true → begins other (run such s) ≡ begins other s
unfolding begins
run_begins such other [] h = unfold run in refl
run_begins such other (b ∷ s) h = rw (run_yes such b s h)

-- a place where no such byte stands ends its own run
pub run_none : (such : ℕ → Bool) (s : List ℕ) → begins such s ≡ false → run such s ≡ []
unfolding begins
run_none such [] h = unfold run in refl
run_none such (b ∷ s) h = run_no such b s h

-- ---- runs of two kinds of bytes

pub all_own : (such : ℕ → Bool) (s : List ℕ) → all such (run such s) ≡ true
unfolding run all
all_own such [] = refl
all_own such (b ∷ s) = by_test (all_own such s) (such b) refl
  where
    by_test : all such (run such s) ≡ true → (t : Bool) → such b ≡ t → all such (elim t as (λ _. List ℕ) [ true ↦ b ∷ run such s | false ↦ [] ]) ≡ true
    by_test e true h = ap (λ (t : Bool). elim t as (λ _. Bool) [ true ↦ all such (run such s) | false ↦ false ]) h ∙ e
    by_test e false h = refl

module _ (such other both : ℕ → Bool) (is : (b : ℕ) → both b ≡ (such b || other b)) where
  abbrev stop : List ℕ → List ℕ
  stop s = drop (length (run such s)) s

  -- a run of such bytes, after which none of the others stands, is a run of both
  pub run_alone : (s : List ℕ) → begins other (stop s) ≡ false → run both s ≡ run such s
  unfolding begins
  run_alone [] h = unfold run in refl
  run_alone (b ∷ s) h = by_test (run_alone s) (such b) refl
    where
      by_test : (begins other (stop s) ≡ false → run both s ≡ run such s) → (t : Bool) → such b ≡ t → run both (b ∷ s) ≡ run such (b ∷ s)
      by_test on true e = rw (run_yes such b s e, run_yes both b s (is b ∙ ap (λ (t : Bool). t || other b) e)) (ap (λ (l : List ℕ). b ∷ l) (on (rw (run_yes such b s e) at h)))
      by_test on false e = rw (run_no such b s e, run_no both b s (is b ∙ rw (e) (rw (run_no such b s e) at h)))

  -- one after which another stands is not all of such bytes
  pub run_mixed : (s : List ℕ) → begins other (stop s) ≡ true → all such (run both s) ≡ false
  unfolding begins
  run_mixed [] h = unfold run in absurd (let z : ◌≡◌ {A = ℕ} 0 1 = cc in omega arith)
  run_mixed (b ∷ s) h = by_test (run_mixed s) (such b) refl
    where
      by_test : (begins other (stop s) ≡ true → all such (run both s) ≡ false) → (t : Bool) → such b ≡ t → all such (run both (b ∷ s)) ≡ false
      by_test on true e = rw (run_yes both b s (is b ∙ ap (λ (t : Bool). t || other b) e)) (unfold all in rw (all, e) (on (rw (run_yes such b s e) at h)))
      by_test on false e = rw (run_yes both b s (is b ∙ rw (e) (rw (run_no such b s e) at h))) (unfold all in rw (all, e))

  -- one that begins with such a byte is not all of the others
  pub run_begun : ((b : ℕ) → such b ≡ true → other b ≡ false) → (s : List ℕ) → begins such s ≡ true → all other (run both s) ≡ false
  unfolding begins
  run_begun apart [] h = absurd (let z : ◌≡◌ {A = ℕ} 0 1 = cc in omega arith)
  run_begun apart (b ∷ s) h = rw (run_yes both b s (is b ∙ ap (λ (t : Bool). t || other b) h)) (unfold all in rw (all, apart b h))

-- ---- bytes that are all such

pub all_cons : (such : ℕ → Bool) (b : ℕ) (w : List ℕ) → such b ≡ true → all such w ≡ true → all such (b ∷ w) ≡ true
unfolding all
all_cons such b w h k = rw (h, all) k

pub all_first : (such : ℕ → Bool) (b : ℕ) (w : List ℕ) → all such (b ∷ w) ≡ true → such b ≡ true
unfolding all
all_first such b w h = by (such b) h
  where
    by : (t : Bool) → (elim t [ true ↦ all such w | false ↦ false ]) ≡ true → t ≡ true
    by true h = refl
    by false h = h

pub all_rest : (such : ℕ → Bool) (b : ℕ) (w : List ℕ) → all such (b ∷ w) ≡ true → all such w ≡ true
unfolding all
all_rest such b w h = rw (all_first such b w h, all) at h

pub all_append : (such : ℕ → Bool) (v w : List ℕ) → all such v ≡ true → all such w ≡ true → all such (v ++ w) ≡ true
all_append such [] w h k = k
all_append such (b ∷ v) w h k = all_cons such b (v ++ w) (all_first such b v h) (all_append such v w (all_rest such b v h) k)

pub begins_append : (such : ℕ → Bool) (v w : List ℕ) → begins such v ≡ true → begins such (v ++ w) ≡ true
unfolding begins
begins_append such [] w h = let z : ◌≡◌ {A = ℕ} 0 1 = cc in absurd (omega arith)
begins_append such (b ∷ v) w h = h

pub run_stops : (such : ℕ → Bool) (w tail : List ℕ) → all such w ≡ true → begins such tail ≡ false → run such (w ++ tail) ≡ w
run_stops such [] tail h t = run_none such tail t
run_stops such (b ∷ w) tail h t = run_yes such b (w ++ tail) (all_first such b w h) ∙ ap (λ (v : List ℕ). b ∷ v) (run_stops such w tail (all_rest such b w h) t)

pub all_as : (such other : ℕ → Bool) → ((b : ℕ) → such b ≡ true → other b ≡ true) → (w : List ℕ) → all such w ≡ true → all other w ≡ true
all_as such other is [] h = unfold all in refl
all_as such other is (b ∷ w) h = all_cons other b w (is b (all_first such b w h)) (all_as such other is w (all_rest such b w h))

-- not all of the bytes are what the first is not
pub all_not : (such : ℕ → Bool) (w : List ℕ) → begins (λ b. not (such b)) w ≡ true → all such w ≡ false
unfolding begins all
all_not such [] h = let z : ◌≡◌ {A = ℕ} 0 1 = cc in absurd (omega arith)
all_not such (b ∷ w) h = rw (not-true (such b) h, all)

-- ---- letters and digits

-- a byte in a range, and one outside it
module _ (low high b : ℕ) where
  pub between_yes : low ≤ b → b ≤ high → between low high b ≡ true
  between_yes h k = rw (le-leb low b h, le-leb b high k)

  pub between_no : (low ≤ b → high < b) → between low high b ≡ false
  between_no h = by (leb low b) refl
    where
      by : (t : Bool) → leb low b ≡ t → (t && leb b high) ≡ false
      by true e = lt-leb b high (h (leb-true low b e))
      by false e = refl

second : (a b : Bool) → (a && b) ≡ true → b ≡ true
second true b h = h
second false b h = let z : ◌≡◌ {A = ℕ} 0 1 = cc in absurd (omega arith)

not_first : (a b : Bool) → (a || b) ≡ false → a ≡ false
not_first true b h = let z : ◌≡◌ {A = ℕ} 0 1 = cc in absurd (omega arith)
not_first false b h = refl

pub digit_apart : (b : ℕ) → digit b ≡ true → letter b ≡ false
unfolding digit letter small capital
digit_apart b h = let n = leb-true b 57 (second (leb 48 b) (leb b 57) h) in rw (lt-leb 97 b (omega arith), lt-leb 65 b (omega arith))

pub digit_not_small : (b : ℕ) → digit b ≡ true → small b ≡ false
unfolding letter
digit_not_small b h = not_first (small b) (capital b) (digit_apart b h)

pub letter_apart : (b : ℕ) → letter b ≡ true → digit b ≡ false
letter_apart b h = by (digit b) refl
  where
    by : (t : Bool) → digit b ≡ t → digit b ≡ false
    by true e = let z : ◌≡◌ {A = ℕ} 0 1 = cc (digit_apart b e) in absurd (omega arith)
    by false e = e

pub letters_first : (b : ℕ) → letter_or_digit b ≡ (letter b || digit b)
unfolding letter_or_digit
letters_first b = refl

pub digits_first : (b : ℕ) → letter_or_digit b ≡ (digit b || letter b)
unfolding letter_or_digit
digits_first b = or_comm (letter b) (digit b)

module _ (b : ℕ) where
  pub small_is : small b ≡ true → letter b ≡ true
  unfolding letter
  small_is h = rw h

  pub letter_is : letter b ≡ true → letter_or_digit b ≡ true
  unfolding letter_or_digit
  letter_is h = rw h

  pub digit_is : digit b ≡ true → letter_or_digit b ≡ true
  unfolding letter_or_digit
  digit_is h = rw (digit_apart b h, h)

  pub neither_is : letter b ≡ false → digit b ≡ false → letter_or_digit b ≡ false
  unfolding letter_or_digit
  neither_is h k = rw (h, k)
