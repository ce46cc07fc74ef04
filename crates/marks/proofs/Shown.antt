-- Laws of what is shown of a line. Assumes nothing.
use mathlib.Core.Path.{◌≡◌, refl, sym, ap, ◌∙◌}
use mathlib.Core.List.{List, [], ◌∷◌, ◌++◌, map}
use mathlib.Core.Bool.{Bool, true, false, cond}
use Prim.Native.Nat.{ℕ, zero, suc, ◌+◌, ◌-◌, ◌*◌, ◌≤◌, ◌<◌, min}
use native.Mathlib.Nat.{min-eq_left, min-eq_right}
use native.Mathlib.Numerals.{add-one}
use native.Mathlib.Omega.{arith}
use borrow.Author.Tests.{le-ltb, lt-ltb, leb-true, leb-false}
use lib.Dec.{leb, ltb}
use lib.ListN.{length, take, drop, length-take, length-drop, drop_of_length-le, get_or, replicate, replicate-append-replicate}
use lib.Seq.{take_all, take-length, drop-length, drop-cons}
use mir.Val.{bool_byte}
use Rattle.base.specs.Bytes.{bytes, bytes_from, run}
use Rattle.base.proofs.Runs.{run_fits, run_take}
use Rattle.lines.specs.Added.{Added}
use Rattle.lines.specs.Times.{times}
use Rattle.place.specs.Places.{goes_on, no_line_feed, within, line_start, before, from_place}
use Rattle.marks.specs.Shown.{Widths, seen, shown_from, shown_to, only, line, mark, marked, marked_line}

-- a part that goes to the end
pub to_end : (s : List ℕ) (i : ℕ) → take (length s - i) (drop i s) ≡ drop i s
to_end s i = take_all (length s - i) (drop i s) (omega (arith, length-drop i s))

module _ (whole last : ℕ) (bs : List ℕ) where
  pub from_all : length bs ≤ whole → 0 ≡ shown_from whole last bs
  unfolding shown_from
  from_all h = rw (le-ltb whole (length bs) h)

  -- r bytes are passed over
  pub from_cut : (r : ℕ) → whole < length bs → r ≡ length (run goes_on (take (length bs - (length bs - last)) (drop (length bs - last) bs))) → length bs - last + r ≡ shown_from whole last bs
  unfolding shown_from
  from_cut r h e = rw (lt-ltb whole (length bs) h, e, to_end bs (length bs - last))

  pub from_fits : {r : ℕ} → r ≡ shown_from whole last bs → r ≤ length bs
  unfolding shown_from
  from_fits e = rw e (by_test (ltb whole (length bs)))
    where
      by_test : (t : Bool) → cond t (length bs - last + length (run goes_on (drop (length bs - last) bs))) 0 ≤ length bs
      by_test true = omega (arith, run_fits goes_on (drop (length bs - last) bs), length-drop (length bs - last) bs)
      by_test false = omega arith

-- a place past the end is as good as the end
module _ (s : List ℕ) (n : ℕ) where
  by_place : (P : ℕ → Type 0) → (n ≤ length s → P n) → (length s ≤ n → P (length s)) → P (within s n)
  unfolding within
  by_place P inside past = by_test (leb n (length s)) refl
    where
      by_test : (t : Bool) → leb n (length s) ≡ t → P (min n (length s))
      by_test true h = rw (min-eq_left (leb-true n (length s) h)) (inside (leb-true n (length s) h))
      by_test false h = let l : length s ≤ n = omega (arith, leb-false n (length s) h) in rw (min-eq_right l) (past l)

  take_within : take (within s n) s ≡ take n s
  take_within = by_place (λ k. take k s ≡ take n s) (λ h. refl) (λ h. rw (take_all n s h) (take-length s))

  drop_within : drop (within s n) s ≡ drop n s
  drop_within = by_place (λ k. drop k s ≡ drop n s) (λ h. refl) (λ h. rw (drop_of_length-le s h) (drop-length s))

-- n bytes, and r of k more
pub to_is : (next rest : ℕ) (bs : List ℕ) (n k r : ℕ) → n ≡ within bs next → k ≡ within (take (length bs - n) (drop n bs)) rest → r ≡ length (run goes_on (take k (take (length bs - n) (drop n bs)))) → n + r ≡ shown_to next rest bs
unfolding shown_to
to_is next rest bs n k r en ek er = rw (er, ek, to_end bs n, take_within (drop n bs) rest, en, drop_within bs next)

pub to_fits : (next rest : ℕ) (bs : List ℕ) {r : ℕ} → r ≡ shown_to next rest bs → r ≤ length bs
unfolding shown_to within
to_fits next rest bs e = omega (arith, run_fits goes_on (take rest (drop next bs)), length-take rest (drop next bs), length-drop next bs)

-- what is seen of the bytes from a place on
pub seen_on : (bs : List ℕ) (i : ℕ) → i < length bs → map seen (drop i bs) ≡ (seen (get_or bs i 0) ∷ []) ++ map seen (drop (i + 1) bs)
seen_on bs i h = rw (add-one i, drop-cons bs i 0 h)

-- a byte so many times is one cell each
pub cells : (n b : ℕ) → times n (b ∷ []) ≡ replicate n b
unfolding times
cells zero b = refl
cells (suc n) b = ap (λ (l : List ℕ). b ∷ l) (cells n b)

pub spaces : (t : Bool) (k : ℕ) → times (2 + 3 * bool_byte t + k) (32 ∷ []) ≡ bytes "  " ++ only t (bytes "   ") ++ replicate k 32
unfolding only bytes bytes_from
spaces t k = cells (2 + 3 * bool_byte t + k) 32 ∙ by t
  where
    by : (t : Bool) → replicate (2 + 3 * bool_byte t + k) 32 ≡ bytes "  " ++ only t (bytes "   ") ++ replicate k 32
    by true = sym (replicate-append-replicate {A = ℕ} 5 k 32)
    by false = sym (replicate-append-replicate {A = ℕ} 2 k 32)

pub same_adds : {s t page page' : List ℕ} {at end : ℕ} → s ≡ t → Added s page at page' end → Added t page at page' end
same_adds e a = rw e at a

-- the two lines, from parts
pub marked_parts : (w : Widths) (bs cs : List ℕ) (from to : ℕ) → from ≡ shown_from w.whole w.last bs → to ≡ shown_to w.next w.rest cs → line (ltb 0 from) (drop from bs) (take to cs) (ltb to (length cs)) ++ mark (ltb 0 from) (drop from bs) ≡ marked w bs cs
unfolding marked
marked_parts w bs cs from to ef et = rw (ef, et)

-- the same, from parts of the text
pub marked_text : (w : Widths) (text : List ℕ) (place p start r : ℕ) → p ≡ within text place → start ≡ line_start text p → r ≡ length (run no_line_feed (drop p text)) → marked w (take (p - start) (drop start text)) (take r (drop p text)) ≡ marked_line w text place
unfolding marked_line before from_place
marked_text w text place p start r ep es er = rw (er, run_take no_line_feed (drop p text), es, ep)
