-- Laws of counting, of cases in their order, of what bytes stand for and of numbers. Assumes nothing.
use mathlib.Core.Path.{◌≡◌, refl, sym, ap, ◌∙◌}
use mathlib.Core.Bool.{Bool, true, false, cond}
use mathlib.Core.List.{List, [], ◌∷◌, ◌++◌, map, append_assoc, append-nil}
use Prim.Native.Nat.{ℕ, suc, ◌+◌, ◌-◌, ◌*◌, ◌≤◌, ◌<◌}
use native.Mathlib.Numerals.{add-one}
use native.Mathlib.Omega.{arith}
use borrow.Author.Tests.{lt-ltb, le-ltb}
use lib.Dec.{eqb}
use lib.ListN.{length, get_or, set, take, drop, drop_of_length-le}
use lib.Seq.{drop-cons, drop-set-lt, take-suc-set, take_all, length-take-le}
use Rattle.std.specs.List.{filter, slice_split}
use Rattle.std.proofs.lemmas.List.{get_or-take}
use Rattle.std.proofs.lemmas.List.Sums.{length-filter}
use Rattle.std.proofs.lemmas.List.Splits.{length-slice_split}
use Rattle.rows.specs.Rows.{nth}
use Rattle.rows.proofs.Laws.{part_is_row}
use Rattle.cases.specs.Cases.{marks, meant, worth, in_order}

-- ---- counting, as the library counts, and the cases that are counted

pub marks_filtered : (mark : ℕ) (s : List ℕ) → length (filter (λ b. eqb b mark) s) ≡ marks mark s
unfolding marks
marks_filtered mark [] = refl
marks_filtered mark (b ∷ s) = by (marks_filtered mark s) (eqb b mark)
  where
    by : length (filter (λ b. eqb b mark) s) ≡ marks mark s → (t : Bool) → length (cond t (b ∷ filter (λ b. eqb b mark) s) (filter (λ b. eqb b mark) s)) ≡ cond t (suc (marks mark s)) (marks mark s)
    by e true = ap suc e
    by e false = e

pub in_order_length : (mark : ℕ) (s : List ℕ) → length (in_order mark s) ≡ marks mark s
unfolding in_order
in_order_length mark s = length-take-le _ _ (omega (arith, length-slice_split (λ b. eqb b mark) s, length-filter (λ b. eqb b mark) s, marks_filtered mark s))

pub in_order_at : (mark : ℕ) (s c : List ℕ) (i : ℕ) → i < marks mark s → c ≡ nth mark i s → c ≡ get_or (in_order mark s) i []
unfolding in_order
in_order_at mark s c i h e = e ∙ sym (get_or-take (marks mark s) (slice_split (λ b. eqb b mark) s) i [] h ∙ part_is_row mark s i)

-- ---- what the bytes of a file stand for

pub meant_on : (file : List ℕ) (i v : ℕ) → i < length file → v ≡ meant (get_or file i 0) → take (i + 1) (set file i v) ++ map meant (drop (i + 1) (set file i v)) ≡ take i file ++ map meant (drop i file)
meant_on file i v p e = rw (add-one i, take-suc-set file i v p, drop-set-lt (suc i) file i v (omega arith), append_assoc (take i file) (v ∷ []) (map meant (drop (suc i) file)), drop-cons file i 0 p, e)

pub meant_all : (file : List ℕ) (i : ℕ) → length file ≤ i → file ≡ take i file ++ map meant (drop i file)
meant_all file i p = rw (drop_of_length-le file p, append-nil (take i file), take_all i file p)

-- ---- numbers

module _ (s : List ℕ) (n i : ℕ) where
  pub worth_on : i < length s → n ≤ 9999 → worth (n * 10 + (get_or s i 0 - 48)) (drop (i + 1) s) ≡ worth n (drop i s)
  unfolding worth
  worth_on p few = rw (add-one i, drop-cons s i 0 p, le-ltb 9999 n few)

  pub worth_over : i < length s → 9999 < n → n ≡ worth n (drop i s)
  unfolding worth
  worth_over p many = rw (drop-cons s i 0 p, lt-ltb 9999 n many)

  pub worth_out : length s ≤ i → n ≡ worth n (drop i s)
  unfolding worth
  worth_out p = rw (drop_of_length-le s p)
