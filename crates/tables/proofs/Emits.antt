-- Laws of writing a table. Assumes nothing.
use mathlib.Core.Path.{◌≡◌, refl, sym, ap, ◌∙◌}
use mathlib.Core.List.{List, [], ◌∷◌, ◌++◌}
use mathlib.Core.Bool.{Bool, true, false, cond}
use Prim.Native.Nat.{ℕ, suc, ◌+◌, ◌*◌, ◌/◌, ◌≤◌, ◌<◌}
use native.Mathlib.Nat.{add-zero, add-suc, suc-add}
use native.Mathlib.Numerals.{add-one}
use native.Mathlib.Omega.{arith}
use lib.Dec.{ltb}
use lib.IntN.{ℤ}
use lib.ListN.{length, set}
use lib.Seq.{sets, set_comm, length-sets}
use Rattle.instruction.specs.Instructions.{Instruction, encode}
use Rattle.tables.specs.inner.Tables.{put, emit}
use Rattle.instruction.proofs.Pairs.{length_pair}

-- ---- one pair

pub length_put : (table : List ℤ) (n : ℕ) (vs : List ℤ) → length (put table n vs) ≡ length table
unfolding put
length_put table n vs = by (ltb n (length table / 2))
  where
    by : (b : Bool) → length (cond b (sets table (n * 2) vs) table) ≡ length table
    by true = length-sets table (n * 2) vs
    by false = refl

module _ {A : Type 0} where
  -- a store before a run of stores may as well come after it
  set_sets : (l vs : List A) (i j : ℕ) (a : A) → i < j → sets (set l i a) j vs ≡ set (sets l j vs) i a
  set_sets l [] i j a h = refl
  set_sets l (v ∷ vs) i j a h = ap (λ r. sets r (suc j) vs) (set_comm l i j a v (omega arith)) ∙ set_sets (set l j v) vs i (suc j) a (omega arith)

  sets_sets : (l us vs : List A) (i j : ℕ) → i + length us ≤ j → sets (sets l i us) j vs ≡ sets (sets l j vs) i us
  sets_sets l [] vs i j h = refl
  sets_sets l (u ∷ us) vs i j h =
      sets_sets (set l i u) us vs (suc i) j (omega arith)
      ∙ ap (λ r. sets r (suc i) us) (set_sets l vs i j u (omega arith))

-- pairs at two places may be put in either order
pub put_put : (table us vs : List ℤ) (m n : ℕ) → length us ≤ 2 → m < n → put (put table m us) n vs ≡ put (put table n vs) m us
unfolding put
put_put table us vs m n h l =
    ap (λ k. cond (ltb n (k / 2)) (sets (put table m us) (n * 2) vs) (put table m us)) (length_put table m us)
    ∙ by (ltb m (length table / 2)) (ltb n (length table / 2))
    ∙ ap (λ k. cond (ltb m (k / 2)) (sets (put table n vs) (m * 2) us) (put table n vs)) (sym (length_put table n vs))
  where
    by : (b c : Bool) → cond c (sets (cond b (sets table (m * 2) us) table) (n * 2) vs) (cond b (sets table (m * 2) us) table) ≡ cond b (sets (cond c (sets table (n * 2) vs) table) (m * 2) us) (cond c (sets table (n * 2) vs) table)
    by true true = sets_sets table us vs (m * 2) (n * 2) (omega arith)
    by true false = refl
    by false true = refl
    by false false = refl

-- ---- instructions

pub emit_append : (table : List ℤ) (n : ℕ) (xs ys : List Instruction) → emit table n (xs ++ ys) ≡ emit (emit table n xs) (n + length xs) ys
unfolding emit
emit_append table n [] ys = rw add-zero
emit_append table n (x ∷ xs) ys = rw (add-suc, ← suc-add) (emit_append (put table n (encode x [])) (suc n) xs ys)

-- a pair before the instructions may as well be put after them
pub put_emit : (table : List ℤ) (m n : ℕ) (us : List ℤ) (is : List Instruction) → length us ≤ 2 → m < n → put (emit table n is) m us ≡ emit (put table m us) n is
unfolding emit
put_emit table m n us [] h l = refl
put_emit table m n us (i ∷ is) h l =
    put_emit (put table n (encode i [])) m (suc n) us is h (omega arith)
    ∙ ap (λ t. emit t (suc n) is) (sym (put_put table us (encode i []) m n h l))

pub emit_one : (table : List ℤ) (n : ℕ) (i : Instruction) → emit table n (i ∷ []) ≡ put table n (encode i [])
unfolding emit
emit_one table n i = refl

-- an instruction whose place was left free
pub put_before : (table : List ℤ) (n : ℕ) (i : Instruction) (is : List Instruction) → put (emit table (n + 1) is) n (encode i []) ≡ emit table n (i ∷ is)
unfolding emit
put_before table n i is = rw add-one (put_emit table n (suc n) (encode i []) is (omega (arith, length_pair i [])) (omega arith))
