-- Laws of looking a name up in the lent list. Assumes nothing.
use mathlib.Core.Path.{◌≡◌, refl, sym, ap, ◌∙◌}
use mathlib.Core.List.{List, ◌∷◌}
use mathlib.Core.Bool.{Bool, true, false, cond}
use Prim.Native.Nat.{ℕ, zero, suc, ◌+◌, ◌-◌, ◌≤◌, ◌<◌, min}
use native.Mathlib.Omega.{arith}
use lib.Dec.{ltb}
use lib.ListN.{length, get_or, drop, length-drop}
use lib.Seq.{length-take-le, get_or-take, get_or-drop}
use borrow.Author.Tests.{lt-ltb, ltb-true, ltb-false}
use Rattle.base.specs.Bytes.{same}
use Rattle.base.specs.inner.Parts.{part}
use Rattle.base.proofs.Words.{same_equal}
use Rattle.names.specs.Names.{Declaration}
use Rattle.names.specs.inner.Held.{room, held, visible_in, latest}
use Rattle.std.specs.Prelude.{Option, Some, None}

-- a word with another last letter
module _ (text : List ℕ) (e : ℕ) (word : List ℕ) (within : e ≤ length text) (some : 0 < length word) (p : ℕ) where
  last_letter : part text p e ≡ word → get_or text (e - 1) 0 ≡ get_or word (length word - 1) 0
  unfolding part
  last_letter q =
      let n : length word ≡ e - p = sym (ap length q) ∙ length-take-le (e - p) (drop p text) (omega (arith, length-drop p text)) in
      let i : p + (e - p - 1) ≡ e - 1 = omega arith in
      rw (n, ← q, get_or-take (e - p) (drop p text) (e - p - 1) 0 (omega arith), get_or-drop p text (e - p - 1) 0, i)

  pub other_letter : (get_or text (e - 1) 0 ≡ get_or word (length word - 1) 0 → ⊥) → false ≡ same (part text p e) word
  other_letter d = by (same (part text p e) word) refl
    where
      by : (b : Bool) → same (part text p e) word ≡ b → false ≡ b
      by true s = absurd (d (last_letter (same_equal (part text p e) word s)))
      by false s = refl

-- the cell of a list's first declaration, or of a later one
abbrev picked : Declaration → List Declaration → List ℕ → Bool → Option ℕ
picked d ds word t = elim t [ true ↦ Some d.cell | false ↦ latest ds word ]

module _ (text names : List ℕ) where
  pub visible_suc : (k : ℕ) → k < (room names) → visible_in text names (suc k) ≡ held text names k ∷ visible_in text names k
  unfolding visible_in
  visible_suc k h = rw (lt-ltb k (room names) h)

  -- beyond the list there are no declarations
  visible_room : (v : ℕ) → visible_in text names (min v (room names)) ≡ visible_in text names v
  unfolding visible_in
  visible_room zero = let z : min zero (room names) ≡ zero = omega arith in rw z
  visible_room (suc v) = by (visible_room v) (ltb v (room names)) refl
    where
      by : visible_in text names (min v (room names)) ≡ visible_in text names v → (b : Bool) → ltb v (room names) ≡ b → visible_in text names (min (suc v) (room names)) ≡ cond b (held text names v ∷ visible_in text names v) (visible_in text names v)
      by i true h = let m : min (suc v) (room names) ≡ suc v = omega (arith, ltb-true v (room names) h) in rw m (rw h)
      by i false h = let m : min (suc v) (room names) ≡ min v (room names) = omega (arith, ltb-false v (room names) h) in rw m i

  pub found_room : (v k : ℕ) (word other : List ℕ) → k ≡ min v (room names) → word ≡ other → latest (visible_in text names k) word ≡ latest (visible_in text names v) other
  found_room v k word other h e = rw (h, e, visible_room v)

  pub found_none : (word : List ℕ) (k : ℕ) → k ≤ 0 → None ≡ latest (visible_in text names k) word
  unfolding visible_in latest
  found_none word k h = let z : k ≡ 0 = omega arith in rw z

  -- a loop that goes down to the first declaration, at the k-th
  module _ (word : List ℕ) (k : ℕ) (some : 0 < k) (fits : k ≤ (room names)) where
    last_visible : (t : Bool) → same (held text names (k - 1)).spelled word ≡ t → latest (visible_in text names k) word ≡ picked (held text names (k - 1)) (visible_in text names (k - 1)) word t
    unfolding latest
    last_visible t h =
        let e : k ≡ suc (k - 1) = omega arith in
        ap (λ (j : ℕ). latest (visible_in text names j) word) e ∙ (ap (λ (l : List Declaration). latest l word) (visible_suc (k - 1) (omega arith)) ∙ ap (picked (held text names (k - 1)) (visible_in text names (k - 1)) word) h)

    pub found_last : same (held text names (k - 1)).spelled word ≡ true → Some (held text names (k - 1)).cell ≡ latest (visible_in text names k) word
    found_last h = sym (last_visible true h)

    pub found_before : same (held text names (k - 1)).spelled word ≡ false → latest (visible_in text names (k - 1)) word ≡ latest (visible_in text names k) word
    found_before h = sym (last_visible false h)
