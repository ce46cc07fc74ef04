-- The parts between marks, as the library splits, are the rows. Assumes nothing.
use Rattle.std.proofs.Common.{◌≡◌, ℕ, zero, suc, Bool, true, false, not, cond, eqb, List, [], ◌∷◌, length, get_or, drop, Option, Some, None, refl, ap, ◌∙◌}
use Rattle.std.specs.Borrow.{Bor}
use Rattle.std.specs.List.{slice_get, slice_split, onto_first}
use Rattle.std.specs.Option.{option_map, unwrap_or}
use Rattle.std.proofs.lemmas.Option.{unwrap_or-slice_get}
use Rattle.base.specs.Bytes.{run}
use Rattle.rows.specs.Rows.{no_mark, nth}

-- a byte before the first part
onto : (b : ℕ) (parts : List (List ℕ)) → get_or (onto_first b parts) 0 [] ≡ b ∷ get_or parts 0 []
onto b [] = refl
onto b (part ∷ parts) = refl

past : (b m : ℕ) (parts : List (List ℕ)) → get_or (onto_first b parts) (suc m) [] ≡ get_or parts (suc m) []
past b m [] = refl
past b m (part ∷ parts) = refl

module _ (mark : ℕ) where
  abbrev parts : List ℕ → List (List ℕ)
  parts s = slice_split (λ b. eqb b mark) s

  nothing : (n : ℕ) → [] ≡ nth mark n []
  unfolding nth run
  nothing zero = refl
  nothing (suc n) = nothing n

  pub part_is_row : (s : List ℕ) (n : ℕ) → get_or (parts s) n [] ≡ nth mark n s
  unfolding nth run no_mark
  part_is_row [] zero = refl
  part_is_row [] (suc n) = nothing n
  part_is_row (b ∷ s) zero = by (part_is_row s 0) (eqb b mark)
    where
      by : get_or (parts s) 0 [] ≡ run (no_mark mark) s → (t : Bool) → get_or (cond t ([] ∷ parts s) (onto_first b (parts s))) 0 [] ≡ elim (not t) [ true ↦ b ∷ run (no_mark mark) s | false ↦ [] ]
      by e true = refl
      by e false = onto b (parts s) ∙ ap (λ (l : List ℕ). b ∷ l) e
  part_is_row (b ∷ s) (suc n) = by (part_is_row s n) (part_is_row s (suc n)) (eqb b mark)
    where
      by : get_or (parts s) n [] ≡ nth mark n s → get_or (parts s) (suc n) [] ≡ nth mark (suc n) s → (t : Bool) → get_or (cond t ([] ∷ parts s) (onto_first b (parts s))) (suc n) [] ≡ nth mark n (drop (length (elim (not t) as (λ _. List ℕ) [ true ↦ b ∷ run (no_mark mark) s | false ↦ [] ])) s)
      by e f true = e
      by e f false = past b n (parts s) ∙ f

  -- the part that is given, or nothing
  pub given_row : (s : List ℕ) (n : ℕ) (r : Option (Bor (List ℕ))) (none : Bor (List ℕ)) → option_map (λ x. x.now) r ≡ slice_get (parts s) n → none.now ≡ [] → (unwrap_or r none).now ≡ nth mark n s
  given_row s n r none e z = now_of r ∙ (ap (λ (o : Option (List ℕ)). unwrap_or o none.now) e ∙ (ap (λ (d : List ℕ). unwrap_or (slice_get (parts s) n) d) z ∙ (unwrap_or-slice_get (parts s) n [] ∙ part_is_row s n)))
    where
      now_of : (r : Option (Bor (List ℕ))) → (unwrap_or r none).now ≡ unwrap_or (option_map (λ (x : Bor (List ℕ)). x.now) r) none.now
      now_of None = refl
      now_of (Some x) = refl
