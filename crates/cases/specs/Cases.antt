-- Cases one after the other, each ended by a mark.
use Rattle.std.specs.Prelude.{List, [], ◌∷◌, cond, ℕ, suc, ◌+◌, ◌-◌, ◌*◌, eqb, ltb, take}
use Rattle.std.specs.List.{slice_split}

unfoldable pub marks : ℕ → List ℕ → ℕ
marks mark [] = 0
marks mark (b ∷ s) = cond (eqb b mark) (suc (marks mark s)) (marks mark s)

-- what a byte of a file stands for: the line end for the end of a case (30), `$` for the line end, `&` for the tab, `%` for the carriage return, `@` for 0
unfoldable pub meant : ℕ → ℕ
meant b = cond (eqb b 10) 30 (cond (eqb b 36) 10 (cond (eqb b 38) 9 (cond (eqb b 37) 13 (cond (eqb b 64) 0 b))))

-- the number that digits make after others that are worth n, up to the first that brings it over 9,999
unfoldable pub worth : ℕ → List ℕ → ℕ
worth n [] = n
worth n (b ∷ s) = cond (ltb 9999 n) n (worth (n * 10 + (b - 48)) s)

-- the cases in their order: the parts that a mark ends
unfoldable pub in_order : ℕ → List ℕ → List (List ℕ)
in_order mark s = take (marks mark s) (slice_split (λ b. eqb b mark) s)
