-- An input that comes in chunks: what `start`, `more` for each chunk and `finish` promise leaves one result, that of the whole input by the paper's definition. Assumes nothing.
use Rattle.std.proofs.Common.{◌≡◌, refl, sym, ap, ◌∙◌, List, [], ◌∷◌, ◌++◌, ℕ, ℤ}
use mathlib.Core.List.{flatten}
use Rattle.readings.specs.Taken.{Taken, taken_in}
use Rattle.readings.specs.declared.Reader.{Reader}

-- whatever `takes` is
module _ (takes : Reader → List ℤ → List ℕ → Taken) where
  -- from the reader r and the numbers l to the reader e and the numbers m, by `more` for each chunk
  pub data Fed : Reader → List ℤ → List (List ℕ) → Reader → List ℤ → Type 0 where
    nothing : {r : Reader} {l : List ℤ} → Fed r l [] r l
    chunk : {r q e : Reader} {l k m : List ℤ} {c : List ℕ} {cs : List (List ℕ)} → ((rest : List ℕ) → takes q k rest ≡ takes r l (c ++ rest)) → Fed q k cs e m → Fed r l (c ∷ cs) e m

  fed : {r e : Reader} {l m : List ℤ} {cs : List (List ℕ)} → Fed r l cs e m → takes e m [] ≡ takes r l (flatten cs)
  unfolding flatten
  fed nothing = refl
  fed (chunk {cs = cs} more on) = fed on ∙ more (flatten cs)

  pub whole : (r e : Reader) (l m exit : List ℤ) (cs : List (List ℕ)) (n : ℕ) →
      ((l : List ℤ) (rest : List ℕ) → takes r l rest ≡ taken_in l rest) → Fed r l cs e m → record { count = n; numbers = exit } ≡ takes e m [] →
      record { count = n; numbers = exit } ≡ taken_in l (flatten cs)
  whole r e l m exit cs n start more finish = finish ∙ (fed more ∙ start l (flatten cs))

-- so that two ways to take one input leave one count and the same numbers
pub one_taken : {t : Taken} {n n' : ℕ} {exit exit' : List ℤ} → record { count = n; numbers = exit } ≡ t → record { count = n'; numbers = exit' } ≡ t → (n ≡ n') × (exit ≡ exit')
one_taken e e' = let same = e ∙ sym e' in (ap (λ (t : Taken). t.count) same, ap (λ (t : Taken). t.numbers) same)
