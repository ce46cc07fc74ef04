-- How the code tests bytes.
use Rattle.std.specs.Prelude.{◌≡◌, Bool, ℕ}

-- a test of bytes, by what it may answer, tells whether a byte is such
abbrev pub Tells : (ℕ → Bool → Type 0) → (ℕ → Bool) → Type 0
Tells answers such = (b : ℕ) (t : Bool) → answers b t → t ≡ such b
