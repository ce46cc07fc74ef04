-- A part of a text.
use Rattle.std.specs.Prelude.{List, ℕ, ◌-◌, take, drop}

-- the bytes from the place p up to e
unfoldable pub part : List ℕ → ℕ → ℕ → List ℕ
part text p e = take (e - p) (drop p text)
