-- A form is bytes in which a sign, `#`, stands where a number is to stand: the first number for the first sign, and so on.
use Rattle.std.specs.Prelude.{true, false, List, [], ◌∷◌, ◌++◌, ℕ, eqb, pos, get_or, drop}
use Prim.Native.Char.{code}
use Rattle.numbers.specs.Numbers.{decimal}

unfoldable pub filled : List ℕ → List ℕ → List ℕ
filled [] ns = []
filled (b ∷ s) ns = elim (eqb b (code "#")) [ true ↦ decimal (pos (get_or ns 0 0)) ++ filled s (drop 1 ns) | false ↦ b ∷ filled s ns ]
