-- Laws of a string in the text, by where its closing quote is looked for. Assumes nothing.
use mathlib.Core.Path.{◌≡◌}
use mathlib.Core.List.{List}
use mathlib.Core.Bool.{true, false}
use Prim.Native.Nat.{ℕ, ◌+◌, ◌≤◌, ◌<◌}
use native.Mathlib.Omega.{arith}
use lib.ListN.{length, drop, length-drop}
use borrow.Author.Tests.{lt-ltb, le-ltb}
use Rattle.rules.specs.Machine.{string, closed}

module _ (text : List ℕ) (q : ℕ) where
  -- the place of the next quote from q on, or the end where there is none
  abbrev pub quote : ℕ
  quote = q + length (string text q)

  pub not_closed : length text ≤ quote → closed text q ≡ false
  unfolding closed
  not_closed h = le-ltb (length (string text q)) (length (drop q text)) (simp length-drop (omega arith))

  pub is_closed : quote < length text → closed text q ≡ true
  unfolding closed
  is_closed h = lt-ltb (length (string text q)) (length (drop q text)) (simp length-drop (omega arith))
