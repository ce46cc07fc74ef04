-- A count, as an i32. Assumes nothing.
use Prim.Native.Nat.{ℕ, ◌<◌}
use borrow.Author.Rules.{sfits_of}
use mir.Syntax.{w32}
use mir.Val.{SFits}
use lib.IntN.{pos}

pub count_fits : {k : ℕ} → k < 2147483648 → SFits w32 (pos k)
count_fits h = sfits_of h
