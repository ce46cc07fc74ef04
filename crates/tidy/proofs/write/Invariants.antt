use mathlib.Core.Path.{◌≡◌}
use mathlib.Core.List.{List}
use Prim.Native.Nat.{◌-◌, ◌≤◌}
use lib.ListN.{length}
use Rattle.std.specs.Prelude.{Ok}
use Rattle.lexeme.specs.Lexemes.{Placed, next}
use Rattle.lexeme.specs.inner.Coded.{coded, Ahead}
use Rattle.lexeme.specs.declared.Lexeme.{Lexeme}
use Rattle.tidy.proofs.Writing.{Copying}
use Rattle.tidy.proofs.write.Given as goal

abbrev pub invariant-loop-l : goal.invariant-loop-l
invariant-loop-l l = (l.at ≤ length l.text) × (length l.room ≡ length l.initial.room) × ((m : Lexeme) (ls : List Placed) → Ok m ≡ coded (next l.text 0) → Ahead l.text m ls → Copying l.text l.initial.room ls l.at l.n l.room)

abbrev pub decreases-loop-l : goal.decreases-loop-l
decreases-loop-l l = length l.text - l.at
