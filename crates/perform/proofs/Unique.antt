-- The contract of `perform` leaves one answer and one room. Assumes nothing.
use mathlib.Core.Path.{◌≡◌, sym, ◌∙◌}
use mathlib.Core.List.{List}
use Prim.Native.Nat.{ℕ}
use Rattle.std.specs.Prelude.{Result}
use Rattle.endings.specs.declared.Ending.{Ending}
use Rattle.moves.specs.declared.Move.{Move}
use Rattle.moves.specs.inner.Moves.{as_led}
use Rattle.moves.proofs.Unique.{one_led}
use Rattle.perform.specs.inner.Prints.{Asked, Performed}

pub one_performed : {a : Asked} {room room' room'' : List ℕ} (r r' : Result Move Ending) → Performed a room (as_led r) room' → Performed a room (as_led r') room'' → (r ≡ r') × (room' ≡ room'')
one_performed r r' p q = (one_led r r' (p.answer ∙ sym q.answer), p.bytes ∙ sym q.bytes)
