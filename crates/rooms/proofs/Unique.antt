-- The contract of `print` leaves one answer and one room. Assumes nothing.
use Rattle.std.proofs.Common.{◌≡◌, sym, ◌∙◌, ℕ, List}
use Rattle.std.specs.Prelude.{Option}
use Rattle.rooms.specs.inner.Rooms.{Prints}

pub one_printed : {bs room room' room'' : List ℕ} {at : ℕ} {r r' : Option ℕ} → Prints bs room at r room' → Prints bs room at r' room'' → (r ≡ r') × (room' ≡ room'')
one_printed p q = (p.answer ∙ sym q.answer, p.bytes ∙ sym q.bytes)
