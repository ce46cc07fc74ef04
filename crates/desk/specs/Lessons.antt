-- What is read for a lesson: as much as the buffers hold.
use Rattle.std.specs.Prelude.{List, ℕ, ◌≤◌, ℤ, length, Option, IfSome}
use Rattle.input.specs.Received.{AreReadings}
use Rattle.desk.specs.declared.Lesson.{Lesson}

-- a text of so many bytes, and the numbers l, which became k, with the readings of some input
abbrev pub Brings : Option Lesson → List ℕ → List ℤ → List ℤ → Type 0
Brings read text l k = IfSome read (λ m. (m.size ≤ length text) × AreReadings m.count l k)
