-- What it is to print into a room: the bytes stand from a place on with nothing else changed, or they do not fit and nothing is changed.
use Rattle.std.specs.Prelude.{◌≡◌, List, [], ◌∷◌, ◌++◌, Bool, true, false, cond, ℕ, ◌+◌, leb, length, take, drop, Option, Some, None}

-- bytes, and byte 10 after them if it is asked for
unfoldable pub said : Bool → List ℕ → List ℕ
said true bs = bs ++ 10 ∷ []
said false bs = bs

-- the room with bs from a place on
abbrev pub with_bytes : List ℕ → ℕ → List ℕ → List ℕ
with_bytes room at bs = take at room ++ bs ++ drop (at + length bs) room

-- what is answered is the place after the bytes, where they fit
pub record Prints (bs room : List ℕ) (at : ℕ) (r : Option ℕ) (room' : List ℕ) : Type 0 where
  pub answer : r ≡ cond (leb (at + length bs) (length room)) (Some (at + length bs)) None
  pub bytes : room' ≡ cond (leb (at + length bs) (length room)) (with_bytes room at bs) room
