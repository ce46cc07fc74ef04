-- What the calls at cases did, one after the other.
use Rattle.std.specs.Prelude.{◌≡◌, ℕ, ◌<◌, List, [], length, get_or, take, Result, Ok, Err}
use Rattle.std.specs.Borrow.{Bor}
use Rattle.std.specs.List.{FoldsTo}

module _ {F E : Type 0} (step : F → Bor (List ℕ) → Result (Unit {0}) E → F → Type 0) where
  -- a call at a case gave this, and left the closure so
  abbrev pub Gives : Result (Unit {0}) E → F → List ℕ → F → Type 0
  Gives r f c g = (b : Bor (List ℕ)) × (b.now ≡ c) × step f b r g

  -- at each case it went well
  unfoldable pub AllWell : F → List (List ℕ) → Type 0
  AllWell f cs = (last : F) × FoldsTo (Gives (Ok tt)) f cs last

  -- it went well up to a case, at which it failed
  unfoldable pub FirstFault : E → F → List (List ℕ) → Type 0
  FirstFault e f cs = (k : ℕ) × (k < length cs) × (there : F) × FoldsTo (Gives (Ok tt)) f (take k cs) there × ((last : F) × Gives (Err e) there (get_or cs k []) last)
