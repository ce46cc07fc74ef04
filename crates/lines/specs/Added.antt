-- What it is to add bytes to a lent page: they stand from a place on, as far as the page goes, and the next ones may stand after them.
use Rattle.std.specs.Prelude.{◌≡◌, List, ℕ, ◌+◌, min, length}
use Rattle.std.proofs.lemmas.List.Edits.{sets}

pub record Added (bs : List ℕ) (page : List ℕ) (at : ℕ) (page' : List ℕ) (end : ℕ) : Type 0 where
  pub bytes : page' ≡ sets page at bs
  pub next : end ≡ min (length page) (at + length bs)
