-- What it is for bytes to stand at the end of a buffer of 20: from a place on, with nothing else changed.
use Rattle.std.specs.Prelude.{◌≡◌, List, ℕ, ◌+◌, length}
use Rattle.std.proofs.lemmas.List.Edits.{sets}

pub record AtTheEnd (bs first last : List ℕ) (at : ℕ) : Type 0 where
  pub count : at + length bs ≡ 20
  pub bytes : last ≡ sets first at bs
