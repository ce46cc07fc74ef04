-- Laws of a print: the bytes that are copied, with a line feed after them or without, are what is to be printed. Assumes nothing.
use Rattle.std.proofs.Common.{◌≡◌, ◌∙◌, ℕ, suc, ◌+◌, ◌-◌, ◌≤◌, ◌<◌, List, [], ◌∷◌, ◌++◌, Bool, true, false, length, take, drop, get_or, set, arith, length-append, length-take, drop-cons, append_assoc}
use Rattle.std.specs.Prelude.{Some, None}
use Rattle.std.proofs.lemmas.Grind.{common_steps}
use Rattle.std.proofs.Math.Seq.{set-append_seam}
use borrow.Rule.Slice.PartMut.{put_mid}
use borrow.Author.Tests.{le-leb, lt-leb}
use Rattle.rooms.specs.inner.Rooms.{said, with_bytes, Prints}

module _ (bs room : List ℕ) (at end : ℕ) (is : end ≡ at + length bs) where
  put_is : put_mid at (end - at) room bs ≡ with_bytes room at bs
  put_is = grind (arith, common_steps)

  put_line_is : end < length room → set (put_mid at (end - at) room bs) end 10 ≡ with_bytes room at (bs ++ 10 ∷ [])
  put_line_is h =
      let front = take at room ++ bs in
      let long : length front ≡ end = simp (length-append, length-take) (omega arith) in
      let next : at + length (bs ++ 10 ∷ []) ≡ suc end = omega (arith, length-append bs (10 ∷ [])) in
      let seam = set-append_seam front (get_or room end 0) (drop (suc end) room) 10 in
      rw (put_is, next, ← is, drop-cons room end 0 h, ← append_assoc (take at room) bs) (rw long at seam ∙ simp append_assoc)

  pub does_not_fit : length room < end → Prints bs room at None room
  does_not_fit h = record { answer = rw (lt-leb (at + length bs) (length room) (omega arith)); bytes = rw (lt-leb (at + length bs) (length room) (omega arith)) }

  pub fits : (room' : List ℕ) → end ≤ length room → room' ≡ with_bytes room at bs → Prints bs room at (Some end) room'
  fits room' h b = record { answer = rw (le-leb (at + length bs) (length room) (omega arith), is); bytes = rw (le-leb (at + length bs) (length room) (omega arith)) b }

module _ (bs room : List ℕ) (at end : ℕ) (is : end ≡ at + length bs) (line : Bool) where
  module _ (asked : line ≡ true) where
    pub line_does_not_fit : length room ≤ end → Prints (said line bs) room at None room
    unfolding said
    line_does_not_fit h = rw asked (does_not_fit (bs ++ 10 ∷ []) room at (end + 1) (omega (arith, length-append bs (10 ∷ []))) (omega arith))

    pub with_line : end < length room → Prints (said line bs) room at (Some (end + 1)) (set (put_mid at (end - at) room bs) end 10)
    unfolding said
    with_line h = rw asked (fits (bs ++ 10 ∷ []) room at (end + 1) (omega (arith, length-append bs (10 ∷ []))) _ (omega arith) (put_line_is bs room at end is h))

  module _ (not : line ≡ false) where
    pub none_does_not_fit : length room < end → Prints (said line bs) room at None room
    unfolding said
    none_does_not_fit h = rw not (does_not_fit bs room at end is h)

    pub without : end ≤ length room → Prints (said line bs) room at (Some end) (put_mid at (end - at) room bs)
    unfolding said
    without h = rw not (fits bs room at end is _ h (put_is bs room at end is))
