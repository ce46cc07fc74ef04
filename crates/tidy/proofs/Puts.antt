-- Laws of putting bytes into a room, one after the other. Assumes nothing.
use mathlib.Core.Path.{◌≡◌, refl, ap, ◌∙◌}
use mathlib.Core.List.{List, [], ◌++◌}
use mathlib.Core.Bool.{Bool, true, false, cond}
use Prim.Native.Nat.{ℕ, ◌+◌, ◌≤◌, ◌<◌, zero-le}
use native.Mathlib.Omega.{arith}
use borrow.Author.Tests.{le-leb, lt-leb, leb-true}
use Rattle.std.proofs.lemmas.Grind.{common_steps}
use Rattle.std.proofs.lemmas.List.Edits.{paste-paste}
use Rattle.std.proofs.Math.Seq.{paste, take-length}
use lib.Dec.{leb}
use lib.ListN.{length, length-append}
use Rattle.rooms.specs.inner.Rooms.{said, with_bytes, Prints}
use Rattle.std.specs.Prelude.{Option, Some, None}
use Rattle.tidy.specs.inner.Copies.{Puts}

module _ {bs room : List ℕ} {at : ℕ} {r : Option ℕ} {room' : List ℕ} where
  -- put up to a place: the bytes fit, and end there
  pub put_up_to : (m : ℕ) → Puts bs room at r room' → r ≡ Some m → (at + length bs ≤ length room) × (m ≡ at + length bs)
  put_up_to m p e = let a = p.answer in grind (arith, common_steps)

  pub put_too_long : Puts bs room at r room' → r ≡ None → length room < at + length bs
  put_too_long p e = let a = p.answer in grind (arith, common_steps)

with_long : (bs room : List ℕ) (at : ℕ) → at + length bs ≤ length room → length (with_bytes room at bs) ≡ length room
with_long bs room at h = grind (arith, common_steps)

-- a print of bytes alone
pub puts_print : {bs room room' : List ℕ} {at : ℕ} {r : Option ℕ} → Prints (said false bs) room at r room' → Puts bs room at r room'
unfolding said
puts_print {bs} {room} {room'} {at} {r} p = record { answer = p.answer; there = λ h. p.bytes ∙ rw (le-leb (at + length bs) (length room) h); long = by (leb (at + length bs) (length room)) refl p.bytes }
  where
    by : (t : Bool) → leb (at + length bs) (length room) ≡ t → room' ≡ cond t (with_bytes room at bs) room → length room' ≡ length room
    by true h b = ap length b ∙ with_long bs room at (leb-true _ _ h)
    by false h b = ap length b

-- nothing
pub puts_none : (room : List ℕ) → Puts [] room 0 (Some 0) room
puts_none room = record { answer = rw (le-leb 0 (length room) zero-le); there = λ _. refl; long = refl }

-- bytes that do not fit, with more after them
pub puts_stop : {s room room' : List ℕ} {at : ℕ} {r : Option ℕ} (t : List ℕ) → Puts s room at r room' → r ≡ None → Puts (s ++ t) room at r room'
puts_stop {s} {room} {room'} {at} t p e =
    let no : length room < at + length (s ++ t) = omega (arith, put_too_long p e, length-append s t) in
    record { answer = e ∙ rw (lt-leb _ _ no); there = λ h. absurd (omega arith); long = p.long }

pasted : (bs room : List ℕ) (at : ℕ) → with_bytes room at bs ≡ paste room at bs (length bs)
pasted bs room at = rw take-length

-- bytes, and then others after them
with_both : (s t room : List ℕ) (at : ℕ) → at + length s ≤ length room → with_bytes (with_bytes room at s) (at + length s) t ≡ with_bytes room at (s ++ t)
with_both s t room at h = rw (pasted s room at, pasted t (paste room at s (length s)) (at + length s), pasted (s ++ t) room at, length-append s t) (paste-paste room at s t (length s) (length t) refl refl (omega arith))

pub puts_then : {s t room room' room'' : List ℕ} {at m : ℕ} {r r' : Option ℕ} → Puts s room at r room' → r ≡ Some m → Puts t room' m r' room'' → Puts (s ++ t) room at r' room''
puts_then {s} {t} {room} {room'} {room''} {at} {m} {r} {r'} p e q =
    let f = put_up_to m p e in
    let all : m + length t ≡ at + length (s ++ t) = omega (arith, f.1, length-append s t) in
    let both : with_bytes room' m t ≡ with_bytes room at (s ++ t) = rw (p.there f.0, f.1) (with_both s t room at f.0) in
    record { answer = rw (← all, ← p.long) q.answer; there = λ h. q.there (rw p.long (omega arith)) ∙ both; long = q.long ∙ p.long }
