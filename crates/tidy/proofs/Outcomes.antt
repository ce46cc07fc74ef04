-- What comes of a copy, from what `judge` and `write` promise: a law for each outcome. Assumes nothing.
use mathlib.Core.Path.{◌≡◌, refl, sym, ap, ◌∙◌}
use mathlib.Core.List.{List, [], ◌++◌, append_assoc}
use mathlib.Core.Bool.{Bool, true, false, cond}
use Prim.Native.Nat.{ℕ, ◌+◌, ◌-◌, ◌≤◌, ◌<◌, min}
use native.Mathlib.Omega.{arith}
use lib.ListN.{length, take, drop, replicate}
use lib.Seq.{length-take-le, take_at}
use Rattle.std.specs.Result.{result_unwrap_or}
use Rattle.std.proofs.lemmas.Grind.{common_steps}
use Rattle.limits.specs.Limits.{Limits, Sizes}
use Rattle.base.specs.declared.Refused as base
use Rattle.base.specs.Answers as A
use Rattle.base.specs.Answers.{given, refused}
use Rattle.lexeme.specs.Lexemes.{Placed, lexemes}
use Rattle.lexeme.proofs.Ahead.{lexemes_ahead}
use Rattle.std.specs.Prelude.{Option, Some, None, ok_or, Result, Ok, Err}
use Rattle.spelling.specs.Spelling.{tidy_text}
use Rattle.tables.specs.declared.Counts.{Counts}
use Rattle.compiler.specs.Answers.{answered}
use Rattle.compiler.specs.Compiled.{Accepted, Judged, accepted, WithAnswer}
use Rattle.compiler.proofs.Judging.{with_answer}
use Rattle.compiler.proofs.Decides.{took, refusal}
use Rattle.tidy.specs.Tidy.{of_lexemes, tidy_of, longer, tidied, bytes, Tidy}
use Rattle.tidy.specs.inner.Copies.{Puts, Writes, CopiedSo}
use Rattle.tidy.specs.declared.Uncopied.{Uncopied}
use Rattle.tidy.specs.declared.Uncopied.TheVariants.{Refused, NoRoom}
use Rattle.tidy.proofs.Puts.{put_up_to, put_too_long}

-- the lexemes of an accepted text
pub lexemes_of : {limits : Limits} {text : List ℕ} {a : Accepted} → Judged limits text (given a) → (ls : List Placed) × (lexemes limits.sizes text ≡ given ls)
lexemes_of (accepted n _) = (n.parsed.from, n.parsed.lexed.are)

pub tidy_is : (most : Sizes) (text : List ℕ) (ls : List Placed) → lexemes most text ≡ given ls → tidy_of most text ≡ tidy_text ls
unfolding tidy_of of_lexemes
tidy_is most text ls e = ap of_lexemes e

module _ (limits : Limits) (text room : List ℕ) where
  pub by_refusal : {r : base.Refused} → WithAnswer (Judged limits text) (λ a. Err r ≡ answered a) → CopiedSo limits text room (Err (Refused r)) room
  unfolding tidied bytes
  by_refusal {r} w = record { answer = refused r.why r.place; is_given = (refusal w (λ a s. s)).0; so = record { answer = refl; stands = refl; long = refl } }

module _ (limits : Limits) (text room : List ℕ) (most : ℕ) (is_most : most ≡ min (length room) limits.text) where
  fits : length (tidy_of limits.sizes text) ≤ most → longer limits text (length room) ≡ false
  unfolding longer
  fits h = grind (arith, common_steps)

  no_fit : most < length (tidy_of limits.sizes text) → longer limits text (length room) ≡ true
  unfolding longer
  no_fit h = grind (arith, common_steps)

  front_long : length (take most room) ≡ most
  front_long = length-take-le most room (omega arith)

  module _ {k : Counts} (w : WithAnswer (Judged limits text) (λ a. Ok k ≡ answered a)) where
    module _ (small : limits.sizes.literal ≤ 2147483647) {q : Option ℕ} {front : List ℕ} (writes : Writes text (take most room) q front) where
      abbrev j : Judged limits text (given (took w (λ a s. s)).what)
      j = (took w (λ a s. s)).is_given

      puts : Puts (tidy_of limits.sizes text) (take most room) 0 q front
      puts =
          let ls = lexemes_of j in
          let f = lexemes_ahead limits.sizes text ls.0 small ls.1 in
          rw (tidy_is limits.sizes text ls.0 ls.1) (writes.copies f.0 ls.0 f.1 f.2)

      whole_long : length (front ++ drop most room) ≡ length room
      whole_long = let l = writes.long in grind (arith, common_steps)

      by_no_room : q ≡ None → CopiedSo limits text room (Err NoRoom) (front ++ drop most room)
      unfolding tidied bytes
      by_no_room e =
          let no = no_fit (omega (arith, put_too_long puts e, front_long)) in
          record { answer = given (took w (λ a s. s)).what; is_given = j; so = record { answer = rw no; stands = rw no; long = whole_long } }

      by_copy : (n : ℕ) → q ≡ Some n → CopiedSo limits text room (Ok n) (front ++ drop most room)
      unfolding tidied bytes
      by_copy n e =
          let f = put_up_to n puts e in
          let t = tidy_of limits.sizes text in
          let long : n ≡ length t = omega (arith, f.1) in
          let yes = fits (omega (arith, f.0, front_long)) in
          let there : front ≡ t ++ drop (0 + length t) (take most room) = puts.there f.0 in
          let stands : take n (front ++ drop most room) ≡ t = rw (there, append_assoc t (drop (0 + length t) (take most room)) (drop most room)) (take_at t _ n (sym long)) in
          record { answer = given (took w (λ a s. s)).what; is_given = j; so = record { answer = rw yes (ap Ok long); stands = rw yes stands; long = whole_long } }

      pub by_write : {r : Result ℕ Uncopied} → r ≡ ok_or q NoRoom → CopiedSo limits text room r (front ++ drop most room)
      by_write e = rw e (by q refl)
        where
          by : (x : Option ℕ) → q ≡ x → CopiedSo limits text room (ok_or x NoRoom) (front ++ drop most room)
          by None h = by_no_room h
          by (Some n) h = by_copy n h

-- the answer's length is that of the copy's bytes
length_told : (limits : Limits) (text : List ℕ) (room : ℕ) (a : A.Answer Accepted) → result_unwrap_or (tidied limits text room a) 0 ≡ length (bytes limits text room a)
unfolding tidied bytes
length_told limits text room (given a) = by (longer limits text room)
  where
    by : (t : Bool) → result_unwrap_or (cond t (Err NoRoom) (Ok (length (tidy_of limits.sizes text)))) 0 ≡ length (cond t [] (tidy_of limits.sizes text))
    by true = refl
    by false = refl
length_told limits text room (refused why p) = refl

-- past the copy all is cleared
pub then_zeros : (limits : Limits) (text room : List ℕ) {r : Result ℕ Uncopied} {room' room'' : List ℕ} {n : ℕ} → CopiedSo limits text room r room' → n ≡ result_unwrap_or r 0 → room'' ≡ take n room' ++ replicate (length room' - n) 0 → Tidy limits text (length room) r room''
then_zeros limits text room {n} w e z =
    with_answer w (λ a _ s.
    let long : n ≡ length (bytes limits text (length room) a) = e ∙ ap (λ (x : Result ℕ Uncopied). result_unwrap_or x 0) s.answer ∙ length_told limits text (length room) a in
    record { answer = s.answer; holds = z ∙ rw (e, s.stands, ← e, long, s.long) })
