-- Document 02, T-05: a tidy copy of a program, what is answered of it, and what the room then holds.
use Rattle.std.specs.Prelude.{◌≡◌, List, [], ◌∷◌, ◌++◌, Bool, cond, ◌||◌, ℕ, ◌-◌, ltb, length, replicate, Result, Ok, Err}
use Rattle.limits.specs.Limits.{Limits, Sizes}
use Rattle.base.specs.Answers.{Answer, given, refused, number}
use Rattle.lexeme.specs.Lexemes.{Placed, lexemes}
use Rattle.spelling.specs.Spelling.{tidy_text}
use Rattle.moved.specs.Told.{SameButPlaces}
use Rattle.compiler.specs.Compiled.{Accepted, code_of_text, need_of, Judged, WithAnswer}
use Rattle.tidy.specs.declared.Uncopied.{Uncopied}
use Rattle.tidy.specs.declared.Uncopied.TheVariants.{Refused, NoRoom}

-- the tidy text of a text that has lexemes
unfoldable pub of_lexemes : Answer (List Placed) → List ℕ
of_lexemes (given ls) = tidy_text ls
of_lexemes (refused why p) = []

unfoldable pub tidy_of : Sizes → List ℕ → List ℕ
tidy_of most text = of_lexemes (lexemes most text)

module _ (limits : Limits) (text : List ℕ) (room : ℕ) where
  -- the tidy text is longer than the room, or than the text limit
  unfoldable pub longer : Bool
  longer = ltb room (length (tidy_of limits.sizes text)) || ltb limits.text (length (tidy_of limits.sizes text))

  -- what is answered of a text that is judged so: a refused text gives its own refusal
  unfoldable pub tidied : Answer Accepted → Result ℕ Uncopied
  tidied (given a) = cond longer (Err NoRoom) (Ok (length (tidy_of limits.sizes text)))
  tidied (refused why p) = Err (Refused (record { why = why; place = p }))

  -- the bytes of the copy; a refusal has none
  unfoldable pub bytes : Answer Accepted → List ℕ
  bytes (given a) = cond longer [] (tidy_of limits.sizes text)
  bytes (refused why p) = []

  -- what the room then holds: past the copy it is zeros
  abbrev pub copy_and_zeros : Answer Accepted → List ℕ
  copy_and_zeros a = bytes a ++ replicate (room - length (bytes a)) 0

  -- the answer r, and the room, are those of a
  pub record Tidies (r : Result ℕ Uncopied) (after : List ℕ) (a : Answer Accepted) : Type 0 where
    pub answer : r ≡ tidied a
    pub holds : after ≡ copy_and_zeros a

  -- of the answer to the text: 8 by the limit of instructions alone, for there is no table
  abbrev pub Tidy : Result ℕ Uncopied → List ℕ → Type 0
  Tidy r after = WithAnswer (Judged limits text) (Tidies r after)

-- the number of the refusal that is of the copy and not of the text
abbrev pub no_room : ℕ
no_room = 15

-- number, place, length: a copy is number 0, with place 0; a refusal reports no length
unfoldable pub tidy_numbers : Result ℕ Uncopied → List ℕ
tidy_numbers (Ok n) = 0 ∷ (0 ∷ (n ∷ []))
tidy_numbers (Err (Refused r)) = number r.why ∷ (r.place ∷ (0 ∷ []))
tidy_numbers (Err NoRoom) = no_room ∷ (0 ∷ (0 ∷ []))

-- an accepted text and its tidy copy have the same program: the same code but for string places, the same cells, the same need
pub record SameProgram (text : List ℕ) (a : Accepted) (copy : List ℕ) (c : Accepted) : Type 0 where
  pub code : SameButPlaces text (code_of_text a) copy (code_of_text c)
  pub cells : c.cells ≡ a.cells
  pub need : need_of c ≡ need_of a
