-- How the code copies: each lexeme's own bytes, a literal's without needless zeros, one space after what stands before them.
use Rattle.std.specs.Prelude.{◌≡◌, List, [], ◌∷◌, true, false, cond, ◌&&◌, ℕ, ◌+◌, ◌≤◌, eqb, ltb, leb, length, take, Option, Some, None, Result, Ok}
use Rattle.std.specs.Result.{result_unwrap_or}
use Rattle.limits.specs.Limits.{Limits}
use Rattle.base.specs.Answers.{Answer}
use Rattle.base.specs.inner.Parts.{part}
use Rattle.lexeme.specs.Lexemes.{Placed, next}
use Rattle.lexeme.specs.declared.Kind.{Kind}
use Rattle.lexeme.specs.declared.Kind.TheVariants as kind
use Rattle.lexeme.specs.declared.Lexeme.{Lexeme}
use Rattle.lexeme.specs.inner.Coded.{Ahead, coded}
use Rattle.rooms.specs.inner.Rooms.{with_bytes}
use Rattle.spelling.specs.Spelling.{tidy_text}
use Rattle.compiler.specs.Compiled.{Accepted, Judged, WithAnswer}
use Rattle.tidy.specs.Tidy.{tidied, bytes}
use Rattle.tidy.specs.declared.Uncopied.{Uncopied}

-- a digit word without the zeros that another digit follows and only zeros stand before
unfoldable pub without_zeros : List ℕ → List ℕ
without_zeros [] = []
without_zeros (b ∷ w) = elim (eqb b 48 && ltb 0 (length w)) [ true ↦ without_zeros w | false ↦ b ∷ w ]

unfoldable pub of_kind : Kind → List ℕ → List ℕ
of_kind (kind.Literal v) own = without_zeros own
of_kind kind.Name own = own
of_kind kind.Class own = own
of_kind kind.Str own = own
of_kind (kind.Fixed f) own = own

-- the bytes of a lexeme that are copied
unfoldable pub copied : List ℕ → Lexeme → List ℕ
copied text l = of_kind l.kind (part text l.place l.end)

-- a space, where something stands before it
unfoldable pub gap : ℕ → List ℕ
gap at = cond (eqb at 0) [] (32 ∷ [])

-- bytes from a place on with nothing else changed, where they fit; where they do not, the room is as long as it was
pub record Puts (bs room : List ℕ) (at : ℕ) (r : Option ℕ) (room' : List ℕ) : Type 0 where
  pub answer : r ≡ cond (leb (at + length bs) (length room)) (Some (at + length bs)) None
  pub there : at + length bs ≤ length room → room' ≡ with_bytes room at bs
  pub long : length room' ≡ length room

-- the lexemes of the text, as they are read from its beginning on, are copied
pub record Writes (text room : List ℕ) (r : Option ℕ) (room' : List ℕ) : Type 0 where
  pub copies : (l : Lexeme) (ls : List Placed) → Ok l ≡ coded (next text 0) → Ahead text l ls → Puts (tidy_text ls) room 0 r room'
  pub long : length room' ≡ length room

-- the copy that is answered stands at the room's beginning
module _ (limits : Limits) (text room : List ℕ) where
  pub record Copies (r : Result ℕ Uncopied) (room' : List ℕ) (a : Answer Accepted) : Type 0 where
    pub answer : r ≡ tidied limits text (length room) a
    pub stands : take (result_unwrap_or r 0) room' ≡ bytes limits text (length room) a
    pub long : length room' ≡ length room

  abbrev pub CopiedSo : Result ℕ Uncopied → List ℕ → Type 0
  CopiedSo r room' = WithAnswer (Judged limits text) (Copies r room')
