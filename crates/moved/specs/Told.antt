-- Document 02, T-05: code that differs only in string places. An instruction as its text tells it: in the place of a string stand the string's bytes.
use Rattle.std.specs.Prelude.{◌≡◌, List, [], map, ℕ}
use Rattle.instruction.specs.Instructions.{Instruction, halt, push_int, load_stack, store_stack, jump, jump_if_false, two_sided, negate, not, read, print_int, print_str, print_str_ln}
use Rattle.rules.specs.Machine.{string}

-- an instruction, with 0 for a string's place, and the string that the place points at
pub record Told : Type 0 where
  pub instruction : Instruction
  pub points_at : List ℕ

abbrev pub no_string : Instruction → Told
no_string i = record { instruction = i; points_at = [] }

unfoldable pub told : List ℕ → Instruction → Told
told text (halt h) = no_string (halt h)
told text (push_int v) = no_string (push_int v)
told text (load_stack k) = no_string (load_stack k)
told text (store_stack k) = no_string (store_stack k)
told text (jump a) = no_string (jump a)
told text (jump_if_false a) = no_string (jump_if_false a)
told text (two_sided o) = no_string (two_sided o)
told text negate = no_string negate
told text not = no_string not
told text read = no_string read
told text print_int = no_string print_int
told text (print_str s) = record { instruction = print_str 0; points_at = string text s }
told text (print_str_ln s) = record { instruction = print_str_ln 0; points_at = string text s }

-- the same instructions one by one, each string place pointing at the same string in its own text
unfoldable pub SameButPlaces : List ℕ → List Instruction → List ℕ → List Instruction → Type 0
SameButPlaces text is text' js = map (told text) is ≡ map (told text') js
