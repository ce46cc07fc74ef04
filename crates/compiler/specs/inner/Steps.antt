-- What the code's small steps come to: how a walk moves over lexemes, instructions and names.
use Rattle.std.specs.Prelude.{◌≡◌, List, Bool, true, false, cond, ◌||◌, ◌⊎◌, ℕ, ◌+◌, ◌≤◌, ◌<◌, max, ltb, eqb, ℤ, pos, [], Option, Some, None, Result, Ok, Err}
use Prim.Native.Char.{code}
use Rattle.base.specs.declared.Refusal.TheVariants.{NoProgram, Undeclared, TooManyDeclared}
use Rattle.base.specs.declared.Refused.{Refused}
use Rattle.base.specs.inner.Parts.{part}
use Rattle.lexeme.specs.Lexemes as L
use Rattle.lexeme.specs.Lexemes.{DO, IF, THEN, WHILE, open_brace, end, next}
use Rattle.lexeme.specs.inner.Coded.{variant_of, code_of, coded, fixed_number, Stands}
use Rattle.lexeme.specs.declared.Fixed.{Fixed}
use Rattle.lexeme.specs.declared.Kind.{Kind}
use Rattle.lexeme.specs.declared.Kind.TheVariants as kind
use Rattle.lexeme.specs.declared.Lexeme.{Lexeme}
use Rattle.names.specs.inner.Held.{counts, room, visible_in, latest}
use Rattle.numbers.specs.Numbers.{plus, minus, times, divide, equals, smaller, greater}
use Rattle.instruction.specs.Instructions.{jump, print_str, print_str_ln, number, encode, opcode}
use Rattle.compiler.specs.declared.walk.Walk.{Walk}
use Rattle.compiler.specs.declared.walk.Read.{Read}
use Rattle.tables.specs.inner.Tables.{put, operand_of}

-- ---- the walk

abbrev pub start_at : ℕ → Walk
start_at place = record { next = record { kind = kind.Fixed (variant_of end); place = 0; end = 0 }; code = place; fault = None }

unfoldable pub moved_to : Walk → Lexeme → Walk
moved_to w l = record { next = l; code = w.code; fault = w.fault }

unfoldable pub one_instruction : Walk → Walk
one_instruction w = record { next = w.next; code = w.code + 1; fault = w.fault }

-- the leftmost refusal stays
unfoldable pub first_fault : Option Refused → Refused → Option Refused
first_fault None e = Some e
first_fault (Some f) e = Some f

unfoldable pub faulted_walk : Walk → Refused → Walk
faulted_walk w e = record { next = w.next; code = w.code; fault = first_fault w.fault e }

-- ---- the lexeme ahead

-- what follows the lexeme l is no lexeme, and is refused so
abbrev pub Lost : List ℕ → Lexeme → Refused → Type 0
Lost text l e = Err e ≡ coded (next text l.end)

-- m is the lexeme after l
pub record Follows (text : List ℕ) (l m : Lexeme) : Type 0 where
  pub read : Ok m ≡ coded (next text l.end)
  pub later : l.end ≤ m.place
  pub stands : Stands text m

-- the walk v is past the lexeme that w stood before
pub record Past (text : List ℕ) (w v : Walk) : Type 0 where
  pub follows : Follows text w.next v.next
  pub moved : v ≡ moved_to w v.next

abbrev pub Advances : List ℕ → Walk → Result Walk Refused → Type 0
Advances text w (Ok v) = Past text w v
Advances text w (Err e) = Lost text w.next e

-- the fixed lexeme that a kind is, where its number is such
unfoldable pub such_in : (ℕ → Bool) → Kind → Option Fixed
such_in test (kind.Literal v) = None
such_in test kind.Name = None
such_in test kind.Class = None
such_in test kind.Str = None
such_in test (kind.Fixed f) = cond (test (fixed_number (kind.Fixed f))) (Some f) None

-- the lexeme ahead of w is the fixed one of this number, and the walk v is past it
pub record Crossed (text : List ℕ) (w : Walk) (f : ℕ) (v : Walk) : Type 0 where
  pub number : fixed_number w.next.kind ≡ f
  pub past : Past text w v

-- the lexeme ahead has this number as a fixed one, and is passed; or what follows it is no lexeme; or it has not this number, and no Program goes on so
abbrev pub Expects : List ℕ → Walk → ℕ → Result Walk Refused → Type 0
Expects text w f (Ok v) = Crossed text w f v
Expects text w f (Err e) = ((fixed_number w.next.kind ≡ f) × Lost text w.next e) ⊎ ((fixed_number w.next.kind ≡ f → ⊥) × (e ≡ record { why = NoProgram; place = w.next.place }))

-- ---- a lexeme of this kind is no literal and no name

abbrev pub NoOperand : Kind → Type 0
NoOperand k = ((v : ℕ) → k ≡ kind.Literal v → ⊥) × (k ≡ kind.Name → ⊥)

-- ---- the operation of PRINTLNS, which prints a line, or of PRINTS

unfoldable pub printing_number : Bool → ℤ
printing_number true = pos (opcode (print_str_ln 0))
printing_number false = pos (opcode (print_str 0))

-- ---- the body of an IF or of a WHILE, which jumps back, or of a block

-- a command that begins with the fixed lexeme of this number has one
unfoldable pub has_body : ℕ → Bool
has_body n = eqb n (code_of IF) || (eqb n (code_of WHILE) || eqb n (code_of open_brace))

unfoldable pub before_body : Bool → L.Fixed
before_body true = DO
before_body false = THEN

unfoldable pub ended_walk : Bool → Walk → Walk
ended_walk true w = one_instruction w
ended_walk false w = w

unfoldable pub ended_table : Bool → List ℤ → ℕ → ℕ → List ℤ
ended_table true table n back = put table n (encode (jump back) [])
ended_table false table n back = table

-- the operation of the operator or relation of this number
unfoldable pub operation_number : ℕ → ℤ
operation_number b =
    cond (eqb b (code "+")) (number plus)
    (cond (eqb b (code "-")) (number minus)
    (cond (eqb b (code "*")) (number times)
    (cond (eqb b (code "/")) (number divide)
    (cond (eqb b (code "=")) (number equals)
    (cond (eqb b (code "<")) (number smaller)
    (number greater))))))

-- ---- an instruction after what was read

-- there is room in the code's numbers
abbrev pub HasRoom : Walk → Type 0
HasRoom w = w.code < 10000000

pub record Fits (r : Read) : Type 0 where
  pub code : HasRoom r.walk
  pub need : r.need < 10000000

abbrev pub followed_by : Read → Read
followed_by r = record { walk = one_instruction r.walk; need = r.need }

-- after both sides, of which the left one has this need
abbrev pub joined_walk : ℕ → Read → Read
joined_walk left r = record { walk = one_instruction r.walk; need = max left (1 + r.need) }

-- ---- names

-- the cell of the name l
unfoldable pub cell_of : List ℕ → List ℕ → Lexeme → Option ℕ
cell_of text names l = latest (visible_in text names (counts names).visible) (part text l.place l.end)

unfoldable pub noted_walk : Option ℕ → Walk → ℕ → Walk
noted_walk (Some k) w p = w
noted_walk None w p = faulted_walk w (record { why = Undeclared; place = p })

unfoldable pub cell_number : Option ℕ → ℕ
cell_number (Some k) = operand_of k
cell_number None = 0

-- the name ahead was declared, or there were too many
unfoldable pub declared_walk : List ℕ → Walk → Walk
declared_walk names w = cond (ltb (counts names).declared (room names)) w (faulted_walk w (record { why = TooManyDeclared; place = w.next.place }))
