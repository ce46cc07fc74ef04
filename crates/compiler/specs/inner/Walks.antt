-- What the readers promise: how far a construct's lexemes lead the reader of sentences, and that its names were resolved and its code written.
use Rattle.std.specs.Prelude.{◌≡◌, List, [], ◌∷◌, Bool, true, false, cond, ℕ, suc, ◌+◌, ◌*◌, ◌≤◌, ◌<◌, ltb, eqb, ℤ, length, Option, Some, None, Result, Ok, Err}
use Rattle.base.specs.declared.Refusal.{Refusal}
use Rattle.base.specs.declared.Refusal.TheVariants.{NoProgram, TooDeep}
use Rattle.base.specs.declared.Refused.{Refused}
use Rattle.base.specs.inner.Parts.{part}
use Rattle.base.specs.Answers.{Answer, given, refused, pass}
use Rattle.lexeme.specs.Lexemes as L
use Rattle.lexeme.specs.Lexemes.{Name, Placed, WHILE, open_brace, next}
use Rattle.lexeme.specs.inner.Coded.{code_of, coded, Stands, Ahead}
use Rattle.lexeme.specs.declared.Lexeme.{Lexeme}
use Rattle.sentence.specs.Sentences.{Kind, Sen, factor, term, expression, condition, command, commands}
use Rattle.sentence.proofs.Reader.{Around, depth, State, in_first, in_left, in_print, in_while, in_when, in_block, want_factor, want_expression, want_condition, want_command, want_line, want_string, want_declared, want_read, want_becomes, step, verdict, goes_on, is_whole, begins_none, whole, read_from, read, got_factor, after_term, whole_term, after_expression, whole_expression, after_condition, after_command, at_command_or_brace}
use Rattle.names.specs.Names.{Scope, Known, resolve}
use Rattle.names.specs.inner.Held.{counts, no_counts, room, scope_in, opened_in, closed_in, Sound, Kept}
use Rattle.meaning.specs.Layout as layout
use Rattle.meaning.proofs.Sizes.{size}
use Rattle.compiler.specs.declared.walk.Walk.{Walk}
use Rattle.compiler.specs.declared.walk.Read.{Read}
use Rattle.compiler.specs.inner.Steps.{start_at, Past}
use Rattle.tables.specs.inner.Tables.{emit}

-- ---- reading

-- the answer from lexemes of which the first leads to such a state
unfoldable pub read_via : ℕ → (L.Lexeme → State) → List Placed → Answer (Sen Name command)
read_via limit f [] = refused NoProgram 0
read_via limit f (l ∷ ls) = elim (verdict (f l.what)) [
  | goes_on d ↦ elim (ltb limit d) [ true ↦ refused TooDeep l.place | false ↦ read_from limit (f l.what) ls ]
  | is_whole m ↦ read_from limit (whole m) ls
  | begins_none ↦ refused NoProgram l.place
]

-- how a construct is read: from which state, and what comes after it
pub record Way (k : Kind) (X : Type 0) : Type 0 where
  pub start : Around k → State
  pub stop : X → Around k → L.Lexeme → State

-- from the lexeme l on, with so many nestings still allowed, x is read up to the lexeme m
pub record Passes {k : Kind} {X : Type 0} (way : Way k X) (text : List ℕ) (l m : Lexeme) (allow : ℕ) (x : X) : Type 0 where
  pub later : l.place < m.place
  pub stands : Stands text m
  pub same : (ls : List Placed) → Ahead text l ls → (rest : List Placed) × Ahead text m rest × ((a : Around k) → read_from (depth a + allow) (way.start a) ls ≡ read_via (depth a + allow) (way.stop x a) rest)

-- what begins there in such a state is refused
pub record Refuses {k : Kind} (start : Around k → State) (text : List ℕ) (l : Lexeme) (allow : ℕ) (why : Refusal) (p : ℕ) : Type 0 where
  pub same : (ls : List Placed) → Ahead text l ls → (a : Around k) → read_from (depth a + allow) (start a) ls ≡ refused why p

-- ---- naming and writing

-- the scope reached, or the leftmost refusal of 6 and 7
unfoldable pub standing : Option Refused → Scope → Answer Scope
standing None s = given s
standing (Some e) s = refused e.why e.place

unfoldable pub stand : List ℕ → List ℕ → Walk → Answer Scope
stand text names w = standing w.fault (scope_in text names)

unfoldable pub named : {k : Kind} → ℕ → Sen Name k → Answer Scope → Answer (Known (Sen ℕ k))
named limit x a = pass a (resolve limit x)

unfoldable pub scope_of : {A : Type 0} → Known A → Answer Scope
scope_of r = given r.scope

-- the sentence's code was written from the walk's place on, and its need is known
pub record Laid {k : Kind} (table table' : List ℤ) (w v : Walk) (n : ℕ) (y : Sen ℕ k) : Type 0 where
  pub code : v.code ≡ w.code + size y
  pub need : n ≡ layout.need y
  pub numbers : table' ≡ emit table w.code (layout.code w.code y)

-- counts stay small: fewer than four instructions, and one value at most, for each byte read
unfoldable pub spare : Kind → ℕ
spare factor = 2
spare term = 2
spare expression = 2
spare condition = 2
spare command = 1
spare commands = 1

pub record Small (k : Kind) (w v : Walk) (n : ℕ) : Type 0 where
  pub code : v.code + 4 * w.next.place + spare k ≤ w.code + 4 * v.next.place
  pub need : n + w.next.place ≤ v.next.place

-- the names of the sentence x were resolved, and its code written, by the walk from w to v
pub record Lays {k : Kind} (text names : List ℕ) (table : List ℤ) (w : Walk) (x : Sen Name k) (names' : List ℕ) (table' : List ℤ) (v : Walk) (n : ℕ) : Type 0 where
  pub naming : stand text names' v ≡ pass (named (room names) x (stand text names w)) scope_of
  pub laying : (r : Known (Sen ℕ k)) → named (room names) x (stand text names w) ≡ given r → Laid table table' w v n r.what
  pub small : Small k w v n
  pub sound : Sound names'
  pub kept : Kept names names'

-- ---- what a reader may be called with, and what it answers

pub record Ready (text names : List ℕ) (w : Walk) (allow : ℕ) : Type 0 where
  pub stands : Stands text w.next
  pub short : length text ≤ 1000000
  pub code : w.code ≤ 1000000 + 4 * w.next.place
  pub sound : Sound names
  pub allowed : allow + (counts names).blocks ≤ 1000000

-- the walk x is past the first lexeme of a command, before which a reader may be called
pub record First (text names : List ℕ) (w : Walk) (allow : ℕ) (x : Walk) : Type 0 where
  pub ready : Ready text names w allow
  pub past : Past text w x

-- a construct was read, named and written by the walk from w to v
pub record Got {k j : Kind} (way : Way k (Sen Name j)) (text names : List ℕ) (table : List ℤ) (w : Walk) (allow : ℕ) (names' : List ℕ) (table' : List ℤ) (v : Walk) (n : ℕ) : Type 0 where
  pub what : Sen Name j
  pub passed : Passes way text w.next v.next allow what
  pub laid : Lays text names table w what names' table' v n

abbrev pub Reading : Type 1
Reading = List ℕ → List ℕ → List ℤ → Walk → ℕ → Result Read Refused → List ℕ → List ℤ → Type 0

-- it was, or it was refused
abbrev pub Reads : {k : Kind} → Way k (Sen Name k) → Reading
Reads way text names table w allow (Ok r) names' table' = Got way text names table w allow names' table' r.walk r.need
Reads way text names table w allow (Err e) names' table' = Refuses way.start text w.next allow e.why e.place

-- ---- the ways of the readers

abbrev pub factor_way : Way factor (Sen Name factor)
factor_way = record { start = want_factor; stop = λ f a. step (got_factor f a) }

abbrev pub ReadsFactor : Reading
ReadsFactor = Reads factor_way

abbrev pub term_so_far : Way term (Sen Name term)
term_so_far = record { start = λ a. want_factor (in_first a); stop = after_term }

abbrev pub term_way : Way term (Sen Name term)
term_way = record { start = λ a. want_factor (in_first a); stop = whole_term }

abbrev pub ReadsTerm : Reading
ReadsTerm = Reads term_way

-- an expression of one Term so far, or of more
abbrev pub first_term_way : Way expression (Sen Name expression)
first_term_way = record { start = want_expression; stop = after_expression }

abbrev pub ReadsFirstTerm : Reading
ReadsFirstTerm = Reads first_term_way

abbrev pub expression_way : Way expression (Sen Name expression)
expression_way = record { start = want_expression; stop = whole_expression }

abbrev pub ReadsExpression : Reading
ReadsExpression = Reads expression_way

abbrev pub condition_way : Way condition (Sen Name condition)
condition_way = record { start = want_condition; stop = after_condition }

abbrev pub ReadsCondition : Reading
ReadsCondition = Reads condition_way

-- a condition that does not begin with NOT
abbrev pub comparison_way : Way condition (Sen Name condition)
comparison_way = record { start = λ a. want_expression (in_left a); stop = after_condition }

abbrev pub ReadsComparison : Reading
ReadsComparison = Reads comparison_way

-- a command, from a state on
abbrev pub command_from : (Around command → State) → Way command (Sen Name command)
command_from start = record { start = start; stop = after_command }

abbrev pub command_way : Way command (Sen Name command)
command_way = command_from want_command

abbrev pub ReadsCommand : Reading
ReadsCommand = Reads command_way

-- after the first lexeme of a command
abbrev pub print_way : Way command (Sen Name command)
print_way = command_from (λ a. want_expression (in_print a))

abbrev pub ReadsPrint : Reading
ReadsPrint = Reads print_way

unfoldable pub want_quoted : Bool → Around command → State
want_quoted true a = want_line a
want_quoted false a = want_string a

abbrev pub string_way : Bool → Way command (Sen Name command)
string_way line = command_from (want_quoted line)

abbrev pub ReadsString : Bool → Reading
ReadsString line = Reads (string_way line)

abbrev pub declare_way : Way command (Sen Name command)
declare_way = command_from want_declared

abbrev pub ReadsDeclare : Reading
ReadsDeclare = Reads declare_way

abbrev pub read_way : Way command (Sen Name command)
read_way = command_from want_read

abbrev pub ReadsRead : Reading
ReadsRead = Reads read_way

-- the code's lexeme l as a name
unfoldable pub name_of : List ℕ → Lexeme → Name
name_of text l = record { spelled = part text l.place l.end; place = l.place }

abbrev pub assign_way : Name → Way command (Sen Name command)
assign_way x = command_from (want_becomes x)

abbrev pub ReadsAssign : Lexeme → Reading
ReadsAssign l = λ text. Reads (assign_way (name_of text l)) text

-- the body of an IF or a WHILE: a Command in a scope of its own
abbrev pub ReadsBody : Reading
ReadsBody = λ text names table w allow r names' table'. (inside : List ℕ) × ReadsCommand text (opened_in names) table w allow r inside table' × (names' ≡ closed_in inside (counts names))

-- after IF, or after WHILE, whose body is done again; one nesting more than is allowed inside
unfoldable pub want_guarded : Bool → Around command → State
want_guarded true a = want_condition (in_while a)
want_guarded false a = want_condition (in_when a)

abbrev pub guarded_way : Bool → Way command (Sen Name command)
guarded_way again = command_from (want_guarded again)

abbrev pub ReadsGuarded : Bool → Reading
ReadsGuarded again = λ text names table w allow. Reads (guarded_way again) text names table w (suc allow)

abbrev pub block_way : Way command (Sen Name command)
block_way = command_from (λ a. want_command (in_block a))

-- the commands of a block, which may go on
abbrev pub block_so_far : Way command (Sen Name commands)
block_so_far = record { start = λ a. want_command (in_block a); stop = at_command_or_brace }

abbrev pub ReadsBlock : Reading
ReadsBlock = λ text names table w allow. Reads block_way text names table w (suc allow)

-- after IF, WHILE or `{`, by its number
unfoldable pub want_nested : ℕ → Around command → State
want_nested f = cond (eqb f (code_of open_brace)) (λ a. want_command (in_block a)) (want_guarded (eqb f (code_of WHILE)))

-- ---- a whole Program

pub record SetOut (text names : List ℕ) (from : ℕ) : Type 0 where
  pub short : length text ≤ 1000000
  pub code : from ≤ 1000000
  pub head : 5 ≤ length names
  pub size : length names ≤ 1000000
  pub none : counts names ≡ no_counts

-- its counts are in the range of the code's numbers
pub record Counted (cells : ℕ) (w : Walk) (n : ℕ) : Type 0 where
  pub few : cells ≤ 1000000
  pub code : w.code ≤ 10000000
  pub need : n ≤ 1000000

-- the lexemes of a text, as the readers come to them
unfoldable pub FromStart : List ℕ → List Placed → Type 0
FromStart text ls = (l : Lexeme) × (Ok l ≡ coded (next text 0)) × Ahead text l ls

-- a whole Program was read, named and written by the walk to v
pub record Ran (limit : ℕ) (text names : List ℕ) (table : List ℤ) (place : ℕ) (names' : List ℕ) (table' : List ℤ) (v : Walk) (n : ℕ) : Type 0 where
  pub tree : Sen Name command
  pub reads : (ls : List Placed) → FromStart text ls → read limit ls ≡ given tree
  pub lays : Lays text names table (start_at place) tree names' table' v n
  pub within : v.next.place ≤ length text

abbrev pub ReadsProgram : ℕ → List ℕ → List ℕ → List ℤ → ℕ → Result Read Refused → List ℕ → List ℤ → Type 0
ReadsProgram limit text names table place (Ok r) names' table' = Ran limit text names table place names' table' r.walk r.need
ReadsProgram limit text names table place (Err e) names' table' = (ls : List Placed) → FromStart text ls → read limit ls ≡ refused e.why e.place
