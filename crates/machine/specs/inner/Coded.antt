-- How the code holds what the definitions speak of: what each of its values means there.
use Rattle.std.specs.Prelude.{◌≡◌, List, [], ◌∷◌, ℕ, zero, suc, ◌-◌, ◌/◌, ◌%◌, ◌≤◌, ◌<◌, ℤ, pos, length, get_or, take, drop, set}
use Rattle.rules.specs.Machine.{Lent, Outside, Machine, Step, go, stop}
use Rattle.moves.specs.declared.State.{State}
use Rattle.moves.specs.declared.Move.{Move}
use Rattle.moves.specs.declared.Move.TheVariants.{Go, Put, Set}
use Rattle.moves.specs.inner.Moves.{Led, leads, stops}
use Rattle.machine.specs.declared.Report.{Report}

-- ---- the stack: a slice, and a depth below which its cells are live

-- the live cells, the top first
unfoldable pub live : ℕ → List ℤ → List ℤ
live zero cells = []
live (suc d) cells = get_or cells d (pos 0) ∷ live d cells

-- ---- the room: a slice, and how many of its bytes were printed

abbrev pub outside : State → List ℕ → Outside
outside s room = record { used = s.used; output = take s.printed room }

-- ---- the machine: its place is that of the pair which starts at an index of the table

abbrev pub machine_of : State → List ℤ → List ℕ → Machine
machine_of s cells room = record { place = s.index / 2; stack = live s.depth cells; outside = outside s room }

-- a state of a run that is lent `lent`, with the stack and the room as they are, where the room was `before` when the run began
pub record Good (lent : Lent) (before : List ℕ) (s : State) (cells : List ℤ) (room : List ℕ) : Type 0 where
  pub deep : s.depth ≤ length cells
  pub stack : length cells ≡ lent.cells
  pub within : s.printed ≤ length room
  pub size : length room ≡ lent.room
  pub past : drop s.printed room ≡ drop s.printed before
  pub whole : s.index % 2 ≡ 0

-- ---- a step

-- a move names a cell of a stack of n, or none
abbrev pub Names : Move → ℕ → Type 0
Names (Go t) n = Unit {0}
Names (Put t v) n = (1 ≤ t.depth) × (t.depth ≤ n)
Names (Set t k v) n = k < n

-- its state, and the cells once that cell is set
abbrev pub state_of : Move → State
state_of (Go t) = t
state_of (Put t v) = t
state_of (Set t k v) = t

abbrev pub cells_of : Move → List ℤ → List ℤ
cells_of (Go t) cells = cells
cells_of (Put t v) cells = set cells (t.depth - 1) v
cells_of (Set t k v) cells = set cells k v

abbrev pub as_step : Led → List ℤ → List ℕ → Step
as_step (leads m) cells room = go (machine_of (state_of m) (cells_of m cells) room)
as_step (stops e) cells room = stop e

-- a step goes on from a good state, once a cell that it names is set, or it stops and leaves the room as it was
abbrev pub Left : Lent → List ℕ → List ℤ → List ℕ → Led → List ℕ → Type 0
Left lent before cells room (leads m) room' = Names m (length cells) × Good lent before (state_of m) (cells_of m cells) room'
Left lent before cells room (stops e) room' = room' ≡ room

-- what is done at a machine
abbrev pub Rule : Type 0
Rule = Machine → Step

-- the answer r, with the room as it is after it, is what the rule says
pub record Did (lent : Lent) (before : List ℕ) (rule : Rule) (s : State) (cells : List ℤ) (room : List ℕ) (r : Led) (room' : List ℕ) : Type 0 where
  pub seen : as_step r cells room' ≡ rule (machine_of s cells room)
  pub left : Left lent before cells room r room'

-- from a good state, in a room that was `before` when the run began, r is what the rule says
abbrev pub Stepped : Lent → Rule → State → List ℤ → List ℕ → Led → List ℕ → Type 0
Stepped lent rule s cells room r room' = (before : List ℕ) → Good lent before s cells room → Did lent before rule s cells room r room'

-- ---- a report, of the state where a run ended

abbrev pub reports : ℕ → ℕ → State → Report
reports ending steps s = record { ending = ending; steps = steps; used = s.used; length = s.printed }
