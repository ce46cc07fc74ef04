-- What the code did, as the definitions have it. Assumes nothing.
use mathlib.Core.Path.{◌≡◌, refl, ◌∙◌}
use mathlib.Core.List.{List, [], ◌∷◌}
use mathlib.Core.Bool.{Bool, true, false, cond}
use mathlib.Core.Option.{none, some}
use Prim.Native.Nat.{ℕ, zero, suc, ◌+◌, ◌-◌, ◌*◌, ◌/◌, ◌%◌, ◌≤◌, ◌<◌}
use native.Mathlib.Nat.{sub-zero}
use native.Mathlib.Numerals.{add-one}
use native.Mathlib.Omega.{arith}
use lib.IntN.{ℤ, pos}
use lib.ListN.{length, get_or, set, length-set, get_elem?}
use borrow.Author.Tests.{lt-ltb, le-ltb}
use Rattle.std.specs.Prelude.{Option}
use Rattle.endings.specs.Endings.{stack_full, bad_code}
use Rattle.rooms.specs.inner.Rooms.{said}
use Rattle.instruction.specs.inner.Coded.{as_instruction}
use Rattle.instruction.specs.declared.decode.Op.{Op}
use Rattle.numbers.specs.Numbers.{Result, value, ends}
use Rattle.instruction.specs.Instructions.{Instruction, halt, push_int, load_stack, print_str, print_str_ln, decode, takes, gives, effect}
use Rattle.rules.specs.Machine.{Lent, Machine, string, closed, go, stop, pushed, jumped, resulting, names_well, prints, does, pairs, tried, decoded, fetched, step}
use Rattle.moves.specs.inner.Moves.{Led, leads, stops, moves_to, pushes, puts}
use Rattle.moves.specs.declared.State.{State}
use Rattle.moves.specs.declared.Move.TheVariants.{Go, Set}
use Rattle.machine.specs.inner.Coded.{live, outside, machine_of, Rule, Good, Did}
use Rattle.rules.proofs.Tried as T
use Rattle.machine.proofs.Cells.{length_live, live_push, live_drop, peek_live}

module _ {lent : Lent} {before : List ℕ} {s : State} {cells : List ℤ} {room : List ℕ} (g : Good lent before s cells room) where
  -- it stopped, and left the room as it was
  pub stopped : (rule : Rule) (e : ℕ) → stop e ≡ rule (machine_of s cells room) → Did lent before rule s cells room (stops e) room
  stopped rule e p = record { seen = p; left = refl }

  -- bad code
  pub barred : Did lent before (decoded lent none) s cells room (stops bad_code) room
  unfolding decoded
  barred = stopped (decoded lent none) bad_code refl

  -- the state at another index and depth
  pub placed : (index d : ℕ) → index % 2 ≡ 0 → d ≤ length cells → Good lent before (moves_to s index d) cells room
  placed index d w h = record { deep = h; stack = g.stack; within = g.within; size = g.size; past = g.past; whole = w }

  -- and with a cell set
  put : (d k : ℕ) (v : ℤ) → d ≤ length cells → Good lent before (moves_to s s.index d) (set cells k v) room
  put d k v h = let e = length-set cells k v in record { deep = omega arith; stack = e ∙ g.stack; within = g.within; size = g.size; past = g.past; whole = g.whole }

  -- it went on, and printed nothing
  pub goes : (rule : Rule) (index d : ℕ) → index % 2 ≡ 0 → d ≤ length cells → go (machine_of (moves_to s index d) cells room) ≡ rule (machine_of s cells room) → Did lent before rule s cells room (leads (Go (moves_to s index d))) room
  goes rule index d w h p = record { seen = p; left = (tt, placed index d w h) }

  -- and it sets a cell
  pub sets : (rule : Rule) (d k : ℕ) (v : ℤ) → d ≤ length cells → k < length cells → go (machine_of (moves_to s s.index d) (set cells k v) room) ≡ rule (machine_of s cells room) → Did lent before rule s cells room (leads (Set (moves_to s s.index d) k v)) room
  sets rule d k v h l p = record { seen = p; left = (l, put d k v h) }

  pub does_push : (rule : Rule) (d : ℕ) (v : ℤ) → d < length cells → go (record { place = s.index / 2; stack = v ∷ live d cells; outside = outside s room }) ≡ rule (machine_of s cells room) → Did lent before rule s cells room (leads (pushes s d v)) room
  does_push rule d v h p =
      let top : d + 1 - 1 ≡ d = omega arith in
      record {
        seen = rw (top, add-one d, live_push d cells v h) p;
        left = rw top ((omega arith, omega arith), put (d + 1) d v (omega arith));
      }

  pub does_put : (rule : Rule) (d : ℕ) (n : Result) → d < length cells → resulting n (record { place = s.index / 2; stack = live d cells; outside = outside s room }) ≡ rule (machine_of s cells room) → Did lent before rule s cells room (puts s d n) room
  unfolding resulting pushed
  does_put rule d (value v) h p = does_push rule d v h p
  does_put rule d (ends e) h p = stopped rule e p

  -- ---- an instruction's tests, by the depth

  module _ (i : Instruction) where
    pub few : s.depth < takes i → stop bad_code ≡ tried lent i (machine_of s cells room)
    few h = T.few lent i (machine_of s cells room) (rw (length_live s.depth cells) h)

    -- d values are left once it has taken its own
    module _ (d : ℕ) (h : takes i ≤ s.depth) (l : s.depth - takes i ≡ d) where
      deep : takes i ≤ length (live s.depth cells)
      deep = rw (length_live s.depth cells) h

      left : length (live s.depth cells) - takes i ≡ d
      left = rw (length_live s.depth cells) l

      pub misnamed : names_well lent i d ≡ false → stop bad_code ≡ tried lent i (machine_of s cells room)
      misnamed = T.misnamed lent i (machine_of s cells room) d deep left

      pub full : names_well lent i d ≡ true → length cells - s.depth < gives i - takes i → stop stack_full ≡ tried lent i (machine_of s cells room)
      full w f = T.full lent i (machine_of s cells room) d deep left w (rw (length_live s.depth cells, ← g.stack) f)

      -- with the values y on top and x below it, as far as it takes them
      pub works : {x y : ℤ} → names_well lent i d ≡ true → gives i - takes i ≤ length cells - s.depth → get_or (live s.depth cells) 1 (pos 0) ≡ x → get_or (live s.depth cells) 0 (pos 0) ≡ y →
          does lent i x y (machine_of (moves_to s s.index d) cells room) ≡ tried lent i (machine_of s cells room)
      works w f p q = rw (← p, ← q, ← l, ← live_drop (takes i) s.depth cells h) (T.works lent i (machine_of s cells room) d deep left w (rw (length_live s.depth cells, ← g.stack) f))

  pub halts : (h : ℕ) → stop h ≡ tried lent (halt h) (machine_of s cells room)
  unfolding effect names_well does
  halts h = works (halt h) s.depth (omega arith) (sub-zero s.depth) refl (omega arith) refl refl

  -- a load is a push once the cell is there
  pub loads : (k : ℕ) → k < s.depth → tried lent (push_int (get_or cells k (pos 0))) (machine_of s cells room) ≡ tried lent (load_stack k) (machine_of s cells room)
  unfolding tried effect names_well does
  loads k h = rw (length_live s.depth cells, sub-zero s.depth, lt-ltb k s.depth h, peek_live s.depth k cells h)

-- the instruction that prints a string, with a line feed or without
abbrev pub print_at : ℕ → Bool → Instruction
print_at q true = print_str_ln q
print_at q false = print_str q

-- a string that is closed is printed
pub says : (lent : Lent) (q : ℕ) (line : Bool) (m : Machine) → cond (closed lent.text q) (prints lent (said line (string lent.text q)) m) (stop bad_code) ≡ tried lent (print_at q line) m
unfolding said tried effect names_well does
says lent q true m = rw (le-ltb (length m.stack) 0 (omega arith), le-ltb (lent.cells - length m.stack) 0 (omega arith))
says lent q false m = rw (le-ltb (length m.stack) 0 (omega arith), le-ltb (lent.cells - length m.stack) 0 (omega arith))

-- what was decoded at an index, done at the state past it, is what the rule does next
pub fetches : (lent : Lent) (o : Option Op) (t : State) (cells : List ℤ) (room : List ℕ) → t.index % 2 ≡ 0 → t.index < length lent.table → length lent.table % 2 ≡ 0 → as_instruction o ≡ decode (get_or lent.table t.index (pos 0)) (get_or lent.table (t.index + 1) (pos 0)) →
    decoded lent (as_instruction o) (machine_of (moves_to t (t.index + 2) t.depth) cells room) ≡ step lent (machine_of t cells room)
unfolding step fetched pairs
fetches lent o t cells room w h l e =
    let whole : t.index / 2 * 2 ≡ t.index = omega (arith, w) in
    let next : (t.index + 2) / 2 ≡ suc (t.index / 2) = omega arith in
    rw (next, whole, lt-ltb (t.index / 2) (length lent.table / 2) (omega (arith, w, h, l)), ← e)

-- a jump goes to the pair that it names
pub jumps_to : (s : State) (a d : ℕ) (cells : List ℤ) (room : List ℕ) → go (machine_of (moves_to s (a * 2) d) cells room) ≡ jumped a (machine_of (moves_to s s.index d) cells room)
unfolding jumped
jumps_to s a d cells room = let e : a * 2 / 2 ≡ a = omega arith in rw e

-- what one rule says at one state is what another says at another
pub also : {lent : Lent} {before : List ℕ} {rule rule' : Rule} {s s' : State} {cells : List ℤ} {room room' : List ℕ} {r : Led} → Did lent before rule s cells room r room' → rule (machine_of s cells room) ≡ rule' (machine_of s' cells room) → Did lent before rule' s' cells room r room'
also d e = record { seen = d.seen ∙ e; left = d.left }

-- a reading
pub no_more : {A : Type 0} (l : List A) (i : ℕ) → length l ≤ i → get_elem? l i ≡ none
no_more [] i h = refl
no_more (x ∷ l) zero h = absurd (omega arith)
no_more (x ∷ l) (suc i) h = no_more l i (omega arith)

pub one_more : (l : List ℤ) (i : ℕ) → i < length l → get_elem? l i ≡ some (get_or l i (pos 0))
one_more [] i h = absurd (omega arith)
one_more (x ∷ l) zero h = refl
one_more (x ∷ l) (suc i) h = one_more l i (omega arith)
