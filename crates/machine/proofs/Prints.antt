-- What each instruction that prints leads to, by the code's tests, and the room after it are what the rule says. Assumes nothing.
use mathlib.Core.Path.{◌≡◌, refl, sym, ap, ◌∙◌}
use mathlib.Core.List.{List, ◌++◌}
use mathlib.Core.Bool.{Bool, true, false, cond}
use Prim.Native.Nat.{ℕ, ◌+◌, ◌-◌, ◌≤◌}
use native.Mathlib.Omega.{arith}
use lib.Dec.{leb, ltb}
use lib.IntN.{ℤ, pos}
use lib.ListN.{length, get_or, take, drop, length-append, length-drop}
use lib.Seq.{take_at, drop_at, length-take-le, drop-drop}
use borrow.Author.Tests.{leb-true, leb-false, ltb-true, ltb-false}
use Rattle.rooms.specs.inner.Rooms.{said, with_bytes}
use Rattle.endings.specs.Endings.{print_does_not_fit, bad_code}
use Rattle.numbers.specs.Numbers.{decimal}
use Rattle.instruction.specs.Instructions.{print_int, effect}
use Rattle.moves.specs.inner.Moves.{leads, stops, moves_to}
use Rattle.moves.specs.declared.State.{State}
use Rattle.moves.specs.declared.Move.TheVariants.{Go}
use Rattle.perform.specs.inner.Prints.{Asked, silent, print, fits, print_move, print_room, asked_str, asked_int}
use Rattle.rules.specs.Machine.{Lent, string, stop, printed, written, names_well, prints, does, tried}
use Rattle.machine.specs.inner.Coded.{machine_of, Rule, Good, Did}
use Rattle.machine.proofs.Moves.{held, count, top}
use Rattle.machine.proofs.Steps.{print_at, placed, stopped, few, works, says, also}
use Rattle.rules.proofs.Strings.{quote, not_closed, is_closed}

module _ (room bs : List ℕ) (at : ℕ) (fit : at + length bs ≤ length room) where
  head : length (take at room ++ bs) ≡ at + length bs
  head = length-append (take at room) bs ∙ rw (length-take-le at room (omega arith))

  take_with : take (at + length bs) (with_bytes room at bs) ≡ take at room ++ bs
  take_with = take_at (take at room ++ bs) (drop (at + length bs) room) (at + length bs) head

  drop_with : drop (at + length bs) (with_bytes room at bs) ≡ drop (at + length bs) room
  drop_with = drop_at (take at room ++ bs) (drop (at + length bs) room) (at + length bs) head

  length_with : length (with_bytes room at bs) ≡ length room
  length_with = rw (length-append (take at room ++ bs) (drop (at + length bs) room), head, length-drop (at + length bs) room) (omega arith)

-- what two rooms share past a place, they share past any later one
further : (at k : ℕ) (a b : List ℕ) → drop at a ≡ drop at b → drop (at + k) a ≡ drop (at + k) b
further at k a b e = sym (drop-drop k at a) ∙ (ap (drop k) e ∙ drop-drop k at b)

module _ {lent : Lent} {before : List ℕ} {s : State} {cells : List ℤ} {room : List ℕ} (g : Good lent before s cells room) (bs : List ℕ) where
  by_fit : (b : Bool) → fits s bs room ≡ b → Did lent before (prints lent bs) s cells room
      (cond b (leads (Go (record s { printed = s.printed + length bs }))) (stops print_does_not_fit)) (cond b (with_bytes room s.printed bs) room)
  unfolding prints written printed
  by_fit false h = record { seen = rw (length-take-le s.printed room g.within, ← g.size, h); left = refl }
  by_fit true h =
      let f = leb-true (s.printed + length bs) (length room) h in
      let l = length_with room bs s.printed f in
      record {
        seen = rw (length-take-le s.printed room g.within, ← g.size, h, take_with room bs s.printed f);
        left = (
          tt,
          record {
            deep = g.deep;
            stack = g.stack;
            within = omega arith;
            size = l ∙ g.size;
            whole = g.whole;
            past = drop_with room bs s.printed f ∙ further s.printed (length bs) room before g.past;
          },
        );
      }

  prints_so : Did lent before (prints lent bs) s cells room (print_move (print s bs) room) (print_room (print s bs) room)
  unfolding print_move print_room
  prints_so = by_fit (fits s bs room) refl

module _ {lent : Lent} {before : List ℕ} {s : State} {cells : List ℤ} {room : List ℕ} (g : Good lent before s cells room) where
  -- what is asked for is what the rule says
  abbrev pub So : Rule → Asked → Type 0
  So rule a = Did lent before rule s cells room (print_move a room) (print_room a room)

  -- bad code is tested first
  tested : (rule : Rule) (a : Asked) (b : Bool) → (b ≡ true → stop bad_code ≡ rule (machine_of s cells room)) → (b ≡ false → So rule a) → So rule (cond b (silent (stops bad_code)) a)
  unfolding print_move print_room
  tested rule a true f h = stopped g rule bad_code (f refl)
  tested rule a false f h = h refl

  pub prints_int : So (tried lent print_int) (asked_int s (held s cells))
  unfolding asked_int effect names_well does
  prints_int =
      let d = s.depth - 1 in
      let bs = decimal (get_or (held s cells) d (pos 0)) in
      rw (count g) (tested (tried lent print_int) (print (moves_to s s.index d) bs) (ltb s.depth 1)
      (λ b. few g print_int (ltb-true s.depth 1 b))
      (λ b.
      let h = ltb-false s.depth 1 b in
      also (prints_so (placed g s.index d g.whole (omega (arith, g.deep))) bs) (works g print_int d h refl refl (omega arith) refl (top g h))))

  pub prints_str : (q : ℕ) (line : Bool) → So (tried lent (print_at q line)) (asked_str s lent.text q line)
  unfolding asked_str string
  prints_str q line =
      let n = length lent.text in
      let e = quote lent.text q in
      let bs = said line (string lent.text q) in
      let rule = says lent q line (machine_of s cells room) in
      tested (tried lent (print_at q line)) (print s bs) (leb n e)
      (λ b. rw (not_closed lent.text q (leb-true n e b)) at rule)
      (λ b. also (prints_so g bs) (rw (is_closed lent.text q (leb-false n e b)) at rule))
