-- An instruction's tests, one after the other: too few values, what it names, stack room; and past them, what it does. Assumes nothing.
use mathlib.Core.Path.{◌≡◌}
use mathlib.Core.Bool.{true, false}
use Prim.Native.Nat.{ℕ, ◌-◌, ◌≤◌, ◌<◌}
use lib.IntN.{pos}
use lib.ListN.{length, get_or, drop}
use borrow.Author.Tests.{lt-ltb, le-ltb}
use Rattle.endings.specs.Endings.{stack_full, bad_code}
use Rattle.instruction.specs.Instructions.{Instruction, takes, gives}
use Rattle.rules.specs.Machine.{Lent, Machine, stop, names_well, does, tried}

module _ (lent : Lent) (i : Instruction) (m : Machine) where
  pub few : length m.stack < takes i → stop bad_code ≡ tried lent i m
  unfolding tried
  few h = rw (lt-ltb (length m.stack) (takes i) h)

  -- d values are left once it has taken its own
  module _ (d : ℕ) (h : takes i ≤ length m.stack) (l : length m.stack - takes i ≡ d) where
    pub misnamed : names_well lent i d ≡ false → stop bad_code ≡ tried lent i m
    unfolding tried
    misnamed w = rw (le-ltb (length m.stack) (takes i) h, l, w)

    module _ (w : names_well lent i d ≡ true) where
      pub full : lent.cells - length m.stack < gives i - takes i → stop stack_full ≡ tried lent i m
      unfolding tried
      full f = rw (le-ltb (length m.stack) (takes i) h, l, w, lt-ltb (lent.cells - length m.stack) (gives i - takes i) f)

      pub works : gives i - takes i ≤ lent.cells - length m.stack →
          does lent i (get_or m.stack 1 (pos 0)) (get_or m.stack 0 (pos 0)) (record { place = m.place; stack = drop (takes i) m.stack; outside = m.outside }) ≡ tried lent i m
      unfolding tried
      works f = rw (le-ltb (length m.stack) (takes i) h, l, w, le-ltb (lent.cells - length m.stack) (gives i - takes i) f)
