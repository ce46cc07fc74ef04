-- What each instruction leads to, by the code's tests, is what the rule says. Assumes nothing.
use mathlib.Core.Path.{◌≡◌, refl, sym, ◌∙◌}
use mathlib.Core.List.{List}
use mathlib.Core.Bool.{Bool, true, false, cond}
use Prim.Native.Nat.{ℕ, ◌-◌, ◌*◌, ◌≤◌, ◌<◌}
use native.Mathlib.Nat.{sub-zero}
use native.Mathlib.Numerals.{add-one}
use native.Mathlib.Omega.{arith}
use lib.Dec.{leb, ltb}
use lib.IntN.{ℤ, pos}
use lib.ListN.{length, get_or, take}
use lib.Seq.{length-take-le, get_or-take}
use borrow.Author.Tests.{lt-ltb, le-ltb, ltb-true, ltb-false, leb-true, leb-false}
use Rattle.endings.specs.Endings.{no_reading_left, stack_full, bad_code}
use Rattle.numbers.specs.Numbers.{TwoSidedOperation, is_false}
use Rattle.instruction.specs.Instructions.{Instruction, push_int, load_stack, store_stack, jump, jump_if_false, two_sided, negate, not, read, takes, gives, effect}
use Rattle.moves.specs.inner.Moves.{Led, leads, stops, moves_to, push_int_move, load_stack_move, store_stack_move, jump_move, jump_if_false_move, two_sided_move, negate_move, not_move, read_move}
use Rattle.moves.specs.declared.State.{State}
use Rattle.moves.specs.declared.Move.TheVariants.{Go}
use Rattle.rules.specs.Machine.{Lent, pushed, left_with, taken, reading, one_used, pairs, names_well, does, tried}
use Rattle.machine.specs.inner.Coded.{live, Good, Did}
use Rattle.machine.proofs.Cells.{live_first, live_second, poke_live}
use Rattle.machine.proofs.Steps.{stopped, goes, sets, does_push, does_put, few, misnamed, full, works, loads, jumps_to, also, no_more, one_more}

-- the live cells as they are handed to an instruction, the lowest first
abbrev pub held : State → List ℤ → List ℤ
held s cells = take s.depth cells

module _ {lent : Lent} {before : List ℕ} {s : State} {cells : List ℤ} {room : List ℕ} (g : Good lent before s cells room) where
  -- the answer r is what the rule of the instruction says
  abbrev So : Instruction → Led → Type 0
  So i r = Did lent before (tried lent i) s cells room r room

  pub count : length (held s cells) ≡ s.depth
  count = length-take-le s.depth cells g.deep

  pub top : 1 ≤ s.depth → get_or (live s.depth cells) 0 (pos 0) ≡ get_or (held s cells) (s.depth - 1) (pos 0)
  top h = live_first s.depth cells h ∙ sym (get_or-take s.depth cells (s.depth - 1) (pos 0) (omega arith))

  second : 2 ≤ s.depth → get_or (live s.depth cells) 1 (pos 0) ≡ get_or (held s cells) (s.depth - 2) (pos 0)
  second h = live_second s.depth cells h ∙ sym (get_or-take s.depth cells (s.depth - 2) (pos 0) (omega arith))

  -- ---- the tests, in the rule's order

  by : (i : Instruction) {m n : Led} (b : Bool) → (b ≡ true → So i m) → (b ≡ false → So i n) → So i (cond b m n)
  by i true f h = f refl
  by i false f h = h refl

  enough : (i : Instruction) {m : Led} → (takes i ≤ s.depth → So i m) → So i (cond (ltb s.depth (takes i)) (stops bad_code) m)
  enough i f =
      by i (ltb s.depth (takes i))
      (λ h. stopped g (tried lent i) bad_code (few g i (ltb-true s.depth (takes i) h)))
      (λ h. f (ltb-false s.depth (takes i) h))

  -- it names k, which has to be below n
  named : (i : Instruction) (d k n : ℕ) {m : Led} → takes i ≤ s.depth → s.depth - takes i ≡ d → names_well lent i d ≡ ltb k n → (k < n → So i m) → So i (cond (leb n k) (stops bad_code) m)
  named i d k n h l w f =
      by i (leb n k)
      (λ b. stopped g (tried lent i) bad_code (misnamed g i d h l (w ∙ le-ltb k n (leb-true n k b))))
      (λ b. f (leb-false n k b))

  -- it adds a value
  fits : (i : Instruction) {m : Led} → takes i ≡ 0 → gives i ≡ 1 → names_well lent i s.depth ≡ true → (s.depth < length cells → So i m) → So i (cond (leb (length cells) s.depth) (stops stack_full) m)
  fits i t v w f =
      by i (leb (length cells) s.depth)
      (λ b. stopped g (tried lent i) stack_full (full g i s.depth (omega arith) (omega arith) w (omega (arith, leb-true (length cells) s.depth b))))
      (λ b. f (leb-false (length cells) s.depth b))

  -- ---- the instructions

  pub pushes_int : (v : ℤ) → So (push_int v) (push_int_move s (length cells) v)
  unfolding push_int_move effect names_well pushed does
  pushes_int v = fits (push_int v) refl refl refl (λ h.
      does_push g (tried lent (push_int v)) s.depth v h (works g (push_int v) s.depth (omega arith) (sub-zero s.depth) refl (omega arith) refl refl))

  pub loads_stack : (k : ℕ) → So (load_stack k) (load_stack_move s (length cells) (held s cells) k)
  unfolding load_stack_move effect names_well
  loads_stack k = rw count (named (load_stack k) s.depth k s.depth (omega arith) (sub-zero s.depth) refl (λ h.
      rw (get_or-take s.depth cells k (pos 0) h) (also (pushes_int (get_or cells k (pos 0))) (loads g k h))))

  pub stores_stack : (k : ℕ) → So (store_stack k) (store_stack_move s (held s cells) k)
  unfolding store_stack_move effect names_well does left_with
  stores_stack k = rw count (enough (store_stack k) (λ h. named (store_stack k) (s.depth - 1) k (s.depth - 1) h refl refl (λ w.
      let y = get_or (held s cells) (s.depth - 1) (pos 0) in
      sets g (tried lent (store_stack k)) (s.depth - 1) k y (omega (arith, g.deep)) (omega (arith, g.deep))
      (rw (← poke_live (s.depth - 1) k cells y w (omega (arith, g.deep))) (works g (store_stack k) (s.depth - 1) h refl (lt-ltb k (s.depth - 1) w) (omega arith) refl (top h))))))

  pub jumps : (a : ℕ) → So (jump a) (jump_move s (length lent.table) a)
  unfolding jump_move effect names_well does pairs
  jumps a = named (jump a) s.depth a (pairs lent) (omega arith) (sub-zero s.depth) refl (λ w.
      goes g (tried lent (jump a)) (a * 2) s.depth (omega arith) g.deep
      (rw (jumps_to s a s.depth cells room) (works g (jump a) s.depth (omega arith) (sub-zero s.depth) (lt-ltb a (pairs lent) w) (omega arith) refl refl)))

  -- with the value 0 it is taken
  module _ (a : ℕ) (h : 1 ≤ s.depth) (w : a < pairs lent) where
    turns : (b : Bool) → is_false (get_or (held s cells) (s.depth - 1) (pos 0)) ≡ b → So (jump_if_false a) (leads (Go (moves_to s (cond b (a * 2) s.index) (s.depth - 1))))
    unfolding effect names_well does
    turns true e =
        goes g (tried lent (jump_if_false a)) (a * 2) (s.depth - 1) (omega arith) (omega (arith, g.deep))
        (rw (jumps_to s a (s.depth - 1) cells room) (rw e at (works g (jump_if_false a) (s.depth - 1) h refl (lt-ltb a (pairs lent) w) (omega arith) refl (top h))))
    turns false e =
        goes g (tried lent (jump_if_false a)) s.index (s.depth - 1) g.whole (omega (arith, g.deep))
        (rw e at (works g (jump_if_false a) (s.depth - 1) h refl (lt-ltb a (pairs lent) w) (omega arith) refl (top h)))

  pub jumps_if_false : (a : ℕ) → So (jump_if_false a) (jump_if_false_move s (held s cells) (length lent.table) a)
  unfolding jump_if_false_move effect names_well pairs
  jumps_if_false a = rw count (enough (jump_if_false a) (λ h. named (jump_if_false a) (s.depth - 1) a (pairs lent) h refl refl (λ w.
      turns a h w (is_false (get_or (held s cells) (s.depth - 1) (pos 0))) refl)))

  pub operates : (t : TwoSidedOperation) → So (two_sided t) (two_sided_move s (held s cells) t)
  unfolding two_sided_move effect names_well does
  operates t = rw count (enough (two_sided t) (λ h.
      does_put g (tried lent (two_sided t)) (s.depth - 2) _ (omega (arith, g.deep)) (works g (two_sided t) (s.depth - 2) h refl refl (omega arith) (second h) (top (omega arith)))))

  pub negates : So negate (negate_move s (held s cells))
  unfolding negate_move effect names_well does
  negates = rw count (enough negate (λ h.
      does_put g (tried lent negate) (s.depth - 1) _ (omega (arith, g.deep)) (works g negate (s.depth - 1) h refl refl (omega arith) refl (top h))))

  pub nots : So not (not_move s (held s cells))
  unfolding not_move effect names_well pushed does
  nots = rw count (enough not (λ h.
      does_push g (tried lent not) (s.depth - 1) _ (omega (arith, g.deep)) (works g not (s.depth - 1) h refl refl (omega arith) refl (top h))))

  pub reads : So read (read_move s (length cells) lent.readings)
  unfolding read_move effect names_well does taken reading one_used pushed
  reads = fits read refl refl refl (λ h.
      let rule = works g read s.depth (omega arith) (sub-zero s.depth) refl (omega arith) refl refl in
      let v = get_or lent.readings s.used (pos 0) in
      by read (leb (length lent.readings) s.used)
      (λ b. stopped g (tried lent read) no_reading_left (rw (no_more lent.readings s.used (leb-true (length lent.readings) s.used b)) at rule))
      (λ b. also (does_push (record { deep = g.deep; stack = g.stack; within = g.within; size = g.size; past = g.past; whole = g.whole }) (pushed v) s.depth v h refl)
      (rw (add-one s.used) (rw (one_more lent.readings s.used (leb-false (length lent.readings) s.used b)) at rule))))
