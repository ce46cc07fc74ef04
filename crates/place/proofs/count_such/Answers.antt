-- `place::count_such` meets its contract. Assumes nothing.
use Rattle.std.proofs.Common.{arith, sym, ◌∙◌}
use Rattle.place.proofs.Places.{count_yes, count_no, count_out}
use Rattle.place.proofs.count_such.Goals as goal
use Rattle.place.proofs.count_such.Goals.{then-is_such, else-is_such}

pub loop-b-preserved : goal.loop-b-preserved
loop-b-preserved g c =
    let s = sym c.is_such.ensures in
    elim c.if-is_such.branch [
      | then-is_such w ↦ (omega arith, rw w.n-is (count_yes _ _ c.loop-b.n c.loop-b.b-index c.loop-b-test.true (s ∙ w.if-is_such.true) ∙ c.loop-b.invariant.1))
      | else-is_such w ↦ (omega arith, rw w.n-is (count_no _ _ c.loop-b.n c.loop-b.b-index c.loop-b-test.true (s ∙ w.if-is_such.false) ∙ c.loop-b.invariant.1))
    ]

pub returns : goal.returns
returns g c = sym (count_out _ _ _ _ c.loop-b-test.false) ∙ c.loop-b.invariant.1
