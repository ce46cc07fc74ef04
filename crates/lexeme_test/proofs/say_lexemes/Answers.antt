use Rattle.std.proofs.Common.{arith, rules}
use Rattle.lexeme.proofs.Places.{next_stands}
use Rattle.lexeme_test.proofs.say_lexemes.Goals as goal

pub loop-l-smaller : goal.loop-l-smaller
loop-l-smaller c =
    let s = next_stands c.args.text.now c.loop-l.at _ c.loop-l.invariant c.in-Ok.ensures in
    omega (arith, s.0, s.1.some (λ e. search rules), s.1.within)

pub loop-l-preserved : goal.loop-l-preserved
loop-l-preserved c = (next_stands c.args.text.now c.loop-l.at _ c.loop-l.invariant c.in-Ok.ensures).1.within
