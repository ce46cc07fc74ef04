use Rattle.compiler.proofs.expression.+condition.Given as goal

abbrev pub decreases-condition : goal.decreases-condition
decreases-condition l = l.allow
