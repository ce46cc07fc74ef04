-- Each lexeme but the end ends further on in the text.
use Rattle.std.proofs.Common.{length, ◌-◌, ◌≤◌}
use Rattle.lexeme_test.proofs.say_lexemes.Given as goal

abbrev pub invariant-loop-l : goal.invariant-loop-l
invariant-loop-l l = l.at ≤ length l.text

abbrev pub decreases-loop-l : goal.decreases-loop-l
decreases-loop-l l = length l.text - l.at
