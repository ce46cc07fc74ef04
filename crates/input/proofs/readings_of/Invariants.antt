-- What is taken from here on is what is taken of some input from the start, of which so much was seen.
use Rattle.input.proofs.Seen.{Seen}
use Rattle.input.proofs.readings_of.Given as goal

abbrev pub invariant-loop : goal.invariant-loop
invariant-loop g l = Seen l.reader l.numbers l.initial.numbers
