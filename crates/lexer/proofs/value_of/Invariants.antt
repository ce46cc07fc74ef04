use Rattle.std.proofs.Common.{◌≡◌, ◌≤◌, drop}
use Rattle.base.specs.Bytes.{value}
use Rattle.lexer.proofs.value_of.Given as goal

-- the value of the digits so far, with those that are left, is the whole value
abbrev pub invariant-loop-digit : goal.invariant-loop-digit
invariant-loop-digit l = (l.value ≤ 4294967295) × (value l.value (drop l.digit-index l.word) ≡ value 0 l.word)
