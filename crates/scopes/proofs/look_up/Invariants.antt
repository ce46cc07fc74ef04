use mathlib.Core.Path.{◌≡◌}
use Rattle.names.specs.inner.Held.{visible_in, latest}
use Rattle.scopes.proofs.look_up.Given as goal

-- what is found among the declarations not looked at yet is what is found among them all
abbrev pub invariant-loop-k : goal.invariant-loop-k
invariant-loop-k l = latest (visible_in l.text l.names l.k) l.word ≡ latest (visible_in l.text l.names l.visible) l.word
