-- `compiler::walk::Walk::is_ahead` meets its contract. Assumes nothing.
use borrow.Author.Rules.{rules}
use Rattle.lexeme.proofs.Decoded.{is_variant}
use Rattle.compiler.proofs.walk.Walk.is_ahead.Goals as goal

pub returns : goal.returns
returns c = is_variant _ _ _ (λ e. search rules) (λ e h. search rules)
