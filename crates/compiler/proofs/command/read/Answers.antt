-- `compiler::command::read` meets its contract. Assumes nothing.
use native.Mathlib.Omega.{arith}
use Rattle.compiler.specs.inner.Steps.{one_instruction}
use Rattle.compiler.specs.inner.Walks.{read_way}
use Rattle.compiler.proofs.Bodies.{lost_ahead, name_stored}
use Rattle.compiler.proofs.Commands.{none_read}
use Rattle.compiler.proofs.Names.{noted_is}
use Rattle.compiler.proofs.Replies.{passed_on}
use Rattle.compiler.proofs.command.read.Goals as goal

pub returns-in_default : goal.returns-in_default
returns-in_default c = rw c.refused_ahead.ensures (none_read c.requires.stands _ c.in_default.not-Name)

pub used-y-requires : goal.used-y-requires
unfolding one_instruction
used-y-requires c = rw c.emitted-x.ensures.0 (omega (arith, c.requires.code, c.requires.stands.order, c.requires.stands.within, c.requires.short))

pub advance-requires : goal.advance-requires
unfolding one_instruction
advance-requires c = rw (c.used-y.ensures.0, c.emitted-x.ensures.0, noted_is _ _ _) c.requires.stands.within

pub returns-in_err-advance : goal.returns-in_err-advance
unfolding one_instruction
returns-in_err-advance c = passed_on read_way _ _ _ _ _ _ _ _ c.from_residual.ensures.1 (lost_ahead c.requires.stands (rw (c.used-y.ensures.0, c.emitted-x.ensures.0, noted_is _ _ _) at c.in_err-advance.ensures))

pub returns : goal.returns
unfolding one_instruction
returns c = rw (c.used-y.ensures.1, c.emitted-x.ensures.0, c.emitted-x.ensures.1) (name_stored c.requires c.in-Name.is (rw (c.used-y.ensures.0, c.emitted-x.ensures.0) at c.in_ok-advance.ensures))
