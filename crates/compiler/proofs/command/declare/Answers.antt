-- `compiler::command::declare` meets its contract. Assumes nothing.
use native.Mathlib.Omega.{arith}
use mir.Syntax.{w32}
use mir.Facts.{to_z-of_z}
use lib.IntN.{pos}
use Rattle.compiler.proofs.Stores.{count_fits}
use Rattle.compiler.specs.inner.Steps.{one_instruction}
use Rattle.compiler.specs.inner.Walks.{declare_way}
use Rattle.compiler.proofs.Bodies.{lost_ahead, name_given}
use Rattle.compiler.proofs.Commands.{none_declared}
use Rattle.compiler.proofs.Names.{declared_is}
use Rattle.compiler.proofs.Replies.{passed_on}
use Rattle.compiler.proofs.command.declare.Goals as goal

pub returns-in_default : goal.returns-in_default
returns-in_default c = rw c.refused_ahead.ensures (none_declared c.requires.stands _ c.in_default.not-Name)

pub emitted-y-requires : goal.emitted-y-requires
unfolding one_instruction
emitted-y-requires c = rw c.emitted-x.ensures.0 (omega (arith, c.requires.code, c.requires.stands.order, c.requires.stands.within, c.requires.short))

pub advance-requires : goal.advance-requires
unfolding one_instruction
advance-requires c = rw (c.declared.ensures.value, c.emitted-y.ensures.0, c.emitted-x.ensures.0, declared_is _ _) c.requires.stands.within

pub returns-in_err-advance : goal.returns-in_err-advance
unfolding one_instruction
returns-in_err-advance c = passed_on declare_way _ _ _ _ _ _ _ _ c.from_residual.ensures.1 (lost_ahead c.requires.stands (rw (c.declared.ensures.value, c.emitted-y.ensures.0, c.emitted-x.ensures.0, declared_is _ _) at c.in_err-advance.ensures))

pub returns : goal.returns
unfolding one_instruction
returns c = rw (c.declared.ensures.names_after, c.emitted-y.ensures.1, c.emitted-y.ensures.0, c.emitted-x.ensures.0, c.emitted-x.ensures.1, to_z-of_z {w = w32} {z = pos c.counts-s.result.next_cell} (count_fits (rw c.counts-s.ensures (omega (arith, c.requires.sound.next_cell, c.requires.sound.declared, c.requires.sound.size)))), c.counts-s.ensures) (name_given c.requires c.in-Name.is (rw (c.declared.ensures.value, c.emitted-y.ensures.0, c.emitted-x.ensures.0) at c.in_ok-advance.ensures))
