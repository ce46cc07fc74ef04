-- `compiler::command::print_string` meets its contract. Assumes nothing.
use Prim.Native.Nat.{◌+◌}
use native.Mathlib.Omega.{arith}
use mir.Syntax.{w32}
use mir.Facts.{to_z-of_z}
use lib.IntN.{pos}
use Rattle.compiler.proofs.Stores.{count_fits}
use Rattle.compiler.specs.inner.Steps.{one_instruction}
use Rattle.compiler.specs.inner.Walks.{string_way}
use Rattle.compiler.proofs.Bodies.{lost_ahead, printed}
use Rattle.compiler.proofs.Commands.{no_quoted}
use Rattle.compiler.proofs.Replies.{passed_on}
use Rattle.compiler.proofs.command.print_string.Goals as goal

pub returns-in_default : goal.returns-in_default
returns-in_default c = rw c.refused_ahead.ensures (no_quoted c.requires.stands _ _ c.in_default.not-Str)

pub advance-requires : goal.advance-requires
unfolding one_instruction
advance-requires c = rw c.emitted-x.ensures.0 c.requires.stands.within

pub returns-in_err-advance : goal.returns-in_err-advance
unfolding one_instruction
returns-in_err-advance c = passed_on (string_way _) _ _ _ _ _ _ _ _ c.from_residual.ensures.1 (lost_ahead c.requires.stands (rw c.emitted-x.ensures.0 at c.in_err-advance.ensures))

pub returns : goal.returns
returns c = rw (c.emitted-x.ensures.1, to_z-of_z (record { sfits = c.printing.type_inv }), c.printing.ensures, to_z-of_z {w = w32} {z = pos (c.args.w.next.place + 1)} (count_fits (omega (arith, c.requires.stands.order, c.requires.stands.within, c.requires.short)))) (printed c.requires _ c.in-Str.is (rw c.emitted-x.ensures.0 at c.in_ok-advance.ensures))
