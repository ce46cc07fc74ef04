-- `compiler::command::assign` meets its contract. Assumes nothing.
use mir.Facts.{to_z-of_z}
use Rattle.lexeme.specs.inner.Coded.{code_of}
use Rattle.compiler.specs.inner.Steps.{cell_of}
use Rattle.compiler.specs.inner.Walks.{assign_way}
use Rattle.compiler.proofs.Bodies.{ready_named, no_value, ready_value, value_leads, assigned}
use Rattle.compiler.proofs.Replies.{led_followed, passed_on, counts_got}
use Rattle.compiler.proofs.command.assign.Goals as goal

pub expect-requires : goal.expect-requires
unfolding cell_of
expect-requires c = rw (c.noted.ensures, c.look_up-c.ensures) (ready_named c.requires c.args.l).stands.within

pub returns-in_err-x : goal.returns-in_err-x
unfolding code_of cell_of
returns-in_err-x c = passed_on (assign_way _) _ _ _ _ _ _ _ _ c.from_residual.ensures.1 (no_value c.requires c.args.l (rw (c.noted.ensures, c.look_up-c.ensures) at c.in_err-x.ensures))

pub expression-requires : goal.expression-requires
unfolding code_of cell_of
expression-requires c = ready_value c.requires c.args.l (rw (c.noted.ensures, c.look_up-c.ensures) at c.in_ok-x.ensures)

pub returns-in_err-r : goal.returns-in_err-r
unfolding code_of cell_of
returns-in_err-r c = passed_on (assign_way _) _ _ _ _ _ _ _ _ c.from_residual-in_err-r.ensures.1 ((value_leads c.requires c.args.l (rw (c.noted.ensures, c.look_up-c.ensures) at c.in_ok-x.ensures)).refuses c.in_err-r.ensures)

pub followed-requires : goal.followed-requires
unfolding code_of cell_of
followed-requires c = (counts_got (ready_value c.requires c.args.l (rw (c.noted.ensures, c.look_up-c.ensures) at c.in_ok-x.ensures)) c.in_ok-r.ensures).0

pub returns : goal.returns
unfolding code_of cell_of
returns c =
    let m = rw (c.noted.ensures, c.look_up-c.ensures) at c.in_ok-x.ensures in
    rw (c.followed.ensures.0, c.followed.ensures.1, to_z-of_z (record { sfits = c.operand.type_inv }), c.operand.ensures, c.look_up-c.ensures)
    (led_followed (value_leads c.requires c.args.l m) c.in_ok-r.ensures (assigned c.requires c.args.l m _ c.in_ok-r.ensures.laid))
