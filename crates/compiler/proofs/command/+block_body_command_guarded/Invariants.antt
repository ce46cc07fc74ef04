use Prim.Native.Nat.{suc, ◌+◌, ◌*◌, ◌-◌}
use lib.ListN.{length}
use Rattle.names.specs.inner.Held.{opened_in}
use Rattle.compiler.specs.inner.Walks.{Got, block_so_far}
use Rattle.compiler.proofs.command.+block_body_command_guarded.Given as goal

abbrev pub decreases-block : goal.decreases-block
decreases-block l = l.allow * 3 + 1

abbrev pub decreases-body : goal.decreases-body
decreases-body l = l.allow * 3 + 1

abbrev pub decreases-command : goal.decreases-command
decreases-command l = l.allow * 3

abbrev pub decreases-guarded : goal.decreases-guarded
decreases-guarded l = l.allow * 3 + 2

-- the commands so far, read from the first on
abbrev pub invariant-block-loop-names : goal.invariant-block-loop-names
invariant-block-loop-names l = Got block_so_far l.text (opened_in l.fn.names) l.fn.table l.fn.w (suc l.allow) l.names l.table l.so_far.walk l.so_far.need

abbrev pub decreases-block-loop-names : goal.decreases-block-loop-names
decreases-block-loop-names l = length l.text - l.so_far.walk.next.place
