use Rattle.std.proofs.Common.{◌≡◌, take}
use Rattle.rooms.proofs.copy.Given as goal

-- so many bytes are copied
abbrev pub invariant-loop-i : goal.invariant-loop-i
invariant-loop-i l = take l.i l.room ≡ take l.i l.bytes
