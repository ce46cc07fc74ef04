-- `scopes::enter` meets its contract. Assumes nothing.
use Rattle.std.proofs.Common.{◌≡◌, [], ◌∷◌, ◌+◌, ◌-◌, ◌*◌, sym, append_assoc, arith}
use Rattle.std.proofs.lemmas.List.{drop-drop}
use Rattle.std.proofs.lemmas.List.Edits.{sets-eq}
use Rattle.scopes.proofs.enter.Goals as goal

pub returns : goal.returns
returns c =
    let at = 5 + c.args.k * 4 in
    let four : at + 4 - at ≡ 4 = omega arith in
    rw (four, drop-drop, ← append_assoc, c.copy_from_slice.ensures.after)
    (sym (sets-eq (c.args.p ∷ c.args.e ∷ c.args.cell ∷ c.args.block ∷ []) c.args.names.now at (omega arith)))
