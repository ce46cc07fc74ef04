-- What a whole Program comes to, as the code answers it.
use Rattle.std.specs.Prelude.{cond, ℕ, ◌+◌, ltb, Option, Some, None, Result, Ok, Err}
use Rattle.base.specs.declared.Refusal.TheVariants.{TooMuchCode}
use Rattle.base.specs.declared.Refused.{Refused}
use Rattle.tables.specs.declared.Counts.{Counts}

-- the leftmost refusal of a name, too much code, or the counts: one instruction for each cell, those up to the place, and one more
unfoldable pub settled_by : ℕ → ℕ → ℕ → ℕ → Option Refused → Result Counts Refused
settled_by limit cells code need None = cond (ltb limit (cells + code + 1)) (Err (record { why = TooMuchCode; place = 0 })) (Ok (record { instructions = cells + code + 1; cells = cells; need = need }))
settled_by limit cells code need (Some r) = Err r
