-- What the code holds tells results apart, so that the contracts of `in_range`, `negated` and `calculate` leave one answer each; those of `put_digits` and `put_decimal` too. Assumes nothing.
use mathlib.Core.Path.{◌≡◌, sym, ap, ◌∙◌}
use mathlib.Core.List.{List}
use Prim.Native.Nat.{ℕ}
use native.Mathlib.Omega.{arith}
use lib.IntN.{ℤ}
use lib.Seq.{sets}
use Rattle.std.specs.Prelude.{Result, Ok, Err}
use Rattle.endings.specs.declared.Ending.{Ending}
use Rattle.endings.proofs.Unique.{one_ending}
use Rattle.numbers.specs.inner.Buffers.{AtTheEnd}
use Rattle.numbers.specs.inner.Coded.{as_result}

-- ---- results

pub one_result : (r s : Result ℤ Ending) → as_result r ≡ as_result s → r ≡ s
one_result (Ok v) (Ok w) h = cc
one_result (Ok v) (Err e) h = cc
one_result (Err e) (Ok w) h = cc
one_result (Err e) (Err f) h = ap Err (one_ending e f (cc))

-- ---- bytes at the end of a buffer

pub one_at_the_end : {bs first last last' : List ℕ} {at at' : ℕ} → AtTheEnd bs first last at → AtTheEnd bs first last' at' → (at ≡ at') × (last ≡ last')
one_at_the_end {bs} {first} {at} {at'} p q =
    let e : at ≡ at' = omega (arith, p.count, q.count) in
    (e, p.bytes ∙ ap (λ n. sets first n bs) e ∙ sym q.bytes)
