-- So many times the bytes: those that are left after i times. Assumes nothing.
use Rattle.std.proofs.Common.{◌≡◌, ℕ, suc, ◌+◌, ◌-◌, ◌<◌, ◌≤◌, List, [], ◌++◌, arith}
use Rattle.lines.specs.Times.{times}

pub times_on : (s : List ℕ) (n i : ℕ) → i < n → times (n - i) s ≡ s ++ times (n - (i + 1)) s
unfolding times
times_on s n i p = let e : n - i ≡ suc (n - (i + 1)) = omega arith in rw e

pub times_out : (s : List ℕ) (n i : ℕ) → n ≤ i → times (n - i) s ≡ []
unfolding times
times_out s n i p = let e : n - i ≡ 0 = omega arith in rw e
