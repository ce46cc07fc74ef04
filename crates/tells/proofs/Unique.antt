-- What stands on the pages, by `Writes`, is one thing. Assumes nothing.
use mathlib.Core.Path.{◌≡◌, refl, sym, ◌∙◌}
use mathlib.Core.List.{List}
use Prim.Native.Nat.{ℕ}
use Rattle.tells.specs.Tells as T
use Rattle.tells.specs.Writes.{Writes, number}
use Rattle.tells.specs.declared.Status.{Status}
use Rattle.tells.specs.declared.Status.TheVariants.{Good, NotGood}
use native.Mathlib.Omega.{arith}
use Rattle.tells.specs.declared.Said.{Said}

one_status : (s t : Status) → number s ≡ number t → s ≡ t
one_status Good Good e = refl
one_status Good NotGood e = absurd (omega arith)
one_status NotGood Good e = absurd (omega arith)
one_status NotGood NotGood e = refl

pub one_written : {s : T.Said} {r r' : Said} {out out' out'' err err' err'' : List ℕ} → Writes s r out out' err err' → Writes s r' out out'' err err'' → (r ≡ r') × (out' ≡ out'') × (err' ≡ err'')
one_written {r = r} {r' = r'} p q =
    let same : record { out = r.out; err = r.err; status = r.status } ≡ r' = rw (p.written ∙ sym q.written, p.noted ∙ sym q.noted, one_status r.status r'.status (p.status ∙ sym q.status)) in
    (same, p.page ∙ sym q.page, p.note ∙ sym q.note)
