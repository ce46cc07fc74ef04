-- What is added to a page leaves one page and one place after it: for every function of `lines`, `pairs`, `words` and `marks` that adds bytes. Assumes nothing.
use mathlib.Core.Path.{◌≡◌, sym, ◌∙◌}
use mathlib.Core.List.{List}
use Prim.Native.Nat.{ℕ}
use Rattle.lines.specs.Added.{Added}

pub one_added : {bs page page' page'' : List ℕ} {at end end' : ℕ} → Added bs page at page' end → Added bs page at page'' end' → (page' ≡ page'') × (end ≡ end')
one_added p q = (p.bytes ∙ sym q.bytes, p.next ∙ sym q.next)
