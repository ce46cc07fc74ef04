-- `tidy::copied` meets its contract. Assumes nothing.
use Rattle.std.proofs.Common.{◌≡◌, refl, ◌∙◌, ℕ, List}
use Rattle.lexeme.specs.declared.Kind.{Kind}
use Rattle.lexeme.specs.declared.Kind.TheVariants as kind
use Rattle.tidy.specs.inner.Copies.{of_kind, copied}
use Rattle.tidy.proofs.copied.Goals as goal

-- any other lexeme is copied as it stands
as_it_stands : (k : Kind) (own : List ℕ) → ((v : ℕ) → k ≡ kind.Literal v → ⊥) → own ≡ of_kind k own
unfolding of_kind
as_it_stands (kind.Literal v) own n = absurd (n v refl)
as_it_stands kind.Name own n = refl
as_it_stands kind.Class own n = refl
as_it_stands kind.Str own n = refl
as_it_stands (kind.Fixed f) own n = refl

pub returns-in-Literal : goal.returns-in-Literal
unfolding copied of_kind
returns-in-Literal c = rw c.in-Literal.is (c.without_zeros.ensures ∙ rw c.part-own.ensures)

pub returns-in_default : goal.returns-in_default
unfolding copied
returns-in_default c = rw c.part-own.ensures (as_it_stands _ _ c.in_default.not-Literal)
