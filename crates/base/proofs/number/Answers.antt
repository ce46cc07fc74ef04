-- `base::number` meets its contract. Assumes nothing.
use Rattle.std.specs.Prelude.{◌≡◌, ◌+◌}
use Rattle.std.proofs.Common.{refl}
use Rattle.base.specs.Answers.{number}
use Rattle.base.specs.contracts.Refusal.{the_type}
use Rattle.base.specs.declared.Refusal.{Refusal}
use Rattle.base.specs.declared.Refusal.TheVariants.{TooLong, NoLexeme, TooLarge, NoProgram, TooDeep, Undeclared, TooManyDeclared, TooMuchCode}
use denote.Enum.Declared.{tag_of}
use Rattle.base.proofs.number.Goals as goal

-- a variant's place is one below its number
numbered : (why : Refusal) → tag_of the_type why + 1 ≡ number why
unfolding number
numbered TooLong = refl
numbered NoLexeme = refl
numbered TooLarge = refl
numbered NoProgram = refl
numbered TooDeep = refl
numbered Undeclared = refl
numbered TooManyDeclared = refl
numbered TooMuchCode = refl

pub returns : goal.returns
returns c = numbered c.args.why
