-- The limits as the definitions take them, and those that the contracts hand in: their numbers stand in src/lib.rt.
use Rattle.std.specs.Prelude.{ℕ}
use Rattle.limits.specs.declared.TheConstants.Limits.{TEXT, WORD, STRING, LITERAL, NESTING, DECLARATIONS, INSTRUCTIONS}

-- those of a lexeme: refusal 3
pub record Sizes : Type 0 where
  -- letters and digits of a name, letters of a class name
  pub word : ℕ
  -- bytes between a string's quotes
  pub string : ℕ
  -- the value of a literal
  pub literal : ℕ

pub record Limits : Type 0 where
  -- bytes of a text
  pub text : ℕ
  pub sizes : Sizes
  -- nestings open at once
  pub nesting : ℕ
  -- declarations of a text
  pub declarations : ℕ
  -- instructions of a text's code
  pub instructions : ℕ

-- the paper's sizes, and its limits
abbrev pub the_sizes : Sizes
the_sizes = record { word = WORD; string = STRING; literal = LITERAL }

abbrev pub the_limits : Limits
the_limits = record { text = TEXT; sizes = the_sizes; nesting = NESTING; declarations = DECLARATIONS; instructions = INSTRUCTIONS }
