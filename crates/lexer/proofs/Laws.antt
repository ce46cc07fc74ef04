-- The laws by which the functions of the lexer prove.
use Rattle.std.proofs.lemmas.Bool.Decides.{nat_tests}
use Rattle.std.proofs.lemmas.Option.{gets}
use Rattle.base.proofs.Runs.{run_part, begins_at, small_is, letter_is, digit_is, neither_is}
use Rattle.lexeme.proofs.Places.{here_end, here_word, here_other}
use Rattle.lexeme.proofs.Words.{name_alone, capital_alone, capital_mixed, digits_alone, digits_mixed, string_open, string_closed}

pub ruleset laws = (nat_tests, gets, run_part, begins_at, small_is, letter_is, digit_is, neither_is, here_end, here_word, here_other, name_alone, capital_alone, capital_mixed, digits_alone, digits_mixed, string_open, string_closed)
