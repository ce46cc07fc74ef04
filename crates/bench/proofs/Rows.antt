-- A table of rows, from what the two ways work out for each. Assumes nothing.
use mathlib.Core.Path.{◌≡◌}
use mathlib.Core.List.{List, [], ◌∷◌, map}
use Rattle.limits.specs.Limits.{Limits}
use Rattle.compiler.proofs.Judging.{judged, judged_so}
use Rattle.bench.specs.Examples.{Yield, Example, yield, by_machine, by_sentences, EachYields}

unfoldable pub machine_row : Limits → Example → Yield
machine_row limits e = yield (by_machine e) (judged limits e.text)

unfoldable pub sentences_row : Limits → Example → Yield
sentences_row limits e = yield (by_sentences e) (judged limits e.text)

abbrev pub expected : Example → Yield
expected e = e.comes_to

-- where the rows of both ways are those of the table, each row is yielded
pub rows : (limits : Limits) (es : List Example) → map (machine_row limits) es ≡ map expected es → map (sentences_row limits) es ≡ map expected es → EachYields limits es
unfolding EachYields machine_row sentences_row
rows limits [] m s = tt
rows limits (e ∷ es) m s = (record { answer = judged limits e.text; is_given = judged_so limits e.text; so = (cc, cc) }, rows limits es (cc) (cc))
