-- The lines of a code table: document 01, the listing in "Bench examples". Each ends with byte 10.
use Rattle.std.specs.Prelude.{List, [], ◌++◌, ℕ, zero, suc, ◌+◌, ◌*◌, ◌/◌, ℤ, pos, length, get_or}
use Rattle.base.specs.Bytes.{bytes}
use Rattle.numbers.specs.Numbers.{decimal}
use Rattle.lines.specs.Lines.{line_end}

-- `PLACE OPERATION OPERAND`
unfoldable pub instruction_line : ℕ → ℤ → ℤ → List ℕ
instruction_line place operation operand = decimal (pos place) ++ (bytes " " ++ decimal operation) ++ (bytes " " ++ decimal operand) ++ line_end

-- so many lines, from a place of a code table on
unfoldable pub lines_from : ℕ → ℕ → List ℤ → List ℕ
lines_from zero place table = []
lines_from (suc n) place table = instruction_line place (get_or table (place * 2) (pos 0)) (get_or table (place * 2 + 1) (pos 0)) ++ lines_from n (suc place) table

-- a line for each pair of a code table
unfoldable pub table_lines : List ℤ → List ℕ
table_lines table = lines_from (length table / 2) 0 table
