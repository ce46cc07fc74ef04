-- The lines of a code table from a place on, and how long one can be. Assumes nothing.
use mathlib.Core.Path.{◌≡◌}
use mathlib.Core.List.{List, [], ◌++◌}
use Prim.Native.Nat.{ℕ, suc, ◌+◌, ◌-◌, ◌*◌, ◌/◌, ◌≤◌, ◌<◌}
use native.Mathlib.Numerals.{add-one}
use native.Mathlib.Omega.{arith}
use lib.IntN.{ℤ, pos}
use mathlib.Core.Path.{sym, ap, ◌∙◌}
use Rattle.std.proofs.lemmas.List.{drop-drop, get_or-drop, get_or_append_left}
use Rattle.std.proofs.Math.Seq.{drop-append_seam}
use lib.ListN.{length, get_or, drop, length-append, length-drop}
use mir.Syntax.{w32}
use mir.Val.{SFits}
use Rattle.base.specs.Bytes.{bytes, bytes_from}
use Rattle.lines.proofs.Short.{Small, short_natural, short_integer}
use Rattle.pairs.specs.Pairs.{instruction_line, lines_from, table_lines}

pub short_instruction : (place : ℕ) (operation operand : ℤ) → Small place → SFits w32 operation → SFits w32 operand → length (instruction_line place operation operand) ≤ 65
unfolding instruction_line bytes bytes_from
short_instruction place operation operand h f g = simp length-append (omega (arith, short_natural place h, short_integer operation f, short_integer operand g))

module _ (table : List ℤ) where
  -- the next pair, of those from the place i on, and those after it
  pub next_pair : (i : ℕ) (rest pair rest' : List ℤ) → rest ≡ drop (i * 2) table → rest ≡ pair ++ rest' → length pair ≡ 2 →
      (i < length table / 2) × (get_or pair 0 (pos 0) ≡ get_or table (i * 2) (pos 0)) × (get_or pair 1 (pos 0) ≡ get_or table (i * 2 + 1) (pos 0)) × (rest' ≡ drop ((i + 1) * 2) table)
  next_pair i rest pair rest' e f two =
      let all : pair ++ rest' ≡ drop (i * 2) table = sym f ∙ e in
      let long : length pair + length rest' ≡ length table - i * 2 = sym (length-append pair rest') ∙ (ap length all ∙ length-drop (i * 2) table) in
      let read = λ (k : ℕ) (h : k < length pair). sym (get_or_append_left pair rest' (pos 0) k h) ∙ (ap (λ (l : List ℤ). get_or l k (pos 0)) all ∙ get_or-drop (i * 2) table k (pos 0)) in
      let n : i * 2 + 2 ≡ (i + 1) * 2 = omega arith in
      let z : i * 2 + 0 ≡ i * 2 = omega arith in
      (omega arith, rw z at (read 0 (omega arith)), read 1 (omega arith), sym (drop-append_seam pair rest') ∙ (rw two (ap (λ (l : List ℤ). drop 2 l) all ∙ (drop-drop 2 (i * 2) table ∙ ap (λ (k : ℕ). drop k table) n))))

  -- there is none
  pub no_pair : (i size : ℕ) (rest : List ℤ) → rest ≡ drop (i * 2) table → size ≡ 2 → length rest < size → length table / 2 ≤ i
  no_pair i size rest e two h = omega (arith, two, ap length e, length-drop (i * 2) table)

  pub lines_start : lines_from (length table / 2 - 0) 0 table ≡ table_lines table
  unfolding table_lines
  lines_start = let e : length table / 2 - 0 ≡ length table / 2 = omega arith in rw e

  module _ (i : ℕ) where
    pub lines_on : i < length table / 2 → lines_from (length table / 2 - i) i table ≡ instruction_line i (get_or table (i * 2) (pos 0)) (get_or table (i * 2 + 1) (pos 0)) ++ lines_from (length table / 2 - (i + 1)) (i + 1) table
    unfolding lines_from
    lines_on h = let e : length table / 2 - i ≡ suc (length table / 2 - (i + 1)) = omega arith in rw (e, add-one i)

    -- the line is at most 65 bytes long
    pub short_on : (n : ℕ) → i < length table / 2 → length (instruction_line i (get_or table (i * 2) (pos 0)) (get_or table (i * 2 + 1) (pos 0))) ≤ 65 → n ≤ i * 65 + length (lines_from (length table / 2 - i) i table) → n ≤ (i + 1) * 65 + length (lines_from (length table / 2 - (i + 1)) (i + 1) table)
    short_on n h few short = omega (arith, simp length-append at (rw (lines_on h) at short))

    pub lines_out : length table / 2 ≤ i → lines_from (length table / 2 - i) i table ≡ []
    unfolding lines_from
    lines_out h = let e : length table / 2 - i ≡ 0 = omega arith in rw e
