-- What T-05 promises of a tidy copy: it is accepted, it has the same program, tidying it changes nothing, and two are equal exactly when the lexemes are. Assumes nothing.
use mathlib.Core.Path.{◌≡◌, refl, sym, ap, subst, ◌∙◌}
use mathlib.Core.Logic.{◌↔◌}
use mathlib.Core.List.{List, [], ◌∷◌, ◌++◌, map}
use mathlib.Core.Bool.{Bool, true, false, ◌||◌}
use borrow.Author.Tests.{ltb-false}
use Prim.Native.Nat.{ℕ, ◌+◌, ◌≤◌}
use lib.Dec.{ltb}
use lib.ListN.{length}
use Rattle.limits.specs.Limits.{Limits, Sizes}
use Rattle.base.specs.Answers.{Answer, given, pass}
use Rattle.lexeme.specs.Lexemes.{Name, Lexeme, fixed, end, Placed, lexemes}
use Rattle.lexeme.proofs.Ahead.{in_a_row}
use Rattle.sentence.specs.Sentences.{Sen, command}
use Rattle.sentence.specs.Grammar.{whats, Whole}
use Rattle.names.specs.Names.{Known, nothing_declared, resolved}
use Rattle.spelling.specs.Spelling.{written, at_place, tidy_text, Alike}
use Rattle.spelling.proofs.Proper.{set_out_after, set_out}
use Rattle.spelling.proofs.Inverse.{words_proper, own_places}
use Rattle.spelling.proofs.Tidied.{tidied, all_but_end, tidy_twice, tidy_read, equal_exactly}
use Rattle.meaning.specs.Layout.{program_need}
use Rattle.moved.proofs.Moved.{moved, whole_moved, shallow_moved}
use Rattle.moved.proofs.Cells.{resolved_moved}
use Rattle.moved.proofs.Codes.{same_length, strings_in_both, program_code_moved, need_moved}
use Rattle.moved.proofs.Placing.{name_at, string_at, shifted, Aligned, both_end, ◌beside◌, placing, row_ascending}
use Rattle.compiler.specs.Compiled.{Accepted, code_of_text, need_of, over_cells, Named, Judged, accepted}
use Rattle.compiler.proofs.Decides.{resolves}
use Rattle.kit.proofs.Faithful.{own}
use Rattle.tidy.specs.Tidy.{tidy_of, longer, bytes, SameProgram}
use Rattle.tidy.proofs.Outcomes.{lexemes_of, tidy_is}

-- ---- the lexemes of the copy, beside those of the text

after_space_beside : (p : ℕ) (ws : List Lexeme) (ls : List Placed) → whats ls ≡ ws ++ fixed end ∷ [] → Aligned ls (set_out_after p ws)
unfolding whats set_out_after
after_space_beside p [] [] e = cc
after_space_beside p [] (l ∷ []) e = let h : l.what ≡ fixed end = cc in ap (at_place p) (sym h) beside both_end
after_space_beside p [] (l ∷ m ∷ ls) e = cc
after_space_beside p (w ∷ ws) [] e = cc
after_space_beside p (w ∷ ws) (l ∷ ls) e =
    let h : l.what ≡ w = cc in
    let t : whats ls ≡ ws ++ fixed end ∷ [] = cc in
    ap (at_place (p + 1)) (sym h) beside after_space_beside (p + 1 + length (written w)) ws ls t

all_beside : (ws : List Lexeme) (ls : List Placed) → whats ls ≡ ws ++ fixed end ∷ [] → Aligned ls (set_out ws)
unfolding whats set_out set_out_after
all_beside [] ls e = after_space_beside 0 [] ls e
all_beside (w ∷ ws) [] e = cc
all_beside (w ∷ ws) (l ∷ ls) e =
    let h : l.what ≡ w = cc in
    let t : whats ls ≡ ws ++ fixed end ∷ [] = cc in
    ap (at_place 0) (sym h) beside after_space_beside (length (written w)) ws ls t

-- ---- what is promised

second : (x y : Bool) → (x || y) ≡ false → y ≡ false
second true y h = cc
second false y h = h

-- the places of the copy, as a function of the text's
placed_so : (most : Sizes) (text : List ℕ) (ls : List Placed) → lexemes most text ≡ given ls → (f : ℕ → ℕ) × (map (shifted f) (whats ls) ≡ whats (tidied ls))
placed_so most text ls are =
    let w = words_proper most text ls are in
    placing ls (tidied ls) (row_ascending (in_a_row most text ls are)) (own_places most text ls are) (rw (all_but_end most text ls are) (all_beside w.words ls w.split))

module _ (limits : Limits) (text : List ℕ) {a : Accepted} (n : Named limits text a) where
  abbrev most : Sizes
  most = limits.sizes

  abbrev ls : List Placed
  ls = n.parsed.from

  abbrev are : lexemes most text ≡ given ls
  are = n.parsed.lexed.are

  abbrev copy : List ℕ
  copy = tidy_of most text

  module _ (short : length copy ≤ limits.text) (few : length (code_of_text a) ≤ limits.instructions) (f : ℕ → ℕ) (places : map (shifted f) (whats ls) ≡ whats (tidied ls)) where
    abbrev tree : Sen Name command
    tree = moved (name_at f) (string_at f) n.tree

    -- the text over cells, with its strings where the copy has them
    abbrev again : Accepted
    again = record { command = moved (λ c. c) (string_at f) a.command; cells = a.cells }

    copy_over_cells : over_cells limits.declarations tree ≡ given again
    unfolding over_cells pass resolved
    copy_over_cells =
        let k = resolves limits.declarations n.tree n.are in
        ap (λ (r : Answer (Known (Sen ℕ command))). pass r (λ k'. given (record { command = k'.what; cells = k'.scope.cells }))) (resolved_moved limits.declarations (name_at f) (string_at f) (λ x. refl) n.tree nothing_declared k.0 k.1)
        ∙ ap (λ (y : Accepted). given (record { command = moved (λ c. c) (string_at f) y.command; cells = y.cells })) k.2

    copy_named : Named limits copy again
    copy_named = record {
      tree = tree;
      parsed = record {
        from = tidied ls;
        lexed = record { short = short; are = rw (tidy_is most text ls are) (tidy_read most text ls are) };
        whole = subst (λ (x : List Lexeme). Whole x tree) places (whole_moved (name_at f) (string_at f) (whats ls) n.tree n.parsed.whole);
        shallow = shallow_moved (name_at f) (string_at f) limits.nesting n.tree n.parsed.shallow;
      };
      are = copy_over_cells;
    }

    copy_same : SameProgram text a copy again
    unfolding code_of_text need_of program_need
    copy_same =
        let strings = strings_in_both text copy (string_at f) a.cells a.cells (λ q. refl) a.command (own limits text a n) (own limits copy again copy_named) in
        record { code = program_code_moved text copy (string_at f) a.cells a.command strings; cells = refl; need = ap (λ (x : ℕ). a.cells + x) (need_moved (string_at f) a.command) }

    copy_judged : Judged limits copy (given again)
    copy_judged = accepted copy_named (rw (← same_length text (code_of_text a) copy (code_of_text again) copy_same.code) few)

-- a copy that fits is the tidy text
module _ (limits : Limits) (text : List ℕ) (room : ℕ) (a : Accepted) (fits : longer limits text room ≡ false) where
  is_copy : bytes limits text room (given a) ≡ tidy_of limits.sizes text
  unfolding bytes
  is_copy = rw fits

  copy_short : length (tidy_of limits.sizes text) ≤ limits.text
  unfolding longer
  copy_short = ltb-false limits.text (length (tidy_of limits.sizes text)) (second (ltb room (length (tidy_of limits.sizes text))) _ fits)

  module _ (j : Judged limits text (given a)) where
    -- the copy is accepted, and has the same program
    pub copy_accepted : (c : Accepted) × Judged limits (bytes limits text room (given a)) (given c) × SameProgram text a (bytes limits text room (given a)) c
    copy_accepted = rw is_copy (by j)
      where
        by : Judged limits text (given a) → (c : Accepted) × Judged limits (tidy_of limits.sizes text) (given c) × SameProgram text a (tidy_of limits.sizes text) c
        by (accepted n h) =
            let p = placed_so limits.sizes text n.parsed.from n.parsed.lexed.are in
            (again limits text n copy_short h p.0 p.1, copy_judged limits text n copy_short h p.0 p.1, copy_same limits text n copy_short h p.0 p.1)

    tidy_twice_is : tidy_of limits.sizes (tidy_of limits.sizes text) ≡ tidy_of limits.sizes text
    tidy_twice_is =
        let l = lexemes_of j in
        let most = limits.sizes in
        rw (tidy_is most text l.0 l.1) (tidy_is most (tidy_text l.0) (tidied l.0) (tidy_read most text l.0 l.1) ∙ tidy_twice l.0)

    -- tidying a tidy text changes nothing
    pub tidy_again : (c : Accepted) → bytes limits (bytes limits text room (given a)) room (given c) ≡ bytes limits text room (given a)
    unfolding bytes longer
    tidy_again c = rw (is_copy, bytes, longer, tidy_twice_is) (rw fits)

-- two copies that fit are equal exactly when the lexemes are, in kind and meaning
pub copies_equal : (limits : Limits) (text text' : List ℕ) (room room' : ℕ) (a b : Accepted) → longer limits text room ≡ false → longer limits text' room' ≡ false →
    (ls ms : List Placed) → lexemes limits.sizes text ≡ given ls → lexemes limits.sizes text' ≡ given ms → (bytes limits text room (given a) ≡ bytes limits text' room' (given b)) ↔ Alike ls ms
copies_equal limits text text' room room' a b fits fits' ls ms l m = rw (is_copy limits text room a fits ∙ tidy_is limits.sizes text ls l, is_copy limits text' room' b fits' ∙ tidy_is limits.sizes text' ms m) (equal_exactly limits.sizes text text' ls ms l m)
