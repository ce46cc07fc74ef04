-- The number that the walk gives a lexeme is the nestings it stands in, in every Program that begins so.
use mathlib.Core.Path.{◌≡◌, refl, sym, ap, ◌∙◌}
use mathlib.Core.List.{List, [], ◌∷◌, ◌++◌}
use Prim.Native.Nat.{ℕ, zero, suc}
use lib.ListN.{length, get_or}
use lib.Seq.{get_or_at}
use Rattle.lexeme.specs.Lexemes.{Name, Lexeme}
use Rattle.sentence.specs.Sentences.{Sen, command, program_nestings}
use Rattle.sentence.specs.Grammar.{Whole}
use Rattle.sentence.proofs.Reader.{State, want_DO, whole, verdict, step}
use Rattle.sentence.proofs.Walk.{nested_at, walk, went, after, complete, walk_append}

pub walked : (ls : List Lexeme) (m : Sen Name command) → Whole ls m → walk want_DO ls ≡ record { state = whole m; nested = program_nestings m ++ 0 ∷ [] }
unfolding Whole
walked ls m w = rw (← w) (complete m)

walk_length : (s : State) (ls : List Lexeme) → length (walk s ls).nested ≡ length ls
unfolding walk went
walk_length s [] = refl
walk_length s (l ∷ ls) = ap suc (walk_length (step s l) ls)

pub end_nested : (ns : List ℕ) (i : ℕ) → get_or (ns ++ 0 ∷ []) i 0 ≡ get_or ns i 0
end_nested [] zero = refl
end_nested [] (suc i) = refl
end_nested (n ∷ ns) zero = refl
end_nested (n ∷ ns) (suc i) = end_nested ns i

pub numbered : (before after : List Lexeme) (l : Lexeme) (m : Sen Name command) → Whole (before ++ l ∷ after) m → nested_at l (verdict (step (walk want_DO before).state l)) ≡ get_or (program_nestings m) (length before) 0
unfolding walk went Rattle.sentence.proofs.Walk.after
numbered before after l m w =
    sym (get_or_at (walk want_DO before).nested _ _ 0 (length before) (walk_length want_DO before))
    ∙ ap (λ v. get_or v.nested (length before) 0) (sym (walk_append want_DO before (l ∷ after)) ∙ walked (before ++ l ∷ after) m w)
    ∙ end_nested (program_nestings m) (length before)
