-- Two records of numbers that agree in each are one, so that the contract of `of_the_paper` leaves one result. Assumes nothing.
use mathlib.Core.Path.{◌≡◌}
use Rattle.words.specs.declared.Numbers.{Numbers}

pub one_numbers : {n m : Numbers} → n.text ≡ m.text → n.word ≡ m.word → n.string ≡ m.string → n.literal ≡ m.literal → n.nesting ≡ m.nesting → n.declarations ≡ m.declarations → n.instructions ≡ m.instructions → n.budget ≡ m.budget → n.room ≡ m.room → n ≡ m
one_numbers {n} {m} a b c d e f g h i =
    let same : record { text = n.text; word = n.word; string = n.string; literal = n.literal; nesting = n.nesting; declarations = n.declarations; instructions = n.instructions; budget = n.budget; room = n.room } ≡ m = rw (a, b, c, d, e, f, g, h, i) in
    same
