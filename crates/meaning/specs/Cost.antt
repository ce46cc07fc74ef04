-- Document 01, "What a sentence costs": that a Program costs so many units. One that never ends has no cost, and so costs more than any budget.
use Rattle.std.specs.Prelude.{◌≡◌, ◌≢◌, List, ℕ, ◌+◌, ◌<◌, ℤ}
use Rattle.sentence.specs.Sentences.{Sen, command}
use Rattle.endings.specs.Endings.{budget_spent}
use Rattle.meaning.specs.Meaning.{meaning}

module _ (readings : List ℤ) (room cells : ℕ) (m : Sen ℕ command) where
  -- with some budget it ends by itself, and has then used n units
  pub record Costs (n : ℕ) : Type 0 where
    pub budget : ℕ
    pub by_itself : (meaning readings room cells m budget).ending ≢ budget_spent
    pub used : budget ≡ n + (meaning readings room cells m budget).left

  abbrev pub CostsMoreThan : ℕ → Type 0
  CostsMoreThan budget = (n : ℕ) → Costs n → budget < n
