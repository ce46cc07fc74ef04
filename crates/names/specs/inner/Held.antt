-- How the code holds a scope: a list of numbers, five counts and then four for each declaration.
use Rattle.std.specs.Prelude.{◌≡◌, List, [], ◌∷◌, true, false, cond, ℕ, zero, suc, ◌+◌, ◌*◌, ◌-◌, ◌/◌, ◌≤◌, ◌<◌, min, ltb, length, get_or, Option, Some, None}
use Rattle.std.proofs.lemmas.List.Edits.{sets}
use Rattle.base.specs.Bytes.{same}
use Rattle.base.specs.inner.Parts.{part}
use Rattle.names.specs.Names as N
use Rattle.names.specs.Names.{Declaration}
use Rattle.names.specs.declared.Scope.{Scope}

-- ---- the counts

abbrev pub counts : List ℕ → Scope
counts names = record { visible = get_or names 0 0; declared = get_or names 1 0; next_cell = get_or names 2 0; cells = get_or names 3 0; blocks = get_or names 4 0 }

-- before a text: nothing is declared, and no block is open
abbrev pub no_counts : Scope
no_counts = record { visible = 0; declared = 0; next_cell = 0; cells = 0; blocks = 0 }

unfoldable pub with_counts : List ℕ → Scope → List ℕ
with_counts names s = sets names 0 (s.visible ∷ s.declared ∷ s.next_cell ∷ s.cells ∷ s.blocks ∷ [])

-- one more, as far as the code's numbers go
unfoldable pub one_up : ℕ → ℕ
one_up n = min (suc n) 18446744073709551615

-- ---- the declarations

-- how many the list has room for
abbrev pub room : List ℕ → ℕ
room names = (length names - 5) / 4

-- the k-th: spelled from one place of the text up to another, its cell, its block
unfoldable pub held : List ℕ → List ℕ → ℕ → Declaration
held text names k = record { spelled = part text (get_or names (5 + k * 4) 0) (get_or names (5 + k * 4 + 1) 0); cell = get_or names (5 + k * 4 + 2) 0; block = get_or names (5 + k * 4 + 3) 0 }

-- the first k, the latest first, as far as the list has room
unfoldable pub visible_in : List ℕ → List ℕ → ℕ → List Declaration
visible_in text names zero = []
visible_in text names (suc k) = cond (ltb k (room names)) (held text names k ∷ visible_in text names k) (visible_in text names k)

-- the scope that the list holds
unfoldable pub scope_in : List ℕ → List ℕ → N.Scope
scope_in text names = record { visible = visible_in text names (counts names).visible; declared = (counts names).declared; next_cell = (counts names).next_cell; cells = (counts names).cells; blocks = (counts names).blocks }

-- ---- a use

-- the cell of the latest declaration that is spelled so
unfoldable pub latest : List Declaration → List ℕ → Option ℕ
latest [] word = None
latest (d ∷ ds) word = elim (same d.spelled word) [ true ↦ Some d.cell | false ↦ latest ds word ]

-- ---- a declaration of the name from p up to e

unfoldable pub declared_scope : Scope → Scope
declared_scope s = record { visible = one_up s.visible; declared = one_up s.declared; next_cell = one_up s.next_cell; cells = one_up s.cells; blocks = s.blocks }

-- its four numbers, if there is room for them
unfoldable pub entered : List ℕ → ℕ → ℕ → List ℕ
entered names p e = cond (ltb (counts names).visible (room names)) (sets names (5 + (counts names).visible * 4) (p ∷ e ∷ (counts names).next_cell ∷ (counts names).blocks ∷ [])) names

-- one more, if there are not as many as the list may have
unfoldable pub declared_in : List ℕ → ℕ → ℕ → List ℕ
declared_in names p e = cond (ltb (counts names).declared (room names)) (with_counts (entered names p e) (declared_scope (counts names))) names

-- ---- a scope's beginning and its end

unfoldable pub opened_scope : Scope → Scope
opened_scope s = record s { blocks = one_up s.blocks }

unfoldable pub opened_in : List ℕ → List ℕ
opened_in names = with_counts names (opened_scope (counts names))

unfoldable pub closed_scope : Scope → Scope → Scope
closed_scope before s = record s { visible = before.visible; blocks = before.blocks }

unfoldable pub closed_in : List ℕ → Scope → List ℕ
closed_in names before = with_counts names (closed_scope before (counts names))

-- ---- what stays so

-- the list holds a text's scope, and has room for it; each visible declaration has a cell below the count of declarations
pub record Sound (names : List ℕ) : Type 0 where
  pub head : 5 ≤ length names
  pub size : length names ≤ 1000000
  pub visible : (counts names).visible ≤ (counts names).declared
  pub next_cell : (counts names).next_cell ≤ (counts names).declared
  pub cells : (counts names).cells ≤ (counts names).declared
  pub declared : (counts names).declared ≤ room names
  pub blocks : (counts names).blocks ≤ 1000000
  pub low : (k : ℕ) → k < (counts names).visible → get_or names (5 + k * 4 + 2) 0 < (counts names).declared

-- the list is as long as before, its visible declarations are as before, and in the same block there are only more
pub record Kept (names names' : List ℕ) : Type 0 where
  pub long : length names' ≡ length names
  pub entries : (i : ℕ) → 5 ≤ i → i < 5 + (counts names).visible * 4 → get_or names' i 0 ≡ get_or names i 0
  pub declared : (counts names).declared ≤ (counts names').declared
  pub visible : (counts names).visible ≤ (counts names').visible
  pub blocks : (counts names').blocks ≡ (counts names).blocks
