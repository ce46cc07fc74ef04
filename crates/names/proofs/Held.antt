-- How the code holds a scope, for whoever calls it: a use, a declaration, and a scope's beginning and end do to the list what names do to a scope. Assumes nothing.
use mathlib.Core.Path.{◌≡◌, refl, sym, ap, ◌∙◌}
use mathlib.Core.List.{List, [], ◌∷◌}
use mathlib.Core.Bool.{Bool, true, false, cond}
use Prim.Native.Nat.{ℕ, zero, suc, ◌+◌, ◌*◌, ◌≤◌, ◌<◌}
use native.Mathlib.Nat.{add-zero, le_refl, eq-or-lt_of_le}
use mathlib.Core.Logic.{⊎_elim}
use native.Mathlib.Omega.{arith}
use lib.Dec.{ltb}
use lib.ListN.{length, get_or, set, length-set}
use lib.Seq.{sets, length-sets, get_or-set_same, get_or-set_other}
use borrow.Author.Tests.{lt-ltb, le-ltb, ltb-true, ltb-false}
use Rattle.base.specs.declared.Refusal.TheVariants.{Undeclared, TooManyDeclared}
use Rattle.base.specs.Answers.{Answer, given, refused}
use Rattle.base.specs.Bytes.{same}
use Rattle.base.specs.inner.Parts.{part}
use Rattle.lexeme.specs.Lexemes.{Name}
use Rattle.names.specs.Names as N
use Rattle.names.specs.Names.{Declaration, Known, nothing_declared, look_up, used, one_more, declared_here, opened, closed}
use Rattle.names.specs.inner.Held.{counts, no_counts, with_counts, one_up, room, held, visible_in, scope_in, latest, declared_scope, entered, declared_in, opened_scope, opened_in, closed_scope, closed_in, Sound, Kept}
use Rattle.names.specs.declared.Scope.{Scope}
use Rattle.std.specs.Prelude.{Option, Some, None}
use Rattle.names.proofs.Found.{visible_suc}

-- the scope that a list holds, whose counts are c
abbrev shown : List ℕ → List ℕ → Scope → N.Scope
shown text names c = record { visible = visible_in text names c.visible; declared = c.declared; next_cell = c.next_cell; cells = c.cells; blocks = c.blocks }

-- ---- the beginning of a text

module _ (names : List ℕ) (none : counts names ≡ no_counts) where
  -- so each of them is 0
  pub count_none : (f : Scope → ℕ) → f (counts names) ≡ f no_counts
  count_none f = ap f none

  pub nothing_sound : 5 ≤ length names → length names ≤ 1000000 → Sound names
  nothing_sound h s = record {
    head = h;
    size = s;
    visible = omega (arith, count_none (λ s. s.visible));
    next_cell = omega (arith, count_none (λ s. s.next_cell));
    cells = omega (arith, count_none (λ s. s.cells));
    declared = omega (arith, count_none (λ s. s.declared));
    blocks = omega (arith, count_none (λ s. s.blocks));
    low = λ k q. absurd (omega (arith, count_none (λ s. s.visible)));
  }

  pub nothing_scope : (text : List ℕ) → scope_in text names ≡ nothing_declared
  unfolding scope_in visible_in
  nothing_scope text = rw (count_none (λ s. s.visible), count_none (λ s. s.declared), count_none (λ s. s.next_cell), count_none (λ s. s.cells), count_none (λ s. s.blocks))

-- ---- a use

abbrev answer : Name → N.Scope → Option ℕ → Answer (Known ℕ)
answer x s (Some cell) = given (record { what = cell; scope = s })
answer x s None = refused Undeclared x.place

looked_up : (x : Name) (s : N.Scope) (ds : List Declaration) → look_up ds x s ≡ answer x s (latest ds x.spelled)
unfolding look_up latest
looked_up x s [] = refl
looked_up x s (d ∷ ds) = by (looked_up x s ds) (same d.spelled x.spelled)
  where
    by : look_up ds x s ≡ answer x s (latest ds x.spelled) → (b : Bool) → elim b as (λ _. Answer (Known ℕ)) [ true ↦ given (record { what = d.cell; scope = s }) | false ↦ look_up ds x s ] ≡ answer x s (elim b as (λ _. Option ℕ) [ true ↦ Some d.cell | false ↦ latest ds x.spelled ])
    by i true = refl
    by i false = i

module _ (text names : List ℕ) (x : Name) where
  pub used_at : (cell : ℕ) → latest (visible_in text names (counts names).visible) x.spelled ≡ Some cell → used x (scope_in text names) ≡ given (record { what = cell; scope = scope_in text names })
  unfolding used scope_in
  used_at cell h = looked_up x (scope_in text names) (visible_in text names (counts names).visible) ∙ ap (answer x (scope_in text names)) h

  pub used_nowhere : latest (visible_in text names (counts names).visible) x.spelled ≡ None → used x (scope_in text names) ≡ refused Undeclared x.place
  unfolding used scope_in
  used_nowhere h = looked_up x (scope_in text names) (visible_in text names (counts names).visible) ∙ ap (answer x (scope_in text names)) h

-- where the cells of visible declarations are below n, so is the one that is found
module _ (text names : List ℕ) (n : ℕ) (word : List ℕ) where
  found_below : (k : ℕ) → ((i : ℕ) → i < k → get_or names (5 + i * 4 + 2) 0 < n) → (cell : ℕ) → latest (visible_in text names k) word ≡ Some cell → cell < n
  unfolding visible_in held latest
  found_below zero low cell e = cc
  found_below (suc k) low cell e = by (found_below k (λ i h. low i (omega arith)) cell) (ltb k (room names)) e
    where
      first : (latest (visible_in text names k) word ≡ Some cell → cell < n) → (b : Bool) → elim b as (λ _. Option ℕ) [ true ↦ Some (held text names k).cell | false ↦ latest (visible_in text names k) word ] ≡ Some cell → cell < n
      first rest true e = let h : (held text names k).cell ≡ cell = cc in omega (arith, low k (le_refl (suc k)))
      first rest false e = rest e

      by : (latest (visible_in text names k) word ≡ Some cell → cell < n) → (b : Bool) → latest (cond b (held text names k ∷ visible_in text names k) (visible_in text names k)) word ≡ Some cell → cell < n
      by rest true e = first rest (same (held text names k).spelled word) e
      by rest false e = rest e

pub found_low : (text names : List ℕ) (word : List ℕ) (cell : ℕ) → Sound names → latest (visible_in text names (counts names).visible) word ≡ Some cell → cell < (counts names).declared
found_low text names word cell s e = found_below text names (counts names).declared word (counts names).visible s.low cell e

-- ---- what stays so

pub kept_all : (names : List ℕ) → Kept names names
kept_all names = record { long = refl; entries = λ i f h. refl; declared = le_refl (counts names).declared; visible = le_refl (counts names).visible; blocks = refl }

pub kept_then : {a b c : List ℕ} → Kept a b → Kept b c → Kept a c
kept_then f g = record {
  long = g.long ∙ f.long;
  entries = λ i h q. g.entries i h (omega (arith, f.visible)) ∙ f.entries i h q;
  declared = omega (arith, f.declared, g.declared);
  visible = omega (arith, f.visible, g.visible);
  blocks = g.blocks ∙ f.blocks;
}

module _ (text names names' : List ℕ) (long : length names' ≡ length names) where
  same_visible : (k : ℕ) → ((i : ℕ) → 5 ≤ i → i < 5 + k * 4 → get_or names' i 0 ≡ get_or names i 0) → visible_in text names' k ≡ visible_in text names k
  unfolding visible_in held
  same_visible zero h = refl
  same_visible (suc k) h =
      let at = 5 + k * 4 in
      rw (long, h at (omega arith) (omega arith), h (at + 1) (omega arith) (omega arith), h (at + 2) (omega arith) (omega arith), h (at + 3) (omega arith) (omega arith), same_visible k (λ i f q. h i f (omega arith)))

-- ---- runs of stores: what stands before or after them stays, and each can be read again

before_sets : (vs l : List ℕ) (i j : ℕ) → j < i → get_or (sets l i vs) j 0 ≡ get_or l j 0
before_sets [] l i j h = refl
before_sets (v ∷ vs) l i j h = before_sets vs (set l i v) (suc i) j (omega arith) ∙ get_or-set_other l i j v 0 (omega arith)

after_sets : (vs l : List ℕ) (i j : ℕ) → i + length vs ≤ j → get_or (sets l i vs) j 0 ≡ get_or l j 0
after_sets [] l i j h = refl
after_sets (v ∷ vs) l i j h = after_sets vs (set l i v) (suc i) j (omega arith) ∙ get_or-set_other l i j v 0 (omega arith)

in_sets : (vs l : List ℕ) (i j : ℕ) → i + length vs ≤ length l → j < length vs → get_or (sets l i vs) (i + j) 0 ≡ get_or vs j 0
in_sets [] l i j h k = absurd (omega arith)
in_sets (v ∷ vs) l i zero h k = rw add-zero (before_sets vs (set l i v) (suc i) i (omega arith) ∙ get_or-set_same l i v 0 (omega arith))
in_sets (v ∷ vs) l i (suc j) h k = let e : i + suc j ≡ suc i + j = omega arith in rw e (in_sets vs (set l i v) (suc i) j (simp length-set (omega arith)) (omega arith))

-- ---- other counts

module _ (names : List ℕ) (s : Scope) where
  abbrev numbers : List ℕ
  numbers = s.visible ∷ s.declared ∷ s.next_cell ∷ s.cells ∷ s.blocks ∷ []

  pub with_long : length (with_counts names s) ≡ length names
  unfolding with_counts
  with_long = length-sets names 0 numbers

  with_entries : (i : ℕ) → 5 ≤ i → get_or (with_counts names s) i 0 ≡ get_or names i 0
  unfolding with_counts
  with_entries i h = after_sets numbers names 0 i h

  pub with_is : 5 ≤ length names → counts (with_counts names s) ≡ s
  unfolding with_counts
  with_is h = rw (at 0 (omega arith), at 1 (omega arith), at 2 (omega arith), at 3 (omega arith), at 4 (omega arith)) refl
    where
      at : (j : ℕ) → j < 5 → get_or (sets names 0 numbers) (0 + j) 0 ≡ get_or numbers j 0
      at j q = in_sets numbers names 0 j h q

  with_scope : 5 ≤ length names → (text : List ℕ) → scope_in text (with_counts names s) ≡ shown text names s
  unfolding scope_in
  with_scope h text = ap (shown text (with_counts names s)) (with_is h) ∙ rw (same_visible text names (with_counts names s) with_long s.visible (λ i f q. with_entries i f)) refl

-- ---- a declaration

counts_on : (n : ℕ) → n ≤ 1000000 → one_up n ≡ suc n
unfolding one_up
counts_on n h = omega arith

module _ (names : List ℕ) (p e : ℕ) (sound : Sound names) where
  abbrev s : Scope
  s = counts names

  -- where there are fewer declarations than the list has room for
  module _ (few : s.declared < room names) where
    abbrev entry : List ℕ
    entry = p ∷ e ∷ s.next_cell ∷ s.blocks ∷ []

    abbrev written : List ℕ
    written = sets names (5 + s.visible * 4) entry

    abbrev after : List ℕ
    after = with_counts written (declared_scope s)

    after_is : declared_in names p e ≡ after
    unfolding declared_in entered
    after_is = rw (lt-ltb s.declared (room names) few, lt-ltb s.visible (room names) (omega (arith, sound.visible)))

    written_long : length written ≡ length names
    written_long = length-sets names (5 + s.visible * 4) entry

    after_counts : counts after ≡ record { visible = suc s.visible; declared = suc s.declared; next_cell = suc s.next_cell; cells = suc s.cells; blocks = s.blocks }
    unfolding declared_scope
    after_counts = with_is written (declared_scope s) (omega (arith, written_long, sound.head))
        ∙ rw (counts_on s.visible (omega (arith, sound)), counts_on s.declared (omega (arith, sound)), counts_on s.next_cell (omega (arith, sound)), counts_on s.cells (omega (arith, sound))) refl

    after_entries : (i : ℕ) → 5 ≤ i → i < 5 + s.visible * 4 → get_or after i 0 ≡ get_or names i 0
    after_entries i f h = with_entries written (declared_scope s) i f ∙ before_sets entry names (5 + s.visible * 4) i h

    after_entry : (j : ℕ) → j < 4 → get_or after (5 + s.visible * 4 + j) 0 ≡ get_or entry j 0
    after_entry j h = with_entries written (declared_scope s) (5 + s.visible * 4 + j) (omega arith) ∙ in_sets entry names (5 + s.visible * 4) j (omega (arith, sound.visible)) h

    after_long : length after ≡ length names
    after_long = with_long written (declared_scope s) ∙ written_long

    after_kept : Kept names after
    after_kept = record {
      long = after_long;
      entries = after_entries;
      declared = omega (arith, ap (λ (c : Scope). c.declared) after_counts);
      visible = omega (arith, ap (λ (c : Scope). c.visible) after_counts);
      blocks = ap (λ (c : Scope). c.blocks) after_counts;
    }

    after_sound : Sound after
    after_sound =
        let v = ap (λ (c : Scope). c.visible) after_counts in
        let d = ap (λ (c : Scope). c.declared) after_counts in
        record {
          head = omega (arith, after_long, sound.head);
          size = omega (arith, after_long, sound.size);
          visible = omega (arith, v, d, sound.visible);
          next_cell = omega (arith, ap (λ (c : Scope). c.next_cell) after_counts, d, sound.next_cell);
          cells = omega (arith, ap (λ (c : Scope). c.cells) after_counts, d, sound.cells);
          declared = omega (arith, after_long, d);
          blocks = omega (arith, ap (λ (c : Scope). c.blocks) after_counts, sound.blocks);
          low = λ k h. omega (arith, d, below k (omega (arith, v)));
        }
      where
        below : (k : ℕ) → k ≤ s.visible → get_or after (5 + k * 4 + 2) 0 ≤ s.declared
        below k h = ⊎_elim (λ (e : k ≡ s.visible). rw e (omega (arith, after_entry 2 (omega arith), sound.next_cell))) (λ (q : k < s.visible). omega (arith, after_entries (5 + k * 4 + 2) (omega arith) (omega arith), sound.low k q)) (eq-or-lt_of_le h)

    module _ (text : List ℕ) where
      after_held : held text after s.visible ≡ record { spelled = part text p e; cell = s.next_cell; block = s.blocks }
      unfolding held
      after_held = rw (ap (λ (i : ℕ). get_or after i 0) (sym (add-zero (5 + s.visible * 4))) ∙ after_entry 0 (omega arith), after_entry 1 (omega arith), after_entry 2 (omega arith), after_entry 3 (omega arith))

      after_visible : visible_in text after (suc s.visible) ≡ record { spelled = part text p e; cell = s.next_cell; block = s.blocks } ∷ visible_in text names s.visible
      after_visible = visible_suc text after s.visible (omega (arith, after_long, sound.visible)) ∙ rw (after_held, same_visible text names after after_long s.visible after_entries)

      after_scope : (x : Name) → x.spelled ≡ part text p e → scope_in text after ≡ one_more x (scope_in text names)
      unfolding scope_in one_more
      after_scope x h = ap (shown text after) after_counts ∙ rw (after_visible, h) refl

      pub declared_given : (x : Name) → x.spelled ≡ part text p e → declared_here (room names) x (scope_in text names) ≡ given (record { what = s.next_cell; scope = scope_in text (declared_in names p e) })
      unfolding declared_here scope_in
      declared_given x h = rw (lt-ltb s.declared (room names) few) (ap (λ (k : N.Scope). given (record { what = s.next_cell; scope = k })) (sym (ap (scope_in text) after_is ∙ after_scope x h)))

  -- where there are as many
  too_many : room names ≤ s.declared → declared_in names p e ≡ names
  unfolding declared_in
  too_many h = rw (le-ltb s.declared (room names) h)

  either : (P : List ℕ → Type 0) → ((few : s.declared < room names) → P (after few)) → P names → P (declared_in names p e)
  either P f n = by (ltb s.declared (room names)) refl
    where
      by : (b : Bool) → ltb s.declared (room names) ≡ b → P (declared_in names p e)
      by true h = rw (after_is (ltb-true s.declared (room names) h)) (f (ltb-true s.declared (room names) h))
      by false h = rw (too_many (ltb-false s.declared (room names) h)) n

  pub declared_kept : Kept names (declared_in names p e)
  declared_kept = either (Kept names) after_kept (kept_all names)

  pub declared_sound : Sound (declared_in names p e)
  declared_sound = either Sound after_sound sound

  pub declared_too_many : room names ≤ s.declared → (text : List ℕ) (x : Name) → declared_here (room names) x (scope_in text names) ≡ refused TooManyDeclared x.place
  unfolding declared_here scope_in
  declared_too_many h text x = rw (le-ltb s.declared (room names) h)

-- ---- a scope's beginning and its end

module _ (names : List ℕ) (sound : Sound names) (few : (counts names).blocks < 1000000) where
  pub opened_counts : counts (opened_in names) ≡ record (counts names) { blocks = suc (counts names).blocks }
  unfolding opened_in opened_scope
  opened_counts = with_is names (opened_scope (counts names)) sound.head ∙ rw (counts_on (counts names).blocks (omega arith)) refl

  pub opened_long : length (opened_in names) ≡ length names
  unfolding opened_in
  opened_long = with_long names (opened_scope (counts names))

  opened_entries : (i : ℕ) → 5 ≤ i → get_or (opened_in names) i 0 ≡ get_or names i 0
  unfolding opened_in
  opened_entries i h = with_entries names (opened_scope (counts names)) i h

  pub opened_scope_in : (text : List ℕ) → scope_in text (opened_in names) ≡ opened (scope_in text names)
  unfolding opened_in opened_scope scope_in opened
  opened_scope_in text = with_scope names (opened_scope (counts names)) sound.head text ∙ rw (counts_on (counts names).blocks (omega arith)) refl

  pub opened_sound : Sound (opened_in names)
  opened_sound =
      let v = ap (λ (c : Scope). c.visible) opened_counts in
      let d = ap (λ (c : Scope). c.declared) opened_counts in
      record {
        head = omega (arith, opened_long, sound.head);
        size = omega (arith, opened_long, sound.size);
        visible = omega (arith, v, d, sound.visible);
        next_cell = omega (arith, ap (λ (c : Scope). c.next_cell) opened_counts, d, sound.next_cell);
        cells = omega (arith, ap (λ (c : Scope). c.cells) opened_counts, d, sound.cells);
        declared = omega (arith, opened_long, d, sound.declared);
        blocks = omega (arith, ap (λ (c : Scope). c.blocks) opened_counts);
        low = λ k h. omega (arith, d, opened_entries (5 + k * 4 + 2) (omega arith), sound.low k (omega (arith, v)));
      }

  -- closed again, after what leaves of the list what it must
  module _ (names' : List ℕ) (kept : Kept (opened_in names) names') (sound' : Sound names') where
    abbrev after_block : List ℕ
    after_block = closed_in names' (counts names)

    block_counts : counts after_block ≡ closed_scope (counts names) (counts names')
    unfolding closed_in
    block_counts = with_is names' (closed_scope (counts names) (counts names')) sound'.head

    block_long : length after_block ≡ length names
    unfolding closed_in
    block_long = with_long names' (closed_scope (counts names) (counts names')) ∙ kept.long ∙ opened_long

    block_entries : (i : ℕ) → 5 ≤ i → i < 5 + (counts names).visible * 4 → get_or after_block i 0 ≡ get_or names i 0
    unfolding closed_in
    block_entries i f h = with_entries names' (closed_scope (counts names) (counts names')) i f ∙ kept.entries i f (omega (arith, ap (λ (c : Scope). c.visible) opened_counts)) ∙ opened_entries i f

    more : (counts names).declared ≤ (counts names').declared
    more = omega (arith, ap (λ (c : Scope). c.declared) opened_counts, kept.declared)

    pub closed_kept : Kept names after_block
    unfolding closed_scope
    closed_kept = record {
      long = block_long;
      entries = block_entries;
      declared = omega (arith, ap (λ (c : Scope). c.declared) block_counts, more);
      visible = omega (arith, ap (λ (c : Scope). c.visible) block_counts);
      blocks = ap (λ (c : Scope). c.blocks) block_counts;
    }

    pub closed_sound : Sound after_block
    unfolding closed_scope
    closed_sound =
        let v = ap (λ (c : Scope). c.visible) block_counts in
        let d = ap (λ (c : Scope). c.declared) block_counts in
        record {
          head = omega (arith, block_long, sound.head);
          size = omega (arith, block_long, sound.size);
          visible = omega (arith, v, d, more, sound.visible);
          next_cell = omega (arith, ap (λ (c : Scope). c.next_cell) block_counts, d, sound'.next_cell);
          cells = omega (arith, ap (λ (c : Scope). c.cells) block_counts, d, sound'.cells);
          declared = omega (arith, block_long, kept.long, opened_long, d, sound'.declared);
          blocks = omega (arith, ap (λ (c : Scope). c.blocks) block_counts, sound.blocks);
          low = λ k h. omega (arith, d, more, block_entries (5 + k * 4 + 2) (omega arith) (omega (arith, v)), sound.low k (omega (arith, v)));
        }

    pub closed_scope_in : (text : List ℕ) → scope_in text after_block ≡ closed (scope_in text names) (scope_in text names')
    unfolding scope_in closed
    closed_scope_in text = ap (shown text after_block) block_counts ∙ unfold closed_scope in rw (same_visible text names after_block block_long (counts names).visible block_entries) refl
