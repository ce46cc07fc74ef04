-- Laws of adding to a page. Assumes nothing.
use mathlib.Core.Path.{◌≡◌, refl, sym, ap, ◌∙◌}
use mathlib.Core.Bool.{Bool, true, false}
use mathlib.Core.List.{List, [], ◌∷◌, ◌++◌, append_assoc}
use mathlib.Core.Logic.{◌⊎◌, inl, inr, ⊎_elim}
use Prim.Native.Nat.{ℕ, suc, ◌+◌, ◌-◌, ◌≤◌, min}
use native.Mathlib.Omega.{arith}
use borrow.Author.Tests.{leb-true, leb-false}
use lib.Dec.{leb}
use lib.ListN.{length, set, take, drop, length-append, drop_of_length-le}
use lib.Seq.{sets, length-sets, set_out, sets-eq, length-take-le, drop-drop}
use Rattle.std.proofs.lemmas.List.{take-append-drop}
use borrow.Rule.Slice.PartMut.{put_mid}
use Rattle.lines.specs.Added.{Added}

-- stores past the page's end do nothing
sets_out : (bs page : List ℕ) (at : ℕ) → length page ≤ at → sets page at bs ≡ page
sets_out [] page at h = refl
sets_out (b ∷ bs) page at h = rw (set_out page at b h) (sets_out bs page (suc at) (omega arith))

sets_append : (s t page : List ℕ) (at : ℕ) → sets page at (s ++ t) ≡ sets (sets page at s) (at + length s) t
sets_append [] t page at = let e : at + 0 ≡ at = omega arith in rw e
sets_append (b ∷ s) t page at =
    let e : at + suc (length s) ≡ suc at + length s = omega arith in
    rw e (sets_append s t (set page at b) (suc at))

-- a place that is held to the page's end is as good as one past it
held : (bs page : List ℕ) (at : ℕ) → sets page (min (length page) at) bs ≡ sets page at bs
held bs page at = by_test (leb at (length page)) refl
  where
    by_test : (t : Bool) → leb at (length page) ≡ t → sets page (min (length page) at) bs ≡ sets page at bs
    by_test true h = let e : min (length page) at ≡ at = omega (arith, leb-true at (length page) h) in rw e
    by_test false h =
        let e : min (length page) at ≡ length page = omega (arith, leb-false at (length page) h) in
        rw e (sets_out bs page (length page) (omega arith) ∙ sym (sets_out bs page at (omega (arith, leb-false at (length page) h))))

-- bytes past the page's end are left out
cut : (bs page : List ℕ) (at n : ℕ) → n ≤ length bs → length page ≤ at + n ⊎ length bs ≤ n → sets page at bs ≡ sets page at (take n bs)
cut bs page at n h ends =
    let parts : bs ≡ take n bs ++ drop n bs = sym (take-append-drop n bs) in
    let all = ap (λ (l : List ℕ). sets page at l) parts ∙ sets_append (take n bs) (drop n bs) page at in
    let fits : length (take n bs) ≡ n = length-take-le n bs h in
    let same : length (sets page at (take n bs)) ≡ length page = length-sets page at (take n bs) in
    all ∙ ⊎_elim (λ (e : length page ≤ at + n). sets_out (drop n bs) _ _ (omega (arith, fits, same))) (λ (e : length bs ≤ n). rw (drop_of_length-le bs e)) ends

-- a copy of as many bytes as there is room for
pub copied : (bs page room : List ℕ) (at start n k : ℕ) → start ≡ min at (length page) → n ≡ min (length bs) (length page - start) → k ≡ n → room ≡ take n bs → Added bs page at (put_mid start k page room) (start + n)
copied bs page room at start n k s e same r =
    let there : start ≡ min (length page) at = omega (arith, s) in
    let fits : length (take n bs) ≡ n = length-take-le n bs (omega (arith, e)) in
    let here : start + length (take n bs) ≤ length page = omega (arith, fits, s, e) in
    let ends : (length page ≤ start + n) ⊎ (length bs ≤ n) = by_test bs page start n s e (leb (length bs) n) refl in
    let all : sets page at bs ≡ take start page ++ take n bs ++ drop (start + n) page =
    sym (held bs page at) ∙ (rw (← there) (cut bs page start n (omega (arith, e)) ends ∙ (sets-eq (take n bs) page start here ∙ rw fits))) in
    record {
      bytes = rw (same, r) (rw (drop-drop n start page, ← append_assoc (take start page) (take n bs) (drop (start + n) page)) (sym all));
      next = omega (arith, s, e);
    }
  where
    by_test : (bs page : List ℕ) (start n : ℕ) → start ≡ min at (length page) → n ≡ min (length bs) (length page - start) → (t : Bool) → leb (length bs) n ≡ t → (length page ≤ start + n) ⊎ (length bs ≤ n)
    by_test bs page start n s e true h = inr (leb-true (length bs) n h)
    by_test bs page start n s e false h = inl (omega (arith, s, e, leb-false (length bs) n h))

-- bytes, and then others after them
pub adds_then : {s t p p' p'' : List ℕ} {at m n : ℕ} → Added s p at p' m → Added t p' m p'' n → Added (s ++ t) p at p'' n
adds_then {s} {t} {p} {p'} {p''} {at} {m} {n} a b =
    let same : length p ≡ length p' = sym (ap length a.bytes ∙ length-sets p at s) in
    let there : sets p' m t ≡ sets p' (at + length s) t = rw (a.next, same) (held t p' (at + length s)) in
    record {
      bytes = b.bytes ∙ there ∙ rw a.bytes (sym (sets_append s t p at));
      next = rw (length-append s t) (omega (arith, a.next, b.next, same));
    }

-- nothing is added
pub adds_none : (page : List ℕ) (at : ℕ) → at ≤ length page → Added [] page at page at
adds_none page at h = record { bytes = refl; next = omega arith }

-- the place after what was added is on the page
pub adds_within : {bs page page' : List ℕ} {at end : ℕ} → Added bs page at page' end → end ≤ length page'
adds_within {bs} {page} {page'} {at} a = omega (arith, a.next, ap length a.bytes ∙ length-sets page at bs)

-- there is no room
pub added_past : (bs page : List ℕ) (at : ℕ) → length page ≤ at → Added bs page at page (length page)
added_past bs page at h = record { bytes = sym (sets_out bs page at h); next = omega arith }

-- ---- one after the other: with the rest, all is added

pub record Leads (all first : List ℕ) (at : ℕ) (rest page : List ℕ) (next : ℕ) : Type 0 where
  pub adds : (last : List ℕ) (end : ℕ) → Added rest page next last end → Added all first at last end

pub leads_start : (all page : List ℕ) (at next : ℕ) → next ≡ min at (length page) → Leads all page at all page next
leads_start all page at next e = record { adds = λ last end a. adds_then {s = []} (record { bytes = refl; next = omega arith }) a }

pub leads_on : {all first rest more page page' : List ℕ} {at next next' : ℕ} (some : List ℕ) → rest ≡ some ++ more → Added some page next page' next' → Leads all first at rest page next → Leads all first at more page' next'
leads_on some e a leads = record { adds = λ last end b. leads.adds last end (rw e (adds_then a b)) }

pub leads_out : {all first page : List ℕ} {at next : ℕ} → next ≤ length page → Leads all first at [] page next → Added all first at page next
leads_out {page = page} {next = next} within leads = leads.adds page next (adds_none page next within)
