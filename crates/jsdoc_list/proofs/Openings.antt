-- A body has no more ticks than `{` and `@import` together: each of these gives at most one.
use Rattle.std.specs.Prelude.{Some, None}
use Rattle.laws.proofs.Prelude.{◌≡◌, refl, Bool, true, false, cond, List, [], ◌∷◌, ◌++◌, Option, ℕ, zero, suc, ◌+◌, ◌-◌, ◌≤◌, ◌<◌, arith, length, set, take}
use Rattle.laws.proofs.Prelude.{drop, replicate, drop-cons}
use Rattle.laws.specs.Ascii.{ascii}
use Rattle.text.{specs.Bytes.begins, proofs.Words.begins_complete}
use Rattle.analysis.specs.Mode.{mode_number}
use Rattle.jsdoc.{specs.Parsed.value, proofs.Agrees.brace_agrees, proofs.Agrees.declaration_agrees}
use Rattle.jsdoc.specs.Reader.{Hit, hit, parse_jsdoc_dynamic_import, parse_jsdoc_import_decl}
use Rattle.jsdoc.specs.Listing.{tick_at, listing_by, listing}
use Rattle.sheet.specs.{declared.comments.Comment.Comment, Lookups.body_span, Lookups.body}
use Rattle.jsdoc_list.specs.Imports.{is_star_opened, ticked_by, count_of}
use Rattle.jsdoc_list.specs.ByComment.{occurrences, openings}

count_append : (l m : List ℕ) → count_of (l ++ m) ≡ count_of l + count_of m
unfolding count_of
count_append [] m = omega arith
count_append (zero ∷ l) m = count_append l m
count_append (suc n ∷ l) m = omega (arith, count_append l m)

count_take : (n : ℕ) (l : List ℕ) → count_of (take n l) ≤ count_of l
unfolding count_of
count_take zero l = omega arith
count_take (suc n) [] = omega arith
count_take (suc n) (zero ∷ l) = count_take n l
count_take (suc n) (suc m ∷ l) = omega (arith, count_take n l)

count_drop : (n : ℕ) (l : List ℕ) → count_of (drop n l) ≤ count_of l
unfolding count_of
count_drop zero l = omega arith
count_drop (suc n) [] = omega arith
count_drop (suc n) (zero ∷ l) = count_drop n l
count_drop (suc n) (suc m ∷ l) = omega (arith, count_drop n l)

count_zeros : (n : ℕ) → count_of (replicate n 0) ≡ 0
unfolding count_of
count_zeros zero = refl
count_zeros (suc n) = count_zeros n

count_set : (l : List ℕ) (i v : ℕ) → count_of (set l i v) ≤ suc (count_of l)
unfolding count_of
count_set [] i v = omega arith
count_set (zero ∷ l) zero zero = omega arith
count_set (zero ∷ l) zero (suc v) = omega arith
count_set (suc n ∷ l) zero zero = omega arith
count_set (suc n ∷ l) zero (suc v) = omega arith
count_set (zero ∷ l) (suc i) v = count_set l i v
count_set (suc n ∷ l) (suc i) v = omega (arith, count_set l i v)

-- a reading that begins with a word adds at most one tick where the word begins, and none elsewhere
tick_few : (word : List ℕ) (i : ℕ) (s : List ℕ) (o : Option Hit) → ((h : Hit) → o ≡ Some h → begins word s ≡ true) → (l : List ℕ)
    → count_of (tick_at i s o l) ≤ cond (begins word s) 1 0 + count_of l
tick_few word i s None e l = omega arith
tick_few word i s (Some (hit q r m)) e l = rw (e (hit q r m) refl) (omega (arith, count_set l (i + (length s - length q)) (mode_number m + 1)))

brace_begins : (s : List ℕ) (h : Hit) → value (parse_jsdoc_dynamic_import s) ≡ Some h → begins (ascii "{") s ≡ true
brace_begins s (hit q e m) is = let r = (brace_agrees s q e m).1 is in rw r.brace (begins_complete (ascii "{") r.r1)

declaration_begins : (s : List ℕ) (h : Hit) → value (parse_jsdoc_import_decl s) ≡ Some h → begins (ascii "@import") s ≡ true
declaration_begins s (hit q e m) is = let r = (declaration_agrees s q e m).1 is in rw r.word (begins_complete (ascii "@import") r.r1)

module _ (b : List ℕ) where
  occurrences_next : (word : List ℕ) (n : ℕ) → n < length b →
      occurrences word (drop n b) ≡ cond (begins word (drop n b)) 1 0 + occurrences word (drop (suc n) b)
  unfolding occurrences
  occurrences_next word n h = rw (drop-cons b n 0 h)

  listing_few_by : (n : ℕ) → n ≤ length b → count_of (listing_by n b) + openings (drop n b) ≤ openings b
  listing_few_by zero h = omega (arith, count_zeros (length b))
  listing_few_by (suc n) h =
      let s = drop n b in
      let braces = tick_at n s (value (parse_jsdoc_dynamic_import s)) (listing_by n b) in
      omega (
        arith,
        listing_few_by n (omega arith),
        occurrences_next (ascii "{") n h,
        occurrences_next (ascii "@import") n h,
        tick_few (ascii "{") n s (value (parse_jsdoc_dynamic_import s)) (brace_begins s) (listing_by n b),
        tick_few (ascii "@import") n s (value (parse_jsdoc_import_decl s)) (declaration_begins s) braces,
      )

  listing_few : count_of (listing b) ≤ openings b
  unfolding listing occurrences
  listing_few = omega (arith, listing_few_by (length b) (omega arith))

-- the ticks of one comment
pub ticks_few : (source : List ℕ) (c : Comment) → count_of (ticked_by source c (replicate (length source) 0)) ≤ openings (body source c)
unfolding ticked_by
ticks_few source c = go (is_star_opened source c)
  where
    zeros : List ℕ
    zeros = replicate (length source) 0

    go : (b : Bool) →
        count_of (cond b (take (body_span c).start zeros ++ (listing (body source c) ++ drop (body_span c).end zeros)) zeros) ≤ openings (body source c)
    go true =
        omega (
          arith,
          count_append (take (body_span c).start zeros) (listing (body source c) ++ drop (body_span c).end zeros),
          count_append (listing (body source c)) (drop (body_span c).end zeros),
          count_take (body_span c).start zeros,
          count_drop (body_span c).end zeros,
          count_zeros (length source),
          listing_few (body source c),
        )
    go false = omega (arith, count_zeros (length source))
