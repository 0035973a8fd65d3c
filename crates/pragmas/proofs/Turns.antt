-- The turns of the loops over comments: what a rule answers of those that are left.
use Rattle.std.specs.Prelude.{Some, None}
use Rattle.laws.proofs.Prelude.{◌≡◌, refl, ap, ◌∙◌, List, [], ◌∷◌, ◌++◌, append-nil, flat_map, Option, ℕ, cond, arith, length}
use Rattle.std.specs.Prelude.{option_map, is_some, map}
use Rattle.std.specs.List.{filter}
use Rattle.laws.specs.Last.{last_of as last}
use mathlib.Core.List.{reverse, reverse-cons, reverse-append}
use Rattle.std.proofs.lemmas.List.{map-append}
use Rattle.sheet.specs.declared.comments.Comment.{Comment}
use Rattle.sheet.specs.code.Commented.{CommentIn, placed_in}
use Rattle.pragmas.specs.Readings.{or_else, first_of, last_of, listed, optional, all_of}
use Rattle.pragmas.specs.code.Views.{encode_any}
use Rattle.report.proofs.Buffers.{more_append, more_nil}

-- what comes last is first from the end
pub turn_back : {A : Type 0} (rest all : List A) (a : A) → all ≡ rest ++ (a ∷ []) → reverse all ≡ a ∷ reverse rest
turn_back rest all a e = rw e (reverse-append rest (a ∷ []))

reverse_map : {A B : Type 0} (f : A → B) (l : List A) → reverse (map f l) ≡ map f (reverse l)
reverse_map f [] = refl
reverse_map f (a ∷ l) = rw (reverse-cons a l, reverse-cons (f a) (map f l), map-append f (reverse l) (a ∷ []), reverse_map f l) refl

one_more : {A B : Type 0} (o : Option A) (b : B) (l : List B) (m : List A) → length l ≡ length m → length (cond (is_some o) (b ∷ l) l) ≡ length (listed o m)
one_more (Some a) b l m e = omega (arith, e)
one_more None b l m e = e

-- what is answered of comments with their source
module _ {A : Type 0} (source : List ℕ) (f : CommentIn → Option A) where
  pub first_placed : (cs : List Comment) → first_of f (map (placed_in source) cs) ≡ first_of (λ c. f (placed_in source c)) cs
  unfolding first_of
  first_placed [] = refl
  first_placed (c ∷ cs) = ap (or_else (f (placed_in source c))) (first_placed cs)

  pub last_placed : (cs : List Comment) → first_of f (reverse (map (placed_in source) cs)) ≡ last_of (λ c. f (placed_in source c)) cs
  unfolding last_of
  last_placed cs = rw (reverse_map (placed_in source) cs) (first_placed (reverse cs))

  pub all_placed : (cs : List Comment) → all_of f (map (placed_in source) cs) ≡ all_of (λ c. f (placed_in source c)) cs
  unfolding all_of
  all_placed [] = refl
  all_placed (c ∷ cs) = ap (listed (f (placed_in source c))) (all_placed cs)

  pub count_placed : (cs : List Comment) → length (filter (λ c. is_some (f c)) (map (placed_in source) cs)) ≡ length (all_of (λ c. f (placed_in source c)) cs)
  unfolding all_of
  count_placed [] = refl
  count_placed (c ∷ cs) = one_more (f (placed_in source c)) (placed_in source c) _ _ (count_placed cs)

-- the last of them
module _ (source : List ℕ) where
  pub last_is : (cs : List Comment) (rest : List CommentIn) (c : CommentIn) → map (placed_in source) cs ≡ rest ++ (c ∷ [])
      → option_map (placed_in source) (last cs) ≡ Some c
  last_is [] [] c e = cc
  last_is [] (d ∷ rest) c e = cc
  last_is (b ∷ []) [] c e = cc
  last_is (b ∷ []) (d ∷ []) c e = cc
  last_is (b ∷ []) (d ∷ d' ∷ rest) c e = cc
  last_is (b ∷ b' ∷ cs) [] c e = cc
  last_is (b ∷ b' ∷ cs) (d ∷ rest) c e = last_is (b' ∷ cs) rest c cc

  pub last_none : (cs : List Comment) → map (placed_in source) cs ≡ [] → option_map (placed_in source) (last cs) ≡ None
  last_none [] e = refl
  last_none (c ∷ cs) e = cc

-- the bytes of what is there, one more or none
pub listed_each : {A : Type 0} (e : A → List ℕ) (o : Option A) (l : List A) → flat_map e (listed o l) ≡ encode_any e o ++ flat_map e l
unfolding flat_map
listed_each e None l = refl
listed_each e (Some a) l = refl

pub optional_each : {A : Type 0} (e : A → List ℕ) (o : Option A) → flat_map e (optional o) ≡ encode_any e o
unfolding flat_map
optional_each e o = listed_each e o [] ∙ append-nil (encode_any e o)

pub each_end : {C A : Type 0} (e : A → List ℕ) (f : C → Option A) (all : List C) → all ≡ [] → flat_map e (all_of f all) ≡ []
unfolding all_of flat_map
each_end e f all is = rw is refl

-- of each comment what is listed of it, and the end
pub ruleset each_placed = (all_placed, listed_each, each_end, more_append, more_nil)
