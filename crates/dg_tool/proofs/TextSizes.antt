-- How many bytes the lines of pieces have together.
use Rattle.std.proofs.Common.{◌≡◌, ℕ, ◌+◌, ◌<◌, ◌≤◌, Bool, true, false, cond, Result, Ok, Err, subst, List, [], ◌∷◌, ◌++◌, map, take, drop, get_or, length, length-append, append_assoc, refl, sym, ap, ◌∙◌, arith}
use Rattle.std.specs.Prelude.{nat_lt}
use Rattle.std.proofs.lemmas.Bool.Decides.{nat_tests}
use Rattle.std.proofs.lemmas.List.{append-nil, map-append, take-append-drop}
use Rattle.std.proofs.lemmas.Grind.{flat_map-append, take_at_read}
use Rattle.dg_deeds.specs.Printed.{text_of}
use Rattle.dg_tool.specs.declared.halt.Halt.{Halt}
use Rattle.dg_tool.specs.declared.halt.Halt.TheVariants as halt
use Rattle.dg_tool.specs.declared.halt.Limit.TheVariants as limit
use Rattle.dg_tool.specs.declared.piece.Piece.{Piece}
use Rattle.dg_tool.specs.Text.{max_text}
use Rattle.dg_tool.specs.Out.{is_large, unless_large}
use Rattle.dg_tool.specs.Seen.{fitting_pieces, line_in}

is_above : (n m : ℕ) → n < m → nat_lt n m ≡ true
is_above n m lt = grind (arith, nat_tests)

isnt_above : (n m : ℕ) → m ≤ n → nat_lt n m ≡ false
isnt_above n m le = grind (arith, nat_tests)

above-is : (n m : ℕ) → nat_lt n m ≡ true → n < m
above-is n m is = grind (arith, nat_tests)

-- the lines of pieces
abbrev pub lines_of : List Piece → List (List ℕ)
lines_of ps = map line_in ps

length-both : (ps qs : List Piece) → length (text_of (lines_of (ps ++ qs))) ≡ length (text_of (lines_of ps)) + length (text_of (lines_of qs))
length-both ps qs =
    ap (λ (ls : List (List ℕ)). length (text_of ls)) (map-append line_in ps qs)
    ∙ ap length (flat_map-append (λ (l : List ℕ). l) (lines_of ps) (lines_of qs)) ∙ length-append (text_of (lines_of ps)) (text_of (lines_of qs))

length-behind : (ps : List Piece) (p : Piece) → length (text_of (lines_of (ps ++ p ∷ []))) ≡ length (text_of (lines_of ps)) + length p.line
length-behind ps p = length-both ps (p ∷ []) ∙ ap (λ (t : List ℕ). length (text_of (lines_of ps)) + length t) (append-nil p.line)

-- ---- lines that fit, and lines that don't

abbrev IsLimit : {X : Type 0} → Result X Halt → Type 0
IsLimit (Err (halt.TooLarge what)) = Unit {0}
IsLimit _ = ⊥

abbrev IsFitting : {X : Type 0} → Result X Halt → Type 0
IsFitting (Ok x) = Unit {0}
IsFitting (Err h) = ⊥

abbrev halt_in : {X : Type 0} → Result X Halt → Halt
halt_in (Ok x) = halt.NoInput
halt_in (Err h) = h

module _ {X : Type 0} (ls : List (List ℕ)) (x : X) where
  pub small-is : is_large ls ≡ false → unless_large ls x ≡ Ok x
  small-is small = ap (λ b. cond b (Err (halt.TooLarge limit.Text)) (Ok x)) small

  pub large-is : is_large ls ≡ true → unless_large ls x ≡ Err (halt.TooLarge limit.Text)
  large-is large = ap (λ b. cond b (Err (halt.TooLarge limit.Text)) (Ok x)) large

  -- what is refused is too large, and nothing else is told of it
  pub refused-large : (h : Halt) → unless_large ls x ≡ Err h → is_large ls ≡ true
  refused-large h is = by_size (is_large ls) refl
    where
      by_size : (b : Bool) → is_large ls ≡ b → is_large ls ≡ true
      by_size true large = large
      by_size false small = absurd (subst IsFitting (sym (small-is small) ∙ is) tt)

  -- by the limit of the text
  pub refused-why : (h : Halt) → unless_large ls x ≡ Err h → h ≡ halt.TooLarge limit.Text
  refused-why h is = ap halt_in (sym is ∙ large-is (refused-large h is))

  pub not-fault : unless_large ls x ≡ Err halt.FileFault → ⊥
  not-fault is = absurd (subst IsLimit (sym (large-is (refused-large halt.FileFault is)) ∙ is) tt)

  -- what isn't refused is small
  pub accepted-small : (y : X) → unless_large ls x ≡ Ok y → is_large ls ≡ false
  accepted-small y is = by_size (is_large ls) refl
    where
      by_size : (b : Bool) → is_large ls ≡ b → is_large ls ≡ false
      by_size true large = absurd (subst IsFitting (sym is ∙ large-is large) tt)
      by_size false small = small

-- pieces, and the room that is left behind them
module _ (ps : List Piece) (room : ℕ) (so_far : room + length (text_of (lines_of ps)) ≡ max_text) where
  pub fits : fitting_pieces ps ≡ Ok ps
  fits = small-is (lines_of ps) ps (isnt_above max_text (length (text_of (lines_of ps))) (omega (arith, so_far)))

  -- a line that is longer than that
  pub too_long : (p : Piece) → room < length p.line → fitting_pieces (ps ++ p ∷ []) ≡ Err (halt.TooLarge limit.Text)
  too_long p more =
      let l = length-behind ps p in
      large-is (lines_of (ps ++ p ∷ [])) (ps ++ p ∷ []) (is_above max_text (length (text_of (lines_of (ps ++ p ∷ [])))) (omega (arith, so_far, l, more)))

  -- a line that isn't
  pub room-behind : (p : Piece) (left : ℕ) → left + length p.line ≡ room → left + length (text_of (lines_of (ps ++ p ∷ []))) ≡ max_text
  room-behind p left is = let l = length-behind ps p in omega (arith, so_far, l, is)

abbrev piece_list : Result (List Piece) Halt → List Piece
piece_list (Ok ps) = ps
piece_list (Err h) = []

-- what fits is answered as it is
pub fitting-same : (ps qs : List Piece) → fitting_pieces ps ≡ Ok qs → qs ≡ ps
fitting-same ps qs is = ap piece_list (sym is ∙ small-is (lines_of ps) ps (accepted-small (lines_of ps) ps qs is))

-- more lines have no fewer bytes
larger : (ps qs : List Piece) → is_large (lines_of ps) ≡ true → is_large (lines_of (ps ++ qs)) ≡ true
larger ps qs is =
    let lt = above-is max_text (length (text_of (lines_of ps))) is in
    let l = length-both ps qs in
    is_above max_text (length (text_of (lines_of (ps ++ qs)))) (omega (arith, lt, l))

-- where the first ones don't fit, all don't
pub fitting-front : (ps qs : List Piece) (h : Halt) → fitting_pieces ps ≡ Err h → fitting_pieces (ps ++ qs) ≡ Err h
fitting-front ps qs h is =
    let large = refused-large (lines_of ps) ps h is in
    large-is (lines_of (ps ++ qs)) (ps ++ qs) (larger ps qs large) ∙ sym (large-is (lines_of ps) ps large) ∙ is

-- ---- the pieces of a list, one after the other

module _ {X : Type 0} (piece : X → Piece) (xs : List X) where
  -- where the first ones don't fit behind others, all don't
  pub first_unfit : (n : ℕ) (ps : List Piece) (h : Halt) → fitting_pieces (ps ++ map piece (take n xs)) ≡ Err h → fitting_pieces (ps ++ map piece xs) ≡ Err h
  first_unfit n ps h is =
      let whole : (ps ++ map piece (take n xs)) ++ map piece (drop n xs) ≡ ps ++ map piece xs =
      append_assoc ps (map piece (take n xs)) (map piece (drop n xs))
      ∙ ap (λ (qs : List Piece). ps ++ qs) (sym (map-append piece (take n xs) (drop n xs)) ∙ ap (map piece) (take-append-drop n xs)) in
      ap fitting_pieces (sym whole) ∙ fitting-front (ps ++ map piece (take n xs)) (map piece (drop n xs)) h is

  -- behind those before it, one is one more
  pub pieces-behind : (i : ℕ) (x : X) (ps : List Piece) → x ≡ get_or xs i x → i < length xs →
      (ps ++ map piece (take i xs)) ++ piece x ∷ [] ≡ ps ++ map piece (take (i + 1) xs)
  pieces-behind i x ps is lt =
      append_assoc ps (map piece (take i xs)) (piece x ∷ [])
      ∙ ap (λ (qs : List Piece). ps ++ qs) (sym (map-append piece (take i xs) (x ∷ [])) ∙ ap (map piece) (sym ((take_at_read xs i x lt).1 ∙ ap (λ y. take i xs ++ y ∷ []) (sym is))))
