-- Lists one after another.
use Rattle.std.proofs.Common.{◌≡◌, ℕ, ◌+◌, ◌-◌, ◌≤◌, List, [], ◌++◌, length, drop, arith, append_assoc, ◌∙◌, ap, sym}
use Rattle.std.proofs.lemmas.List.{append-nil}
use Rattle.std.proofs.Math.Seq.{drop-append-add}

-- three lists from two, where the last of the two is two
pub high_pair : {A : Type 0} (l m h l' m' h' all : List A) → l' ≡ l → m' ≡ m → h' ≡ m' ++ h → all ≡ l' ++ h' → all ≡ (l ++ m) ++ h
high_pair l m h l' m' h' all a b c d = let r = append_assoc l m h in cc

-- three lists from two, where the first of the two is two
pub low_pair : {A : Type 0} (l m h l' m' h' all : List A) → h' ≡ h → m' ≡ m → l' ≡ l ++ m' → all ≡ l' ++ h' → all ≡ l ++ (m ++ h)
low_pair l m h l' m' h' all a b c d = let r = append_assoc l m h in cc

-- four lists, the inner two together, from two pairs
pub two_pairs : {A : Type 0} (a b c d b' c' l h all : List A) → b' ≡ b → c' ≡ c → l ≡ a ++ b' → h ≡ c' ++ d → all ≡ l ++ h → all ≡ (a ++ (b ++ c)) ++ d
two_pairs a b c d b' c' l h all e f k m n =
    let r : (a ++ b) ++ (c ++ d) ≡ (a ++ (b ++ c)) ++ d = simp append_assoc in
    cc

-- a whole of two halves that are what they ought to be
pub beside : {A : Type 0} (whole low high low' high' all : List A) → whole ≡ low ++ high → low ≡ low' → high ≡ high' → all ≡ low' ++ high' → whole ≡ all
beside whole low high low' high' all a b c d = cc

-- a whole whose low half is gone
pub high_alone : {A : Type 0} (whole gone low high all : List A) → whole ≡ high → [] ≡ gone → gone ≡ low → all ≡ low ++ high → whole ≡ all
high_alone whole gone low high all a b c d = a ∙ ap (λ l. l ++ high) (b ∙ c) ∙ sym d

-- a whole whose high half is gone
pub low_alone : {A : Type 0} (whole gone low high all : List A) → whole ≡ low → [] ≡ gone → gone ≡ high → all ≡ low ++ high → whole ≡ all
low_alone whole gone low high all a b c d = a ∙ sym (append-nil low) ∙ ap (λ l. low ++ l) (b ∙ c) ∙ sym d

-- what follows a place in the second of two lists
pub drop-append-ge : {A : Type 0} (i n : ℕ) (xs ys : List A) → n ≡ length xs → n ≤ i → drop i (xs ++ ys) ≡ drop (i - n) ys
drop-append-ge i n xs ys e l =
    let at : i ≡ length xs + (i - n) = omega arith in
    ap (λ k. drop k (xs ++ ys)) at ∙ drop-append-add xs ys (i - n)
