-- What a sink has got, piece by piece.
use Rattle.std.proofs.Common.{◌≡◌, ℕ, suc, ◌+◌, ◌-◌, ◌<◌, ◌≤◌, List, [], ◌∷◌, ◌++◌, length, take, drop, get_or, min, Option, Some, None, refl, sym, ap, ◌∙◌, subst, arith, append_assoc}
use Rattle.std.proofs.Math.Seq.{take-add, take-append-add, drop-cons}
use Rattle.std.proofs.lemmas.Grind.{take_at_read, flat_map-append}
use Rattle.std.proofs.lemmas.List.{take-append-drop, take-append-le, take_min, take_rest, append-nil, length-drop}
use Rattle.std.specs.Prelude.{Result, Ok, Err, OnErr}
use Rattle.std.specs.Option.{option_map}
use Rattle.dg_files.specs.Outcome.{StaysSound}
use Rattle.dg_deeds.specs.Printed.{text_of, GotAll, GotPrefix}

-- one text behind another
pub GotAll-append : (before between after : Option (List ℕ)) (xs ys : List ℕ) →
    GotAll before between xs → GotAll between after ys → GotAll before after (xs ++ ys)
GotAll-append None between after xs ys e f = f ∙ ap (option_map (λ bs. bs ++ ys)) e
GotAll-append (Some b) between after xs ys e f =
    f ∙ ap (option_map (λ bs. bs ++ ys)) e ∙ ap Some (append_assoc b xs ys)

GotAll-nothing : (before : Option (List ℕ)) → GotAll before before []
GotAll-nothing None = refl
GotAll-nothing (Some b) = ap Some (sym (append-nil b))

pub GotPrefix-nothing : (before now : Option (List ℕ)) (xs : List ℕ) → now ≡ before → GotPrefix before now xs
GotPrefix-nothing before now xs same = (0, same ∙ GotAll-nothing before)

-- a first part of a text is one of all that begins with the text
pub GotPrefix-front : (before now : Option (List ℕ)) (xs ys : List ℕ) → GotPrefix before now xs → GotPrefix before now (xs ++ ys)
GotPrefix-front before now xs ys p =
    let m = min p.0 (length xs) in
    let short : m ≤ length xs = omega arith in
    let part : take m (xs ++ ys) ≡ take p.0 xs = take-append-le m xs ys short ∙ take_min p.0 xs in
    (m, p.1 ∙ ap (λ t. option_map (λ bs. bs ++ t) before) (sym part))

-- a first part behind a whole text
pub GotPrefix-behind : (before between now : Option (List ℕ)) (xs ys : List ℕ) →
    GotAll before between xs → GotPrefix between now ys → GotPrefix before now (xs ++ ys)
GotPrefix-behind before between now xs ys e p = (
  length xs + p.0,
  GotAll-append before between now xs (take p.0 ys) e p.1
      ∙ ap (λ t. option_map (λ bs. bs ++ t) before) (sym (take-append-add xs ys p.0)),
)

pub text_of-append : (ls ms : List (List ℕ)) → text_of (ls ++ ms) ≡ text_of ls ++ text_of ms
text_of-append = flat_map-append (λ line. line)

-- the lines before the i-th, the i-th, and the others
pub text_of-split : (ls : List (List ℕ)) (i : ℕ) (line : List ℕ) → line ≡ get_or ls i line → i < length ls →
    text_of ls ≡ text_of (take i ls) ++ (line ++ text_of (drop (i + 1) ls))
text_of-split ls i line is lt =
    let next : i + 1 ≡ suc i = omega arith in
    let head : drop i ls ≡ line ∷ drop (i + 1) ls =
    drop-cons ls i line lt ∙ ap (λ l. l ∷ drop (suc i) ls) (sym is) ∙ ap (λ k. line ∷ drop k ls) (sym next) in
    ap text_of (sym (take-append-drop i ls) ∙ ap (λ ms. take i ls ++ ms) head) ∙ text_of-append (take i ls) (line ∷ drop (i + 1) ls)

pub text_of-take : (ls : List (List ℕ)) (i : ℕ) (line : List ℕ) → line ≡ get_or ls i line → i < length ls →
    text_of (take (i + 1) ls) ≡ text_of (take i ls) ++ line
text_of-take ls i line is lt =
    ap text_of ((take_at_read ls i line lt).1 ∙ ap (λ l. take i ls ++ l ∷ []) (sym is)) ∙ text_of-append (take i ls) (line ∷ [])
    ∙ ap (λ t. text_of (take i ls) ++ t) (append-nil line)

-- a first part of a line behind the lines before it is a first part of them all
pub GotPrefix-line : (before between after : Option (List ℕ)) (ls : List (List ℕ)) (i : ℕ) (line : List ℕ) → line ≡ get_or ls i line →
    i < length ls → GotAll before between (text_of (take i ls)) → GotPrefix between after line → GotPrefix before after (text_of ls)
GotPrefix-line before between after ls i line is lt e p =
    let front = text_of (take i ls) in
    let rest = text_of (drop (i + 1) ls) in
    subst (λ t. GotPrefix before after t) (sym (text_of-split ls i line is lt))
    (GotPrefix-behind before between after front (line ++ rest) e (GotPrefix-front between after line rest p))

pub put_step : (before between after : Option (List ℕ)) (xs : List ℕ) (i n : ℕ) → GotAll before between (take i xs) →
    GotAll between after (take n (take (length xs - i) (drop i xs))) → GotAll before after (take (i + n) xs)
put_step before between after xs i n e f =
    GotAll-append before between after (take i xs) (take n (take (length xs - i) (drop i xs))) e f
    ∙ ap (λ t. option_map (λ bs. bs ++ t) before) (ap (λ t. take i xs ++ take n t) (take_rest xs i) ∙ sym (take-add i n xs))

pub put_within : (xs : List ℕ) (i n : ℕ) → n ≤ length (take (length xs - i) (drop i xs)) → i ≤ length xs → i + n ≤ length xs
put_within xs i n le within = omega (arith, ap length (take_rest xs i), length-drop i xs)

pub OnErr-always : {T E P : Type 0} (r : Result T E) → P → OnErr r P
OnErr-always (Ok x) p = tt
OnErr-always (Err e) p = p

-- what never fails goes on so over two calls
pub stays_sound : {S : Type 0} (is_sound : S → Type 0) (faults : S → ℕ) (before between after : S) → StaysSound is_sound faults before between →
    StaysSound is_sound faults between after → StaysSound is_sound faults before after
stays_sound is_sound faults before between after a b sound = let first = a sound in let then = b first.0 in (then.0, then.1 ∙ first.1)
