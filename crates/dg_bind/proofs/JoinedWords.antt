-- Words that are joined by `@`, and the nodes that they stand for.
use Rattle.std.proofs.Common.{◌≡◌, ℕ, zero, suc, ◌+◌, ◌<◌, ◌≤◌, List, Option, Some, None, length, refl, ap, ◌∙◌, arith}
use Rattle.std.specs.Prelude.{codes}
use Rattle.dg_base.specs.declared.step.NodeRef.{NodeRef}
use Rattle.dg_text.specs.LastMark.{Split}
use Rattle.dg_text.proofs.LastMarks.{before_mark, before-within, before-shorter}
use Rattle.dg_bind.specs.Scope.{Scope, parts_of, name_ref, joined, half_ref, whole_or_half, node_ref_in, node_ref}

-- what stands before an `@` is shorter than the word
past-left : (word : List ℕ) → before_mark (parts_of word) ≤ length word
past-left word = before-within (codes "@") word

pub left-shorter : (word : List ℕ) (split : Split) → parts_of word ≡ Some split → length split.before < length word
left-shorter word split e = before-shorter (codes "@") word split e

-- so the length of a word is fuel enough
half-same : (s : Scope) (f g : List ℕ → Option NodeRef) (o : Option Split) → ((w : List ℕ) → length w + 1 ≤ before_mark o → f w ≡ g w) → half_ref s f o ≡ half_ref s g o
half-same s f g None h = refl
half-same s f g (Some split) h = ap (joined (name_ref s split.behind)) (h split.before (omega arith))

same_fuel : (s : Scope) (m n : ℕ) (word : List ℕ) → length word + 1 ≤ m → length word + 1 ≤ n → node_ref_in m s word ≡ node_ref_in n s word
same_fuel s zero n word a b = let nothing : ⊥ = omega (arith, a) in absurd nothing
same_fuel s (suc m) zero word a b = let nothing : ⊥ = omega (arith, b) in absurd nothing
same_fuel s (suc m) (suc n) word a b =
    ap (whole_or_half (name_ref s word))
    (half-same s (node_ref_in m s) (node_ref_in n s) (parts_of word)
    (λ w le. same_fuel s m n w (omega (arith, a, le, past-left word)) (omega (arith, b, le, past-left word))))

pub node_ref-is : (s : Scope) (word : List ℕ) → node_ref s word ≡ whole_or_half (name_ref s word) (half_ref s (node_ref s) (parts_of word))
node_ref-is s word =
    ap (whole_or_half (name_ref s word))
    (half-same s (node_ref_in (length word) s) (node_ref s) (parts_of word)
    (λ w le. same_fuel s (length word) (suc (length w)) w (omega (arith, le, past-left word)) (omega arith)))

pub whole : (s : Scope) (word : List ℕ) (r : NodeRef) → name_ref s word ≡ Some r → node_ref s word ≡ Some r
whole s word r is = node_ref-is s word ∙ ap (λ (o : Option NodeRef). whole_or_half o (half_ref s (node_ref s) (parts_of word))) is

half : (s : Scope) (word : List ℕ) (o : Option Split) → name_ref s word ≡ None → parts_of word ≡ o → node_ref s word ≡ half_ref s (node_ref s) o
half s word o none is =
    node_ref-is s word ∙ ap (λ (x : Option NodeRef). whole_or_half x (half_ref s (node_ref s) (parts_of word))) none
    ∙ ap (half_ref s (node_ref s)) is

pub nothing_there : (s : Scope) (word : List ℕ) → name_ref s word ≡ None → parts_of word ≡ None → node_ref s word ≡ None
nothing_there s word none is = half s word None none is

pub parts_there : (s : Scope) (word left : List ℕ) (mark : ℕ) (right : List ℕ) (root original : Option NodeRef) → name_ref s word ≡ None →
    parts_of word ≡ Some (record { before = left; mark = mark; behind = right }) →
    name_ref s right ≡ root → node_ref s left ≡ original → node_ref s word ≡ joined root original
parts_there s word left mark right root original none is one two =
    half s word (Some (record { before = left; mark = mark; behind = right })) none is
    ∙ ap (λ (o : Option NodeRef). joined o (node_ref s left)) one
    ∙ ap (joined root) two
