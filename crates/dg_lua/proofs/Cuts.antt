-- Where a text may be cut: at the end of a run, and behind a word.
use Rattle.std.proofs.Common.{◌≡◌, ℕ, zero, suc, ◌+◌, ◌<◌, ◌≤◌, Bool, true, false, List, length, get_or, drop, cond, Option, Some, None, arith, IsUtf8, sym, refl, subst, ap, ◌∙◌, MatchOption, option_map, Bor, ◌⊎◌, inl, inr}
use Rattle.std.proofs.lemmas.Str.{IsCharBoundary-start, IsCharBoundary-after_ascii}
use Rattle.std.proofs.lemmas.Str.Pattern.{starts_text}
use Rattle.std.proofs.lemmas.List.Sums.{prefix_len-le-length, prefix_len_passes, prefix_len_stops}
use Rattle.std.specs.Str.{IsCharBoundary}
use Rattle.std.specs.Str.Pattern.{FindsTextPrefix, StripsPrefix}
use Rattle.std.specs.List.{prefix_len}
use Rattle.dg_lua.specs.declared.parts.Run.{Run}
use Rattle.dg_lua.specs.declared.parts.Run.TheVariants as run
use Rattle.dg_lua.specs.Runs.{belongs}
use Rattle.dg_lua.specs.Parts.{behind}

-- ---- a word

pub stripped : (word text : List ℕ) (r : Option (Bor (List ℕ))) → MatchOption r (FindsTextPrefix word text None) (λ x. StripsPrefix (FindsTextPrefix word) text x.now)
    → option_map (λ t. t.now) r ≡ behind word text
stripped word text None lacks =
    ap (λ b. cond b (Some (drop (length word) text)) None) (starts_text false word text lacks)
stripped word text (Some x) strips =
    let begins = starts_text true word text (strips.0, strips.1, subst (IsCharBoundary text) (sym strips.1.0) strips.1.2) in
    ap Some (strips.2 ∙ ap (λ n. drop n text) strips.1.0) ∙ ap (λ b. cond b (Some (drop (length word) text)) None) begins

-- ---- a run

-- the bytes that pass are below 128, or the others are
abbrev IsCut : (ℕ → Bool) → Type 0
IsCut passes = ((b : ℕ) → passes b ≡ true → b < 128) ⊎ ((b : ℕ) → passes b ≡ false → b < 128)

cuts : (r : Run) → IsCut (belongs r)
cuts run.Blanks = inl (λ b h. grind (arith, h))
cuts run.Letters = inl (λ b h. grind (arith, h))
cuts run.Decimal = inl (λ b h. grind (arith, h))
cuts run.Double = inr (λ b h. grind (arith, h))
cuts run.Single = inr (λ b h. grind (arith, h))

behind_passing : (passes : ℕ → Bool) (text : List ℕ) → ((b : ℕ) → passes b ≡ true → b < 128) → IsUtf8 text
    → (n : ℕ) → n ≡ prefix_len passes text → n ≤ length text → IsCharBoundary text n
behind_passing passes text low u zero is le = IsCharBoundary-start text u
behind_passing passes text low u (suc m) is le =
    let at : m < prefix_len passes text = omega (arith, is) in
    let one : m + 1 ≡ suc m = omega arith in
    subst (IsCharBoundary text) one
    (IsCharBoundary-after_ascii text m u (omega arith) (low (get_or text m 0) (prefix_len_passes passes text m 0 at)))

before_failing : (passes : ℕ → Bool) (text : List ℕ) → ((b : ℕ) → passes b ≡ false → b < 128) → IsUtf8 text
    → (n : ℕ) → n ≡ prefix_len passes text → n ≤ length text → IsCharBoundary text n
before_failing passes text low u n is le = (
  le,
  λ within high.
      let fails : passes (get_or text n 0) ≡ false = rw is (prefix_len_stops passes text 0 (omega (arith, is, within))) in
      absurd (omega (arith, high, low (get_or text n 0) fails)),
)

by_cut : (passes : ℕ → Bool) (text : List ℕ) → IsUtf8 text → IsCut passes → IsCharBoundary text (prefix_len passes text)
by_cut passes text u (inl low) = behind_passing passes text low u (prefix_len passes text) refl (prefix_len-le-length passes text)
by_cut passes text u (inr low) = before_failing passes text low u (prefix_len passes text) refl (prefix_len-le-length passes text)

pub ends_run : (r : Run) (text : List ℕ) → IsUtf8 text → IsCharBoundary text (prefix_len (belongs r) text)
ends_run r text u = by_cut (belongs r) text u (cuts r)
