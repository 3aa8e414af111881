-- Equal texts, and the ends of texts.
use Rattle.std.proofs.Common.{◌≡◌, ℕ, ◌-◌, Bool, true, false, ◌&&◌, List, ◌++◌, length, take, drop, refl, sym, ap, ◌∙◌, true≢false, nat_eq, cond, None}
use Rattle.std.specs.Prelude.{◌≢◌}
use Rattle.std.specs.List.{ends_with}
use Rattle.std.specs.Str.{bytes_eq}
use Rattle.std.specs.Str.Pattern.{StripsSuffix, FindsTextSuffix}
use Rattle.std.proofs.lemmas.List.{take-append-drop, append_cancel_left}
use Rattle.std.proofs.lemmas.Slice.Eq.{bytes_eq-Decides}
use Rattle.dg_laws.proofs.Among.{Tells}
use Rattle.dg_build.specs.Paths.{without_ending}
use Rattle.dg_build.specs.Contents.{Content, same_content}

pub texts_tell : Tells bytes_eq
texts_tell = record {
  is = λ a b. (bytes_eq-Decides a b).0;
  itself = λ a. (bytes_eq-Decides a a).1 refl;
}

both : (a b : Bool) → (a && b) ≡ true → (a ≡ true) × (b ≡ true)
both true b e = (refl, e)
both false b e = absurd (true≢false (sym e))

abbrev content_with : List ℕ → List ℕ → Content
content_with kind body = record { kind = kind; body = body }

same_content-is : (a b : Content) → same_content a b ≡ true → a ≡ b
same_content-is a b e =
    let p = both (bytes_eq a.kind b.kind) (bytes_eq a.body b.body) e in
    ap (λ t. content_with t a.body) (texts_tell.is a.kind b.kind p.0) ∙ ap (content_with b.kind) (texts_tell.is a.body b.body p.1)

pub contents_tell : Tells same_content
contents_tell = record {
  is = same_content-is;
  itself = λ a. ap (λ b. b && bytes_eq a.body a.body) (texts_tell.itself a.kind) ∙ texts_tell.itself a.body;
}

-- a text that is something and then this ends in this
pub ends_found : (text end : List ℕ) (k : ℕ) → k ≡ length end → text ≡ take (length text - k) text ++ end → ends_with nat_eq text end ≡ true
ends_found text end k len is =
    let m = length text - k in
    let rest : drop m text ≡ end = append_cancel_left (take m text) (drop m text) end (take-append-drop m text ∙ is) in
    ap (λ n. bytes_eq end (drop (length text - n) text)) (sym len) ∙ ap (bytes_eq end) rest ∙ texts_tell.itself end

-- and a text that nothing and then this is doesn't
pub ends_lacking : (text end : List ℕ) → ((front : List ℕ) → text ≢ front ++ end) → ends_with nat_eq text end ≡ false
ends_lacking text end none = by_test (ends_with nat_eq text end) refl
  where
    m : ℕ
    m = length text - length end

    by_test : (b : Bool) → ends_with nat_eq text end ≡ b → b ≡ false
    by_test true e =
        absurd (none (take m text) (sym (take-append-drop m text) ∙ ap (λ r. take m text ++ r) (sym (texts_tell.is end (drop m text) e))))
    by_test false e = refl

-- what is left where a text ends in this, and where it doesn't
pub stripped : (text end rest : List ℕ) → StripsSuffix (FindsTextSuffix end) text rest → rest ≡ without_ending text end
stripped text end rest s =
    s.2 ∙ ap (λ n. take (length text - n) text) s.1.0
    ∙ sym (ap (λ b. cond b (take (length text - length end) text) text) (ends_found text end s.0 s.1.0 s.1.1))

pub as_it_is : (text end : List ℕ) → FindsTextSuffix end text None → text ≡ without_ending text end
as_it_is text end none = sym (ap (λ b. cond b (take (length text - length end) text) text) (ends_lacking text end none))
