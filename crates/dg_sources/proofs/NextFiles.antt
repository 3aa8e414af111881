-- Files that are read one after the other.
use Rattle.std.proofs.Common.{◌≡◌, ℕ, suc, ◌+◌, ◌<◌, List, ◌∷◌, Option, Some, None, Result, Ok, drop, length, slice_index_or, sym, ap, subst, ◌∙◌, add-one, drop-cons}
use Rattle.std.specs.Prelude.{IfSome}
use Rattle.dg_base.specs.Refusal.{and_then}
use Rattle.dg_files.specs.Tree.{Tree, bytes_at, got_of}
use Rattle.dg_files.specs.Outcome.{StaysSound}
use Rattle.dg_sources.specs.declared.limits.Large.{Large}
use Rattle.dg_sources.specs.declared.source.Sources.{Sources}
use Rattle.dg_sources.specs.declared.limits.TheConstants.{MAX_FILE}
use Rattle.dg_sources.specs.Project.{found_in, room_behind, with_file, next_file, with_files}

pub next-read : (tree : Option Tree) (room left : ℕ) (path text : List ℕ) (found : Option (List ℕ)) (s new : Sources) → text ≡ path →
    IfSome tree (λ t. found_in (got_of (bytes_at t text) MAX_FILE) ≡ Ok found) → room_behind room found ≡ Ok left → new ≡ with_file text found s →
    IfSome tree (λ t. next_file t room path s ≡ Ok (left, new))
next-read None room left path text found s new same told fits is = tt
next-read (Some t) room left path text found s new same told fits is =
    ap (λ (p : List ℕ). next_file t room p s) (sym same)
    ∙ ap (λ (r : Result (Option (List ℕ)) Large). and_then r (λ f. and_then (room_behind room f) (λ l. Ok (l, with_file text f s)))) told
    ∙ ap (λ (r : Result ℕ Large). and_then r (λ l. Ok (l, with_file text found s))) fits
    ∙ ap (λ (n : Sources). Ok (left, n)) (sym is)

pub next-told : (before now : Option Tree) (room left : ℕ) (paths : List (List ℕ)) (i : ℕ) (path : List ℕ) (s new : Sources) (whole : Tree → Result Sources Large) →
    now ≡ before → i < length paths → path ≡ slice_index_or paths i path → IfSome before (λ t. with_files t room (drop i paths) s ≡ whole t) →
    IfSome now (λ t. next_file t room path s ≡ Ok (left, new)) → IfSome before (λ t. with_files t left (drop (i + 1) paths) new ≡ whole t)
next-told None now room left paths i path s new whole e below is a b = tt
next-told (Some t) now room left paths i path s new whole e below is a b =
    let next : next_file t room path s ≡ Ok (left, new) = subst (λ (o : Option Tree). IfSome o (λ t. next_file t room path s ≡ Ok (left, new))) e b in
    let split : drop i paths ≡ path ∷ drop (i + 1) paths =
    drop-cons paths i path below ∙ ap (λ (z : List ℕ). z ∷ drop (suc i) paths) (sym is) ∙ ap (λ (j : ℕ). path ∷ drop j paths) (sym (add-one i)) in
    sym (ap (λ (r : Result (ℕ × Sources) Large). and_then r (λ n. with_files t n.0 (drop (i + 1) paths) n.1)) next)
    ∙ ap (λ (ps : List (List ℕ)). with_files t room ps s) (sym split)
    ∙ a

pub stays_sound : {S : Type 0} (is_sound : S → Type 0) (faults : S → ℕ) (before between after : S) → StaysSound is_sound faults before between →
    StaysSound is_sound faults between after → StaysSound is_sound faults before after
stays_sound is_sound faults before between after a b sound = let first = a sound in let then = b first.0 in (then.0, then.1 ∙ first.1)
